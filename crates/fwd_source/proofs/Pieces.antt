-- However the bytes are cut, the same source is left.
use Rattle.std.proofs.Common.{◌≡◌, ℕ, ◌+◌, Bool, true, false, cond, List, [], ◌∷◌, ◌++◌, length, Option, Some, None, refl, sym, ap, ◌∙◌, arith}
use Rattle.std.specs.Prelude.{is_some}
use Rattle.std.specs.List.{concat}
use Rattle.std.proofs.lemmas.List.{append-nil, append_assoc, length-append}
use Rattle.fwd_source.specs.Judged.{Judged, judged_of, joined}
use Rattle.fwd_source.specs.History.{awaited_ping, told}
use Rattle.fwd_source.specs.declared.fault.SourceFault.{SourceFault}
use Rattle.fwd_source.specs.declared.piece.Piece.TheVariants as piece
use Rattle.fwd_source.specs.Live.{LiveSource, judged_piece, source_hears, live_piece_answer, live_piece_next, live_pieces_next}
use Rattle.fwd_source.proofs.Judging.{judged_of-append, judged_of-fails}
use Rattle.fwd_source.proofs.Following.{none_from, awaited_step}

module _ (s : LiveSource) (a b : List ℕ) where
  abbrev j : Judged
  j = judged_piece s a

  fails : is_some j.fault ≡ true → judged_piece s (a ++ b) ≡ j
  fails e =
      ap (judged_of s.setup.limits (awaited_ping s.setup s.awaits) (s.admitted + length s.waiting)) (sym (append_assoc s.rest a b))
      ∙ judged_of-fails s.setup.limits (awaited_ping s.setup s.awaits) (s.admitted + length s.waiting) (s.rest ++ a) b e

  goes_on : j.fault ≡ None
      → judged_piece s (a ++ b)
      ≡ joined j.requests j.pong
      (judged_of s.setup.limits (awaited_ping s.setup j.awaits)
      (s.admitted + length (s.waiting ++ j.requests)) (j.rest ++ b))
  goes_on e =
      let n = s.admitted + length s.waiting in
      let count : n + length j.requests ≡ s.admitted + length (s.waiting ++ j.requests) = omega (arith, length-append s.waiting j.requests) in
      ap (judged_of s.setup.limits (awaited_ping s.setup s.awaits) n) (sym (append_assoc s.rest a b))
      ∙ judged_of-append s.setup.limits (awaited_ping s.setup s.awaits) n (s.rest ++ a) b e
      ∙ (λ i. joined j.requests j.pong (judged_of s.setup.limits (awaited_step s.setup s.awaits n (s.rest ++ a) e i) (count i) (j.rest ++ b)))

  by_fault : (f : Bool) → is_some j.fault ≡ f
      → cond f (source_hears s a) (source_hears (source_hears s a) b) ≡ source_hears s (a ++ b)
  unfolding source_hears
  by_fault true e = λ i. record {
    setup = s.setup;
    awaits = (sym (fails e) i).awaits;
    rest = (sym (fails e) i).rest;
    waiting = s.waiting ++ (sym (fails e) i).requests;
    admitted = s.admitted;
    unsent = s.unsent ++ (sym (fails e) i).pong;
    shut = s.shut;
    closed = is_some (sym (fails e) i).fault;
  }
  by_fault false e =
      let whole = goes_on (none_from j.fault e) in
      let more = judged_of s.setup.limits (awaited_ping s.setup j.awaits) (s.admitted + length (s.waiting ++ j.requests)) (j.rest ++ b) in
      (λ i. record {
        setup = s.setup;
        awaits = more.awaits;
        rest = more.rest;
        waiting = append_assoc s.waiting j.requests more.requests i;
        admitted = s.admitted;
        unsent = append_assoc s.unsent j.pong more.pong i;
        shut = s.shut;
        closed = is_some more.fault;
      })
      ∙ (λ i. record {
        setup = s.setup;
        awaits = (sym whole i).awaits;
        rest = (sym whole i).rest;
        waiting = s.waiting ++ (sym whole i).requests;
        admitted = s.admitted;
        unsent = s.unsent ++ (sym whole i).pong;
        shut = s.shut;
        closed = is_some (sym whole i).fault;
      })

  hears_closed : (source_hears s a).closed ≡ is_some j.fault
  unfolding source_hears
  hears_closed = refl

  by_closed : (c : Bool) → s.closed ≡ c
      → live_piece_next (cond c s (source_hears s a)) b ≡ cond c s (source_hears s (a ++ b))
  by_closed true e = ap (λ c. cond c s (source_hears s b)) e
  by_closed false e = ap (λ c. cond c (source_hears s a) (source_hears (source_hears s a) b)) hears_closed ∙ by_fault (is_some j.fault) refl

  -- two pieces are as one
  pub piece_twice : live_piece_next (live_piece_next s a) b ≡ live_piece_next s (a ++ b)
  piece_twice = by_closed s.closed refl

-- any pieces are as one
pub pieces_are_one : (s : LiveSource) (bytes : List ℕ) (pieces : List (List ℕ))
    → live_pieces_next s (bytes ∷ pieces) ≡ live_piece_next s (concat (bytes ∷ pieces))
pieces_are_one s bytes [] = ap (live_piece_next s) (sym (append-nil bytes))
pieces_are_one s bytes (more ∷ pieces) = pieces_are_one (live_piece_next s bytes) more pieces ∙ piece_twice s bytes (concat (more ∷ pieces))

-- ---- once it is closed

told_fault : (o : Option SourceFault) (count : ℕ) (fault : SourceFault)
    → told o count ≡ piece.Fault fault → is_some o ≡ true
told_fault None count fault h = absurd cc
told_fault (Some f) count fault h = refl

pub fault_closes : (s : LiveSource) (bytes : List ℕ) (fault : SourceFault)
    → live_piece_answer s bytes ≡ piece.Fault fault
    → (live_piece_next s bytes).closed ≡ true
fault_closes s bytes fault e = by s.closed refl e
  where
    by : (b : Bool) → s.closed ≡ b
        → cond b piece.Closed
        (told (judged_piece s bytes).fault
        (length (s.waiting ++ (judged_piece s bytes).requests)))
        ≡ piece.Fault fault
        → (cond b s (source_hears s bytes)).closed ≡ true
    by true q h = q
    by false q h = hears_closed s bytes [] ∙ told_fault (judged_piece s bytes).fault (length (s.waiting ++ (judged_piece s bytes).requests)) fault h

pub closed_refuses : (s : LiveSource) (bytes : List ℕ) → s.closed ≡ true
    → live_piece_answer s bytes ≡ piece.Closed
closed_refuses s bytes e = ap (λ b. cond b piece.Closed (told (judged_piece s bytes).fault (length (s.waiting ++ (judged_piece s bytes).requests)))) e

pub closed_stays : (s : LiveSource) (bytes : List ℕ) → s.closed ≡ true
    → live_piece_next s bytes ≡ s
closed_stays s bytes e = ap (λ b. cond b s (source_hears s bytes)) e
