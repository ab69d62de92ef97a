-- The live part of a connection follows its history.
use Rattle.std.proofs.Common.{◌≡◌, ℕ, zero, suc, ◌+◌, ◌≤◌, Bool, true, false, cond, List, [], ◌∷◌, ◌++◌, length, drop, Option, Some, None, refl, sym, ap, ◌∙◌, add-one, zero-add, arith}
use Rattle.std.specs.Prelude.{is_some, ◌||◌}
use Rattle.std.proofs.lemmas.List.{length-append, length-drop, drop-append-le}
use Rattle.fwd_modes.specs.Requests.{Request}
use Rattle.fwd_source.specs.declared.piece.Piece.TheVariants as piece
use Rattle.fwd_source.specs.Judged.{judged_of, joined}
use Rattle.fwd_source.specs.History.{Setup, awaited_ping, is_guarded, opening_text, SourceHistory, IsSane, opened, judged, is_closed, waiting, unsent, has_heard, new_pong, hears, piece_next, told, piece_answer, gives, appends, drains, shuts}
use Rattle.fwd_source.specs.Live.{opened_source, live_source, judged_piece, source_hears, live_piece_next, live_piece_answer, tail_of, source_gives, source_appends, source_drains, source_shuts}
use Rattle.fwd_source.proofs.Judging.{awaited_behind, judged_of-append, judged_of-open, judged_of-nothing}

pub none_from : {A : Type 0} (o : Option A) → is_some o ≡ false → o ≡ None
none_from None h = refl
none_from (Some x) h = absurd cc

or_false : (a b : Bool) → (a || b) ≡ false → (a ≡ false) × (b ≡ false)
or_false true b h = absurd cc
or_false false b h = (refl, h)

-- ---- the PING that is awaited

pub awaited_step : (setup : Setup) (awaits : Bool) (n : ℕ) (bytes : List ℕ)
    → (judged_of setup.limits (awaited_ping setup awaits) n bytes).fault ≡ None
    → awaited_behind (awaited_ping setup awaits)
    (judged_of setup.limits (awaited_ping setup awaits) n bytes).awaits
    ≡ awaited_ping setup (judged_of setup.limits (awaited_ping setup awaits) n bytes).awaits
awaited_step setup true n bytes e = by (judged_of setup.limits (awaited_ping setup true) n bytes).awaits
  where
    by : (b : Bool) → awaited_behind (awaited_ping setup true) b ≡ awaited_ping setup b
    by true = refl
    by false = refl
awaited_step setup false n bytes e = ap (awaited_behind None) (judged_of-open setup.limits n bytes e) ∙ ap (awaited_ping setup) (sym (judged_of-open setup.limits n bytes e))

-- ---- the opening

-- what is judged of no bytes, whether or not a PING is awaited
awaited_is : (setup : Setup) (b : Bool) → is_some (awaited_ping setup b) ≡ b
awaited_is setup true = refl
awaited_is setup false = refl

pub opened-live : (setup : Setup) → live_source (opened setup) ≡ opened_source setup
unfolding live_source
opened-live setup =
    let none = judged_of-nothing setup.limits (awaited_ping setup (is_guarded setup)) 0 in
    (λ i. record { setup = setup; awaits = (none i).awaits; rest = (none i).rest; waiting = (none i).requests; admitted = 0; unsent = opening_text setup; shut = false; closed = is_some (none i).fault })
    ∙ (λ i. record { setup = setup; awaits = awaited_is setup (is_guarded setup) i; rest = []; waiting = []; admitted = 0; unsent = opening_text setup; shut = false; closed = false })

pub opened-sane : (setup : Setup) → IsSane (opened setup)
opened-sane setup = record { admits = omega arith; drains = omega arith }

-- ---- a piece

pub record IsHeard (s : SourceHistory) (bytes : List ℕ) : Type 0 where
  pub still : s.shut ≡ false
  pub all : judged (has_heard s bytes)
      ≡ joined (judged s).requests (judged s).pong (judged_piece (live_source s) bytes)
  pub waits : waiting (hears s bytes)
      ≡ (live_source s).waiting ++ (judged_piece (live_source s) bytes).requests
  pub pong : new_pong s bytes ≡ (judged_piece (live_source s) bytes).pong

drop_front : (xs ys : List ℕ) → drop (length xs) (xs ++ ys) ≡ ys
drop_front [] ys = refl
drop_front (x ∷ xs) ys = drop_front xs ys

pub heard : (s : SourceHistory) (bytes : List ℕ) → IsSane s → is_closed s ≡ false
    → IsHeard s bytes
unfolding live_source
heard s bytes sane not_closed =
    let parts = or_false s.shut (is_some (judged s).fault) not_closed in
    let good = none_from (judged s).fault parts.1 in
    let awaited = awaited_ping s.setup (is_guarded s.setup) in
    let waits : waiting s ≡ drop s.admitted (judged s).requests = ap (λ b. cond b [] (drop s.admitted (judged s).requests)) parts.0 in
    let count : 0 + length (judged s).requests ≡ s.admitted + length (waiting s) = rw waits (omega (arith, sane.admits, length-drop s.admitted (judged s).requests)) in
    let rests : cond s.shut [] (judged s).rest ≡ (judged s).rest = ap (λ b. cond b [] (judged s).rest) parts.0 in
    let awaits : cond s.shut false (judged s).awaits ≡ (judged s).awaits = ap (λ b. cond b false (judged s).awaits) parts.0 in
    let next : awaited_behind awaited (judged s).awaits ≡ awaited_ping s.setup (cond s.shut false (judged s).awaits) = awaited_step s.setup (is_guarded s.setup) 0 s.heard good ∙ ap (awaited_ping s.setup) (sym awaits) in
    let piece = judged_of s.setup.limits (awaited_ping s.setup (cond s.shut false (judged s).awaits)) (s.admitted + length (waiting s)) (cond s.shut [] (judged s).rest ++ bytes) in
    let all : judged (has_heard s bytes) ≡ joined (judged s).requests (judged s).pong piece =
    judged_of-append s.setup.limits awaited 0 s.heard bytes good
    ∙ (λ i. joined (judged s).requests (judged s).pong (judged_of s.setup.limits (next i) (count i) (sym rests i ++ bytes))) in
    let then : waiting (hears s bytes) ≡ waiting s ++ piece.requests =
    ap (λ b. cond b [] (drop s.admitted (judged (has_heard s bytes)).requests)) parts.0 ∙ ap (λ j. drop s.admitted j.requests) all
    ∙ drop-append-le s.admitted (judged s).requests piece.requests sane.admits ∙ ap (λ xs. xs ++ piece.requests) (sym waits) in
    record {
      still = parts.0;
      all = all;
      waits = then;
      pong = ap (λ j. drop (length (judged s).pong) j.pong) all ∙ drop_front (judged s).pong piece.pong;
    }

pub hears-live : (s : SourceHistory) (bytes : List ℕ) → IsSane s → is_closed s ≡ false
    → live_source (hears s bytes) ≡ source_hears (live_source s) bytes
unfolding live_source source_hears
hears-live s bytes sane e =
    let h = heard s bytes sane e in
    let piece = judged_piece (live_source s) bytes in
    let sends : cond s.shut [] (drop s.drained (s.appended ++ new_pong s bytes)) ≡ cond s.shut [] (drop s.drained s.appended) ++ piece.pong =
    ap (λ b. cond b [] (drop s.drained (s.appended ++ new_pong s bytes))) h.still ∙ ap (λ p. drop s.drained (s.appended ++ p)) h.pong
    ∙ drop-append-le s.drained s.appended piece.pong sane.drains ∙ ap (λ b. cond b [] (drop s.drained s.appended) ++ piece.pong) (sym h.still) in
    λ i. record {
      setup = s.setup;
      awaits = cond (h.still i) false (h.all i).awaits;
      rest = cond (h.still i) [] (h.all i).rest;
      waiting = h.waits i;
      admitted = s.admitted;
      unsent = sends i;
      shut = s.shut;
      closed = h.still i || is_some (h.all i).fault;
    }

pub hears-sane : (s : SourceHistory) (bytes : List ℕ) → IsSane s → is_closed s ≡ false
    → IsSane (hears s bytes)
hears-sane s bytes sane e =
    let h = heard s bytes sane e in
    let longer : length (judged (has_heard s bytes)).requests ≡ length (judged s).requests + length (judged_piece (live_source s) bytes).requests =
    ap (λ j. length j.requests) h.all ∙ length-append (judged s).requests (judged_piece (live_source s) bytes).requests in
    record { admits = omega (arith, longer, sane.admits); drains = omega (arith, length-append s.appended (new_pong s bytes), sane.drains) }

-- the same of a piece that may come too late
pub piece-live : (s : SourceHistory) (bytes : List ℕ) → IsSane s
    → live_source (piece_next s bytes) ≡ live_piece_next (live_source s) bytes
unfolding live_source
piece-live s bytes sane = by (is_closed s) refl
  where
    by : (b : Bool) → is_closed s ≡ b
        → live_source (cond b s (hears s bytes))
        ≡ cond b (live_source s) (source_hears (live_source s) bytes)
    by true e = refl
    by false e = hears-live s bytes sane e

pub answer-live : (s : SourceHistory) (bytes : List ℕ) → IsSane s
    → piece_answer s bytes ≡ live_piece_answer (live_source s) bytes
unfolding live_source
answer-live s bytes sane = by (is_closed s) refl
  where
    by : (b : Bool) → is_closed s ≡ b
        → cond b piece.Closed
        (told (judged (hears s bytes)).fault (length (waiting (hears s bytes))))
        ≡ cond b piece.Closed
        (told (judged_piece (live_source s) bytes).fault
        (length ((live_source s).waiting ++ (judged_piece (live_source s) bytes).requests)))
    by true e = refl
    by false e = let h = heard s bytes sane e in λ i. told (h.all i).fault (length (h.waits i))

pub pong-live : (s : SourceHistory) (bytes : List ℕ) → IsSane s → is_closed s ≡ false
    → new_pong s bytes ≡ (judged_piece (live_source s) bytes).pong
pong-live s bytes sane e = (heard s bytes sane e).pong

pub piece-sane : (s : SourceHistory) (bytes : List ℕ) → IsSane s → IsSane (piece_next s bytes)
piece-sane s bytes sane = by (is_closed s) refl
  where
    by : (b : Bool) → is_closed s ≡ b → IsSane (cond b s (hears s bytes))
    by true e = sane
    by false e = hears-sane s bytes sane e

-- ---- the other calls

tail_of-drop : (n : ℕ) (xs : List Request) → tail_of (drop n xs) ≡ drop (n + 1) xs
tail_of-drop n xs = at n xs ∙ ap (λ k. drop k xs) (sym (add-one n))
  where
    at : (n : ℕ) (xs : List Request) → tail_of (drop n xs) ≡ drop (suc n) xs
    at zero [] = refl
    at zero (x ∷ xs) = refl
    at (suc n) [] = refl
    at (suc n) (x ∷ xs) = at n xs

pub gives-live : (s : SourceHistory) → live_source (gives s) ≡ source_gives (live_source s)
unfolding live_source
gives-live s = λ i. record {
  setup = s.setup;
  awaits = cond s.shut false (judged s).awaits;
  rest = cond s.shut [] (judged s).rest;
  waiting = at s.shut i;
  admitted = s.admitted + 1;
  unsent = unsent s;
  shut = s.shut;
  closed = is_closed s;
}
  where
    at : (b : Bool)
        → cond b [] (drop (s.admitted + 1) (judged s).requests)
        ≡ tail_of (cond b [] (drop s.admitted (judged s).requests))
    at true = refl
    at false = sym (tail_of-drop s.admitted (judged s).requests)

pub gives-sane : (s : SourceHistory) (r : Request) (rs : List Request) → IsSane s
    → waiting s ≡ r ∷ rs → IsSane (gives s)
gives-sane s r rs sane e = record { admits = at s.shut e; drains = sane.drains }
  where
    at : (b : Bool) → cond b [] (drop s.admitted (judged s).requests) ≡ r ∷ rs
        → s.admitted + 1 ≤ length (judged s).requests
    at true h = absurd cc
    at false h =
        let n : length (drop s.admitted (judged s).requests) ≡ suc (length rs) = ap length h in
        omega (arith, n, length-drop s.admitted (judged s).requests)

pub appends-live : (s : SourceHistory) (bytes : List ℕ) → IsSane s → s.shut ≡ false
    → live_source (appends s bytes) ≡ source_appends (live_source s) bytes
unfolding live_source
appends-live s bytes sane e = λ i. record {
  setup = s.setup;
  awaits = cond s.shut false (judged s).awaits;
  rest = cond s.shut [] (judged s).rest;
  waiting = waiting s;
  admitted = s.admitted;
  unsent = at s.shut e i;
  shut = s.shut;
  closed = is_closed s;
}
  where
    at : (b : Bool) → b ≡ false
        → cond b [] (drop s.drained (s.appended ++ bytes))
        ≡ cond b [] (drop s.drained s.appended) ++ bytes
    at true h = absurd cc
    at false h = drop-append-le s.drained s.appended bytes sane.drains

pub appends-sane : (s : SourceHistory) (bytes : List ℕ) → IsSane s → IsSane (appends s bytes)
appends-sane s bytes sane = record { admits = sane.admits; drains = omega (arith, length-append s.appended bytes, sane.drains) }

nothing_left : (m : ℕ) → drop {A = ℕ} m [] ≡ []
nothing_left zero = refl
nothing_left (suc m) = refl

drop_twice : (n m : ℕ) (xs : List ℕ) → drop (n + m) xs ≡ drop m (drop n xs)
drop_twice zero m xs = ap (λ k. drop k xs) (zero-add m)
drop_twice (suc n) m [] = nothing_left (suc n + m) ∙ sym (nothing_left m)
drop_twice (suc n) m (x ∷ xs) = ap (λ k. drop k (x ∷ xs)) (suc-plus n m) ∙ drop_twice n m xs
  where
    suc-plus : (n m : ℕ) → suc n + m ≡ suc (n + m)
    suc-plus n m = omega arith

pub drains-live : (s : SourceHistory) (count : ℕ)
    → live_source (drains s count) ≡ source_drains (live_source s) count
unfolding live_source
drains-live s count = λ i. record {
  setup = s.setup;
  awaits = cond s.shut false (judged s).awaits;
  rest = cond s.shut [] (judged s).rest;
  waiting = waiting s;
  admitted = s.admitted;
  unsent = at s.shut i;
  shut = s.shut;
  closed = is_closed s;
}
  where
    at : (b : Bool)
        → cond b [] (drop (s.drained + count) s.appended)
        ≡ drop count (cond b [] (drop s.drained s.appended))
    at true = sym (nothing_left count)
    at false = drop_twice s.drained count s.appended

pub drains-sane : (s : SourceHistory) (count : ℕ) → IsSane s → s.shut ≡ false
    → count ≤ length (unsent s) → IsSane (drains s count)
drains-sane s count sane e le = record { admits = sane.admits; drains = at s.shut e le }
  where
    at : (b : Bool) → b ≡ false → count ≤ length (cond b [] (drop s.drained s.appended))
        → s.drained + count ≤ length s.appended
    at true f h = absurd cc
    at false f h = omega (arith, h, length-drop s.drained s.appended, sane.drains)

pub shuts-live : (s : SourceHistory) → live_source (shuts s) ≡ source_shuts (live_source s)
unfolding live_source
shuts-live s = refl

pub shuts-sane : (s : SourceHistory) → IsSane s → IsSane (shuts s)
shuts-sane s sane = record { admits = sane.admits; drains = sane.drains }
