-- A piece whose first value, or the unfinished one that it goes on with, is at fault.
use Rattle.std.proofs.Common.{◌≡◌, ℕ, ◌+◌, true, false, cond, List, [], ◌++◌, length, Some, None, refl, sym, ap, ◌∙◌}
use Rattle.std.specs.Prelude.{is_some}
use Rattle.std.proofs.lemmas.List.{append-nil}
use Rattle.fwd_msgpack.specs.declared.fault.ScanFault.{ScanFault}
use Rattle.fwd_msgpack.specs.declared.limits.Limits.{Limits}
use Rattle.fwd_msgpack.specs.declared.scanner.Fed.{Fed}
use Rattle.fwd_msgpack.specs.declared.scanner.Fed.TheVariants as feds
use Rattle.fwd_msgpack.specs.Scanners.{heard}
use Rattle.fwd_msgpack.specs.Scans.{Verdict, Whole, Short, Bad, first_of}
use Rattle.fwd_source.specs.declared.fault.SourceFault.TheVariants.{Scan}
use Rattle.fwd_source.specs.declared.piece.Piece.TheVariants as piece
use Rattle.fwd_source.specs.Judged.{Judged, failed}
use Rattle.fwd_source.specs.Hearing.{fault_in}
use Rattle.fwd_source.specs.History.{awaited_ping, told}
use Rattle.fwd_source.specs.Live.{LiveSource, judged_piece, source_hears, live_piece_next, live_piece_answer, live_piece_out}
use Rattle.fwd_source.proofs.Judging.{judged_of-bad}

-- an answer that is no fault has none
pub no_fault : (n : ℕ) (fed : Fed) → ((fault : ScanFault) → fed ≡ feds.Bad fault → ⊥)
    → None ≡ fault_in (heard n fed)
no_fault n feds.More none = refl
no_fault n (feds.End used) none = refl
no_fault n (feds.Bad fault) none = absurd (none fault refl)

-- a source with these limits and this rest, closed
abbrev pub closes : LiveSource → Limits → List ℕ → LiveSource
closes s limits rest = record s {
  setup = record s.setup { limits = limits };
  awaits = false;
  rest = rest;
  closed = true;
}

is_bad : (v : Verdict) (fault : ScanFault) → fault_in v ≡ Some fault → v ≡ Bad fault
is_bad (Whole n) fault e = absurd cc
is_bad Short fault e = absurd cc
is_bad (Bad other) fault e = cc

module _ (s : LiveSource) (bytes : List ℕ) (fault : ScanFault) (unclosed : s.closed ≡ false)
    (faulty : fault_in (first_of s.setup.limits.bytes s.setup.limits.depth (s.rest ++ bytes)) ≡ Some fault) where
  said : judged_piece s bytes ≡ failed (Scan fault)
  said = judged_of-bad s.setup.limits (awaited_ping s.setup s.awaits) (s.admitted + length s.waiting) (s.rest ++ bytes) fault (is_bad (first_of s.setup.limits.bytes s.setup.limits.depth (s.rest ++ bytes)) fault faulty)

  pub faulty_answer : live_piece_answer s bytes ≡ piece.Fault (Scan fault)
  faulty_answer =
      ap (λ b. cond b piece.Closed (told (judged_piece s bytes).fault (length (s.waiting ++ (judged_piece s bytes).requests)))) unclosed
      ∙ ap (λ (j : Judged). told j.fault (length (s.waiting ++ j.requests))) said

  pub faulty_out : live_piece_out s bytes ≡ []
  faulty_out =
      ap (λ b. cond b [] (judged_piece s bytes).pong) unclosed ∙ ap (λ (j : Judged). j.pong) said

  pub faulty_next : live_piece_next s bytes ≡ record s { awaits = false; rest = []; closed = true }
  unfolding source_hears
  faulty_next =
      ap (λ b. cond b s (source_hears s bytes)) unclosed
      ∙ ap (λ (j : Judged). record s { awaits = j.awaits; rest = j.rest; waiting = s.waiting ++ j.requests; unsent = s.unsent ++ j.pong; closed = is_some j.fault }) said
      ∙ (λ i. record s { awaits = false; rest = []; waiting = append-nil s.waiting i; unsent = append-nil s.unsent i; closed = true })

  pub faulty_left : (limits : Limits) (rest : List ℕ) → limits ≡ s.setup.limits → rest ≡ []
      → closes s limits rest ≡ live_piece_next s bytes
  faulty_left limits rest same none = (λ i. closes s (same i) (none i)) ∙ sym faulty_next
