use Rattle.std.proofs.Common.{arith, ◌+◌, ℕ, List, length, sum, take, sym, ap, subst, ◌∙◌}
use Rattle.fwd_msgpack.specs.declared.scan_state.ScanState.{ScanState}
use Rattle.fwd_msgpack.specs.Scanners.{Standing, onward}
use Rattle.fwd_msgpack.specs.ScanStates.{state_shown, IsScanState}
use Rattle.fwd_msgpack.proofs.Pieces.{stands, payload_cut, payload_over}
use Rattle.fwd_msgpack.proofs.Fronts.{scanned}
use Rattle.fwd_msgpack.proofs.Torn.{payload_stage}
use Rattle.fwd_msgpack.proofs.scanner.Scanner.finish_payload.Goals as goal

pub returns-then-piece-left-clause-state : goal.returns-then-piece-left-clause-state
returns-then-piece-left-clause-state c =
    let s = c.self.inside in
    let piece = c.args.piece.now in
    stands s.limits _ _ (payload_cut s.limits.bytes s.limits.depth s.used s.stack c.in-Payload.left piece (omega arith)
    ∙ ap (λ (st : ScanState). scanned s.limits.bytes s.limits.depth (state_shown s.used s.stack s.front st) (take (length piece) piece)) (sym c.in-Payload.is))
    ∙ ap (λ (o : Standing). onward o (take (length piece) piece)) c.self.view_is

pub invariant_of-self-2 : goal.invariant_of-self-2
invariant_of-self-2 c =
    let s = c.self.inside in
    let is = payload_stage s.limits.bytes s.used (sum s.stack) s.front s.stage c.in-Payload.left c.in-Payload.is c.self.invariant.1 in
    (c.self.invariant.0, subst (λ (f : List ℕ). IsScanState s.limits.bytes (s.used + c.in-Payload.left) (sum c.behind_value-self-inside.new.stack) f c.behind_value-self-inside.result) (sym is.2) (c.behind_value-self-inside.ensures.stage s.limits.bytes (s.used + c.in-Payload.left) (omega arith)))

pub returns-clause-state : goal.returns-clause-state
returns-clause-state c =
    let s = c.self.inside in
    let piece = c.args.piece.now in
    let left = c.in-Payload.left in
    let is = payload_stage s.limits.bytes s.used (sum s.stack) s.front s.stage left c.in-Payload.is c.self.invariant.1 in
    stands s.limits _ _ (ap (λ (f : List ℕ). state_shown (s.used + left) c.behind_value-self-inside.new.stack f c.behind_value-self-inside.result) is.2
    ∙ c.behind_value-self-inside.ensures.state (s.used + left)
    ∙ payload_over s.limits.bytes s.limits.depth s.used s.stack left piece is.0 (omega arith)
    ∙ ap (λ (st : ScanState). scanned s.limits.bytes s.limits.depth (state_shown s.used s.stack s.front st) (take left piece)) (sym c.in-Payload.is))
    ∙ ap (λ (o : Standing). onward o (take left piece)) c.self.view_is
