use Rattle.std.proofs.Common.{arith, ◌≡◌, ◌+◌, ℕ, List, length, sum, drop, sym, ap, ◌∙◌}
use Rattle.std.proofs.lemmas.List.{take_rest, length-drop}
use Rattle.fwd_msgpack.specs.declared.scan_state.ScanState.{ScanState}
use Rattle.fwd_msgpack.specs.Scans.{Going, InHead}
use Rattle.fwd_msgpack.specs.Scanners.{Standing, onward}
use Rattle.fwd_msgpack.specs.ScanStates.{state_shown, in_item}
use Rattle.fwd_msgpack.proofs.Pieces.{stands}
use Rattle.fwd_msgpack.proofs.Torn.{head_stage, stays, torn_short, piece_scanned, some_bytes}
use Rattle.fwd_msgpack.proofs.scanner.Scanner.go_on.Goals as goal

pub returns-in_default : goal.returns-in_default
returns-in_default c =
    let s = c.self.inside in
    let some = some_bytes (length c.args.bytes.now) (sym c.if-is_empty.false ∙ c.is_empty.ensures) in
    let none = ap (λ (o : Standing). in_item o.state) c.self.view_is ∙ c.requires some in
    sym c.self.view_is
    ∙ stands s.limits _ _ (stays s.limits.bytes s.limits.depth s.used s.stack s.front s.stage c.args.bytes.now c.in_default.not-Head none)
    ∙ ap (λ (o : Standing). onward o c.args.bytes.now) c.self.view_is

pub keep-requires : goal.keep-requires
keep-requires c =
    let small = torn_short (drop c.in-InHead.at c.args.bytes.now) c.in-InHead.ensures.within.2 in
    rw (take_rest c.args.bytes.now c.in-InHead.at) (omega (arith, small))

pub returns-in-Whole : goal.returns-in-Whole
returns-in-Whole c =
    let s = c.self.inside in
    let is = head_stage s.limits.bytes s.used (sum s.stack) s.front s.stage c.in-Head.is c.self.invariant.1 in
    let some = some_bytes (length c.args.bytes.now) (sym c.if-is_empty.false ∙ c.is_empty.ensures) in
    piece_scanned s.limits s.used s.stack s.front c.args.bytes.now s.stage c.args.self.now _ c.in-Head.is c.self.view_is (c.requires some) (omega arith) c.in-Whole.ensures.state

pub returns-in-InHead : goal.returns-in-InHead
returns-in-InHead c =
    let s = c.self.inside in
    let bytes = c.args.bytes.now in
    let at = c.in-InHead.at in
    let stack = c.scan_items.new.stack in
    let is = head_stage s.limits.bytes s.used (sum s.stack) s.front s.stage c.in-Head.is c.self.invariant.1 in
    let some = some_bytes (length bytes) (sym c.if-is_empty.false ∙ c.is_empty.ensures) in
    let kept : c.keep.new.self ≡ drop at bytes = c.keep.ensures ∙ take_rest bytes at in
    let all : s.used + at + length (drop at bytes) ≡ s.used + length bytes = omega (arith, length-drop at bytes, c.in-InHead.ensures.within.0) in
    stands s.limits _ _ (ap (λ (st : ScanState). state_shown (s.used + at) stack c.keep.new.self st) c.in-Head.is
    ∙ ap (λ (xs : List ℕ). Going (s.used + at + length xs) stack (InHead xs)) kept
    ∙ ap (λ (n : ℕ). Going n stack (InHead (drop at bytes))) all)
    ∙ piece_scanned s.limits s.used s.stack s.front bytes s.stage c.args.self.now _ c.in-Head.is c.self.view_is (c.requires some) (omega arith) c.in-InHead.ensures.state

pub returns-in-InPayload : goal.returns-in-InPayload
returns-in-InPayload c =
    let s = c.self.inside in
    let is = head_stage s.limits.bytes s.used (sum s.stack) s.front s.stage c.in-Head.is c.self.invariant.1 in
    let some = some_bytes (length c.args.bytes.now) (sym c.if-is_empty.false ∙ c.is_empty.ensures) in
    piece_scanned s.limits s.used s.stack s.front c.args.bytes.now s.stage c.args.self.now _ c.in-Head.is c.self.view_is (c.requires some) (omega arith) c.in-InPayload.ensures.state

pub returns-in-Bad : goal.returns-in-Bad
returns-in-Bad c =
    let s = c.self.inside in
    let is = head_stage s.limits.bytes s.used (sum s.stack) s.front s.stage c.in-Head.is c.self.invariant.1 in
    let some = some_bytes (length c.args.bytes.now) (sym c.if-is_empty.false ∙ c.is_empty.ensures) in
    piece_scanned s.limits s.used s.stack s.front c.args.bytes.now s.stage c.args.self.now _ c.in-Head.is c.self.view_is (c.requires some) (omega arith) c.in-Bad.ensures.state
