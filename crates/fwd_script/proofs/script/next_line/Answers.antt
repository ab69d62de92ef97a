use Rattle.std.proofs.Common.{◌≡◌, ◌==◌, ◌+◌, false, List, ℕ, arith}
use Rattle.std.specs.List.{list_any}
use Rattle.std.proofs.lemmas.List.{take_all, take_rest}
use Rattle.std.proofs.lemmas.Bool.Decides.{nat_tests}
use Rattle.fwd_script.proofs.ScriptLemmas.{first_line-at, first_line-last}
use Rattle.fwd_script.proofs.script.next_line.Goals as goal

pub returns-then-byte-eq10 : goal.returns-then-byte-eq10
returns-then-byte-eq10 c =
    let text : List ℕ = c.args.text.now in
    let index : ℕ = c.loop-index.index in
    rw (take_rest text (index + 1)) (first_line-at text index c.loop-index-test.true c.if-byte-eq10.true c.loop-index.invariant)

pub returns : goal.returns
returns c =
    let text : List ℕ = c.args.text.now in
    let one : list_any (λ b. b == 10) text ≡ false = rw (take_all c.loop-index.index text c.loop-index-test.false) at c.loop-index.invariant in
    first_line-last text one (grind (arith, nat_tests))
