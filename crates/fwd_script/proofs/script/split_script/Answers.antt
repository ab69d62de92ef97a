use Rattle.std.proofs.Common.{inr, refl, arith, ◌≡◌, sym, ◌∙◌, true, false}
use Rattle.fwd_script.specs.Script.{is_rule}
use Rattle.fwd_script.proofs.ScriptLemmas.{IsSplit-more, IsSplit-parts, IsSplit-rule, IsSplit-end}
use Rattle.fwd_script.proofs.script.split_script.Goals as goal

pub returns-then-eq-clause-settings : goal.returns-then-eq-clause-settings
returns-then-eq-clause-settings c =
    let rule : is_rule c.in-Some.line.now ≡ true = rw (← c.as_slice.ensures) (sym c.eq.ensures ∙ c.if-eq.true) in
    (IsSplit-rule c.args.script.now c.loop-line.rest.now c.loop-line.lines_before c.in-Some.line.now c.in-Some.after.now c.loop-line.invariant (c.in-Some.ensures {u = tt}) rule).0

pub returns-then-eq-clause-events : goal.returns-then-eq-clause-events
returns-then-eq-clause-events c =
    let rule : is_rule c.in-Some.line.now ≡ true = rw (← c.as_slice.ensures) (sym c.eq.ensures ∙ c.if-eq.true) in
    (IsSplit-rule c.args.script.now c.loop-line.rest.now c.loop-line.lines_before c.in-Some.line.now c.in-Some.after.now c.loop-line.invariant (c.in-Some.ensures {u = tt}) rule).1

pub returns-then-eq-clause-before : goal.returns-then-eq-clause-before
returns-then-eq-clause-before c =
    let rule : is_rule c.in-Some.line.now ≡ true = rw (← c.as_slice.ensures) (sym c.eq.ensures ∙ c.if-eq.true) in
    (IsSplit-rule c.args.script.now c.loop-line.rest.now c.loop-line.lines_before c.in-Some.line.now c.in-Some.after.now c.loop-line.invariant (c.in-Some.ensures {u = tt}) rule).2

pub loop-line-preserved : goal.loop-line-preserved
loop-line-preserved c =
    let other : is_rule c.in-Some.line.now ≡ false = rw (← c.as_slice.ensures) (sym c.eq.ensures ∙ c.if-eq.false) in
    IsSplit-more c.args.script.now c.loop-line.rest.now c.loop-line.lines_before c.in-Some.line.now c.in-Some.after.now c.loop-line.invariant (c.in-Some.ensures {u = tt}) other

pub returns-clause-settings : goal.returns-clause-settings
returns-clause-settings c =
    (IsSplit-end c.args.script.now c.loop-line.lines_before c.loop-line.rest.now (c.in_default.ensures {u = tt}) c.loop-line.invariant).0

pub returns-clause-events : goal.returns-clause-events
returns-clause-events c =
    (IsSplit-end c.args.script.now c.loop-line.lines_before c.loop-line.rest.now (c.in_default.ensures {u = tt}) c.loop-line.invariant).1

pub returns-clause-before : goal.returns-clause-before
returns-clause-before c =
    (IsSplit-end c.args.script.now c.loop-line.lines_before c.loop-line.rest.now (c.in_default.ensures {u = tt}) c.loop-line.invariant).2

pub returns-clause-size : goal.returns-clause-size
returns-clause-size c =
    let fits = c.loop-line.invariant.fits in
    omega arith

pub returns-then-eq-clause-parts : goal.returns-then-eq-clause-parts
returns-then-eq-clause-parts c =
    let rule : is_rule c.in-Some.line.now ≡ true = rw (← c.as_slice.ensures) (sym c.eq.ensures ∙ c.if-eq.true) in
    IsSplit-parts c.args.script.now c.loop-line.rest.now c.loop-line.lines_before c.in-Some.line.now c.in-Some.after.now c.loop-line.invariant (c.in-Some.ensures {u = tt}) rule

pub returns-clause-parts : goal.returns-clause-parts
returns-clause-parts c = inr (inr refl, c.in_default.ensures {u = tt})
