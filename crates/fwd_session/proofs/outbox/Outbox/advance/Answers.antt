use Rattle.std.proofs.Common.{◌≡◌, ◌+◌, ◌-◌, length, arith, length-drop, sym, ap, ◌∙◌}
use Rattle.std.specs.List.{concat}
use Rattle.fwd_session.specs.Flights.{unsent_after}
use Rattle.fwd_session.proofs.Unsent.{concat_unsent, unsent_more, unsent_none}
use Rattle.fwd_session.proofs.outbox.Outbox.advance.Goals as goal

pub loop-rest-init : goal.loop-rest-init
loop-rest-init c =
    let old = c.args.self.now in
    let none : 0 ≡ c.args.count - c.args.count = omega arith in
    let whole : unsent_after 0 c.self.inside.frames.items ≡ c.self.inside.frames.items = unsent_none c.self.inside.frames.items c.self.invariant.0 in
    record {
      whole = omega arith;
      there = c.requires;
      passed = sym (ap (unsent_after 0) (sym c.self.view_is) ∙ whole ∙ c.self.view_is) ∙ ap (λ n. unsent_after n old) none;
    }

pub loop-rest-preserved : goal.loop-rest-preserved
loop-rest-preserved c =
    let old = c.args.self.now in
    let l = c.loop-rest in
    let n = c.step-rest.result in
    let bytes : length (concat c.step-rest.new.self) ≡ length (concat l.self) - n =
    ap (λ fs. length (concat fs)) c.step-rest.ensures.sent ∙ ap length (concat_unsent n l.self) ∙ length-drop n (concat l.self) in
    let all : c.args.count - l.rest + n ≡ c.args.count - (l.rest - n) = omega (arith, l.invariant.whole, c.step-rest.ensures.within) in
    record {
      whole = omega (arith, l.invariant.whole);
      there = omega (arith, l.invariant.there, bytes);
      passed = c.step-rest.ensures.sent ∙ ap (unsent_after n) l.invariant.passed ∙ unsent_more (c.args.count - l.rest) n old ∙ ap (λ m. unsent_after m old) all;
    }
