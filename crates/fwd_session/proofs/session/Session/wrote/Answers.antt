use Rattle.std.proofs.Common.{◌≡◌, ◌-◌, ◌++◌, length, length-drop, drop, min, arith, sym, ap, subst, ◌∙◌}
use Rattle.std.specs.Prelude.{map}
use Rattle.std.specs.List.{concat}
use Rattle.fwd_session.specs.Live.{LiveSession, sends_through}
use Rattle.fwd_session.specs.Flights.{loaded_of, unsent_after}
use Rattle.fwd_session.proofs.Gathering.{drop_both}
use Rattle.fwd_session.proofs.Unsent.{AreFull, concat_unsent, fewer_unsent, full_unsent}
use Rattle.fwd_session.proofs.Carrying.{loaded_sent}
use Rattle.fwd_session.proofs.session.Session.wrote.Goals as goal

pub invariant_of-self : goal.invariant_of-self
invariant_of-self c =
    let s = c.self.inside in
    let count = c.args.count - c.min-greeting.result in
    let left : c.advance-2.new.self ≡ unsent_after count s.frames = c.advance-2.ensures in
    record {
      backed = c.self.invariant.backed;
      greeted = λ e. left ∙ ap (unsent_after count) (c.self.invariant.greeted e);
      full = subst AreFull (sym left) (full_unsent count s.frames c.self.invariant.full);
      queued = omega (arith, ap length left, fewer_unsent count s.frames, c.self.invariant.queued);
      within = c.self.invariant.within;
      few = c.self.invariant.few;
      enough = c.self.invariant.enough;
    }

pub returns : goal.returns
returns c =
    let s = c.self.inside in
    let count = c.args.count in
    let first = c.min-greeting.result in
    let first_is : first ≡ min count (length s.greeting) = c.min-greeting.ensures ∙ ap (λ l. min count (length l)) c.as_slice.ensures in
    let waiting : c.advance.new.self ++ concat c.advance-2.new.self ≡ drop count c.args.self.now.waiting =
    (λ i. c.advance.ensures i ++ (ap concat c.advance-2.ensures ∙ concat_unsent (count - first) s.frames) i)
    ∙ drop_both s.greeting (concat s.frames) count first first_is
    ∙ ap (drop count) (ap (λ (v : LiveSession). v.waiting) c.self.view_is) in
    let carried : loaded_of (length c.advance.new.self) c.advance-2.new.self s.carried ≡ map (sends_through count) c.args.self.now.carried =
    (λ i. loaded_of ((ap length c.advance.ensures ∙ length-drop first s.greeting) i) (c.advance-2.ensures i) s.carried)
    ∙ ap (λ n. loaded_of (length s.greeting - n) (unsent_after (count - n) s.frames) s.carried) first_is
    ∙ sym (loaded_sent count (length s.greeting) s.frames s.carried c.self.invariant.full c.self.invariant.queued)
    ∙ ap (λ (v : LiveSession). map (sends_through count) v.carried) c.self.view_is in
    λ i. record (c.self.view_is i) { waiting = waiting i; carried = carried i }
