use Rattle.std.proofs.Common.{◌≡◌, ◌+◌, refl, sym, subst, ap, ◌∙◌}
use Rattle.fwd_match.specs.Patterns.{route}
use Rattle.fwd_source.specs.Live.{source_gives}
use Rattle.fwd_model.specs.declared.event.Event.TheVariants as event
use Rattle.fwd_model.specs.Names.{Connection, Output}
use Rattle.fwd_model.specs.Outputs.{output_enters}
use Rattle.fwd_history.specs.Histories.{IsOfBoth}
use Rattle.fwd_run.specs.Pages.{OutputKnown, SourceKnown}
use Rattle.fwd_run.specs.Runs.{Relay, RunEvent, key_of, touches}
use Rattle.fwd_run.proofs.Acting.{admit_acts}
use Rattle.fwd_run.proofs.Adding.{connection_apart, output_known, two_parts, admission_adds}
use Rattle.fwd_run.proofs.output_page.OutputPage.admit.Goals as goal

pub add_with-requires-clause-apart : goal.add_with-requires-clause-apart
add_with-requires-clause-apart g c e =
    connection_apart c.source.inside.id c.self.inside.output c.self.invariant.1 (sym c.source.invariant ∙ (e ∙ c.self.invariant.0))

pub add_with-requires-clause-event : goal.add_with-requires-clause-event
add_with-requires-clause-event g c =
    let o = c.self.inside.output in
    let v = c.source.inside in
    let e : RunEvent = Relay (event.Admit v.id o c.args.now) in
    (e, subst (λ k. IsOfBoth touches k c.self.inside.page.0 e) (sym c.source.invariant) (subst (λ k. IsOfBoth touches (key_of (Connection v.id)) k e) (sym c.self.invariant.0) (λ k. two_parts k (key_of (Connection v.id)) (key_of (Output o)))), λ past went gone. (refl, refl))

pub returns : goal.returns
returns g c p s q routes at has known first here room =
    let o = c.self.inside.output in
    let v = c.source.inside in
    let number : c.args.self.now.output ≡ o = sym (ap (λ (k : OutputKnown). k.output) c.self.view_is) in
    let id : v.id ≡ c.args.source.now.id = ap (λ (k : SourceKnown). k.id) c.source.view_is in
    let both =
    admission_adds v.id o v.page.0 c.self.inside.page.0 v.page.1 c.self.inside.page.1 c.add_with.new.self.1 (Relay (event.Admit v.id o c.args.now)) s (source_gives s) p (output_enters p (record { conn = v.id; request = s.admitted + 1 }) q c.args.now) routes c.args.source.now c.args.self.now c.source.invariant c.self.invariant.0 c.source.view_is c.self.view_is has at known c.add_with.ensures.added
    (λ r its out led. admit_acts r v.id s its o p out q c.args.now first (ap (λ l. route l q.tag) led ∙ (here ∙ ap Rattle.std.specs.Prelude.Some number)) room) in
    (ap (λ l. output_known o l) c.add_with.ensures.both ∙ (both.0 ∙ ap (λ n. record c.args.self.now { is = Rattle.std.specs.Prelude.Some (output_enters p (record { conn = n; request = s.admitted + 1 }) q c.args.now) }) id), both.1)
