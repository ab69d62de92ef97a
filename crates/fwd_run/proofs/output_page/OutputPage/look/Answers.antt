use Rattle.std.proofs.Common.{refl, sym, subst}
use Rattle.fwd_model.specs.declared.event.Event.TheVariants as event
use Rattle.fwd_model.specs.Names.{Output}
use Rattle.fwd_model.specs.Outputs.{output_looks}
use Rattle.fwd_history.specs.Histories.{IsOf}
use Rattle.fwd_run.specs.Runs.{Relay, RunEvent, key_of, touches}
use Rattle.fwd_run.proofs.Acting.{choose_acts}
use Rattle.fwd_run.proofs.Adding.{one_part, output_set_adds}
use Rattle.fwd_run.proofs.output_page.OutputPage.look.Goals as goal

pub add-requires : goal.add-requires
add-requires g c =
    let o = c.self.inside.output in
    let e : RunEvent = Relay (event.Choose o 0 c.args.now) in
    (e, subst (λ k. IsOf touches k e) (sym c.self.invariant.0) (λ k. one_part k (key_of (Output o))), λ past went. (refl, refl))

pub returns : goal.returns
returns g c p config at set some =
    let o = c.self.inside.output in
    output_set_adds o c.self.inside.page.0 c.self.inside.page.1 c.add.new.self.1 (Relay (event.Choose o 0 c.args.now)) p (output_looks p c.args.now) config c.args.self.now c.self.invariant.0 c.self.view_is at set some c.add.ensures.added
    (λ r out x his. choose_acts r o p out 0 x his c.args.now)
