use Rattle.std.proofs.Common.{refl, sym, subst}
use Rattle.fwd_chunks.specs.Live.{live_flushes}
use Rattle.fwd_model.specs.declared.event.Event.TheVariants as event
use Rattle.fwd_model.specs.Names.{Output}
use Rattle.fwd_history.specs.Histories.{IsOf}
use Rattle.fwd_run.specs.Runs.{Relay, RunEvent, key_of, touches}
use Rattle.fwd_run.proofs.Acting.{flush_acts}
use Rattle.fwd_run.proofs.Adding.{one_part, output_adds}
use Rattle.fwd_run.proofs.output_page.OutputPage.flush.Goals as goal

pub add-requires : goal.add-requires
add-requires g c =
    let o = c.self.inside.output in
    let e : RunEvent = Relay (event.Flush o c.args.now c.args.kind) in
    (e, subst (λ k. IsOf touches k e) (sym c.self.invariant.0) (λ k. one_part k (key_of (Output o))), λ past went. (refl, refl))

pub returns : goal.returns
returns g c p at =
    let o = c.self.inside.output in
    output_adds o c.self.inside.page.0 c.self.inside.page.1 c.add.new.self.1 (Relay (event.Flush o c.args.now c.args.kind)) p (record p { buffer = live_flushes p.buffer c.args.now c.args.kind }) c.args.self.now c.self.invariant.0 c.self.view_is at c.add.ensures.added
    (λ r out. flush_acts r o p out c.args.now c.args.kind)
