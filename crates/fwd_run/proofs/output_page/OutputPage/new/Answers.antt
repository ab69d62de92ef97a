use Rattle.std.proofs.Common.{[], refl, sym, subst}
use Rattle.fwd_model.specs.Names.{Output}
use Rattle.fwd_history.specs.Histories.{IsOf}
use Rattle.fwd_run.specs.Runs.{Leave, RunEvent, key_of, touches}
use Rattle.fwd_run.proofs.Beginning.{output_begins}
use Rattle.fwd_run.proofs.output_page.OutputPage.new.Goals as goal

pub add_after-requires : goal.add_after-requires
add_after-requires g c =
    let e : RunEvent = Leave c.args.output [] in
    (e, subst (λ k. IsOf touches k e) (sym c.requires.page.0) (λ k. refl), λ past went comes. (tt, refl))

pub returns : goal.returns
returns g c =
    let b = c.requires.begun in
    output_begins c.args.output c.args.page.0 c.args.page.1 c.args.reached.now c.add_after.new.self.1 b.0 b.1 c.requires.page.0 c.requires.page.1 b.2 c.add_after.ensures.added
