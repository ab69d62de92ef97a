use Rattle.std.proofs.Common.{◌≡◌, [], Some, refl, sym, subst}
use Rattle.fwd_model.specs.Names.{Output}
use Rattle.fwd_history.specs.Histories.{Comes, IsOf, Went}
use Rattle.fwd_run.specs.Pages.{EndedOutput}
use Rattle.fwd_run.specs.Runs.{Leave, RunEvent, key_of, output_at, touches}
use Rattle.fwd_run.proofs.Beginning.{output_rests}
use Rattle.fwd_run.proofs.ended_page.EndedPage.stays.Goals as goal

pub add_after-requires : goal.add_after-requires
add_after-requires g c =
    let v = c.self.inside in
    let e : RunEvent = Leave v.output [] in
    (e, subst (λ k. IsOf touches k e) (sym c.self.invariant) (λ k. refl), λ past went comes. (tt, refl))

pub returns : goal.returns
returns g c p at =
    let v = c.self.inside in
    let a = c.add_after.ensures.added in
    let reached = c.args.reached.now in
    let rests : (output_at v.page.1 v.output ≡ Some p) → Comes v.page.1 reached → output_at reached v.output ≡ Some p =
    λ at comes. output_rests v.output v.page.1 reached a.0 p at (subst (λ k. Went touches k v.page.1 a.0) c.self.invariant a.3) comes a.4 in
    subst (λ (x : EndedOutput). output_at x.past x.output ≡ Some p → Comes x.past reached → output_at reached x.output ≡ Some p)
    c.self.view_is rests at c.requires
