use Rattle.std.proofs.Common.{[], ◌∷◌, map, refl, sym, subst}
use Rattle.fwd_book.specs.Receipts.{Receipt}
use Rattle.fwd_book.specs.Live.{live_leaves}
use Rattle.fwd_model.specs.Names.{Output}
use Rattle.fwd_history.specs.Histories.{IsOf}
use Rattle.fwd_run.specs.Runs.{Leave, RunEvent, key_of, touches}
use Rattle.fwd_run.proofs.Acting.{leave_acts}
use Rattle.fwd_run.proofs.Adding.{output_adds}
use Rattle.fwd_run.proofs.output_page.OutputPage.left.Goals as goal

pub add-requires : goal.add-requires
add-requires g c =
    let e : RunEvent = Leave c.self.inside.output (c.args.origin ∷ []) in
    (e, subst (λ k. IsOf touches k e) (sym c.self.invariant.0) (λ k. refl), λ past went. (tt, refl))

pub returns : goal.returns
returns g c p at =
    let o = c.self.inside.output in
    output_adds o c.self.inside.page.0 c.self.inside.page.1 c.add.new.self.1 (Leave o (c.args.origin ∷ [])) p (record p { book = live_leaves p.book (c.args.origin ∷ []) }) c.args.self.now c.self.invariant.0 c.self.view_is at c.add.ensures.added
    (λ r out. leave_acts r o p out (c.args.origin ∷ []))
