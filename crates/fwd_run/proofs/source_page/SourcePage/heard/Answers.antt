use Rattle.std.proofs.Common.{refl, sym, subst}
use Rattle.fwd_source.specs.Live.{live_piece_next}
use Rattle.fwd_model.specs.declared.event.Event.TheVariants as event
use Rattle.fwd_model.specs.Names.{Connection}
use Rattle.fwd_history.specs.Histories.{IsOf}
use Rattle.fwd_run.specs.Runs.{Relay, RunEvent, key_of, touches}
use Rattle.fwd_run.proofs.Acting.{piece_comes}
use Rattle.fwd_run.proofs.Adding.{one_part, source_adds}
use Rattle.fwd_run.proofs.source_page.SourcePage.heard.Goals as goal

pub add-requires : goal.add-requires
add-requires g c =
    let v = c.self.inside in
    let e : RunEvent = Relay (event.Piece v.id c.args.bytes.now) in
    (e, subst (λ k. IsOf touches k e) (sym c.self.invariant) (λ k. one_part k (key_of (Connection v.id))), λ past went. (refl, refl))

pub returns : goal.returns
returns g c s at =
    let v = c.self.inside in
    source_adds v.id v.page.0 v.page.1 c.add.new.self.1 (Relay (event.Piece v.id c.args.bytes.now)) s (live_piece_next s c.args.bytes.now) c.args.self.now c.self.invariant c.self.view_is at c.add.ensures.added
    (λ r known. piece_comes r v.id s known c.args.bytes.now)
