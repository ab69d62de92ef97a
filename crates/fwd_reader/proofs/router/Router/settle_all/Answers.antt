use Rattle.std.proofs.Common.{arith, ap, length, ◌∙◌}
use Rattle.fwd_reader.specs.Routers.{RouterShown}
use Rattle.fwd_reader.proofs.Settling.{due_more, due_whole, each_store}
use Rattle.fwd_reader.proofs.router.Router.settle_all.Goals as goal

pub loop-place-preserved : goal.loop-place-preserved
loop-place-preserved g c = (
  c.settle_at.ensures.routes ∙ c.loop-place.invariant.0,
  c.settle_at.ensures.due
      ∙ due_more c.loop-place.place c.args.self.now.stores c.loop-place.self.stores
      c.loop-place.invariant.1,
  c.settle_at.ensures.owed ∙ c.loop-place.invariant.2,
  c.settle_at.ensures.reached ∙ c.loop-place.invariant.3,
)

pub returns-clause-due : goal.returns-clause-due
returns-clause-due g c =
    c.loop-place.invariant.1
    ∙ due_whole c.loop-place.place c.args.self.now.stores
    (omega (
      arith,
      each_store c.self.inside.all.items,
      ap (λ (o : RouterShown). length o.stores) c.self.view_is,
      ap (λ (o : RouterShown). length o.stores) c.note_moved.ensures,
    ))
