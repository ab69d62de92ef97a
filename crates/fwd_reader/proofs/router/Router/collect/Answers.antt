use Rattle.std.proofs.Common.{arith, ◌≡◌, ◌<◌, ◌+◌, ◌||◌, false, inl, inr, length, sym, ap, subst, ◌∙◌}
use Rattle.fwd_history.specs.Histories.{Comes}
use Rattle.fwd_reader.specs.OpenConnections.{sources_in}
use Rattle.fwd_reader.specs.Promises.{TellsPromised}
use Rattle.fwd_reader.specs.Rounds.{ChangesAt, CollectsFirst, CollectsOnce}
use Rattle.fwd_reader.specs.Routers.{RouterShown}
use Rattle.fwd_reader.proofs.Answering as answering
use Rattle.fwd_reader.proofs.Collecting.{changed_length, first_more, first_none, one_or_other}
use Rattle.fwd_reader.proofs.Settling.{each_store}
use Rattle.fwd_reader.proofs.Told.{further, no_further, nothing, on}
use Rattle.fwd_reader.proofs.router.Router.collect.Goals as goal
use Rattle.fwd_reader.proofs.router.Router.collect.Goals.{then-collect_at, else-collect_at}

pub loop-number-init : goal.loop-number-init
loop-number-init g c = (
  ap (λ (o : RouterShown). o.routes) c.refill.ensures,
  nothing c.args.self.now.routes c.refill.new.self.reached (sources_in c.args.connections.now),
  subst
      (λ (o : RouterShown). CollectsFirst 0 c.args.self.now.stores
      (sources_in c.args.connections.now) false o.stores (sources_in c.args.connections.now))
      (sym c.refill.ensures)
      (first_none c.args.self.now.stores (sources_in c.args.connections.now)),
  ap (λ (o : RouterShown). length o.stores) c.refill.ensures,
  omega arith,
  answering.first_none c.args.self.now c.refill.new.self (sources_in c.args.connections.now)
      c.refill.ensures,
  subst (λ (o : RouterShown). Comes c.args.self.now.reached o.reached) (sym c.refill.ensures)
      (no_further c.args.self.now.reached),
)

pub loop-number-preserved : goal.loop-number-preserved
loop-number-preserved g c =
    let within : c.loop-number.number < length c.loop-number.self.stores =
    omega (
      arith,
      each_store c.self.inside.all.items,
      ap (λ (o : RouterShown). length o.stores) c.self.view_is,
    ) in
    let at : ChangesAt (λ s t. CollectsOnce s (sources_in c.loop-number.connections)
    c.collect_at.result t (sources_in c.collect_at.new.connections))
    c.loop-number.self.stores c.loop-number.number c.collect_at.new.self.stores =
    c.collect_at.ensures.once within in
    let more : (c.collect_at.result || c.loop-number.is_more) ≡ c.if-collect_at.is_more =
    one_or_other c.if-collect_at.is_more c.collect_at.result c.loop-number.is_more
    (elim c.if-collect_at.branch [
      | then-collect_at w ↦ inl (w.if-collect_at.true, w.is_more-is ∙ w.if-collect_at.true)
      | else-collect_at w ↦ inr (w.if-collect_at.false, w.is_more-is)
    ]) in
    let count : length c.collect_at.new.self.stores ≡ length c.loop-number.self.stores =
    changed_length
    (λ s t. CollectsOnce s (sources_in c.loop-number.connections)
    c.collect_at.result t (sources_in c.collect_at.new.connections))
    c.loop-number.self.stores c.collect_at.new.self.stores c.loop-number.number at in
    let same : c.note_answered.new.self.reached ≡ c.collect_at.new.self.reached =
    ap (λ (o : RouterShown). o.reached) c.note_answered.ensures in (
      ap (λ (o : RouterShown). o.routes) c.note_answered.ensures ∙ c.collect_at.ensures.routes
          ∙ c.loop-number.invariant.0,
      subst
          (λ past. TellsPromised c.args.self.now.routes past (sources_in c.args.connections.now)
          (sources_in c.collect_at.new.connections))
          (sym same)
          (on c.args.self.now.routes c.loop-number.self.reached c.collect_at.new.self.reached
          (sources_in c.args.connections.now) (sources_in c.loop-number.connections)
          (sources_in c.collect_at.new.connections) c.loop-number.invariant.1
          c.collect_at.ensures.onward
          (subst
          (λ routes. TellsPromised routes c.collect_at.new.self.reached
          (sources_in c.loop-number.connections) (sources_in c.collect_at.new.connections))
          c.loop-number.invariant.0 c.collect_at.ensures.promised)),
      subst
          (λ (o : RouterShown). CollectsFirst (c.loop-number.number + 1) c.args.self.now.stores
          (sources_in c.args.connections.now) c.if-collect_at.is_more o.stores
          (sources_in c.collect_at.new.connections))
          (sym c.note_answered.ensures)
          (subst
          (λ is_more. CollectsFirst (c.loop-number.number + 1) c.args.self.now.stores
          (sources_in c.args.connections.now) is_more c.collect_at.new.self.stores
          (sources_in c.collect_at.new.connections))
          more
          (first_more c.loop-number.number c.args.self.now.stores c.loop-number.self.stores
          c.collect_at.new.self.stores (sources_in c.args.connections.now)
          (sources_in c.loop-number.connections) (sources_in c.collect_at.new.connections)
          c.loop-number.is_more c.collect_at.result c.loop-number.invariant.2 at)),
      ap (λ (o : RouterShown). length o.stores) c.note_answered.ensures ∙ count
          ∙ c.loop-number.invariant.3,
      omega (arith, within, c.loop-number.invariant.3),
      answering.first_more c.loop-number.number c.collect_at.new.answered c.args.self.now
          c.loop-number.self c.collect_at.new.self c.note_answered.new.self
          (sources_in c.args.connections.now) (sources_in c.loop-number.connections)
          (sources_in c.collect_at.new.connections) c.loop-number.invariant.5
          (c.collect_at.ensures.answers within) c.collect_at.ensures.owed c.note_answered.ensures,
      subst (λ past. Comes c.args.self.now.reached past) (sym same)
          (further c.args.self.now.reached c.loop-number.self.reached
          c.collect_at.new.self.reached c.loop-number.invariant.6 c.collect_at.ensures.onward),
    )
