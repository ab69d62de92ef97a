use Rattle.std.proofs.Common.{arith, ◌∙◌, refl, sym, subst}
use Rattle.std.specs.Prelude.{All}
use Rattle.fwd_reader.specs.Owing.{owed_at_each}
use Rattle.fwd_reader.specs.Promises.{HoldsRouted}
use Rattle.fwd_reader.proofs.Admitting.{same_place}
use Rattle.fwd_reader.proofs.router.Router.wake_due_at.Goals as goal

pub invariant_of-self-2 : goal.invariant_of-self-2
invariant_of-self-2 g c = (
  let same = same_place c.self.inside.all.items c.args.place c.in-Some.output_route.now
      c.wake_due.new.self (omega (arith, c.in-Some.ensures.variant.0 refl))
      c.in-Some.ensures.value c.wake_due.ensures in
      subst (All (HoldsRouted c.self.inside.routes.now)) (sym same) c.self.invariant.0,
  c.self.invariant.1,
)

pub returns : goal.returns
returns g c =
    let same = same_place c.self.inside.all.items c.args.place c.in-Some.output_route.now
    c.wake_due.new.self (omega (arith, c.in-Some.ensures.variant.0 refl))
    c.in-Some.ensures.value c.wake_due.ensures in
    (λ i. record {
      routes = c.self.inside.routes.now;
      stores = same i;
      owed = owed_at_each c.self.inside.admission;
      reached = c.self.inside.reached;
    })
    ∙ c.self.view_is
