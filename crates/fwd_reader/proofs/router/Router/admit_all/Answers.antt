use Rattle.std.proofs.Common.{arith, ◌≡◌, ◌++◌, ℕ, [], ◌∷◌, inr, length, subst, ◌∙◌}
use Rattle.fwd_peers.specs.Peers.{sized}
use Rattle.fwd_reader.specs.Admissions.{Admits}
use Rattle.fwd_reader.specs.declared.router.NotAdmitted.TheVariants as not_admitted
use Rattle.fwd_reader.proofs.Refusing.{another, has_to_wait, is_refused, one_fewer, some_wait}
use Rattle.fwd_reader.proofs.router.Router.admit_all.Goals as goal

pub returns-in-Err-Waits-clause-waits : goal.returns-in-Err-Waits-clause-waits
returns-in-Err-Waits-clause-waits g c = λ yes.
    has_to_wait c.args.self.now c.loop.self c.admit.new.self c.args.source.now c.loop.source
    c.admit.new.source c.loop.invariant.0 c.loop.invariant.1
    (c.in-Err-Waits.ensures.waits c.in-Err-Waits.field-0-is)
    (c.in-Err-Waits.ensures.named c.in-Err-Waits.field-0-is)

pub returns-in-Err-Ends-clause-done : goal.returns-in-Err-Ends-clause-done
returns-in-Err-Ends-clause-done g c = λ no.
    let is : c.in-Err-Ends.field-0 ≡ not_admitted.Ends c.in-Err-Ends.why = cc in
    inr
    (is_refused c.args.self.now c.loop.self c.admit.new.self c.args.source.now c.loop.source
    c.admit.new.source c.refuse.new.self c.in-Err-Ends.why c.sized.result c.asked_bytes-bytes.result
    c.loop.invariant.1
    (c.in-Err-Ends.ensures.refused c.in-Err-Ends.why is)
    (subst
    (λ why. (limit : ℕ) × (c.sized.result ≡ sized why c.asked_bytes-bytes.result limit))
    c.in-Err-Ends.why-is c.sized.ensures)
    c.refuse.ensures
    (some_wait c.loop.source c.loop.counter (length c.args.source.now.live.waiting)
    c.loop.invariant.2 (omega arith)))

pub loop-preserved : goal.loop-preserved
loop-preserved g c =
    let one : Admits c.loop.self c.loop.source c.admit.new.self c.admit.new.source =
    c.in-Ok.ensures.admitted in (
      c.admit.ensures.routes ∙ c.loop.invariant.0,
      (
        c.loop.invariant.1.0 ++ one.asked ∷ [],
        another c.loop.invariant.1.0 c.args.self.now c.loop.self c.admit.new.self
            c.args.source.now c.loop.source c.admit.new.source c.loop.invariant.1.1 one,
      ),
      omega (
        arith,
        c.loop.invariant.2,
        one_fewer c.loop.source c.admit.new.source one.asked one.given,
      ),
    )
