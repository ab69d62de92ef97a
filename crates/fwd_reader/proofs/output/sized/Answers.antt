use Rattle.std.proofs.Common.{◌∙◌, ap, sym}
use Rattle.fwd_peers.specs.Peers as peers
use Rattle.fwd_reader.proofs.Refusing.{sized_same}
use Rattle.fwd_reader.proofs.output.sized.Goals as goal

pub returns-in-None : goal.returns-in-None
returns-in-None g c =
    (c.args.bytes, sym c.in-Refused.is ∙ sized_same c.args.why c.args.bytes)

pub returns-in-Some : goal.returns-in-Some
returns-in-Some g c = (
  c.in-Some.own.now.total,
  c.sized.ensures
      ∙ ap (λ w. peers.sized w c.args.bytes c.in-Some.own.now.total) (sym c.in-Refused.is),
)
