use Rattle.std.proofs.Common.{ap, ◌∙◌}
use Rattle.fwd_source.specs.Live.{opened_source}
use Rattle.fwd_core.proofs.connection.Connection.new.Goals as goal

pub returns : goal.returns
returns c =
    let opened = c.in_ok-source.ensures.ok
    ∙ ap (λ s. opened_source (record { conn = c.args.id; security = s; nonces = c.args.nonces; limits = c.args.limits })) c.in_ok-security.ensures in
    λ i. record { id = c.args.id; source = opened i }
