use Rattle.std.proofs.Common.{◌∙◌, sym, ap}
use Rattle.std.proofs.lemmas.Result.{IfOk-weaker}
use Rattle.fwd_model.specs.Live.{live_relay_reports}
use Rattle.fwd_core.proofs.relay.Relay.reports.Goals as goal

pub returns-clause-history : goal.returns-clause-history
returns-clause-history c = IfOk-weaker c.reports.result _ _ (λ reports is config h reached same. is ∙ ap live_relay_reports (ap (λ x. x) c.self.view_is ∙ same) ∙ sym (c.live_follows.ensures.reports config h reached)) c.reports.ensures
