use Rattle.std.proofs.Common.{sym, ap, ◌∙◌}
use Rattle.fwd_output.specs.PagedSources.{but_unsent}
use Rattle.fwd_output.proofs.Knowing.{some_source}
use Rattle.fwd_output.proofs.paged_source.PagedSource.new.Goals as goal

pub invariant_of-result : goal.invariant_of-result
invariant_of-result g c = (
  c.requires.own,
  record { source = c.args.source.live; is = c.requires.known; not_shut = c.requires.not_shut },
  λ ok s at. ap but_unsent (some_source (sym at ∙ c.requires.known)),
)
