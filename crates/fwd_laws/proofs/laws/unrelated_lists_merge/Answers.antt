use Rattle.fwd_model.proofs.Follows.{reached_sane}
use Rattle.fwd_laws.proofs.Merged.{merged-after, merged-answers}
use Rattle.fwd_laws.proofs.laws.unrelated_lists_merge.Goals as goal

pub returns-clause-answers : goal.returns-clause-answers
returns-clause-answers c config h es fs gs r free merges =
    merged-answers gs es fs h (reached_sane config h r) free merges

pub returns-clause-after : goal.returns-clause-after
returns-clause-after c config h es fs gs r free merges =
    merged-after gs es fs h (reached_sane config h r) free merges
