use Rattle.fwd_chunks.proofs.Runs.{tags-rise, request-rises, one-tag}
use Rattle.fwd_chunks.proofs.laws.numbers_rise.Goals as goal

pub returns-clause-tags : goal.returns-clause-tags
returns-clause-tags c setting h is = tags-rise setting h is

pub returns-clause-request : goal.returns-clause-request
returns-clause-request c setting h origin r now is = request-rises setting h origin r now is

pub returns-clause-one_tag : goal.returns-clause-one_tag
returns-clause-one_tag c setting h is = one-tag setting h is
