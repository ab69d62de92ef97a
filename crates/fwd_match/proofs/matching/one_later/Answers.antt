use Rattle.std.proofs.Common.{refl}
use Rattle.fwd_match.proofs.matching.one_later.Goals as goal

pub returns-in-Some : goal.returns-in-Some
returns-in-Some c = (c.first_field.result.0.now, (rw c.in-Some.is c.first_field.ensures.fields, refl))
