use Rattle.std.proofs.Common.{◌+◌, sym}
use Rattle.std.proofs.lemmas.List.{take_rest}
use Rattle.fwd_match.specs.Marks.{marks}
use Rattle.fwd_match.proofs.Cuts.{split_at_some, split_at_none}
use Rattle.fwd_match.proofs.fields.first_field.Goals as goal

pub returns-in-Some-clause-fields : goal.returns-in-Some-clause-fields
returns-in-Some-clause-fields c =
    rw (take_rest c.args.bytes.now (c.in-Some.at + 1)) (split_at_some (marks c.args.mark) c.args.bytes.now c.in-Some.at (sym c.in-Some.ensures))

pub returns-in-None-clause-fields : goal.returns-in-None-clause-fields
returns-in-None-clause-fields c = split_at_none (marks c.args.mark) c.args.bytes.now (sym c.in-None.ensures)
