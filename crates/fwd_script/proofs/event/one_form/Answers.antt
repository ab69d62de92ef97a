use Rattle.fwd_script.proofs.Rows.{has_one_spelling, spelled-has_lines}
use Rattle.fwd_script.proofs.event.one_form.Goals as goal

pub returns-clause-one : goal.returns-clause-one
returns-clause-one c = has_one_spelling

pub returns-clause-none : goal.returns-clause-none
returns-clause-none c = spelled-has_lines
