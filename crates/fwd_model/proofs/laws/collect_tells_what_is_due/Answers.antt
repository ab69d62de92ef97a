use Rattle.fwd_model.proofs.Telling.{told-due, due-told, told-rising}
use Rattle.fwd_model.proofs.laws.collect_tells_what_is_due.Goals as goal

pub returns-clause-told : goal.returns-clause-told
returns-clause-told c config es id r o numbers out l here told among = told-due config es id r o numbers out l here told among

pub returns-clause-all : goal.returns-clause-all
returns-clause-all c config es id r o numbers out l here told due = due-told config es id r o numbers out l here told due

pub returns-clause-rising : goal.returns-clause-rising
returns-clause-rising c config es id o numbers out l here told = told-rising config es id o numbers out l here told
