use Rattle.fwd_model.proofs.Windows.{ended_back}
use Rattle.fwd_model.proofs.laws.end_gives_back_all.Goals as goal

pub returns-clause-rising : goal.returns-clause-rising
returns-clause-rising c config h o w now kind numbers l is here ended = (ended_back config h o w kind now numbers l is here ended).rise

pub returns-clause-all : goal.returns-clause-all
returns-clause-all c config h o w now kind numbers l is here ended k = (ended_back config h o w kind now numbers l is here ended).all k
