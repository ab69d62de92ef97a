use Rattle.std.proofs.Common.{arith, drop, length, length-append}
use Rattle.fwd_turns.proofs.Reading.{gives_none}
use Rattle.fwd_turns.proofs.visiting.read_source.Goals as goal

pub returns-clause-read : goal.returns-clause-read
returns-clause-read g c = λ none open_ few. record {
  most = length c.hear-again.new.room;
  within = omega (arith, length-append c.hear-again.new.room (drop c.portion-most.result c.args.room.now));
  between = c.hear-again.new.self;
  heard = c.hear-again.ensures.read open_ few;
  after = c.judge.ensures;
}

pub returns-clause-none : goal.returns-clause-none
returns-clause-none g c =
    gives_none c.args.now (length c.hear-again.new.room) c.args.to_end c.hear-again.result
    c.args.source.now c.hear-again.new.self c.judge.new.source c.hear-again.ensures.closed
    c.hear-again.ensures.held c.hear-again.ensures.read c.judge.ensures
