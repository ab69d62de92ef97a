-- Calls have no bytes and own nothing, so they may go to another thread.
use denote.Param.Send.{IsSend}
use Rattle.fwd_peers.specs.contracts.calls.StreamCalls.{the_row}

pub send : IsSend the_row
send = record {
  owned = λ d vs. ((λ vss. (tt, ((λ uss. (tt, tt)), tt))), tt);
  leaving = λ k f vs. tt;
}
