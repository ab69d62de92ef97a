-- The limit that owed is told of.
use Rattle.std.proofs.Common.{rules, slice_index_or}
use Rattle.fwd_journal.specs.declared.line_limit.TheConstants.LineLimit.{NONE}
use Rattle.fwd_journal.specs.Limits.{Owes}
use Rattle.fwd_journal.proofs.Places.{stands_at}
use Rattle.fwd_journal.proofs.line_limits.pay_at_kind.Goals as goal

pub returns-clause-some : goal.returns-clause-some
returns-clause-some c =
    let at = c.in_ok-at.at in
    let was = c.args.shared.now in
    let owing = stands_at (Owes c.args.second) was at NONE c.in_ok-at.ensures.some in
    record {
      at = at;
      kind = c.at.result;
      limit = slice_index_or was at NONE;
      place = c.at.ensures;
      stood = owing.0;
      owes = owing.1;
      stands = search rules;
      subject = c.others-subject.ensures;
      count = search rules;
    }
