-- The place of a kind is that of its limit.
use Rattle.std.proofs.Common.{rules, slice_index_or}
use Rattle.fwd_journal.specs.declared.line_limit.TheConstants.LineLimit.{NONE}
use Rattle.fwd_journal.proofs.Places.{index_at}
use Rattle.fwd_journal.proofs.line_limits.count_at_kind.Goals as goal

pub returns : goal.returns
returns c =
    let at = c.place-at.result in
    let was = c.args.shared.now in
    record {
      at = at;
      before = slice_index_or was at NONE;
      after = c.takes-is_told.new.self;
      place = c.place-at.ensures.place;
      stood = index_at was at NONE (search rules);
      stands = search rules;
      counts = search rules;
    }
