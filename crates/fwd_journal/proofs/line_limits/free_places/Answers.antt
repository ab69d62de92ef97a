use Rattle.std.proofs.Common.{None}
use Rattle.fwd_journal.proofs.Places.{replicated}
use Rattle.fwd_journal.proofs.line_limits.free_places.Goals as goal

pub returns : goal.returns
returns c k d within = replicated None d 128 k within
