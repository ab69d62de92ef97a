use Rattle.fwd_match.proofs.Pairs.{braces_start}
use Rattle.fwd_match.proofs.braces.has_good_braces.Goals as goal

pub loop-byte-init : goal.loop-byte-init
loop-byte-init c = braces_start c.args.word.now
