use Rattle.std.proofs.Common.{◌+◌, arith, sym, ap}
use Rattle.fwd_msgpack.specs.declared.scanner.Fed.TheVariants as feds
use Rattle.fwd_msgpack.specs.Scans.{most_bytes, most_deep, whole_len}
use Rattle.fwd_msgpack.proofs.Pieces.{stands_behind, first_told}
use Rattle.fwd_msgpack.proofs.Wholes.{Front-from}
use Rattle.fwd_msgpack.proofs.scanner.Scanner.cut.Goals as goal

pub returns-in-More-clause-verdict : goal.returns-in-More-clause-verdict
returns-in-More-clause-verdict c =
    sym (first_told c.args.self.now.limits c.args.bytes.now c.args.known c.args.self.now c.feed.new.self c.requires.behind c.in-More.ensures.state feds.More c.requires.known c.in-More.ensures.verdict)

pub returns-in-More-clause-after : goal.returns-in-More-clause-after
returns-in-More-clause-after c =
    (stands_behind c.args.self.now.limits c.args.bytes.now c.args.known c.args.self.now c.feed.new.self c.requires.behind c.in-More.ensures.state, ap whole_len c.in-More.ensures.verdict)

pub returns-in-Bad-clause-verdict : goal.returns-in-Bad-clause-verdict
returns-in-Bad-clause-verdict c =
    sym (first_told c.args.self.now.limits c.args.bytes.now c.args.known c.args.self.now c.feed.new.self c.requires.behind c.in-Bad.ensures.state (feds.Bad c.in-Bad.fault) c.requires.known c.in-Bad.ensures.verdict)

pub returns-in-End-clause-verdict : goal.returns-in-End-clause-verdict
returns-in-End-clause-verdict c =
    sym (first_told c.args.self.now.limits c.args.bytes.now c.args.known c.args.self.now c.feed.new.self c.requires.behind c.in-End.ensures.state (feds.End c.in-End.used) c.requires.known c.in-End.ensures.verdict)

pub invariant_of-result : goal.invariant_of-result
invariant_of-result c =
    let limits = c.args.self.now.limits in
    let first = first_told limits c.args.bytes.now c.args.known c.args.self.now c.feed.new.self c.requires.behind c.in-End.ensures.state (feds.End c.in-End.used) c.requires.known c.in-End.ensures.verdict in
    let front = Front-from limits.bytes limits.depth most_bytes most_deep (omega (arith, c.is_bounded.ensures)) (omega arith) c.args.bytes.now (c.args.known + c.in-End.used) first in
    record { whole = ap whole_len front.alone }
