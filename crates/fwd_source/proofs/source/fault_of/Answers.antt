use Rattle.std.proofs.Common.{◌≡◌, length, sym, ap, subst, ◌∙◌}
use Rattle.fwd_msgpack.specs.declared.limits.Limits.{Limits}
use Rattle.fwd_msgpack.specs.Scans.{verdict_of}
use Rattle.fwd_msgpack.specs.Scanners.{Standing, IsBehind, taken, heard}
use Rattle.fwd_msgpack.proofs.Pieces.{told_first}
use Rattle.fwd_source.specs.Hearing.{fault_in}
use Rattle.fwd_source.proofs.Faulty.{no_fault}
use Rattle.fwd_source.proofs.source.fault_of.Goals as goal

pub returns-in_default : goal.returns-in_default
returns-in_default c =
    let old = c.args.scanner.now in
    let rest = c.args.rest.now in
    let on = subst (λ (s : Standing). verdict_of s.state ≡ heard (taken old.state) c.feed.result) c.feed.ensures.state c.feed.ensures.verdict in
    let all = told_first old.limits rest c.args.bytes.now old c.feed.result c.requires.0 c.requires.1 on in
    let same : c.feed.new.self.limits ≡ old.limits = ap (λ (s : Standing). s.limits) c.feed.ensures.state in
    let back : IsBehind old.limits rest c.scan_again.new.scanner = subst (λ (l : Limits). IsBehind l rest c.scan_again.new.scanner) same c.scan_again.ensures in
    record {
      fault = no_fault (length rest) c.feed.result c.in_default.not-Bad ∙ ap fault_in (sym all);
      behind = λ e. back;
      limits = ap (λ (s : Standing). s.limits) back.0;
    }

pub returns-clause-fault : goal.returns-clause-fault
returns-clause-fault c =
    let old = c.args.scanner.now in
    let on = subst (λ (s : Standing). verdict_of s.state ≡ heard (taken old.state) c.feed.result) c.feed.ensures.state c.feed.ensures.verdict in
    let all = told_first old.limits c.args.rest.now c.args.bytes.now old c.feed.result c.requires.0 c.requires.1 on in
    ap fault_in (sym (all ∙ ap (heard (length c.args.rest.now)) c.in-Bad.is))
