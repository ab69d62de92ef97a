use Rattle.std.proofs.Common.{◌≡◌, ◌+◌, length, take, ap, subst, ◌∙◌, arith}
use Rattle.std.proofs.lemmas.List.{length-append, length-take-le}
use Rattle.fwd_msgpack.specs.Scans.{verdict_of, whole_len, Whole}
use Rattle.fwd_msgpack.specs.Scanners.{Standing, fresh, taken, heard}
use Rattle.fwd_msgpack.specs.declared.scanner.Fed.TheVariants as feds
use Rattle.fwd_msgpack.proofs.Pieces.{told_first}
use Rattle.fwd_source.proofs.Continuing.{behind_more}
use Rattle.fwd_source.proofs.spanning.go_on.Goals as goal

pub returns-in_ok-put-in-More-clause-fed : goal.returns-in_ok-put-in-More-clause-fed
returns-in_ok-put-in-More-clause-fed c =
    let old = c.args.scanner.now in
    let rest = c.args.rest.now.items in
    let on = subst (λ (s : Standing). verdict_of s.state ≡ heard (taken old.state) feds.More) c.in-More.ensures.state c.in-More.ensures.verdict in (
      c.in_ok-put-in-More.ensures.ok,
      behind_more old.limits rest c.args.bytes.now c.put.new.rest.items old c.feed.new.self c.requires.0 c.in-More.ensures.state c.in_ok-put-in-More.ensures.ok (ap whole_len c.in-More.ensures.verdict),
      told_first old.limits rest c.args.bytes.now old feds.More c.requires.0 c.requires.1 on,
    )

pub returns-in_ok-put-in-End-clause-fed : goal.returns-in_ok-put-in-End-clause-fed
returns-in_ok-put-in-End-clause-fed c =
    let old = c.args.scanner.now in
    let rest = c.args.rest.now.items in
    let used = c.in-End.used in
    let all = c.put-in-End.new.rest.items in
    let on = subst (λ (s : Standing). verdict_of s.state ≡ heard (taken old.state) (feds.End used)) c.in-End.ensures.state c.in-End.ensures.verdict in
    let size : length rest + used ≡ length all = omega (arith, ap length c.in_ok-put-in-End.ensures.ok, length-append rest (take used c.args.bytes.now), length-take-le used c.args.bytes.now c.in-End.ensures.within.1) in (
      c.in_ok-put-in-End.ensures.ok,
      c.in-End.ensures.within.1,
      told_first old.limits rest c.args.bytes.now old (feds.End used) c.requires.0 c.requires.1 on ∙ ap Whole size,
      c.restart.ensures ∙ ap fresh (ap (λ (s : Standing). s.limits) c.in-End.ensures.state),
    )

pub returns-in-Bad-clause-fed : goal.returns-in-Bad-clause-fed
returns-in-Bad-clause-fed c =
    let old = c.args.scanner.now in
    let on = subst (λ (s : Standing). verdict_of s.state ≡ heard (taken old.state) (feds.Bad c.in-Bad.fault)) c.in-Bad.ensures.state c.in-Bad.ensures.verdict in
    told_first old.limits c.args.rest.now.items c.args.bytes.now old (feds.Bad c.in-Bad.fault) c.requires.0 c.requires.1 on
