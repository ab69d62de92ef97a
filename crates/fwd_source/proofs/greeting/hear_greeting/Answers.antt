use Rattle.std.proofs.Common.{◌≡◌, [], ◌++◌, None, sym, ap, subst, ◌∙◌, arith}
use Rattle.std.proofs.lemmas.List.{append-nil}
use Rattle.fwd_handshake.specs.Verdicts.{ping_verdict}
use Rattle.fwd_source.specs.Judged.{Judged, greeted, judged_of}
use Rattle.fwd_source.specs.Hearing.{shown, EndsIn, Greets}
use Rattle.fwd_source.proofs.Ends.{end_of_end}
use Rattle.fwd_source.proofs.greeting.hear_greeting.Goals as goal

pub returns-in-Ended-clause-value : goal.returns-in-Ended-clause-value
returns-in-Ended-clause-value c =
    sym (subst (λ g. Greets c.args.scanner.now.limits (ping_verdict c.args.context.now.security.now c.args.context.now.nonces.now) c.args.context.now.count c.args.unparsed.bytes.now g) c.in-Ended.is (c.in_ok-heard.ensures.what c.args.context.now.count)).0

pub returns-in-Ended-clause-room : goal.returns-in-Ended-clause-room
returns-in-Ended-clause-room c =
    let none = (subst (λ g. Greets c.args.scanner.now.limits (ping_verdict c.args.context.now.security.now c.args.context.now.nonces.now) c.args.context.now.count c.args.unparsed.bytes.now g) c.in-Ended.is (c.in_ok-heard.ensures.what c.args.context.now.count)).1 in
    rw none (omega (arith, c.requires))

pub returns-in_ok-heard-in-Passed-clause-value : goal.returns-in_ok-heard-in-Passed-clause-value
returns-in_ok-heard-in-Passed-clause-value c =
    let said = subst (λ g. Greets c.args.scanner.now.limits (ping_verdict c.args.context.now.security.now c.args.context.now.nonces.now) c.args.context.now.count c.args.unparsed.bytes.now g) c.in-Passed.is (c.in_ok-heard.ensures.what c.args.context.now.count) in
    let behind = judged_of c.args.scanner.now.limits None c.args.context.now.count c.in-Passed.behind.now in
    let same : shown c.in_ok-heard-in-Passed.heard ≡ behind = c.in_ok-heard-in-Passed.ensures.value ∙ ap (λ l. judged_of l None c.args.context.now.count c.in-Passed.behind.now) c.in_ok-heard.ensures.limits in
    let none : behind.pong ≡ [] = sym (ap (λ (j : Judged). j.pong) same) ∙ c.in_ok-heard-in-Passed.ensures.no_pong in
    let whole : c.in-Passed.pong ≡ (greeted c.in-Passed.pong behind).pong = sym (append-nil c.in-Passed.pong) ∙ ap (λ p. c.in-Passed.pong ++ p) (sym none) in
    (λ i. record { requests = (same i).requests; rest = (same i).rest; pong = whole i; awaits = (same i).awaits; fault = (same i).fault }) ∙ sym said

pub returns-in-Ended-clause-end : goal.returns-in-Ended-clause-end
returns-in-Ended-clause-end c =
    subst (EndsIn c.args.unparsed.bytes.now) c.in-Ended.is c.in_ok-heard.ensures.end

pub returns-in_ok-heard-in-Passed-clause-end : goal.returns-in_ok-heard-in-Passed-clause-end
returns-in_ok-heard-in-Passed-clause-end c =
    end_of_end c.in_ok-heard-in-Passed.heard.rest.now c.in-Passed.behind.now c.args.unparsed.bytes.now
    c.in_ok-heard-in-Passed.ensures.end
    (subst (EndsIn c.args.unparsed.bytes.now) c.in-Passed.is c.in_ok-heard.ensures.end)
