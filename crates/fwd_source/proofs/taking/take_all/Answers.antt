use Rattle.std.proofs.Common.{sym, ap, ◌∙◌}
use Rattle.std.specs.Prelude.{is_ok}
use Rattle.fwd_source.specs.Judged.{Judged}
use Rattle.fwd_source.proofs.Refusing.{refused_says}
use Rattle.fwd_source.proofs.taking.take_all.Goals as goal

pub returns-in_err-rest-clause-refused : goal.returns-in_err-rest-clause-refused
returns-in_err-rest-clause-refused c passed refused =
    let says = c.in_ok-requests.ensures.value ∙ refused_says c.args.scanner.now.limits c.args.context.now passed c.args.unparsed.bytes.now refused in
    let no = sym (ap (λ r. is_ok r) c.in_err-rest.was) ∙ c.apart.ensures.none (ap (λ (j : Judged). j.rest) says) in
    absurd cc

pub returns-in_err-enter-clause-refused : goal.returns-in_err-enter-clause-refused
returns-in_err-enter-clause-refused c passed refused =
    let says = c.in_ok-requests.ensures.value ∙ refused_says c.args.scanner.now.limits c.args.context.now passed c.args.unparsed.bytes.now refused in
    let no = sym (ap (λ r. is_ok r) c.in_err-enter.was) ∙ c.enter.ensures.none (ap (λ (j : Judged). j.requests) says) (ap (λ (j : Judged). j.pong) says) in
    absurd cc
