use Rattle.std.proofs.Common.{◌≡◌, ℕ, List, ◌++◌, drop, None, length, sym, ap, subst, ◌∙◌}
use Rattle.std.specs.Prelude.{IfOk, OnOk, option_map}
use Rattle.std.proofs.lemmas.List.{append-nil, take_rest}
use Rattle.fwd_msgpack.specs.declared.limits.Limits.{Limits}
use Rattle.fwd_msgpack.specs.declared.scanner.Fed.{Fed}
use Rattle.fwd_msgpack.specs.Scans.{Whole, first_of}
use Rattle.fwd_msgpack.specs.Scanners.{IsBehind}
use Rattle.fwd_source.specs.declared.taking.Parsed.{Parsed}
use Rattle.fwd_source.specs.Judged.{Judged, judged_of, value_then}
use Rattle.fwd_source.specs.Hearing.{AreTaken, Feeds, kept_of}
use Rattle.fwd_source.proofs.Judging.{judged_of-short, judged_of-bad}
use Rattle.fwd_source.proofs.Continuing.{ended_alone, ended_says}
use Rattle.fwd_source.proofs.spanning.take_on.Goals as goal

pub take_value-requires-clause-whole : goal.take_value-requires-clause-whole
take_value-requires-clause-whole c =
    let all = c.go_on.new.rest.items in
    let limits = c.args.scanner.now.limits in
    let fed = subst (λ (f : Fed). Feeds limits c.args.rest.now.items c.args.bytes.now f all c.go_on.new.scanner) c.in-End.is c.in_ok-go_on.ensures.fed in
    subst (λ (l : Limits). first_of l.bytes l.depth all ≡ Whole (length all)) (sym c.in_ok-go_on.ensures.limits)
    (ended_alone limits c.args.rest.now.items c.args.bytes.now all c.in-End.used fed.0 fed.2)

pub returns-in-More-clause-taken : goal.returns-in-More-clause-taken
returns-in-More-clause-taken c =
    let limits = c.args.scanner.now.limits in
    let all = c.args.rest.now.items ++ c.args.bytes.now in
    let fed = subst (λ (f : Fed). Feeds limits c.args.rest.now.items c.args.bytes.now f c.go_on.new.rest.items c.go_on.new.scanner) c.in-More.is c.in_ok-go_on.ensures.fed in
    let said = judged_of-short limits None c.args.count all fed.2 in
    record {
      rest = fed.0 ∙ sym (ap (λ (j : Judged). j.rest) said);
      pong = c.new.ensures ∙ sym (ap (λ (j : Judged). j.pong) said);
      awaits = sym (ap (λ (j : Judged). j.awaits) said);
      fault = sym (ap (λ (j : Judged). j.fault) said);
    }

pub returns-in-More-clause-waiting : goal.returns-in-More-clause-waiting
returns-in-More-clause-waiting c =
    let limits = c.args.scanner.now.limits in
    let old = c.args.waiting.now.items in
    let fed = subst (λ (f : Fed). Feeds limits c.args.rest.now.items c.args.bytes.now f c.go_on.new.rest.items c.go_on.new.scanner) c.in-More.is c.in_ok-go_on.ensures.fed in
    let said = judged_of-short limits None c.args.count (c.args.rest.now.items ++ c.args.bytes.now) fed.2 in
    sym (append-nil old) ∙ ap (λ (j : Judged). old ++ j.requests) (sym said)

pub returns-in-End-clause-taken : goal.returns-in-End-clause-taken
returns-in-End-clause-taken c =
    let limits = c.args.scanner.now.limits in
    let rest = c.args.rest.now.items in
    let bytes = c.args.bytes.now in
    let all = c.go_on.new.rest.items in
    let used = c.in-End.used in
    let fed = subst (λ (f : Fed). Feeds limits rest bytes f all c.go_on.new.scanner) c.in-End.is c.in_ok-go_on.ensures.fed in
    let cut = ap (λ (xs : List ℕ). value_then c.go_on.new.scanner.limits.depth None c.args.count all (λ g k. judged_of c.go_on.new.scanner.limits g k xs)) (take_rest bytes used) in
    let said = cut ∙ ap (λ (l : Limits). value_then l.depth None c.args.count all (λ g k. judged_of l g k (drop used bytes))) c.in_ok-go_on.ensures.limits ∙ ended_says limits rest bytes all used fed.0 fed.2 c.args.count in
    subst (λ (j : Judged). IfOk c.take_value.result (λ (taken : Parsed). AreTaken j c.take_value.new.value.items taken)) said c.take_value.ensures.taken

pub returns-in-End-clause-waiting : goal.returns-in-End-clause-waiting
returns-in-End-clause-waiting c =
    let limits = c.args.scanner.now.limits in
    let rest = c.args.rest.now.items in
    let bytes = c.args.bytes.now in
    let all = c.go_on.new.rest.items in
    let used = c.in-End.used in
    let fed = subst (λ (f : Fed). Feeds limits rest bytes f all c.go_on.new.scanner) c.in-End.is c.in_ok-go_on.ensures.fed in
    let cut = ap (λ (xs : List ℕ). value_then c.go_on.new.scanner.limits.depth None c.args.count all (λ g k. judged_of c.go_on.new.scanner.limits g k xs)) (take_rest bytes used) in
    let said = cut ∙ ap (λ (l : Limits). value_then l.depth None c.args.count all (λ g k. judged_of l g k (drop used bytes))) c.in_ok-go_on.ensures.limits ∙ ended_says limits rest bytes all used fed.0 fed.2 c.args.count in
    subst (λ (j : Judged). OnOk c.take_value.result (c.take_value.new.waiting.items ≡ c.args.waiting.now.items ++ j.requests)) said c.take_value.ensures.waiting

pub returns-in-End-clause-after : goal.returns-in-End-clause-after
returns-in-End-clause-after c =
    subst (λ (l : Limits). IfOk c.take_value.result (λ (taken : Parsed). taken.fault ≡ None → IsBehind l (kept_of c.take_value.new.value.items (option_map (λ v. v.items) taken.rest)) c.take_value.new.scanner)) c.in_ok-go_on.ensures.limits c.take_value.ensures.after

pub returns-in-Bad-clause-taken : goal.returns-in-Bad-clause-taken
returns-in-Bad-clause-taken c =
    let limits = c.args.scanner.now.limits in
    let all = c.go_on.new.rest.items in
    let fed = subst (λ (f : Fed). Feeds limits c.args.rest.now.items c.args.bytes.now f all c.go_on.new.scanner) c.in-Bad.is c.in_ok-go_on.ensures.fed in
    let said = judged_of-bad limits None c.args.count (c.args.rest.now.items ++ c.args.bytes.now) c.in-Bad.fault fed in
    subst (λ (j : Judged). AreTaken j all c.refused.result) (sym said) (c.refused.ensures.taken all)

pub returns-in-Bad-clause-waiting : goal.returns-in-Bad-clause-waiting
returns-in-Bad-clause-waiting c =
    let limits = c.args.scanner.now.limits in
    let old = c.args.waiting.now.items in
    let fed = subst (λ (f : Fed). Feeds limits c.args.rest.now.items c.args.bytes.now f c.go_on.new.rest.items c.go_on.new.scanner) c.in-Bad.is c.in_ok-go_on.ensures.fed in
    let said = judged_of-bad limits None c.args.count (c.args.rest.now.items ++ c.args.bytes.now) c.in-Bad.fault fed in
    sym (append-nil old) ∙ ap (λ (j : Judged). old ++ j.requests) (sym said)

pub returns-in-Bad-clause-after : goal.returns-in-Bad-clause-after
returns-in-Bad-clause-after c none =
    let no = sym none ∙ (c.refused.ensures.taken c.go_on.new.rest.items).fault in
    absurd cc
