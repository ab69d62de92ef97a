use Rattle.std.proofs.Common.{rules, arith, ◌≡◌, ℕ, true, cond, None, Some, ap, ◌∙◌}
use Rattle.fwd_handshake.specs.Verdicts.{ping_verdict}
use Rattle.fwd_msgpack.specs.declared.stream.Next.TheVariants as next
use Rattle.fwd_msgpack.specs.Values.{bytes_of}
use Rattle.fwd_msgpack.specs.Scanners.{fresh}
use Rattle.fwd_msgpack.specs.Scans.{is_nil}
use Rattle.fwd_source.specs.Judged.{welcomed, judged_of}
use Rattle.fwd_source.proofs.Ends.{end_behind, end_of_end, greeting_ends}
use Rattle.fwd_source.proofs.Judging.{judged_at}
use Rattle.fwd_source.proofs.Ends.{behind_none, stands_in}
use Rattle.fwd_source.proofs.greeting.greet.Goals as goal

pub returns-in-Unfinished-clause-what : goal.returns-in-Unfinished-clause-what
returns-in-Unfinished-clause-what c =
    let said = λ (n : ℕ). judged_at c.args.scanner.now.limits c.values.scanner.limits c.values.invariant.limits (Some (ping_verdict c.args.security.now c.args.nonces.now)) n c.values.rest.now next.Unfinished c.in-Unfinished.ensures.split in
    search rules

pub returns-in-Fault-clause-what : goal.returns-in-Fault-clause-what
returns-in-Fault-clause-what c =
    let said = λ (n : ℕ). judged_at c.args.scanner.now.limits c.values.scanner.limits c.values.invariant.limits (Some (ping_verdict c.args.security.now c.args.nonces.now)) n c.values.rest.now (next.Fault c.in-Fault.fault) c.in-Fault.ensures.split in
    search rules

pub returns-then-not-is_nil-clause-what : goal.returns-then-not-is_nil-clause-what
returns-then-not-is_nil-clause-what c =
    let said = λ (n : ℕ). judged_at c.args.scanner.now.limits c.values.scanner.limits c.values.invariant.limits (Some (ping_verdict c.args.security.now c.args.nonces.now)) n c.values.rest.now (next.Value c.in-Value.value c.in-Value.behind) c.in-Value.ensures.split in
    search rules

pub returns-then-not-is_nil-clause-end : goal.returns-then-not-is_nil-clause-end
returns-then-not-is_nil-clause-end c =
    let rest = c.values.rest.now in
    let behind = c.in-Value.behind.now in
    greeting_ends c.welcome.result behind c.args.unparsed.bytes.now c.welcome.ensures.end
    (end_of_end behind rest c.args.unparsed.bytes.now (end_behind (bytes_of c.in-Value.value) behind rest c.in-Value.ensures.parts.0) c.values.invariant.end)

pub values-preserved : goal.values-preserved
values-preserved c =
    let limits = c.args.scanner.now.limits in
    let rest = c.values.rest.now in
    let value = bytes_of c.in-Value.value in
    let behind = c.in-Value.behind.now in
    let verdict = ping_verdict c.args.security.now c.args.nonces.now in
    let nil : is_nil value ≡ true = search rules in
    record {
      said = λ n.
          c.values.invariant.said n
          ∙ judged_at limits c.values.scanner.limits c.values.invariant.limits (Some verdict) n rest (next.Value c.in-Value.value c.in-Value.behind) c.in-Value.ensures.split
          ∙ ap (λ b. cond b (judged_of limits (Some verdict) n behind) (welcomed (verdict value) (judged_of limits None n behind))) nil;
      end = end_of_end behind rest c.args.unparsed.bytes.now (end_behind value behind rest c.in-Value.ensures.parts.0) c.values.invariant.end;
      limits = c.in-Value.ensures.limits ∙ c.values.invariant.limits;
      within = omega arith;
      behind = behind_none limits c.next_value.new.self (c.in-Value.ensures.after ∙ ap fresh c.values.invariant.limits);
    }

pub returns-then-not-is_nil-clause-after : goal.returns-then-not-is_nil-clause-after
returns-then-not-is_nil-clause-after c =
    stands_in c.args.scanner.now.limits c.welcome.result c.next_value.new.self c.welcome.ensures.faulted (c.in-Value.ensures.after ∙ ap fresh c.values.invariant.limits)
