use Rattle.std.proofs.Common.{rules, arith, ◌≡◌, ◌+◌, [], None, Ok, ℕ, length, take, drop, sym, ap, subst, ◌∙◌}
use Rattle.std.proofs.lemmas.List.{take_rest, take-append-drop}
use Rattle.fwd_msgpack.specs.declared.stream.Next.TheVariants as next
use Rattle.fwd_msgpack.specs.Values.{bytes_of}
use Rattle.fwd_msgpack.specs.declared.limits.Limits.{Limits}
use Rattle.fwd_msgpack.specs.Scanners.{IsBehind, fresh}
use Rattle.fwd_modes.specs.Requests.{request_of}
use Rattle.fwd_modes.specs.Requests.Reading.{Asks, Fails}
use Rattle.fwd_source.specs.Asked.{IsRefused}
use Rattle.fwd_source.specs.Judged.{joined, judged_of}
use Rattle.fwd_source.specs.Hearing.{TakesIn}
use Rattle.fwd_source.proofs.Ends.{end_behind, end_of_end}
use Rattle.fwd_source.proofs.Judging.{judged_at}
use Rattle.fwd_source.proofs.Fronted.{front_says, no_front}
use Rattle.fwd_source.proofs.Refusing.{refuses}
use Rattle.fwd_source.proofs.Ends.{behind_none}
use Rattle.fwd_source.proofs.hearing.hear.Goals as goal

pub returns-in-Unfinished-clause-value : goal.returns-in-Unfinished-clause-value
returns-in-Unfinished-clause-value c =
    let said = judged_at c.args.scanner.now.limits c.values.scanner.limits c.values.invariant.limits None (c.args.count + length c.values.requests.items) c.values.rest.now next.Unfinished c.in-Unfinished.ensures.split in
    search rules

pub returns-in-Fault-clause-value : goal.returns-in-Fault-clause-value
returns-in-Fault-clause-value c =
    let said = judged_at c.args.scanner.now.limits c.values.scanner.limits c.values.invariant.limits None (c.args.count + length c.values.requests.items) c.values.rest.now (next.Fault c.in-Fault.fault) c.in-Fault.ensures.split in
    search rules

pub returns-in-Some-3-clause-value : goal.returns-in-Some-3-clause-value
returns-in-Some-3-clause-value c =
    let said = judged_at c.args.scanner.now.limits c.values.scanner.limits c.values.invariant.limits None (c.args.count + length c.values.requests.items) c.values.rest.now (next.Value c.in-Value.value c.in-Value.behind) c.in-Value.ensures.split in
    search rules

pub values-preserved : goal.values-preserved
values-preserved c =
    let limits = c.args.scanner.now.limits in
    let old = c.values.requests.items in
    let new = c.take_in.new.requests.items in
    let value = bytes_of c.in-Value.value in
    let behind = c.in-Value.behind.now in
    let next = judged_at limits c.values.scanner.limits c.values.invariant.limits None (c.args.count + length old) c.values.rest.now (next.Value c.in-Value.value c.in-Value.behind) c.in-Value.ensures.split in
    let taken = subst (TakesIn old new c.args.count (request_of limits.depth value)) c.in_default-3.is (subst (λ (l : Limits). TakesIn old new c.args.count (request_of l.depth value) c.in_ok-fault-in-Value.field-0) c.limits-limits.ensures c.in_ok-fault-in-Value.ensures.value) in
    record {
      said = c.values.invariant.said ∙ ap (joined old []) next ∙ taken (λ k. judged_of limits None k behind);
      end = end_of_end behind c.values.rest.now c.args.unparsed.bytes.now (end_behind value behind c.values.rest.now c.in-Value.ensures.parts.0) c.values.invariant.end;
      limits = c.in-Value.ensures.limits ∙ c.values.invariant.limits;
      within = omega arith;
      behind = behind_none limits c.next_value.new.self (c.in-Value.ensures.after ∙ ap fresh c.values.invariant.limits);
      room = c.in_ok-fault-in-Value.ensures.room;
      first = λ (refused : IsRefused limits c.args.unparsed.bytes.now).
          let fails = refuses limits c.values.scanner.limits c.values.invariant.limits c.values.rest.now c.args.unparsed.bytes.now (c.values.invariant.first refused) c.in-Value.value c.in-Value.behind c.in-Value.ensures.split refused in
          let fails' = subst (λ (l : Limits). request_of l.depth value ≡ Fails refused.fault) (sym c.limits-limits.ensures) fails in
          let no = sym (c.in_ok-fault-in-Value.was ∙ ap Ok c.in_default-3.is) ∙ c.take_in.ensures.refused refused.fault refused.beside fails' in
          absurd cc;
    }

pub returns-in_err-fault-in-Value-clause-refused : goal.returns-in_err-fault-in-Value-clause-refused
returns-in_err-fault-in-Value-clause-refused c refused =
    let limits = c.args.scanner.now.limits in
    let value = bytes_of c.in-Value.value in
    let fails = refuses limits c.values.scanner.limits c.values.invariant.limits c.values.rest.now c.args.unparsed.bytes.now (c.values.invariant.first refused) c.in-Value.value c.in-Value.behind c.in-Value.ensures.split refused in
    let fails' = subst (λ (l : Limits). request_of l.depth value ≡ Fails refused.fault) (sym c.limits-limits.ensures) fails in
    let no = sym c.in_err-fault-in-Value.was ∙ c.take_in.ensures.refused refused.fault refused.beside fails' in
    absurd cc

pub returns-in-Some-2-clause-value : goal.returns-in-Some-2-clause-value
returns-in-Some-2-clause-value c =
    let limits = c.args.scanner.now.limits in
    let old = c.values.requests.items in
    let new = c.add.new.requests.items in
    let front = c.in-Some.front in
    let rest = c.values.rest.now in
    let next = front_says limits c.limits-limits.result c.limits-limits.ensures (c.args.count + length old) rest front.request front.len c.in-Some.ensures.0 in
    let faulty = subst (TakesIn old new c.args.count (Asks front.request)) c.in-Some-2.is c.in_ok-fault.ensures.value in
    c.failed.ensures ∙ sym (c.values.invariant.said ∙ ap (joined old []) next ∙ faulty (λ k. judged_of limits None k (drop front.len rest)))

pub values-preserved-in-Some : goal.values-preserved-in-Some
values-preserved-in-Some c =
    let limits = c.args.scanner.now.limits in
    let old = c.values.requests.items in
    let new = c.add.new.requests.items in
    let front = c.in-Some.front in
    let rest = c.values.rest.now in
    let behind = drop front.len rest in
    let next = front_says limits c.limits-limits.result c.limits-limits.ensures (c.args.count + length old) rest front.request front.len c.in-Some.ensures.0 in
    let taken = subst (TakesIn old new c.args.count (Asks front.request)) c.in_default-2.is c.in_ok-fault.ensures.value in
    let none = c.in-Some.ensures.1 in
    let stands = subst (λ (k : ℕ). IsBehind limits (take k rest) c.values.scanner) none c.values.invariant.behind in
    rw (take_rest rest front.len) (record {
      said = c.values.invariant.said ∙ ap (joined old []) next ∙ taken (λ k. judged_of limits None k behind);
      end = end_of_end behind rest c.args.unparsed.bytes.now (end_behind (take front.len rest) behind rest (sym (take-append-drop front.len rest))) c.values.invariant.end;
      limits = c.values.invariant.limits;
      within = omega (arith, none);
      behind = subst (λ (k : ℕ). IsBehind limits (take k behind) c.values.scanner) (sym none) stands;
      room = c.in_ok-fault.ensures.room;
      first = λ refused. absurd (no_front limits c.limits-limits.result c.limits-limits.ensures rest c.args.unparsed.bytes.now (c.values.invariant.first refused) front.request front.len c.in-Some.ensures.0 refused);
    })
