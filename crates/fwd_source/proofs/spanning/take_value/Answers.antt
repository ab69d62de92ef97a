use Rattle.std.proofs.Common.{◌≡◌, ℕ, List, ◌++◌, ◌∷◌, None, Some, rules, length, sym, ap, subst, ◌∙◌, arith}
use Rattle.std.proofs.lemmas.List.{append-nil, length-append}
use Rattle.fwd_modes.specs.Requests.{Request, request_of}
use Rattle.fwd_modes.specs.Requests.Reading.{Heartbeat, Asks, Fails}
use Rattle.fwd_modes.specs.Readings as readings
use Rattle.fwd_modes.specs.declared.request.Reading.{Reading}
use Rattle.fwd_source.specs.declared.taking.Parsed.{Parsed}
use Rattle.fwd_source.specs.Judged.{Judged, judged_of}
use Rattle.fwd_source.specs.Hearing.{AreTaken, shown}
use Rattle.fwd_source.proofs.Continuing.{asks_count, behind_it, asks_then, beat_then, fails_then, as_heard, taken_ahead, said_behind}
use Rattle.fwd_source.proofs.spanning.take_value.Goals as goal

pub returns-in-Asks-clause-taken : goal.returns-in-Asks-clause-taken
returns-in-Asks-clause-taken c =
    let limits = c.args.scanner.now.limits in
    let value = c.args.value.now.items in
    let behind = c.args.behind.now in
    let left = c.take_request.new.bytes.items in
    let heard = c.in_ok-requests.field-0 in
    let rest = c.in_ok-from_slice.field-0 in
    let same = c.limits.ensures ∙ c.in_ok-requests.ensures.limits in
    let asks : Asks c.in-Asks.batch ≡ request_of c.limits.result.depth value = subst (λ (r : Reading). readings.shown r ≡ request_of c.limits.result.depth value) c.in-Asks.is c.in_ok-batch.ensures.value in
    let said = asks_then limits c.limits.result same c.args.count value behind c.in-Asks.batch c.requires.count asks in
    let then_said = said_behind limits c.limits.result same c.args.count value behind in
    let number = c.count_behind-number.ensures ∙ ap (behind_it limits.depth c.args.count) c.deref.ensures.value in
    let is : shown heard ≡ then_said = c.in_ok-requests.ensures.value ∙ ap (λ (k : ℕ). judged_of limits None k behind) number in
    let taken : Parsed = record { rest = Some rest; out = heard.pong; awaits = heard.awaits; fault = heard.fault } in
    subst (λ (j : Judged). AreTaken j left taken) (sym said)
    (taken_ahead c.in-Asks.batch then_said left taken (as_heard then_said left heard rest is c.in_ok-from_slice.ensures.items))

pub returns-in-Asks-clause-waiting : goal.returns-in-Asks-clause-waiting
returns-in-Asks-clause-waiting c =
    let limits = c.args.scanner.now.limits in
    let value = c.args.value.now.items in
    let behind = c.args.behind.now in
    let heard = c.in_ok-requests.field-0 in
    let old = c.args.waiting.now.items in
    let batch = c.in-Asks.batch in
    let same = c.limits.ensures ∙ c.in_ok-requests.ensures.limits in
    let asks : Asks batch ≡ request_of c.limits.result.depth value = subst (λ (r : Reading). readings.shown r ≡ request_of c.limits.result.depth value) c.in-Asks.is c.in_ok-batch.ensures.value in
    let said = asks_then limits c.limits.result same c.args.count value behind batch c.requires.count asks in
    let number = c.count_behind-number.ensures ∙ ap (behind_it limits.depth c.args.count) c.deref.ensures.value in
    let is : shown heard ≡ said_behind limits c.limits.result same c.args.count value behind = c.in_ok-requests.ensures.value ∙ ap (λ (k : ℕ). judged_of limits None k behind) number in
    c.enter_all.ensures
    ∙ ap (λ (xs : List Request). xs ++ batch ∷ heard.requests.items) c.in_ok-reserve.ensures.items
    ∙ ap (λ (j : Judged). old ++ batch ∷ j.requests) is
    ∙ ap (λ (j : Judged). old ++ j.requests) (sym said)

pub returns-in-Asks-clause-count : goal.returns-in-Asks-clause-count
returns-in-Asks-clause-count c =
    let value = c.args.value.now.items in
    let batch = c.in-Asks.batch in
    let requests = c.in_ok-requests.field-0.requests.items in
    let asks : Asks batch ≡ request_of c.limits.result.depth value = subst (λ (r : Reading). readings.shown r ≡ request_of c.limits.result.depth value) c.in-Asks.is c.in_ok-batch.ensures.value in
    let number = c.count_behind-number.ensures ∙ ap (behind_it c.limits.result.depth c.args.count) c.deref.ensures.value ∙ asks_count c.limits.result.depth c.args.count value batch asks in
    let all = ap length c.enter_all.ensures ∙ length-append c.reserve.new.self.items (batch ∷ requests) in
    omega (arith, number, all, ap length c.in_ok-reserve.ensures.items, c.in_ok-requests.ensures.room)

pub returns-in-Fails-clause-taken : goal.returns-in-Fails-clause-taken
returns-in-Fails-clause-taken c =
    let value = c.args.value.now.items in
    let left = c.take_request.new.bytes.items in
    let same = c.limits.ensures ∙ c.in_ok-requests.ensures.limits in
    let fails : Fails c.in-Fails.fault ≡ request_of c.limits.result.depth value = subst (λ (r : Reading). readings.shown r ≡ request_of c.limits.result.depth value) c.in-Fails.is c.in_ok-batch.ensures.value in
    let said = fails_then c.args.scanner.now.limits c.limits.result same c.args.count value c.args.behind.now c.in-Fails.fault fails in
    subst (λ (j : Judged). AreTaken j left c.refused.result) (sym said) (c.refused.ensures.taken left)

pub returns-in-Fails-clause-waiting : goal.returns-in-Fails-clause-waiting
returns-in-Fails-clause-waiting c =
    let value = c.args.value.now.items in
    let old = c.args.waiting.now.items in
    let same = c.limits.ensures ∙ c.in_ok-requests.ensures.limits in
    let fails : Fails c.in-Fails.fault ≡ request_of c.limits.result.depth value = subst (λ (r : Reading). readings.shown r ≡ request_of c.limits.result.depth value) c.in-Fails.is c.in_ok-batch.ensures.value in
    let said = fails_then c.args.scanner.now.limits c.limits.result same c.args.count value c.args.behind.now c.in-Fails.fault fails in
    c.in_ok-reserve.ensures.items ∙ sym (append-nil old) ∙ ap (λ (j : Judged). old ++ j.requests) (sym said)

pub returns-in-Fails-clause-after : goal.returns-in-Fails-clause-after
returns-in-Fails-clause-after c none =
    let fault = c.refused.ensures.taken c.take_request.new.bytes.items in
    let no = sym none ∙ fault.fault in
    absurd cc

pub returns-in-Heartbeat-clause-taken : goal.returns-in-Heartbeat-clause-taken
returns-in-Heartbeat-clause-taken c =
    let limits = c.args.scanner.now.limits in
    let value = c.args.value.now.items in
    let behind = c.args.behind.now in
    let left = c.take_request.new.bytes.items in
    let heard = c.in_ok-requests.field-0 in
    let rest = c.in_ok-from_slice.field-0 in
    let same = c.limits.ensures ∙ c.in_ok-requests.ensures.limits in
    let beats : Heartbeat ≡ request_of c.limits.result.depth value = subst (λ (r : Reading). readings.shown r ≡ request_of c.limits.result.depth value) c.in-Heartbeat.is c.in_ok-batch.ensures.value in
    let said = beat_then limits c.limits.result same c.args.count value behind beats in
    let then_said = said_behind limits c.limits.result same c.args.count value behind in
    let number = c.count_behind-number.ensures ∙ ap (behind_it limits.depth c.args.count) c.deref.ensures.value in
    let is : shown heard ≡ then_said = c.in_ok-requests.ensures.value ∙ ap (λ (k : ℕ). judged_of limits None k behind) number in
    let taken : Parsed = record { rest = Some rest; out = heard.pong; awaits = heard.awaits; fault = heard.fault } in
    subst (λ (j : Judged). AreTaken j left taken) (sym said)
    (as_heard then_said left heard rest is c.in_ok-from_slice.ensures.items)

pub returns-in-Heartbeat-clause-waiting : goal.returns-in-Heartbeat-clause-waiting
returns-in-Heartbeat-clause-waiting c =
    let limits = c.args.scanner.now.limits in
    let value = c.args.value.now.items in
    let behind = c.args.behind.now in
    let heard = c.in_ok-requests.field-0 in
    let old = c.args.waiting.now.items in
    let same = c.limits.ensures ∙ c.in_ok-requests.ensures.limits in
    let beats : Heartbeat ≡ request_of c.limits.result.depth value = subst (λ (r : Reading). readings.shown r ≡ request_of c.limits.result.depth value) c.in-Heartbeat.is c.in_ok-batch.ensures.value in
    let said = beat_then limits c.limits.result same c.args.count value behind beats in
    let number = c.count_behind-number.ensures ∙ ap (behind_it limits.depth c.args.count) c.deref.ensures.value in
    let is : shown heard ≡ said_behind limits c.limits.result same c.args.count value behind = c.in_ok-requests.ensures.value ∙ ap (λ (k : ℕ). judged_of limits None k behind) number in
    let all : c.append.new.self.items ≡ old ++ heard.requests.items = search rules in
    all ∙ ap (λ (j : Judged). old ++ j.requests) is ∙ ap (λ (j : Judged). old ++ j.requests) (sym said)
