-- The container's members stand in a row.
use Rattle.std.proofs.Common.{ap, ◌∙◌, arith}
use Rattle.std.specs.Prelude.{option_and_then}
use Rattle.fwd_msgpack.specs.Heads.{payload, members}
use Rattle.fwd_msgpack.specs.Scans.{elements_in, row_of_values}
use Rattle.fwd_msgpack.proofs.Bounds.{elements_bounded, whole_bounded}
use Rattle.fwd_msgpack.proofs.Parts.{parts_row}
use Rattle.fwd_msgpack.proofs.value.Value.items.Goals as goal

pub invariant_of-result : goal.invariant_of-result
invariant_of-result c =
    let rows = parts_row c.args.self.bytes.now c.parts.result.0 c.parts.result.1.now c.args.self.whole c.parts.ensures.value (ap payload c.in-Arr-default.is-0) in
    record { count = omega (arith, c.from.ensures, rows.count_is, ap members c.in-Arr-default.is-0); row = rows.row }

pub returns-in-Arr-default-clause-within : goal.returns-in-Arr-default-clause-within
returns-in-Arr-default-clause-within c =
    let body = c.parts.result.1.now in
    elements_bounded c.args.self.bytes.now (row_of_values body)
    (ap (option_and_then (λ parts. elements_in parts.0 parts.1)) c.parts.ensures.value ∙ ap (λ h. elements_in h body) c.in-Arr-default.is-0)

pub returns-in-Arr-default-clause-bound : goal.returns-in-Arr-default-clause-bound
returns-in-Arr-default-clause-bound c =
    let body = c.parts.result.1.now in
    let shorter = elements_bounded c.args.self.bytes.now (row_of_values body)
    (ap (option_and_then (λ parts. elements_in parts.0 parts.1)) c.parts.ensures.value ∙ ap (λ h. elements_in h body) c.in-Arr-default.is-0) in
    omega (arith, shorter, whole_bounded c.args.self.bytes.now c.args.self.whole)
