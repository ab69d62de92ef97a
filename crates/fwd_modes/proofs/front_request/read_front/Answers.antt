use Rattle.std.proofs.Common.{rules, ◌≡◌, ◌≤◌, ◌-◌, ◌+◌, Some, Ok, ℕ, suc, length, take, sym, ap, subst, ◌∙◌, arith}
use Rattle.std.specs.Option.{option_copied}
use Rattle.fwd_msgpack.specs.declared.head.Head.TheVariants.{Arr}
use Rattle.fwd_msgpack.specs.declared.head.HeadRead.TheVariants as read
use Rattle.fwd_msgpack.specs.Heads.{reading_of}
use Rattle.fwd_msgpack.specs.Scans.{Whole, first_of, most_bytes, most_deep}
use Rattle.fwd_msgpack.specs.Values.{bytes_of}
use Rattle.fwd_msgpack.proofs.Parts.{read_within}
use Rattle.fwd_modes.specs.Fronts.{HoldWithin, laid_shown}
use Rattle.fwd_modes.specs.Moved.{optional}
use Rattle.fwd_modes.specs.Readings.{judged}
use Rattle.fwd_modes.specs.Requests.{request_of}
use Rattle.fwd_modes.specs.Requests.Reading.{Asks as asks}
use Rattle.fwd_modes.proofs.Fronting.{front_whole, front_asks}
use Rattle.fwd_modes.proofs.front_request.read_front.Goals as goal

pub returns-clause-whole : goal.returns-clause-whole
returns-clause-whole c =
    let limits = c.args.limits in
    let bytes = c.args.bytes.now in
    let deep = limits.depth - 1 in
    let at = c.in-Whole-Arr-default.at in
    let count = c.in-Whole-Arr-default.count in
    let tag = c.in_ok-tag.tag in
    let entered = c.in_ok-laid.field-0 in
    let entries = laid_shown entered.laid in
    let last = c.in_ok-option.field-0 in
    let asked = c.in_ok-asked.asked in
    let array : c.in-Whole-Arr-default.field-0 ≡ Arr count = search rules in
    let head : reading_of bytes ≡ read.Whole (Arr count) at = sym c.in-Whole-Arr-default.ensures.head ∙ ap (λ h. read.Whole h at) array in
    let judged_so : c.judge.result ≡ Ok asked = search rules in
    let said = ap (judged (Some entries)) (sym judged_so) ∙ c.judge.ensures (Some entries) in
    let members : 1 + entered.members + length (optional last.option) ≡ count = omega (arith, c.in_ok-checked_sub.ensures, c.in_ok-left.ensures, c.in_ok-option.ensures.count) in
    let deeper : suc deep ≡ limits.depth = omega (arith, c.if-limits-eq0.false) in
    let held = subst (λ (k : ℕ). HoldWithin k deep bytes tag.end entered.end entered.members entries) (sym deeper) c.in_ok-laid.ensures in
    let shallow : deep ≤ most_deep = omega (arith, limits.shallow) in
    let fits : last.end ≤ limits.bytes = omega (arith, c.if-end-limits.false) in
    let short : last.end ≤ most_bytes = omega (arith, fits) in
    subst (λ (k : ℕ). first_of limits.bytes k bytes ≡ Whole last.end) deeper
    (front_whole deep bytes count at tag.end entered.end last.end entered.members (bytes_of tag.value) entries last.option asked head c.in_ok-tag.ensures held c.in_ok-option.ensures.stand members shallow short said limits.bytes fits)

pub returns-clause-asks : goal.returns-clause-asks
returns-clause-asks c =
    let limits = c.args.limits in
    let bytes = c.args.bytes.now in
    let deep = limits.depth - 1 in
    let at = c.in-Whole-Arr-default.at in
    let count = c.in-Whole-Arr-default.count in
    let tag = c.in_ok-tag.tag in
    let entered = c.in_ok-laid.field-0 in
    let entries = laid_shown entered.laid in
    let last = c.in_ok-option.field-0 in
    let asked = c.in_ok-asked.asked in
    let array : c.in-Whole-Arr-default.field-0 ≡ Arr count = search rules in
    let head : reading_of bytes ≡ read.Whole (Arr count) at = sym c.in-Whole-Arr-default.ensures.head ∙ ap (λ h. read.Whole h at) array in
    let judged_so : c.judge.result ≡ Ok asked = search rules in
    let said = ap (judged (Some entries)) (sym judged_so) ∙ c.judge.ensures (Some entries) in
    let members : 1 + entered.members + length (optional last.option) ≡ count = omega (arith, c.in_ok-checked_sub.ensures, c.in_ok-left.ensures, c.in_ok-option.ensures.count) in
    let deeper : suc deep ≡ limits.depth = omega (arith, c.if-limits-eq0.false) in
    let held = subst (λ (k : ℕ). HoldWithin k deep bytes tag.end entered.end entered.members entries) (sym deeper) c.in_ok-laid.ensures in
    let shallow : deep ≤ most_deep = omega (arith, limits.shallow) in
    let fits : last.end ≤ limits.bytes = omega (arith, c.if-end-limits.false) in
    let short : last.end ≤ most_bytes = omega (arith, fits) in
    let kept : c.in_ok-kept.kept ≡ entries = c.in_ok-kept.ensures in
    let batch : c.in_ok-request.request ≡ record { tag = asked.tag.now; entries = c.in_ok-kept.kept; chunk = option_copied asked.chunk } = search rules in
    subst (λ (k : ℕ). request_of k (take last.end bytes) ≡ asks (record { tag = asked.tag.now; entries = entries; chunk = option_copied asked.chunk })) deeper
    (front_asks deep bytes count at tag.end entered.end last.end entered.members (bytes_of tag.value) entries last.option asked head c.in_ok-tag.ensures held c.in_ok-option.ensures.stand members shallow short said)
    ∙ (λ i. asks (record { tag = asked.tag.now; entries = sym kept i; chunk = option_copied asked.chunk }))
    ∙ ap asks (sym batch)

pub returns-clause-some : goal.returns-clause-some
returns-clause-some c =
    let begins = (read_within c.args.bytes.now c.in-Whole-Arr-default.field-0 c.in-Whole-Arr-default.at (sym c.in-Whole-Arr-default.ensures.head)).0 in
    omega (arith, begins, c.in_ok-tag.ensures.on, c.in_ok-laid.ensures.stand.on, c.in_ok-option.ensures.stand.on)

pub returns-clause-within : goal.returns-clause-within
returns-clause-within c = c.in_ok-option.ensures.stand.within
