use Rattle.std.proofs.Common.{rules, ◌≡◌, ◌+◌, ◌≤◌, ◌-◌, List, ℕ, suc, take, drop, length, sym, ap, subst, ◌∙◌, arith}
use Rattle.std.proofs.lemmas.List.{take_rest, length-take-le}
use Rattle.fwd_msgpack.specs.declared.head.Head.TheVariants.{Arr}
use Rattle.fwd_msgpack.specs.declared.head.HeadRead.TheVariants as read
use Rattle.fwd_msgpack.specs.Heads.{reading_of}
use Rattle.fwd_msgpack.specs.Scans.{most_bytes, most_deep}
use Rattle.fwd_modes.specs.Entries.{cut_at}
use Rattle.fwd_modes.specs.Fronts.{AreKeptInARow, HoldEntries}
use Rattle.fwd_modes.proofs.EntryLemmas.{full_entries}
use Rattle.fwd_modes.proofs.Fronting.{entries_of_kept, row_holds}
use Rattle.fwd_modes.proofs.front_request.row_at.Goals as goal

pub invariant_of-result : goal.invariant_of-result
invariant_of-result c =
    let deep = c.args.limits.depth - 1 in
    let ends = c.in_ok-ends.ends.items in
    let used = c.in_ok-ends.used in
    let row = c.in_ok-ends.ensures.row in
    let rest = take (length c.args.bytes.now - (c.args.at + c.in-Whole-Arr-default.size)) (drop (c.args.at + c.in-Whole-Arr-default.size) c.args.bytes.now) in
    record {
      cut = row.cut;
      fits = omega (arith, length-take-le used rest row.within, c.in_ok-ends.ensures.fits);
      full = full_entries (cut_at 0 ends (take used rest)) (cut_at 0 ends (take used rest)) (entries_of_kept deep (cut_at 0 ends (take used rest)) row.each);
    }

pub returns : goal.returns
returns c =
    let bytes = c.args.bytes.now in
    let at = c.args.at in
    let size = c.in-Whole-Arr-default.size in
    let count = c.in-Whole-Arr-default.count in
    let ends = c.in_ok-ends.ends.items in
    let used = c.in_ok-ends.used in
    let deep = c.args.limits.depth - 1 in
    let behind = take_rest bytes (at + size) in
    let array : c.in-Whole-Arr-default.field-0 ≡ Arr count = search rules in
    let head : reading_of (drop at bytes) ≡ read.Whole (Arr count) size = ap reading_of (sym (take_rest bytes at)) ∙ sym c.in-Whole-Arr-default.ensures.head ∙ ap (λ h. read.Whole h size) array in
    let row = subst (λ (xs : List ℕ). AreKeptInARow deep count xs ends used) behind c.in_ok-ends.ensures.row in
    let deeper : suc deep ≡ c.args.limits.depth = omega (arith, c.if-limits-eq0.false) in
    let shallow : deep ≤ most_deep = omega (arith, c.args.limits.shallow) in
    let short : size + used ≤ most_bytes = omega (arith, c.if-size-used.false) in
    let held = row_holds deep bytes at count size used ends c.requires head row shallow short in
    subst (λ (k : ℕ). HoldEntries k bytes at (at + size + used) 1 (cut_at 0 ends (take used (take (length bytes - (at + size)) (drop (at + size) bytes))))) deeper
    (subst (λ (xs : List ℕ). HoldEntries (suc deep) bytes at (at + size + used) 1 (cut_at 0 ends (take used xs))) (sym behind) held)
