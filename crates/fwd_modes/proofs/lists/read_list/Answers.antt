use Rattle.std.proofs.Common.{◌≡◌, List, ℕ, Some, sym, ap, subst, ◌∙◌}
use Rattle.std.specs.Prelude.{IfSome, option_and_then}
use Rattle.fwd_msgpack.specs.Scans.{most_deep}
use Rattle.fwd_msgpack.proofs.Splittings.{row_values}
use Rattle.fwd_modes.specs.Entries.{AreCut, AreFull, cut_at, entries_of, listed_entries, packed_entries}
use Rattle.fwd_modes.proofs.EntryLemmas.{full_packed}
use Rattle.fwd_modes.proofs.Spelled.{packed_row}
use Rattle.fwd_modes.proofs.lists.read_list.Goals as goal

pub of-requires-clause-cut : goal.of-requires-clause-cut
of-requires-clause-cut c =
    let ends = c.in-Some-2.ends.items in
    let packed = c.bytes-packed.result.now in
    let bytes : c.in_ok-bytes.bytes.items ≡ packed = c.in_ok-bytes.ensures in
    subst (AreCut 0 ends) (sym bytes) (subst (λ f. IfSome f (λ ends. AreCut 0 ends.items packed)) c.in-Some-2.is c.in_ok-ends.ensures.cut)

pub of-requires-clause-full : goal.of-requires-clause-full
of-requires-clause-full c =
    let ends = c.in-Some-2.ends.items in
    let packed = c.bytes-packed.result.now in
    let bytes : c.in_ok-bytes.bytes.items ≡ packed = c.in_ok-bytes.ensures in
    let said : packed_entries most_deep packed ≡ Some (cut_at 0 ends packed) = subst (λ f. IfSome f (λ ends. packed_entries most_deep packed ≡ Some (cut_at 0 ends.items packed))) c.in-Some-2.is c.in_ok-ends.ensures.entries in
    subst (λ (xs : List ℕ). AreFull (cut_at 0 ends xs)) (sym bytes) (full_packed most_deep packed (cut_at 0 ends packed) said)

pub returns : goal.returns
unfolding listed_entries
returns c =
    let ends = c.in-Some-2.ends.items in
    let packed = c.bytes-packed.result.now in
    let members = c.in-Some.members in
    let bytes : c.in_ok-bytes.bytes.items ≡ packed = c.in_ok-bytes.ensures in
    let said : packed_entries most_deep packed ≡ Some (cut_at 0 ends packed) = subst (λ f. IfSome f (λ ends. packed_entries most_deep packed ≡ Some (cut_at 0 ends.items packed))) c.in-Some-2.is c.in_ok-ends.ensures.entries in
    let all : packed ≡ members.rest.now = c.bytes-packed.ensures ∙ (row_values members.rest.now members.row).0 in
    ap Some (c.of.ensures ∙ ap (cut_at 0 ends) bytes) ∙ sym said
    ∙ ap (packed_entries most_deep) all ∙ packed_row members.rest.now members.row
    ∙ ap (option_and_then entries_of) c.in-Some.ensures.value
