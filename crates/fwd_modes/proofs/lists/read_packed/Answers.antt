use Rattle.std.proofs.Common.{◌≡◌, Some, sym, subst}
use Rattle.std.specs.Prelude.{IfSome}
use Rattle.fwd_modes.specs.Entries.{AreFull, cut_at, packed_entries}
use Rattle.fwd_modes.proofs.EntryLemmas.{full_packed}
use Rattle.fwd_modes.proofs.lists.read_packed.Goals as goal

pub of-requires-clause-full : goal.of-requires-clause-full
of-requires-clause-full c =
    let packed = c.args.packed.now in
    let ends = c.in-Some.ends.items in
    let bytes : c.in_ok-bytes-in-Some.bytes.items ≡ packed = c.in_ok-bytes-in-Some.ensures in
    let said : packed_entries c.args.depth packed ≡ Some (cut_at 0 ends packed) = subst (λ f. IfSome f (λ ends. packed_entries c.args.depth packed ≡ Some (cut_at 0 ends.items packed))) c.in-Some.is c.in_ok-ends.ensures.entries in
    subst (λ xs. AreFull (cut_at 0 ends xs)) (sym bytes) (full_packed c.args.depth packed (cut_at 0 ends packed) said)
