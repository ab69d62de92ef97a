use Rattle.std.proofs.Common.{rules, ◌≡◌, ℕ, ◌<◌, [], ◌∷◌, ◌++◌, length, drop, Some, None, refl, sym, ap, ◌∙◌, arith}
use Rattle.std.specs.List.{concat}
use Rattle.std.proofs.lemmas.List.{length-append, length-take-le, length-drop, take_rest}
use Rattle.fwd_msgpack.specs.Scans.{Whole, first_of, most_bytes}
use Rattle.fwd_msgpack.specs.declared.value.Value.{Value}
use Rattle.fwd_msgpack.specs.declared.value.Cut.{Cut}
use Rattle.fwd_msgpack.specs.declared.value.Cut.TheVariants as cuts
use Rattle.fwd_msgpack.specs.Cuts.{seen}
use Rattle.fwd_msgpack.proofs.Seen.{seen_whole}
use Rattle.fwd_msgpack.specs.Values.{bytes_of}
use Rattle.fwd_modes.specs.Entries.{entry_of, before, packed_entries}
use Rattle.fwd_modes.specs.Readings.{kept}
use Rattle.fwd_modes.proofs.EntryLemmas.{behind, behind-more, behind-end, packed_not_whole, packed_no_entry, packed_whole, packed_nothing, length-concat-push}
use Rattle.fwd_modes.proofs.lists.read_each.Goals as goal

not_cut : (r : Cut) (n : ℕ)
    → ((value : Value) (used : ℕ) → r ≡ cuts.Whole value used → ⊥)
    → seen r ≡ Whole n → ⊥
not_cut r n none e = let found = seen_whole r n e in none found.0 found.1.0 found.1.1

pub returns-in_default : goal.returns-in_default
returns-in_default c =
    let rest = c.entries.rest.now in
    let some : 0 < length rest = search rules in
    let none = packed_not_whole c.args.depth rest (first_of most_bytes c.args.depth rest) some refl (λ n e. not_cut c.cut.result n c.in_default.not-Whole (c.cut.ensures.verdict ∙ e)) in
    sym (ap (behind c.entries.kept) none) ∙ c.entries.invariant.said

pub returns-in_default-read : goal.returns-in_default-read
returns-in_default-read c =
    let rest = c.entries.rest.now in
    let used = c.in-Whole.used in
    let some : 0 < length rest = search rules in
    let is : entry_of (bytes_of c.in-Whole.value) ≡ None = search rules in
    let none = packed_no_entry c.args.depth rest used some (sym c.in-Whole.ensures.verdict) (ap entry_of (sym c.in-Whole.ensures.front) ∙ is) in
    sym (ap (behind c.entries.kept) none) ∙ c.entries.invariant.said

pub entries-preserved : goal.entries-preserved
entries-preserved c =
    let rest = c.entries.rest.now in
    let used = c.in-Whole.used in
    let old = c.entries.kept in
    let entry = kept c.in-Some.entry in
    let behind_it = drop used rest in
    let some : 0 < length rest = search rules in
    let is : entry_of (bytes_of c.in-Whole.value) ≡ Some entry = search rules in
    let added : c.push.new.self ≡ old ++ entry ∷ [] = search rules in
    let said : packed_entries c.args.depth rest ≡ before (Some entry) (packed_entries c.args.depth behind_it) =
    packed_whole c.args.depth rest used some (sym c.in-Whole.ensures.verdict) ∙ ap (λ o. before o (packed_entries c.args.depth behind_it)) (ap entry_of (sym c.in-Whole.ensures.front) ∙ is) in
    let size : length (bytes_of c.in-Whole.value) ≡ used = ap length c.in-Whole.ensures.front ∙ length-take-le used rest c.in-Whole.ensures.extent.1 in
    rw (take_rest rest used) (record {
      said = ap (λ k. behind k (packed_entries c.args.depth behind_it)) added ∙ behind-more old entry (packed_entries c.args.depth behind_it) ∙ ap (behind old) (sym said) ∙ c.entries.invariant.said;
      fits = omega (arith, ap (λ k. length (concat k)) added, length-concat-push old entry, length-append c.in-Some.entry.time.now c.in-Some.entry.fields.now, length-drop used rest, size, c.in-Whole.ensures.extent, c.entries.invariant.fits, c.in-Some.ensures.fits);
    })

pub returns : goal.returns
returns c =
    let nothing : length c.entries.rest.now ≡ 0 = search rules in
    sym (ap (behind c.entries.kept) (packed_nothing c.args.depth c.entries.rest.now nothing) ∙ behind-end c.entries.kept) ∙ c.entries.invariant.said
