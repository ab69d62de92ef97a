use Rattle.std.proofs.Common.{◌≡◌, ◌-◌, Some, sym, subst}
use Rattle.std.specs.Prelude.{IfSome}
use Rattle.fwd_msgpack.specs.Values.{bytes_of}
use Rattle.fwd_modes.specs.Entries.{AreCut, cut_at, packed_entries}
use Rattle.fwd_modes.proofs.EntryLemmas.{full_packed}
use Rattle.fwd_modes.proofs.Fronting.{packed_holds}
use Rattle.fwd_modes.proofs.front_request.packed_at.Goals as goal

pub invariant_of-result : goal.invariant_of-result
invariant_of-result c =
    let deep = c.args.limits.depth in
    let text = c.in_ok-text.text.now in
    let ends = c.in-Ok-Some.ends.items in
    let cut : AreCut 0 ends text = subst (λ f. IfSome f (λ e. AreCut 0 e.items text)) c.in-Ok-Some.field-0-is c.in-Ok-Some.ensures.cut in
    let entries : packed_entries deep text ≡ Some (cut_at 0 ends text) = subst (λ f. IfSome f (λ e. packed_entries deep text ≡ Some (cut_at 0 e.items text))) c.in-Ok-Some.field-0-is c.in-Ok-Some.ensures.entries in
    record {
      cut = cut;
      fits = c.in_ok-text.ensures.bound;
      full = full_packed deep text (cut_at 0 ends text) entries;
    }

pub returns : goal.returns
returns c =
    let deep = c.args.limits.depth in
    let packed = c.in_ok-packed.packed in
    let text = c.in_ok-text.text.now in
    let ends = c.in-Ok-Some.ends.items in
    let entries : packed_entries deep text ≡ Some (cut_at 0 ends text) = subst (λ f. IfSome f (λ e. packed_entries deep text ≡ Some (cut_at 0 e.items text))) c.in-Ok-Some.field-0-is c.in-Ok-Some.ensures.entries in
    packed_holds deep (deep - 1) c.args.bytes.now (bytes_of packed.value) text ends c.args.at packed.end
    c.in_ok-packed.ensures (sym c.in_ok-text.ensures.value) entries
