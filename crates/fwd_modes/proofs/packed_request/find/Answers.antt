use Rattle.std.proofs.Common.{◌≡◌, ◌+◌, List, ℕ, [], length, take, drop, Some, sym, ap, subst, ◌∙◌, arith}
use Rattle.std.specs.Prelude.{IfSome, unwrap_or}
use Rattle.std.specs.Option.{option_copied}
use Rattle.std.proofs.lemmas.List.{length-append}
use Rattle.fwd_msgpack.specs.Values.{bytes_of}
use Rattle.fwd_modes.specs.Requests.Reading.{Asks}
use Rattle.fwd_modes.specs.Readings.{entries_given}
use Rattle.fwd_modes.specs.declared.request_fields.EntriesForm.TheVariants.{Packed}
use Rattle.fwd_modes.specs.Entries.{AreCut, AreFull, cut_at, packed_entries}
use Rattle.fwd_modes.proofs.EntryLemmas.{full_packed}
use Rattle.fwd_modes.proofs.Moving.{found_asks, tag_in, chunk_in, chunk_bound}
use Rattle.fwd_modes.proofs.packed_request.find.Goals as goal

pub returns : goal.returns
returns c =
    let depth = c.args.depth in
    let bytes = bytes_of c.args.value in
    let given = c.in-Some.given in
    let asked = c.in-Ok.asked in
    let text = c.in-Some-text.text.now in
    let ends = c.in-Some-2.ends.items in
    let names = c.in_ok-names.names.items in
    let entries : packed_entries depth text ≡ Some (cut_at 0 ends text) = subst (λ f. IfSome f (λ ends. packed_entries depth text ≡ Some (cut_at 0 ends.items text))) c.in-Some-2.is c.in_ok-ends.ensures.entries in
    let cut : AreCut 0 ends text = subst (λ f. IfSome f (λ ends. AreCut 0 ends.items text)) c.in-Some-2.is c.in_ok-ends.ensures.cut in
    let asks = found_asks depth bytes given asked text ends (sym c.is_nil.ensures ∙ c.if-is_nil.false) c.in-Some.ensures (c.in-Ok.ensures (entries_given depth (Packed given.packed))) (sym c.in-Some-text.ensures.value) entries in
    let tag = tag_in asked.tag.now _ names c.in_ok-names.ensures in
    let chunk = chunk_in asked.tag.now names asked.chunk c.is_some.result c.is_some.ensures c.in_ok-names.ensures in
    let text_at : take (length text) (drop c.place_of-first.result bytes) ≡ text = c.place_of-first.ensures.place in
    let size : length names ≡ length asked.tag.now + length (unwrap_or (option_copied asked.chunk) []) = ap length c.in_ok-names.ensures ∙ length-append asked.tag.now (unwrap_or (option_copied asked.chunk) []) in
    let fits = chunk_bound asked.chunk asked.chunk_fits in (
      asks ∙ (λ i. Asks (record {
        tag = sym tag i;
        entries = cut_at 0 ends (sym text_at i);
        chunk = sym chunk i;
      })),
      record {
        inside = c.place_of-first.ensures.inside;
        cut = subst (AreCut 0 ends) (sym text_at) cut;
        full = subst (λ (xs : List ℕ). AreFull (cut_at 0 ends xs)) (sym text_at) (full_packed depth text (cut_at 0 ends text) entries);
        tag_fits = asked.tag_fits;
        tag_within = omega (arith, size);
        chunk_fits = omega (arith, size, fits);
      },
    )
