use Rattle.std.proofs.Common.{rules, ◌≡◌, ◌+◌, [], ◌∷◌, ◌++◌, length, sym, ap, subst, ◌∙◌, arith}
use Rattle.std.specs.List.{concat}
use Rattle.std.proofs.lemmas.List.{length-append}
use Rattle.fwd_modes.specs.Entries.{AreCut, AreFull, kept_entry, cut_at}
use Rattle.fwd_modes.proofs.EntryLemmas.{AreCut-push, cut_push, full_push}
use Rattle.fwd_modes.proofs.kept_entries.KeptEntries.push.Goals as goal

pub invariant_of-self-2 : goal.invariant_of-self-2
invariant_of-self-2 c =
    let bytes = c.self.inside.bytes.items in
    let ends = c.self.inside.ends.items in
    let entry = kept_entry c.args.entry.time.now c.args.entry.fields.now in
    let cut : AreCut 0 ends bytes = c.self.invariant.0 in
    let added : c.append.new.bytes.items ≡ bytes ++ entry = search rules in
    let size : length c.append.new.bytes.items ≡ length bytes + length entry = ap length added ∙ length-append bytes entry in
    let len : c.len.result ≡ length c.append.new.bytes.items = search rules in
    let end : c.push_reserved.new.self.items ≡ ends ++ (length bytes + length entry) ∷ [] = c.push_reserved.ensures.items ∙ ap (λ es. es ++ c.len.result ∷ []) c.reserve.ensures.items ∙ ap (λ n. ends ++ n ∷ []) (len ∙ size) in
    let view : cut_at 0 ends bytes ≡ c.args.self.now = search rules in
    let whole : length (concat (cut_at 0 ends bytes)) ≡ length bytes = ap length cut.joined in
    rw (added, end) (AreCut-push ends bytes entry cut, omega (arith, ap (λ es. length (concat es)) view, whole, c.requires, length-append bytes entry), subst AreFull (sym (cut_push ends bytes entry cut)) (full_push (cut_at 0 ends bytes) entry c.self.invariant.2 (omega arith)))

pub returns-clause-ok : goal.returns-clause-ok
returns-clause-ok c =
    let bytes = c.self.inside.bytes.items in
    let ends = c.self.inside.ends.items in
    let entry = kept_entry c.args.entry.time.now c.args.entry.fields.now in
    let cut : AreCut 0 ends bytes = c.self.invariant.0 in
    let added : c.append.new.bytes.items ≡ bytes ++ entry = search rules in
    let size : length c.append.new.bytes.items ≡ length bytes + length entry = ap length added ∙ length-append bytes entry in
    let len : c.len.result ≡ length c.append.new.bytes.items = search rules in
    let end : c.push_reserved.new.self.items ≡ ends ++ (length bytes + length entry) ∷ [] = c.push_reserved.ensures.items ∙ ap (λ es. es ++ c.len.result ∷ []) c.reserve.ensures.items ∙ ap (λ n. ends ++ n ∷ []) (len ∙ size) in
    let view : cut_at 0 ends bytes ≡ c.args.self.now = search rules in
    rw (added, end) (cut_push ends bytes entry cut ∙ ap (λ es. es ++ entry ∷ []) view)
