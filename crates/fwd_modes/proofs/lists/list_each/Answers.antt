use Rattle.std.proofs.Common.{rules, ◌≡◌, [], ◌∷◌, ◌++◌, length, Some, sym, ap, ◌∙◌, arith}
use Rattle.std.specs.List.{concat}
use Rattle.std.proofs.lemmas.List.{length-append}
use Rattle.fwd_msgpack.specs.Values.{bytes_of, members_left}
use Rattle.fwd_modes.specs.Entries.{entry_of, before, entries_of}
use Rattle.fwd_modes.specs.Readings.{kept}
use Rattle.fwd_modes.proofs.EntryLemmas.{behind, behind-more, length-concat-push}
use Rattle.fwd_modes.proofs.lists.list_each.Goals as goal

pub loop-member-preserved : goal.loop-member-preserved
loop-member-preserved c =
    let member = bytes_of c.in-Some-member.member in
    let entry = kept c.in-Some-read.entry in
    let old = c.loop-member.kept in
    let left = members_left c.next.new.self in
    let steps : members_left c.loop-member.member-iterator ≡ member ∷ left = search rules in
    let is : entry_of member ≡ Some entry = search rules in
    let added : c.push.new.self ≡ old ++ entry ∷ [] = search rules in
    let before_it : entries_of (members_left c.loop-member.member-iterator) ≡ before (Some entry) (entries_of left) = ap entries_of steps ∙ ap (λ o. before o (entries_of left)) is in
    record {
      said = ap (λ k. behind k (entries_of left)) added ∙ behind-more old entry (entries_of left) ∙ ap (behind old) (sym before_it) ∙ c.loop-member.invariant.said;
      fits = omega (arith, ap (λ k. length (concat k)) added, length-concat-push old entry, ap (λ m. length (concat m)) steps, length-append member (concat left), length-append c.in-Some-read.entry.time.now c.in-Some-read.entry.fields.now, c.loop-member.invariant.fits, c.in-Some-read.ensures.fits);
    }
