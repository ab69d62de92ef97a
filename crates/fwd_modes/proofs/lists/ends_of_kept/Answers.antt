use Rattle.std.proofs.Common.{rules, ◌≡◌, ◌+◌, ◌<◌, ◌≤◌, List, ℕ, [], ◌∷◌, ◌++◌, length, take, drop, Some, sym, ap, subst, ◌∙◌, arith}
use Rattle.std.proofs.lemmas.List.{length-drop, take_rest, take_all}
use Rattle.fwd_msgpack.specs.Scans.{most_bytes}
use Rattle.fwd_modes.specs.Entries.{BeginsKept, cut_at}
use Rattle.fwd_modes.proofs.EntryLemmas.{behind, behind-end, packed_nothing}
use Rattle.fwd_modes.proofs.Spelled.{cut_grows, said_grows}
use Rattle.fwd_modes.proofs.lists.ends_of_kept.Goals as goal

pub entries-preserved : goal.entries-preserved
entries-preserved c =
    let packed = c.args.packed.now in
    let depth = c.args.depth in
    let used = c.entries.used in
    let len = c.in-Some.len in
    let rest = drop used packed in
    let inside = c.entries.invariant.inside in
    let some : 0 < length rest = omega (arith, length-drop used packed, c.entries-test.true) in
    let front = subst (λ (xs : List ℕ). BeginsKept most_bytes depth xs len) (take_rest packed used) c.in-Some.ensures in
    let within : len ≤ length rest = front.within in
    let added : c.add_end.new.ends.items ≡ c.entries.ends.items ++ (used + len) ∷ [] = search rules in
    rw added (record {
      inside = omega (arith, length-drop used packed, within);
      cut = cut_grows packed c.entries.ends.items used len inside c.entries.invariant.cut within;
      said = said_grows packed c.entries.ends.items used len inside c.entries.invariant.cut within depth some front.whole front.kept c.entries.invariant.said;
    })

pub returns-clause-entries : goal.returns-clause-entries
returns-clause-entries c =
    let packed = c.args.packed.now in
    let used = c.entries.used in
    let ends = c.entries.ends.items in
    let all : length packed ≤ used = omega (arith, c.entries-test.false) in
    let nothing : length (drop used packed) ≡ 0 = omega (arith, length-drop used packed) in
    sym c.entries.invariant.said
    ∙ ap (behind (cut_at 0 ends (take used packed))) (packed_nothing c.args.depth (drop used packed) nothing)
    ∙ behind-end (cut_at 0 ends (take used packed))
    ∙ ap (λ xs. Some (cut_at 0 ends xs)) (take_all used packed all)
