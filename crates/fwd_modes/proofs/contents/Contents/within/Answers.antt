use Rattle.std.proofs.Common.{rules, ◌≡◌, ◌+◌, cond, List, ℕ, ◌++◌, take, drop, Some, None, sym, subst, arith}
use Rattle.fwd_modes.specs.Entries.{AreCut, AreFull, cut_at}
use Rattle.fwd_modes.proofs.Moving.{names_behind, entries_stay, cut_len}
use Rattle.fwd_modes.proofs.contents.Contents.within.Goals as goal

pub invariant_of-result : goal.invariant_of-result
invariant_of-result c =
    let f = c.args.found in
    let old = c.args.bytes.items in
    let names = f.names.items in
    let p = c.requires.places in
    let items : c.shrink_to_fit.new.self.items ≡ take (f.first + f.size) old ++ names = search rules in
    let stays = entries_stay old names f.first f.size p.inside in
    let size = cut_len old names f.first f.size p.inside in
    rw items (subst (AreCut 0 f.ends.items) (sym stays) p.cut, subst (λ (xs : List ℕ). AreFull (cut_at 0 f.ends.items xs)) (sym stays) p.full, p.tag_fits, omega (arith, size, p.tag_within), omega (arith, size, p.chunk_fits))

pub returns : goal.returns
returns c =
    let f = c.args.found in
    let old = c.args.bytes.items in
    let names = f.names.items in
    let p = c.requires.places in
    let items : c.shrink_to_fit.new.self.items ≡ take (f.first + f.size) old ++ names = search rules in
    let stays = entries_stay old names f.first f.size p.inside in
    let behind = names_behind old names f.first f.size p.inside in
    rw items (λ i. record {
      tag = take f.tag (behind i);
      entries = cut_at 0 f.ends.items (stays i);
      chunk = cond f.has_chunk (Some (drop f.tag (behind i))) None;
    })
