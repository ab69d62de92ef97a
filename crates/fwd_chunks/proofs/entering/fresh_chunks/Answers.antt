use Rattle.std.proofs.Common.{rules, ◌≡◌, ◌+◌, ◌<◌, ◌^◌, [], ◌∷◌, ◌++◌, length, take, drop, None, sym, ap, ◌∙◌, append_assoc, length-append, arith}
use Rattle.fwd_chunks.specs.Filling.{fresh_of, needed, cut_count, stage_last, stage_before}
use Rattle.fwd_chunks.specs.Parts.{entries_in}
use Rattle.fwd_chunks.proofs.Admission.{needed-first, fresh-first, cut-size, size-drop, last-stage}
use Rattle.fwd_chunks.proofs.entering.fresh_chunks.Goals as goal

pub new_chunk-requires : goal.new_chunk-requires
new_chunk-requires c = rw c.cut.ensures.front (cut-size c.args.fresh.limit (2 ^ 32) (entries_in c.loop-rest.rest) c.loop-rest.invariant.size)

pub loop-rest-preserved : goal.loop-rest-preserved
loop-rest-preserved c =
    let es = entries_in c.loop-rest.rest in
    let old = c.loop-rest.chunks.items in
    let k = cut_count c.args.fresh.limit es in
    let n = c.args.fresh.first + length old in
    let tag = c.args.fresh.tag.now in
    let some : 0 < length es = search rules in
    let len : c.len.result ≡ length old = search rules in
    let stage : stage_last c.is_empty-in-loop-rest.result ≡ stage_before (drop k es) = ap stage_last c.is_empty-in-loop-rest.ensures ∙ last-stage (entries_in c.cut.result.1) ∙ ap stage_before c.cut.ensures.back in
    let chunk : c.in_ok-new_chunk.field-0 ≡ record { number = n; tag = tag; entries = take k es; since = c.args.fresh.since; stage = stage_before (drop k es); losses = None } =
    c.in_ok-new_chunk.ensures ∙ (λ i. record { number = c.args.fresh.first + len i; tag = tag; entries = c.cut.ensures.front i; since = c.args.fresh.since; stage = stage i; losses = None }) in
    let items : c.push.new.self.items ≡ old ++ record { number = n; tag = tag; entries = take k es; since = c.args.fresh.since; stage = stage_before (drop k es); losses = None } ∷ [] = c.in_ok-push.ensures.items ∙ ap (λ x. old ++ x ∷ []) chunk in
    let count : c.args.fresh.first + length c.push.new.self.items ≡ n + 1 = omega (arith, ap length items, length-append old (record { number = n; tag = tag; entries = take k es; since = c.args.fresh.since; stage = stage_before (drop k es); losses = None } ∷ [])) in
    record {
      made = (λ i. items i ++ fresh_of c.args.fresh.limit tag c.args.fresh.since (count i) (c.cut.ensures.back i))
          ∙ append_assoc old (record { number = n; tag = tag; entries = take k es; since = c.args.fresh.since; stage = stage_before (drop k es); losses = None } ∷ []) (fresh_of c.args.fresh.limit tag c.args.fresh.since (n + 1) (drop k es))
          ∙ ap (λ l. old ++ l) (sym (fresh-first c.args.fresh.limit tag c.args.fresh.since n es some))
          ∙ c.loop-rest.invariant.made;
      numbers = omega (arith, count, ap (needed c.args.fresh.limit) c.cut.ensures.back, needed-first c.args.fresh.limit es some, c.loop-rest.invariant.numbers);
      size = rw c.cut.ensures.back (omega (arith, size-drop k es, c.loop-rest.invariant.size));
    }
