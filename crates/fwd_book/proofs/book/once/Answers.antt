use Rattle.std.proofs.Common.{arith, ◌≡◌, ◌+◌, ℕ, suc, Bool, true, false, cond, List, [], ◌∷◌, ◌++◌, take, sym, ap, ◌∙◌}
use Rattle.std.specs.Prelude.{not, slice_index_or, if◌then◌else◌}
use Rattle.std.specs.List.{list_any}
use Rattle.std.proofs.lemmas.List.{append-nil}
use Rattle.std.proofs.Math.Seq.{take-suc}
use Rattle.fwd_modes.specs.declared.origin.Origin.{Origin}
use Rattle.fwd_book.specs.History.{is_origin, is_among}
use Rattle.fwd_book.specs.Receipts.{once}
use Rattle.fwd_book.specs.Slots.{key_of, is_key}
use Rattle.fwd_book.proofs.Keeping.{once-then, known-then}
use Rattle.fwd_book.proofs.book.once.Goals as goal
use Rattle.fwd_book.proofs.book.once.Goals.{then-branch+in_ok-push, else-branch}

turn : (a b : Bool) → a ≡ not b → (k : Bool) → a ≡ k → b ≡ not k
turn a true is k same = ap not (sym is ∙ same)
turn a false is k same = ap not (sym is ∙ same)

pub loop-origin-preserved : goal.loop-origin-preserved
loop-origin-preserved c =
    let d : Origin = record { conn = 0; request = 0 } in
    let at : ℕ = c.loop-origin.origin-index in
    let done : List Origin = take at c.args.origins.now in
    let o : Origin = slice_index_or c.args.origins.now at d in
    let one_more : at + 1 ≡ suc at = omega arith in
    let next : take (at + 1) c.args.origins.now ≡ done ++ o ∷ [] = ap (λ k. take k c.args.origins.now) one_more ∙ take-suc c.args.origins.now at d c.loop-origin-test.true in
    let added : c.in_ok-insert.field-0 ≡ not (is_among done o) = c.in_ok-insert.ensures.added ∙ ap not (c.loop-origin.invariant.known o) in
    let more : once (take (at + 1) c.args.origins.now) ≡ once done ++ (if is_among done o then [] else o ∷ []) = ap once next ∙ once-then done o in
    record {
      asked = elim c.if-branch.branch [
        | then-branch+in_ok-push w ↦
            ap (λ v. v.items) w.asked-is ∙ w.in_ok-push.ensures.items ∙ ap (λ os. os ++ o ∷ []) c.loop-origin.invariant.asked
            ∙ ap (λ a. once done ++ (if a then [] else o ∷ [])) (sym (turn c.in_ok-insert.field-0 (is_among done o) added true w.if-branch.true)) ∙ sym more
        | else-branch w ↦
            ap (λ v. v.items) w.asked-is ∙ c.loop-origin.invariant.asked ∙ sym (append-nil (once done))
            ∙ ap (λ a. once done ++ (if a then [] else o ∷ [])) (sym (turn c.in_ok-insert.field-0 (is_among done o) added false w.if-branch.false)) ∙ sym more
      ];
      known = λ p.
          known-then done o p (list_any (is_key (key_of p)) c.insert.new.self.keys) (c.in_ok-insert.ensures.updates.0 (key_of p) ∙ (λ i. cond (is_origin o p) true (c.loop-origin.invariant.known p i)))
          ∙ ap (λ os. is_among os p) (sym next);
    }
