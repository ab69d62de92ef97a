use Rattle.std.proofs.Common.{arith, ◌≡◌, ◌+◌, ℕ, suc, Bool, cond, Option, List, ◌++◌, ◌∷◌, [], Some, take, sym, ap, ◌∙◌}
use Rattle.std.specs.Prelude.{map, filter, slice_get, option_copied, option_to_list}
use Rattle.std.specs.List.{flat_map}
use Rattle.std.proofs.lemmas.List.{take_all, append-nil}
use Rattle.std.proofs.lemmas.Grind.{flat_map-append}
use Rattle.slab.specs.Slab.{get}
use Rattle.fwd_modes.specs.declared.origin.Origin.{Origin}
use Rattle.fwd_book.specs.declared.connection_index.LinkedRequest.{LinkedRequest}
use Rattle.fwd_book.specs.History.{Entered}
use Rattle.fwd_book.specs.ChunkRefs.{is_asked}
use Rattle.fwd_book.specs.Slots.{held_at, request_of}
use Rattle.fwd_book.specs.Links.{link_of, passing_at}
use Rattle.fwd_book.proofs.Chaining.{own_there, later_there}
use Rattle.fwd_book.proofs.Standing.{some-given}
use Rattle.fwd_book.proofs.Linking.{take_next, take_whole}
use Rattle.fwd_book.proofs.connection_index.ConnectionIndex.origins.Goals as goal
use Rattle.fwd_book.proofs.connection_index.ConnectionIndex.origins.Goals.{then-is_asked+in_ok-push, else-is_asked, else-loop-test, then-loop-test+in_default, then-loop-test+in-Some+in_default-get}

pub returns-in_err-push-clause-none : goal.returns-in_err-push-clause-none
returns-in_err-push-clause-none c = λ order chained none.
    let rs : List ℕ = order c.args.conn in
    let held : ℕ → Option Entered = held_at c.args.self.now.kept in
    let test : Entered → Bool = is_asked (option_copied c.args.chunk_refs) in
    let f : ℕ → List Origin = passing_at test held in
    let so_far = c.loop.invariant order chained in
    let at : slice_get rs c.loop.counter ≡ Some c.in-Some.slot = sym so_far.1 ∙ c.in-Some.is in
    let k : LinkedRequest = c.in-Some-get.kept.now in
    let there : get c.args.self.now.kept c.in-Some.slot ≡ Some k = sym c.in-Some-get.ensures in
    let passes : c.is_asked.result ≡ test k.request = c.is_asked.ensures in
    let own : f c.in-Some.slot ≡ map (λ q. q.origin) (cond c.is_asked.result (k.request ∷ []) []) =
    ap (λ x. map (λ q. q.origin) (filter test (option_to_list (request_of x)))) there ∙ ap (λ b. map (λ q. q.origin) (cond b (k.request ∷ []) [])) (sym passes) in
    absurd (some-given f rs c.loop.counter c.in-Some.slot k.request.origin at (own ∙ ap (λ b. map (λ q. q.origin) (cond b (k.request ∷ []) [])) c.if-is_asked.true) none)

pub loop-preserved : goal.loop-preserved
loop-preserved c = λ order chained.
    let rs : List ℕ = order c.args.conn in
    let held : ℕ → Option Entered = held_at c.args.self.now.kept in
    let test : Entered → Bool = is_asked (option_copied c.args.chunk_refs) in
    let f : ℕ → List Origin = passing_at test held in
    let so_far = c.loop.invariant order chained in
    let at : slice_get rs c.loop.counter ≡ Some c.in-Some.slot = sym so_far.1 ∙ c.in-Some.is in
    let k : LinkedRequest = c.in-Some-get.kept.now in
    let there : get c.args.self.now.kept c.in-Some.slot ≡ Some k = sym c.in-Some-get.ensures in
    let passes : c.is_asked.result ≡ test k.request = c.is_asked.ensures in
    let own : f c.in-Some.slot ≡ map (λ q. q.origin) (cond c.is_asked.result (k.request ∷ []) []) =
    ap (λ x. map (λ q. q.origin) (filter test (option_to_list (request_of x)))) there ∙ ap (λ b. map (λ q. q.origin) (cond b (k.request ∷ []) [])) (sym passes) in
    let next : c.loop.counter + 1 ≡ suc c.loop.counter = omega arith in
    let more : flat_map f (take c.loop.counter rs) ++ (map (λ q. q.origin) (cond c.is_asked.result (k.request ∷ []) []) ++ []) ≡ flat_map f (take (c.loop.counter + 1) rs) =
    (λ i. flat_map f (take c.loop.counter rs) ++ (sym own i ++ []))
    ∙ sym (flat_map-append f (take c.loop.counter rs) (c.in-Some.slot ∷ []))
    ∙ ap (flat_map f) (sym (take_next rs c.loop.counter (c.loop.counter + 1) c.in-Some.slot next at)) in (
      elim c.if-is_asked.branch [
        | then-is_asked+in_ok-push w ↦
            ap (λ v. v.items) w.origins-is ∙ w.in_ok-push.ensures.items
            ∙ (λ i. so_far.0 i ++ w.origin.ensures i ∷ [])
            ∙ ap (λ b. flat_map f (take c.loop.counter rs) ++ (map (λ q. q.origin) (cond b (k.request ∷ []) []) ++ [])) (sym w.if-is_asked.true)
            ∙ more
        | else-is_asked w ↦
            ap (λ v. v.items) w.origins-is ∙ so_far.0 ∙ sym (append-nil (flat_map f (take c.loop.counter rs)))
            ∙ ap (λ b. flat_map f (take c.loop.counter rs) ++ (map (λ q. q.origin) (cond b (k.request ∷ []) []) ++ [])) (sym w.if-is_asked.false)
            ∙ more
      ],
      later_there (get c.args.self.now.kept) (get c.args.self.now.kept) c.args.self.now.ends.entries c.args.self.now.ends.entries order chained c.args.conn c.loop.counter c.in-Some.slot k there at
          ∙ ap (slice_get rs) (sym next),
    )

pub returns-clause-asked : goal.returns-clause-asked
returns-clause-asked c = λ order chained few.
    let rs : List ℕ = order c.args.conn in
    let f : ℕ → List Origin = passing_at (is_asked (option_copied c.args.chunk_refs)) (held_at c.args.self.now.kept) in
    let so_far = c.loop.invariant order chained in
    so_far.0 ∙ ap (flat_map f) (elim c.loop-test.branch [
      | else-loop-test w ↦ take_all c.loop.counter rs (omega (arith, few, c.len-end.ensures, w.loop-test.false))
      | then-loop-test+in_default w ↦ take_whole rs c.loop.counter (sym so_far.1 ∙ w.in_default.is)
      | then-loop-test+in-Some+in_default-get w ↦
          absurd (own_there (get c.args.self.now.kept) (get c.args.self.now.kept) c.args.self.now.ends.entries c.args.self.now.ends.entries order chained c.args.conn c.loop.counter w.in-Some.slot (sym so_far.1 ∙ w.in-Some.is) (ap (link_of c.args.conn) (sym w.in_default-get.ensures)))
    ])
