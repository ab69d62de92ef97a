use Rattle.std.proofs.Common.{◌≡◌, false, cond, Some, None, find, refl, sym, ap, ◌∙◌, subst}
use Rattle.std.specs.Prelude.{option_map, option_copied}
use Rattle.fwd_chunks.specs.Live.{is_at, live_carried_chunk, live_carried, IsCarried}
use Rattle.fwd_chunks.proofs.Numbers.{true_false}
use Rattle.fwd_chunks.proofs.Places.{if_taken}
use Rattle.fwd_chunks.proofs.Calls.{carried-by, carried-none}
use Rattle.fwd_chunks.proofs.buffer.Buffer.carries.Goals as goal
use Rattle.fwd_chunks.specs.contracts.buffer.Buffer.{the_view}
use Rattle.std.proofs.lemmas.Option.{same_Some}

pub returns-in-None : goal.returns-in-None
returns-in-None c =
    let n = c.args.carried.now.number in
    let v = the_view c.self.inside in
    let found : find (is_at n) c.self.inside.index.chunks ≡ None = ap (λ k. find (is_at k) c.self.inside.index.chunks) (sym c.number.ensures) ∙ sym c.get.ensures ∙ ap option_copied c.in-None.is in
    let none : live_carried v n ≡ None = carried-by v n c.self.invariant.stored.sound ∙ ap (λ o. option_map (live_carried_chunk v) (if_taken o)) found in
    ((λ t. absurd (true_false false t refl)), (λ is. absurd (carried-none v c.args.carried.now none (subst (λ b. IsCarried b c.args.carried.now) (sym c.self.view_is) is))))

pub returns-then-is_taken : goal.returns-then-is_taken
returns-then-is_taken c =
    let n = c.args.carried.now.number in
    let v = the_view c.self.inside in
    let r = c.in-Some.chunk.now in
    let found : find (is_at n) c.self.inside.index.chunks ≡ Some c.in-Some.chunk.now = ap (λ k. find (is_at k) c.self.inside.index.chunks) (sym c.number.ensures) ∙ sym c.get.ensures ∙ ap option_copied c.in-Some.is in
    let has : live_carried v n ≡ Some (live_carried_chunk v r) = carried-by v n c.self.invariant.stored.sound ∙ ap (λ o. option_map (live_carried_chunk v) (if_taken o)) found ∙ ap (λ t. option_map (live_carried_chunk v) (cond t (Some r) None)) (sym c.if-is_taken.ensures) in (
      (λ t. subst (λ b. IsCarried b c.args.carried.now) c.self.view_is (has ∙ ap Some (sym (c.is.ensures.0 t ∙ (λ i. record { number = r.number; tag = r.tag; entries = r.entries; name = c.chunk_name-name.ensures i }))))),
      (λ is. c.is.ensures.1 (sym (same_Some _ _ (sym has ∙ subst (λ b. IsCarried b c.args.carried.now) (sym c.self.view_is) is)) ∙ (λ i. record { number = r.number; tag = r.tag; entries = r.entries; name = sym c.chunk_name-name.ensures i }))),
    )

pub returns-else-is_taken : goal.returns-else-is_taken
returns-else-is_taken c =
    let n = c.args.carried.now.number in
    let v = the_view c.self.inside in
    let r = c.in-Some.chunk.now in
    let found : find (is_at n) c.self.inside.index.chunks ≡ Some c.in-Some.chunk.now = ap (λ k. find (is_at k) c.self.inside.index.chunks) (sym c.number.ensures) ∙ sym c.get.ensures ∙ ap option_copied c.in-Some.is in
    let none : live_carried v n ≡ None = carried-by v n c.self.invariant.stored.sound ∙ ap (λ o. option_map (live_carried_chunk v) (if_taken o)) found ∙ ap (λ t. option_map (live_carried_chunk v) (cond t (Some r) None)) (sym c.if-is_taken.ensures) in
    ((λ t. absurd (true_false c.is_taken.result t c.if-is_taken.false)), (λ is. absurd (carried-none v c.args.carried.now none (subst (λ b. IsCarried b c.args.carried.now) (sym c.self.view_is) is))))
