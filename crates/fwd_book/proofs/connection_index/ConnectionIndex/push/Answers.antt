use Rattle.std.proofs.Common.{◌≡◌, ℕ, Some, None, cond, refl, sym, ap, ◌∙◌}
use Rattle.std.specs.Prelude.{◌==◌, option_map}
use Rattle.std.proofs.lemmas.Bool.{eq-eqb}
use Rattle.slab.specs.Slab.{get}
use Rattle.fwd_book.specs.declared.connection_index.LinkedRequest.{LinkedRequest}
use Rattle.fwd_book.specs.Slots.{request_of, held_at}
use Rattle.fwd_book.specs.Links.{ends_at, is_the, leads_to, with_last}
use Rattle.fwd_book.proofs.Chaining.{kept_with}
use Rattle.fwd_book.proofs.Seats.{updated, either-request, later-request, held-either}
use Rattle.fwd_book.proofs.Standing.{within-with, held-ends}
use Rattle.fwd_book.proofs.connection_index.ConnectionIndex.push.Goals as goal

pub returns-clause-chained : goal.returns-clause-chained
returns-clause-chained c = λ order chained fresh.
    let slot : ℕ = c.insert_reserved.result in
    let own : LinkedRequest = record { request = c.args.request; link = record { earlier = c.put_last-earlier.result; later = None } } in
    let conn : ℕ = c.args.request.origin.conn in
    let at : c.vacant_key-slot.result ≡ slot = c.vacant_key-slot.ensures.value ∙ sym c.set_later.ensures.next ∙ sym c.insert_reserved.ensures.key in
    let empty : get c.args.self.now.kept slot ≡ None = ap (get c.args.self.now.kept) (sym at) ∙ c.vacant_key-slot.ensures.vacant in
    kept_with (get c.args.self.now.kept) (get c.insert_reserved.new.self) c.args.self.now.ends.entries c.put_last-earlier.new.ends.entries order chained conn slot own (eq-eqb conn conn refl) empty
    (c.put_last-earlier.ensures.earlier ∙ (λ i. option_map (λ e. e.last) (ends_at c.args.self.now.ends.entries (c.origin.ensures i).conn)))
    refl
    (λ k. updated c.set_later.new.kept c.insert_reserved.new.self slot (Some own) c.insert_reserved.ensures.updates k
    ∙ ap (cond (slot == k) (Some own)) (c.set_later.ensures.linked k ∙ (λ i. cond (is_the c.put_last-earlier.result k) (option_map (leads_to (Some (at i))) (get c.args.self.now.kept k)) (get c.args.self.now.kept k))))
    (λ n. c.put_last-earlier.ensures.last n
    ∙ (λ i. cond ((c.origin.ensures i).conn == n) (Some (with_last (c.origin.ensures i).request (at i) (ends_at c.args.self.now.ends.entries (c.origin.ensures i).conn))) (ends_at c.args.self.now.ends.entries n)))
    fresh

pub returns-clause-held : goal.returns-clause-held
returns-clause-held c = λ k.
    let slot : ℕ = c.insert_reserved.result in
    let own : LinkedRequest = record { request = c.args.request; link = record { earlier = c.put_last-earlier.result; later = None } } in
    let old = get c.args.self.now.kept k in
    ap request_of (updated c.set_later.new.kept c.insert_reserved.new.self slot (Some own) c.insert_reserved.ensures.updates k)
    ∙ held-either (slot == k) (Some own) (get c.set_later.new.kept k)
    ∙ ap (cond (slot == k) (Some c.args.request)) (ap request_of (c.set_later.ensures.linked k)
    ∙ either-request (is_the c.put_last-earlier.result k) (option_map (leads_to (Some c.vacant_key-slot.result)) old) old (later-request (Some c.vacant_key-slot.result) old))

pub returns-clause-within : goal.returns-clause-within
returns-clause-within c = λ order chained within.
    let slot : ℕ = c.insert_reserved.result in
    let at : c.vacant_key-slot.result ≡ slot = c.vacant_key-slot.ensures.value ∙ sym c.set_later.ensures.next ∙ sym c.insert_reserved.ensures.key in
    within-with (held_at c.args.self.now.kept) (held_at c.insert_reserved.new.self) slot c.args.request (returns-clause-held c) c.args.self.now.ends.entries c.put_last-earlier.new.ends.entries
    (λ n. c.put_last-earlier.ensures.last n
    ∙ (λ i. cond ((c.origin.ensures i).conn == n) (Some (with_last (c.origin.ensures i).request (at i) (ends_at c.args.self.now.ends.entries (c.origin.ensures i).conn))) (ends_at c.args.self.now.ends.entries n)))
    (held-ends c.args.self.now.kept c.args.self.now.ends.entries order chained) within
