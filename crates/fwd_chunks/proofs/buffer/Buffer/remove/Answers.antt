use Rattle.std.proofs.Common.{◌≡◌, ◌≤◌, ℕ, List, ◌+◌, ◌-◌, cond, length, find, Some, None, sym, ap, ◌∙◌, subst, arith}
use Rattle.std.specs.Prelude.{filter, not}
use Rattle.std.specs.Str.{bytes_eq}
use Rattle.fwd_chunks.specs.Cells.{size_of}
use Rattle.fwd_chunks.specs.Live.{is_at, live_settles}
use Rattle.fwd_chunks.specs.Stored.{IsStored}
use Rattle.fwd_chunks.specs.Soundness.{IsWithin}
use Rattle.fwd_chunks.specs.Newest.{tag_entry, held_by, bytes_by}
use Rattle.fwd_chunks.proofs.Places.{filter-gone}
use Rattle.fwd_chunks.proofs.Sounding.{all-filter}
use Rattle.fwd_chunks.proofs.Opened.{newest-filter}
use Rattle.fwd_chunks.proofs.Counted.{leaves-with, leaves-count, leaves-size, leaves-all, counted-without, kept-each, Leaves}
use Rattle.fwd_chunks.proofs.Calls.{size-found, settled-fits, settles-stored, settles-is, settles-none}
use Rattle.fwd_chunks.proofs.buffer.Buffer.remove.Goals as goal
use Rattle.fwd_chunks.specs.contracts.buffer.Buffer.{the_view}

pub overflow_sub-self : goal.overflow_sub-self
overflow_sub-self c =
    omega (arith, c.size-size.ensures.value, size-found (the_view c.self.inside) c.args.number c.self.inside.bytes c.in-Some.chunk c.self.invariant.stored (sym c.in-Some.ensures.result))

pub overflow_add-self : goal.overflow_add-self
overflow_add-self c =
    omega (arith, c.len-count.ensures, settled-fits (the_view c.self.inside) c.args.number c.self.inside.bytes c.in-Some.chunk c.self.invariant.stored (sym c.in-Some.ensures.result), c.self.invariant.stored.sound.accepted)

pub take-requires-clause-held : goal.take-requires-clause-held
take-requires-clause-held c =
    let e : find (is_at c.args.number) c.self.inside.index.chunks ≡ Some c.in-Some.chunk = sym c.in-Some.ensures.result in
    let le : length c.in-Some.chunk.entries ≤ held_by (tag_entry c.in-Some.chunk.tag c.self.inside.tags) = leaves-count c.self.inside.tags c.args.number c.self.inside.index.chunks c.in-Some.chunk (leaves-with c.self.inside.tags c.args.number c.self.inside.index.chunks c.in-Some.chunk c.self.invariant.stored.sound.in_order e c.self.invariant.counted) in
    rw (c.as_slice.ensures, c.len-count.ensures) le

pub take-requires-clause-bytes : goal.take-requires-clause-bytes
take-requires-clause-bytes c =
    let e : find (is_at c.args.number) c.self.inside.index.chunks ≡ Some c.in-Some.chunk = sym c.in-Some.ensures.result in
    let le : size_of c.in-Some.chunk.entries ≤ bytes_by (tag_entry c.in-Some.chunk.tag c.self.inside.tags) = leaves-size c.self.inside.tags c.args.number c.self.inside.index.chunks c.in-Some.chunk (leaves-with c.self.inside.tags c.args.number c.self.inside.index.chunks c.in-Some.chunk c.self.invariant.stored.sound.in_order e c.self.invariant.counted) in
    rw (c.as_slice.ensures, c.size-size.ensures.value) le

pub take-requires-clause-all : goal.take-requires-clause-all
take-requires-clause-all c =
    let e : find (is_at c.args.number) c.self.inside.index.chunks ≡ Some c.in-Some.chunk = sym c.in-Some.ensures.result in
    rw (c.as_slice.ensures, c.len-count.ensures, c.size-size.ensures.value) (leaves-all c.self.inside.tags c.args.number c.self.inside.index.chunks c.in-Some.chunk (leaves-with c.self.inside.tags c.args.number c.self.inside.index.chunks c.in-Some.chunk c.self.invariant.stored.sound.in_order e c.self.invariant.counted))

pub invariant_of-self : goal.invariant_of-self
invariant_of-self c =
    let r = c.in-Some.chunk in
    let n = c.args.number in
    let v = the_view c.self.inside in
    let chunks = c.self.inside.index.chunks in
    let own = c.self.invariant.stored in
    let e : find (is_at c.args.number) c.self.inside.index.chunks ≡ Some c.in-Some.chunk = sym c.in-Some.ensures.result in
    let leaves : Leaves c.self.inside.tags c.args.number c.self.inside.index.chunks c.in-Some.chunk = leaves-with c.self.inside.tags n chunks r own.sound.in_order e c.self.invariant.counted in
    let held : (t : List ℕ) → held_by (tag_entry t c.take.new.self) ≡ held_by (tag_entry t c.self.inside.tags) - cond (bytes_eq c.in-Some.chunk.tag t) (length c.in-Some.chunk.entries) 0 = λ t. c.take.ensures.held t ∙ (λ i. held_by (tag_entry t c.self.inside.tags) - cond (bytes_eq (c.as_slice.ensures i) t) (c.len-count.ensures i) 0) in
    let bytes : (t : List ℕ) → bytes_by (tag_entry t c.take.new.self) ≡ bytes_by (tag_entry t c.self.inside.tags) - cond (bytes_eq c.in-Some.chunk.tag t) (size_of c.in-Some.chunk.entries) 0 = λ t. c.take.ensures.bytes t ∙ (λ i. bytes_by (tag_entry t c.self.inside.tags) - cond (bytes_eq (c.as_slice.ensures i) t) (c.size-size.ensures.value i) 0) in
    let counted = counted-without c.self.inside.tags n chunks r leaves c.take.new.self held bytes (c.take.ensures.some c.self.invariant.counted.some) in
    rw (c.in-Some.ensures.left, c.len-count.ensures, c.size-size.ensures.value)
    (record {
      stored = subst (λ b. IsStored b (c.self.inside.bytes - size_of r.entries)) (sym (settles-is v n c.self.inside.bytes r own e)) (settles-stored v n c.self.inside.bytes r own e);
      newest = newest-filter c.self.inside.tags c.take.new.self n chunks c.take.ensures.number
          (kept-each c.take.new.self v.setting.limits.chunk (filter (λ d. not (is_at n d)) chunks) (all-filter (IsWithin v.setting.limits.chunk) (λ d. not (is_at n d)) chunks own.sound.within) counted.held) c.self.invariant.newest;
      counted = counted;
      waits = c.self.invariant.waits;
    })

pub invariant_of-self-in_default : goal.invariant_of-self-in_default
invariant_of-self-in_default c =
    let none : find (is_at c.args.number) c.self.inside.index.chunks ≡ None = sym c.in_default.ensures.result in
    rw (c.in_default.ensures.left, (filter-gone c.args.number c.self.inside.index.chunks none).1) (record {
      stored = c.self.invariant.stored;
      newest = c.self.invariant.newest;
      counted = c.self.invariant.counted;
      waits = c.self.invariant.waits;
    })

pub returns-in-Some : goal.returns-in-Some
returns-in-Some c =
    let v = the_view c.self.inside in
    let e : find (is_at c.args.number) c.self.inside.index.chunks ≡ Some c.in-Some.chunk = sym c.in-Some.ensures.result in
    (λ i. record v { chunks = ap (λ h. h.chunks) c.in-Some.ensures.left i; greatest = ap (λ h. h.last) c.in-Some.ensures.left i; settled = c.self.inside.settled + c.len-count.ensures i })
    ∙ settles-is v c.args.number c.self.inside.bytes c.in-Some.chunk c.self.invariant.stored e
    ∙ ap (λ b. live_settles b c.args.number) c.self.view_is

pub returns-in_default : goal.returns-in_default
returns-in_default c =
    let v = the_view c.self.inside in
    let none : find (is_at c.args.number) c.self.inside.index.chunks ≡ None = sym c.in_default.ensures.result in
    (λ i. record v { chunks = ap (λ h. h.chunks) c.in_default.ensures.left i; greatest = ap (λ h. h.last) c.in_default.ensures.left i })
    ∙ settles-none v c.args.number none
    ∙ ap (λ b. live_settles b c.args.number) c.self.view_is
