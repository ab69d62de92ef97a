use Rattle.std.proofs.Common.{rules, ◌≡◌, ◌⊎◌, inl, inr, refl, ℕ, zero, suc, true, false, List, [], ◌∷◌, Option, drop, cond, ◌+◌, ◌-◌, ◌≤◌, ◌<◌, ◌^◌, ◌++◌, length, max, Some, None, sym, ap, ◌∙◌, subst, arith}
use Rattle.std.specs.Prelude.{find, map, ◌==◌, is_some, option_map, IfSome, IfNone, IsSome, option_copied}
use Rattle.std.proofs.lemmas.Bool.{cases_lt}
use Rattle.fwd_chunks.specs.declared.chunk.Chunk.{Chunk}
use Rattle.fwd_chunks.specs.declared.tag_entry.TagEntry.{TagEntry}
use Rattle.std.specs.Str.{bytes_eq}
use Rattle.fwd_modes.specs.declared.limits.TheConstants.{TAG_LIMIT}
use Rattle.fwd_chunks.specs.Cells.{size_of}
use Rattle.fwd_chunks.specs.Live.{LiveBuffer, is_at, is_open_of, live_next_number, live_enters, live_spans, live_refusal}
use Rattle.fwd_chunks.specs.Soundness.{AreInOrder}
use Rattle.fwd_chunks.specs.Stored.{IsStored}
use Rattle.fwd_chunks.specs.Plans.{IsPlan}
use Rattle.fwd_chunks.specs.Filling.{fresh_of, needed, joining_to, joined_span, span_of, stage_last, filled_in}
use Rattle.fwd_chunks.specs.Slots.{Held, AreAbove, last_of}
use Rattle.fwd_chunks.specs.Parts.{entries_in}
use Rattle.fwd_chunks.specs.Newest.{tag_entry, tag_number, held_by, bytes_by, AreNewest, AreCounted}
use Rattle.fwd_chunks.proofs.Packing.{size_joined}
use Rattle.fwd_chunks.proofs.Closing.{number-found}
use Rattle.fwd_chunks.proofs.Admission.{numbers-fit, first-is, room-left, fresh-above, entered, entered-spans, joining-fits, size-drop, enters-stored}
use Rattle.fwd_chunks.proofs.Opened.{newest-kept, newest-entered, found-same}
use Rattle.fwd_chunks.proofs.Counted.{joined-has, number-some, counted-entered, held-fits, bytes-among}
use Rattle.fwd_chunks.specs.contracts.buffer.Buffer.{the_view}
use Rattle.fwd_chunks.proofs.buffer.Buffer.enter.Goals as goal
use Rattle.std.proofs.lemmas.Option.{same_Some}

pub fresh_chunks-requires-clause-numbers : goal.fresh_chunks-requires-clause-numbers
fresh_chunks-requires-clause-numbers c =
    let v = the_view c.self.inside in
    let r = c.args.batch.now in
    let p = c.args.plan in
    let own = c.self.invariant.stored in
    let plan : IsPlan (the_view c.self.inside) c.args.batch.now c.args.plan = subst (λ (x : LiveBuffer). IsPlan x c.args.batch.now c.args.plan) (sym c.self.view_is) c.requires.planned in
    let free : live_refusal (the_view c.self.inside) c.args.batch.now c.args.now ≡ None = ap (λ x. live_refusal x c.args.batch.now c.args.now) c.self.view_is ∙ c.requires.fits in
    let room = room-left v r c.args.now p own.sound plan free in
    let next : 0 < p.needed → c.unwrap_or-first.result ≡ live_next_number v = λ up. c.unwrap_or-first.ensures ∙ first-is c.next_number.result (live_next_number v) p.needed
    (subst (λ (x : LiveBuffer). IfSome c.next_number.result (λ n. n ≡ live_next_number x)) (sym c.self.view_is) c.next_number.ensures.some)
    (subst (λ (x : LiveBuffer). IfNone c.next_number.result (live_next_number x ≡ 2 ^ 64)) (sym c.self.view_is) c.next_number.ensures.none) room.0 up in
    let same : needed c.from-limit.result (entries_in p.back) ≡ p.needed = ap (λ n. needed n (entries_in p.back)) c.from-limit.ensures ∙ sym plan.needs in
    rw same (numbers-fit c.unwrap_or-first.result (live_next_number v) p.needed c.unwrap_or-first.type_inv room.0 next)

pub fresh_chunks-requires-clause-size : goal.fresh_chunks-requires-clause-size
fresh_chunks-requires-clause-size c =
    let v = the_view c.self.inside in
    let r = c.args.batch.now in
    let p = c.args.plan in
    let own = c.self.invariant.stored in
    let plan : IsPlan (the_view c.self.inside) c.args.batch.now c.args.plan = subst (λ (x : LiveBuffer). IsPlan x c.args.batch.now c.args.plan) (sym c.self.view_is) c.requires.planned in
    let free : live_refusal (the_view c.self.inside) c.args.batch.now c.args.now ≡ None = ap (λ x. live_refusal x c.args.batch.now c.args.now) c.self.view_is ∙ c.requires.fits in
    let room = room-left v r c.args.now p own.sound plan free in
    omega (arith, ap size_of plan.back, size-drop (joining_to c.self.inside.limits.chunk (find (is_open_of r.tag) c.self.inside.index.chunks) r.entries) r.entries, size_joined r.entries, c.entries.ensures.bound)

pub newest_of-newest-requires : goal.newest_of-newest-requires
newest_of-newest-requires c =
    let v = the_view c.self.inside in
    let r = c.args.batch.now in
    let p = c.args.plan in
    let own = c.self.invariant.stored in
    let plan : IsPlan (the_view c.self.inside) c.args.batch.now c.args.plan = subst (λ (x : LiveBuffer). IsPlan x c.args.batch.now c.args.plan) (sym c.self.view_is) c.requires.planned in
    let free : live_refusal (the_view c.self.inside) c.args.batch.now c.args.now ≡ None = ap (λ x. live_refusal x c.args.batch.now c.args.now) c.self.view_is ∙ c.requires.fits in
    let room = room-left v r c.args.now p own.sound plan free in
    let next : 0 < p.needed → c.unwrap_or-first.result ≡ live_next_number v = λ up. c.unwrap_or-first.ensures ∙ first-is c.next_number.result (live_next_number v) p.needed
    (subst (λ (x : LiveBuffer). IfSome c.next_number.result (λ n. n ≡ live_next_number x)) (sym c.self.view_is) c.next_number.ensures.some)
    (subst (λ (x : LiveBuffer). IfNone c.next_number.result (live_next_number x ≡ 2 ^ 64)) (sym c.self.view_is) c.next_number.ensures.none) room.0 up in
    λ up. omega (arith, next up, room.0)

pub invariant_of-self-in_err-prepare : goal.invariant_of-self-in_err-prepare
invariant_of-self-in_err-prepare c =
    let kept : c.reserve.new.self.chunks ≡ c.self.inside.index.chunks = ap (λ (h : Held). h.chunks) c.in_ok-reserve.ensures.kept in
    let kept_last : c.reserve.new.self.last ≡ c.self.inside.index.last = ap (λ (h : Held). h.last) c.in_ok-reserve.ensures.kept in
    let kept_retry : c.reserve.new.self.retry ≡ c.self.inside.index.retry = ap (λ (h : Held). h.retry) c.in_ok-reserve.ensures.kept in
    rw (kept, kept_last, kept_retry, c.in_err-prepare.ensures.err) (record {
      stored = c.self.invariant.stored;
      newest = c.self.invariant.newest;
      counted = c.self.invariant.counted;
      waits = c.self.invariant.waits;
    })

pub fill-requires-clause-rising : goal.fill-requires-clause-rising
fill-requires-clause-rising c =
    let v = the_view c.self.inside in
    let r = c.args.batch.now in
    let p = c.args.plan in
    let own = c.self.invariant.stored in
    let plan : IsPlan (the_view c.self.inside) c.args.batch.now c.args.plan = subst (λ (x : LiveBuffer). IsPlan x c.args.batch.now c.args.plan) (sym c.self.view_is) c.requires.planned in
    let free : live_refusal (the_view c.self.inside) c.args.batch.now c.args.now ≡ None = ap (λ x. live_refusal x c.args.batch.now c.args.now) c.self.view_is ∙ c.requires.fits in
    let room = room-left v r c.args.now p own.sound plan free in
    let next : 0 < p.needed → c.unwrap_or-first.result ≡ live_next_number v = λ up. c.unwrap_or-first.ensures ∙ first-is c.next_number.result (live_next_number v) p.needed
    (subst (λ (x : LiveBuffer). IfSome c.next_number.result (λ n. n ≡ live_next_number x)) (sym c.self.view_is) c.next_number.ensures.some)
    (subst (λ (x : LiveBuffer). IfNone c.next_number.result (live_next_number x ≡ 2 ^ 64)) (sym c.self.view_is) c.next_number.ensures.none) room.0 up in
    let made : c.in_ok-fresh.fresh.items ≡ fresh_of c.self.inside.limits.chunk r.tag (max c.self.inside.moment c.args.now) c.unwrap_or-first.result (entries_in p.back) =
    c.in_ok-fresh.ensures ∙ (λ i. fresh_of (c.from-limit.ensures i) (c.tag-tag.ensures.value i) (c.max-moment.ensures i) c.unwrap_or-first.result (entries_in p.back)) in
    let kept : c.reserve.new.self.chunks ≡ c.self.inside.index.chunks = ap (λ (h : Held). h.chunks) c.in_ok-reserve.ensures.kept in
    let kept_last : c.reserve.new.self.last ≡ c.self.inside.index.last = ap (λ (h : Held). h.last) c.in_ok-reserve.ensures.kept in
    let kept_retry : c.reserve.new.self.retry ≡ c.self.inside.index.retry = ap (λ (h : Held). h.retry) c.in_ok-reserve.ensures.kept in
    let needs : 0 < needed c.self.inside.limits.chunk (entries_in p.back) → c.unwrap_or-first.result ≡ live_next_number v = λ up. next (omega (arith, up, plan.needs)) in
    subst (λ o. AreAbove o c.in_ok-fresh.fresh.items) (sym kept_last) (subst (AreAbove c.self.inside.index.last) (sym made) (fresh-above v r.tag (max c.self.inside.moment c.args.now) c.unwrap_or-first.result (entries_in p.back) needs))

pub fill-requires-clause-fits : goal.fill-requires-clause-fits
fill-requires-clause-fits c = λ n d joins at small.
    let v = the_view c.self.inside in
    let r = c.args.batch.now in
    let p = c.args.plan in
    let own = c.self.invariant.stored in
    let plan : IsPlan (the_view c.self.inside) c.args.batch.now c.args.plan = subst (λ (x : LiveBuffer). IsPlan x c.args.batch.now c.args.plan) (sym c.self.view_is) c.requires.planned in
    let free : live_refusal (the_view c.self.inside) c.args.batch.now c.args.now ≡ None = ap (λ x. live_refusal x c.args.batch.now c.args.now) c.self.view_is ∙ c.requires.fits in
    let room = room-left v r c.args.now p own.sound plan free in
    let kept : c.reserve.new.self.chunks ≡ c.self.inside.index.chunks = ap (λ (h : Held). h.chunks) c.in_ok-reserve.ensures.kept in
    let kept_last : c.reserve.new.self.last ≡ c.self.inside.index.last = ap (λ (h : Held). h.last) c.in_ok-reserve.ensures.kept in
    let kept_retry : c.reserve.new.self.retry ≡ c.self.inside.index.retry = ap (λ (h : Held). h.retry) c.in_ok-reserve.ensures.kept in
    let o = find (is_open_of r.tag) c.self.inside.index.chunks in
    let e = number-found (find (is_open_of r.tag) c.self.inside.index.chunks) n (sym joins ∙ plan.joins) in
    let there : find (is_at n) c.self.inside.index.chunks ≡ Some e.0 = ap (λ k. find (is_at k) c.self.inside.index.chunks) (sym e.1.1) ∙ found-same (is_open_of r.tag) c.self.inside.index.chunks e.0 own.sound.in_order e.1.0 in
    let is : e.0 ≡ d = same_Some _ _ (sym there ∙ ap (find (is_at n)) (sym kept) ∙ at) in
    let chunk : c.self.inside.limits.chunk < 2 ^ 32 = search rules in
    rw plan.front (joining-fits c.self.inside.limits.chunk o d r.entries (e.1.0 ∙ ap Some is) chunk small)

pub invariant_of-self-in_err-key : goal.invariant_of-self-in_err-key
invariant_of-self-in_err-key c =
    let r = c.args.batch.now in
    let plan : IsPlan (the_view c.self.inside) c.args.batch.now c.args.plan = subst (λ (x : LiveBuffer). IsPlan x c.args.batch.now c.args.plan) (sym c.self.view_is) c.requires.planned in
    let kept : c.reserve.new.self.chunks ≡ c.self.inside.index.chunks = ap (λ (h : Held). h.chunks) c.in_ok-reserve.ensures.kept in
    let kept_last : c.reserve.new.self.last ≡ c.self.inside.index.last = ap (λ (h : Held). h.last) c.in_ok-reserve.ensures.kept in
    let kept_retry : c.reserve.new.self.retry ≡ c.self.inside.index.retry = ap (λ (h : Held). h.retry) c.in_ok-reserve.ensures.kept in
    let there : IsSome (tag_number r.tag c.self.inside.tags) = joined-has c.self.inside.tags c.self.inside.index.chunks r.tag c.args.plan.joins c.self.invariant.newest plan.joins c.in_err-key.ensures.sure in
    let tags : c.prepare.new.self ≡ c.self.inside.tags = c.prepare.ensures.same (subst (λ t. IsSome (tag_number t c.self.inside.tags)) (sym c.tag-tag.ensures.value) there) in
    rw (c.in_err-key.ensures.err, kept, kept_last, kept_retry, tags) (record {
      stored = c.self.invariant.stored;
      newest = c.self.invariant.newest;
      counted = c.self.invariant.counted;
      waits = c.self.invariant.waits;
    })

-- where there are new chunks, there are entries
some-needed : (k : ℕ) (newest : Option ℕ) → (k ≤ 0 → newest ≡ None) → IsSome newest → 0 < k
some-needed k newest none is = elim (cases_lt 0 k) [ inl lt ↦ lt | inr le ↦ absurd (no (none le) is) ]
  where
    no : newest ≡ None → IsSome newest → ⊥
    no e h = absurd (differ (ap is_some (sym e) ∙ h))
      where
        differ : false ≡ true → ⊥
        differ f = cc

back-some : (entries : List (List ℕ)) (k limit : ℕ) {n : ℕ} → 0 < n → n ≡ needed limit (drop k entries) → 0 < length entries
back-some [] k limit lt e = absurd (omega (arith, lt, e, ap (needed limit) (nothing k)))
  where
    nothing : (j : ℕ) → drop {A = List ℕ} j [] ≡ []
    nothing zero = refl
    nothing (suc j) = refl
back-some (x ∷ entries) k limit lt e = omega arith

-- entries that need no new chunk join the tag's open one
joins-open : (limit : ℕ) (entries : List (List ℕ)) (o : Option Chunk) → 0 < length entries
    → needed limit (drop (joining_to limit o entries) entries) ≤ 0 → o ≡ None → ⊥
joins-open limit entries o lt le e = absurd (by entries lt (subst (λ x. needed limit (drop (joining_to limit x entries) entries) ≤ 0) e le))
  where
    by : (es : List (List ℕ)) → 0 < length es → needed limit es ≤ 0 → ⊥
    by [] lt le = absurd (omega (arith, lt))
    by (x ∷ es) lt le = absurd (omega (arith, le))

pub put-requires-clause-new : goal.put-requires-clause-new
put-requires-clause-new c =
    let v = the_view c.self.inside in
    let r = c.args.batch.now in
    let p = c.args.plan in
    let own = c.self.invariant.stored in
    let plan : IsPlan (the_view c.self.inside) c.args.batch.now c.args.plan = subst (λ (x : LiveBuffer). IsPlan x c.args.batch.now c.args.plan) (sym c.self.view_is) c.requires.planned in
    let free : live_refusal (the_view c.self.inside) c.args.batch.now c.args.now ≡ None = ap (λ x. live_refusal x c.args.batch.now c.args.now) c.self.view_is ∙ c.requires.fits in
    let room = room-left v r c.args.now p own.sound plan free in
    let items = c.self.inside.index.chunks in
    new c.newest_of-newest.result (λ is. omega (
      arith,
      c.len-count.ensures.value,
      back-some r.entries (joining_to c.self.inside.limits.chunk (find (is_open_of r.tag) items) r.entries) c.self.inside.limits.chunk
          (some-needed p.needed c.newest_of-newest.result c.newest_of-newest.ensures.none is) (plan.needs ∙ ap (needed c.self.inside.limits.chunk) plan.back),
    ))
  where
    new : (o : Option ℕ) → (IsSome o → 0 < c.len-count.result) → IfSome o (λ n. 0 < c.len-count.result)
    new None h = tt
    new (Some n) h = h refl

pub put-requires-clause-some : goal.put-requires-clause-some
put-requires-clause-some c =
    let v = the_view c.self.inside in
    let r = c.args.batch.now in
    let p = c.args.plan in
    let own = c.self.invariant.stored in
    let plan : IsPlan (the_view c.self.inside) c.args.batch.now c.args.plan = subst (λ (x : LiveBuffer). IsPlan x c.args.batch.now c.args.plan) (sym c.self.view_is) c.requires.planned in
    let free : live_refusal (the_view c.self.inside) c.args.batch.now c.args.now ≡ None = ap (λ x. live_refusal x c.args.batch.now c.args.now) c.self.view_is ∙ c.requires.fits in
    let room = room-left v r c.args.now p own.sound plan free in
    let items = c.self.inside.index.chunks in
    let limit = c.self.inside.limits.chunk in
    λ lt. elim (cases_lt 0 p.needed) [
      | inl up ↦ new c.newest_of-newest.result (c.newest_of-newest.ensures.some up) c.in_ok-prepare.ensures.ok
      | inr le ↦
          let there = joined-has c.self.inside.tags items r.tag p.joins c.self.invariant.newest plan.joins
          (λ none. absurd (joins-open limit r.entries (find (is_open_of r.tag) items) (omega (arith, lt, c.len-count.ensures.value)) (omega (arith, le, plan.needs, ap (needed limit) plan.back)) (no-number (find (is_open_of r.tag) items) (sym plan.joins ∙ none)))) in
          number-some (tag_entry c.tag-tag.result.now c.prepare.new.self) (kept r.tag c.tag-tag.ensures.value there)
    ]
  where
    no-number : (o : Option Chunk) → option_map (λ x. x.number) o ≡ None → o ≡ None
    no-number None e = refl
    no-number (Some x) e = absurd cc

    new : (o : Option ℕ) {n : ℕ} → o ≡ Some n → IfSome o (λ k. IsSome (tag_number c.tag-tag.result.now c.prepare.new.self)) → IsSome (tag_entry c.tag-tag.result.now c.prepare.new.self)
    new None e h = absurd cc
    new (Some k) e h = number-some (tag_entry c.tag-tag.result.now c.prepare.new.self) h

    kept : (l : List ℕ) → c.tag-tag.result.now ≡ l → IsSome (tag_number l c.self.inside.tags) → IsSome (tag_number c.tag-tag.result.now c.prepare.new.self)
    kept l e h = by (tag_number l c.self.inside.tags) refl h
      where
        by : (o : Option ℕ) → tag_number l c.self.inside.tags ≡ o → IsSome o → IsSome (tag_number c.tag-tag.result.now c.prepare.new.self)
        by None f g = absurd cc
        by (Some n) f g = ap (λ x. is_some (tag_number x c.prepare.new.self)) e ∙ ap is_some (c.prepare.ensures.kept l n f)

pub put-requires-clause-none : goal.put-requires-clause-none
put-requires-clause-none c = λ le. omega (arith, empty c.args.batch.now.entries (omega (arith, le, c.len-count.ensures.value)), ap length c.entries.ensures.value, size_joined c.args.batch.now.entries)
  where
    empty : (es : List (List ℕ)) → length es ≤ 0 → size_of es ≡ 0
    empty [] f = refl
    empty (y ∷ es) f = absurd (omega (arith, f))

pub put-requires-clause-held : goal.put-requires-clause-held
put-requires-clause-held c =
    let v = the_view c.self.inside in
    let r = c.args.batch.now in
    let p = c.args.plan in
    let own = c.self.invariant.stored in
    let plan : IsPlan (the_view c.self.inside) c.args.batch.now c.args.plan = subst (λ (x : LiveBuffer). IsPlan x c.args.batch.now c.args.plan) (sym c.self.view_is) c.requires.planned in
    let free : live_refusal (the_view c.self.inside) c.args.batch.now c.args.now ≡ None = ap (λ x. live_refusal x c.args.batch.now c.args.now) c.self.view_is ∙ c.requires.fits in
    let room = room-left v r c.args.now p own.sound plan free in
    omega (arith, c.prepare.ensures.held c.tag-tag.result.now, c.len-count.ensures.value, held-fits c.self.inside.tags v c.tag-tag.result.now (length r.entries) own.sound c.self.invariant.counted (omega (arith, room.1)))

pub put-requires-clause-bytes : goal.put-requires-clause-bytes
put-requires-clause-bytes c =
    let v = the_view c.self.inside in
    let r = c.args.batch.now in
    let p = c.args.plan in
    let own = c.self.invariant.stored in
    let plan : IsPlan (the_view c.self.inside) c.args.batch.now c.args.plan = subst (λ (x : LiveBuffer). IsPlan x c.args.batch.now c.args.plan) (sym c.self.view_is) c.requires.planned in
    let free : live_refusal (the_view c.self.inside) c.args.batch.now c.args.now ≡ None = ap (λ x. live_refusal x c.args.batch.now c.args.now) c.self.view_is ∙ c.requires.fits in
    let room = room-left v r c.args.now p own.sound plan free in
    let size : length c.entries.result.now ≡ size_of r.entries = ap length c.entries.ensures.value ∙ sym (size_joined r.entries) in
    let total : c.self.inside.limits.total < 2 ^ 64 = search rules in
    omega (arith, size, room.2, total, c.prepare.ensures.bytes c.tag-tag.result.now, c.self.invariant.counted.bytes c.tag-tag.result.now, bytes-among c.tag-tag.result.now c.self.inside.index.chunks)

pub overflow_add-self : goal.overflow_add-self
overflow_add-self c =
    let v = the_view c.self.inside in
    let r = c.args.batch.now in
    let p = c.args.plan in
    let own = c.self.invariant.stored in
    let plan : IsPlan (the_view c.self.inside) c.args.batch.now c.args.plan = subst (λ (x : LiveBuffer). IsPlan x c.args.batch.now c.args.plan) (sym c.self.view_is) c.requires.planned in
    let free : live_refusal (the_view c.self.inside) c.args.batch.now c.args.now ≡ None = ap (λ x. live_refusal x c.args.batch.now c.args.now) c.self.view_is ∙ c.requires.fits in
    let room = room-left v r c.args.now p own.sound plan free in
    omega (arith, c.len-count.ensures.value, room.1)

pub overflow_add-self-2 : goal.overflow_add-self-2
overflow_add-self-2 c =
    let v = the_view c.self.inside in
    let r = c.args.batch.now in
    let p = c.args.plan in
    let own = c.self.invariant.stored in
    let plan : IsPlan (the_view c.self.inside) c.args.batch.now c.args.plan = subst (λ (x : LiveBuffer). IsPlan x c.args.batch.now c.args.plan) (sym c.self.view_is) c.requires.planned in
    let free : live_refusal (the_view c.self.inside) c.args.batch.now c.args.now ≡ None = ap (λ x. live_refusal x c.args.batch.now c.args.now) c.self.view_is ∙ c.requires.fits in
    let room = room-left v r c.args.now p own.sound plan free in
    let size : length c.entries.result.now ≡ size_of r.entries = ap length c.entries.ensures.value ∙ sym (size_joined r.entries) in
    let total : c.self.inside.limits.total < 2 ^ 64 = search rules in
    omega (arith, size, own.bytes, room.2, total)

pub invariant_of-self-2 : goal.invariant_of-self-2
invariant_of-self-2 c =
    let v = the_view c.self.inside in
    let r = c.args.batch.now in
    let p = c.args.plan in
    let own = c.self.invariant.stored in
    let plan : IsPlan (the_view c.self.inside) c.args.batch.now c.args.plan = subst (λ (x : LiveBuffer). IsPlan x c.args.batch.now c.args.plan) (sym c.self.view_is) c.requires.planned in
    let free : live_refusal (the_view c.self.inside) c.args.batch.now c.args.now ≡ None = ap (λ x. live_refusal x c.args.batch.now c.args.now) c.self.view_is ∙ c.requires.fits in
    let room = room-left v r c.args.now p own.sound plan free in
    let next : 0 < p.needed → c.unwrap_or-first.result ≡ live_next_number v = λ up. c.unwrap_or-first.ensures ∙ first-is c.next_number.result (live_next_number v) p.needed
    (subst (λ (x : LiveBuffer). IfSome c.next_number.result (λ n. n ≡ live_next_number x)) (sym c.self.view_is) c.next_number.ensures.some)
    (subst (λ (x : LiveBuffer). IfNone c.next_number.result (live_next_number x ≡ 2 ^ 64)) (sym c.self.view_is) c.next_number.ensures.none) room.0 up in
    let made : c.in_ok-fresh.fresh.items ≡ fresh_of c.self.inside.limits.chunk r.tag (max c.self.inside.moment c.args.now) c.unwrap_or-first.result (entries_in p.back) =
    c.in_ok-fresh.ensures ∙ (λ i. fresh_of (c.from-limit.ensures i) (c.tag-tag.ensures.value i) (c.max-moment.ensures i) c.unwrap_or-first.result (entries_in p.back)) in
    let kept : c.reserve.new.self.chunks ≡ c.self.inside.index.chunks = ap (λ (h : Held). h.chunks) c.in_ok-reserve.ensures.kept in
    let kept_last : c.reserve.new.self.last ≡ c.self.inside.index.last = ap (λ (h : Held). h.last) c.in_ok-reserve.ensures.kept in
    let kept_retry : c.reserve.new.self.retry ≡ c.self.inside.index.retry = ap (λ (h : Held). h.retry) c.in_ok-reserve.ensures.kept in
    let chunks : c.fill.new.index.chunks ≡ filled_in p.joins (entries_in p.front) (stage_last (length c.in_ok-fresh.fresh.items == 0)) c.self.inside.index.chunks ++ c.in_ok-fresh.fresh.items =
    ap (λ (h : Held). h.chunks) c.in_ok-key.ensures.ok ∙ ap (λ l. filled_in p.joins (entries_in p.front) (stage_last (length c.in_ok-fresh.fresh.items == 0)) l ++ c.in_ok-fresh.fresh.items) kept in
    let last : c.fill.new.index.last ≡ last_of c.self.inside.index.last c.in_ok-fresh.fresh.items = ap (λ (h : Held). h.last) c.in_ok-key.ensures.ok ∙ ap (λ o. last_of o c.in_ok-fresh.fresh.items) kept_last in
    let same : record v { chunks = c.fill.new.index.chunks; greatest = c.fill.new.index.last; accepted = c.self.inside.accepted + c.len-count.result; moment = c.max-moment.result } ≡ live_enters v r c.args.now =
    (λ i. record v { chunks = chunks i; greatest = last i; accepted = c.self.inside.accepted + c.len-count.result; moment = c.max-moment.ensures i })
    ∙ entered v r c.args.now p own.sound plan c.unwrap_or-first.result c.in_ok-fresh.fresh.items c.len-count.result made next c.len-count.ensures.value in
    let size : length c.entries.result.now ≡ size_of r.entries = ap length c.entries.ensures.value ∙ sym (size_joined r.entries) in
    let fits : length r.tag ≤ TAG_LIMIT = omega (arith, ap length c.tag-tag.ensures.value, c.tag-tag.ensures.bound) in
    let items = c.self.inside.index.chunks in
    let back = entries_in p.back in
    let all : c.fill.new.index.chunks ≡ filled_in p.joins (entries_in p.front) (stage_last (length (fresh_of c.self.inside.limits.chunk r.tag (max c.self.inside.moment c.args.now) c.unwrap_or-first.result (entries_in p.back)) == 0)) c.self.inside.index.chunks ++ fresh_of c.self.inside.limits.chunk r.tag (max c.self.inside.moment c.args.now) c.unwrap_or-first.result (entries_in p.back) =
    chunks ∙ (λ i. filled_in p.joins (entries_in p.front) (stage_last (length (made i) == 0)) c.self.inside.index.chunks ++ made i) in
    let next_stored = enters-stored v r c.args.now c.self.inside.bytes own fits free in
    let number = c.newest_of-newest.result in
    let told = subst (λ l. IfSome c.newest_of-newest.result (λ n. (t : List ℕ) → tag_number t c.put.new.self ≡ cond (bytes_eq l t) (Some n) (tag_number t c.prepare.new.self))) c.tag-tag.ensures.value c.put.ensures.some in
    let some : IsSome c.newest_of-newest.result → 0 < length r.entries = λ is. back-some r.entries (joining_to c.self.inside.limits.chunk (find (is_open_of r.tag) items) r.entries) c.self.inside.limits.chunk
    (some-needed p.needed number c.newest_of-newest.ensures.none is) (plan.needs ∙ ap (needed c.self.inside.limits.chunk) plan.back) in
    let held : (t : List ℕ) → held_by (tag_entry t c.put.new.self) ≡ held_by (tag_entry t c.prepare.new.self) + cond (bytes_eq r.tag t) (length r.entries) 0 = λ t. c.put.ensures.held t ∙ (λ i. held_by (tag_entry t c.prepare.new.self) + cond (bytes_eq (c.tag-tag.ensures.value i) t) (c.len-count.ensures.value i) 0) in
    let bytes : (t : List ℕ) → bytes_by (tag_entry t c.put.new.self) ≡ bytes_by (tag_entry t c.prepare.new.self) + cond (bytes_eq r.tag t) (size_of r.entries) 0 = λ t. c.put.ensures.bytes t ∙ (λ i. bytes_by (tag_entry t c.prepare.new.self) + cond (bytes_eq (c.tag-tag.ensures.value i) t) (size i) 0) in
    let each : (t : List ℕ) (e : TagEntry) → tag_entry t c.put.new.self ≡ Some e → ((d : TagEntry) × (tag_entry t c.prepare.new.self ≡ Some d) × (d.held ≤ e.held)) × (bytes_eq r.tag t ≡ true → length r.entries ≤ e.held) = λ t e is. ((c.put.ensures.each t e is).0, λ same. omega (arith, (c.put.ensures.each t e is).1 (ap (λ l. bytes_eq l t) c.tag-tag.ensures.value ∙ same), c.len-count.ensures.value)) in
    rw size (record {
      stored = subst (λ x. IsStored x (c.self.inside.bytes + size_of r.entries)) (sym same) next_stored;
      newest = subst (AreNewest c.put.new.self) (sym all) (newest-entered c.prepare.new.self c.put.new.self items p.joins (entries_in p.front) back c.self.inside.limits.chunk r.tag (max c.self.inside.moment c.args.now) c.unwrap_or-first.result number
          (newest-kept c.self.inside.tags c.prepare.new.self items c.prepare.ensures.kept c.self.invariant.newest) own.sound.in_order plan.joins
          (subst (λ k. 0 < k → c.newest_of-newest.result ≡ Some (c.unwrap_or-first.result + (k - 1))) plan.needs c.newest_of-newest.ensures.some)
          (subst (λ k. k ≤ 0 → c.newest_of-newest.result ≡ None) plan.needs c.newest_of-newest.ensures.none)
          told c.put.ensures.none (subst AreInOrder (sym (ap (λ (x : LiveBuffer). x.chunks) same) ∙ all) next_stored.sound.in_order));
      counted = subst (AreCounted c.put.new.self) (sym (ap (λ (x : LiveBuffer). x.chunks) same)) (counted-entered c.self.inside.tags c.prepare.new.self c.put.new.self v r c.args.now number own.sound c.self.invariant.counted
          c.prepare.ensures.held c.prepare.ensures.bytes
          (subst (λ l. (t : List ℕ) (e : TagEntry) → tag_entry t c.prepare.new.self ≡ Some e → (tag_entry t c.self.inside.tags ≡ Some e) ⊎ ((l ≡ t) × IsSome c.newest_of-newest.result)) c.tag-tag.ensures.value c.prepare.ensures.only)
          some held bytes each);
      waits = ap (λ (h : Held). h.retry) c.in_ok-key.ensures.ok ∙ kept_retry ∙ c.self.invariant.waits;
    })

pub returns-clause-ok : goal.returns-clause-ok
returns-clause-ok c =
    let v = the_view c.self.inside in
    let r = c.args.batch.now in
    let p = c.args.plan in
    let own = c.self.invariant.stored in
    let plan : IsPlan (the_view c.self.inside) c.args.batch.now c.args.plan = subst (λ (x : LiveBuffer). IsPlan x c.args.batch.now c.args.plan) (sym c.self.view_is) c.requires.planned in
    let free : live_refusal (the_view c.self.inside) c.args.batch.now c.args.now ≡ None = ap (λ x. live_refusal x c.args.batch.now c.args.now) c.self.view_is ∙ c.requires.fits in
    let room = room-left v r c.args.now p own.sound plan free in
    let next : 0 < p.needed → c.unwrap_or-first.result ≡ live_next_number v = λ up. c.unwrap_or-first.ensures ∙ first-is c.next_number.result (live_next_number v) p.needed
    (subst (λ (x : LiveBuffer). IfSome c.next_number.result (λ n. n ≡ live_next_number x)) (sym c.self.view_is) c.next_number.ensures.some)
    (subst (λ (x : LiveBuffer). IfNone c.next_number.result (live_next_number x ≡ 2 ^ 64)) (sym c.self.view_is) c.next_number.ensures.none) room.0 up in
    let made : c.in_ok-fresh.fresh.items ≡ fresh_of c.self.inside.limits.chunk r.tag (max c.self.inside.moment c.args.now) c.unwrap_or-first.result (entries_in p.back) =
    c.in_ok-fresh.ensures ∙ (λ i. fresh_of (c.from-limit.ensures i) (c.tag-tag.ensures.value i) (c.max-moment.ensures i) c.unwrap_or-first.result (entries_in p.back)) in
    let kept : c.reserve.new.self.chunks ≡ c.self.inside.index.chunks = ap (λ (h : Held). h.chunks) c.in_ok-reserve.ensures.kept in
    let kept_last : c.reserve.new.self.last ≡ c.self.inside.index.last = ap (λ (h : Held). h.last) c.in_ok-reserve.ensures.kept in
    let chunks : c.fill.new.index.chunks ≡ filled_in p.joins (entries_in p.front) (stage_last (length c.in_ok-fresh.fresh.items == 0)) c.self.inside.index.chunks ++ c.in_ok-fresh.fresh.items =
    ap (λ (h : Held). h.chunks) c.in_ok-key.ensures.ok ∙ ap (λ l. filled_in p.joins (entries_in p.front) (stage_last (length c.in_ok-fresh.fresh.items == 0)) l ++ c.in_ok-fresh.fresh.items) kept in
    let last : c.fill.new.index.last ≡ last_of c.self.inside.index.last c.in_ok-fresh.fresh.items = ap (λ (h : Held). h.last) c.in_ok-key.ensures.ok ∙ ap (λ o. last_of o c.in_ok-fresh.fresh.items) kept_last in
    let same : record v { chunks = c.fill.new.index.chunks; greatest = c.fill.new.index.last; accepted = c.self.inside.accepted + c.len-count.result; moment = c.max-moment.result } ≡ live_enters v r c.args.now =
    (λ i. record v { chunks = chunks i; greatest = last i; accepted = c.self.inside.accepted + c.len-count.result; moment = c.max-moment.ensures i })
    ∙ entered v r c.args.now p own.sound plan c.unwrap_or-first.result c.in_ok-fresh.fresh.items c.len-count.result made next c.len-count.ensures.value in
    same ∙ ap (λ x. live_enters x r c.args.now) c.self.view_is

pub returns-clause-spans : goal.returns-clause-spans
returns-clause-spans c =
    let v = the_view c.self.inside in
    let r = c.args.batch.now in
    let p = c.args.plan in
    let own = c.self.invariant.stored in
    let plan : IsPlan (the_view c.self.inside) c.args.batch.now c.args.plan = subst (λ (x : LiveBuffer). IsPlan x c.args.batch.now c.args.plan) (sym c.self.view_is) c.requires.planned in
    let free : live_refusal (the_view c.self.inside) c.args.batch.now c.args.now ≡ None = ap (λ x. live_refusal x c.args.batch.now c.args.now) c.self.view_is ∙ c.requires.fits in
    let room = room-left v r c.args.now p own.sound plan free in
    let next : 0 < p.needed → c.unwrap_or-first.result ≡ live_next_number v = λ up. c.unwrap_or-first.ensures ∙ first-is c.next_number.result (live_next_number v) p.needed
    (subst (λ (x : LiveBuffer). IfSome c.next_number.result (λ n. n ≡ live_next_number x)) (sym c.self.view_is) c.next_number.ensures.some)
    (subst (λ (x : LiveBuffer). IfNone c.next_number.result (live_next_number x ≡ 2 ^ 64)) (sym c.self.view_is) c.next_number.ensures.none) room.0 up in
    let made : c.in_ok-fresh.fresh.items ≡ fresh_of c.self.inside.limits.chunk r.tag (max c.self.inside.moment c.args.now) c.unwrap_or-first.result (entries_in p.back) =
    c.in_ok-fresh.ensures ∙ (λ i. fresh_of (c.from-limit.ensures i) (c.tag-tag.ensures.value i) (c.max-moment.ensures i) c.unwrap_or-first.result (entries_in p.back)) in
    let opened : option_copied c.joined_by.result ≡ find (is_open_of r.tag) c.self.inside.index.chunks = c.joined_by.ensures ∙ ap (λ (x : LiveBuffer). find (is_open_of c.args.batch.now.tag) x.chunks) (sym c.self.view_is) in
    let spans : c.in_ok-spans.spans ≡ joined_span (find (is_open_of r.tag) c.self.inside.index.chunks) (entries_in p.front) ++ map span_of c.in_ok-fresh.fresh.items =
    c.in_ok-spans.ensures
    ∙ (λ i. (c.joined_span-joined.ensures ∙ ap (λ o. joined_span o (entries_in p.front)) opened) i ++ map span_of (c.deref.ensures.value i)) in
    entered-spans v r c.args.now p own.sound plan c.unwrap_or-first.result c.in_ok-fresh.fresh.items c.in_ok-spans.spans made next spans
    ∙ ap (λ x. live_spans x r c.args.now) c.self.view_is

pub returns-clause-copy : goal.returns-clause-copy
returns-clause-copy c = c.in_ok-copy.ensures.copy ∙ returns-clause-spans c
