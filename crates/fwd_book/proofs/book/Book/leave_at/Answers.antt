use Rattle.std.proofs.Common.{arith, ◌≡◌, ℕ, Some, None, cond, List, ◌∷◌, [], filter, sym, ap, subst, ◌∙◌}
use Rattle.std.specs.Prelude.{not, map, ◌==◌}
use Rattle.std.specs.List.{list_any}
use Rattle.fwd_modes.specs.declared.origin.Origin.{Origin}
use Rattle.fwd_session.specs.ServerAcks.{ServerAck}
use Rattle.fwd_chunks.specs.Spans.{AreRising}
use Rattle.fwd_book.specs.History.{BookSetting, Entered, is_origin, request_at}
use Rattle.fwd_book.specs.Live.{BookState, IsSound, found_for, evidence_for, live_leaves}
use Rattle.fwd_book.specs.ChunkRefs.{ChunkRef, note_at, found_at, used_less, AreOf, live_of}
use Rattle.fwd_book.proofs.Keeping.{less-of, less-shown, among-one, none-leaves, room-more}
use Rattle.fwd_book.proofs.Facts.{any_none, filter_none}
use Rattle.fwd_book.proofs.Right.{found_stands}
use Rattle.fwd_book.proofs.Sound.{sound-leaves}
use Rattle.fwd_book.proofs.book.Book.leave_at.Goals as goal

pub invariant_of-self : goal.invariant_of-self
invariant_of-self c =
    let notes : List (ℕ × ChunkRef) = c.self.inside.chunk_refs.notes in
    let qs : List Entered = c.self.inside.requests.items in
    let setting : BookSetting = record { run = c.self.inside.run; output = c.self.inside.output } in
    let none : request_at qs c.args.origin ≡ None = sym c.in_default.ensures.taken in
    let same : c.take_at.new.self.items ≡ qs = c.take_at.ensures.left ∙ filter_none (λ q. is_origin c.args.origin q.origin) qs (any_none (λ q. is_origin c.args.origin q.origin) qs none) in (
      subst (λ xs. AreOf notes xs) (sym same) c.self.invariant.0,
      subst (λ xs. IsSound (live_of setting xs notes)) (sym same) c.self.invariant.1,
      room-more c.self.inside.ready c.self.invariant.2 c.take_at.ensures.room (omega arith),
    )

pub returns-in_default-clause-left : goal.returns-in_default-clause-left
returns-in_default-clause-left c =
    let notes : List (ℕ × ChunkRef) = c.self.inside.chunk_refs.notes in
    let qs : List Entered = c.self.inside.requests.items in
    let setting : BookSetting = record { run = c.self.inside.run; output = c.self.inside.output } in
    let none : request_at qs c.args.origin ≡ None = sym c.in_default.ensures.taken in
    let same : c.take_at.new.self.items ≡ qs = c.take_at.ensures.left ∙ filter_none (λ q. is_origin c.args.origin q.origin) qs (any_none (λ q. is_origin c.args.origin q.origin) qs none) in
    (λ i. record { live = live_of setting (same i) notes; ready = c.self.inside.ready })
    ∙ (λ i. record { live = none-leaves setting notes qs c.args.origin c.self.invariant.0 none i; ready = c.self.inside.ready })
    ∙ ap (λ (s : BookState). record { live = live_leaves s.live (c.args.origin ∷ []); ready = s.ready }) c.self.view_is

pub returns-in_default-clause-same : goal.returns-in_default-clause-same
returns-in_default-clause-same c = λ _.
    let notes : List (ℕ × ChunkRef) = c.self.inside.chunk_refs.notes in
    let qs : List Entered = c.self.inside.requests.items in
    let setting : BookSetting = record { run = c.self.inside.run; output = c.self.inside.output } in
    let none : request_at qs c.args.origin ≡ None = sym c.in_default.ensures.taken in
    let same : c.take_at.new.self.items ≡ qs = c.take_at.ensures.left ∙ filter_none (λ q. is_origin c.args.origin q.origin) qs (any_none (λ q. is_origin c.args.origin q.origin) qs none) in
    (λ i. record { live = live_of setting (same i) notes; ready = c.self.inside.ready }) ∙ c.self.view_is

pub leave_all-requires : goal.leave_all-requires
leave_all-requires c =
    let stands = found_stands (λ q. is_origin c.args.origin q.origin) c.self.inside.requests.items c.in-Some.kept (sym c.in-Some.ensures.taken) in
    record { rising = subst (λ ss. AreRising (map (λ s. s.number) ss)) (sym c.spans.ensures) (c.self.invariant.1.rising stands.place c.in-Some.kept stands.here) }

pub invariant_of-self-2 : goal.invariant_of-self-2
invariant_of-self-2 c =
    let notes : List (ℕ × ChunkRef) = c.self.inside.chunk_refs.notes in
    let new : List (ℕ × ChunkRef) = c.leave_all.new.chunk_refs.notes in
    let qs : List Entered = c.self.inside.requests.items in
    let o : Origin = c.args.origin in
    let q : Entered = c.in-Some.kept in
    let setting : BookSetting = record { run = c.self.inside.run; output = c.self.inside.output } in
    let settled : List ServerAck = found_for (found_at notes) qs in
    let there : request_at qs o ≡ Some q = sym c.in-Some.ensures.taken in
    let less : (n : ℕ) → note_at n new ≡ cond (list_any (λ s. s.number == n) q.spans) (used_less (note_at n notes)) (note_at n notes) =
    λ n. c.leave_all.ensures.noted n ∙ ap (λ ss. cond (list_any (λ s. s.number == n) ss) (used_less (note_at n notes)) (note_at n notes)) c.spans.ensures in
    let items : c.take_at.new.self.items ≡ filter (λ r. not (is_origin o r.origin)) qs = c.take_at.ensures.left in
    let shown : found_for (found_at new) (filter (λ r. not (is_origin o r.origin)) qs) ≡ evidence_for (filter (λ r. not (is_origin o r.origin)) qs) settled = less-shown notes new qs o q c.self.invariant.0 c.self.invariant.1.apart there less in
    let whole : live_of setting c.take_at.new.self.items new ≡ live_leaves (live_of setting qs notes) (o ∷ []) =
    (λ i. record { setting = setting; requests = (items ∙ sym (among-one qs o)) i; settled = (ap (found_for (found_at new)) items ∙ shown ∙ ap (λ rs. evidence_for rs settled) (sym (among-one qs o))) i }) in (
      subst (λ xs. AreOf new xs) (sym items) (less-of notes new qs o q c.self.invariant.0 c.self.invariant.1.apart there less),
      subst IsSound (sym whole) (sound-leaves (live_of setting qs notes) (o ∷ []) c.self.invariant.1),
      room-more c.self.inside.ready c.self.invariant.2 c.take_at.ensures.room c.leave_all.ensures.room,
    )

pub returns-clause-left : goal.returns-clause-left
returns-clause-left c =
    let notes : List (ℕ × ChunkRef) = c.self.inside.chunk_refs.notes in
    let new : List (ℕ × ChunkRef) = c.leave_all.new.chunk_refs.notes in
    let qs : List Entered = c.self.inside.requests.items in
    let o : Origin = c.args.origin in
    let q : Entered = c.in-Some.kept in
    let setting : BookSetting = record { run = c.self.inside.run; output = c.self.inside.output } in
    let settled : List ServerAck = found_for (found_at notes) qs in
    let there : request_at qs o ≡ Some q = sym c.in-Some.ensures.taken in
    let less : (n : ℕ) → note_at n new ≡ cond (list_any (λ s. s.number == n) q.spans) (used_less (note_at n notes)) (note_at n notes) =
    λ n. c.leave_all.ensures.noted n ∙ ap (λ ss. cond (list_any (λ s. s.number == n) ss) (used_less (note_at n notes)) (note_at n notes)) c.spans.ensures in
    let items : c.take_at.new.self.items ≡ filter (λ r. not (is_origin o r.origin)) qs = c.take_at.ensures.left in
    let shown : found_for (found_at new) (filter (λ r. not (is_origin o r.origin)) qs) ≡ evidence_for (filter (λ r. not (is_origin o r.origin)) qs) settled = less-shown notes new qs o q c.self.invariant.0 c.self.invariant.1.apart there less in
    let whole : live_of setting c.take_at.new.self.items new ≡ live_leaves (live_of setting qs notes) (o ∷ []) =
    (λ i. record { setting = setting; requests = (items ∙ sym (among-one qs o)) i; settled = (ap (found_for (found_at new)) items ∙ shown ∙ ap (λ rs. evidence_for rs settled) (sym (among-one qs o))) i }) in
    (λ i. record { live = whole i; ready = c.self.inside.ready })
    ∙ ap (λ (s : BookState). record { live = live_leaves s.live (o ∷ []); ready = s.ready }) c.self.view_is
