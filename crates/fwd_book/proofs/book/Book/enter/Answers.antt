use Rattle.std.proofs.Common.{arith, ◌≡◌, ◌≤◌, ◌<◌, ℕ, Some, None, true, cond, List, ◌++◌, ◌∷◌, [], length, filter, sym, ap, subst, ◌∙◌}
use Rattle.std.specs.Prelude.{IfSome, ◌==◌}
use Rattle.std.specs.List.{list_any}
use Rattle.fwd_chunks.specs.declared.span.Span.{Span}
use Rattle.fwd_chunks.specs.Spans.{AreCutBy}
use Rattle.fwd_book.specs.History.{BookSetting, Entered, entered_as, request_at, has_run, are_fresh}
use Rattle.fwd_book.specs.Live.{BookState, IsSound, found_for, live_enters, enters_if, ready_enters}
use Rattle.fwd_book.specs.ChunkRefs.{ChunkRef, note_at, uses_in, found_at, used_more, AreOf, live_of, HasRoom}
use Rattle.fwd_book.specs.contracts.book.Book as book
use Rattle.fwd_book.proofs.Keeping.{more-of, more-shown, cut-few, filter-few}
use Rattle.fwd_book.proofs.Sound.{sound-enters}
use Rattle.fwd_book.proofs.book.Book.enter.Goals as goal

pub use_all-requires-clause-room : goal.use_all-requires-clause-room
use_all-requires-clause-room c =
    let ready : c.self.inside.ready ≡ Some c.in-Some.request = sym c.take.ensures.value ∙ c.in-Some.is in
    let now : c.args.self.now.ready ≡ Some c.in-Some.request = ap (λ (s : BookState). s.ready) (sym c.self.view_is) ∙ ready in
    let cut : AreCutBy c.args.spans c.in-Some.request.entries = subst (λ o. IfSome o (λ r. AreCutBy c.args.spans r.entries)) now c.requires.cut in
    let room : length c.in-Some.request.entries ≤ c.self.inside.chunk_refs.room = (subst (λ o. HasRoom o c.self.inside.requests.room c.self.inside.chunk_refs.room) ready c.self.invariant.2).1 in
    let few : length c.args.spans ≤ length c.in-Some.request.entries = cut-few c.args.spans c.in-Some.request.entries cut in
    let same : length c.as_slice.result.now ≡ length c.args.spans = ap length c.as_slice.ensures in
    omega (arith, room, few, same)

pub use_all-requires-clause-few : goal.use_all-requires-clause-few
use_all-requires-clause-few c = λ n.
    let uses : uses_in (note_at n c.self.inside.chunk_refs.notes) ≡ length (filter (has_run n) c.self.inside.requests.items) = c.self.invariant.0.uses n in
    let few : length (filter (has_run n) c.self.inside.requests.items) ≤ length c.self.inside.requests.items = filter-few (has_run n) c.self.inside.requests.items in
    let ready : c.self.inside.ready ≡ Some c.in-Some.request = sym c.take.ensures.value ∙ c.in-Some.is in
    let place : 0 < c.self.inside.requests.room = (subst (λ o. HasRoom o c.self.inside.requests.room c.self.inside.chunk_refs.room) ready c.self.invariant.2).0 in
    omega (arith, uses, few, place, c.are_few.ensures)

pub invariant_of-self : goal.invariant_of-self
invariant_of-self c =
    let notes : List (ℕ × ChunkRef) = c.self.inside.chunk_refs.notes in
    let new : List (ℕ × ChunkRef) = c.use_all.new.chunk_refs.notes in
    let qs : List Entered = c.self.inside.requests.items in
    let spans : List Span = c.args.spans in
    let setting : BookSetting = record { run = c.self.inside.run; output = c.self.inside.output } in
    let q : Entered = entered_as c.in-Some.request c.args.origin spans in
    let ready : c.self.inside.ready ≡ Some c.in-Some.request = sym c.take.ensures.value ∙ c.in-Some.is in
    let now : c.args.self.now.ready ≡ Some c.in-Some.request = ap (λ (s : BookState). s.ready) (sym c.self.view_is) ∙ ready in
    let cut : AreCutBy spans c.in-Some.request.entries = subst (λ o. IfSome o (λ r. AreCutBy spans r.entries)) now c.requires.cut in
    let alone : request_at qs c.args.origin ≡ None = ap (λ (s : BookState). request_at s.live.requests c.args.origin) c.self.view_is ∙ c.requires.alone in
    let fresh : are_fresh (found_for (found_at notes) qs) spans ≡ true = ap (λ (s : BookState). are_fresh s.live.settled spans) c.self.view_is ∙ c.requires.fresh in
    let more : (n : ℕ) → note_at n new ≡ cond (list_any (λ s. s.number == n) spans) (Some (used_more (note_at n notes))) (note_at n notes) =
    λ n. c.use_all.ensures n ∙ ap (λ ss. cond (list_any (λ s. s.number == n) ss) (Some (used_more (note_at n notes))) (note_at n notes)) c.as_slice.ensures in
    let items : c.push.new.self.items ≡ qs ++ q ∷ [] = c.push.ensures ∙ ap (λ x. qs ++ x ∷ []) c.new.ensures in
    let shown : found_for (found_at new) (qs ++ q ∷ []) ≡ found_for (found_at notes) qs = more-shown notes new qs q c.self.invariant.0 more fresh in
    let sound : IsSound (live_enters (live_of setting qs notes) q) = sound-enters (live_of setting qs notes) q c.self.invariant.1 alone cut c.requires.rising fresh in
    let of = more-of notes new qs q c.self.invariant.0 more in
    let whole : live_of setting c.push.new.self.items new ≡ live_enters (live_of setting qs notes) q = (λ i. record { setting = setting; requests = items i; settled = (ap (found_for (found_at new)) items ∙ shown) i }) in (
      subst (λ xs. AreOf new xs) (sym items) of,
      subst IsSound (sym whole) sound,
      subst (λ o. HasRoom o c.push.new.self.room c.use_all.new.chunk_refs.room) (sym c.take.ensures.after) tt,
    )

pub returns : goal.returns
returns c =
    let notes : List (ℕ × ChunkRef) = c.self.inside.chunk_refs.notes in
    let new : List (ℕ × ChunkRef) = c.use_all.new.chunk_refs.notes in
    let qs : List Entered = c.self.inside.requests.items in
    let spans : List Span = c.args.spans in
    let setting : BookSetting = record { run = c.self.inside.run; output = c.self.inside.output } in
    let q : Entered = entered_as c.in-Some.request c.args.origin spans in
    let ready : c.self.inside.ready ≡ Some c.in-Some.request = sym c.take.ensures.value ∙ c.in-Some.is in
    let fresh : are_fresh (found_for (found_at notes) qs) spans ≡ true = ap (λ (s : BookState). are_fresh s.live.settled spans) c.self.view_is ∙ c.requires.fresh in
    let more : (n : ℕ) → note_at n new ≡ cond (list_any (λ s. s.number == n) spans) (Some (used_more (note_at n notes))) (note_at n notes) =
    λ n. c.use_all.ensures n ∙ ap (λ ss. cond (list_any (λ s. s.number == n) ss) (Some (used_more (note_at n notes))) (note_at n notes)) c.as_slice.ensures in
    let items : c.push.new.self.items ≡ qs ++ q ∷ [] = c.push.ensures ∙ ap (λ x. qs ++ x ∷ []) c.new.ensures in
    let shown : found_for (found_at new) (qs ++ q ∷ []) ≡ found_for (found_at notes) qs = more-shown notes new qs q c.self.invariant.0 more fresh in
    let whole : live_of setting c.push.new.self.items new ≡ live_enters (live_of setting qs notes) q = (λ i. record { setting = setting; requests = items i; settled = (ap (found_for (found_at new)) items ∙ shown) i }) in
    (λ i. record { live = whole i; ready = c.take.ensures.after i })
    ∙ (λ i. enters_if (book.the_view c.self.inside) (sym ready i) c.args.origin spans)
    ∙ ap (λ (s : BookState). ready_enters s c.args.origin spans) c.self.view_is
