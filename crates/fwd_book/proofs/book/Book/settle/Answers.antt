use Rattle.std.proofs.Common.{arith, ◌≡◌, ℕ, Some, List, ◌++◌, ◌∷◌, [], length, sym, ap, subst, ◌∙◌}
use Rattle.std.specs.Prelude.{slice_get}
use Rattle.std.specs.Arc.{arc_value}
use Rattle.fwd_modes.specs.Acks.{ack_name}
use Rattle.fwd_session.specs.ServerAcks.{ServerAck}
use Rattle.fwd_book.specs.History.{BookSetting, Entered, name_at}
use Rattle.fwd_book.specs.Live.{BookState, IsOf, IsSound, evidence_for, found_for, live_settles}
use Rattle.fwd_book.specs.ChunkRefs.{ChunkRef, found_at, live_of}
use Rattle.fwd_book.proofs.Keeping.{put-of, put-shown, room-more}
use Rattle.fwd_book.proofs.Sound.{sound-settles}
use Rattle.fwd_book.proofs.book.Book.settle.Goals as goal

pub invariant_of-self : goal.invariant_of-self
invariant_of-self c =
    let e : ServerAck = arc_value c.args.acked in
    let notes : List (ℕ × ChunkRef) = c.self.inside.chunk_refs.notes in
    let new : List (ℕ × ChunkRef) = c.put.new.self.notes in
    let qs : List Entered = c.self.inside.requests.items in
    let setting : BookSetting = record { run = c.self.inside.run; output = c.self.inside.output } in
    let of = c.self.invariant.0 in
    let shown : found_for (found_at new) qs ≡ evidence_for qs (found_for (found_at notes) qs ++ e ∷ []) = put-shown notes new qs e of c.put.ensures.noted in
    let named : ack_name e.reply ≡ Some (name_at setting e.number) = subst (λ (s : BookState). ack_name e.reply ≡ Some (name_at s.live.setting e.number)) (sym c.self.view_is) c.requires.named in
    let own : (i : ℕ) (q : Entered) → slice_get qs i ≡ Some q → IsOf q e = subst (λ (s : BookState). (i : ℕ) (q : Entered) → slice_get s.live.requests i ≡ Some q → IsOf q e) (sym c.self.view_is) c.requires.own in
    let sound : IsSound (live_settles (live_of setting qs notes) e) = sound-settles (live_of setting qs notes) e c.self.invariant.1 named own in (
      put-of notes new qs e of c.put.ensures.noted,
      subst (λ es. IsSound (record { setting = setting; requests = qs; settled = es })) (sym shown) sound,
      room-more c.self.inside.ready c.self.invariant.2 (omega arith) c.put.ensures.room,
    )

pub returns-clause-count : goal.returns-clause-count
returns-clause-count c = c.count-count.ensures ∙ ap (λ (x : ServerAck). length x.entries) c.deref.ensures

pub returns-clause-settled : goal.returns-clause-settled
returns-clause-settled c =
    let e : ServerAck = arc_value c.args.acked in
    let notes : List (ℕ × ChunkRef) = c.self.inside.chunk_refs.notes in
    let new : List (ℕ × ChunkRef) = c.put.new.self.notes in
    let qs : List Entered = c.self.inside.requests.items in
    let setting : BookSetting = record { run = c.self.inside.run; output = c.self.inside.output } in
    let shown : found_for (found_at new) qs ≡ evidence_for qs (found_for (found_at notes) qs ++ e ∷ []) = put-shown notes new qs e c.self.invariant.0 c.put.ensures.noted in
    (λ i. record { live = record { setting = setting; requests = qs; settled = shown i }; ready = c.self.inside.ready })
    ∙ ap (λ (s : BookState). record { live = live_settles s.live e; ready = s.ready }) c.self.view_is
