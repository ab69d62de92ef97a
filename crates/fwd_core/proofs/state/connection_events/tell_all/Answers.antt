use Rattle.std.proofs.Common.{◌≡◌, true, false, length, Err, sym, ap, ◌∙◌, arith}
use Rattle.std.specs.Prelude.{map}
use Rattle.std.specs.List.{concat}
use Rattle.fwd_modes.specs.declared.origin.Origin.{Origin}
use Rattle.fwd_source.specs.declared.source.AnswerError.{AnswerError}
use Rattle.fwd_source.specs.declared.source.AnswerError.TheVariants.{Closed, Memory}
use Rattle.fwd_source.specs.Live.{LiveSource, source_appends}
use Rattle.fwd_book.specs.Receipts.{receipts}
use Rattle.fwd_book.specs.Live.{live_is_due}
use Rattle.fwd_model.specs.Books.{ack_asked}
use Rattle.fwd_output.specs.HandedBack.{chunk_at}
use Rattle.fwd_core.proofs.CollectLemmas.{told_is, source_is, lane_is}
use Rattle.fwd_core.proofs.state.connection_events.tell_all.Goals as goal

pub unreachable-requires : goal.unreachable-requires
unreachable-requires c = by c.in-Err.field-0 c.in-Err.is
  where
    up : c.reserve.new.self.live.shut ≡ false
    up = ap (λ (s : LiveSource). s.shut) c.reserve.ensures.live ∙ c.requires.up

    by : (e : AnswerError) → c.answer.result ≡ Err e → ⊥
    by Closed is = let shut : true ≡ false = sym (c.answer.ensures.closed_only_once_shut is) ∙ up in absurd cc
    by Memory is =
        let few = c.answer.ensures.memory_only_without_room is in
        let room = c.in_ok-reserve.ensures.ok in
        let size : length c.as_slice.result.now ≡ c.len.result = ap length c.as_slice.ensures ∙ sym c.len.ensures in
        omega (arith, few, room, size)

pub returns-clause-answer : goal.returns-clause-answer
returns-clause-answer c =
    let b = c.args.lane.now.output.book in
    told_is c.args.conn c.args.source.now.live c.args.lane.now c.requires.up
    (c.due_is_found.ensures.requests b c.args.conn c.is_sound.ensures.sound)
    c.in_ok-requests.field-0.requests c.in_ok-requests.field-0.out
    (c.in_ok-requests.ensures.requests ∙ ap (map (λ (o : Origin). o.request)) c.requires.due)
    (c.in_ok-requests.ensures.out ∙ ap (λ os. concat (map (λ (o : Origin). ack_asked (chunk_at b.requests o)) os)) c.requires.due)

pub returns-clause-source : goal.returns-clause-source
returns-clause-source c =
    let b = c.args.lane.now.output.book in
    source_is c.args.conn c.args.source.now.live c.args.lane.now c.requires.up
    (c.due_is_found.ensures.requests b c.args.conn c.is_sound.ensures.sound)
    c.answer.new.self.live c.in_ok-requests.field-0.out
    (c.in_ok-requests.ensures.out ∙ ap (λ os. concat (map (λ (o : Origin). ack_asked (chunk_at b.requests o)) os)) c.requires.due)
    (c.in-Ok.ensures.ok ∙ (λ i. source_appends (c.reserve.ensures.live i) (c.as_slice.ensures i)))

pub returns-clause-lane : goal.returns-clause-lane
returns-clause-lane c =
    let b = c.args.lane.now.output.book in
    lane_is c.args.conn c.args.source.now.live c.args.lane.now c.requires.up c.collect.new.self
    c.in_ok-collect.field-0.items
    (c.in_ok-collect.ensures.given ∙ ap (receipts b.settled b.requests) c.requires.due ∙ c.due_is_found.ensures.receipts b c.args.conn c.is_sound.ensures.sound)
    (c.origins_are_enough.ensures.leaves b (live_is_due b c.args.conn) c.is_sound.ensures.sound)
    c.in_ok-collect.ensures.told
