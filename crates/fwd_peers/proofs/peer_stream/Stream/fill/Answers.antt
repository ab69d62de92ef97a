use Rattle.std.proofs.Common.{rules, arith, inl, inr, refl, ◌-◌, length, ◌∙◌}
use Rattle.std.proofs.lemmas.List.{length-take-le}
use borrow.Rule.Slice.PartMut.{take_put}
use Rattle.fwd_peers.proofs.Visiting.{one_more, ends_so, is_open, room_filled, stops_short}
use Rattle.fwd_peers.proofs.peer_stream.Stream.fill.Goals as goal

pub returns-in-Err-clause-visit : goal.returns-in-Err-clause-visit
returns-in-Err-clause-visit g c =
    inl (ends_so _ _ _ _ _ _ _ _ _ c.loop.invariant.way c.in-Err.ensures.told
    (take_put c.loop.count (length c.loop.room - c.loop.count) c.loop.room c.read_in_visit.new.room c.loop.invariant.within))

pub returns-in-Err-clause-rest : goal.returns-in-Err-clause-rest
returns-in-Err-clause-rest g c = c.in-Err.ensures.rest ∙ c.loop.invariant.other

pub loop-preserved : goal.loop-preserved
loop-preserved g c = record {
  within = search rules;
  way = one_more _ _ _ _ _ _ _ _ c.loop.invariant.way c.in-Ok.ensures.told
      (room_filled c.loop.count c.in-Ok.more (length c.loop.room - c.loop.count) c.loop.room c.read_in_visit.new.room c.loop.invariant.within c.in-Ok.ensures.within);
  other = c.in-Ok.ensures.rest ∙ c.loop.invariant.other;
}

pub returns-after-loop-clause-visit : goal.returns-after-loop-clause-visit
returns-after-loop-clause-visit g c =
    inl (is_open _ _ _ _ _ c.loop.invariant.way (inr (omega (arith, c.loop-test.false, c.loop.auto.room))))

pub returns-then-count-room-clause-visit : goal.returns-then-count-room-clause-visit
returns-then-count-room-clause-visit g c =
    inl (is_open _ _ _ _ _ c.loop.invariant.way
    (inl (length-take-le c.loop.count c.loop.room c.loop.invariant.within ∙ c.if-count-room.true)))

pub returns-then-is_last-clause-visit : goal.returns-then-is_last-clause-visit
returns-then-is_last-clause-visit g c =
    let last = c.stops_at-is_last.ensures c.if-is_last.true in
    inr (
      c.is_to_end-is_whole.ensures last.0,
      refl,
      stops_short _ _ _ _ _ _ _ _ c.loop.invariant.way c.in-Ok.ensures.told
          (room_filled c.loop.count c.in-Ok.more (length c.loop.room - c.loop.count) c.loop.room c.read_in_visit.new.room c.loop.invariant.within c.in-Ok.ensures.within)
          last.1 (omega (arith, last.2, c.read_in_visit.auto.room)),
    )
