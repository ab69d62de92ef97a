use Rattle.std.proofs.Common.{rules, refl, inl, inr, ◌∙◌}
use Rattle.std.proofs.lemmas.List.{length-take-le}
use Rattle.fwd_peers.proofs.Visiting.{one_more, ends_so, is_open, bytes_taken}
use Rattle.fwd_peers.proofs.peer_stream.Stream.send.Goals as goal

pub returns-in-Err-clause-visit : goal.returns-in-Err-clause-visit
returns-in-Err-clause-visit g c =
    ends_so _ _ _ _ _ _ _ _ _ c.loop.invariant.way c.in-Err.ensures.told refl

pub returns-in-Err-clause-rest : goal.returns-in-Err-clause-rest
returns-in-Err-clause-rest g c = c.in-Err.ensures.rest ∙ c.loop.invariant.other

pub loop-preserved : goal.loop-preserved
loop-preserved g c = record {
  within = search rules;
  way = one_more _ _ _ _ _ _ _ _ c.loop.invariant.way c.in-Ok.ensures.told
      (bytes_taken c.loop.count c.in-Ok.more c.args.bytes.now);
  other = c.in-Ok.ensures.rest ∙ c.loop.invariant.other;
}

pub returns-after-loop-clause-visit : goal.returns-after-loop-clause-visit
returns-after-loop-clause-visit g c = is_open _ _ _ _ _ c.loop.invariant.way (inr c.loop-test.false)

pub returns-then-count-bytes-clause-visit : goal.returns-then-count-bytes-clause-visit
returns-then-count-bytes-clause-visit g c =
    is_open _ _ _ _ _ c.loop.invariant.way
    (inl (length-take-le c.loop.count c.args.bytes.now c.loop.invariant.within ∙ c.if-count-bytes.true))
