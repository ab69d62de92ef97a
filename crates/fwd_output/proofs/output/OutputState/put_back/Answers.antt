use Rattle.std.proofs.Common.{None}
use Rattle.fwd_output.proofs.CouplingLemmas.{frees-coupled}
use Rattle.fwd_output.proofs.OutputLemmas.{put_back}
use Rattle.fwd_output.proofs.output.OutputState.put_back.Goals as goal

pub invariant_of-self : goal.invariant_of-self
invariant_of-self c =
    let o = c.self.inside in
    let own = c.self.invariant in (
      frees-coupled o.buffer o.book.live c.put_back.new.buffer c.args.chunk.number None c.put_back.ensures.either own.0,
      put_back (record { buffer = o.buffer; book = o.book.live; servers = o.servers }) c.put_back.new.buffer c.args.chunk own.1 c.put_back.ensures.here c.put_back.ensures.elsewhere,
    )
