use Rattle.fwd_msgpack.proofs.writing.put_8.Goals as goal

pub returns : goal.returns
returns c = c.extend_from_slice.ensures.items
