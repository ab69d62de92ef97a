use Rattle.fwd_msgpack.proofs.writing.put_16.Goals as goal

pub returns : goal.returns
returns c = rw c.to_be_bytes.ensures at c.extend_from_slice.ensures.items
