use Rattle.std.proofs.lemmas.Bool.{lt-ltb}
use Rattle.fwd_msgpack.proofs.writing.put_map.Goals as goal

pub returns-then-n-lt16 : goal.returns-then-n-lt16
returns-then-n-lt16 c = rw (lt-ltb c.args.n 16 c.if-n-lt16.true) c.extend_from_slice.ensures.items
