use Rattle.std.proofs.lemmas.Bool.{lt-ltb, le-ltb}
use Rattle.fwd_msgpack.proofs.writing.put_long_ext.Goals as goal

pub returns-then-len-lt256 : goal.returns-then-len-lt256
returns-then-len-lt256 c = rw (lt-ltb c.args.len 256 c.if-len-lt256.true) c.extend_from_slice.ensures.items

pub returns-then-len-lt65536 : goal.returns-then-len-lt65536
returns-then-len-lt65536 c =
    rw (le-ltb c.args.len 256 c.if-len-lt256.false, lt-ltb c.args.len 65536 c.if-len-lt65536.true) (rw c.to_be_bytes.ensures at c.extend_from_slice-then-len-lt65536.ensures.items)

pub returns-else-len-lt65536 : goal.returns-else-len-lt65536
returns-else-len-lt65536 c =
    rw (le-ltb c.args.len 256 c.if-len-lt256.false, le-ltb c.args.len 65536 c.if-len-lt65536.false) (rw c.to_be_bytes-else-len-lt65536.ensures at c.extend_from_slice-else-len-lt65536.ensures.items)
