use Rattle.std.proofs.Common.{refl, arith}
use Rattle.fwd_msgpack.specs.Heads.{row_of, named_rows}
use Rattle.fwd_msgpack.proofs.Readings.{ext_of_fixed}
use Rattle.fwd_msgpack.proofs.head.read_fixed_ext.Goals as goal
use Rattle.fwd_msgpack.proofs.head.read_fixed_ext.Goals.{in-212, in-213, in-214, in-215, in_default}

pub returns : goal.returns
unfolding row_of named_rows
returns c =
    elim c.match-first.branch [
      | in-212 w ↦ rw (c.ext_at.ensures, w.len-is) (ext_of_fixed 0xd4 c.args.first 1 c.args.rest.now refl w.in-212.is)
      | in-213 w ↦ rw (c.ext_at.ensures, w.len-is) (ext_of_fixed 0xd5 c.args.first 2 c.args.rest.now refl w.in-213.is)
      | in-214 w ↦ rw (c.ext_at.ensures, w.len-is) (ext_of_fixed 0xd6 c.args.first 4 c.args.rest.now refl w.in-214.is)
      | in-215 w ↦ rw (c.ext_at.ensures, w.len-is) (ext_of_fixed 0xd7 c.args.first 8 c.args.rest.now refl w.in-215.is)
      | in_default w ↦ rw (c.ext_at.ensures, w.len-is) (ext_of_fixed 0xd8 c.args.first 16 c.args.rest.now refl (omega arith))
    ]
