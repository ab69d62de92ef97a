use Rattle.std.proofs.Common.{◌∙◌, refl, sym, arith}
use Rattle.std.specs.Int.{w8, w16, w32}
use Rattle.fwd_msgpack.specs.declared.head.Head.TheVariants.{Bin}
use Rattle.fwd_msgpack.specs.Heads.{row_of, named_rows}
use Rattle.fwd_msgpack.proofs.Readings.{read_whole, read_short}
use Rattle.fwd_msgpack.proofs.head.read_bin.Goals as goal

pub returns-in-Some : goal.returns-in-Some
unfolding row_of named_rows
returns-in-Some c = rw c.from.ensures (read_whole w8 Bin 0xc4 c.args.first c.args.rest.now c.in-Some.len refl c.in-196.is (sym c.in-Some.is ∙ c.u8_at.ensures))

pub returns-in-None : goal.returns-in-None
unfolding row_of named_rows
returns-in-None c = read_short w8 Bin 0xc4 c.args.first c.args.rest.now refl c.in-196.is (sym c.in-None.is ∙ c.u8_at.ensures)

pub returns-in-Some-u16_at : goal.returns-in-Some-u16_at
unfolding row_of named_rows
returns-in-Some-u16_at c = rw c.from-in-Some-u16_at.ensures (read_whole w16 Bin 0xc5 c.args.first c.args.rest.now c.in-Some-u16_at.len refl c.in-197.is (sym c.in-Some-u16_at.is ∙ c.u16_at.ensures))

pub returns-in-None-u16_at : goal.returns-in-None-u16_at
unfolding row_of named_rows
returns-in-None-u16_at c = read_short w16 Bin 0xc5 c.args.first c.args.rest.now refl c.in-197.is (sym c.in-None-u16_at.is ∙ c.u16_at.ensures)

pub returns-in-Some-u32_at : goal.returns-in-Some-u32_at
unfolding row_of named_rows
returns-in-Some-u32_at c = read_whole w32 Bin 0xc6 c.args.first c.args.rest.now c.in-Some-u32_at.len refl (omega arith) (sym c.in-Some-u32_at.is ∙ c.u32_at.ensures)

pub returns-in-None-u32_at : goal.returns-in-None-u32_at
unfolding row_of named_rows
returns-in-None-u32_at c = read_short w32 Bin 0xc6 c.args.first c.args.rest.now refl (omega arith) (sym c.in-None-u32_at.is ∙ c.u32_at.ensures)
