use Rattle.std.proofs.Common.{◌∙◌, refl, sym, arith}
use Rattle.std.specs.Int.{w8, w16, w32}
use Rattle.fwd_msgpack.specs.Heads.{row_of, named_rows}
use Rattle.fwd_msgpack.proofs.Readings.{ext_whole, ext_short, apart_8, apart_16, apart_32}
use Rattle.fwd_msgpack.proofs.head.read_ext.Goals as goal

pub returns-in-Some : goal.returns-in-Some
unfolding row_of named_rows
returns-in-Some c = rw (c.ext_at.ensures, c.from.ensures) (ext_whole w8 0xc7 c.args.first c.args.rest.now c.in-Some.len apart_8 refl c.in-199.is (sym c.in-Some.is ∙ c.u8_at.ensures))

pub returns-in-None : goal.returns-in-None
unfolding row_of named_rows
returns-in-None c = ext_short w8 0xc7 c.args.first c.args.rest.now apart_8 refl c.in-199.is (sym c.in-None.is ∙ c.u8_at.ensures)

pub returns-in-Some-u16_at : goal.returns-in-Some-u16_at
unfolding row_of named_rows
returns-in-Some-u16_at c = rw (c.ext_at-in-Some-u16_at.ensures, c.from-in-Some-u16_at.ensures) (ext_whole w16 0xc8 c.args.first c.args.rest.now c.in-Some-u16_at.len apart_16 refl c.in-200.is (sym c.in-Some-u16_at.is ∙ c.u16_at.ensures))

pub returns-in-None-u16_at : goal.returns-in-None-u16_at
unfolding row_of named_rows
returns-in-None-u16_at c = ext_short w16 0xc8 c.args.first c.args.rest.now apart_16 refl c.in-200.is (sym c.in-None-u16_at.is ∙ c.u16_at.ensures)

pub returns-in-Some-u32_at : goal.returns-in-Some-u32_at
unfolding row_of named_rows
returns-in-Some-u32_at c = rw c.ext_at-in-Some-u32_at.ensures (ext_whole w32 0xc9 c.args.first c.args.rest.now c.in-Some-u32_at.len apart_32 refl (omega arith) (sym c.in-Some-u32_at.is ∙ c.u32_at.ensures))

pub returns-in-None-u32_at : goal.returns-in-None-u32_at
unfolding row_of named_rows
returns-in-None-u32_at c = ext_short w32 0xc9 c.args.first c.args.rest.now apart_32 refl (omega arith) (sym c.in-None-u32_at.is ∙ c.u32_at.ensures)
