use Rattle.std.proofs.Common.{◌∙◌, refl, sym, arith, false}
use Rattle.std.specs.Int.{w8, w16, w32, w64}
use Rattle.fwd_msgpack.specs.declared.head.Head.TheVariants.{Int}
use Rattle.fwd_msgpack.specs.Heads.{row_of, named_rows}
use Rattle.fwd_msgpack.proofs.Readings.{read_whole, read_short}
use Rattle.fwd_msgpack.proofs.head.read_unsigned.Goals as goal

pub returns-in-Some : goal.returns-in-Some
unfolding row_of named_rows
returns-in-Some c = rw (c.natural.ensures, c.from.ensures) (read_whole w8 (λ n. Int false n) 0xcc c.args.first c.args.rest.now c.in-Some.mag refl c.in-204.is (sym c.in-Some.is ∙ c.u8_at.ensures))

pub returns-in-None : goal.returns-in-None
unfolding row_of named_rows
returns-in-None c = read_short w8 (λ n. Int false n) 0xcc c.args.first c.args.rest.now refl c.in-204.is (sym c.in-None.is ∙ c.u8_at.ensures)

pub returns-in-Some-u16_at : goal.returns-in-Some-u16_at
unfolding row_of named_rows
returns-in-Some-u16_at c = rw (c.natural-in-Some-u16_at.ensures, c.from-in-Some-u16_at.ensures) (read_whole w16 (λ n. Int false n) 0xcd c.args.first c.args.rest.now c.in-Some-u16_at.mag refl c.in-205.is (sym c.in-Some-u16_at.is ∙ c.u16_at.ensures))

pub returns-in-None-u16_at : goal.returns-in-None-u16_at
unfolding row_of named_rows
returns-in-None-u16_at c = read_short w16 (λ n. Int false n) 0xcd c.args.first c.args.rest.now refl c.in-205.is (sym c.in-None-u16_at.is ∙ c.u16_at.ensures)

pub returns-in-Some-u32_at : goal.returns-in-Some-u32_at
unfolding row_of named_rows
returns-in-Some-u32_at c = rw (c.natural-in-Some-u32_at.ensures, c.from-in-Some-u32_at.ensures) (read_whole w32 (λ n. Int false n) 0xce c.args.first c.args.rest.now c.in-Some-u32_at.mag refl c.in-206.is (sym c.in-Some-u32_at.is ∙ c.u32_at.ensures))

pub returns-in-None-u32_at : goal.returns-in-None-u32_at
unfolding row_of named_rows
returns-in-None-u32_at c = read_short w32 (λ n. Int false n) 0xce c.args.first c.args.rest.now refl c.in-206.is (sym c.in-None-u32_at.is ∙ c.u32_at.ensures)

pub returns-in-Some-u64_at : goal.returns-in-Some-u64_at
unfolding row_of named_rows
returns-in-Some-u64_at c = rw c.natural-in-Some-u64_at.ensures (read_whole w64 (λ n. Int false n) 0xcf c.args.first c.args.rest.now c.in-Some-u64_at.mag refl (omega arith) (sym c.in-Some-u64_at.is ∙ c.u64_at.ensures))

pub returns-in-None-u64_at : goal.returns-in-None-u64_at
unfolding row_of named_rows
returns-in-None-u64_at c = read_short w64 (λ n. Int false n) 0xcf c.args.first c.args.rest.now refl (omega arith) (sym c.in-None-u64_at.is ∙ c.u64_at.ensures)
