use Rattle.std.proofs.Common.{◌<◌, ◌-◌, ◌^◌, find, option_map, sym, ap, ◌∙◌, arith}
use Rattle.fwd_chunks.specs.declared.chunk.Chunk.{Chunk}
use Rattle.fwd_chunks.specs.declared.flush.FlushKind.TheVariants.{Due, All}
use Rattle.fwd_chunks.specs.Live.{is_due}
use Rattle.fwd_chunks.specs.Slots.{began_by}
use Rattle.fwd_chunks.proofs.Closing.{find-alike, find-never, all-began, never-due}
use Rattle.fwd_chunks.proofs.chunk_index.ChunkIndex.first_closing.Goals as goal

pub returns-in-All : goal.returns-in-All
returns-in-All c =
    let xs = c.args.self.now.chunks in
    let number = λ (d : Chunk). d.number in
    c.first_from.ensures
    ∙ ap (option_map number) (find-alike (began_by (2 ^ 64 - 1)) (is_due All c.args.interval c.args.moment) xs (all-began c.args.interval c.args.moment xs c.is_ordered.ensures.timed)
    ∙ ap (λ k. find (is_due k c.args.interval c.args.moment) xs) (sym c.in-All.is))

pub returns-in-None : goal.returns-in-None
returns-in-None c =
    let xs = c.args.self.now.chunks in
    let early : c.args.moment < c.args.interval = omega (arith, c.in-None.ensures) in
    sym (ap (option_map (λ (d : Chunk). d.number)) (ap (λ k. find (is_due k c.args.interval c.args.moment) xs) c.in-Due.is
    ∙ find-never (is_due Due c.args.interval c.args.moment) xs (never-due c.args.interval c.args.moment early)))
