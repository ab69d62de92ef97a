use Rattle.std.proofs.Common.{◌<◌, ◌-◌, ◌^◌, length, filter, sym, ap, ◌∙◌, arith}
use Rattle.fwd_chunks.specs.declared.chunk_state.ChunkState.TheVariants.{Closed}
use Rattle.fwd_chunks.specs.declared.flush.FlushKind.TheVariants.{Due, All}
use Rattle.fwd_chunks.specs.Live.{is_due, staged, changed}
use Rattle.fwd_chunks.specs.Slots.{began_by}
use Rattle.fwd_chunks.proofs.Closing.{changed-alike, filter-alike, changed-never, filter-never, all-began, never-due}
use Rattle.fwd_chunks.proofs.chunk_index.ChunkIndex.flush.Goals as goal

pub returns-in-All-clause-count : goal.returns-in-All-clause-count
returns-in-All-clause-count c =
    let xs = c.args.self.now.chunks in
    c.close_from.ensures.count
    ∙ ap length (filter-alike (began_by (2 ^ 64 - 1)) (is_due All c.args.interval c.args.moment) xs (all-began c.args.interval c.args.moment xs c.is_ordered.ensures.timed))
    ∙ ap (λ k. length (filter (is_due k c.args.interval c.args.moment) xs)) (sym c.in-All.is)

pub returns-in-All-clause-closed : goal.returns-in-All-clause-closed
returns-in-All-clause-closed c =
    let xs = c.args.self.now.chunks in
    c.close_from.ensures.closed
    ∙ ap (λ l. record c.args.self.now { chunks = l }) (changed-alike (began_by (2 ^ 64 - 1)) (is_due All c.args.interval c.args.moment) (staged Closed) xs (all-began c.args.interval c.args.moment xs c.is_ordered.ensures.timed)
    ∙ ap (λ k. changed (is_due k c.args.interval c.args.moment) (staged Closed) xs) (sym c.in-All.is))

pub returns-in-None-clause-count : goal.returns-in-None-clause-count
returns-in-None-clause-count c =
    let xs = c.args.self.now.chunks in
    let early : c.args.moment < c.args.interval = omega (arith, c.in-None.ensures) in
    sym (ap length (ap (λ k. filter (is_due k c.args.interval c.args.moment) xs) c.in-Due.is ∙ filter-never (is_due Due c.args.interval c.args.moment) xs (never-due c.args.interval c.args.moment early)))

pub returns-in-None-clause-closed : goal.returns-in-None-clause-closed
returns-in-None-clause-closed c =
    let xs = c.args.self.now.chunks in
    let early : c.args.moment < c.args.interval = omega (arith, c.in-None.ensures) in
    ap (λ l. record c.args.self.now { chunks = l }) (sym (ap (λ k. changed (is_due k c.args.interval c.args.moment) (staged Closed) xs) c.in-Due.is ∙ changed-never (is_due Due c.args.interval c.args.moment) (staged Closed) xs (never-due c.args.interval c.args.moment early)))
