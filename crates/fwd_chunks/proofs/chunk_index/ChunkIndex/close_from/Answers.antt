use Rattle.std.proofs.Common.{◌≡◌, ◌+◌, find, length, filter, option_map, Some, None, refl, sym, ap, ◌∙◌, arith}
use Rattle.fwd_chunks.specs.declared.chunk_state.ChunkState.TheVariants.{Closed}
use Rattle.fwd_chunks.specs.Live.{is_at, staged, changed}
use Rattle.fwd_chunks.specs.Slots.{Held, began_by}
use Rattle.fwd_chunks.proofs.Closing.{closed-once, closed-count, closed-all, none-pass, number-found, number-none, filter-short}
use Rattle.fwd_chunks.proofs.chunk_index.ChunkIndex.close_from.Goals as goal

pub overflow_add-count : goal.overflow_add-count
overflow_add-count c =
    let test = began_by c.args.moment in
    let found : Some c.in-Some.number ≡ option_map (λ d. d.number) (find (began_by c.args.moment) c.loop-number.self.chunks) = ap (option_map (λ p. p.0)) (sym c.in-Some.is) ∙ c.first_due.ensures in
    let it = number-found (find (began_by c.args.moment) c.loop-number.self.chunks) c.in-Some.number found in
    let next : c.stage.new.self.chunks ≡ changed (is_at it.0.number) (staged Closed) c.loop-number.self.chunks = ap (λ (h : Held). h.chunks) c.stage.ensures ∙ ap (λ n. changed (is_at n) (staged Closed) c.loop-number.self.chunks) (sym it.1.1) in
    let one : length (filter (began_by c.args.moment) c.stage.new.self.chunks) + 1 ≡ length (filter (began_by c.args.moment) c.loop-number.self.chunks) = ap (λ l. length (filter test l) + 1) next ∙ closed-count test (staged Closed) (λ d. refl) c.loop-number.self.chunks it.0 c.is_ordered-in-Some.ensures.rise it.1.0 in
    omega (arith, one, c.loop-number.invariant.counted, filter-short test c.args.self.now.chunks, c.is_ordered.ensures.bound)

pub loop-number-smaller : goal.loop-number-smaller
loop-number-smaller c =
    let test = began_by c.args.moment in
    let found : Some c.in-Some.number ≡ option_map (λ d. d.number) (find (began_by c.args.moment) c.loop-number.self.chunks) = ap (option_map (λ p. p.0)) (sym c.in-Some.is) ∙ c.first_due.ensures in
    let it = number-found (find (began_by c.args.moment) c.loop-number.self.chunks) c.in-Some.number found in
    let next : c.stage.new.self.chunks ≡ changed (is_at it.0.number) (staged Closed) c.loop-number.self.chunks = ap (λ (h : Held). h.chunks) c.stage.ensures ∙ ap (λ n. changed (is_at n) (staged Closed) c.loop-number.self.chunks) (sym it.1.1) in
    let one : length (filter (began_by c.args.moment) c.stage.new.self.chunks) + 1 ≡ length (filter (began_by c.args.moment) c.loop-number.self.chunks) = ap (λ l. length (filter test l) + 1) next ∙ closed-count test (staged Closed) (λ d. refl) c.loop-number.self.chunks it.0 c.is_ordered-in-Some.ensures.rise it.1.0 in
    omega (arith, one)

pub loop-number-preserved : goal.loop-number-preserved
loop-number-preserved c =
    let test = began_by c.args.moment in
    let found : Some c.in-Some.number ≡ option_map (λ d. d.number) (find (began_by c.args.moment) c.loop-number.self.chunks) = ap (option_map (λ p. p.0)) (sym c.in-Some.is) ∙ c.first_due.ensures in
    let it = number-found (find (began_by c.args.moment) c.loop-number.self.chunks) c.in-Some.number found in
    let next : c.stage.new.self.chunks ≡ changed (is_at it.0.number) (staged Closed) c.loop-number.self.chunks = ap (λ (h : Held). h.chunks) c.stage.ensures ∙ ap (λ n. changed (is_at n) (staged Closed) c.loop-number.self.chunks) (sym it.1.1) in
    let one : length (filter (began_by c.args.moment) c.stage.new.self.chunks) + 1 ≡ length (filter (began_by c.args.moment) c.loop-number.self.chunks) = ap (λ l. length (filter test l) + 1) next ∙ closed-count test (staged Closed) (λ d. refl) c.loop-number.self.chunks it.0 c.is_ordered-in-Some.ensures.rise it.1.0 in
    record {
      kept = c.stage.ensures ∙ (λ j. record {
        retry = ap (λ (h : Held). h.retry) c.loop-number.invariant.kept j;
        chunks = sym (ap (λ (h : Held). h.chunks) c.stage.ensures) j;
        last = ap (λ (h : Held). h.last) c.loop-number.invariant.kept j;
        room = ap (λ (h : Held). h.room) c.loop-number.invariant.kept j;
      });
      closed = ap (changed test (staged Closed)) next ∙ closed-once test (staged Closed) (λ d. refl) c.loop-number.self.chunks it.0 c.is_ordered-in-Some.ensures.rise it.1.0 ∙ c.loop-number.invariant.closed;
      counted = omega (arith, one, c.loop-number.invariant.counted);
    }

pub returns-clause-count : goal.returns-clause-count
returns-clause-count c =
    let none : find (began_by c.args.moment) c.loop-number.self.chunks ≡ None = number-none (find (began_by c.args.moment) c.loop-number.self.chunks) (ap (option_map (λ p. p.0)) (sym c.in_default.is) ∙ c.first_due.ensures) in
    omega (arith, c.loop-number.invariant.counted, ap length (none-pass (began_by c.args.moment) c.loop-number.self.chunks none))

pub returns-clause-closed : goal.returns-clause-closed
returns-clause-closed c =
    let none : find (began_by c.args.moment) c.loop-number.self.chunks ≡ None = number-none (find (began_by c.args.moment) c.loop-number.self.chunks) (ap (option_map (λ p. p.0)) (sym c.in_default.is) ∙ c.first_due.ensures) in
    let chunks : c.loop-number.self.chunks ≡ changed (began_by c.args.moment) (staged Closed) c.args.self.now.chunks = sym (closed-all (began_by c.args.moment) (staged Closed) c.loop-number.self.chunks none) ∙ c.loop-number.invariant.closed in
    c.loop-number.invariant.kept ∙ ap (λ l. record c.args.self.now { chunks = l }) chunks
