use Rattle.std.proofs.Common.{rules, ◌≡◌, ◌+◌, List, ℕ, [], ◌∷◌, ◌++◌, subst, arith}
use Rattle.std.proofs.lemmas.List.{take_rest}
use Rattle.fwd_modes.specs.Entries.{BeginsKept}
use Rattle.fwd_modes.specs.Fronts.{AreKeptInARow}
use Rattle.fwd_modes.proofs.Fronting.{kept_none, kept_more}
use Rattle.fwd_modes.proofs.front_request.ends_of_many.Goals as goal

pub loop-place-init : goal.loop-place-init
loop-place-init c =
    let none : c.reserve.new.self.items ≡ [] = search rules in
    record {
      row = rw none (kept_none c.args.limits.depth c.args.bytes.now);
      fits = omega arith;
    }

pub slice_bounds-kept_len-start : goal.slice_bounds-kept_len-start
slice_bounds-kept_len-start c = c.loop-place.invariant.row.within

pub loop-place-preserved : goal.loop-place-preserved
loop-place-preserved c =
    let bytes = c.args.bytes.now in
    let limits = c.args.limits in
    let ends = c.loop-place.ends.items in
    let used = c.loop-place.used in
    let len = c.in_ok-len.len in
    let front = subst (λ (xs : List ℕ). BeginsKept limits.bytes limits.depth xs len) (take_rest bytes used) c.in_ok-len.ensures in
    let added : c.push.new.self.items ≡ ends ++ (used + len) ∷ [] = search rules in
    record {
      row = rw added (kept_more limits.bytes limits.depth c.loop-place.place bytes ends used len c.loop-place.invariant.row front);
      fits = omega (arith, c.if-used-limits.false);
    }

pub returns-clause-row : goal.returns-clause-row
returns-clause-row c =
    let all : c.loop-place.place ≡ c.args.count = omega (arith, c.loop-place-test.false, c.loop-place.auto.place-end) in
    subst (λ (n : ℕ). AreKeptInARow c.args.limits.depth n c.args.bytes.now c.loop-place.ends.items c.loop-place.used) all c.loop-place.invariant.row
