use Rattle.std.proofs.Common.{◌≡◌, ◌+◌, ◌-◌, ◌≤◌, ℕ, length, take, drop, subst, arith}
use Rattle.std.proofs.lemmas.List.{length-drop, length-take-le}
use Rattle.fwd_msgpack.specs.Flat.{BeginsWithPair}
use Rattle.fwd_msgpack.specs.Scans.{IsWhole}
use Rattle.fwd_msgpack.proofs.Flats.{plain_there, plain_whole, pair_found}
use Rattle.fwd_msgpack.proofs.flat.read_pair.Goals as goal

pub invariant_of-first : goal.invariant_of-first
invariant_of-first c =
    let bytes = c.args.bytes.now in
    let time = c.in_ok-at.field-0 in
    let inside : 1 + time ≤ length bytes = omega (arith, c.if-at-bytes.false) in
    let same : time ≡ 1 + time - 1 = omega arith in
    let len = length-take-le time (drop 1 bytes) (omega (arith, length-drop 1 bytes, inside)) in
    record {
      whole = subst (λ (k : ℕ). IsWhole (take k (drop 1 bytes))) same (plain_whole (take time (drop 1 bytes)) (plain_there bytes 1 time (c.in_ok-at.ensures.plain inside) inside) (omega (arith, len, c.in_ok-at.ensures.small)));
    }

pub returns : goal.returns
returns c =
    let bytes = c.args.bytes.now in
    let limits = c.args.limits in
    let time = c.in_ok-at.field-0 in
    let len = c.in_ok-len.len in
    let inside : 1 + time ≤ length bytes = omega (arith, c.if-at-bytes.false) in
    let same : time ≡ 1 + time - 1 = omega arith in
    subst (λ (k : ℕ). BeginsWithPair limits.bytes limits.depth bytes (take k (drop 1 bytes)) len) same
    (pair_found limits.bytes limits.depth bytes time c.in_ok-pairs.pairs len (omega arith) c.requires c.args.limits.shallow (omega (arith, c.in_ok-pairs.ensures.few)) (omega (arith, c.if-len-limits.false)) c.in_ok-len.ensures.inside (omega arith) (c.in_ok-at.ensures.plain inside) c.in_ok-pairs.ensures.same c.in_ok-len.ensures.row)
