use Rattle.std.proofs.Common.{List, ◌≡◌, ◌≤◌, ◌+◌, Bool, false, suc, length, take, refl, sym, ap, ◌∙◌, arith}
use Rattle.std.specs.List.{list_any}
use Rattle.std.specs.Str.{bytes_eq}
use Rattle.fwd_chunks.specs.History.{CarriedChunk}
use Rattle.fwd_session.specs.Flights.{PendingChunk, pending_at}
use Rattle.fwd_session.proofs.Lists.{length_map}
use Rattle.fwd_session.proofs.Firsts.{none_found, none_more, take_whole, there_map}
use Rattle.fwd_session.proofs.unacked.Unacked.find.Goals as goal

pub loop-place-init : goal.loop-place-init
loop-place-init c = refl

pub returns-then-eq-clause-some : goal.returns-then-eq-clause-some
returns-then-eq-clause-some c =
    let one = there_map (λ (p : PendingChunk). p.chunk) _ c.chunk.result.now c.chunk.ensures in (
      one.0,
      record {
        there = one.1;
        passes = ap (λ k. bytes_eq c.args.name.now k.name) one.2 ∙ ap (bytes_eq c.args.name.now) (sym c.name.ensures.value) ∙ sym c.eq.ensures ∙ c.if-eq.true;
        before = c.loop-place.invariant;
      },
    )

pub loop-place-preserved : goal.loop-place-preserved
loop-place-preserved c =
    let test : PendingChunk → Bool = λ p. bytes_eq c.args.name.now p.chunk.name in
    let next : suc c.loop-place.place ≡ c.loop-place.place + 1 = omega arith in
    let one = there_map (λ (p : PendingChunk). p.chunk) _ c.chunk.result.now c.chunk.ensures in
    let here : test one.0 ≡ false = ap (λ k. bytes_eq c.args.name.now k.name) one.2 ∙ ap (bytes_eq c.args.name.now) (sym c.name.ensures.value) ∙ sym c.eq.ensures ∙ c.if-eq.false in
    ap (λ n. list_any test (take n c.args.self.now)) (sym next)
    ∙ none_more test c.args.self.now c.loop-place.place one.0 one.1 c.loop-place.invariant here

pub returns-clause-none : goal.returns-clause-none
returns-clause-none c =
    let test : PendingChunk → Bool = λ p. bytes_eq c.args.name.now p.chunk.name in
    let u = c.self.inside in
    let chunks : List CarriedChunk = u.chunks.now in
    let many : length c.args.self.now ≡ length u.left.items = ap length (sym c.self.view_is) ∙ length_map (pending_at u.handed_on chunks) u.left.items in
    let all : length c.args.self.now ≤ c.loop-place.place = omega (arith, many, c.loop-place-test.false, c.len-place-end.ensures.value) in
    none_found test c.args.self.now (ap (list_any test) (sym (take_whole c.args.self.now c.loop-place.place all)) ∙ c.loop-place.invariant)
