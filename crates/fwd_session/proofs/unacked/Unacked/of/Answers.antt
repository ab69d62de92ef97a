use Rattle.std.proofs.Common.{ℕ, List, [], ◌∷◌, ◌++◌, ◌≡◌, ◌<◌, ◌+◌, suc, length, take, sym, ap, subst, ◌∙◌, arith}
use Rattle.std.specs.Prelude.{map}
use Rattle.std.specs.List.{AllByRecursion}
use Rattle.std.proofs.lemmas.List.{map-append}
use Rattle.fwd_chunks.specs.History.{CarriedChunk}
use Rattle.fwd_session.specs.Flights.{pending_at, pending_of}
use Rattle.fwd_session.proofs.Lists.{all_append}
use Rattle.fwd_session.proofs.Firsts.{take_next, take_whole}
use Rattle.fwd_session.proofs.Carrying.{pending_length, pending_there}
use Rattle.fwd_session.proofs.unacked.Unacked.of.Goals as goal

pub loop-place-preserved : goal.loop-place-preserved
loop-place-preserved c =
    let chunks : List CarriedChunk = c.args.chunks.now in
    let handed = c.args.handed_on in
    let l = c.loop-place in
    let left : List ℕ = l.left.items in
    let here : l.place < length chunks = omega arith in
    let next : suc l.place ≡ l.place + 1 = omega arith in
    record {
      many = omega (arith, l.invariant.many, c.push.ensures.len);
      within = subst (AllByRecursion (λ place. place < length chunks)) (sym c.push.ensures.items) (all_append (λ place. place < length chunks) left (l.place ∷ []) l.invariant.within (here, tt));
      same = ap (map (pending_at handed chunks)) c.push.ensures.items
          ∙ map-append (pending_at handed chunks) left (l.place ∷ [])
          ∙ ap (λ ps. ps ++ pending_at handed chunks l.place ∷ []) l.invariant.same
          ∙ take_next (pending_of handed chunks) l.place (pending_at handed chunks l.place) (pending_there handed chunks l.place here)
          ∙ ap (λ n. take n (pending_of handed chunks)) next;
    }

pub returns : goal.returns
returns c =
    let chunks : List CarriedChunk = c.args.chunks.now in
    let handed = c.args.handed_on in
    c.loop-place.invariant.same
    ∙ take_whole (pending_of handed chunks) c.loop-place.place (omega (arith, pending_length handed chunks, c.loop-place-test.false))
