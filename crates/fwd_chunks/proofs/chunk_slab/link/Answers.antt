use Rattle.std.proofs.Common.{◌≡◌, Some, None, rules, sym, ◌∙◌, get_or, slice_get}
use Rattle.slab.specs.Slab.{get}
use Rattle.fwd_chunks.specs.declared.chunk_slab.ChunkPlace.{ChunkPlace}
use Rattle.fwd_chunks.proofs.Places.{none_some, get-or-at}
use Rattle.fwd_chunks.proofs.Shelving.{linking-there, linking-next, linking-end}
use Rattle.fwd_chunks.proofs.chunk_slab.link.Goals as goal
use Rattle.fwd_chunks.proofs.chunk_slab.link.Goals.{in-Some, in_default}

pub loop-place-preserved : goal.loop-place-preserved
loop-place-preserved c =
    let p : ChunkPlace = get_or c.args.places.now c.loop-place.place (record { number = 0; key = 0 }) in
    let at : slice_get c.args.places.now c.loop-place.place ≡ Some p = get-or-at c.args.places.now c.loop-place.place (record { number = 0; key = 0 }) c.loop-place-test.true in
    elim c.match-get_mut.branch [
      | in-Some w ↦
          let lies : get c.loop-place.kept p.key ≡ Some w.in-Some.kept.now = search rules in
          rw w.kept-is (linking-next c.loop-place.place c.args.places.now c.args.kept.now c.loop-place.kept c.loop-place.invariant c.requires.full p at w.in-Some.kept.now lies)
      | in_default w ↦
          let gone : get c.loop-place.kept p.key ≡ None = search rules in
          absurd (none_some (sym gone ∙ (linking-there c.loop-place.place c.args.places.now c.args.kept.now c.loop-place.kept c.loop-place.invariant c.requires.full p at).1))
    ]

pub returns-clause-linked : goal.returns-clause-linked
returns-clause-linked c = linking-end c.loop-place.place c.args.places.now c.args.kept.now c.loop-place.kept c.loop-place-test.false c.loop-place.invariant
