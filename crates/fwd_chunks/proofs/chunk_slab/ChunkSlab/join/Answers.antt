use Rattle.std.proofs.Common.{◌≡◌, Some, None, refl, sym, ap, ◌∙◌, subst, rules, option_map}
use Rattle.std.specs.Prelude.{slice_get}
use Rattle.slab.specs.Slab.{get}
use Rattle.fwd_chunks.specs.Filling.{joined_by, stage_last}
use Rattle.fwd_chunks.specs.Parts.{entries_in}
use Rattle.fwd_chunks.specs.Slots.{NumbersRise, revised, chunk_in}
use Rattle.fwd_chunks.specs.Slabs.{SlabShown, StandsAt, slots_by}
use Rattle.fwd_chunks.proofs.Places.{none_some}
use Rattle.fwd_chunks.proofs.Shelving.{lies-there, put-shelved, put-shown, still-shown, stands-with}
use Rattle.fwd_chunks.specs.contracts.chunk_slab.ChunkSlab.{the_view}
use Rattle.fwd_chunks.proofs.chunk_slab.ChunkSlab.join.Goals as goal
use Rattle.fwd_chunks.proofs.chunk_slab.ChunkSlab.join.Goals.{in-Some-get_mut+in_ok-join, in_default-get_mut}

pub returns-in_default-clause-ok : goal.returns-in_default-clause-ok
returns-in_default-clause-ok c =
    let none : chunk_in (slice_get (slots_by c.self.inside.kept c.self.inside.places.items) c.args.place) ≡ None = search rules in
    sym c.self.view_is
    ∙ still-shown (joined_by (entries_in c.args.front) (stage_last c.args.last)) c.self.inside.places.items c.self.inside.places.cap c.self.inside.kept c.args.place none
    ∙ ap (λ (h : SlabShown). record h { slots = revised c.args.place (option_map (joined_by (entries_in c.args.front) (stage_last c.args.last))) h.slots }) c.self.view_is

pub join-requires : goal.join-requires
join-requires c =
    let rise : NumbersRise (slots_by c.self.inside.kept c.self.inside.places.items) = subst (λ (h : SlabShown). NumbersRise h.slots) (sym c.self.view_is) c.requires.rising in
    let stands : StandsAt c.self.inside.places.items c.self.inside.kept c.args.place c.in-Some.key = search rules in
    let lies : get c.self.inside.kept c.in-Some.key ≡ Some c.in-Some-get_mut.kept.now = search rules in
    c.requires.fits c.in-Some-get_mut.kept.now.chunk
    (ap (λ (h : SlabShown). chunk_in (slice_get h.slots c.args.place)) (sym c.self.view_is)
    ∙ lies-there c.self.inside.places.items c.self.inside.kept c.self.invariant rise c.args.place c.in-Some.key
    (stands-with c.self.inside.places.items c.self.inside.kept c.args.place c.in-Some.key stands c.in-Some-get_mut.kept.now lies))

pub invariant_of-self-2 : goal.invariant_of-self-2
invariant_of-self-2 c =
    let rise : NumbersRise (slots_by c.self.inside.kept c.self.inside.places.items) = search rules in
    let stands : StandsAt c.self.inside.places.items c.self.inside.kept c.args.place c.in-Some.key = search rules in
    elim c.match-get_mut.branch [
      | in-Some-get_mut+in_ok-join w ↦
          let lies : get c.self.inside.kept c.in-Some.key ≡ Some w.in-Some-get_mut.kept.now = search rules in
          rw w.self-inside-is (put-shelved c.self.inside.places.items c.self.inside.kept c.self.invariant rise c.args.place c.in-Some.key
          (stands-with c.self.inside.places.items c.self.inside.kept c.args.place c.in-Some.key stands w.in-Some-get_mut.kept.now lies)
          (joined_by (entries_in c.args.front) (stage_last c.args.last)) w.join.new.chunk w.in_ok-join.ensures.ok refl)
      | in_default-get_mut w ↦ (let gone : get c.self.inside.kept c.in-Some.key ≡ None = search rules in absurd (none_some (sym gone ∙ stands.1)))
    ]

pub returns-clause-ok : goal.returns-clause-ok
returns-clause-ok c =
    let rise : NumbersRise (slots_by c.self.inside.kept c.self.inside.places.items) = search rules in
    let stands : StandsAt c.self.inside.places.items c.self.inside.kept c.args.place c.in-Some.key = search rules in
    elim c.match-get_mut.branch [
      | in-Some-get_mut+in_ok-join w ↦
          let lies : get c.self.inside.kept c.in-Some.key ≡ Some w.in-Some-get_mut.kept.now = search rules in
          ap the_view w.self-inside-is
          ∙ put-shown c.self.inside.places.items c.self.inside.places.cap c.self.inside.kept c.self.invariant rise c.args.place c.in-Some.key
          (stands-with c.self.inside.places.items c.self.inside.kept c.args.place c.in-Some.key stands w.in-Some-get_mut.kept.now lies)
          (joined_by (entries_in c.args.front) (stage_last c.args.last)) w.join.new.chunk w.in_ok-join.ensures.ok refl
          ∙ ap (λ (h : SlabShown). record h { slots = revised c.args.place (option_map (joined_by (entries_in c.args.front) (stage_last c.args.last))) h.slots }) c.self.view_is
      | in_default-get_mut w ↦ (let gone : get c.self.inside.kept c.in-Some.key ≡ None = search rules in absurd (none_some (sym gone ∙ stands.1)))
    ]
