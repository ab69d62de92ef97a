use Rattle.std.proofs.Common.{◌≡◌, ℕ, Bool, true, Some, None, refl, sym, ap, ◌∙◌, rules, false, option_map}
use Rattle.std.specs.Prelude.{slice_get}
use Rattle.slab.specs.Slab.{get}
use Rattle.fwd_chunks.specs.declared.chunk.Chunk.{Chunk}
use Rattle.fwd_chunks.specs.Stored.{put_back}
use Rattle.fwd_chunks.specs.Slots.{NumbersRise, revised, chunk_in}
use Rattle.fwd_chunks.specs.Slabs.{SlabShown, StandsAt, slots_by}
use Rattle.fwd_chunks.proofs.Places.{none_some}
use Rattle.fwd_chunks.proofs.Shelving.{put-shelved, put-shown, still-shown, stands-with}
use Rattle.fwd_chunks.specs.contracts.chunk_slab.ChunkSlab.{the_view}
use Rattle.fwd_chunks.proofs.chunk_slab.ChunkSlab.put_back.Goals as goal
use Rattle.fwd_chunks.proofs.chunk_slab.ChunkSlab.put_back.Goals.{in-Some-get_mut, in_default-get_mut}

same : (lost : Bool) (moment : ℕ) (c : Chunk) → (put_back lost moment c).number ≡ c.number
same true moment c = refl
same false moment c = refl

pub returns-in_default : goal.returns-in_default
returns-in_default c =
    let none : chunk_in (slice_get (slots_by c.self.inside.kept c.self.inside.places.items) c.args.place) ≡ None = search rules in
    sym c.self.view_is
    ∙ still-shown (put_back c.args.lost c.args.moment) c.self.inside.places.items c.self.inside.places.cap c.self.inside.kept c.args.place none
    ∙ ap (λ (h : SlabShown). record h { slots = revised c.args.place (option_map (put_back c.args.lost c.args.moment)) h.slots }) c.self.view_is

pub invariant_of-self : goal.invariant_of-self
invariant_of-self c =
    let rise : NumbersRise (slots_by c.self.inside.kept c.self.inside.places.items) = search rules in
    let stands : StandsAt c.self.inside.places.items c.self.inside.kept c.args.place c.in-Some.key = search rules in
    elim c.match-get_mut.branch [
      | in-Some-get_mut w ↦
          let lies : get c.self.inside.kept c.in-Some.key ≡ Some w.in-Some-get_mut.kept.now = search rules in
          rw w.self-inside-is (put-shelved c.self.inside.places.items c.self.inside.kept c.self.invariant rise c.args.place c.in-Some.key
          (stands-with c.self.inside.places.items c.self.inside.kept c.args.place c.in-Some.key stands w.in-Some-get_mut.kept.now lies)
          (put_back c.args.lost c.args.moment) w.put_back.new.chunk w.put_back.ensures (same c.args.lost c.args.moment w.in-Some-get_mut.kept.now.chunk))
      | in_default-get_mut w ↦ (let gone : get c.self.inside.kept c.in-Some.key ≡ None = search rules in absurd (none_some (sym gone ∙ stands.1)))
    ]

pub returns : goal.returns
returns c =
    let rise : NumbersRise (slots_by c.self.inside.kept c.self.inside.places.items) = search rules in
    let stands : StandsAt c.self.inside.places.items c.self.inside.kept c.args.place c.in-Some.key = search rules in
    elim c.match-get_mut.branch [
      | in-Some-get_mut w ↦
          let lies : get c.self.inside.kept c.in-Some.key ≡ Some w.in-Some-get_mut.kept.now = search rules in
          ap the_view w.self-inside-is
          ∙ put-shown c.self.inside.places.items c.self.inside.places.cap c.self.inside.kept c.self.invariant rise c.args.place c.in-Some.key
          (stands-with c.self.inside.places.items c.self.inside.kept c.args.place c.in-Some.key stands w.in-Some-get_mut.kept.now lies)
          (put_back c.args.lost c.args.moment) w.put_back.new.chunk w.put_back.ensures (same c.args.lost c.args.moment w.in-Some-get_mut.kept.now.chunk)
          ∙ ap (λ (h : SlabShown). record h { slots = revised c.args.place (option_map (put_back c.args.lost c.args.moment)) h.slots }) c.self.view_is
      | in_default-get_mut w ↦ (let gone : get c.self.inside.kept c.in-Some.key ≡ None = search rules in absurd (none_some (sym gone ∙ stands.1)))
    ]
