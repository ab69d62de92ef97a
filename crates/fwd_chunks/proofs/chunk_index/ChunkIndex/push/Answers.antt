use Rattle.std.proofs.Common.{rules, ◌≡◌, ◌<◌, ◌≤◌, ◌^◌, ◌-◌, ◌++◌, ◌∷◌, [], length, Some, sym, ap, ◌∙◌, subst, arith}
use Rattle.fwd_chunks.specs.Cells.{number_after}
use Rattle.fwd_chunks.specs.Slabs.{SlabShown}
use Rattle.fwd_chunks.specs.Slots.{Held, keyed, slot_of}
use Rattle.fwd_chunks.proofs.Slotted.{shown, pushed-slotted, pushed-shown}
use Rattle.fwd_chunks.proofs.chunk_index.ChunkIndex.push.Goals as goal

pub invariant_of-self : goal.invariant_of-self
invariant_of-self c =
    let room : length c.self.inside.slab.slots < length c.self.inside.ready_index.ready = (let some = subst (λ (h : Held). 0 < h.room) (sym c.self.view_is) c.requires.room in omega (arith, some)) in
    let above : number_after 0 c.self.inside.last ≤ c.args.chunk.number = subst (λ (h : Held). number_after 0 h.last ≤ c.args.chunk.number) (sym c.self.view_is) c.requires.above in
    let fits : c.args.chunk.since < 2 ^ 64 = search rules in
    let len : c.len.result ≡ length c.self.inside.slab.slots = search rules in
    rw (c.push.ensures, c.set.ensures, len) (pushed-slotted c.self.inside.slab.slots c.self.inside.slab.cap c.self.inside.ready_index c.self.inside.last c.self.invariant c.args.chunk room above fits)

pub returns : goal.returns
returns c =
    let room : length c.self.inside.slab.slots < length c.self.inside.ready_index.ready = (let some = subst (λ (h : Held). 0 < h.room) (sym c.self.view_is) c.requires.room in omega (arith, some)) in
    let above : number_after 0 c.self.inside.last ≤ c.args.chunk.number = subst (λ (h : Held). number_after 0 h.last ≤ c.args.chunk.number) (sym c.self.view_is) c.requires.above in
    let fits : c.args.chunk.since < 2 ^ 64 = search rules in
    let len : c.len.result ≡ length c.self.inside.slab.slots = search rules in
    (λ j. shown (ap (λ (h : SlabShown). h.slots) c.push.ensures j) (c.set.ensures j) (Some c.args.chunk.number) (ap (λ (h : SlabShown). h.spare) c.push.ensures j))
    ∙ ap (λ i. shown (c.self.inside.slab.slots ++ slot_of c.args.chunk ∷ []) (keyed c.self.inside.ready_index i c.args.chunk) (Some c.args.chunk.number) (c.self.inside.slab.spare - 1)) len
    ∙ pushed-shown c.self.inside.slab.slots c.self.inside.slab.cap c.self.inside.ready_index c.self.inside.last c.self.invariant c.args.chunk room above fits c.self.inside.slab.spare
    ∙ ap (λ (h : Held). record { retry = h.retry; chunks = h.chunks ++ c.args.chunk ∷ []; last = Some c.args.chunk.number; room = h.room - 1 }) c.self.view_is
