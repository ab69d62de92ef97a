use Rattle.std.proofs.Common.{rules, ◌≡◌, ◌+◌, ◌*◌, ◌≤◌, ◌-◌, length, filter, ap, ◌∙◌, arith}
use Rattle.fwd_chunks.specs.Slabs.{SlabShown}
use Rattle.fwd_chunks.specs.Slots.{Held, KeyLists, present, ready_key, is_full}
use Rattle.fwd_chunks.proofs.Slotting.{keys-long, present-full}
use Rattle.fwd_chunks.proofs.Slotted.{fresh_keys, compact-slotted, compact-room}
use Rattle.fwd_chunks.proofs.chunk_index.ChunkIndex.reserve.Goals as goal

pub overflow_sub-places : goal.overflow_sub-places
overflow_sub-places c =
    let same : length c.reserve.new.self.slots ≡ length c.self.inside.slab.slots = ap (λ (h : SlabShown). length h.slots) c.in_ok-reserve.ensures.kept in
    omega (arith, same, c.len.ensures, c.places.ensures, keys-long (ready_key c.self.inside.ready_index.retry) c.self.inside.slab.slots c.self.inside.ready_index.ready c.self.invariant.ready)

pub invariant_of-self-2 : goal.invariant_of-self-2
invariant_of-self-2 c =
    let same : c.reserve.new.self.slots ≡ c.self.inside.slab.slots = ap (λ (h : SlabShown). h.slots) c.in_ok-reserve.ensures.kept in
    let held : c.held.result ≡ length (present c.self.inside.slab.slots) = c.held.ensures ∙ ap (λ l. length (present l)) same in
    let needed : c.in_ok-needed.needed ≡ c.held.result + c.args.count = search rules in
    let places : c.in_ok-places.places ≡ c.max.result * 2 = search rules in
    let least : c.in_ok-needed.needed ≤ c.max.result = search rules in
    let few : length (present c.self.inside.slab.slots) ≤ c.in_ok-places.places = omega (arith, held, needed, places, least) in
    let slots : c.compact.new.self.slots ≡ filter is_full c.self.inside.slab.slots = c.in_ok-compact.ensures.ok ∙ ap (filter is_full) same in
    let ready_index : c.in_ok-ready_index.ready_index ≡ fresh_keys c.self.inside.ready_index.retry c.self.inside.slab.slots c.in_ok-places.places = c.in_ok-ready_index.ensures ∙ (λ j. fresh_keys (c.retry.ensures j) (same j) c.in_ok-places.places) in
    rw (slots, ready_index)
    (compact-slotted c.self.inside.slab.slots c.self.inside.slab.cap c.compact.new.self.cap c.self.inside.ready_index c.self.inside.last c.self.invariant c.in_ok-places.places few c.in_ok-compact.ensures.cap)

pub returns-clause-ok : goal.returns-clause-ok
returns-clause-ok c =
    let same : c.reserve.new.self.slots ≡ c.self.inside.slab.slots = ap (λ (h : SlabShown). h.slots) c.in_ok-reserve.ensures.kept in
    let held : c.held.result ≡ length (present c.self.inside.slab.slots) = c.held.ensures ∙ ap (λ l. length (present l)) same in
    let needed : c.in_ok-needed.needed ≡ c.held.result + c.args.count = search rules in
    let places : c.in_ok-places.places ≡ c.max.result * 2 = search rules in
    let least : c.in_ok-needed.needed ≤ c.max.result = search rules in
    let few : length (present c.self.inside.slab.slots) ≤ c.in_ok-places.places = omega (arith, held, needed, places, least) in
    let slots : c.compact.new.self.slots ≡ filter is_full c.self.inside.slab.slots = c.in_ok-compact.ensures.ok ∙ ap (filter is_full) same in
    let ready_index : c.in_ok-ready_index.ready_index ≡ fresh_keys c.self.inside.ready_index.retry c.self.inside.slab.slots c.in_ok-places.places = c.in_ok-ready_index.ensures ∙ (λ j. fresh_keys (c.retry.ensures j) (same j) c.in_ok-places.places) in
    let room : length c.in_ok-ready_index.ready_index.ready - length c.compact.new.self.slots ≡ c.in_ok-places.places - length (present c.self.inside.slab.slots) = (λ j. length (ap (λ (k : KeyLists). k.ready) ready_index j) - length (slots j)) ∙ compact-room c.self.inside.slab.slots c.self.inside.slab.cap c.compact.new.self.cap c.self.inside.ready_index c.self.inside.last c.self.invariant c.in_ok-places.places few c.in_ok-compact.ensures.cap in
    omega (arith, held, needed, places, least, room, c.in_ok-compact.ensures.spare, c.in_ok-reserve.ensures.ok)

pub returns-clause-kept : goal.returns-clause-kept
returns-clause-kept c =
    let same : c.reserve.new.self.slots ≡ c.self.inside.slab.slots = ap (λ (h : SlabShown). h.slots) c.in_ok-reserve.ensures.kept in
    let retry : c.in_ok-ready_index.ready_index.retry ≡ c.self.inside.ready_index.retry = ap (λ (k : KeyLists). k.retry) c.in_ok-ready_index.ensures ∙ c.retry.ensures in
    let chunks : present c.compact.new.self.slots ≡ present c.self.inside.slab.slots = ap present (c.in_ok-compact.ensures.ok ∙ ap (filter is_full) same) ∙ present-full c.self.inside.slab.slots in
    (λ j. record { retry = retry j; chunks = chunks j; last = c.self.inside.last; room = 0 })
    ∙ ap (λ (h : Held). record h { room = 0 }) c.self.view_is
