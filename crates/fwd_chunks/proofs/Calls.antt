-- What the calls of a buffer leave is stored soundly.
use Rattle.std.proofs.Common.{◌≡◌, ℕ, ◌+◌, ◌-◌, ◌≤◌, Bool, true, false, cond, length, Option, Some, None, refl, sym, ap, ◌∙◌, subst, max, arith}
use Rattle.std.specs.Prelude.{filter, not, find, option_map, is_some}
use Rattle.fwd_modes.specs.declared.limits.TheConstants.{TAG_LIMIT}
use Rattle.fwd_chunks.specs.declared.chunk.Chunk.{Chunk}
use Rattle.fwd_chunks.specs.declared.flush.FlushKind.{FlushKind}
use Rattle.fwd_chunks.specs.declared.chunk_state.ChunkState.TheVariants.{Closed}
use Rattle.fwd_chunks.specs.Cells.{size_of}
use Rattle.fwd_chunks.specs.History.{CarriedChunk}
use Rattle.fwd_chunks.specs.Live.{LiveBuffer, is_open, staged, changed, is_at, held_in, bytes_in, live_looks, live_closes, live_flushes, live_carried_chunk, live_carried, IsCarried, live_settles, live_frees}
use Rattle.fwd_chunks.specs.Soundness.{IsSound}
use Rattle.fwd_chunks.specs.Stored.{TagFits, IsStored, put_back}
use Rattle.fwd_chunks.proofs.Sounding.{all-map, all-filter, bytes-total, held-total, total-map, total-filter, changed-sound, settles-sound}
use Rattle.fwd_chunks.proofs.Places.{filter-found, filter-gone, if_taken, taken-found}

pub looks-stored : (b : LiveBuffer) (moment size : ℕ) → IsStored b size
    → IsStored (record b { moment = moment }) size
looks-stored b moment size own = record {
  sound = record {
    in_order = own.sound.in_order;
    below = own.sound.below;
    within = own.sound.within;
    fresh = own.sound.fresh;
    total = own.sound.total;
    counted = own.sound.counted;
    accepted = own.sound.accepted;
    numbers = own.sound.numbers;
  };
  tags = own.tags;
  bytes = own.bytes;
}

-- where the test holds, only the stage and the losses change, and no chunk is opened
pub changed-stored : (b : LiveBuffer) (test : Chunk → Bool) (f : Chunk
    → Chunk) (moment size : ℕ) → ((c : Chunk) → (f c).number ≡ c.number)
    → ((c : Chunk) → (f c).tag ≡ c.tag) → ((c : Chunk) → (f c).entries ≡ c.entries)
    → ((c : Chunk) → is_open (f c).stage ≡ false) → IsStored b size
    → IsStored (record b { chunks = changed test f b.chunks; moment = moment }) size
changed-stored b test f moment size number tag entries shut own = record {
  sound = changed-sound b test f moment number tag entries shut own.sound;
  tags = all-map TagFits TagFits (λ c. cond (test c) (f c) c) (λ c fits. subst (λ t. length t ≤ TAG_LIMIT) (sym (tags (test c) c)) fits) b.chunks own.tags;
  bytes = own.bytes ∙ bytes-total b.chunks ∙ sym (total-map (λ c. size_of c.entries) (λ c. cond (test c) (f c) c) (λ c. ap size_of (contents (test c) c)) b.chunks) ∙ sym (bytes-total (changed test f b.chunks));
}
  where
    tags : (t : Bool) (c : Chunk) → (cond t (f c) c).tag ≡ c.tag
    tags true c = tag c
    tags false c = refl

    contents : (t : Bool) (c : Chunk) → (cond t (f c) c).entries ≡ c.entries
    contents true c = entries c
    contents false c = refl

pub flushes-stored : (b : LiveBuffer) (now : ℕ) (kind : FlushKind) (size : ℕ)
    → IsStored b size → IsStored (live_flushes b now kind) size
flushes-stored b now kind size own = changed-stored b (live_closes (live_looks b now) kind) (staged Closed) (max b.moment now) size (λ c. refl) (λ c. refl) (λ c. refl) (λ c. refl) own

-- ---- by numbers

pub put_back-stored : (b : LiveBuffer) (k : ℕ) (lost : Bool) (moment size : ℕ)
    → IsStored b size
    → IsStored (record b {
      chunks = changed (is_at k) (put_back lost moment) b.chunks;
      moment = moment;
    }) size
put_back-stored b k true moment size own = changed-stored b (is_at k) (put_back true moment) moment size (λ d. refl) (λ d. refl) (λ d. refl) (λ d. refl) own
put_back-stored b k false moment size own = changed-stored b (is_at k) (put_back false moment) moment size (λ d. refl) (λ d. refl) (λ d. refl) (λ d. refl) own

-- the moment at which a loss counts
abbrev pub moment_after : LiveBuffer → Option ℕ → ℕ
moment_after b None = b.moment
moment_after b (Some now) = max b.moment now

pub frees-is : (b : LiveBuffer) (k : ℕ) (loss : Option ℕ)
    → record b {
      chunks = changed (is_at k)
          (put_back (is_some loss) (moment_after b loss)) b.chunks;
      moment = moment_after b loss;
    }
    ≡ live_frees b k loss
frees-is b k None = refl
frees-is b k (Some now) = refl

-- what leaves with a chunk
pub size-found : (b : LiveBuffer) (n size : ℕ) (c : Chunk) → IsStored b size
    → find (is_at n) b.chunks ≡ Some c
    → size ≡ size_of c.entries + bytes_in (filter (λ d. not (is_at n d)) b.chunks)
size-found b n size c own e =
    let one : bytes_in (filter (is_at n) b.chunks) ≡ size_of c.entries + 0 = ap bytes_in (filter-found n b.chunks c own.sound.in_order e) in
    omega (arith, own.bytes, one, bytes-total b.chunks, bytes-total (filter (is_at n) b.chunks), bytes-total (filter (λ d. not (is_at n d)) b.chunks), total-filter (λ d. size_of d.entries) (is_at n) b.chunks)

pub count-found : (b : LiveBuffer) (n size : ℕ) (c : Chunk) → IsStored b size
    → find (is_at n) b.chunks ≡ Some c → held_in (filter (is_at n) b.chunks) ≡ length c.entries
count-found b n size c own e = (let none : length c.entries + 0 ≡ length c.entries = omega arith in ap held_in (filter-found n b.chunks c own.sound.in_order e) ∙ none)

pub settled-fits : (b : LiveBuffer) (n size : ℕ) (c : Chunk) → IsStored b size
    → find (is_at n) b.chunks ≡ Some c → b.settled + length c.entries ≤ b.accepted
settled-fits b n size c own e =
    omega (arith, own.sound.counted, count-found b n size c own e, held-total b.chunks, held-total (filter (is_at n) b.chunks), held-total (filter (λ d. not (is_at n d)) b.chunks), total-filter (λ d. length d.entries) (is_at n) b.chunks)

pub settles-stored : (b : LiveBuffer) (n size : ℕ) (c : Chunk) → IsStored b size
    → find (is_at n) b.chunks ≡ Some c → IsStored (live_settles b n) (size - size_of c.entries)
settles-stored b n size c own e = record {
  sound = settles-sound b n own.sound;
  tags = all-filter TagFits (λ d. not (is_at n d)) b.chunks own.tags;
  bytes = omega (arith, size-found b n size c own e);
}

-- the code's way to the same
pub settles-is : (b : LiveBuffer) (n size : ℕ) (c : Chunk) → IsStored b size
    → find (is_at n) b.chunks ≡ Some c
    → record b
    { chunks = filter (λ d. not (is_at n d)) b.chunks; settled = b.settled + length c.entries }
    ≡ live_settles b n
settles-is b n size c own e = λ j. record b { settled = b.settled + sym (count-found b n size c own e) j; chunks = filter (λ d. not (is_at n d)) b.chunks }

-- where no chunk has the number
pub settles-none : (b : LiveBuffer) (n : ℕ) → find (is_at n) b.chunks ≡ None
    → record b { chunks = filter (λ d. not (is_at n d)) b.chunks } ≡ live_settles b n
settles-none b n e =
    let same : b.settled ≡ b.settled + held_in (filter (is_at n) b.chunks) = omega (arith, ap held_in (filter-gone n b.chunks e).0) in
    λ j. record b { settled = same j; chunks = filter (λ d. not (is_at n d)) b.chunks }

-- ---- what a worker has

pub carried-by : (b : LiveBuffer) (n : ℕ) → IsSound b
    → live_carried b n ≡ option_map (live_carried_chunk b) (if_taken (find (is_at n) b.chunks))
carried-by b n sound = ap (option_map (live_carried_chunk b)) (taken-found n b.chunks sound.in_order)

pub carried-none : (b : LiveBuffer) (load : CarriedChunk) → live_carried b load.number ≡ None
    → IsCarried b load → ⊥
carried-none b load e is = none (sym e ∙ is)
  where
    none : None ≡ Some load → ⊥
    none f = cc
