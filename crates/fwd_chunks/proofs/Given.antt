-- Of the chunks that are closed for a worker it takes the first.
use Rattle.std.proofs.Common.{◌≡◌, ℕ, Bool, true, false, cond, List, [], ◌∷◌, Option, Some, None, refl, sym, ap, subst, ◌∙◌, max, arith}
use Rattle.std.specs.Prelude.{find, option_map}
use Rattle.std.specs.List.{AllByRecursion}
use Rattle.std.proofs.lemmas.Bool.{and_parts}
use Rattle.fwd_base.specs.Tallies.{live_is_over}
use Rattle.fwd_chunks.specs.declared.chunk.Chunk.{Chunk}
use Rattle.fwd_chunks.specs.declared.chunk_state.ChunkState.TheVariants.{Closed}
use Rattle.fwd_chunks.specs.declared.flush.FlushKind.{FlushKind}
use Rattle.fwd_chunks.specs.declared.flush.FlushKind.TheVariants.{All, Due}
use Rattle.fwd_chunks.specs.declared.wanted.Wanted.{Wanted}
use Rattle.fwd_chunks.specs.History.{moment_for}
use Rattle.fwd_chunks.specs.Live.{LiveBuffer, is_open, is_closed, staged, changed, live_looks, live_closes, live_first_closing, live_flushes, live_is_free, live_asked_for, live_given_for}
use Rattle.fwd_chunks.specs.Soundness.{IsFresh, IsSound}

-- a search that finds nothing passed by each
passed-by : (b : Bool) (x : Chunk) (o : Option Chunk) → cond b (Some x) o ≡ None
    → (b ≡ false) × (o ≡ None)
passed-by true x o e = absurd cc
passed-by false x o e = (refl, e)

-- where no chunk passes, and some are changed that pass then, the first of these is found
find-changed : (p q : Chunk → Bool) (f : Chunk → Chunk) (xs : List Chunk)
    → ((c : Chunk) → IsFresh c → q c ≡ true → p (f c) ≡ true)
    → AllByRecursion IsFresh xs → find p xs ≡ None
    → find p (changed q f xs) ≡ option_map f (find q xs)
find-changed p q f [] h all e = refl
find-changed p q f (x ∷ xs) h all e =
    by (q x) refl (find-changed p q f xs h all.1 (passed-by (p x) x (find p xs) e).1)
  where
    by : (t : Bool) → q x ≡ t → find p (changed q f xs) ≡ option_map f (find q xs)
        → find p (cond t (f x) x ∷ changed q f xs) ≡ option_map f (cond t (Some x) (find q xs))
    by true g rest = ap (λ b. cond b (Some (f x)) (find p (changed q f xs))) (h x all.0 g)
    by false g rest =
        ap (λ b. cond b (Some x) (find p (changed q f xs))) (passed-by (p x) x (find p xs) e).0 ∙ rest

-- an open chunk, once it is closed, is free at any moment
closed-free : (retry_wait retry_max moment : ℕ) (c : Chunk) → IsFresh c
    → is_open c.stage ≡ true
    → live_is_over retry_wait retry_max (staged Closed c).losses moment ≡ true
closed-free retry_wait retry_max moment c fresh e = ap (λ l. live_is_over retry_wait retry_max l moment) (fresh e)

-- a flush closes open chunks alone
closes-open : (b : LiveBuffer) (kind : FlushKind) (c : Chunk) → live_closes b kind c ≡ true
    → is_open c.stage ≡ true
closes-open b All c e = e
closes-open b Due c e = (and_parts (is_open c.stage) _ e).0

pub closed-given : (b : LiveBuffer) (wanted : Wanted) (now : ℕ) (kind : FlushKind)
    → IsSound b → live_given_for (live_looks b now) wanted ≡ None
    → live_given_for (live_looks (live_flushes b now kind) now) wanted
    ≡ option_map (staged Closed) (live_first_closing b now kind)
closed-given b wanted now kind sound none =
    let same : max (max b.moment now) now ≡ max b.moment now = omega arith in
    let looked = live_looks b now in
    let asked = live_asked_for looked wanted in
    ap (λ m. find (live_is_free (record b { moment = moment_for wanted m })) (changed (live_closes looked kind) (staged Closed) b.chunks)) same
    ∙ find-changed (live_is_free asked) (live_closes looked kind) (staged Closed) b.chunks
    (λ c fresh e. closed-free b.setting.limits.retry_wait b.setting.limits.retry_max asked.moment c fresh (closes-open looked kind c e))
    sound.fresh none
