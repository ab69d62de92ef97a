-- What is given is the free chunk of the least number, in the words of IsFree.
use Rattle.std.proofs.Common.{◌≡◌, ◌≢◌, ℕ, zero, suc, ◌+◌, ◌≤◌, Bool, true, false, cond, List, [], ◌∷◌, Option, Some, None, refl, sym, ap, ◌∙◌, subst, arith}
use Rattle.std.specs.Prelude.{find, ◌&&◌, nat_le, slice_get}
use Rattle.std.specs.List.{AllByRecursion}
use Rattle.std.proofs.lemmas.Bool.{and_parts}
use Rattle.std.proofs.lemmas.Bool.Decides.{nat_tests}
use Rattle.fwd_base.specs.Waits.{wait_after}
use Rattle.fwd_base.specs.Tallies.{live_is_over}
use Rattle.fwd_base.specs.declared.losses.Losses.{Losses}
use Rattle.fwd_chunks.specs.declared.chunk.Chunk.{Chunk}
use Rattle.fwd_chunks.specs.declared.chunk_state.ChunkState.{ChunkState}
use Rattle.fwd_chunks.specs.declared.chunk_state.ChunkState.TheVariants.{Open, Closed, Taken}
use Rattle.fwd_chunks.specs.declared.wanted.Wanted.{Wanted}
use Rattle.fwd_chunks.specs.declared.wanted.Wanted.TheVariants.{Any, Fresh}
use Rattle.fwd_chunks.specs.Live.{LiveBuffer, is_closed, live_is_free, live_looks, live_given, live_asked_for, live_given_for}
use Rattle.fwd_chunks.specs.Free.{IsFree, IsLeastFree, IsWanted, IsLeastWanted}
use Rattle.fwd_chunks.specs.Soundness.{IsBefore, AreInOrder, IsSound}
use Rattle.fwd_chunks.proofs.Numbers.{true_false}
use Rattle.std.proofs.lemmas.Option.{same_Some}

-- ---- a chunk is free where the step's test holds

no_some : {X : Type 0} (x : X) → None ≡ Some x → ⊥
no_some x e = cc

closed-shut : (s : ChunkState) → is_closed s ≡ true → s ≢ Open
closed-shut Open e = absurd cc
closed-shut Closed e = λ f. cc
closed-shut (Taken worker) e = absurd cc

closed-idle : (s : ChunkState) → is_closed s ≡ true → (worker : ℕ) → s ≢ Taken worker
closed-idle Open e = absurd cc
closed-idle Closed e = λ worker f. cc
closed-idle (Taken other) e = absurd cc

closed-from : (s : ChunkState) → s ≢ Open → ((worker : ℕ) → s ≢ Taken worker) → is_closed s ≡ true
closed-from Open shut idle = absurd (shut refl)
closed-from Closed shut idle = refl
closed-from (Taken worker) shut idle = absurd (idle worker refl)

le-from : (a b : ℕ) → nat_le a b ≡ true → a ≤ b
le-from a b e = grind (arith, nat_tests, e)

le-to : (a b : ℕ) → a ≤ b → nat_le a b ≡ true
le-to a b e = grind (arith, nat_tests, e)

over-rested : (wait longest : ℕ) (o : Option Losses) (moment : ℕ)
    → live_is_over wait longest o moment ≡ true → (l : Losses) → o ≡ Some l
    → l.last + wait_after wait longest l.count ≤ moment
over-rested wait longest None moment e l f = absurd (no_some l f)
over-rested wait longest (Some k) moment e l f =
    subst (λ (x : Losses). x.last + wait_after wait longest x.count ≤ moment) (same_Some _ _ f)
    (le-from (k.last + wait_after wait longest k.count) moment e)

rested-over : (wait longest : ℕ) (o : Option Losses) (moment : ℕ)
    → ((l : Losses) → o ≡ Some l → l.last + wait_after wait longest l.count ≤ moment)
    → live_is_over wait longest o moment ≡ true
rested-over wait longest None moment h = refl
rested-over wait longest (Some k) moment h =
    le-to (k.last + wait_after wait longest k.count) moment (h k refl)

both : (a b : Bool) → a ≡ true → b ≡ true → (a && b) ≡ true
both true b e f = f
both false b e f = absurd cc

free-from : (b : LiveBuffer) (c : Chunk) (k : ℕ) → slice_get b.chunks k ≡ Some c
    → live_is_free b c ≡ true → IsFree b c
free-from b c k at e =
    let parts = and_parts (is_closed c.stage) (live_is_over b.setting.limits.retry_wait b.setting.limits.retry_max c.losses b.moment) e in
    record {
      place = k;
      stands = at;
      shut = closed-shut c.stage parts.0;
      idle = closed-idle c.stage parts.0;
      rested = over-rested b.setting.limits.retry_wait b.setting.limits.retry_max c.losses b.moment parts.1;
    }

free-to : (b : LiveBuffer) (c : Chunk) → IsFree b c → live_is_free b c ≡ true
free-to b c is =
    both (is_closed c.stage) (live_is_over b.setting.limits.retry_wait b.setting.limits.retry_max c.losses b.moment)
    (closed-from c.stage is.shut is.idle)
    (rested-over b.setting.limits.retry_wait b.setting.limits.retry_max c.losses b.moment is.rested)

-- ---- places of chunks

all-at : (P : Chunk → Type 0) (xs : List Chunk) (k : ℕ) (x : Chunk) → AllByRecursion P xs
    → slice_get xs k ≡ Some x → P x
all-at P [] k x all e = absurd (no_some x e)
all-at P (y ∷ xs) zero x all e = subst P (same_Some _ _ e) all.0
all-at P (y ∷ xs) (suc k) x all e = all-at P xs k x all.1 e

-- what is found stands somewhere, and passes
record Found (p : Chunk → Bool) (xs : List Chunk) (c : Chunk) : Type 0 where
  place : ℕ
  stands : slice_get xs place ≡ Some c
  passes : p c ≡ true

found-at : (p : Chunk → Bool) (xs : List Chunk) (c : Chunk) → find p xs ≡ Some c → Found p xs c
found-at p [] c e = absurd (no_some c e)
found-at p (y ∷ xs) c e = by (found-at p xs c) (p y) refl e
  where
    by : (find p xs ≡ Some c → Found p xs c) → (t : Bool) → p y ≡ t
        → cond t (Some y) (find p xs) ≡ Some c → Found p (y ∷ xs) c
    by rest true f g = record { place = zero; stands = g; passes = ap p (sym (same_Some _ _ g)) ∙ f }
    by rest false f g =
        let r = rest g in record { place = suc r.place; stands = r.stands; passes = r.passes }

-- where nothing is found, nothing passes
none-passes : (p : Chunk → Bool) (xs : List Chunk) (k : ℕ) (c : Chunk) → find p xs ≡ None
    → slice_get xs k ≡ Some c → p c ≡ true → ⊥
none-passes p [] k c e at f = no_some c at
none-passes p (y ∷ xs) k c e at f = by (λ j. none-passes p xs j c) k at (p y) refl e
  where
    by : ((j : ℕ) → find p xs ≡ None → slice_get xs j ≡ Some c → p c ≡ true → ⊥) → (j : ℕ)
        → slice_get (y ∷ xs) j ≡ Some c → (t : Bool) → p y ≡ t
        → cond t (Some y) (find p xs) ≡ None → ⊥
    by rest j here true g h = no_some y (sym h)
    by rest zero here false g h = true_false (p c) f (ap p (sym (same_Some _ _ here)) ∙ g)
    by rest (suc j) here false g h = rest j h here f

-- what is found has the least number of all that pass
found-least : (p : Chunk → Bool) (xs : List Chunk) (c : Chunk) (k : ℕ) (d : Chunk)
    → AreInOrder xs → find p xs ≡ Some c → slice_get xs k ≡ Some d → p d ≡ true
    → c.number ≤ d.number
found-least p [] c k d h e at f = absurd (no_some d at)
found-least p (y ∷ xs) c k d h e at f = by (λ j. found-least p xs c j d h.1) k at (p y) refl e
  where
    by :
        ((j : ℕ) → find p xs ≡ Some c → slice_get xs j ≡ Some d → p d ≡ true
        → c.number ≤ d.number)
        → (j : ℕ) → slice_get (y ∷ xs) j ≡ Some d → (t : Bool) → p y ≡ t
        → cond t (Some y) (find p xs) ≡ Some c → c.number ≤ d.number
    by rest zero here true g i =
        let same : c ≡ d = sym (same_Some _ _ i) ∙ same_Some _ _ here in
        omega (arith, ap (λ (x : Chunk). x.number) same)
    by rest (suc j) here true g i =
        let before = all-at (IsBefore y) xs j d h.0 here in
        omega (arith, ap (λ (x : Chunk). x.number) (same_Some _ _ i), before.lower)
    by rest zero here false g i = absurd (true_false (p d) f (ap p (sym (same_Some _ _ here)) ∙ g))
    by rest (suc j) here false g i = rest j i here f

-- a number has one chunk
one-chunk : (xs : List Chunk) (i j : ℕ) (c d : Chunk) → AreInOrder xs
    → slice_get xs i ≡ Some c → slice_get xs j ≡ Some d → c.number ≡ d.number → c ≡ d
one-chunk [] i j c d h e f same = absurd (no_some c e)
one-chunk (x ∷ xs) zero zero c d h e f same = sym (same_Some _ _ e) ∙ same_Some _ _ f
one-chunk (x ∷ xs) zero (suc j) c d h e f same =
    absurd (omega (arith, (all-at (IsBefore x) xs j d h.0 f).lower, ap (λ (y : Chunk). y.number) (same_Some _ _ e), same))
one-chunk (x ∷ xs) (suc i) zero c d h e f same =
    absurd (omega (arith, (all-at (IsBefore x) xs i c h.0 e).lower, ap (λ (y : Chunk). y.number) (same_Some _ _ f), same))
one-chunk (x ∷ xs) (suc i) (suc j) c d h e f same = one-chunk xs i j c d h.1 e f same

-- ---- the law

least-is : (b : LiveBuffer) → AreInOrder b.chunks → IsLeastFree b (live_given b)
least-is b h = by (live_given b) refl
  where
    by : (o : Option Chunk) → live_given b ≡ o → IsLeastFree b o
    by None e = λ c is. none-passes (live_is_free b) b.chunks is.place c e is.stands (free-to b c is)
    by (Some c) e =
        let found = found-at (live_is_free b) b.chunks c e in (
          free-from b c found.place found.stands found.passes,
          λ d is. found-least (live_is_free b) b.chunks c is.place d h e is.stands (free-to b d is),
        )

pub live-least : (b : LiveBuffer) (now : ℕ) → IsSound b
    → IsLeastFree (live_looks b now) (live_given (live_looks b now))
live-least b now sound = least-is (live_looks b now) sound.in_order

least-only : (b : LiveBuffer) → AreInOrder b.chunks → (answer : Option Chunk)
    → IsLeastFree b answer → answer ≡ live_given b
least-only b h answer is = by answer (live_given b) is (least-is b h)
  where
    by : (a o : Option Chunk) → IsLeastFree b a → IsLeastFree b o → a ≡ o
    by None None f g = refl
    by None (Some c) f g = absurd (f c g.0)
    by (Some c) None f g = absurd (g c f.0)
    by (Some c) (Some d) f g =
        ap Some (one-chunk b.chunks f.0.place g.0.place c d h f.0.stands g.0.stands
        (omega (arith, f.1 d g.0, g.1 c f.0)))

pub live-only : (b : LiveBuffer) (now : ℕ) (answer : Option Chunk) → IsSound b
    → IsLeastFree (live_looks b now) answer → answer ≡ live_given (live_looks b now)
live-only b now answer sound is = least-only (live_looks b now) sound.in_order answer is

-- ---- the same for what is wanted

no-sum : (a b n : ℕ) → a + b ≤ 0 → (a ≡ 0) × (b ≡ 0) × (a + b ≤ n)
no-sum a b n e = (omega (arith, e), omega (arith, e), omega (arith, e))

-- free for what is wanted is free where the buffer is asked so
from-asked : (b : LiveBuffer) (wanted : Wanted) (c : Chunk) → IsFree (live_asked_for b wanted) c
    → IsWanted b wanted c
from-asked b Any c is = is
from-asked b Fresh c is = (
  record {
    place = is.place;
    stands = is.stands;
    shut = is.shut;
    idle = is.idle;
    rested = λ l e. (no-sum l.last (wait l) b.moment (is.rested l e)).2;
  },
  λ l e. let none = no-sum l.last (wait l) b.moment (is.rested l e) in (none.0, none.1),
)
  where
    wait : Losses → ℕ
    wait l = wait_after b.setting.limits.retry_wait b.setting.limits.retry_max l.count

to-asked : (b : LiveBuffer) (wanted : Wanted) (c : Chunk) → IsWanted b wanted c
    → IsFree (live_asked_for b wanted) c
to-asked b Any c is = is
to-asked b Fresh c is = record {
  place = is.0.place;
  stands = is.0.stands;
  shut = is.0.shut;
  idle = is.0.idle;
  rested = λ l e. let none = is.1 l e in omega (arith, none.0, none.1);
}

least-from : (b : LiveBuffer) (wanted : Wanted) (o : Option Chunk)
    → IsLeastFree (live_asked_for b wanted) o → IsLeastWanted b wanted o
least-from b wanted None is = λ c free. is c (to-asked b wanted c free)
least-from b wanted (Some c) is =
    (from-asked b wanted c is.0, λ d free. is.1 d (to-asked b wanted d free))

least-to : (b : LiveBuffer) (wanted : Wanted) (o : Option Chunk) → IsLeastWanted b wanted o
    → IsLeastFree (live_asked_for b wanted) o
least-to b wanted None is = λ c free. is c (from-asked b wanted c free)
least-to b wanted (Some c) is =
    (to-asked b wanted c is.0, λ d free. is.1 d (from-asked b wanted d free))

pub live-wanted : (b : LiveBuffer) (wanted : Wanted) (now : ℕ) → IsSound b
    → IsLeastWanted (live_looks b now) wanted (live_given_for (live_looks b now) wanted)
live-wanted b wanted now sound =
    let l = live_looks b now in
    least-from l wanted (live_given_for l wanted) (least-is (live_asked_for l wanted) sound.in_order)

pub live-wanted_only : (b : LiveBuffer) (wanted : Wanted) (now : ℕ) (answer : Option Chunk)
    → IsSound b → IsLeastWanted (live_looks b now) wanted answer
    → answer ≡ live_given_for (live_looks b now) wanted
live-wanted_only b wanted now answer sound is =
    let l = live_looks b now in
    least-only (live_asked_for l wanted) sound.in_order answer (least-to l wanted answer is)
