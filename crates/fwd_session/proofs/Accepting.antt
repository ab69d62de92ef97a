-- Only a chunk whose whole frame is handed on is acknowledged.
use Rattle.std.proofs.Common.{◌≡◌, ℕ, ◌+◌, ◌-◌, Bool, true, false, cond, List, [], ◌∷◌, ◌++◌, length, Option, Some, None, refl, sym, ap, subst, ◌∙◌, arith, length-append}
use Rattle.std.specs.Prelude.{map, find, slice_get, option_map}
use Rattle.std.specs.List.{AllByRecursion}
use Rattle.std.proofs.lemmas.Bool.Decides.{nat_tests}
use Rattle.std.proofs.lemmas.Option.{same_Some}
use Rattle.std.proofs.lemmas.Slice.Eq.{bytes_eq-Decides}
use Rattle.fwd_modes.specs.Acks.{ack_name}
use Rattle.fwd_msgpack.specs.Scans.{values_of}
use Rattle.fwd_chunks.specs.History.{CarriedChunk}
use Rattle.fwd_session.specs.ServerAcks.{Accepted}
use Rattle.fwd_session.specs.Said.{Awaited, names, is_name, without_first, left_by, accepted_for, accepted_by}
use Rattle.fwd_session.specs.History.{Loaded, SessionHistory, IsAcknowledged, awaited, chunks_of, handshake_of, hears, is_handed_on, listens, newly_accepted, newly_heard, room, says}
use Rattle.fwd_session.proofs.Lists.{all_append, all_find, all_placed, all_without, find_map, find_passes, left_length, left_map, length_map, without_map}
use Rattle.fwd_session.proofs.Saying.{AreNamed, IsNamed, IsPlaced, named_in, placed_in}

-- a name that is this one
names_same : (o : Option (List ℕ)) (name : List ℕ) → is_name o name ≡ true → o ≡ Some name
names_same None name e = absurd cc
names_same (Some acked) name e = ap Some ((bytes_eq-Decides acked name).0 e)

module _ (s : SessionHistory) (bytes : List ℕ) where
  -- a chunk is one of the session's
  abbrev Carries : Loaded → Type 0
  Carries l = (place : ℕ) × (slice_get s.carried place ≡ Some l)

  abbrev awaits : Loaded → Awaited
  awaits l = record { name = l.chunk.name; is_handed_on = is_handed_on s l }

  abbrev chunk_in : Loaded → CarriedChunk
  chunk_in l = l.chunk

  abbrev Placed : (value : List ℕ) → Type 0
  Placed = IsPlaced (values_of (newly_heard s bytes))

  -- the chunk that a value names
  one_of : (v : List ℕ) (o : Option Loaded) (a : Awaited)
      → option_map awaits o ≡ Some a → (l : Loaded) × (o ≡ Some l) × (awaits l ≡ a)
  one_of v None a e = absurd cc
  one_of v (Some l) a e = (l, refl, same_Some _ _ e)

  acked_one : (v : List ℕ) (ls : List Loaded) → AllByRecursion Carries ls
      → IsNamed (map awaits ls) v → Placed v
      → AllByRecursion (IsAcknowledged s bytes)
      (accepted_for v (find (λ c. names v c.name) (map chunk_in ls)))
  acked_one v ls carried n placed =
      let mine = one_of v (find (λ l. names v l.chunk.name) ls) n.one (sym (find_map (λ a. names v a.name) awaits ls) ∙ n.found) in
      let l = mine.0 in
      let there : Carries l = all_find Carries (λ l. names v l.chunk.name) ls l carried mine.1 in
      let passes : names v l.chunk.name ≡ true = find_passes (λ l. names v l.chunk.name) ls l mine.1 in
      let handed : is_handed_on s l ≡ true = ap (λ a. a.is_handed_on) mine.2 ∙ n.handed_on in
      let same : find (λ c. names v c.name) (map chunk_in ls) ≡ Some l.chunk = find_map (λ c. names v c.name) chunk_in ls ∙ ap (option_map chunk_in) mine.1 in
      subst (λ o. AllByRecursion (IsAcknowledged s bytes) (accepted_for v o)) (sym same) (
        record {
          loaded = l;
          place = there.0;
          carried = there.1;
          chunk = refl;
          handed_on = grind (arith, nat_tests, handed);
          turn = placed.0;
          ended = placed.1;
          named = names_same (ack_name v) l.chunk.name passes;
        },
        tt,
      )

  acked_all : (vs : List (List ℕ)) (ls : List Loaded) → AllByRecursion Carries ls
      → AreNamed (map awaits ls) vs → AllByRecursion Placed vs
      → AllByRecursion (IsAcknowledged s bytes) (accepted_by vs (map chunk_in ls))
  acked_all [] ls carried n placed = tt
  acked_all (v ∷ vs) ls carried n placed =
      let left = without_first (λ l. names v l.chunk.name) ls in
      let rest : AreNamed (map awaits left) vs = subst (λ awaited. AreNamed awaited vs) (without_map (λ a. names v a.name) awaits ls) n.1 in
      let later : AllByRecursion (IsAcknowledged s bytes) (accepted_by vs (map chunk_in left)) = acked_all vs left (all_without Carries (λ l. names v l.chunk.name) ls carried) rest placed.1 in
      all_both (accepted_for v (find (λ c. names v c.name) (map chunk_in ls))) (accepted_by vs (without_first (λ c. names v c.name) (map chunk_in ls))) (acked_one v ls carried n.0 placed.0)
      (subst (λ cs. AllByRecursion (IsAcknowledged s bytes) (accepted_by vs cs)) (sym (without_map (λ c. names v c.name) chunk_in ls)) later)
    where
      all_both : (xs ys : List Accepted) → AllByRecursion (IsAcknowledged s bytes) xs
          → AllByRecursion (IsAcknowledged s bytes) ys
          → AllByRecursion (IsAcknowledged s bytes) (xs ++ ys)
      all_both xs ys a b = all_append (IsAcknowledged s bytes) xs ys a b

  pub acknowledged : AllByRecursion (IsAcknowledged s bytes) (newly_accepted s bytes)
  acknowledged =
      acked_all (says s bytes).replies s.carried (all_placed s.carried) (named_in s.setup.login s.setup.salt (handshake_of s) (awaited s) (newly_heard s bytes)) (placed_in s.setup.login s.setup.salt (handshake_of s) (awaited s) (newly_heard s bytes))

-- each acknowledgement brings one chunk
module _ (s : SessionHistory) (bytes : List ℕ) where
  one_named : (v : List ℕ) (ls : List Loaded) (a : Awaited)
      → find (λ a. names v a.name) (map (awaits s bytes) ls) ≡ Some a
      → length (accepted_for v (find (λ c. names v c.name) (map (chunk_in s bytes) ls))) ≡ 1
  one_named v ls a e = by (find (λ l. names v l.chunk.name) ls) (sym (find_map (λ a. names v a.name) (awaits s bytes) ls) ∙ e) (find_map (λ c. names v c.name) (chunk_in s bytes) ls)
    where
      by : (o : Option Loaded) → option_map (awaits s bytes) o ≡ Some a
          → find (λ c. names v c.name) (map (chunk_in s bytes) ls) ≡ option_map (chunk_in s bytes) o
          → length (accepted_for v (find (λ c. names v c.name) (map (chunk_in s bytes) ls))) ≡ 1
      by None f g = absurd cc
      by (Some l) f g = ap (λ o. length (accepted_for v o)) g

  as_many : (vs : List (List ℕ)) (ls : List Loaded) → AreNamed (map (awaits s bytes) ls) vs
      → length (accepted_by vs (map (chunk_in s bytes) ls)) ≡ length vs
  as_many [] ls n = refl
  as_many (v ∷ vs) ls n =
      let left = without_first (λ l. names v l.chunk.name) ls in
      let rest : AreNamed (map (awaits s bytes) left) vs = subst (λ awaited. AreNamed awaited vs) (without_map (λ a. names v a.name) (awaits s bytes) ls) n.1 in
      let later : length (accepted_by vs (without_first (λ c. names v c.name) (map (chunk_in s bytes) ls))) ≡ length vs =
      ap (λ cs. length (accepted_by vs cs)) (without_map (λ c. names v c.name) (chunk_in s bytes) ls) ∙ as_many vs left rest in
      omega (arith, one_named v ls n.0.one n.0.found, later, length-append (accepted_for v (find (λ c. names v c.name) (map (chunk_in s bytes) ls))) (accepted_by vs (without_first (λ c. names v c.name) (map (chunk_in s bytes) ls))))

  pub each_accepts : length (newly_accepted s bytes) ≡ length (says s bytes).replies
  each_accepts = as_many (says s bytes).replies s.carried (named_in s.setup.login s.setup.salt (handshake_of s) (awaited s) (newly_heard s bytes))

pub joins : (s : SessionHistory) (bytes : List ℕ) → s.down ≡ false
    → (hears s bytes).accepted ≡ s.accepted ++ newly_accepted s bytes
joins s bytes up = ap (λ b. (cond b s (listens s bytes (says s bytes))).accepted) up

pub keeps_room : (s : SessionHistory) (bytes : List ℕ) → room (hears s bytes) ≡ room s
keeps_room s bytes = by s.down
  where
    by : (b : Bool) → room (cond b s (listens s bytes (says s bytes))) ≡ room s
    by true = refl
    by false =
        let vs = (says s bytes).replies in
        let cs = chunks_of s.carried in
        let name_of : Loaded → List ℕ = λ l. l.chunk.name in
        let left : length (left_by name_of vs s.carried) ≡ length (left_by (λ (c : CarriedChunk). c.name) vs cs) =
        sym (ap length (left_map (λ (c : CarriedChunk). c.name) (λ (l : Loaded). l.chunk) vs s.carried) ∙ length_map (λ (l : Loaded). l.chunk) (left_by name_of vs s.carried)) in
        let both : length (left_by name_of vs s.carried) + length (s.accepted ++ accepted_by vs cs) ≡ length s.carried + length s.accepted =
        omega (arith, left, left_length vs cs, length_map (λ (l : Loaded). l.chunk) s.carried, length-append s.accepted (accepted_by vs cs)) in
        ap (λ n. s.setup.window - n) both
