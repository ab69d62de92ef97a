-- The source that is idle for longest, of all entries of a slab.
use Rattle.std.proofs.Common.{◌≡◌, ◌≤◌, ◌-◌, ◌<◌, ℕ, Bool, true, false, List, [], ◌∷◌, Option, Some, None, Contains, inl, inr, refl, sym, ap, subst, ◌∙◌, arith}
use Rattle.std.specs.Prelude.{IfNone, nat_le, option_and_then, if◌then◌else◌}
use Rattle.std.proofs.lemmas.Bool.Decides.{nat_tests}
use Rattle.slab.specs.Slab as slots
use Rattle.slab.proofs.SlabLemmas.{Contains-cons, Contains-cons_cases, Contains-entries}
use Rattle.fwd_reader.specs.declared.connections.Connections.{Connections}
use Rattle.fwd_reader.specs.declared.connections.Idle.{Idle}
use Rattle.fwd_reader.specs.declared.connections.OpenConnection.{OpenConnection}
use Rattle.fwd_reader.specs.OpenConnections.{longer_idle}
use Rattle.fwd_reader.specs.Idling.{IsIdlest, NoneIsIdle, idle_at, idle_since}

-- what is found once these entries were looked at, too
abbrev pub idlest_after : {J : Type 0} → Option Idle → List (ℕ × OpenConnection J) → Option Idle
idlest_after found [] = found
idlest_after found (entry ∷ entries) =
    idlest_after (longer_idle found entry.0 (idle_since entry.1)) entries

-- one that was found is idle since this moment, or for longer
abbrev pub Covers : Option Idle → (at : ℕ) → Type 0
Covers found at = (idle : Idle) × ((found ≡ Some idle) × (idle.since ≤ at))

is_same : {X : Type 0} (x y : X) → Some x ≡ Some y → x ≡ y
is_same x y e = cc

none_some : {X : Type 0} {x : X} → None ≡ Some x → ⊥
none_some e = absurd cc

covers_old : (found : Option Idle) (key : ℕ) (o : Option ℕ) (at : ℕ) → Covers found at
    → Covers (longer_idle found key o) at
covers_old None key o at old = absurd (none_some old.1.0)
covers_old (Some f) key None at old = old
covers_old (Some f) key (Some since) at old = by (nat_le f.since since) refl
  where
    there : f.since ≤ at
    there = subst (λ (i : Idle). i.since ≤ at) (sym (is_same f old.0 old.1.0)) old.1.1

    by : (b : Bool) → nat_le f.since since ≡ b
        → Covers (if b then Some f else Some (record { key = key; since = since })) at
    by true e = (f, (refl, there))
    by false e = (record { key = key; since = since }, (refl, grind (arith, nat_tests, e, there)))

covers_new : (found : Option Idle) (key at : ℕ) → Covers (longer_idle found key (Some at)) at
covers_new None key at = (record { key = key; since = at }, (refl, omega arith))
covers_new (Some f) key at = by (nat_le f.since at) refl
  where
    by : (b : Bool) → nat_le f.since at ≡ b
        → Covers (if b then Some f else Some (record { key = key; since = at })) at
    by true e = (f, (refl, grind (arith, nat_tests, e)))
    by false e = (record { key = key; since = at }, (refl, omega arith))

covers_after : {J : Type 0} → (found : Option Idle) (entries : List (ℕ × OpenConnection J)) (at : ℕ) → Covers found at
    → Covers (idlest_after found entries) at
covers_after found [] at old = old
covers_after found (entry ∷ entries) at old =
    covers_after (longer_idle found entry.0 (idle_since entry.1)) entries at
    (covers_old found entry.0 (idle_since entry.1) at old)

covers_listed : {J : Type 0} → (found : Option Idle) (entries : List (ℕ × OpenConnection J)) (entry : ℕ × OpenConnection J) (at : ℕ)
    → Contains entries entry → idle_since entry.1 ≡ Some at → Covers (idlest_after found entries) at
covers_listed found [] entry at listed idle = absurd (omega (arith, listed.1))
covers_listed found (e ∷ entries) entry at listed idle =
    elim (Contains-cons_cases e entry entries listed) [
      | inl same ↦
          covers_after (longer_idle found e.0 (idle_since e.1)) entries at
          (subst (λ o. Covers (longer_idle found e.0 o) at)
          (sym (ap (λ x. idle_since x.1) same ∙ idle)) (covers_new found e.0 at))
      | inr rest ↦ covers_listed (longer_idle found e.0 (idle_since e.1)) entries entry at rest idle
    ]

-- what was found is one of these entries
abbrev pub IsListed : {J : Type 0} → List (ℕ × OpenConnection J) → Option Idle → Type 0
IsListed {J} all found = (idle : Idle) → found ≡ Some idle
    → (opened : OpenConnection J) × (Contains all (idle.key, opened)
    × (idle_since opened ≡ Some idle.since))

listed_next : {J : Type 0} → (all : List (ℕ × OpenConnection J)) (found : Option Idle) (entry : ℕ × OpenConnection J)
    → Contains all entry → IsListed all found
    → IsListed all (longer_idle found entry.0 (idle_since entry.1))
listed_next {J} all found entry there old = by (idle_since entry.1) refl
  where
    new : (since : ℕ) → idle_since entry.1 ≡ Some since
        → IsListed all (Some (record { key = entry.0; since = since }))
    new since is idle e =
        subst (λ (i : Idle). (opened : OpenConnection J) × (Contains all (i.key, opened)
        × (idle_since opened ≡ Some i.since)))
        (is_same (record { key = entry.0; since = since }) idle e)
        (entry.1, (there, is))

    of_two : (f : Option Idle) → IsListed all f → (since : ℕ) → idle_since entry.1 ≡ Some since
        → IsListed all (longer_idle f entry.0 (Some since))
    of_two None is_old since is = new since is
    of_two (Some f) is_old since is = pick (nat_le f.since since)
      where
        pick : (b : Bool)
            → IsListed all (if b then Some f else Some (record { key = entry.0; since = since }))
        pick true = is_old
        pick false = new since is

    by : (o : Option ℕ) → idle_since entry.1 ≡ o → IsListed all (longer_idle found entry.0 o)
    by None is = old
    by (Some since) is = of_two found old since is

listed_after : {J : Type 0} → (all entries : List (ℕ × OpenConnection J)) (found : Option Idle)
    → ((entry : ℕ × OpenConnection J) → Contains entries entry → Contains all entry) → IsListed all found
    → IsListed all (idlest_after found entries)
listed_after all [] found within old = old
listed_after all (e ∷ entries) found within old =
    listed_after all entries (longer_idle found e.0 (idle_since e.1))
    (λ entry listed. within entry (Contains-cons e entry entries listed))
    (listed_next all found e (within e (0, omega arith, refl)) old)

-- each source that is idle is covered by what all entries come to
covers_all : {J : Type 0} → (c : Connections J) (key at : ℕ) → idle_at c key ≡ Some at
    → Covers (idlest_after None (slots.entries c.opened)) at
covers_all {J} c key at idle = by (slots.get c.opened key) refl idle
  where
    by : (o : Option (OpenConnection J)) → slots.get c.opened key ≡ o
        → option_and_then idle_since o ≡ Some at
        → Covers (idlest_after None (slots.entries c.opened)) at
    by None e is = absurd cc
    by (Some opened) e is =
        covers_listed None (slots.entries c.opened) (key, opened) at
        ((Contains-entries c.opened key opened).1 e) is

-- what all entries come to is the idlest
pub is_idlest : {J : Type 0} → (c : Connections J) (limit now : ℕ) (idle : Idle)
    → idlest_after None (slots.entries c.opened) ≡ Some idle → limit ≤ now - idle.since
    → IsIdlest c limit now idle.key
is_idlest c limit now idle found long =
    let none : IsListed (slots.entries c.opened) None = λ i e. absurd cc in
    let own = listed_after (slots.entries c.opened) (slots.entries c.opened) None
    (λ entry listed. listed) none idle found in
    record {
      since = idle.since;
      there =
          ap (option_and_then idle_since) ((Contains-entries c.opened idle.key own.0).0 own.1.0)
          ∙ own.1.1;
      long = long;
      longest = λ other at is.
          let covered = covers_all c other at is in
          subst (λ (i : Idle). i.since ≤ at)
          (is_same covered.0 idle (sym covered.1.0 ∙ found)) covered.1.1;
    }

-- a fact of an answer that is nothing
pub if_none : {X : Type 0} (r : Option X) (P : Type 0) → P → IfNone r P
if_none None P p = p
if_none (Some x) P p = tt

-- where that is nothing, none is idle
pub none_idle : {J : Type 0} → (c : Connections J) (limit now : ℕ)
    → idlest_after None (slots.entries c.opened) ≡ None → NoneIsIdle c limit now
none_idle c limit now found key since is =
    let covered = covers_all c key since is in
    absurd (none_some (sym found ∙ covered.1.0))

-- where it is not idle for so long, none is
pub none_so_long : {J : Type 0} → (c : Connections J) (limit now : ℕ) (idle : Idle)
    → idlest_after None (slots.entries c.opened) ≡ Some idle → now - idle.since < limit
    → NoneIsIdle c limit now
none_so_long c limit now idle found short key since is =
    let covered = covers_all c key since is in
    let least = subst (λ (i : Idle). i.since ≤ since)
    (is_same covered.0 idle (sym covered.1.0 ∙ found)) covered.1.1 in
    omega (arith, least, short)
