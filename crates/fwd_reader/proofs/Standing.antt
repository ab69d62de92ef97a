-- Which sources stand once a connection's flags changed, or it went.
use Rattle.std.proofs.Common.{arith, ◌≡◌, ℕ, Bool, true, false, Option, Some, None, refl, sym, ap, subst, ◌∙◌}
use Rattle.std.specs.Prelude.{◌==◌, cond, if◌then◌else◌, nat_lt, IsSome}
use Rattle.std.specs.Option.{option_map}
use Rattle.std.specs.Ordering.{is_eq, nat_cmp}
use Rattle.std.specs.declared.cmp.Ordering.TheVariants.{Less, Equal, Greater}
use Rattle.std.specs.BTreeMap as tree
use Rattle.std.proofs.lemmas.Bool.{eqb-true, eqb-false}
use Rattle.std.proofs.lemmas.Bool.Decides.{nat_tests}
use Rattle.slab.specs.Slab as slots
use Rattle.slab.proofs.SlabLemmas.{Updates-with_value}
use Rattle.fwd_peers.specs.Peers.{PeerShown}
use Rattle.fwd_reader.specs.declared.peer.Peer.{Peer}
use Rattle.fwd_reader.specs.declared.peer.Peer.TheVariants as kind
use Rattle.fwd_reader.specs.declared.connections.OpenConnection.{OpenConnection}
use Rattle.fwd_reader.specs.OpenConnections.{connection_in, connections_in, source_at, source_id, source_in, source_under, source_with, without}
use Rattle.fwd_reader.specs.Queues.{put_at, with_changed}
use Rattle.fwd_reader.specs.Tellings.{sources_without}

-- another connection stands at a key
pub updated : {J : Type 0} → (opened : slots.Slab (OpenConnection J)) (key : ℕ) (was is : OpenConnection J)
    → slots.get opened key ≡ Some was
    → slots.Updates opened (slots.with_value opened key is) key (Some is)
updated opened key was is there = Updates-with_value opened key is (subst IsSome (sym there) refl)

-- the connection at each key stays where that at one key does
stays_at : {J : Type 0} → (opened : slots.Slab (OpenConnection J)) (key : ℕ) (was is : OpenConnection J)
    → slots.get opened key ≡ Some was → is.connection ≡ was.connection → (k : ℕ)
    → connections_in (slots.with_value opened key is) k ≡ connections_in opened k
stays_at opened key was is there same k = by (k == key) refl
  where
    by : (b : Bool) → (k == key) ≡ b
        → connections_in (slots.with_value opened key is) k ≡ connections_in opened k
    by true e =
        subst (λ j. connections_in (slots.with_value opened key is) j ≡ connections_in opened j)
        (sym (eqb-true k key e))
        (ap connection_in (updated opened key was is there).changed ∙ ap Some same
        ∙ sym (ap connection_in there))
    by false e =
        ap connection_in ((updated opened key was is there).others k (eqb-false k key e))

-- the source of an id, if a connection is that
source_of : {J : Type 0} → ℕ → Option (Peer J) → Option PeerShown
source_of id None = None
source_of id (Some connection) = source_with id connection

-- it is that of the connection alone
is_of : {J : Type 0} → (id : ℕ) (o : Option (OpenConnection J)) → source_in id o ≡ source_of id (connection_in o)
unfolding source_of
is_of id None = refl
is_of id (Some opened) = refl

under : {J : Type 0} → (opened : slots.Slab (OpenConnection J)) (key : ℕ) (was is : OpenConnection J)
    → slots.get opened key ≡ Some was → is.connection ≡ was.connection → (id : ℕ) (k : Option ℕ)
    → source_under (slots.with_value opened key is) id k ≡ source_under opened id k
under opened key was is there same id None = refl
under opened key was is there same id (Some k) =
    is_of id (slots.get (slots.with_value opened key is) k)
    ∙ ap (source_of id) (stays_at opened key was is there same k) ∙ sym (is_of id (slots.get opened k))

-- what stands at a key changes, but for the connection itself: the same sources stand
pub flags_change : {J : Type 0} → (keys : tree.BTreeMap ℕ ℕ) (opened : slots.Slab (OpenConnection J)) (key : ℕ)
    (was is : OpenConnection J) → slots.get opened key ≡ Some was → is.connection ≡ was.connection
    → source_at keys (slots.with_value opened key is) ≡ source_at keys opened
flags_change keys opened key was is there same =
    λ i id. under opened key was is there same id (tree.get nat_cmp keys id) i

-- so do the same connections
pub all_stay : {J : Type 0} → (opened : slots.Slab (OpenConnection J)) (key : ℕ) (was is : OpenConnection J)
    → slots.get opened key ≡ Some was → is.connection ≡ was.connection
    → connections_in (slots.with_value opened key is) ≡ connections_in opened
all_stay opened key was is there same = λ i k. stays_at opened key was is there same k i

-- what stands at a key became what the change makes of it
pub changed : {J : Type 0} → (opened : slots.Slab (OpenConnection J)) (key : ℕ) (was is : OpenConnection J)
    (change : OpenConnection J → OpenConnection J) → slots.get opened key ≡ Some was → is ≡ change was
    → slots.with_value opened key is ≡ with_changed opened key change
changed opened key was is change there same =
    ap (slots.with_value opened key) same
    ∙ sym (ap (λ o. put_at opened key (option_map change o)) there)

-- nothing stands there
pub none_changed : {J : Type 0} → (opened : slots.Slab (OpenConnection J)) (key : ℕ)
    (change : OpenConnection J → OpenConnection J) → slots.get opened key ≡ None
    → opened ≡ with_changed opened key change
none_changed opened key change none =
    sym (ap (λ o. put_at opened key (option_map change o)) none)

-- a connection went
pub gone : {J : Type 0} → (s t : slots.Slab (OpenConnection J)) (key : ℕ) → slots.Updates s t key None
    → connections_in t ≡ without key (connections_in s)
gone s t key went = λ i k. by k (k == key) refl i
  where
    by : (k : ℕ) (b : Bool) → (k == key) ≡ b
        → connections_in t k ≡ (if b then None else connections_in s k)
    by k true e =
        subst (λ j. connections_in t j ≡ None) (sym (eqb-true k key e))
        (ap connection_in went.changed)
    by k false e = ap connection_in (went.others k (eqb-false k key e))

-- a connection that has another id, or none, is no source of this one
no_source : {J : Type 0} → (id : ℕ) (connection : Peer J) (o : Option ℕ) → source_id connection ≡ o
    → ((gone : ℕ) → o ≡ Some gone → (gone == id) ≡ false) → source_with id connection ≡ None
no_source id (kind.Monitor monitor) o is apart = refl
no_source id (kind.Source source) o is apart =
    ap (λ b. if b then Some source else None) (apart source.id (sym is))

-- the source of an id under a key, where the connection at one key went that has not this id
under_gone : {J : Type 0} → (s t : slots.Slab (OpenConnection J)) (key : ℕ) (was : OpenConnection J) (id : ℕ)
    → slots.get s key ≡ Some was → slots.Updates s t key None
    → source_with id was.connection ≡ None → (o : Option ℕ)
    → source_under t id o ≡ source_under s id o
under_gone s t key was id there went other None = refl
under_gone s t key was id there went other (Some k) = by (k == key) refl
  where
    by : (b : Bool) → (k == key) ≡ b
        → source_in id (slots.get t k) ≡ source_in id (slots.get s k)
    by true e =
        subst (λ j. source_in id (slots.get t j) ≡ source_in id (slots.get s j))
        (sym (eqb-true k key e))
        (ap (source_in id) went.changed ∙ sym other ∙ sym (ap (source_in id) there))
    by false e = ap (source_in id) (went.others k (eqb-false k key e))

-- an id is found by itself alone
equal : (less same : Bool) → less ≡ false → same ≡ true
    → is_eq (cond less Less (cond same Equal Greater)) ≡ true
equal false true less found = refl
equal false false less found = found
equal true same less found = absurd (not_both less)
  where
    not_both : true ≡ false → ⊥
    not_both e = cc

unequal : (less same : Bool) → same ≡ false
    → is_eq (cond less Less (cond same Equal Greater)) ≡ false
unequal true same other = refl
unequal false same other = ap (λ b. is_eq (cond b Equal Greater)) other

found : (gone id : ℕ) → (gone == id) ≡ true → tree.is_at (nat_cmp gone) id ≡ true
found gone id e =
    let same : gone ≡ id = eqb-true gone id e in
    let none : nat_lt gone id ≡ false = grind (arith, nat_tests) in
    equal (nat_lt gone id) (gone == id) none e

not_found : (gone id : ℕ) → (gone == id) ≡ false → tree.is_at (nat_cmp gone) id ≡ false
not_found gone id e = unequal (nat_lt gone id) (gone == id) e

-- a source went, from its key and from the table of ids
pub source_gone : {J : Type 0} → (keys after : tree.BTreeMap ℕ ℕ) (s t : slots.Slab (OpenConnection J)) (key : ℕ)
    (was : OpenConnection J) (id : ℕ) → slots.get s key ≡ Some was
    → source_id was.connection ≡ Some id
    → tree.UpdatesBy nat_cmp (nat_cmp id) keys after None → slots.Updates s t key None
    → source_at after t ≡ sources_without (Some id) (source_at keys s)
source_gone keys after s t key was id there own taken went = λ i other. by other (id == other) refl i
  where
    is_same : (j k : ℕ) → Some k ≡ Some j → j ≡ k
    is_same j k e = cc

    by : (other : ℕ) (b : Bool) → (id == other) ≡ b
        → source_under t other (tree.get nat_cmp after other)
        ≡ (if b then None else source_under s other (tree.get nat_cmp keys other))
    by other true e =
        ap (source_under t other)
        (taken.0 other ∙ ap (λ b. cond b None (tree.get nat_cmp keys other)) (found id other e))
    by other false e =
        ap (source_under t other) (taken.2 other (not_found id other e))
        ∙ under_gone s t key was other there went
        (no_source other was.connection (Some id) own (λ g is. ap (λ j. j == other) (is_same g id is) ∙ e))
        (tree.get nat_cmp keys other)

-- a monitor went
pub monitor_gone : {J : Type 0} → (keys : tree.BTreeMap ℕ ℕ) (s t : slots.Slab (OpenConnection J)) (key : ℕ)
    (was : OpenConnection J) → slots.get s key ≡ Some was → source_id was.connection ≡ None
    → slots.Updates s t key None → source_at keys t ≡ source_at keys s
monitor_gone keys s t key was there none went =
    λ i id. under_gone s t key was id there went
    (no_source id was.connection None none (λ g is. absurd (some_none g is))) (tree.get nat_cmp keys id) i
  where
    some_none : (g : ℕ) → None ≡ Some g → ⊥
    some_none g e = cc
