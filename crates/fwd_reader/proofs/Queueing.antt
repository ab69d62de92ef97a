-- A key comes to stand in a queue.
use Rattle.std.proofs.Common.{arith, ◌≡◌, ◌<◌, ◌≤◌, ◌+◌, inl, inr, ℕ, zero, suc, Bool, true, false, List, [], ◌∷◌, ◌++◌, length, Option, Some, None, Result, Ok, Err, refl, sym, ap, subst, ◌∙◌}
use Rattle.std.specs.Prelude.{if◌then◌else◌, is_ok, nat_le, not, OnErr, slice_set}
use Rattle.std.proofs.lemmas.Bool.Decides.{nat_tests}
use Rattle.std.specs.Option.{option_map}
use Rattle.std.specs.VecDeque.{deque_capacity}
use Rattle.slab.specs.Slab as slots
use Rattle.fwd_reader.specs.declared.peer.Peer.{Peer}
use Rattle.fwd_reader.specs.declared.peer.Peer.TheVariants as kind
use Rattle.fwd_reader.specs.declared.connections.Connections.{Connections}
use Rattle.fwd_reader.specs.declared.connections.OpenConnection.{OpenConnection}
use Rattle.fwd_reader.specs.OpenConnections.{connection_at, connection_in, is_source}
use Rattle.fwd_reader.specs.Queues.{Queues, IsAsked, IsWritten, Retries, RetriesAll, RetriesFirst, is_queued_at, is_ready_at, kept_at, made_kept, made_ready, made_unqueued, put_at, with_changed}
use Rattle.fwd_reader.proofs.Standing.{changed, updated}

-- the source at a key takes a place still, where so many do not already
pub keeps_none : {J : Type 0} → (kept limit key : ℕ) (opened : slots.Slab (OpenConnection J)) → limit ≤ kept
    → opened ≡ kept_at kept limit key opened
keeps_none kept limit key opened many =
    let is : nat_le limit kept ≡ true = grind (arith, nat_tests) in
    sym (ap (λ b. if b then opened else with_changed opened key made_kept) is)

-- or takes none
pub keeps_one : {J : Type 0} → (kept limit key : ℕ) (opened after : slots.Slab (OpenConnection J)) → kept < limit
    → after ≡ with_changed opened key made_kept → after ≡ kept_at kept limit key opened
keeps_one kept limit key opened after few is =
    let none : nat_le limit kept ≡ false = grind (arith, nat_tests) in
    is ∙ sym (ap (λ b. if b then opened else with_changed opened key made_kept) none)

-- it is put there, or there is no room
pub pushed : {E : Type 0} (result : Result (Unit {0}) E) (flag : Option Bool) (key capacity len : ℕ)
    (queue after : List ℕ) → flag ≡ Some false
    → after ≡ (if is_ok result then queue ++ key ∷ [] else queue)
    → OnErr result (capacity ≤ len) → len ≡ length queue → Queues flag key capacity queue after
pushed (Ok unit) flag key capacity len queue after is items full same =
    subst (λ f. Queues f key capacity queue after) (sym is) (inl items)
pushed (Err error) flag key capacity len queue after is items full same =
    subst (λ f. Queues f key capacity queue after) (sym is)
    (inr (items, subst (λ n. capacity ≤ n) same full))

-- it stands there
pub stands_there : (flag : Option Bool) (key capacity : ℕ) (queue after : List ℕ)
    → flag ≡ Some true → after ≡ queue → Queues flag key capacity queue after
stands_there flag key capacity queue after is same =
    subst (λ f. Queues f key capacity queue after) (sym is) same

-- it is no connection's
pub is_none : (flag : Option Bool) (key capacity : ℕ) (queue after : List ℕ)
    → flag ≡ None → after ≡ queue → Queues flag key capacity queue after
is_none flag key capacity queue after is same =
    subst (λ f. Queues f key capacity queue after) (sym is) same

-- what is put at a place twice is there as it was put last
set_twice : {X : Type 0} (xs : List X) (n : ℕ) (x y : X)
    → slice_set (slice_set xs n x) n y ≡ slice_set xs n y
set_twice [] n x y = refl
set_twice (z ∷ zs) zero x y = refl
set_twice (z ∷ zs) (suc n) x y = ap (λ l. z ∷ l) (set_twice zs n x y)

value_twice : {J : Type 0} → (opened : slots.Slab (OpenConnection J)) (key : ℕ) (a b : OpenConnection J)
    → slots.with_value (slots.with_value opened key a) key b ≡ slots.with_value opened key b
value_twice opened key a b =
    ap (λ ss. record opened { slots = ss }) (set_twice opened.slots key (Some a) (Some b))

-- a source that was told to wait is asked again, and is ready
pub asked_again : {J : Type 0} → (s m t : Connections J) (key : ℕ) (was : OpenConnection J)
    → slots.get s.opened key ≡ Some was → was.is_queued ≡ true
    → m.opened ≡ slots.with_value s.opened key (made_unqueued was) → m.ready ≡ s.ready
    → t.opened ≡ with_changed m.opened key (made_ready false)
    → Queues (is_ready_at m key) key (deque_capacity m.ready) m.ready.items t.ready.items
    → Retries key s t
asked_again s m t key was there queued opened ready flags put =
    let at : slots.get m.opened key ≡ Some (made_unqueued was) =
    ap (λ o. slots.get o key) opened
    ∙ (updated s.opened key was (made_unqueued was) there).changed in
    let as_before : is_ready_at m key ≡ is_ready_at s key =
    ap (option_map (λ o. o.is_ready)) at ∙ sym (ap (option_map (λ o. o.is_ready)) there) in
    let new : t.opened ≡ with_changed s.opened key (λ o. made_ready false (made_unqueued o)) =
    flags ∙ ap (λ o. put_at m.opened key (option_map (made_ready false) o)) at
    ∙ ap (λ o. slots.with_value o key (made_ready false (made_unqueued was))) opened
    ∙ value_twice s.opened key (made_unqueued was) (made_ready false (made_unqueued was))
    ∙ changed s.opened key was (made_ready false (made_unqueued was))
    (λ o. made_ready false (made_unqueued o)) there refl in
    subst (λ f. IsAsked f key s t)
    (sym (ap (option_map (λ o. o.is_queued)) there ∙ ap Some queued)) (
      new,
      subst (λ f. Queues f key (deque_capacity s.ready) s.ready.items t.ready.items) as_before
          (subst (λ q. Queues (is_ready_at m key) key (deque_capacity q) q.items t.ready.items)
          ready put),
    )

-- one that was not is not
pub asked_not : {J : Type 0} → (s t : Connections J) (key : ℕ) (was : OpenConnection J)
    → slots.get s.opened key ≡ Some was → was.is_queued ≡ false
    → t.opened ≡ slots.with_value s.opened key (made_unqueued was) → t.ready ≡ s.ready
    → Retries key s t
asked_not s t key was there queued opened ready =
    subst (λ f. IsAsked f key s t)
    (sym (ap (option_map (λ o. o.is_queued)) there ∙ ap Some queued)) (
      opened
          ∙ changed s.opened key was (made_unqueued was) made_unqueued there refl,
      ready,
    )

-- nor one that does not stand
pub asked_none : {J : Type 0} → (s : Connections J) (key : ℕ) → slots.get s.opened key ≡ None → Retries key s s
asked_none s key none =
    subst (λ f. IsAsked f key s s) (sym (ap (option_map (λ o. o.is_queued)) none)) (refl, refl)

-- the first of those that wait is asked again, and then the others
more_retried : {J : Type 0} → (waiting : List ℕ) (s u t : Connections J) → waiting ≡ s.waiting.items
    → RetriesFirst waiting s u → RetriesAll u.waiting.items u t → RetriesAll waiting s t
more_retried [] s u t same first others =
    let last : RetriesAll [] u t = subst (λ ws. RetriesAll ws u t) first.0 others in
    (last.0 ∙ first.1, last.1 ∙ first.2)
more_retried (key ∷ keys) s u t same first others =
    (u, (first, subst (λ ws. RetriesAll ws u t) first.0 others))

pub retried : {J : Type 0} → (s u t : Connections J) → RetriesFirst s.waiting.items s u
    → RetriesAll u.waiting.items u t → RetriesAll s.waiting.items s t
retried s u t first others = more_retried s.waiting.items s u t refl first others

-- one fewer waits
fewer : {J : Type 0} → (waiting : List ℕ) (s u : Connections J) → RetriesFirst waiting s u → 0 < length waiting
    → length u.waiting.items + 1 ≡ length waiting
fewer [] s u first some = absurd (omega (arith, some))
fewer (key ∷ keys) s u first some =
    let left : length u.waiting.items ≡ length keys = ap length first.0 in omega (arith, left)

pub one_fewer : {J : Type 0} → (s u : Connections J) → RetriesFirst s.waiting.items s u
    → 0 < length s.waiting.items → length u.waiting.items + 1 ≡ length s.waiting.items
one_fewer s u first some = fewer s.waiting.items s u first some

-- where none waits nothing changes
pub none_retried : {J : Type 0} → (s : Connections J) → s.waiting.items ≡ [] → RetriesAll s.waiting.items s s
none_retried s none = subst (λ ws. RetriesAll ws s s) (sym none) (refl, refl)

pub no_key : (keys : List ℕ) → length keys ≡ 0 → keys ≡ []
no_key [] none = refl
no_key (key ∷ keys) none = absurd (omega (arith, none))

-- a source was told something, and was not to be written
pub told_pushed : {J : Type 0} → (s t : Connections J) (key : ℕ) (was is : OpenConnection J) (more : Bool)
    → slots.get s.opened key ≡ Some was → t.opened ≡ slots.with_value s.opened key is
    → (is_source was.connection ≡ true
    → (more ≡ not was.is_writable) × (is.is_writable ≡ true))
    → (is_source was.connection ≡ false → more ≡ false) → more ≡ true
    → Queues (Some false) key (deque_capacity s.writable) s.writable.items t.writable.items
    → IsWritten (connection_at s key) key s t
told_pushed {J} s t key was is more there new source stays is_more put =
    subst (λ o. IsWritten o key s t) (sym (ap connection_in there)) (by was.connection refl)
  where
    was_not : (b : Bool) → true ≡ not b → b ≡ false
    was_not false e = refl
    was_not true e = cc

    by : (connection : Peer J) → was.connection ≡ connection → IsWritten (Some connection) key s t
    by (kind.Source peer) e =
        let told = source (ap is_source e) in (
          ap (option_map (λ o. o.is_writable))
              (ap (λ o. slots.get o key) new ∙ (updated s.opened key was is there).changed)
              ∙ ap Some told.1,
          subst
              (λ f. Queues f key (deque_capacity s.writable) s.writable.items t.writable.items)
              (sym (ap (option_map (λ o. o.is_writable)) there
              ∙ ap Some (was_not was.is_writable (sym is_more ∙ told.0)))) put,
        )
    by (kind.Monitor monitor) e = absurd (both (sym is_more ∙ stays (ap is_source e)))
      where
        both : true ≡ false → ⊥
        both e = cc

-- or it was, or a monitor stands there
pub told_stays : {J : Type 0} → (s t : Connections J) (key : ℕ) (was is : OpenConnection J) (more : Bool)
    → slots.get s.opened key ≡ Some was → t.opened ≡ slots.with_value s.opened key is
    → (is_source was.connection ≡ true
    → (more ≡ not was.is_writable) × (is.is_writable ≡ true))
    → more ≡ false → t.writable ≡ s.writable → IsWritten (connection_at s key) key s t
told_stays {J} s t key was is more there new source no_more same =
    subst (λ o. IsWritten o key s t) (sym (ap connection_in there)) (by was.connection refl)
  where
    was_so : (b : Bool) → false ≡ not b → b ≡ true
    was_so true e = refl
    was_so false e = cc

    by : (connection : Peer J) → was.connection ≡ connection → IsWritten (Some connection) key s t
    by (kind.Source peer) e =
        let told = source (ap is_source e) in (
          ap (option_map (λ o. o.is_writable))
              (ap (λ o. slots.get o key) new ∙ (updated s.opened key was is there).changed)
              ∙ ap Some told.1,
          subst
              (λ f. Queues f key (deque_capacity s.writable) s.writable.items t.writable.items)
              (sym (ap (option_map (λ o. o.is_writable)) there
              ∙ ap Some (was_so was.is_writable (sym no_more ∙ told.0))))
              (ap (λ q. q.items) same),
        )
    by (kind.Monitor monitor) e = same

-- whether a source is asked again does not hang on who waits
asked_by : {J : Type 0} → (flag : Option Bool) (s m t : Connections J) (key : ℕ) → m.opened ≡ s.opened
    → m.ready ≡ s.ready → IsAsked flag key m t → IsAsked flag key s t
asked_by None s m t key opened ready asked = (asked.0 ∙ opened, asked.1 ∙ ready)
asked_by (Some false) s m t key opened ready asked =
    (asked.0 ∙ ap (λ o. with_changed o key made_unqueued) opened, asked.1 ∙ ready)
asked_by (Some true) s m t key opened ready asked = (
  asked.0 ∙ ap (λ o. with_changed o key (λ x. made_ready false (made_unqueued x))) opened,
  subst
      (λ o. Queues (option_map (λ x. x.is_ready) (slots.get o key)) key
      (deque_capacity s.ready) s.ready.items t.ready.items)
      opened
      (subst (λ q. Queues (is_ready_at m key) key (deque_capacity q) q.items t.ready.items)
      ready asked.1),
)

-- the first of those that wait is taken out, and asked again
pub first_retried : {J : Type 0} → (s m t : Connections J) (key : ℕ) → s.waiting.items ≡ key ∷ m.waiting.items
    → m.opened ≡ s.opened → m.ready ≡ s.ready → t.waiting ≡ m.waiting → Retries key m t
    → RetriesFirst s.waiting.items s t
first_retried s m t key items opened ready kept again =
    subst (λ ws. RetriesFirst ws s t) (sym items) (
      ap (λ q. q.items) kept,
      asked_by (is_queued_at s key) s m t key opened ready
          (subst (λ f. IsAsked f key m t)
          (ap (λ o. option_map (λ x. x.is_queued) (slots.get o key)) opened) again),
    )

-- none waits
pub none_first : {J : Type 0} → (s t : Connections J) → s.waiting.items ≡ [] → t.waiting.items ≡ []
    → t.opened ≡ s.opened → t.ready ≡ s.ready → RetriesFirst s.waiting.items s t
none_first s t none left opened ready =
    subst (λ ws. RetriesFirst ws s t) (sym none) (left, opened, ready)

pub some_same : (a b : ℕ) → Some a ≡ Some b → a ≡ b
some_same a b e = cc

pub none_some : (a : ℕ) → None ≡ Some a → ⊥
none_some a e = cc
