-- Telling a receipt to the one that it is for.
use Rattle.std.proofs.Common.{◌≡◌, ◌<◌, ℕ, Bool, true, false, List, ◌∷◌, Option, Some, None, inl, inr, length, drop, get_or, ◌+◌, ◌≤◌, refl, sym, ap, subst, ◌∙◌}
use Rattle.std.specs.Prelude.{◌==◌, if◌then◌else◌, is_some, IsSome}
use Rattle.std.specs.Option.{option_map}
use Rattle.std.specs.Ordering.{nat_cmp}
use Rattle.std.specs.BTreeMap as tree
use Rattle.std.proofs.lemmas.Bool.{eqb-true, eqb-false}
use Rattle.std.proofs.lemmas.List.{at_drop_more, drop_all}
use Rattle.slab.specs.Slab as slots
use Rattle.slab.proofs.SlabLemmas.{Updates-with_value}
use Rattle.fwd_modes.specs.Acks.{ack_text}
use Rattle.fwd_modes.specs.declared.origin.Origin.{Origin}
use Rattle.fwd_book.specs.Receipts.{Receipt}
use Rattle.fwd_peers.specs.Peers.{PeerShown, IsTold, answered_by, counted, told_by}
use Rattle.fwd_reader.specs.declared.connections.Connections.{Connections}
use Rattle.fwd_reader.specs.declared.connections.OpenConnection.{OpenConnection}
use Rattle.fwd_reader.specs.OpenConnections.{source_at, source_in, source_under, source_with, sources_in}
use Rattle.fwd_reader.specs.Tellings.{AreTold, IsToldAt, IsToldOf, Sources}

-- a source keeps its id when it is told
pub id_stays : (s t : PeerShown) (ack : Option (List ℕ)) → IsTold s ack t → t.id ≡ s.id
id_stays s t None told = ap (λ p. p.id) told
id_stays s t (Some ack) (inl put) = ap (λ p. p.id) put.1
id_stays s t (Some ack) (inr not_put) = ap (λ p. p.id) not_put.1

-- and when it is counted that one more of its requests was answered
id_counted : (s : PeerShown) (receipt : Receipt) (id : ℕ) → (counted receipt id s).id ≡ s.id
id_counted s receipt id = by (receipt.origin.conn == id)
  where
    by : (b : Bool) → (if b then answered_by receipt s else s).id ≡ s.id
    by true = refl
    by false = refl

-- who is told of a receipt by its own id is told so under each
pub told_alone : (s t : PeerShown) (receipt : Receipt)
    → IsTold (counted receipt s.id s) (told_by receipt s.id) t
    → (id : ℕ) → IsToldAt id receipt (if s.id == id then Some s else None)
    (if t.id == id then Some t else None)
told_alone s t receipt told id =
    subst (λ k. IsToldAt id receipt (if s.id == id then Some s else None) (if k == id then Some t else None))
    (sym (id_stays (counted receipt s.id s) t (told_by receipt s.id) told
    ∙ id_counted s receipt s.id))
    (by (s.id == id) refl)
  where
    by : (b : Bool) → (s.id == id) ≡ b
        → IsToldAt id receipt (if b then Some s else None) (if b then Some t else None)
    by true e = (t, (refl, subst (λ k. IsTold (counted receipt k s) (told_by receipt k) t) (eqb-true s.id id e) told))
    by false e = refl

-- and a monitor is told of none
pub stays : (receipt : Receipt) (id : ℕ) → IsToldAt id receipt None None
stays receipt id = refl

-- a source that stands under an id has that id
pub own_id : (s : PeerShown) (id : ℕ) → is_some (if s.id == id then Some s else None) ≡ true → id ≡ s.id
own_id s id stands = by (s.id == id) refl stands
  where
    by : (b : Bool) → (s.id == id) ≡ b → is_some (if b then Some s else None) ≡ true → id ≡ s.id
    by true e there = sym (eqb-true s.id id e)
    by false e there = absurd cc

-- something is not nothing
some_none : {X : Type 0} {x : X} → Some x ≡ None → ⊥
some_none e = absurd cc

some_same : (j k : ℕ) → Some j ≡ Some k → j ≡ k
some_same j k e = cc

-- a receipt of another connection tells a source nothing
pub untold : (id : ℕ) (receipt : Receipt) (x : Option PeerShown)
    → ((receipt.origin.conn == id) ≡ true → x ≡ None) → IsToldAt id receipt x x
untold id receipt None none = refl
untold id receipt (Some s) none = (s, (refl, by (receipt.origin.conn == id) refl))
  where
    by : (b : Bool) → (receipt.origin.conn == id) ≡ b
        → IsTold (if b then answered_by receipt s else s)
        (if b then option_map ack_text receipt.chunk else None) s
    by true e = absurd (some_none (none e))
    by false e = refl

-- where no source stands under the receipt's connection, nobody is told
pub nobody : {J : Type 0} → (c : Connections J) (receipt : Receipt) (origin : Origin) → origin ≡ receipt.origin
    → sources_in c origin.conn ≡ None → IsToldOf (sources_in c) receipt (sources_in c)
nobody c receipt origin same none id =
    untold id receipt (sources_in c id) (λ e. subst (λ k. sources_in c k ≡ None)
    (ap (λ o. o.conn) same ∙ eqb-true receipt.origin.conn id e) none)

pub no_key : {J : Type 0} → (c : Connections J) (receipt : Receipt) (origin : Origin) → origin ≡ receipt.origin
    → tree.get nat_cmp c.sources origin.conn ≡ None
    → IsToldOf (sources_in c) receipt (sources_in c)
no_key c receipt origin same none =
    nobody c receipt origin same (ap (source_under c.opened origin.conn) none)

pub no_slot : {J : Type 0} → (c : Connections J) (receipt : Receipt) (origin : Origin) (key : ℕ)
    → origin ≡ receipt.origin → tree.get nat_cmp c.sources origin.conn ≡ Some key
    → slots.get c.opened key ≡ None → IsToldOf (sources_in c) receipt (sources_in c)
no_slot c receipt origin key same found none =
    nobody c receipt origin same
    (ap (source_under c.opened origin.conn) found ∙ ap (source_in origin.conn) none)

-- who stands under the receipt's connection is the one at its key
same_here : {J : Type 0} → (c : Connections J) (receipt : Receipt) (origin : Origin) (o : Option ℕ) (s : Option (OpenConnection J))
    → origin ≡ receipt.origin → tree.get nat_cmp c.sources origin.conn ≡ o
    → source_under c.opened receipt.origin.conn o ≡ source_in receipt.origin.conn s
    → sources_in c receipt.origin.conn ≡ source_in receipt.origin.conn s
same_here c receipt origin o s same found there =
    ap (λ (k : Origin). source_under c.opened receipt.origin.conn (tree.get nat_cmp c.sources k.conn)) (sym same)
    ∙ ap (source_under c.opened receipt.origin.conn) found ∙ there

pub stands_there : {J : Type 0} → (c : Connections J) (receipt : Receipt) (origin : Origin) (key : ℕ) (was : OpenConnection J)
    → origin ≡ receipt.origin → tree.get nat_cmp c.sources origin.conn ≡ Some key → slots.get c.opened key ≡ Some was
    → is_some (sources_in c receipt.origin.conn) ≡ true → is_some (source_with receipt.origin.conn was.connection) ≡ true
stands_there c receipt origin key was same found there stands =
    sym (ap is_some (same_here c receipt origin (Some key) (Some was) same found (ap (source_in receipt.origin.conn) there))) ∙ stands

false_true : false ≡ true → ⊥
false_true e = cc

none_true : (x : Option PeerShown) → x ≡ None → is_some x ≡ true → ⊥
none_true x none stands = false_true (sym (ap is_some none) ∙ stands)

pub none_stands : {J : Type 0} → (c : Connections J) (receipt : Receipt) (origin : Origin) → origin ≡ receipt.origin
    → tree.get nat_cmp c.sources origin.conn ≡ None → is_some (sources_in c receipt.origin.conn) ≡ true → ⊥
none_stands c receipt origin same none stands =
    none_true (sources_in c receipt.origin.conn) (same_here c receipt origin None None same none refl) stands

pub no_slot_stands : {J : Type 0} → (c : Connections J) (receipt : Receipt) (origin : Origin) (key : ℕ) → origin ≡ receipt.origin
    → tree.get nat_cmp c.sources origin.conn ≡ Some key → slots.get c.opened key ≡ None
    → is_some (sources_in c receipt.origin.conn) ≡ true → ⊥
no_slot_stands c receipt origin key same found none stands =
    none_true (sources_in c receipt.origin.conn) (same_here c receipt origin (Some key) None same found (ap (source_in receipt.origin.conn) none)) stands

-- what is told under the key of the receipt's connection is told to that one alone
pub told_there : {J : Type 0} → (c : Connections J) (receipt : Receipt) (origin : Origin) (key : ℕ)
    (was is : OpenConnection J) → origin ≡ receipt.origin
    → tree.get nat_cmp c.sources origin.conn ≡ Some key → slots.get c.opened key ≡ Some was
    → ((id : ℕ) → IsToldAt id receipt (source_with id was.connection)
    (source_with id is.connection))
    → IsToldOf (sources_in c) receipt
    (source_at c.sources (slots.with_value c.opened key is))
told_there {J} c receipt origin key was is same found there told id =
    by (tree.get nat_cmp c.sources id) refl
  where
    with_it : slots.Slab (OpenConnection J)
    with_it = slots.with_value c.opened key is

    updated : slots.Updates c.opened with_it key (Some is)
    updated = Updates-with_value c.opened key is (subst IsSome (sym there) refl)

    own : receipt.origin.conn ≡ id → tree.get nat_cmp c.sources id ≡ Some key
    own e = subst (λ k. tree.get nat_cmp c.sources k ≡ Some key) (ap (λ o. o.conn) same ∙ e) found

    at : (k : ℕ) → tree.get nat_cmp c.sources id ≡ Some k → (b : Bool) → (k == key) ≡ b
        → IsToldAt id receipt (source_in id (slots.get c.opened k))
        (source_in id (slots.get with_it k))
    at k e true is_key =
        subst (λ j. IsToldAt id receipt (source_in id (slots.get c.opened j))
        (source_in id (slots.get with_it j)))
        (sym (eqb-true k key is_key))
        (subst (λ o. IsToldAt id receipt (source_in id o) (source_in id (slots.get with_it key)))
        (sym there)
        (subst (λ o. IsToldAt id receipt (source_in id (Some was)) (source_in id o))
        (sym updated.changed) (told id)))
    at k e false other =
        subst (λ o. IsToldAt id receipt (source_in id (slots.get c.opened k)) (source_in id o))
        (sym (updated.others k (eqb-false k key other)))
        (untold id receipt (source_in id (slots.get c.opened k))
        (λ mine. absurd (eqb-false k key other
        (some_same k key (sym e ∙ own (eqb-true receipt.origin.conn id mine))))))

    by : (o : Option ℕ) → tree.get nat_cmp c.sources id ≡ o
        → IsToldAt id receipt (source_under c.opened id o) (source_under with_it id o)
    by None e = refl
    by (Some k) e = at k e (k == key) refl

-- one more receipt is told
pub told_next : (s u : Sources) (receipts : List Receipt) (i : ℕ) (r : Receipt)
    → i < length receipts → r ≡ get_or receipts i r → IsToldOf s r u
    → (t : Sources) → AreTold u (drop (i + 1) receipts) t → AreTold s (drop i receipts) t
told_next s u receipts i r lt is told t rest =
    subst (λ rs. AreTold s rs t) (sym (front ∙ ap (λ x. x ∷ drop (i + 1) receipts) (sym is)))
    (u, (told, rest))
  where
    front : drop i receipts ≡ get_or receipts i r ∷ drop (i + 1) receipts
    front = at_drop_more (λ rs. rs) receipts i r lt

-- and at the end all are
pub told_last : (s : Sources) (receipts : List Receipt) (i : ℕ) → length receipts ≤ i
    → AreTold s (drop i receipts) s
told_last s receipts i le = subst (λ rs. AreTold s rs s) (sym (drop_all i receipts le)) refl
