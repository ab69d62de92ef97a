-- Requests that stand in slots.
use Rattle.std.proofs.Common.{arith, ◌≡◌, ◌≤◌, ◌<◌, ◌+◌, length, ℕ, Bool, true, false, cond, zero, suc, Option, Some, None, List, [], ◌∷◌, ◌++◌, refl, sym, ap, subst, ◌∙◌}
use Rattle.std.specs.Prelude.{IsSome, IfSome, is_some, count_by, slice_index_or, not, map, filter, find, ◌||◌, ◌&&◌, ◌==◌, option_map, option_and_then, option_to_list, slice_get}
use Rattle.std.specs.List.{list_any, flat_map, AllByRecursion}
use Rattle.std.proofs.lemmas.Bool.{eqb-true, eq-eqb}
use Rattle.std.proofs.lemmas.Grind.{flat_map-append}
use Rattle.std.proofs.lemmas.List.{append-nil, length-append}
use Rattle.std.proofs.lemmas.Option.{same_Some}
use Rattle.slab.specs.Slab.{Slab, get, slab_len}
use Rattle.fwd_modes.specs.declared.origin.Origin.{Origin}
use Rattle.fwd_book.specs.declared.connection_index.RequestLinks.{RequestLinks}
use Rattle.fwd_book.specs.declared.connection_index.Ends.{Ends}
use Rattle.fwd_book.specs.declared.connection_index.LinkedRequest.{LinkedRequest}
use Rattle.fwd_book.specs.History.{Entered, is_of, is_origin, request_at}
use Rattle.fwd_book.specs.Slots.{has_origin, present, request_of, held_at, own_slot, order_by}
use Rattle.fwd_book.specs.Links.{ends_at, link_of, link_at, passing_at, with_last, order_with, order_without, AreChained, AreWithin, AreUnlike, AreKept}
use Rattle.fwd_book.proofs.Facts.{apart, none_some, neither_left, neither_right, turned, origin-is, same-origin}
use Rattle.fwd_book.proofs.Linking.{none_in, once_with, once_without, length_without}
use Rattle.fwd_book.proofs.Chaining.{kept_ends}

-- ---- what stands among slots

module _ (held : ℕ → Option Entered) where
  -- an empty slot is none of those that hold a request
  pub fresh-slot : (slot : ℕ) (slots : List ℕ) → held slot ≡ None
      → AllByRecursion (λ k. IsSome (held k)) slots → list_any (λ k. slot == k) slots ≡ false
  fresh-slot slot [] empty all = refl
  fresh-slot slot (k ∷ slots) empty all = by (slot == k) refl (fresh-slot slot slots empty all.1)
    where
      by : (a : Bool) → (slot == k) ≡ a → list_any (λ m. slot == m) slots ≡ false
          → (a || list_any (λ m. slot == m) slots) ≡ false
      by true is more = absurd (apart (subst IsSome (ap held (sym (eqb-true slot k is)) ∙ empty) all.0))
      by false is more = more

  -- what is none of the slots is none of a connection's
  pub order-lacks : (p : ℕ → Bool) (slots : List ℕ) (conn : ℕ) → list_any p slots ≡ false
      → list_any p (order_by held slots conn) ≡ false
  order-lacks p [] conn none = refl
  order-lacks p (k ∷ slots) conn none = by (held k) (order-lacks p slots conn (neither_right (p k) (list_any p slots) none))
    where
      rest : List ℕ
      rest = order_by held slots conn

      by : (w : Option Entered) → list_any p rest ≡ false → list_any p (own_slot conn k w ++ rest) ≡ false
      by None more = more
      by (Some r) more = at (is_of conn r)
        where
          at : (b : Bool) → list_any p (cond b (k ∷ []) [] ++ rest) ≡ false
          at false = more
          at true = ap (λ b. b || list_any p rest) (neither_left (p k) (list_any p slots) none) ∙ more

  -- the front of what is looked through
  front-none : (o : Origin) (w : Option Entered) (qs : List Entered)
      → request_at (option_to_list w ++ qs) o ≡ None
      → (has_origin o w ≡ false) × (request_at qs o ≡ None)
  front-none o None qs none = (refl, none)
  front-none o (Some r) qs none = by (is_origin o r.origin) none
    where
      by : (a : Bool) → cond a (Some r) (request_at qs o) ≡ None → (a ≡ false) × (request_at qs o ≡ None)
      by true n = absurd (none_some (sym n))
      by false n = (refl, n)

  -- a request that is not found stands in none of the slots
  pub none-held : (o : Origin) (slots : List ℕ) → request_at (present held slots) o ≡ None
      → (k : ℕ) → list_any (λ m. k == m) slots ≡ true → has_origin o (held k) ≡ false
  none-held o [] none k among = absurd (apart among)
  none-held o (m ∷ slots) none k among =
      let front = front-none o (held m) (present held slots) none in
      by (k == m) refl among front.0 (none-held o slots front.1 k)
    where
      by : (a : Bool) → (k == m) ≡ a → (a || list_any (λ n. k == n) slots) ≡ true
          → has_origin o (held m) ≡ false
          → (list_any (λ n. k == n) slots ≡ true → has_origin o (held k) ≡ false)
          → has_origin o (held k) ≡ false
      by true is f here more = ap (λ n. has_origin o (held n)) (eqb-true k m is) ∙ here
      by false is f here more = more f

  -- the request of an origin in one of the slots is the one that is found
  pub found-at : AreUnlike held → (o : Origin) (slot : ℕ) (q : Entered) → held slot ≡ Some q
      → is_origin o q.origin ≡ true
      → (slots : List ℕ) → list_any (λ k. slot == k) slots ≡ true
      → request_at (present held slots) o ≡ Some q
  found-at unlike o slot q there own [] among = absurd (apart among)
  found-at unlike o slot q there own (m ∷ slots) among =
      by (slot == m) refl among (found-at unlike o slot q there own slots)
    where
      behind : (w : Option Entered) → held m ≡ w → request_at (present held slots) o ≡ Some q
          → request_at (option_to_list w ++ present held slots) o ≡ Some q
      behind None is more = more
      behind (Some r) is more = at (is_origin o r.origin) refl
        where
          at : (a : Bool) → is_origin o r.origin ≡ a → cond a (Some r) (request_at (present held slots) o) ≡ Some q
          at false other = more
          at true same =
              let alike : is_origin r.origin q.origin ≡ true = ap (λ x. is_origin x q.origin) (origin-is o r.origin same) ∙ own in
              sym is ∙ ap held (unlike m slot r q is there alike) ∙ there

      by : (a : Bool) → (slot == m) ≡ a → (a || list_any (λ k. slot == k) slots) ≡ true
          → (list_any (λ k. slot == k) slots ≡ true → request_at (present held slots) o ≡ Some q)
          → request_at (option_to_list (held m) ++ present held slots) o ≡ Some q
      by true is f more =
          (λ i. request_at (option_to_list ((ap held (sym (eqb-true slot m is)) ∙ there) i) ++ present held slots) o)
          ∙ ap (λ b. cond b (Some q) (request_at (present held slots) o)) own
      by false is f more = behind (held m) refl (more f)

  -- a request that is none of its connection's is not found
  pub none-found : (o : Origin) (slots : List ℕ)
      → list_any (λ k. has_origin o (held k)) (order_by held slots o.conn) ≡ false
      → request_at (present held slots) o ≡ None
  none-found o [] none = refl
  none-found o (k ∷ slots) none = by (held k) refl none (none-found o slots)
    where
      p : ℕ → Bool
      p m = has_origin o (held m)

      rest : List ℕ
      rest = order_by held slots o.conn

      by : (w : Option Entered) → held k ≡ w → list_any p (own_slot o.conn k w ++ rest) ≡ false
          → (list_any p rest ≡ false → request_at (present held slots) o ≡ None)
          → request_at (option_to_list w ++ present held slots) o ≡ None
      by None is n more = more n
      by (Some r) is n more = at (is_of o.conn r) refl n
        where
          at : (a : Bool) → is_of o.conn r ≡ a → list_any p (cond a (k ∷ []) [] ++ rest) ≡ false
              → cond (is_origin o r.origin) (Some r) (request_at (present held slots) o) ≡ None
          at true own f =
              ap (λ b. cond b (Some r) (request_at (present held slots) o)) (ap (has_origin o) (sym is) ∙ neither_left (p k) (list_any p rest) f)
              ∙ more (neither_right (p k) (list_any p rest) f)
          at false own f =
              ap (λ b. cond (b && (o.request == r.origin.request)) (Some r) (request_at (present held slots) o)) (turned o.conn r.origin.conn own)
              ∙ more f

-- ---- a request comes

module _ (held new : ℕ → Option Entered) (slot : ℕ) (q : Entered)
    (then_held : (k : ℕ) → new k ≡ cond (slot == k) (Some q) (held k)) where
  own-held : new slot ≡ Some q
  own-held = then_held slot ∙ ap (λ b. cond b (Some q) (held slot)) (eq-eqb slot slot refl)

  -- what the other slots give stays
  still : {X : Type 0} (f : ℕ → Option Entered → List X) (slots : List ℕ)
      → list_any (λ k. slot == k) slots ≡ false
      → flat_map (λ k. f k (new k)) slots ≡ flat_map (λ k. f k (held k)) slots
  still f [] fresh = refl
  still f (k ∷ slots) fresh =
      let other = neither_left (slot == k) (list_any (λ m. slot == m) slots) fresh in
      λ i. f k ((then_held k ∙ ap (λ b. cond b (Some q) (held k)) other) i) ++ still f slots (neither_right (slot == k) (list_any (λ m. slot == m) slots) fresh) i

  pub present-with : (slots : List ℕ) → list_any (λ k. slot == k) slots ≡ false
      → present new (slots ++ slot ∷ []) ≡ present held slots ++ q ∷ []
  present-with slots fresh =
      flat_map-append (λ k. option_to_list (new k)) slots (slot ∷ [])
      ∙ (λ i. still (λ k w. option_to_list w) slots fresh i ++ (option_to_list (own-held i) ++ []))

  pub order-with : (slots : List ℕ) → list_any (λ k. slot == k) slots ≡ false
      → order_with q.origin.conn slot (order_by held slots) ≡ order_by new (slots ++ slot ∷ [])
  order-with slots fresh = λ i conn. sym (whole conn) i
    where
      one : (conn : ℕ) (a : Bool)
          → order_by held slots conn ++ (cond a (slot ∷ []) [] ++ []) ≡ cond a (order_by held slots conn ++ slot ∷ []) (order_by held slots conn)
      one conn true = refl
      one conn false = append-nil (order_by held slots conn)

      whole : (conn : ℕ) → order_by new (slots ++ slot ∷ []) conn ≡ order_with q.origin.conn slot (order_by held slots) conn
      whole conn =
          flat_map-append (λ k. own_slot conn k (new k)) slots (slot ∷ [])
          ∙ (λ i. still (own_slot conn) slots fresh i ++ (own_slot conn slot (own-held i) ++ []))
          ∙ one conn (is_of conn q)

  pub all-with : (slots : List ℕ) → AllByRecursion (λ k. IsSome (held k)) slots
      → AllByRecursion (λ k. IsSome (new k)) (slots ++ slot ∷ [])
  all-with [] all = (subst IsSome (sym own-held) refl, tt)
  all-with (k ∷ slots) all = (subst IsSome (sym (then_held k)) (either (slot == k)), all-with slots all.1)
    where
      either : (b : Bool) → IsSome (cond b (Some q) (held k))
      either true = refl
      either false = all.0

  pub unlike-with : AreUnlike held → ((k : ℕ) (r : Entered) → held k ≡ Some r → is_origin q.origin r.origin ≡ false)
      → AreUnlike new
  unlike-with unlike others k m x y at_k at_m same =
      by (slot == k) (slot == m) refl refl (sym (then_held k) ∙ at_k) (sym (then_held m) ∙ at_m)
    where
      by : (a b : Bool) → (slot == k) ≡ a → (slot == m) ≡ b
          → cond a (Some q) (held k) ≡ Some x → cond b (Some q) (held m) ≡ Some y → k ≡ m
      by true true is its f g = sym (eqb-true slot k is) ∙ eqb-true slot m its
      by true false is its f g =
          absurd (apart (sym (others m y g) ∙ ap (λ (z : Entered). is_origin z.origin y.origin) (same_Some _ _ f) ∙ same))
      by false true is its f g =
          let one : y.origin ≡ x.origin = origin-is x.origin y.origin same in
          let own : q.origin ≡ x.origin = ap (λ (z : Entered). z.origin) (same_Some _ _ g) ∙ one in
          absurd (apart (sym (others k x f) ∙ ap (λ o. is_origin o x.origin) own ∙ same-origin x.origin))
      by false false is its f g = unlike k m x y f g same

  -- its number is not above the greatest that is known then
  pub within-with : (ends new_ends : List (ℕ × Ends))
      → ((c : ℕ) → ends_at new_ends c ≡ cond (q.origin.conn == c) (Some (with_last q.origin.request slot (ends_at ends q.origin.conn))) (ends_at ends c))
      → ((k : ℕ) (r : Entered) → held k ≡ Some r → IsSome (ends_at ends r.origin.conn))
      → AreWithin held ends → AreWithin new new_ends
  within-with ends new_ends at_ends has within k r at =
      subst (λ o. IfSome o (λ e. r.origin.request ≤ e.greatest)) (sym (at_ends r.origin.conn)) (by (slot == k) (sym (then_held k) ∙ at))
    where
      its : Ends
      its = with_last q.origin.request slot (ends_at ends q.origin.conn)

      Is : Entered → Bool → Type 0
      Is x b = IfSome (cond b (Some its) (ends_at ends x.origin.conn)) (λ e. x.origin.request ≤ e.greatest)

      top : (o : Option Ends) → q.origin.request ≤ (with_last q.origin.request slot o).greatest
      top None = omega arith
      top (Some e) = omega arith

      more : (o : Option Ends) → IsSome o → IfSome o (λ e. r.origin.request ≤ e.greatest)
          → r.origin.request ≤ (with_last q.origin.request slot o).greatest
      more None some f = absurd (apart some)
      more (Some e) some f = omega (arith, f)

      beside : held k ≡ Some r → (b : Bool) → (q.origin.conn == r.origin.conn) ≡ b → Is r b
      beside f false other = within k r f
      beside f true same =
          let conn : r.origin.conn ≡ q.origin.conn = sym (eqb-true q.origin.conn r.origin.conn same) in
          more (ends_at ends q.origin.conn) (subst (λ c. IsSome (ends_at ends c)) conn (has k r f))
          (subst (λ c. IfSome (ends_at ends c) (λ e. r.origin.request ≤ e.greatest)) conn (within k r f))

      by : (a : Bool) → cond a (Some q) (held k) ≡ Some r → Is r (q.origin.conn == r.origin.conn)
      by true f =
          subst (λ (x : Entered). Is x (q.origin.conn == x.origin.conn)) (same_Some _ _ f)
          (subst (Is q) (sym (eq-eqb q.origin.conn q.origin.conn refl)) (top (ends_at ends q.origin.conn)))
      by false f = beside f (q.origin.conn == r.origin.conn) refl

-- ---- a request leaves

module _ (held new : ℕ → Option Entered) (slot : ℕ)
    (then_held : (k : ℕ) → new k ≡ cond (slot == k) None (held k)) where
  was-held : (k : ℕ) (r : Entered) → new k ≡ Some r → held k ≡ Some r
  was-held k r at = by (slot == k) (sym (then_held k) ∙ at)
    where
      by : (a : Bool) → cond a None (held k) ≡ Some r → held k ≡ Some r
      by true f = absurd (none_some f)
      by false f = f

  pub unlike-without : AreUnlike held → AreUnlike new
  unlike-without unlike k m q r at_k at_m same = unlike k m q r (was-held k q at_k) (was-held m r at_m) same

  pub all-without : (slots : List ℕ) → AllByRecursion (λ k. IsSome (held k)) slots
      → AllByRecursion (λ k. IsSome (new k)) (filter (λ k. not (slot == k)) slots)
  all-without [] all = tt
  all-without (k ∷ slots) all = by (slot == k) refl (all-without slots all.1)
    where
      rest : List ℕ
      rest = filter (λ m. not (slot == m)) slots

      by : (a : Bool) → (slot == k) ≡ a → AllByRecursion (λ m. IsSome (new m)) rest
          → AllByRecursion (λ m. IsSome (new m)) (cond (not a) (k ∷ rest) rest)
      by true is more = more
      by false is more = (subst IsSome (sym (then_held k ∙ ap (λ b. cond b None (held k)) is)) all.0, more)

  pub present-without : AreUnlike held → (o : Origin) (q : Entered) → held slot ≡ Some q
      → is_origin o q.origin ≡ true → (slots : List ℕ)
      → present new (filter (λ k. not (slot == k)) slots) ≡ filter (λ r. not (is_origin o r.origin)) (present held slots)
  present-without unlike o q there own [] = refl
  present-without unlike o q there own (k ∷ slots) = by (slot == k) refl (present-without unlike o q there own slots)
    where
      rest : List ℕ
      rest = filter (λ m. not (slot == m)) slots

      left : List Entered
      left = filter (λ r. not (is_origin o r.origin)) (present held slots)

      stays : (slot == k) ≡ false → (w : Option Entered) → held k ≡ w
          → option_to_list w ++ left ≡ filter (λ r. not (is_origin o r.origin)) (option_to_list w ++ present held slots)
      stays is None at = refl
      stays is (Some r) at = sym (ap (λ b. cond (not b) (r ∷ left) left) (other (is_origin o r.origin) refl))
        where
          other : (a : Bool) → is_origin o r.origin ≡ a → is_origin o r.origin ≡ false
          other false e = e
          other true e =
              let alike : is_origin q.origin r.origin ≡ true = ap (λ x. is_origin x r.origin) (origin-is o q.origin own) ∙ e in
              absurd (apart (sym is ∙ eq-eqb slot k (unlike slot k q r there at alike)))

      by : (a : Bool) → (slot == k) ≡ a → present new rest ≡ left
          → present new (cond (not a) (k ∷ rest) rest)
          ≡ filter (λ r. not (is_origin o r.origin)) (option_to_list (held k) ++ present held slots)
      by true is more =
          more ∙ sym (ap (λ b. cond (not b) (q ∷ left) left) own)
          ∙ (λ i. filter (λ r. not (is_origin o r.origin)) (option_to_list ((sym there ∙ ap held (eqb-true slot k is)) i) ++ present held slots))
      by false is more =
          (λ i. option_to_list ((then_held k ∙ ap (λ b. cond b None (held k)) is) i) ++ more i) ∙ stays is (held k) refl

  pub order-without : (slots : List ℕ)
      → order_without slot (order_by held slots) ≡ order_by new (filter (λ k. not (slot == k)) slots)
  order-without slots = λ i conn. sym (whole conn slots) i
    where
      whole : (conn : ℕ) (ks : List ℕ)
          → order_by new (filter (λ k. not (slot == k)) ks) conn ≡ filter (λ k. not (slot == k)) (order_by held ks conn)
      whole conn [] = refl
      whole conn (k ∷ ks) = by (slot == k) refl (whole conn ks)
        where
          others : List ℕ
          others = filter (λ m. not (slot == m)) ks

          rest : List ℕ
          rest = filter (λ m. not (slot == m)) (order_by held ks conn)

          -- what the slot gives leaves, and what another gives stays
          one : (a : Bool) → (slot == k) ≡ a → (w : Option Entered)
              → cond a [] (own_slot conn k w) ++ rest ≡ filter (λ m. not (slot == m)) (own_slot conn k w ++ order_by held ks conn)
          one a is None = nothing a
            where
              nothing : (b : Bool) → cond b [] [] ++ rest ≡ rest
              nothing true = refl
              nothing false = refl
          one a is (Some r) = at a is (is_of conn r)
            where
              at : (b : Bool) → (slot == k) ≡ b → (d : Bool)
                  → cond b [] (cond d (k ∷ []) []) ++ rest ≡ filter (λ m. not (slot == m)) (cond d (k ∷ []) [] ++ order_by held ks conn)
              at true e false = refl
              at false e false = refl
              at true e true = sym (ap (λ b. cond (not b) (k ∷ rest) rest) e)
              at false e true = sym (ap (λ b. cond (not b) (k ∷ rest) rest) e)

          by : (a : Bool) → (slot == k) ≡ a → order_by new others conn ≡ rest
              → order_by new (cond (not a) (k ∷ others) others) conn
              ≡ filter (λ m. not (slot == m)) (own_slot conn k (held k) ++ order_by held ks conn)
          by true is more = more ∙ one true is (held k)
          by false is more =
              (λ i. own_slot conn k ((then_held k ∙ ap (λ b. cond b None (held k)) is) i) ++ more i) ∙ one false is (held k)

  pub within-without : (ends new_ends : List (ℕ × Ends))
      → ((c : ℕ) → IfSome (ends_at new_ends c) (λ e. option_map (λ (d : Ends). d.greatest) (ends_at ends c) ≡ Some e.greatest))
      → AreWithin held ends → AreWithin new new_ends
  within-without ends new_ends same within k r at =
      by (ends_at new_ends r.origin.conn) (ends_at ends r.origin.conn) (same r.origin.conn) (within k r (was-held k r at))
    where
      by : (n o : Option Ends) → IfSome n (λ e. option_map (λ (d : Ends). d.greatest) o ≡ Some e.greatest)
          → IfSome o (λ e. r.origin.request ≤ e.greatest) → IfSome n (λ e. r.origin.request ≤ e.greatest)
      by None o f g = tt
      by (Some e) None f g = absurd (none_some f)
      by (Some e) (Some d) f g = subst (λ n. r.origin.request ≤ n) (same_Some _ _ f) g

-- ---- a connection's requests in their slots

module _ (held : ℕ → Option Entered) (conn : ℕ) where
  -- the origins of those in the connection's slots that pass a test are those of the connection's
  -- that do
  pub order-passing : (test : Entered → Bool) (slots : List ℕ)
      → flat_map (passing_at test held) (order_by held slots conn)
      ≡ map (λ q. q.origin) (filter (λ q. is_of conn q && test q) (present held slots))
  order-passing test [] = refl
  order-passing test (k ∷ slots) = by (held k) refl (order-passing test slots)
    where
      own : List Entered
      own = filter (λ q. is_of conn q && test q) (present held slots)

      passing : List Entered → List Origin
      passing qs = map (λ q. q.origin) (filter test qs)

      by : (w : Option Entered) → held k ≡ w
          → flat_map (passing_at test held) (order_by held slots conn) ≡ map (λ q. q.origin) own
          → flat_map (passing_at test held) (own_slot conn k w ++ order_by held slots conn)
          ≡ map (λ q. q.origin) (filter (λ q. is_of conn q && test q) (option_to_list w ++ present held slots))
      by None is more = more
      by (Some q) is more = at (is_of conn q)
        where
          one : (a : Bool) → map (λ r. r.origin) (cond a (q ∷ []) []) ++ map (λ r. r.origin) own ≡ map (λ r. r.origin) (cond a (q ∷ own) own)
          one true = refl
          one false = refl

          at : (b : Bool)
              → flat_map (passing_at test held) (cond b (k ∷ []) [] ++ order_by held slots conn)
              ≡ map (λ r. r.origin) (cond (b && test q) (q ∷ own) own)
          at false = more
          at true = (λ i. passing (option_to_list (is i)) ++ more i) ∙ one (test q)

  -- the first of them holds the request that is found first
  pub order-first : (slots : List ℕ)
      → option_and_then held (slice_get (order_by held slots conn) 0) ≡ find (is_of conn) (present held slots)
  order-first [] = refl
  order-first (k ∷ slots) = by (held k) refl (order-first slots)
    where
      by : (w : Option Entered) → held k ≡ w
          → option_and_then held (slice_get (order_by held slots conn) 0) ≡ find (is_of conn) (present held slots)
          → option_and_then held (slice_get (own_slot conn k w ++ order_by held slots conn) 0)
          ≡ find (is_of conn) (option_to_list w ++ present held slots)
      by None is more = more
      by (Some q) is more = at (is_of conn q)
        where
          at : (b : Bool)
              → option_and_then held (slice_get (cond b (k ∷ []) [] ++ order_by held slots conn) 0)
              ≡ cond b (Some q) (find (is_of conn) (present held slots))
          at false = more
          at true = is

  -- they are not more than all
  pub order-few : (slots : List ℕ) → length (order_by held slots conn) ≤ length slots
  order-few [] = omega arith
  order-few (k ∷ slots) = by (held k) (order-few slots)
    where
      by : (w : Option Entered) → length (order_by held slots conn) ≤ length slots
          → length (own_slot conn k w ++ order_by held slots conn) ≤ length (k ∷ slots)
      by None more = omega (arith, more)
      by (Some q) more = at (is_of conn q)
        where
          at : (b : Bool) → length (cond b (k ∷ []) [] ++ order_by held slots conn) ≤ length (k ∷ slots)
          at true = omega (arith, more)
          at false = omega (arith, more)

pub present-few : (held : ℕ → Option Entered) (slots : List ℕ) → length (present held slots) ≤ length slots
present-few held [] = omega arith
present-few held (k ∷ slots) = by (held k) (present-few held slots)
  where
    by : (w : Option Entered) → length (present held slots) ≤ length slots
        → length (option_to_list w ++ present held slots) ≤ length (k ∷ slots)
    by None more = omega (arith, more)
    by (Some q) more = omega (arith, more)

-- where one gives something, all do
pub some-given : {X : Type 0} (f : ℕ → List X) (ks : List ℕ) (i k : ℕ) (x : X) → slice_get ks i ≡ Some k
    → f k ≡ x ∷ [] → flat_map f ks ≡ [] → ⊥
some-given f [] i k x at one none = none_some at
some-given f (m ∷ ks) zero k x at one none =
    some-there (sym (ap (λ n. f n ++ flat_map f ks) (same_Some _ _ at) ∙ ap (λ xs. xs ++ flat_map f ks) one) ∙ none)
  where
    some-there : x ∷ flat_map f ks ≡ [] → ⊥
    some-there e = absurd cc
some-given {X = X} f (m ∷ ks) (suc i) k x at one none = by (f m) (some-given f ks i k x at one) none
  where
    by : (xs : List X) → (flat_map f ks ≡ [] → ⊥) → xs ++ flat_map f ks ≡ [] → ⊥
    by [] more e = more e
    by (y ∷ xs) more e = absurd cc

-- ---- what is kept

module _ (kept : Slab LinkedRequest) (ends : List (ℕ × Ends)) where
  -- a request in a slot is one of those whose order is kept
  pub stands-in : (slots : List ℕ) → AreChained (link_at kept) ends (order_by (held_at kept) slots)
      → (k : ℕ) (q : Entered) → held_at kept k ≡ Some q → list_any (λ m. k == m) slots ≡ true
  stands-in slots chained k q at = by (list_any (λ m. k == m) slots) refl
    where
      conn : ℕ
      conn = q.origin.conn

      has_link : (w : Option LinkedRequest) → request_of w ≡ Some q
          → (link : RequestLinks) × (link_of conn w ≡ Some link)
      has_link None e = absurd (none_some e)
      has_link (Some w) e = (w.link, ap (λ b. cond b (Some w.link) None) (ap (is_of conn) (same_Some _ _ e) ∙ eq-eqb conn conn refl))

      by : (a : Bool) → list_any (λ m. k == m) slots ≡ a → list_any (λ m. k == m) slots ≡ true
      by true is = is
      by false is =
          absurd (none_some (sym (none_in None (order_by (held_at kept) slots conn) k (order-lacks (held_at kept) (λ m. k == m) slots conn is)) ∙ sym (chained.linked conn k) ∙ (has_link (get kept k) at).1))

  module _ (order : ℕ → List ℕ) (chained : AreChained (link_at kept) ends order) where
    -- a request that is kept is its connection's, which has ends
    pub held-ends : (k : ℕ) (q : Entered) → held_at kept k ≡ Some q → IsSome (ends_at ends q.origin.conn)
    held-ends k q at = by (get kept k) refl at
      where
        by : (w : Option LinkedRequest) → get kept k ≡ w → request_of w ≡ Some q → IsSome (ends_at ends q.origin.conn)
        by None is e = absurd (none_some e)
        by (Some own) is e =
            subst (λ (x : Entered). IsSome (ends_at ends x.origin.conn)) (same_Some _ _ e)
            (kept_ends (get kept) (get kept) ends ends order chained k own is)

    -- no slot has a request whose number is above the greatest of its connection
    pub none-above : AreWithin (held_at kept) ends → (o : Origin)
        → IfSome (ends_at ends o.conn) (λ e. e.greatest < o.request)
        → (k : ℕ) → has_origin o (held_at kept k) ≡ false
    none-above within o above k = by (held_at kept k) refl
      where
        clash : (d : Option Ends) → IsSome d → IfSome d (λ e. o.request ≤ e.greatest)
            → IfSome d (λ e. e.greatest < o.request) → ⊥
        clash None some f g = apart some
        clash (Some e) some f g = omega (arith, f, g)

        by : (w : Option Entered) → held_at kept k ≡ w → has_origin o w ≡ false
        by None is = refl
        by (Some q) is = at (is_origin o q.origin) refl
          where
            at : (a : Bool) → is_origin o q.origin ≡ a → is_origin o q.origin ≡ false
            at false e = e
            at true e =
                let own : q.origin ≡ o = origin-is o q.origin e in
                absurd (clash (ends_at ends o.conn)
                (subst (λ (x : Origin). IsSome (ends_at ends x.conn)) own (held-ends k q is))
                (subst (λ (x : Origin). IfSome (ends_at ends x.conn) (λ d. x.request ≤ d.greatest)) own (within k q is))
                above)

-- ---- the ends, once a request left

module _ (old : ℕ → Option Ends) (conn n : ℕ) where
  same-greatest : (o : Option Ends) → IfSome o (λ e. option_map (λ (d : Ends). d.greatest) o ≡ Some e.greatest)
  same-greatest None = tt
  same-greatest (Some e) = refl

  -- where a connection's were written
  pub greatest-written : (was new : Ends) → old conn ≡ Some was → was.greatest ≡ new.greatest
      → IfSome (cond (conn == n) (Some new) (old n)) (λ e. option_map (λ (d : Ends). d.greatest) (old n) ≡ Some e.greatest)
  greatest-written was new there same = by (conn == n) refl
    where
      by : (a : Bool) → (conn == n) ≡ a
          → IfSome (cond a (Some new) (old n)) (λ e. option_map (λ (d : Ends). d.greatest) (old n) ≡ Some e.greatest)
      by true is = ap (option_map (λ (d : Ends). d.greatest)) (ap old (sym (eqb-true conn n is)) ∙ there) ∙ ap Some same
      by false is = same-greatest (old n)

  -- where a connection's left
  pub greatest-left : IfSome (cond (conn == n) None (old n)) (λ e. option_map (λ (d : Ends). d.greatest) (old n) ≡ Some e.greatest)
  greatest-left = by (conn == n)
    where
      by : (a : Bool) → IfSome (cond a None (old n)) (λ e. option_map (λ (d : Ends). d.greatest) (old n) ≡ Some e.greatest)
      by true = tt
      by false = same-greatest (old n)

-- ---- all that is kept

-- where there is an origin's request
pub has-request : (o : Origin) (w : Option Entered) → has_origin o w ≡ true
    → (q : Entered) × (w ≡ Some q) × (is_origin o q.origin ≡ true)
has-request o None has = absurd (apart has)
has-request o (Some q) has = (q, refl, has)

-- where nothing is kept yet
pub kept-nothing : (kept : Slab LinkedRequest) (ends : List (ℕ × Ends)) → kept.slots ≡ []
    → AreChained (link_at kept) ends (λ _. []) → AreKept kept ends []
kept-nothing kept ends none chained = record {
  chained = chained;
  within = λ k q at. absurd (none_some (sym (empty k) ∙ at));
  unlike = λ k m q r at_k at_m same. absurd (none_some (sym (empty k) ∙ at_k));
  held = tt;
  once = tt;
  count = ap (count_by is_some) none;
}
  where
    empty : (k : ℕ) → held_at kept k ≡ None
    empty k = ap (λ slots. request_of (slice_index_or slots k None)) none

module _ (kept : Slab LinkedRequest) (ends : List (ℕ × Ends)) (slots : List ℕ) (are : AreKept kept ends slots) where
  -- the room does not matter
  pub kept-room : (capacity : ℕ) → AreKept (record kept { capacity = capacity }) ends slots
  kept-room capacity = record {
    chained = are.chained;
    within = are.within;
    unlike = are.unlike;
    held = are.held;
    once = are.once;
    count = are.count;
  }

  -- a request of an origin in a slot is the one that is found
  pub kept-found : (o : Origin) (slot : ℕ) → has_origin o (held_at kept slot) ≡ true
      → held_at kept slot ≡ request_at (present (held_at kept) slots) o
  kept-found o slot has =
      let its = has-request o (held_at kept slot) has in
      its.1 ∙ sym (found-at (held_at kept) are.unlike o slot its.0 its.1 its.2 slots (stands-in kept ends slots are.chained slot its.0 its.1))

  pub kept-few : (conn : ℕ) → length (order_by (held_at kept) slots conn) ≤ slab_len kept
  kept-few conn = omega (arith, order-few (held_at kept) conn slots, are.count)

  module _ (new : Slab LinkedRequest) (new_ends : List (ℕ × Ends)) (slot : ℕ) (q : Entered)
      (within : AreWithin (held_at new) new_ends) where
    -- a request comes
    pub kept-with : held_at kept slot ≡ None
        → ((k : ℕ) → held_at new k ≡ cond (slot == k) (Some q) (held_at kept k))
        → ((order : ℕ → List ℕ) → AreChained (link_at kept) ends order → list_any (λ k. slot == k) (order q.origin.conn) ≡ false
        → AreChained (link_at new) new_ends (order_with q.origin.conn slot order))
        → slab_len new ≡ slab_len kept + 1
        → request_at (present (held_at kept) slots) q.origin ≡ None
        → AreKept new new_ends (slots ++ slot ∷ [])
    kept-with empty then_held chained len none = record {
      chained = subst (AreChained (link_at new) new_ends) (order-with (held_at kept) (held_at new) slot q then_held slots fresh)
          (chained (order_by (held_at kept) slots) are.chained (order-lacks (held_at kept) (λ k. slot == k) slots q.origin.conn fresh));
      within = within;
      unlike = unlike-with (held_at kept) (held_at new) slot q then_held are.unlike
          (λ k r at. ap (has_origin q.origin) (sym at) ∙ none-held (held_at kept) q.origin slots none k (stands-in kept ends slots are.chained k r at));
      held = all-with (held_at kept) (held_at new) slot q then_held slots are.held;
      once = once_with slots slot fresh are.once;
      count = len ∙ ap (λ n. n + 1) are.count ∙ sym (length-append slots (slot ∷ []));
    }
      where
        fresh : list_any (λ k. slot == k) slots ≡ false
        fresh = fresh-slot (held_at kept) slot slots empty are.held

    -- the request in the slot leaves
    pub kept-without : held_at kept slot ≡ Some q
        → ((k : ℕ) → held_at new k ≡ cond (slot == k) None (held_at kept k))
        → ((order : ℕ → List ℕ) → AreChained (link_at kept) ends order → AreChained (link_at new) new_ends (order_without slot order))
        → slab_len new + 1 ≡ slab_len kept
        → AreKept new new_ends (filter (λ k. not (slot == k)) slots)
    kept-without there then_held chained len = record {
      chained = subst (AreChained (link_at new) new_ends) (order-without (held_at kept) (held_at new) slot then_held slots)
          (chained (order_by (held_at kept) slots) are.chained);
      within = within;
      unlike = unlike-without (held_at kept) (held_at new) slot then_held are.unlike;
      held = all-without (held_at kept) (held_at new) slot then_held slots are.held;
      once = once_without slots slot are.once;
      count =
          let less : suc (length (filter (λ k. not (slot == k)) slots)) ≡ length slots = length_without slots slot are.once (stands-in kept ends slots are.chained slot q there) in
          omega (arith, less, len, are.count);
    }
