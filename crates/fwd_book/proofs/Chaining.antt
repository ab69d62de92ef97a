-- The links of all connections, once a request came or left.
use Rattle.std.proofs.Common.{◌≡◌, ℕ, suc, Bool, true, false, cond, Option, Some, None, List, [], ◌∷◌, ◌++◌, refl, sym, ap, subst, ◌∙◌}
use Rattle.std.specs.Prelude.{not, ◌&&◌, ◌==◌, is_some, filter, option_map, option_and_then, unwrap_or, slice_get, IsSome}
use Rattle.std.specs.List.{list_any}
use Rattle.std.proofs.lemmas.Bool.{eqb-true, eq-eqb}
use Rattle.fwd_book.specs.declared.connection_index.RequestLinks.{RequestLinks}
use Rattle.fwd_book.specs.declared.connection_index.Ends.{Ends}
use Rattle.fwd_book.specs.declared.connection_index.LinkedRequest.{LinkedRequest}
use Rattle.fwd_book.specs.History.{is_of}
use Rattle.fwd_book.specs.Links.{link_of, ends_at, is_the, last_of, link_in, with_later, with_earlier, leads_to, follows_on, with_last, AreOnce, order_with, order_without, AreChained}
use Rattle.fwd_book.proofs.Facts.{apart, none_some}
use Rattle.fwd_book.proofs.Linking.{among_at, later_at, last_none, earlier_other, later_other, appended, once_with, first_with, last_with, relinked, unlinked, once_without, first_without, last_without, all_stay, none_any, not_in}

abbrev Links : Type 0
Links = ℕ → ℕ → Option RequestLinks

-- ---- what is kept, and its links

-- a link is written where what is kept is
later-of : (conn : ℕ) (later : Option ℕ) (k : Option LinkedRequest)
    → link_of conn (option_map (leads_to later) k) ≡ option_map (with_later later) (link_of conn k)
later-of conn later None = refl
later-of conn later (Some k) = by (is_of conn k.request)
  where
    by : (a : Bool) → cond a (Some (with_later later k.link)) None ≡ option_map (with_later later) (cond a (Some k.link) None)
    by true = refl
    by false = refl

earlier-of : (conn : ℕ) (earlier : Option ℕ) (k : Option LinkedRequest)
    → link_of conn (option_map (follows_on earlier) k) ≡ option_map (with_earlier earlier) (link_of conn k)
earlier-of conn earlier None = refl
earlier-of conn earlier (Some k) = by (is_of conn k.request)
  where
    by : (a : Bool) → cond a (Some (with_earlier earlier k.link)) None ≡ option_map (with_earlier earlier) (cond a (Some k.link) None)
    by true = refl
    by false = refl

-- one of two is read
either-of : (conn : ℕ) (b : Bool) (x y : Option LinkedRequest)
    → link_of conn (cond b x y) ≡ cond b (link_of conn x) (link_of conn y)
either-of conn true x y = refl
either-of conn false x y = refl

-- a request is of one connection alone
one-owner : (conn c : ℕ) (k : Option LinkedRequest) (link : RequestLinks) → (conn == c) ≡ false
    → link_of conn k ≡ Some link → link_of c k ≡ None
one-owner conn c None link other there = refl
one-owner conn c (Some k) link other there = by (is_of conn k.request) refl there
  where
    by : (a : Bool) → is_of conn k.request ≡ a → cond a (Some k.link) None ≡ Some link
        → cond (is_of c k.request) (Some k.link) None ≡ None
    by false is f = absurd (none_some f)
    by true is f = ap (λ b. cond b (Some k.link) None) (ap (λ n. n == c) (eqb-true k.request.origin.conn conn is) ∙ other)

-- what is written where the connection has its slots changes none of another connection
written-apart : (conn c m : ℕ) (k : Option LinkedRequest) (slot : Option ℕ) (f : RequestLinks → RequestLinks)
    → (conn == c) ≡ false → (link_of conn k ≡ None → is_the slot m ≡ false)
    → cond (is_the slot m) (option_map f (link_of c k)) (link_of c k) ≡ link_of c k
written-apart conn c m k slot f other untouched = by (link_of conn k) refl
  where
    both : (b : Bool) (l : Option RequestLinks) → l ≡ None → cond b (option_map f l) l ≡ l
    both false l e = refl
    both true l e = ap (option_map f) e ∙ sym e

    by : (x : Option RequestLinks) → link_of conn k ≡ x
        → cond (is_the slot m) (option_map f (link_of c k)) (link_of c k) ≡ link_of c k
    by None e = ap (λ b. cond b (option_map f (link_of c k)) (link_of c k)) (untouched e)
    by (Some link) e = both (is_the slot m) (link_of c k) (one-owner conn c k link other e)

-- ---- a request comes

pub chained_with : (links new_links : Links) (ends new_ends : List (ℕ × Ends))
    (order : ℕ → List ℕ) (conn slot : ℕ) (earlier : Option ℕ) (its : Ends)
    → earlier ≡ option_map (λ e. e.last) (ends_at ends conn)
    → its.first ≡ unwrap_or (option_map (λ e. e.first) (ends_at ends conn)) slot
    → its.last ≡ slot
    → ((c r : ℕ) → new_links c r
    ≡ cond ((conn == c) && (slot == r)) (Some (record { earlier = earlier; later = None }))
    (cond ((conn == c) && is_the earlier r) (option_map (with_later (Some slot)) (links c r)) (links c r)))
    → ((c : ℕ) → ends_at new_ends c ≡ cond (conn == c) (Some its) (ends_at ends c))
    → list_any (λ r. slot == r) (order conn) ≡ false
    → AreChained links ends order → AreChained new_links new_ends (order_with conn slot order)
chained_with links new_links ends new_ends order conn slot earlier its is_earlier is_first is_last at_links at_ends fresh chained = record {
  linked = λ c r. at_links c r ∙ linked c r (conn == c) refl;
  first = λ c. ap (option_map (λ e. e.first)) (at_ends c) ∙ firsts c (conn == c) refl;
  last = λ c. ap (option_map (λ e. e.last)) (at_ends c) ∙ lasts c (conn == c) refl;
  once = λ c. once c (conn == c) refl;
}
  where
    own : ℕ → List ℕ
    own c = order c ++ slot ∷ []

    new : (c : ℕ) → (conn == c) ≡ true → list_any (λ r. slot == r) (order c) ≡ false
    new c e = subst (λ k. list_any (λ r. slot == r) (order k) ≡ false) (eqb-true conn c e) fresh

    linked : (c r : ℕ) (a : Bool) → (conn == c) ≡ a
        → cond (a && (slot == r)) (Some (record { earlier = earlier; later = None }))
        (cond (a && is_the earlier r) (option_map (with_later (Some slot)) (links c r)) (links c r))
        ≡ link_in None (cond a (own c) (order c)) r
    linked c r false e = chained.linked c r
    linked c r true e =
        let is : earlier ≡ last_of None (order c) = is_earlier ∙ chained.last conn ∙ ap (λ k. last_of None (order k)) (eqb-true conn c e) in
        (λ i. cond (slot == r) (Some (record { earlier = is i; later = None })) (cond (is_the (is i) r) (option_map (with_later (Some slot)) (chained.linked c r i)) (chained.linked c r i)))
        ∙ sym (appended None (order c) slot r (new c e) (chained.once c))

    firsts : (c : ℕ) (a : Bool) → (conn == c) ≡ a
        → option_map (λ (e : Ends). e.first) (cond a (Some its) (ends_at ends c))
        ≡ slice_get (cond a (own c) (order c)) 0
    firsts c false e = chained.first c
    firsts c true e =
        ap (λ n. Some n) (is_first ∙ ap (λ k. unwrap_or k slot) (chained.first conn ∙ ap (λ k. slice_get (order k) 0) (eqb-true conn c e)))
        ∙ sym (first_with (order c) slot)

    lasts : (c : ℕ) (a : Bool) → (conn == c) ≡ a
        → option_map (λ (e : Ends). e.last) (cond a (Some its) (ends_at ends c))
        ≡ last_of None (cond a (own c) (order c))
    lasts c false e = chained.last c
    lasts c true e = ap (λ n. Some n) is_last ∙ sym (last_with None (order c) slot)

    once : (c : ℕ) (a : Bool) → (conn == c) ≡ a → AreOnce (cond a (own c) (order c))
    once c false e = chained.once c
    once c true e = once_with (order c) slot (new c e) (chained.once c)

-- ---- a request leaves

-- the connection's slots without one
abbrev own_without : ℕ → ℕ → (ℕ → List ℕ) → ℕ → List ℕ
own_without conn slot order c = cond (conn == c) (filter (λ r. not (slot == r)) (order c)) (order c)

own_chained_without : (links new_links : Links) (ends new_ends : List (ℕ × Ends))
    (order : ℕ → List ℕ) (conn slot : ℕ) (link : RequestLinks)
    → links conn slot ≡ Some link
    → ((c r : ℕ) → new_links c r
    ≡ cond ((conn == c) && is_the link.later r)
    (option_map (with_earlier link.earlier) (cond ((conn == c) && is_the link.earlier r)
    (option_map (with_later link.later) (cond ((conn == c) && (slot == r)) None (links c r)))
    (cond ((conn == c) && (slot == r)) None (links c r))))
    (cond ((conn == c) && is_the link.earlier r)
    (option_map (with_later link.later) (cond ((conn == c) && (slot == r)) None (links c r)))
    (cond ((conn == c) && (slot == r)) None (links c r))))
    → ((c : ℕ) → option_map (λ e. e.first) (ends_at new_ends c)
    ≡ cond ((conn == c) && not (is_some link.earlier)) link.later (option_map (λ e. e.first) (ends_at ends c)))
    → ((c : ℕ) → option_map (λ e. e.last) (ends_at new_ends c)
    ≡ cond ((conn == c) && not (is_some link.later)) link.earlier (option_map (λ e. e.last) (ends_at ends c)))
    → AreChained links ends order → AreChained new_links new_ends (own_without conn slot order)
own_chained_without links new_links ends new_ends order conn slot link there at_links is_first is_last chained = record {
  linked = λ c r. at_links c r ∙ linked c r (conn == c) refl;
  first = λ c. is_first c ∙ firsts c (conn == c) refl;
  last = λ c. is_last c ∙ lasts c (conn == c) refl;
  once = λ c. once c (conn == c) refl;
}
  where
    own : ℕ → List ℕ
    own c = filter (λ r. not (slot == r)) (order c)

    here : (c : ℕ) → (conn == c) ≡ true → link_in None (order c) slot ≡ Some link
    here c e = sym (chained.linked c slot) ∙ ap (λ k. links k slot) (sym (eqb-true conn c e)) ∙ there

    linked : (c r : ℕ) (a : Bool) → (conn == c) ≡ a
        → cond (a && is_the link.later r)
        (option_map (with_earlier link.earlier) (cond (a && is_the link.earlier r)
        (option_map (with_later link.later) (cond (a && (slot == r)) None (links c r)))
        (cond (a && (slot == r)) None (links c r))))
        (cond (a && is_the link.earlier r)
        (option_map (with_later link.later) (cond (a && (slot == r)) None (links c r)))
        (cond (a && (slot == r)) None (links c r)))
        ≡ link_in None (cond a (own c) (order c)) r
    linked c r false e = chained.linked c r
    linked c r true e =
        ap (relinked slot link.earlier link.later r) (chained.linked c r)
        ∙ sym (unlinked None (order c) slot link (chained.once c) (none_any (order c)) (here c e) r)

    or_else : {X : Type 0} (d : Bool) (x y : X) → cond (not d) x y ≡ cond d y x
    or_else true x y = refl
    or_else false x y = refl

    firsts : (c : ℕ) (a : Bool) → (conn == c) ≡ a
        → cond (a && not (is_some link.earlier)) link.later (option_map (λ e. e.first) (ends_at ends c))
        ≡ slice_get (cond a (own c) (order c)) 0
    firsts c false e = chained.first c
    firsts c true e =
        or_else (is_some link.earlier) link.later (option_map (λ e. e.first) (ends_at ends c))
        ∙ ap (λ k. cond (is_some link.earlier) k link.later) (chained.first c)
        ∙ sym (first_without (order c) slot link (chained.once c) (here c e))

    lasts : (c : ℕ) (a : Bool) → (conn == c) ≡ a
        → cond (a && not (is_some link.later)) link.earlier (option_map (λ e. e.last) (ends_at ends c))
        ≡ last_of None (cond a (own c) (order c))
    lasts c false e = chained.last c
    lasts c true e =
        or_else (is_some link.later) link.earlier (option_map (λ e. e.last) (ends_at ends c))
        ∙ ap (λ k. cond (is_some link.later) k link.earlier) (chained.last c)
        ∙ sym (last_without None (order c) slot link (chained.once c) (here c e))

    once : (c : ℕ) (a : Bool) → (conn == c) ≡ a → AreOnce (cond a (own c) (order c))
    once c false e = chained.once c
    once c true e = once_without (order c) slot (chained.once c)

-- a slot that has no request of a connection is none of its
not_own : (links : Links) (ends : List (ℕ × Ends)) (order : ℕ → List ℕ) (c slot : ℕ)
    → AreChained links ends order → links c slot ≡ None
    → order c ≡ filter (λ r. not (slot == r)) (order c)
not_own links ends order c slot chained none = sym (all_stay (order c) slot (not_in None (order c) slot (sym (chained.linked c slot) ∙ none)))

-- a request that is not there leaves nothing changed
pub chained_same : (links : Links) (ends : List (ℕ × Ends)) (order : ℕ → List ℕ) (slot : ℕ)
    → ((c : ℕ) → links c slot ≡ None)
    → AreChained links ends order → AreChained links ends (order_without slot order)
chained_same links ends order slot none chained =
    subst (AreChained links ends) (λ i c. not_own links ends order c slot chained (none c) i) chained

-- a request that is there is its connection's, which has ends
pub has_ends : (links : Links) (ends : List (ℕ × Ends)) (order : ℕ → List ℕ) (conn slot : ℕ)
    (link : RequestLinks)
    → links conn slot ≡ Some link → AreChained links ends order
    → IsSome (ends_at ends conn)
has_ends links ends order conn slot link there chained = by (ends_at ends conn) refl
  where
    empty : (rs : List ℕ) → slice_get rs 0 ≡ None → link_in None rs slot ≡ Some link → ⊥
    empty [] e f = none_some f
    empty (r ∷ rs) e f = none_some (sym e)

    by : (x : Option Ends) → ends_at ends conn ≡ x → IsSome (ends_at ends conn)
    by (Some x) e = subst IsSome (sym e) refl
    by None e = absurd (empty (order conn) (sym (chained.first conn) ∙ ap (option_map (λ e. e.first)) e) (sym (chained.linked conn slot) ∙ there))

-- ---- what is kept is written

module _ (kept new : ℕ → Option LinkedRequest) (ends new_ends : List (ℕ × Ends)) (order : ℕ → List ℕ)
    (chained : AreChained (λ c k. link_of c (kept k)) ends order) where
  -- a slot that has no request of the connection is neither the last nor beside another
  no_last : (conn m : ℕ) → link_of conn (kept m) ≡ None → is_the (last_of None (order conn)) m ≡ false
  no_last conn m none = last_none (order conn) m (not_in None (order conn) m (sym (chained.linked conn m) ∙ none))

  no_earlier : (conn slot m : ℕ) (link : RequestLinks) → link_of conn (kept slot) ≡ Some link
      → link_of conn (kept m) ≡ None → is_the link.earlier m ≡ false
  no_earlier conn slot m link there none =
      earlier_other None (order conn) slot link m (sym (chained.linked conn slot) ∙ there)
      (not_in None (order conn) m (sym (chained.linked conn m) ∙ none)) refl

  no_later : (conn slot m : ℕ) (link : RequestLinks) → link_of conn (kept slot) ≡ Some link
      → link_of conn (kept m) ≡ None → is_the link.later m ≡ false
  no_later conn slot m link there none =
      later_other None (order conn) slot link m (sym (chained.linked conn slot) ∙ there)
      (not_in None (order conn) m (sym (chained.linked conn m) ∙ none))

  pub kept_with : (conn slot : ℕ) (own : LinkedRequest) → is_of conn own.request ≡ true → kept slot ≡ None
      → own.link.earlier ≡ option_map (λ e. e.last) (ends_at ends conn) → own.link.later ≡ None
      → ((k : ℕ) → new k ≡ cond (slot == k) (Some own)
      (cond (is_the own.link.earlier k) (option_map (leads_to (Some slot)) (kept k)) (kept k)))
      → ((c : ℕ) → ends_at new_ends c ≡ cond (conn == c) (Some (with_last own.request.origin.request slot (ends_at ends conn))) (ends_at ends c))
      → list_any (λ r. slot == r) (order conn) ≡ false
      → AreChained (λ c k. link_of c (new k)) new_ends (order_with conn slot order)
  kept_with conn slot own its empty is_earlier is_later written at_ends fresh =
      chained_with (λ c k. link_of c (kept k)) (λ c k. link_of c (new k)) ends new_ends order conn slot own.link.earlier (with_last own.request.origin.request slot (ends_at ends conn)) is_earlier
      (firsts (ends_at ends conn)) (lasts (ends_at ends conn)) (λ c k. links c k (conn == c) refl) at_ends fresh chained
    where
      firsts : (e : Option Ends) → (with_last own.request.origin.request slot e).first ≡ unwrap_or (option_map (λ (x : Ends). x.first) e) slot
      firsts None = refl
      firsts (Some e) = refl

      lasts : (e : Option Ends) → (with_last own.request.origin.request slot e).last ≡ slot
      lasts None = refl
      lasts (Some e) = refl

      owner : own.request.origin.conn ≡ conn
      owner = eqb-true own.request.origin.conn conn its

      apart_from : (c k : ℕ) → (conn == c) ≡ false → (b : Bool) → (slot == k) ≡ b
          → cond b (link_of c (Some own)) (link_of c (kept k)) ≡ link_of c (kept k)
      apart_from c k other false at = refl
      apart_from c k other true at =
          ap (λ d. cond d (Some own.link) None) (ap (λ n. n == c) owner ∙ other)
          ∙ ap (link_of c) (sym empty ∙ ap kept (eqb-true slot k at))

      links : (c k : ℕ) (a : Bool) → (conn == c) ≡ a
          → link_of c (new k)
          ≡ cond (a && (slot == k)) (Some (record { earlier = own.link.earlier; later = None }))
          (cond (a && is_the own.link.earlier k) (option_map (with_later (Some slot)) (link_of c (kept k))) (link_of c (kept k)))
      links c k true is =
          ap (link_of c) (written k)
          ∙ either-of c (slot == k) (Some own) (cond (is_the own.link.earlier k) (option_map (leads_to (Some slot)) (kept k)) (kept k))
          ∙ (λ i. cond (slot == k) (cond (((λ j. owner j == c) ∙ is) i) (Some (record { earlier = own.link.earlier; later = is_later i })) None)
          ((either-of c (is_the own.link.earlier k) (option_map (leads_to (Some slot)) (kept k)) (kept k) ∙ ap (λ l. cond (is_the own.link.earlier k) l (link_of c (kept k))) (later-of c (Some slot) (kept k))) i))
      links c k false is =
          ap (link_of c) (written k)
          ∙ either-of c (slot == k) (Some own) (cond (is_the own.link.earlier k) (option_map (leads_to (Some slot)) (kept k)) (kept k))
          ∙ ap (cond (slot == k) (link_of c (Some own)))
          (either-of c (is_the own.link.earlier k) (option_map (leads_to (Some slot)) (kept k)) (kept k)
          ∙ ap (λ l. cond (is_the own.link.earlier k) l (link_of c (kept k))) (later-of c (Some slot) (kept k))
          ∙ written-apart conn c k (kept k) own.link.earlier (with_later (Some slot)) is (λ none. ap (λ o. is_the o k) (is_earlier ∙ chained.last conn) ∙ no_last conn k none))
          ∙ apart_from c k is (slot == k) refl

  pub kept_without : (slot : ℕ) (own : LinkedRequest) → kept slot ≡ Some own
      → ((k : ℕ) → new k
      ≡ cond (is_the own.link.later k)
      (option_map (follows_on own.link.earlier) (cond (is_the own.link.earlier k) (option_map (leads_to own.link.later) (cond (slot == k) None (kept k))) (cond (slot == k) None (kept k))))
      (cond (is_the own.link.earlier k) (option_map (leads_to own.link.later) (cond (slot == k) None (kept k))) (cond (slot == k) None (kept k))))
      → ((c : ℕ) → option_map (λ e. e.first) (ends_at new_ends c)
      ≡ cond ((own.request.origin.conn == c) && not (is_some own.link.earlier)) own.link.later (option_map (λ e. e.first) (ends_at ends c)))
      → ((c : ℕ) → option_map (λ e. e.last) (ends_at new_ends c)
      ≡ cond ((own.request.origin.conn == c) && not (is_some own.link.later)) own.link.earlier (option_map (λ e. e.last) (ends_at ends c)))
      → AreChained (λ c k. link_of c (new k)) new_ends (order_without slot order)
  kept_without slot own there written is_first is_last =
      subst (AreChained (λ c k. link_of c (new k)) new_ends) (λ i c. alike c (conn == c) refl i)
      (own_chained_without (λ c k. link_of c (kept k)) (λ c k. link_of c (new k)) ends new_ends order conn slot own.link here (λ c k. links c k (conn == c) refl) is_first is_last chained)
    where
      conn : ℕ
      conn = own.request.origin.conn

      here : link_of conn (kept slot) ≡ Some own.link
      here = ap (link_of conn) there ∙ ap (λ b. cond b (Some own.link) None) (eq-eqb conn conn refl)

      elsewhere : (c : ℕ) → (conn == c) ≡ false → link_of c (kept slot) ≡ None
      elsewhere c other = one-owner conn c (kept slot) own.link other here

      alike : (c : ℕ) (a : Bool) → (conn == c) ≡ a
          → cond a (filter (λ r. not (slot == r)) (order c)) (order c) ≡ filter (λ r. not (slot == r)) (order c)
      alike c true is = refl
      alike c false is = not_own (λ d k. link_of d (kept k)) ends order c slot chained (elsewhere c is)

      left : ℕ → Option LinkedRequest
      left k = cond (slot == k) None (kept k)

      led : ℕ → Option LinkedRequest
      led k = cond (is_the own.link.earlier k) (option_map (leads_to own.link.later) (left k)) (left k)

      left_of : (c k : ℕ) → link_of c (left k) ≡ cond (slot == k) None (link_of c (kept k))
      left_of c k = either-of c (slot == k) None (kept k)

      led_of : (c k : ℕ) → link_of c (led k)
          ≡ cond (is_the own.link.earlier k) (option_map (with_later own.link.later) (link_of c (left k))) (link_of c (left k))
      led_of c k =
          either-of c (is_the own.link.earlier k) (option_map (leads_to own.link.later) (left k)) (left k)
          ∙ ap (λ l. cond (is_the own.link.earlier k) l (link_of c (left k))) (later-of c own.link.later (left k))

      new_of : (c k : ℕ) → link_of c (new k)
          ≡ cond (is_the own.link.later k) (option_map (with_earlier own.link.earlier) (link_of c (led k))) (link_of c (led k))
      new_of c k =
          ap (link_of c) (written k)
          ∙ either-of c (is_the own.link.later k) (option_map (follows_on own.link.earlier) (led k)) (led k)
          ∙ ap (λ l. cond (is_the own.link.later k) l (link_of c (led k))) (earlier-of c own.link.earlier (led k))

      left_same : (c k : ℕ) → (conn == c) ≡ false → (b : Bool) → (slot == k) ≡ b
          → cond b None (link_of c (kept k)) ≡ link_of c (kept k)
      left_same c k other false at = refl
      left_same c k other true at = sym (elsewhere c other) ∙ ap (λ n. link_of c (kept n)) (eqb-true slot k at)

      links : (c k : ℕ) (a : Bool) → (conn == c) ≡ a
          → link_of c (new k)
          ≡ cond (a && is_the own.link.later k)
          (option_map (with_earlier own.link.earlier) (cond (a && is_the own.link.earlier k)
          (option_map (with_later own.link.later) (cond (a && (slot == k)) None (link_of c (kept k))))
          (cond (a && (slot == k)) None (link_of c (kept k)))))
          (cond (a && is_the own.link.earlier k)
          (option_map (with_later own.link.later) (cond (a && (slot == k)) None (link_of c (kept k))))
          (cond (a && (slot == k)) None (link_of c (kept k))))
      links c k true is =
          let last : link_of c (led k) ≡ cond (is_the own.link.earlier k) (option_map (with_later own.link.later) (cond (slot == k) None (link_of c (kept k)))) (cond (slot == k) None (link_of c (kept k))) =
          led_of c k ∙ ap (λ l. cond (is_the own.link.earlier k) (option_map (with_later own.link.later) l) l) (left_of c k) in
          new_of c k ∙ ap (λ l. cond (is_the own.link.later k) (option_map (with_earlier own.link.earlier) l) l) last
      links c k false is =
          let first : link_of c (left k) ≡ link_of c (kept k) = left_of c k ∙ left_same c k is (slot == k) refl in
          let last : link_of c (led k) ≡ link_of c (kept k) =
          led_of c k ∙ ap (λ l. cond (is_the own.link.earlier k) (option_map (with_later own.link.later) l) l) first
          ∙ written-apart conn c k (kept k) own.link.earlier (with_later own.link.later) is (no_earlier conn slot k own.link here) in
          new_of c k ∙ ap (λ l. cond (is_the own.link.later k) (option_map (with_earlier own.link.earlier) l) l) last
          ∙ written-apart conn c k (kept k) own.link.later (with_earlier own.link.earlier) is (no_later conn slot k own.link here)

  -- what stands in the order is kept, and is the connection's
  pub own_there : (conn i slot : ℕ) → slice_get (order conn) i ≡ Some slot → link_of conn (kept slot) ≡ None → ⊥
  own_there conn i slot at none =
      apart (sym (among_at (order conn) i slot slot at (not_in None (order conn) slot (sym (chained.linked conn slot) ∙ none))) ∙ eq-eqb slot slot refl)

  -- and it leads to what stands behind it
  pub later_there : (conn i slot : ℕ) (k : LinkedRequest) → kept slot ≡ Some k → slice_get (order conn) i ≡ Some slot
      → k.link.later ≡ slice_get (order conn) (suc i)
  later_there conn i slot k there at = by (is_of conn k.request) refl
    where
      by : (a : Bool) → is_of conn k.request ≡ a → k.link.later ≡ slice_get (order conn) (suc i)
      by true is =
          sym (ap (λ b. option_and_then (λ (l : RequestLinks). l.later) (cond b (Some k.link) None)) is)
          ∙ ap (λ x. option_and_then (λ (l : RequestLinks). l.later) (link_of conn x)) (sym there)
          ∙ ap (option_and_then (λ (l : RequestLinks). l.later)) (chained.linked conn slot)
          ∙ later_at None (order conn) i slot (chained.once conn) at
      by false is = absurd (own_there conn i slot at (ap (link_of conn) there ∙ ap (λ b. cond b (Some k.link) None) is))

  -- a request that is kept is its connection's, which has ends
  pub kept_ends : (slot : ℕ) (own : LinkedRequest) → kept slot ≡ Some own → IsSome (ends_at ends own.request.origin.conn)
  kept_ends slot own there =
      let conn : ℕ = own.request.origin.conn in
      has_ends (λ c k. link_of c (kept k)) ends order conn slot own.link
      (ap (link_of conn) there ∙ ap (λ b. cond b (Some own.link) None) (eq-eqb conn conn refl)) chained
