-- Requests that are admitted one after the other, and one that is refused.
use Rattle.std.proofs.Common.{arith, ◌≡◌, ◌≢◌, ◌<◌, ◌≤◌, ◌+◌, ℕ, zero, suc, Bool, true, false, true≢false, ◌⊎◌, nat_lt, List, [], ◌∷◌, ◌++◌, Some, None, Result, Ok, Err, IfErr, IsErrAnd, inl, inr, length, get_or, refl, sym, ap, subst, ◌∙◌}
use Rattle.std.specs.Prelude.{slice_set, if◌then◌else◌}
use Rattle.std.specs.List.{slice_get}
use Rattle.std.specs.Option.{option_and_then}
use Rattle.fwd_match.specs.Patterns.{route}
use Rattle.std.proofs.lemmas.Bool.Decides.{nat_tests}
use Rattle.fwd_book.specs.declared.refusal.AdmitRefusal.TheVariants as refusal
use Rattle.fwd_modes.specs.Requests.{Request}
use Rattle.fwd_modes.specs.declared.origin.Origin.{Origin}
use Rattle.fwd_book.specs.declared.refusal.AdmitRefusal.{AdmitRefusal}
use Rattle.fwd_peers.specs.Peers.{PeerShown, Gives, GivesInVain, end_by, first_route, sized}
use Rattle.fwd_peers.specs.declared.peer_state.PeerState.TheVariants as stage
use Rattle.fwd_peers.specs.declared.close_reason.CloseReason.{CloseReason}
use Rattle.fwd_peers.specs.declared.close_reason.CloseReason.TheVariants as close_reason
use Rattle.fwd_reader.specs.declared.open_tickets.OpenTickets.{OpenTickets}
use Rattle.fwd_reader.specs.declared.output_route.OutputRoute.{OutputRoute}
use Rattle.fwd_reader.specs.Admissions.{Admits, AdmitsAll, AdmitsAndRefuses, AdmitsAndWaits, AdmitsEach, IsDeclined, IsTurnedAway, Refuses}
use Rattle.fwd_reader.specs.OpenTickets.{AreAllSame, AreSame}
use Rattle.fwd_reader.specs.Routers.{RouterShown, stores_of}
use Rattle.fwd_reader.specs.Stores.{IsSame, Stored}

-- a store is as it is
same_store : (s : Stored) → IsSame s s
same_store s = record {
  held = record { waits = λ chunk. refl; due = refl; late = refl };
  late_due = refl;
  all_due = refl;
}

-- the tickets of each output are as they are
pub all_same : (ss : List OpenTickets) → AreAllSame ss ss
all_same [] = tt
all_same (s ∷ ss) = ((same_store s.few, same_store s.many), all_same ss)

-- and where those of one are as they were
pub same_at : {J : Type 0} (xs : List (OutputRoute J)) (n : ℕ) (x y : OutputRoute J) → n < length xs
    → x ≡ get_or xs n x → AreSame x.open_tickets y.open_tickets
    → AreAllSame (stores_of xs) (stores_of (slice_set xs n y))
same_at [] n x y lt is same = absurd (omega arith)
same_at (z ∷ zs) zero x y lt is same =
    (subst (λ o. AreSame o.open_tickets y.open_tickets) is same, all_same (stores_of zs))
same_at (z ∷ zs) (suc n) x y lt is same = (
  (same_store z.open_tickets.few, same_store z.open_tickets.many),
  same_at zs n x y (omega arith) is same,
)

-- no output stands at a place behind all
pub none_there : {J : Type 0} (xs : List (OutputRoute J)) (n : ℕ) → length xs ≤ n
    → slice_get (stores_of xs) n ≡ None
none_there [] n le = refl
none_there (x ∷ xs) zero le = absurd (omega arith)
none_there (x ∷ xs) (suc n) le = none_there xs n (omega arith)

-- one more request is admitted
pub another : (asked : List (Origin × Request)) (o between p : RouterShown) (s u t : PeerShown)
    → AdmitsAll asked o s between u → (one : Admits between u p t)
    → AdmitsAll (asked ++ one.asked ∷ []) o s p t
another [] o between p s u t none one =
    let here : (a : Admits o s p t) × (a.asked ≡ one.asked) =
    subst (λ x. (a : Admits x s p t) × (a.asked ≡ one.asked)) none.0
    (subst (λ x. (a : Admits between x p t) × (a.asked ≡ one.asked)) none.1 (one, refl)) in
    (p, (t, (here.0, (here.1, (refl, refl)))))
another (a ∷ others) o between p s u t some one = (
  some.0,
  (
    some.1.0,
    (
      some.1.1.0,
      (
        some.1.1.1.0,
        another others some.0 between p some.1.0 u t some.1.1.1.1 one,
      ),
    ),
  ),
)

-- a source that gives a request has one fewer that waits
fewer : (s t : PeerShown) (asked : Origin × Request) (waiting : List Request)
    → Gives (record s { live = record s.live { waiting = waiting } }) (Some asked) t
    → length t.live.waiting + 1 ≡ length waiting
fewer s t asked [] gives = absurd (none_some gives.0)
  where
    none_some : None ≡ Some asked → ⊥
    none_some e = absurd cc
fewer s t asked (r ∷ rs) gives =
    let left : length t.live.waiting ≡ length rs = ap (λ p. length p.live.waiting) gives.2 in
    omega (arith, left)

pub one_fewer : (s t : PeerShown) (asked : Origin × Request) → Gives s (Some asked) t
    → length t.live.waiting + 1 ≡ length s.live.waiting
one_fewer s t asked gives = fewer s t asked s.live.waiting gives

-- a request that is no larger than what its output may hold is not told to be
pub sized_same : (why : CloseReason) (bytes : ℕ) → why ≡ sized why bytes bytes
sized_same (close_reason.Fault fault) bytes = refl
sized_same (close_reason.Refused output refusal.Memory) bytes = refl
sized_same (close_reason.Refused output refusal.NotNow) bytes = refl
sized_same (close_reason.Refused output refusal.Full) bytes =
    let none : nat_lt bytes bytes ≡ false = grind (arith, nat_tests) in
    ap (λ b. if b then close_reason.TooLarge output bytes bytes
    else close_reason.Refused output refusal.Full) (sym none)
sized_same (close_reason.Refused output refusal.NumbersSpent) bytes = refl
sized_same (close_reason.TooLarge output size limit) bytes = refl
sized_same close_reason.NoRoute bytes = refl
sized_same close_reason.NoLogin bytes = refl
sized_same close_reason.Idle bytes = refl

-- what is not below is not less
pub past : (n count : ℕ) → (n < count → false ≡ true) → count ≤ n
past n count not_below = by (nat_lt n count) refl
  where
    by : (b : Bool) → nat_lt n count ≡ b → count ≤ n
    by true e = absurd (true≢false (sym (not_below (grind (arith, nat_tests)))))
    by false e = grind (arith, nat_tests)

-- a list of no length has no item
no_items : (requests : List Request) → length requests ≡ 0 → requests ≡ []
no_items [] none = refl
no_items (r ∷ rs) none = absurd (omega (arith, none))

-- of the requests of a source some were admitted, and one has to wait
pub has_to_wait : (o now next : RouterShown) (s u t : PeerShown) → now.routes ≡ o.routes
    → ((asked : List (Origin × Request)) × AdmitsAll asked o s now u)
    → (next ≡ now) × (t ≡ u)
    → ((number : ℕ) × (first_route now.routes u ≡ Some number))
    → AdmitsAndWaits o s next t
has_to_wait o now next s u t same some stays named = record {
  asked = some.0;
  admitted = subst (λ (x : RouterShown). AdmitsAll some.0 o s x t) (sym stays.0)
      (subst (λ x. AdmitsAll some.0 o s now x) (sym stays.1) some.1);
  number = named.0;
  named = subst (λ x. first_route o.routes x ≡ Some named.0) (sym stays.1)
      (subst (λ r. first_route r u ≡ Some named.0) same named.1);
}

-- or one is refused
pub is_refused : (o now next : RouterShown) (s u v t : PeerShown) (why told : CloseReason)
    (bytes : ℕ)
    → ((asked : List (Origin × Request)) × AdmitsAll asked o s now u)
    → Refuses now u why next v
    → ((limit : ℕ) × (told ≡ sized why bytes limit))
    → t ≡ record v { stage = stage.Over; why = Some (end_by told) }
    → u.live.waiting ≢ []
    → AdmitsAndRefuses o s next t
is_refused o now next s u v t why told bytes some refuses limit ends waits = record {
  asked = some.0;
  between = now;
  before = u;
  admitted = some.1;
  waits = waits;
  why = why;
  refused = v;
  refuses = refuses;
  ended = (
    bytes,
    (
      limit.0,
      ends
          ∙ ap (λ w. record v { stage = stage.Over; why = Some (end_by w) }) limit.1,
    ),
  );
}

-- or none is left
pub none_left : (o now : RouterShown) (s u : PeerShown)
    → ((asked : List (Origin × Request)) × AdmitsAll asked o s now u)
    → length u.live.waiting ≡ 0 → AdmitsEach o s now u
none_left o now s u some count = record {
  asked = some.0;
  admitted = some.1;
  none = no_items u.live.waiting count;
}

-- where some are counted, there are some
pub some_wait : (u : PeerShown) (i count : ℕ) → i + length u.live.waiting ≡ count → i < count
    → u.live.waiting ≢ []
some_wait u i count all lt none = absurd (omega (arith, ap length none))

-- no output is named for the first request that waits: nothing changes
pub no_route : (o : RouterShown) (s : PeerShown)
    → None ≡ first_route o.routes s → Refuses o s close_reason.NoRoute o s
no_route o s none = record {
  reason = inl (sym none, refl, refl);
  same = all_same o.stores;
  owed = refl;
}

-- it stays, or was given in vain
pub turned_away : (s t : PeerShown) (reason : AdmitRefusal)
    → ((reason ≡ refusal.Memory) × Gives s None t) ⊎ ((asked : Origin × Request) × GivesInVain s asked t)
    → IsTurnedAway s reason t
turned_away s t reason (inl waits) = inl waits
turned_away s t reason (inr vain) = inr (vain.0, inl vain.1)

-- its output does not take it
pub declined : (o p : RouterShown) (s t : PeerShown) (number : ℕ) (why : CloseReason)
    → Some number ≡ first_route o.routes s → IsDeclined o.stores number s why t
    → AreAllSame o.stores p.stores → p.owed ≡ o.owed → Refuses o s why p t
declined o p s t number why named is same owed = record {
  reason = inr (number, (sym named, is));
  same = same;
  owed = owed;
}

-- what holds of an error holds of a result that is just that
pub returned : {X E : Type 0} (r : Result X E) (e : E) (P : E → Type 0)
    → IsErrAnd r (λ other. other ≡ e) → P e → IfErr r P
returned (Ok x) e P none holds = tt
returned (Err other) e P same holds = subst P (sym same) holds
