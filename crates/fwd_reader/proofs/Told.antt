-- Receipts that are told in several parts.
use Rattle.std.proofs.Common.{arith, ◌≡◌, ◌∙◌, ◌≤◌, ◌<◌, ◌+◌, ◌⊎◌, ℕ, zero, suc, true, get_or, take, Option, Some, None, Result, Ok, Err, OnErr, List, [], ◌∷◌, ◌++◌, length, refl, sym, ap, subst, append_assoc}
use Rattle.std.specs.Prelude.{All, Contains, is_some}
use Rattle.std.proofs.lemmas.List.Elements.{All-append, All-cons, All-nil, All-weaker}
use Rattle.fwd_history.specs.Histories.{Comes}
use Rattle.fwd_book.specs.Receipts.{Receipt}
use Rattle.fwd_run.specs.Runs.{RunEvent}
use Rattle.fwd_output.specs.PagedSources.{WasDelivered}
use Rattle.fwd_peers.specs.Peers.{PeerShown}
use Rattle.fwd_reader.specs.declared.open_tickets.OpenTickets.{OpenTickets}
use Rattle.fwd_reader.specs.Collections.{AreGiven, AreHandedIn, Collects, CollectsBy, CollectsWhole}
use Rattle.fwd_reader.specs.OpenTickets.{AreQuiet}
use Rattle.fwd_reader.specs.Promises.{HoldsRouted, IsDeliveredTo, IsPromised, TellsPromised}
use Rattle.fwd_reader.specs.Tellings.{AreTold, IsToldAt, IsToldOf, Sources}
use Rattle.fwd_reader.proofs.Routed.{AreDelivered, open_tickets_promised}

-- who is told of some, and then of others, is told of all
told_append : (s u t : Sources) (rs qs : List Receipt) → AreTold s rs u → AreTold u qs t
    → AreTold s (rs ++ qs) t
told_append s u t [] qs told rest = subst (λ x. AreTold x qs t) told rest
told_append s u t (r ∷ rs) qs told rest =
    (told.0, (told.1.0, told_append told.0 u t rs qs told.1.1 rest))

-- a history that did not go on
pub no_further : (past : List RunEvent) → Comes past past
no_further past = ([], refl)

-- one that went on, and then further
pub further : (old mid past : List RunEvent) → Comes old mid → Comes mid past → Comes old past
further old mid past first more = (
  more.0 ++ first.0,
  append_assoc more.0 first.0 old ∙ ap (λ l. more.0 ++ l) first.1 ∙ more.1,
)

-- nobody is told of anything
pub nothing : (routes : List (List (List ℕ))) (past : List RunEvent) (s : Sources)
    → TellsPromised routes past s s
nothing routes past s = record {
  receipts = [];
  told = refl;
  promised = All-nil (IsPromised routes past s);
}

-- receipts that an output gave are told
pub one_told : (routes : List (List (List ℕ))) (past before : List RunEvent) (s t : Sources)
    (receipts : List Receipt) (held after : OpenTickets) → AreDelivered past before s receipts
    → AreHandedIn held receipts after → AreGiven before held receipts → HoldsRouted routes held
    → AreTold s receipts t → TellsPromised routes past s t
one_told routes past before s t receipts held after delivered is given routed told = record {
  receipts = receipts;
  told = told;
  promised = open_tickets_promised routes past before s held after receipts delivered is given routed;
}

-- what was delivered in a history was delivered in one that went on
pub delivered_on : (old past : List RunEvent) (output : ℕ) (r : Receipt) → Comes old past
    → WasDelivered old output r → WasDelivered past output r
delivered_on old past output r onward is = record {
  before = is.before;
  begins = further is.before old past is.begins onward;
  config = is.config;
  set = is.set;
  is = is.is;
}

-- what is promised in a history, where some sources stand, is promised in one that went on, where no
-- others do
pub still : (routes : List (List (List ℕ))) (old past : List RunEvent) (s u : Sources) (r : Receipt)
    → Comes old past → (is_some (u r.origin.conn) ≡ true → is_some (s r.origin.conn) ≡ true)
    → IsPromised routes old s r → IsPromised routes past u r
still routes old past s u r onward stands is = record {
  setting = is.setting;
  routed = is.routed;
  right = is.right;
  delivered = λ there. delivered_on old past is.setting.output r onward (is.delivered (stands there));
}

-- the first of a list, and one more
take_more : (rs : List Receipt) (i : ℕ) (r : Receipt) → i < length rs → r ≡ get_or rs i r → take (i + 1) rs ≡ take i rs ++ r ∷ []
take_more [] i r within is = absurd (omega (arith, within))
take_more (q ∷ rs) zero r within is = ap (λ x. x ∷ []) (sym is)
take_more (q ∷ rs) (suc i) r within is =
    let same : suc i + 1 ≡ suc (i + 1) = omega arith in
    ap (λ n. take n (q ∷ rs)) same ∙ ap (λ l. q ∷ l) (take_more rs i r (omega (arith, within)) is)

take_all : (rs : List Receipt) (i : ℕ) → length rs ≤ i → take i rs ≡ rs
take_all [] zero over = refl
take_all [] (suc i) over = refl
take_all (q ∷ rs) zero over = absurd (omega (arith, over))
take_all (q ∷ rs) (suc i) over = ap (λ l. q ∷ l) (take_all rs i (omega (arith, over)))

contains_at : (rs : List Receipt) (i : ℕ) (r : Receipt) → i < length rs → r ≡ get_or rs i r → Contains rs r
contains_at rs i r within is = (i, within, sym is)

-- whoever is told stands, and nobody else
stands_at : (id : ℕ) (r : Receipt) (s t : Option PeerShown) → IsToldAt id r s t → is_some t ≡ is_some s
stands_at id r None t told = ap is_some told
stands_at id r (Some s) t told = ap is_some told.1.0

pub stand : (s t : Sources) (rs : List Receipt) (id : ℕ) → AreTold s rs t → is_some (t id) ≡ is_some (s id)
stand s t [] id told = ap (λ (x : Sources). is_some (x id)) told
stand s t (r ∷ rs) id told =
    stand told.0 t rs id told.1.1 ∙ stands_at id r (s id) (told.0 id) (told.1.0 id)

pub stands_still : (id : ℕ) (r : Receipt) (s t : Sources) → IsToldOf s r t → is_some (t id) ≡ is_some (s id)
stands_still id r s t told = stands_at id r (s id) (t id) (told id)

-- of no receipt the request has to be delivered
pub none_delivered : (past : List RunEvent) (output : ℕ) (s : Sources) → All (IsDeliveredTo past output s) []
none_delivered past output s = All-nil (IsDeliveredTo past output s)

-- of one receipt more it was
pub one_delivered : (old past : List RunEvent) (output : ℕ) (s : Sources) (rs : List Receipt) (i : ℕ) (r : Receipt)
    → i < length rs → r ≡ get_or rs i r → All (IsDeliveredTo old output s) (take i rs) → Comes old past
    → (Contains rs r → IsDeliveredTo past output s r) → All (IsDeliveredTo past output s) (take (i + 1) rs)
one_delivered old past output s rs i r within is before onward one =
    subst (All (IsDeliveredTo past output s)) (sym (take_more rs i r within is))
    (All-append (IsDeliveredTo past output s) (take i rs) (r ∷ [])
    (All-weaker (IsDeliveredTo old output s) (IsDeliveredTo past output s)
    (λ q delivered there. delivered_on old past output q onward (delivered there)) (take i rs) before)
    (All-cons (IsDeliveredTo past output s) r [] (one (contains_at rs i r within is)) (All-nil (IsDeliveredTo past output s))))

-- at the end of all it was
pub all_delivered : (past : List RunEvent) (output : ℕ) (s : Sources) (rs : List Receipt) (i : ℕ) → length rs ≤ i
    → All (IsDeliveredTo past output s) (take i rs) → All (IsDeliveredTo past output s) rs
all_delivered past output s rs i over all = subst (All (IsDeliveredTo past output s)) (take_all rs i over) all

-- what is told as promised, and then more so, is told as promised
pub on : (routes : List (List (List ℕ))) (old past : List RunEvent) (s u t : Sources)
    → TellsPromised routes old s u → Comes old past → TellsPromised routes past u t
    → TellsPromised routes past s t
on routes old past s u t first onward more = record {
  receipts = first.receipts ++ more.receipts;
  told = told_append s u t first.receipts more.receipts first.told more.told;
  promised = All-append (IsPromised routes past s) first.receipts more.receipts
      (All-weaker (IsPromised routes old s) (IsPromised routes past s)
      (λ r is. still routes old past s s r onward (λ there. there) is) first.receipts first.promised)
      (All-weaker (IsPromised routes past u) (IsPromised routes past s)
      (λ r is. still routes past past u s r (no_further past)
      (λ there. stand s u first.receipts r.origin.conn first.told ∙ there) is) more.receipts more.promised);
}

-- what is collected in just so many rounds
abbrev pub CollectsIn : (count : ℕ) → OpenTickets → Sources → OpenTickets → Sources → Type 0
CollectsIn count s told t told_then =
    (rounds : List (List Receipt)) × (CollectsBy rounds s told t told_then
    × (length rounds ≡ count))

-- no round changes nothing
pub no_round : (s : OpenTickets) (told : Sources) → CollectsIn 0 s told s told
no_round s told = ([], ((refl, refl), refl))

-- a round, and then others
pub a_round : (s u t : OpenTickets) (told between then_told : Sources) (receipts : List Receipt)
    (more : ℕ) → AreHandedIn s receipts u → ¬ (AreQuiet s) → AreTold told receipts between
    → CollectsIn more u between t then_told → CollectsIn (suc more) s told t then_told
a_round s u t told between then_told receipts more given due one others = (
  receipts ∷ others.0,
  ((u, (between, (given, one, others.1.0, due))), ap suc others.1.1),
)

-- what is collected so is collected in some rounds
pub collected : (count : ℕ) (s t : OpenTickets) (told then_told : Sources)
    → CollectsIn count s told t then_told → Collects s told t then_told
collected count s t told then_told some = (some.0, some.1.0)

-- and in so many at most, where nothing is left behind them, or there are as many
pub whole : (most count : ℕ) (s t : OpenTickets) (told then_told : Sources)
    → CollectsIn count s told t then_told → count ≤ most → AreQuiet t ⊎ (count ≡ most)
    → CollectsWhole most s told t then_told
whole most count s t told then_told some le end = record {
  rounds = some.0;
  each = some.1.0;
  within = subst (λ n. n ≤ most) (sym some.1.1) le;
  whole = subst (λ n. AreQuiet t ⊎ (n ≡ most)) (sym some.1.1) end;
}

-- what holds holds where a result is an error
pub on_err : {X Y : Type 0} {P : Type 0} (r : Result X Y) → P → OnErr r P
on_err (Ok x) holds = tt
on_err (Err e) holds = holds
