-- The order in which a worker tries the servers names servers
-- of the file, and what is kept answers for each of them.
use Rattle.std.proofs.Common.{◌≡◌, ℕ, ◌+◌, ◌%◌, ◌^◌, ◌<◌, Bool, true, false, cond, List, [], ◌∷◌, length, take, drop, Option, Some, refl, sym, ap, ◌∙◌, arith}
use Rattle.std.proofs.Math.ListN.{get_or}
use Rattle.std.specs.Prelude.{find, nat_le, IfSome}
use Rattle.std.specs.Bool.{beq}
use Rattle.std.specs.List.{All, AllByRecursion, enumerate_from}
use Rattle.std.proofs.lemmas.List.FromFn.{length-enumerate_from, get_or-enumerate_from}
use Rattle.std.proofs.lemmas.List.Elements.{All-append, All-take, All-drop, All-filter, All-map, recursion_from_All}
use Rattle.fwd_failover.specs.History.{ServersSetting, ServersHistory, losses_of}
use Rattle.fwd_failover.specs.Choices.{places, primaries, standbys, round_from, order_of, is_usable, choice}
use Rattle.fwd_failover.specs.Live.{LiveServers, live_servers, is_live_usable, live_choice}
use Rattle.fwd_base.specs.Tallies.{tally_of, live_is_over}
use Rattle.fwd_failover.proofs.Kept.{kept_at, over_kept}

-- ---- the numbers in an order are those of servers

numbers_within : (flags : List Bool) → All (λ p. p.0 < length flags) (enumerate_from 0 flags)
numbers_within flags k d lt =
    let inside : k < length flags = omega (arith, length-enumerate_from 0 flags) in
    let at : (get_or (enumerate_from 0 flags) k d).0 ≡ 0 + k = ap (λ (p : ℕ × Bool). p.0) (get_or-enumerate_from 0 flags k d inside) in
    omega (arith, at)

pub places_within : (kind : Bool) (flags : List Bool)
    → All (λ n. n < length flags) (places kind flags)
places_within kind flags =
    All-map (λ n. n < length flags) (λ (p : ℕ × Bool). p.0) _ (All-filter (λ (p : ℕ × Bool). beq p.1 kind) (λ p. p.0 < length flags) (enumerate_from 0 flags) (numbers_within flags))

pub order_within : (n : ℕ) (first second : List ℕ) (worker : ℕ) → All (λ k. k < n) first
    → All (λ k. k < n) second → All (λ k. k < n) (order_of first second worker)
order_within n first second worker one two =
    let P : ℕ → Type 0 = λ k. k < n in
    let place = worker % length first in
    All-append P (round_from place first) second (All-append P (drop place first) (take place first) (All-drop P place first one) (All-take P place first one)) two

-- ---- tests that agree on a list find the same there

find-alike : {X : Type 0} (p q : X → Bool) (xs : List X) → AllByRecursion (λ x. p x ≡ q x) xs
    → find p xs ≡ find q xs
find-alike p q [] h = refl
find-alike p q (x ∷ xs) h =
    ap (λ b. cond b (Some x) (find p xs)) h.0 ∙ ap (cond (q x) (Some x)) (find-alike p q xs h.1)

-- what is found has what all have
some_of : (P : ℕ → Type 0) (k : ℕ) (b : Bool) (o : Option ℕ) → P k → IfSome o P
    → IfSome (cond b (Some k) o) P
some_of P k true o here rest = here
some_of P k false o here rest = rest

find_has : (P : ℕ → Type 0) (test : ℕ → Bool) (xs : List ℕ) → AllByRecursion P xs
    → IfSome (find test xs) P
find_has P test [] all = tt
find_has P test (x ∷ xs) all = some_of P x (test x) (find test xs) all.0 (find_has P test xs all.1)

pub choice_within : (n : ℕ) (l : LiveServers) (worker moment : ℕ)
    → All (λ k. k < n) l.primaries → All (λ k. k < n) l.standbys
    → IfSome (live_choice l worker moment) (λ k. k < n)
choice_within n l worker moment one two =
    let order = order_of l.primaries l.standbys worker in
    find_has (λ k. k < n) (is_live_usable l moment) order (recursion_from_All (λ k. k < n) order (order_within n l.primaries l.standbys worker one two))

-- ---- what is kept of a server's losses is enough

usable_kept : (s : ServersSetting) (h : ServersHistory) (moment server : ℕ)
    → s.retry_max < 2 ^ 64 → server < length s.standby
    → is_usable s h.happened moment server ≡ is_live_usable (live_servers s h) moment server
unfolding live_servers
usable_kept s h moment server fits lt =
    over_kept s (losses_of s server h.happened) moment fits
    ∙ ap (λ t. live_is_over s.retry_wait s.retry_max t moment) (sym (kept_at s h server lt))

pub choice_kept : (s : ServersSetting) (h : ServersHistory) (worker moment : ℕ)
    → s.retry_max < 2 ^ 64
    → choice s h.happened worker moment ≡ live_choice (live_servers s h) worker moment
unfolding live_servers
choice_kept s h worker moment fits =
    let order = order_of (primaries s) (standbys s) worker in
    let known : All (λ n. n < length s.standby) order = order_within (length s.standby) (primaries s) (standbys s) worker (places_within false s.standby) (places_within true s.standby) in
    find-alike (is_usable s h.happened moment) (is_live_usable (live_servers s h) moment) order (recursion_from_All (λ n. is_usable s h.happened moment n ≡ is_live_usable (live_servers s h) moment n) order (λ k d lt. usable_kept s h moment (get_or order k d) fits (known k d lt)))
