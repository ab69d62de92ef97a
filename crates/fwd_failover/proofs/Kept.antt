-- What is kept of a history says the same as the history, and goes on as it does.
use Rattle.std.proofs.Common.{◌≡◌, ℕ, ◌+◌, ◌^◌, ◌<◌, ◌≢◌, Bool, true, false, List, [], ◌∷◌, length, min, max, Some, None, refl, sym, ap, ◌∙◌, inl, inr, zero-add, arith}
use Rattle.std.proofs.Math.ListN.{get_or, set, replicate}
use Rattle.std.specs.Prelude.{map, nat_le, nat_lt, ◌==◌, if◌then◌else◌}
use Rattle.std.specs.List.{enumerate_from}
use Rattle.std.proofs.lemmas.Bool.{cases_eq, ltb-true}
use Rattle.std.proofs.lemmas.Bool.Decides.{nat_tests}
use Rattle.std.proofs.lemmas.List.{same_lists, get_or-map, length-map, length-set, get_or-set_same, get_or-set_other}
use Rattle.std.proofs.lemmas.List.FromFn.{length-enumerate_from, get_or-enumerate_from}
use Rattle.fwd_failover.specs.History.{ServersSetting, Happening, Lost, Settled, ServersHistory, opening, looked, lost, settled, is_over, with_loss, losses_of}
use Rattle.fwd_failover.specs.Choices.{primaries, standbys}
use Rattle.fwd_failover.specs.Live.{LiveServers, live_servers, with_losses, live_with_loss, live_looked, live_lost, live_settled}
use Rattle.fwd_base.specs.Tallies.{tally_of, tally_more, live_is_over}
use Rattle.fwd_base.proofs.Doublings.{wait_settles}

-- ---- a list with something for each server

-- how long it is
pub length-each : {Y : Type 0} (f : ℕ → Y) (flags : List Bool)
    → length (map (λ p. f p.0) (enumerate_from 0 flags)) ≡ length flags
length-each f flags = length-map (enumerate_from 0 flags) (λ (p : ℕ × Bool). f p.0) ∙ length-enumerate_from 0 flags

-- what it has at a server's place
pub get_or-each : {Y : Type 0} (f : ℕ → Y) (flags : List Bool) (i : ℕ) (d : Y)
    → i < length flags → get_or (map (λ p. f p.0) (enumerate_from 0 flags)) i d ≡ f i
get_or-each f flags i d lt =
    let inside : i < length (enumerate_from 0 flags) = omega (arith, length-enumerate_from 0 flags) in
    get_or-map (λ (p : ℕ × Bool). f p.0) (enumerate_from 0 flags) i (0, true) d inside
    ∙ ap (λ (p : ℕ × Bool). f p.0) (get_or-enumerate_from 0 flags i (0, true) lt)
    ∙ ap f (zero-add i)

-- where only one server's changes
pub each_changed : {Y : Type 0} (f g : ℕ → Y) (flags : List Bool) (server : ℕ) (y : Y)
    → server < length flags → g server ≡ y → ((k : ℕ) → k ≢ server → g k ≡ f k)
    → map (λ p. g p.0) (enumerate_from 0 flags)
    ≡ set (map (λ p. f p.0) (enumerate_from 0 flags)) server y
each_changed f g flags server y lt here there =
    let olds = map (λ (p : ℕ × Bool). f p.0) (enumerate_from 0 flags) in
    same_lists _ _ (length-each g flags ∙ sym (length-set olds server y ∙ length-each f flags)) (λ k d inside.
    let within : k < length flags = omega (arith, length-each g flags) in
    let room : server < length olds = omega (arith, length-each f flags) in
    get_or-each g flags k d within ∙
    elim (cases_eq k server) [
      | inl e ↦ ap g e ∙ here ∙ sym (ap (λ j. get_or (set olds server y) j d) e ∙ get_or-set_same olds server y d room)
      | inr ne ↦ there k ne ∙ sym (get_or-set_other olds server k y d ne ∙ get_or-each f flags k d within)
    ])

-- ---- one loss, or one settling, more

same : (n : ℕ) → (n == n) ≡ true
same n = grind (arith, nat_tests)

other : (n k : ℕ) → k ≢ n → (n == k) ≡ false
other n k ne = grind (arith, nat_tests)

tally_of-more : (moment : ℕ) (ls : List ℕ)
    → tally_of (moment ∷ ls) ≡ Some (tally_more (tally_of ls) moment)
tally_of-more moment [] = refl
tally_of-more moment (l ∷ ls) =
    let count : min 65 (length (moment ∷ l ∷ ls)) ≡ min 65 (min 65 (length (l ∷ ls)) + 1) = omega arith in
    ap (λ n. Some (record { count = n; last = moment })) count

pub over_kept : (s : ServersSetting) (ls : List ℕ) (moment : ℕ) → s.retry_max < 2 ^ 64
    → is_over s ls moment ≡ live_is_over s.retry_wait s.retry_max (tally_of ls) moment
over_kept s [] moment fits = refl
over_kept s (newest ∷ older) moment fits =
    ap (λ wait. nat_le (newest + wait) moment) (sym (wait_settles s.retry_wait s.retry_max (length (newest ∷ older)) fits))

one_more_if : (b : Bool) (ls : List ℕ) (moment : ℕ)
    → tally_of (if b then moment ∷ ls else ls)
    ≡ (if b then Some (tally_more (tally_of ls) moment) else tally_of ls)
one_more_if true ls moment = tally_of-more moment ls
one_more_if false ls moment = refl

with_loss_kept : (s : ServersSetting) (ls : List ℕ) (moment : ℕ) → s.retry_max < 2 ^ 64
    → tally_of (with_loss s ls moment)
    ≡ live_with_loss s.retry_wait s.retry_max (tally_of ls) moment
with_loss_kept s ls moment fits =
    one_more_if (is_over s ls moment) ls moment
    ∙ ap (λ b. if b then Some (tally_more (tally_of ls) moment) else tally_of ls) (over_kept s ls moment fits)

lost_here : (s : ServersSetting) (server moment : ℕ) (before : List Happening)
    → s.retry_max < 2 ^ 64
    → tally_of (losses_of s server (Lost server moment ∷ before))
    ≡ live_with_loss s.retry_wait s.retry_max (tally_of (losses_of s server before)) moment
lost_here s server moment before fits =
    ap (λ b. tally_of (if b then with_loss s (losses_of s server before) moment else losses_of s server before)) (same server)
    ∙ with_loss_kept s (losses_of s server before) moment fits

lost_elsewhere : (s : ServersSetting) (server k moment : ℕ) (before : List Happening)
    → k ≢ server
    → tally_of (losses_of s k (Lost server moment ∷ before))
    ≡ tally_of (losses_of s k before)
lost_elsewhere s server k moment before ne =
    ap (λ b. tally_of (if b then with_loss s (losses_of s k before) moment else losses_of s k before)) (other server k ne)

settled_here : (s : ServersSetting) (server : ℕ) (before : List Happening)
    → tally_of (losses_of s server (Settled server ∷ before)) ≡ None
settled_here s server before = ap (λ b. tally_of (if b then [] else losses_of s server before)) (same server)

settled_elsewhere : (s : ServersSetting) (server k : ℕ) (before : List Happening) → k ≢ server
    → tally_of (losses_of s k (Settled server ∷ before)) ≡ tally_of (losses_of s k before)
settled_elsewhere s server k before ne = ap (λ b. tally_of (if b then [] else losses_of s k before)) (other server k ne)

-- ---- the live part of what comes next

-- no server was lost before anything happened
none_lost : (s : ServersSetting) (k : ℕ) (flags : List Bool)
    → map (λ p. tally_of (losses_of s p.0 [])) (enumerate_from k flags)
    ≡ replicate (length flags) None
none_lost s k [] = refl
none_lost s k (b ∷ flags) = ap (λ ts. None ∷ ts) (none_lost s (k + 1) flags)

pub live-opening : (s : ServersSetting)
    → live_servers s opening
    ≡ record {
      primaries = primaries s;
      standbys = standbys s;
      retry_wait = s.retry_wait;
      retry_max = s.retry_max;
      losses = replicate (length s.standby) None;
      moment = 0;
    }
unfolding live_servers
live-opening s = ap (λ ls. with_losses (live_servers s opening) ls 0) (none_lost s 0 s.standby)

pub live-looked : (s : ServersSetting) (h : ServersHistory) (now : ℕ)
    → live_servers s (looked h now) ≡ live_looked (live_servers s h) now
unfolding live_servers
live-looked s h now = refl

-- a server in the file has a place among the losses
place_of : (s : ServersSetting) (h : ServersHistory) (server : ℕ)
    → length (live_servers s h).losses ≡ length s.standby
unfolding live_servers
place_of s h server = length-each (λ k. tally_of (losses_of s k h.happened)) s.standby

pub kept_at : (s : ServersSetting) (h : ServersHistory) (server : ℕ) → server < length s.standby
    → get_or (live_servers s h).losses server None ≡ tally_of (losses_of s server h.happened)
unfolding live_servers
kept_at s h server lt = get_or-each (λ k. tally_of (losses_of s k h.happened)) s.standby server None lt

live-lost_known : (s : ServersSetting) (h : ServersHistory) (server now : ℕ)
    → s.retry_max < 2 ^ 64 → server < length s.standby
    → live_servers s (record {
      happened = Lost server (max h.moment now) ∷ h.happened;
      moment = max h.moment now;
    })
    ≡ with_losses (live_servers s h)
    (set (live_servers s h).losses server
    (live_with_loss s.retry_wait s.retry_max (get_or (live_servers s h).losses server None)
    (max h.moment now)))
    (max h.moment now)
unfolding live_servers
live-lost_known s h server now fits lt =
    let moment = max h.moment now in
    let more = live_with_loss s.retry_wait s.retry_max (get_or (live_servers s h).losses server None) moment in
    let here : tally_of (losses_of s server (Lost server moment ∷ h.happened)) ≡ more =
    lost_here s server moment h.happened fits ∙ ap (λ t. live_with_loss s.retry_wait s.retry_max t moment) (sym (kept_at s h server lt)) in
    ap (λ ls. with_losses (live_servers s h) ls moment)
    (each_changed (λ k. tally_of (losses_of s k h.happened)) (λ k. tally_of (losses_of s k (Lost server moment ∷ h.happened))) s.standby server more lt here (λ k ne. lost_elsewhere s server k moment h.happened ne))

live-settled_known : (s : ServersSetting) (h : ServersHistory) (server : ℕ)
    → server < length s.standby
    → live_servers s (record { happened = Settled server ∷ h.happened; moment = h.moment })
    ≡ with_losses (live_servers s h) (set (live_servers s h).losses server None) h.moment
unfolding live_servers
live-settled_known s h server lt =
    ap (λ ls. with_losses (live_servers s h) ls h.moment)
    (each_changed (λ k. tally_of (losses_of s k h.happened)) (λ k. tally_of (losses_of s k (Settled server ∷ h.happened))) s.standby server None lt (settled_here s server h.happened) (λ k ne. settled_elsewhere s server k h.happened ne))

-- the two sides of a choice
on_known : (b : Bool) (s : ServersSetting) (h k : ServersHistory) (l : LiveServers)
    → (b ≡ true → live_servers s k ≡ l)
    → live_servers s (if b then k else h) ≡ (if b then l else live_servers s h)
on_known true s h k l e = e refl
on_known false s h k l e = refl

known_there : (s : ServersSetting) (h : ServersHistory) (server : ℕ)
    → nat_lt server (length s.standby) ≡ nat_lt server (length (live_servers s h).losses)
known_there s h server = ap (nat_lt server) (sym (place_of s h server))

pub live-lost : (s : ServersSetting) (h : ServersHistory) (server now : ℕ)
    → s.retry_max < 2 ^ 64
    → live_servers s (lost s h server now) ≡ live_lost (live_servers s h) server now
unfolding live_servers
live-lost s h server now fits =
    let live = live_servers s h in
    let l = with_losses live (set live.losses server (live_with_loss s.retry_wait s.retry_max (get_or live.losses server None) (max live.moment now))) (max live.moment now) in
    on_known (nat_lt server (length s.standby)) s h (record { happened = Lost server (max h.moment now) ∷ h.happened; moment = max h.moment now }) l (λ e. live-lost_known s h server now fits (ltb-true _ _ e))
    ∙ ap (λ b. if b then l else live) (known_there s h server)

pub live-settled : (s : ServersSetting) (h : ServersHistory) (server : ℕ)
    → live_servers s (settled s h server) ≡ live_settled (live_servers s h) server
unfolding live_servers
live-settled s h server =
    let l = with_losses (live_servers s h) (set (live_servers s h).losses server None) (live_servers s h).moment in
    on_known (nat_lt server (length s.standby)) s h (record { happened = Settled server ∷ h.happened; moment = h.moment }) l (λ e. live-settled_known s h server (ltb-true _ _ e))
    ∙ ap (λ b. if b then l else live_servers s h) (known_there s h server)
