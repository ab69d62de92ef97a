-- From a step taken on what is kept to the step of a history whose live part it is.
use Rattle.std.proofs.Common.{◌≡◌, ℕ, ◌^◌, ◌<◌, Option, refl, arith, sym, ap, ◌∙◌, max}
use Rattle.fwd_failover.specs.History.{ServersSetting, ServersHistory, looked, lost, settled}
use Rattle.fwd_failover.specs.Choices.{choice}
use Rattle.fwd_failover.specs.Live.{LiveServers, live_servers, live_choice, live_looked, live_lost, live_settled}
use Rattle.fwd_failover.proofs.Kept.{live-looked, live-lost, live-settled}
use Rattle.fwd_failover.proofs.Orders.{choice_kept}

pub looked_on : (s : ServersSetting) (h : ServersHistory) (old new : LiveServers) (now : ℕ)
    → new ≡ live_looked old now → old ≡ live_servers s h
    → new ≡ live_servers s (looked h now)
looked_on s h old new now step shows = step ∙ ap (λ l. live_looked l now) shows ∙ sym (live-looked s h now)

pub settled_on : (s : ServersSetting) (h : ServersHistory) (old new : LiveServers) (server : ℕ)
    → new ≡ live_settled old server → old ≡ live_servers s h
    → new ≡ live_servers s (settled s h server)
settled_on s h old new server step shows = step ∙ ap (λ l. live_settled l server) shows ∙ sym (live-settled s h server)

kept_moment : (s : ServersSetting) (h : ServersHistory) (worker now : ℕ)
    → live_choice (live_servers s h) worker (max (live_servers s h).moment now)
    ≡ live_choice (live_servers s h) worker (max h.moment now)
unfolding live_servers
kept_moment s h worker now = refl

kept_max : (s : ServersSetting) (h : ServersHistory)
    → (live_servers s h).retry_max ≡ s.retry_max
unfolding live_servers
kept_max s h = refl

pub lost_on : (s : ServersSetting) (h : ServersHistory) (old new : LiveServers) (server now : ℕ)
    → old.retry_max < 2 ^ 64 → new ≡ live_lost old server now → old ≡ live_servers s h
    → new ≡ live_servers s (lost s h server now)
lost_on s h old new server now fits step shows =
    let limit : s.retry_max < 2 ^ 64 = omega (arith, ap (λ (l : LiveServers). l.retry_max) shows, kept_max s h) in
    step ∙ ap (λ l. live_lost l server now) shows ∙ sym (live-lost s h server now limit)

pub chosen_by :
    (s : ServersSetting) (h : ServersHistory) (old : LiveServers) (worker now : ℕ)
    (chosen : Option ℕ)
    → old.retry_max < 2 ^ 64 → chosen ≡ live_choice old worker (max old.moment now)
    → old ≡ live_servers s h → chosen ≡ choice s h.happened worker (max h.moment now)
chosen_by s h old worker now chosen fits choice_is shows =
    let limit : s.retry_max < 2 ^ 64 = omega (arith, ap (λ (l : LiveServers). l.retry_max) shows, kept_max s h) in
    choice_is ∙ ap (λ l. live_choice l worker (max l.moment now)) shows ∙ kept_moment s h worker now ∙ sym (choice_kept s h worker (max h.moment now) limit)
