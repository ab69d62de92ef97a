-- What a worker has that was acknowledged was acknowledged over a link.
use Rattle.std.proofs.Common.{◌≡◌, ◌≤◌, ◌+◌, ℕ, List}
use Rattle.std.specs.Prelude.{is_some}
use Rattle.std.proofs.Math.Logic.{∥∥₁_elim, ∥∥₁_map, ∥∥₁_prop}
use Rattle.fwd_session.specs.ServerAcks.{Accepted}
use Rattle.fwd_environment.specs.Links.{Call}
use Rattle.std.specs.List.{AllByRecursion}
use Rattle.fwd_workers.specs.declared.upstream.WorkerState.{WorkerState}
use Rattle.fwd_workers.specs.declared.upstream.WorkerState.TheVariants as state
use Rattle.fwd_workers.specs.Working.{IsAcknowledgedOver, IsEarned, accepted_at, entries_in}
use Rattle.fwd_workers.proofs.Earning.{earned-then, upstream-over}

pub state-over : {L : Type 0} {g : _} (at : WorkerState L g)
    → ∥ AllByRecursion (IsAcknowledgedOver g.calls) (accepted_at at) ∥₁
state-over state.Idle = ∣ tt ∣₁
state-over state.Seeking = ∣ tt ∣₁
state-over (state.Sought free) = ∣ tt ∣₁
state-over (state.Standing free) = ∣ tt ∣₁
state-over (state.Took free chunk) = ∣ tt ∣₁
state-over (state.Added roomy chunk) = ∣ tt ∣₁
state-over {L} {g} (state.Loaded upstream) = upstream-over g.calls upstream.link upstream.session (is_some upstream.ending) upstream.of_link
state-over {L} {g} (state.Settled upstream) = upstream-over g.calls upstream.link upstream.session (is_some upstream.ending) upstream.of_link

-- a run in which no more was added yet, and then no more than what was acknowledged over a link
pub run-then : {Link : Type 0} (calls : Link → List Call) (kept : ℕ → ℕ)
    → ((a b : ℕ) → kept (a + b) ≡ kept a + kept b) → (before middle after : ℕ)
    → (accepted : List Accepted) → ∥ IsEarned calls kept before middle ∥₁
    → ∥ AllByRecursion (IsAcknowledgedOver calls) accepted ∥₁
    → after ≤ middle + kept (entries_in accepted) → ∥ IsEarned calls kept before after ∥₁
run-then calls kept adds before middle after accepted earned all most =
    ∥∥₁_elim earned ∥∥₁_prop (λ earned. ∥∥₁_map all (λ all.
    earned-then calls kept adds before middle after accepted earned all most))
