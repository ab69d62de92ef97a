-- How much a worker settles at the most.
use Rattle.std.proofs.Common.{arith, ◌≡◌, ◌≤◌, ◌+◌, ◌-◌, ℕ, Bool, List, [], ◌∷◌, ◌++◌, drop, Some, refl, ap, ◌∙◌}
use Rattle.std.specs.Prelude.{option_map, slice_get}
use Rattle.std.specs.List.{AllByRecursion}
use Rattle.std.proofs.Math.Logic.{∥∥₁_map}
use Rattle.fwd_session.specs.ServerAcks.{Accepted}
use Rattle.fwd_session.specs.History.{first_in}
use Rattle.fwd_session.specs.Live.{LiveSession, live_acked}
use Rattle.fwd_session.proofs.Lists.{all_append, all_placed, all_same}
use Rattle.fwd_environment.specs.Links.{Call}
use Rattle.fwd_workers.specs.Served.{IsOfLink, seen_in}
use Rattle.fwd_workers.specs.Working.{IsAcknowledgedOver, IsEarned, entries_in, next_entries}

-- ---- on a seat

-- what is kept of less is less
pub kept-most : (kept : ℕ → ℕ) → ((a b : ℕ) → kept (a + b) ≡ kept a + kept b) → (n most : ℕ)
    → n ≤ most → kept n ≤ kept most
kept-most kept adds n most le =
    let all : most ≡ n + (most - n) = omega (arith, le) in
    omega (arith, ap kept all, adds n (most - n))

-- what is accepted first, and what then
pub accepted-parts : (accepted : List Accepted)
    → entries_in accepted
    ≡ next_entries (option_map (λ (a : Accepted). a.chunk) (first_in accepted)) + entries_in (drop 1 accepted)
accepted-parts [] = refl
accepted-parts (a ∷ later) = refl

pub kept-parts : (kept : ℕ → ℕ) → ((a b : ℕ) → kept (a + b) ≡ kept a + kept b)
    → (accepted : List Accepted)
    → kept (entries_in accepted)
    ≡ kept (next_entries (option_map (λ (a : Accepted). a.chunk) (first_in accepted)))
    + kept (entries_in (drop 1 accepted))
kept-parts kept adds accepted =
    ap kept (accepted-parts accepted)
    ∙ adds (next_entries (option_map (λ (a : Accepted). a.chunk) (first_in accepted))) (entries_in (drop 1 accepted))

-- no more than the next one has is no more than all have
pub next-most : (kept : ℕ → ℕ) → ((a b : ℕ) → kept (a + b) ≡ kept a + kept b) → (s : LiveSession)
    → kept (next_entries (live_acked s)) ≤ kept (entries_in s.accepted)
next-most kept adds s = omega (arith, kept-parts kept adds s.accepted)

-- ---- over a run

entries-append : (xs ys : List Accepted) → entries_in (xs ++ ys) ≡ entries_in xs + entries_in ys
entries-append [] ys = omega arith
entries-append (a ∷ xs) ys = omega (arith, entries-append xs ys)

-- what a session accepted that lived over a link was acknowledged over it
pub upstream-over : {Link : Type 0} (calls : Link → List Call) (link : Link) (s : LiveSession) (ends : Bool)
    → ∥ IsOfLink s (seen_in (calls link)) ends ∥₁
    → ∥ AllByRecursion (IsAcknowledgedOver calls) s.accepted ∥₁
upstream-over calls link s ends own =
    ∥∥₁_map own (λ own. all_same (λ a. (place : ℕ) × (slice_get s.accepted place ≡ Some a)) (IsAcknowledgedOver calls)
    s.accepted (λ a there. record {
      link = link;
      session = s;
      ends = ends;
      own = own;
      place = there.0;
      accepted = there.1;
    }) (all_placed s.accepted))

-- nothing was added yet
pub none-earned : {Link : Type 0} (calls : Link → List Call) (kept : ℕ → ℕ) (before after : ℕ)
    → after ≡ before → kept 0 ≡ 0 → IsEarned calls kept before after
none-earned calls kept before after same none = record {
  settled = [];
  each = tt;
  most = omega (arith, same, none);
}

-- and then no more than these have
pub earned-then : {Link : Type 0} (calls : Link → List Call) (kept : ℕ → ℕ)
    → ((a b : ℕ) → kept (a + b) ≡ kept a + kept b) → (before middle after : ℕ)
    → (accepted : List Accepted) → IsEarned calls kept before middle
    → AllByRecursion (IsAcknowledgedOver calls) accepted → after ≤ middle + kept (entries_in accepted)
    → IsEarned calls kept before after
earned-then calls kept adds before middle after accepted earned all most = record {
  settled = earned.settled ++ accepted;
  each = all_append (IsAcknowledgedOver calls) earned.settled accepted earned.each all;
  most = omega (
    arith,
    earned.most,
    most,
    ap kept (entries-append earned.settled accepted),
    adds (entries_in earned.settled) (entries_in accepted),
  );
}
