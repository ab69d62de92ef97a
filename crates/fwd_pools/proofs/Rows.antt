-- The pages that a run has left as its outputs are made.
use Rattle.std.proofs.Common.{arith, ◌≡◌, ◌∙◌, ◌+◌, ◌-◌, ◌*◌, ◌++◌, ℕ, List, ap, append_assoc}
use Rattle.fwd_pools.specs.declared.worker_pools.RunOrigin.{RunOrigin}

-- before any is made
pub no_more : {J : Type 0} → (run : RunOrigin J) (n : ℕ) → n ≡ 0
    → run ≡ record run { pages = (run.pages.0 + 32 * n, run.pages.1 - 32 * n) }
no_more run n none =
    let next : run.pages.0 ≡ run.pages.0 + 32 * n = omega (arith, none) in
    let left : run.pages.1 ≡ run.pages.1 - 32 * n = omega (arith, none) in
    λ i. record run { pages = (next i, left i) }

-- one more is made
pub one_more : {J : Type 0} → (begun run next : RunOrigin J) (n m : ℕ)
    → run ≡ record begun { pages = (begun.pages.0 + 32 * n, begun.pages.1 - 32 * n) }
    → next ≡ record run { pages = (run.pages.0 + 32, run.pages.1 - 32) } → m ≡ n + 1
    → next ≡ record begun { pages = (begun.pages.0 + 32 * m, begun.pages.1 - 32 * m) }
one_more {J} begun run next n m was is more =
    let first : begun.pages.0 + 32 * n + 32 ≡ begun.pages.0 + 32 * m = omega (arith, more) in
    let left : begun.pages.1 - 32 * n - 32 ≡ begun.pages.1 - 32 * m = omega (arith, more) in
    is ∙ (ap (λ (r : RunOrigin J). record r { pages = (r.pages.0 + 32, r.pages.1 - 32) }) was
    ∙ (λ i. record begun { pages = (first i, left i) }))

-- what is left makes up for what is not there yet
pub more_there : {X : Type 0} → (before after new rest whole : List X) → after ≡ before ++ new
    → before ++ (new ++ rest) ≡ whole → after ++ rest ≡ whole
more_there before after new rest whole is all =
    ap (λ l. l ++ rest) is ∙ (append_assoc before new rest ∙ all)
