-- The chunks of a worker among those of all: how often a number stands, and what holds of each.
use Rattle.std.proofs.Common.{◌≡◌, ℕ, zero, suc, ◌+◌, ◌≤◌, List, [], ◌∷◌, Some, ap, subst, arith}
use Rattle.std.proofs.Math.ListN.{set}
use Rattle.std.specs.Prelude.{slice_get}
use Rattle.std.specs.List.{AllByRecursion}
use Rattle.fwd_chunks.specs.History.{CarriedChunk}
use Rattle.fwd_session.specs.Live.{LiveSession}
use Rattle.fwd_session.proofs.Lists.{all_append}
use Rattle.fwd_model.specs.Layers.{Worker}
use Rattle.fwd_core.specs.Lanes.{chunks_at, chunks_of}
use Rattle.fwd_run.specs.Pages.{times}
use Rattle.fwd_output.proofs.ChunkLemmas.{all_front, all_back, times-append}

pub times-set : (n place : ℕ) (ws : List (Worker LiveSession)) (x y : Worker LiveSession)
    → slice_get ws place ≡ Some x
    → times n (chunks_of (set ws place y)) + times n (chunks_at x)
    ≡ times n (chunks_of ws) + times n (chunks_at y)
times-set n place [] x y h = absurd cc
times-set n zero (z ∷ ws) x y h =
    let same : z ≡ x = cc in
    omega (arith, times-append n (chunks_at y) (chunks_of ws), times-append n (chunks_at z) (chunks_of ws), ap (λ (k : Worker LiveSession). times n (chunks_at k)) same)
times-set n (suc place) (z ∷ ws) x y h =
    omega (arith, times-append n (chunks_at z) (chunks_of (set ws place y)), times-append n (chunks_at z) (chunks_of ws), times-set n place ws x y h)

pub times-at : (n place : ℕ) (ws : List (Worker LiveSession)) (x : Worker LiveSession)
    → slice_get ws place ≡ Some x → times n (chunks_at x) ≤ times n (chunks_of ws)
times-at n place [] x h = absurd cc
times-at n zero (z ∷ ws) x h =
    let same : z ≡ x = cc in
    omega (arith, times-append n (chunks_at z) (chunks_of ws), ap (λ (k : Worker LiveSession). times n (chunks_at k)) same)
times-at n (suc place) (z ∷ ws) x h =
    omega (arith, times-append n (chunks_at z) (chunks_of ws), times-at n place ws x h)

pub all-at : (P : CarriedChunk → Type 0) (place : ℕ) (ws : List (Worker LiveSession))
    (x : Worker LiveSession)
    → slice_get ws place ≡ Some x → AllByRecursion P (chunks_of ws) → AllByRecursion P (chunks_at x)
all-at P place [] x h all = absurd cc
all-at P zero (z ∷ ws) x h all =
    let same : z ≡ x = cc in
    subst (λ (k : Worker LiveSession). AllByRecursion P (chunks_at k)) same (all_front P (chunks_at z) (chunks_of ws) all)
all-at P (suc place) (z ∷ ws) x h all =
    all-at P place ws x h (all_back P (chunks_at z) (chunks_of ws) all)

pub all-set : (P : CarriedChunk → Type 0) (place : ℕ) (ws : List (Worker LiveSession))
    (y : Worker LiveSession)
    → AllByRecursion P (chunks_of ws) → AllByRecursion P (chunks_at y)
    → AllByRecursion P (chunks_of (set ws place y))
all-set P place [] y all its = tt
all-set P zero (z ∷ ws) y all its =
    all_append P (chunks_at y) (chunks_of ws) its (all_back P (chunks_at z) (chunks_of ws) all)
all-set P (suc place) (z ∷ ws) y all its =
    all_append P (chunks_at z) (chunks_of (set ws place y)) (all_front P (chunks_at z) (chunks_of ws) all) (all-set P place ws y (all_back P (chunks_at z) (chunks_of ws) all) its)
