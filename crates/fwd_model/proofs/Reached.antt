-- What holds of each history that a run reaches.
use Rattle.std.proofs.Common.{◌≡◌, ◌≢◌, ℕ, zero, suc, ◌+◌, ◌<◌, ◌≤◌, ◌^◌, length, Bool, true, false, cond, eqb, List, [], ◌∷◌, ◌++◌, Option, Some, None, refl, ap, subst, inl, inr, arith}
use Rattle.std.proofs.Math.ListN.{set}
use Rattle.std.specs.Prelude.{◌⊎◌, slice_get}
use Rattle.std.specs.List.{AllByRecursion}
use Rattle.fwd_chunks.specs.History.{CarriedChunk}
use Rattle.fwd_chunks.proofs.Sane.{IsSane as IsSaneBuffer}
use Rattle.fwd_source.specs.History.{SourceHistory, IsSane as IsSaneSource}
use Rattle.fwd_session.specs.History.{SessionHistory, IsSane as IsSaneHistory}
use Rattle.fwd_model.specs.History.{Connection, source_at, with_source, with_gone, Lane, History, is_fresh, loaded_in}
use Rattle.fwd_model.specs.Live.{last_id, is_above}
use Rattle.fwd_model.proofs.Places.{Once}
use Rattle.fwd_model.specs.Outputs.{carried_by}
use Rattle.fwd_model.proofs.Chunks.{IsAmong, times, missing}
use Rattle.fwd_model.proofs.Settling.{AreApart}
use Rattle.fwd_model.proofs.Settled.{numbers_in}

abbrev pub AllSources : List Connection → Type 0
AllSources [] = Unit {0}
AllSources (c ∷ cs) = IsSaneSource c.source × AllSources cs

-- what holds of a worker that has these chunks, and of its session: its history is sane, it has
-- this window, each of its chunks is one of them, no two of its chunks have one number, and at most
-- one is left. The chunks are no more than the window
pub record IsSaneWorker (n : ℕ) (cs : List CarriedChunk) (x : Option SessionHistory) : Type 0 where
  pub own : (s : SessionHistory) → x ≡ Some s → IsSaneHistory s
  pub window : (s : SessionHistory) → x ≡ Some s → s.setup.window ≡ n
  pub his : AllByRecursion (λ c. IsAmong c cs) (loaded_in x)
  pub once : (k : ℕ) → times k (loaded_in x) ≤ 1
  pub rest : length (missing (loaded_in x) cs) ≤ 1
  pub whole : length cs ≡ length (loaded_in x) + length (missing (loaded_in x) cs)
  pub few : length cs ≤ n

-- what holds of an output and its workers: its buffer is sane, its workers carry apart, and its
-- book knows of the numbers that were acknowledged. The waits of its servers fit 64 bits
pub record IsSaneLane (l : Lane) : Type 0 where
  pub buffer : IsSaneBuffer l.output.buffer
  pub apart : AreApart l.output.buffer.carried
  pub marks : numbers_in l.output.book.settled ≡ l.output.buffer.acknowledged
  pub waits : l.output.setting.retry_max < 2 ^ 64
  pub workers : (w : ℕ) (x : Option SessionHistory) → slice_get l.sessions w ≡ Some x → IsSaneWorker l.config.acks.window (carried_by l.output.buffer w) x

pub own_session : (l : Lane) (w : ℕ) (s : SessionHistory) → IsSaneLane l
    → slice_get l.sessions w ≡ Some (Some s) → IsSaneHistory s
own_session l w s own here = (own.workers w (Some s) here).own s refl

abbrev pub AllSane : List Lane → Type 0
AllSane [] = Unit {0}
AllSane (l ∷ ls) = IsSaneLane l × AllSane ls

pub record IsSane (h : History) : Type 0 where
  pub ids : (id : ℕ) → is_fresh id h.connections ≡ is_above id (last_id h.connections)
  pub once : Once h.connections
  pub sources : AllSources h.connections
  pub lanes : AllSane h.lanes

found_or : (b g : Bool) (t s : SourceHistory) (o : Option SourceHistory)
    → cond b (cond g None (Some t)) o ≡ Some s → (t ≡ s) ⊎ (o ≡ Some s)
found_or true true t s o h = absurd cc
found_or true false t s o h = inl cc
found_or false g t s o h = inr h

pub AllSources-at : (id : ℕ) (cs : List Connection) (s : SourceHistory) → AllSources cs
    → source_at id cs ≡ Some s → IsSaneSource s
AllSources-at id [] s all h = absurd cc
AllSources-at id (c ∷ cs) s all h =
    elim (found_or (eqb c.id id) c.gone c.source s (source_at id cs) h) [ inl e ↦ subst IsSaneSource e all.0 | inr e ↦ AllSources-at id cs s all.1 e ]

put_or : (b : Bool) (d c : Connection) (cs ds : List Connection) → IsSaneSource d.source
    → AllSources (c ∷ cs) → AllSources ds → AllSources (cond b (d ∷ cs) (c ∷ ds))
put_or true d c cs ds own all rest = (own, all.1)
put_or false d c cs ds own all rest = (all.0, rest)

pub AllSources-with_source : (id : ℕ) (s : SourceHistory) (cs : List Connection)
    → IsSaneSource s → AllSources cs → AllSources (with_source id s cs)
AllSources-with_source id s [] own all = tt
AllSources-with_source id s (c ∷ cs) own all =
    put_or (eqb c.id id) (record { id = c.id; source = s; gone = c.gone }) c cs (with_source id s cs) own all (AllSources-with_source id s cs own all.1)

pub AllSources-with_gone : (id : ℕ) (cs : List Connection) → AllSources cs
    → AllSources (with_gone id cs)
AllSources-with_gone id [] all = tt
AllSources-with_gone id (c ∷ cs) all =
    put_or (eqb c.id id) (record { id = c.id; source = c.source; gone = true }) c cs (with_gone id cs) all.0 all (AllSources-with_gone id cs all.1)

pub AllSources-push : (cs : List Connection) (c : Connection) → AllSources cs
    → IsSaneSource c.source → AllSources (cs ++ c ∷ [])
AllSources-push [] c all own = (own, tt)
AllSources-push (d ∷ cs) c all own = (all.0, AllSources-push cs c all.1 own)

pub AllSane-at : (ls : List Lane) (o : ℕ) (l : Lane) → AllSane ls → slice_get ls o ≡ Some l
    → IsSaneLane l
AllSane-at [] o l all h = absurd cc
AllSane-at (k ∷ ls) zero l all h = let same : k ≡ l = cc in subst IsSaneLane same all.0
AllSane-at (k ∷ ls) (suc o) l all h = AllSane-at ls o l all.1 h

pub AllSane-set : (ls : List Lane) (o : ℕ) (l : Lane) → AllSane ls → IsSaneLane l
    → AllSane (set ls o l)
AllSane-set [] o l all own = tt
AllSane-set (k ∷ ls) zero l all own = (own, all.1)
AllSane-set (k ∷ ls) (suc o) l all own = (all.0, AllSane-set ls o l all.1 own)

-- the session at a place, after another one was put somewhere
pub slice_get-set : {X : Type 0} (xs : List X) (i j : ℕ) (x y : X)
    → slice_get (set xs i x) j ≡ Some y → ((i ≡ j) × (x ≡ y))
    ⊎ ((i ≢ j) × (slice_get xs j ≡ Some y))
slice_get-set [] i j x y h = absurd cc
slice_get-set (a ∷ xs) zero zero x y h = inl (refl, cc)
slice_get-set (a ∷ xs) zero (suc j) x y h = inr (λ e. cc, h)
slice_get-set (a ∷ xs) (suc i) zero x y h = inr (λ e. cc, h)
slice_get-set (a ∷ xs) (suc i) (suc j) x y h = elim (slice_get-set xs i j x y h) [ inl e ↦ inl (ap suc e.0, e.1) | inr e ↦ inr (λ f. e.0 (omega (arith, f)), e.1) ]
