-- Places in the lists of a history and of its live part.
use Rattle.std.proofs.Common.{◌≡◌, ◌≢◌, ℕ, zero, suc, ◌+◌, ◌<◌, Bool, true, false, cond, eqb, List, [], ◌∷◌, ◌++◌, length, Option, Some, None, refl, sym, ap, subst, ◌∙◌, add-zero, arith}
use Rattle.std.proofs.Math.ListN.{set}
use Rattle.std.specs.Prelude.{map, option_map, slice_get, ◌&&◌, not, nat_lt, ◌==◌}
use Rattle.std.specs.List.{list_all}
use Rattle.std.proofs.lemmas.Bool.Decides.{nat_tests}
use Rattle.fwd_source.specs.History.{SourceHistory}
use Rattle.fwd_source.specs.Live.{live_source}
use Rattle.fwd_session.specs.History.{SessionHistory}
use Rattle.fwd_session.specs.Live.{live_session}
use Rattle.fwd_chunks.specs.History.{CarriedChunk}
use Rattle.fwd_model.specs.Outputs.{OutputHistory, carried_by, not_loaded}
use Rattle.fwd_model.specs.History.{History, histories, Connection, source_at, with_source, with_gone, is_fresh, loaded_in, taken_by}
use Rattle.fwd_model.specs.Live.{live_connection, known, last_id, live_worker, live_workers, live_source_at, with_live_source, without}
use Rattle.fwd_model.specs.declared.answer.Answer.{Answer}
use Rattle.fwd_model.specs.Outcome.{Goes}
use Rattle.fwd_model.specs.Step as steps
use Rattle.fwd_model.proofs.Onward.{Onward, to, lane_on}

-- nothing is done to what there may be
pub option_id : {X : Type 0} (o : Option X) → o ≡ option_map (λ x. x) o
option_id None = refl
option_id (Some x) = refl

-- ---- an id stands once

abbrev pub is_absent : ℕ → List Connection → Bool
is_absent id cs = list_all (λ c. not (c.id == id)) cs

abbrev pub Once : List Connection → Type 0
Once [] = Unit {0}
Once (c ∷ cs) = (is_absent c.id cs ≡ true) × Once cs

is_absent-with_source : (x id : ℕ) (s : SourceHistory) (cs : List Connection)
    → is_absent x (with_source id s cs) ≡ is_absent x cs
is_absent-with_source x id s [] = refl
is_absent-with_source x id s (c ∷ cs) = grind (arith, nat_tests, is_absent-with_source x id s cs)

is_absent-with_gone : (x id : ℕ) (cs : List Connection)
    → is_absent x (with_gone id cs) ≡ is_absent x cs
is_absent-with_gone x id [] = refl
is_absent-with_gone x id (c ∷ cs) = grind (arith, nat_tests, is_absent-with_gone x id cs)

once_put : (b : Bool) (c d : Connection) (cs ds : List Connection) → c.id ≡ d.id
    → is_absent c.id cs ≡ true → is_absent c.id ds ≡ true → Once cs → Once ds
    → Once (cond b (d ∷ cs) (c ∷ ds))
once_put true c d cs ds same h g all rest = (subst (λ k. is_absent k cs ≡ true) same h, all)
once_put false c d cs ds same h g all rest = (g, rest)

pub Once-with_source : (id : ℕ) (s : SourceHistory) (cs : List Connection) → Once cs
    → Once (with_source id s cs)
Once-with_source id s [] all = tt
Once-with_source id s (c ∷ cs) all =
    once_put (eqb c.id id) c (record { id = c.id; source = s; gone = c.gone }) cs (with_source id s cs) refl all.0 (is_absent-with_source c.id id s cs ∙ all.0) all.1 (Once-with_source id s cs all.1)

pub Once-with_gone : (id : ℕ) (cs : List Connection) → Once cs → Once (with_gone id cs)
Once-with_gone id [] all = tt
Once-with_gone id (c ∷ cs) all =
    once_put (eqb c.id id) c (record { id = c.id; source = c.source; gone = true }) cs (with_gone id cs) refl all.0 (is_absent-with_gone c.id id cs ∙ all.0) all.1 (Once-with_gone id cs all.1)

is_absent-push : (x : ℕ) (cs : List Connection) (c : Connection) → is_absent x cs ≡ true
    → eqb c.id x ≡ false → is_absent x (cs ++ c ∷ []) ≡ true
is_absent-push x [] c h e = grind (arith, nat_tests)
is_absent-push x (d ∷ cs) c h e = grind (arith, nat_tests, is_absent-push x cs c)

-- an id above all stands behind them once
pub Once-push : (cs : List Connection) (c : Connection) → Once cs → is_fresh c.id cs ≡ true
    → Once (cs ++ c ∷ [])
Once-push [] c all fresh = (refl, tt)
Once-push (d ∷ cs) c all fresh =
    let apart : eqb c.id d.id ≡ false = grind (arith, nat_tests) in
    let more : is_fresh c.id cs ≡ true = grind (arith, nat_tests) in
    (is_absent-push d.id cs c all.0 apart, Once-push cs c all.1 more)

-- ---- what is known of the connections

known_absent : (id : ℕ) (cs : List Connection) → is_absent id cs ≡ true
    → live_source_at id (map live_connection (known cs)) ≡ None
known_absent id [] h = refl
known_absent id (c ∷ cs) h = grind (arith, nat_tests, known_absent id cs)

without_absent : (id : ℕ) (cs : List Connection) → is_absent id cs ≡ true
    → without id (map live_connection (known cs)) ≡ map live_connection (known cs)
without_absent id [] h = refl
without_absent id (c ∷ cs) h = grind (arith, nat_tests, without_absent id cs)

absent_as : (a b : ℕ) (cs : List Connection) → is_absent a cs ≡ true → eqb a b ≡ true
    → is_absent b cs ≡ true
absent_as a b cs h e = let same : a ≡ b = grind (arith, nat_tests) in subst (λ k. is_absent k cs ≡ true) same h

pub source_at-live : (id : ℕ) (cs : List Connection) → Once cs
    → live_source_at id (map live_connection (known cs))
    ≡ option_map live_source (source_at id cs)
source_at-live id [] all = refl
source_at-live id (c ∷ cs) all = grind (arith, nat_tests, source_at-live id cs all.1, known_absent id cs, absent_as c.id id cs all.0)

pub with_source-live : (id : ℕ) (s t : SourceHistory) (cs : List Connection)
    → source_at id cs ≡ Some t
    → map live_connection (known (with_source id s cs))
    ≡ with_live_source id (live_source s) (map live_connection (known cs))
with_source-live id s t [] h = absurd cc
with_source-live id s t (c ∷ cs) h = grind (arith, nat_tests, with_source-live id s t cs)

pub with_gone-live : (id : ℕ) (t : SourceHistory) (cs : List Connection) → Once cs
    → source_at id cs ≡ Some t
    → map live_connection (known (with_gone id cs))
    ≡ without id (map live_connection (known cs))
with_gone-live id t [] all h = absurd cc
with_gone-live id t (c ∷ cs) all h = grind (arith, nat_tests, with_gone-live id t cs all.1, without_absent id cs, absent_as c.id id cs all.0)

pub known-push : (cs : List Connection) (c : Connection) → c.gone ≡ false
    → map live_connection (known (cs ++ c ∷ [])) ≡ map live_connection (known cs)
    ++ live_connection c ∷ []
known-push [] c here = grind (arith, nat_tests)
known-push (d ∷ cs) c here = grind (arith, nat_tests, known-push cs c here)

pub last_id-with_source : (id : ℕ) (s : SourceHistory) (cs : List Connection)
    → last_id (with_source id s cs) ≡ last_id cs
last_id-with_source id s [] = refl
last_id-with_source id s (c ∷ []) = grind (arith, nat_tests)
last_id-with_source id s (c ∷ d ∷ cs) = grind (arith, nat_tests, last_id-with_source id s (d ∷ cs))

pub is_fresh-with_source : (x id : ℕ) (s : SourceHistory) (cs : List Connection)
    → is_fresh x (with_source id s cs) ≡ is_fresh x cs
is_fresh-with_source x id s [] = refl
is_fresh-with_source x id s (c ∷ cs) = grind (arith, nat_tests, is_fresh-with_source x id s cs)

pub last_id-with_gone : (id : ℕ) (cs : List Connection)
    → last_id (with_gone id cs) ≡ last_id cs
last_id-with_gone id [] = refl
last_id-with_gone id (c ∷ []) = grind (arith, nat_tests)
last_id-with_gone id (c ∷ d ∷ cs) = grind (arith, nat_tests, last_id-with_gone id (d ∷ cs))

pub is_fresh-with_gone : (x id : ℕ) (cs : List Connection)
    → is_fresh x (with_gone id cs) ≡ is_fresh x cs
is_fresh-with_gone x id [] = refl
is_fresh-with_gone x id (c ∷ cs) = grind (arith, nat_tests, is_fresh-with_gone x id cs)

pub last_id-push : (cs : List Connection) (c : Connection)
    → last_id (cs ++ c ∷ []) ≡ Some c.id
last_id-push [] c = refl
last_id-push (a ∷ []) c = refl
last_id-push (a ∷ b ∷ cs) c = last_id-push (b ∷ cs) c

pub is_fresh-push : (x : ℕ) (cs : List Connection) (c : Connection)
    → is_fresh x (cs ++ c ∷ []) ≡ (is_fresh x cs && nat_lt c.id x)
is_fresh-push x [] c = grind (arith, nat_tests)
is_fresh-push x (a ∷ cs) c = grind (arith, nat_tests, is_fresh-push x cs c)

-- what is fresh stays so above
pub is_fresh-above : (x y : ℕ) (cs : List Connection) → is_fresh x cs ≡ true → x < y
    → is_fresh y cs ≡ true
is_fresh-above x y [] h lt = refl
is_fresh-above x y (c ∷ cs) h lt = grind (arith, nat_tests, is_fresh-above x y cs)

-- ---- lanes and workers

pub slice_get-set_same : {X : Type 0} (xs : List X) (i : ℕ) (x y : X)
    → slice_get xs i ≡ Some y → slice_get (set xs i x) i ≡ Some x
slice_get-set_same [] i x y h = absurd cc
slice_get-set_same (a ∷ xs) zero x y h = refl
slice_get-set_same (a ∷ xs) (suc i) x y h = slice_get-set_same xs i x y h

pub set-same : {X : Type 0} (xs : List X) (i : ℕ) (x : X) → slice_get xs i ≡ Some x → set xs i x ≡ xs
set-same [] i x h = refl
set-same (a ∷ xs) zero x h = let e : a ≡ x = cc in ap (λ y. y ∷ xs) (sym e)
set-same (a ∷ xs) (suc i) x h = ap (λ ys. a ∷ ys) (set-same xs i x h)

-- an event at an output that it leaves as it is goes on to the same history
pub same_at : (h : History) (P : Answer → History → Type 0) (o : ℕ) {a : Answer} → P a h
    → Onward P (steps.at_lane histories h o (λ l. Goes a l))
same_at h P o {a} holds = lane_on histories h o P (λ l. Goes a l) (λ l here. to (subst (λ ls. P a (record h { lanes = ls })) (sym (set-same h.lanes o l here)) holds))

-- what a worker has behind more cells, and behind more that is carried
pub live_workers-same : (o p : OutputHistory) (w : ℕ) (ss : List (Option SessionHistory))
    → ((k : ℕ) → carried_by o.buffer k ≡ carried_by p.buffer k)
    → live_workers o w ss ≡ live_workers p w ss
live_workers-same o p w [] h = refl
live_workers-same o p w (s ∷ ss) h = λ i. record { taken = not_loaded (loaded_in s) (h w i); session = option_map live_session s } ∷ live_workers-same o p (suc w) ss h i

-- at one place
pub live_workers-at : (o : OutputHistory) (b w : ℕ) (ss : List (Option SessionHistory))
    → slice_get (live_workers o b ss) w
    ≡ option_map (λ s. live_worker o (b + w) s) (slice_get ss w)
live_workers-at o b w [] = refl
live_workers-at o b zero (s ∷ ss) = rw add-zero refl
live_workers-at o b (suc w) (s ∷ ss) = live_workers-at o (suc b) w ss ∙ ap (λ k. option_map (λ s. live_worker o k s) (slice_get ss w)) (omega arith)

pub live_workers-set : (o : OutputHistory) (b w : ℕ) (ss : List (Option SessionHistory))
    (s : Option SessionHistory)
    → live_workers o b (set ss w s) ≡ set (live_workers o b ss) w (live_worker o (b + w) s)
live_workers-set o b w [] s = refl
live_workers-set o b zero (t ∷ ss) s = rw add-zero refl
live_workers-set o b (suc w) (t ∷ ss) s =
    ap (λ xs. live_worker o b t ∷ xs) (live_workers-set o (suc b) w ss s ∙ ap (λ k. set (live_workers o (suc b) ss) w (live_worker o k s)) (omega arith))

pub length-live_workers : (o : OutputHistory) (b : ℕ) (ss : List (Option SessionHistory))
    → length (live_workers o b ss) ≡ length ss
length-live_workers o b [] = refl
length-live_workers o b (s ∷ ss) = ap suc (length-live_workers o (suc b) ss)

-- where one worker has other chunks and another session
others_same : (o p : OutputHistory) (w b : ℕ) (ss : List (Option SessionHistory))
    → ((v : ℕ) → w ≢ v → carried_by p.buffer v ≡ carried_by o.buffer v) → w < b
    → live_workers p b ss ≡ live_workers o b ss
others_same o p w b [] others lt = refl
others_same o p w b (s ∷ ss) others lt = λ i.
    record { taken = not_loaded (loaded_in s) (others b (λ e. omega (arith, lt, e)) i); session = option_map live_session s }
    ∷ others_same o p w (suc b) ss others (omega (arith, lt)) i

pub one_changes : (o p : OutputHistory) (w b j : ℕ) (ss : List (Option SessionHistory))
    (t x : Option SessionHistory) (taken : Option CarriedChunk)
    → ((v : ℕ) → w ≢ v → carried_by p.buffer v ≡ carried_by o.buffer v)
    → taken_by p.buffer w t ≡ taken → w ≡ b + j → slice_get ss j ≡ Some x
    → live_workers p b (set ss j t) ≡ set (live_workers o b ss) j
    (record { taken = taken; session = option_map live_session t })
one_changes o p w b j [] t x taken others own at here = absurd cc
one_changes o p w b zero (s ∷ ss) t x taken others own at here =
    let same : w ≡ b = omega (arith, at) in λ i.
    record { taken = (ap (λ y. taken_by p.buffer y t) (sym same) ∙ own) i; session = option_map live_session t }
    ∷ others_same o p w (suc b) ss others (omega (arith, at)) i
one_changes o p w b (suc j) (s ∷ ss) t x taken others own at here = λ i.
    record { taken = not_loaded (loaded_in s) (others b (λ e. omega (arith, at, e)) i); session = option_map live_session s }
    ∷ one_changes o p w (suc b) j ss t x taken others own (omega (arith, at)) here i
