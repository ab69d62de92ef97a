-- The live part follows the history at the events of connections.
use Rattle.std.proofs.Common.{◌≡◌, ℕ, ◌<◌, ◌≤◌, Bool, true, false, cond, ltb, [], ◌∷◌, ◌++◌, length, drop, Some, refl, sym, ap, ◌∙◌, arith}
use Rattle.std.specs.Prelude.{map, ◌&&◌, nat_lt}
use Rattle.std.proofs.lemmas.Bool.Decides.{nat_tests}
use Rattle.fwd_source.specs.History.{Setup, SourceHistory, IsSane as IsSaneSource, opened, unsent, drains}
use Rattle.fwd_source.specs.Live.{live_source}
use Rattle.fwd_source.proofs.Following.{opened-live, opened-sane, drains-sane}
use Rattle.fwd_model.specs.History.{Connection, History, source_at, is_fresh, accepts, with_connection, leaves}
use Rattle.fwd_model.specs.Live.{live_connection, live, last_id, known, is_above, live_accepts, with_live_connection, live_leaves}
use Rattle.fwd_model.proofs.Places.{with_source-live, with_gone-live, known-push, Once-with_source, Once-with_gone, Once-push, last_id-with_source, last_id-with_gone, is_fresh-with_source, is_fresh-with_gone, last_id-push, is_fresh-push, is_fresh-above}
use Rattle.fwd_model.proofs.Reached.{IsSane, AllSources-with_source, AllSources-with_gone, AllSources-push}

pub by_cases : (b : Bool) (P : Bool → Type 0) → (b ≡ true → P true)
    → (b ≡ false → P false) → P b
by_cases true P t f = t refl
by_cases false P t f = f refl

-- ---- accept

abbrev new_connection : Setup → Connection
new_connection setup = record { id = setup.conn; source = opened setup; gone = false }

pub accepts-live : (setup : Setup) (h : History)
    → live (accepts h setup) ≡ live_accepts (live h) setup
unfolding live
accepts-live setup h =
    let c = new_connection setup in
    λ i. record (live h) {
      last = last_id-push h.connections c i;
      connections = (known-push h.connections c refl ∙ ap (λ s. map live_connection (known h.connections) ++ record { id = setup.conn; source = s } ∷ []) (opened-live setup)) i;
    }

lt_from : (a b : ℕ) → ltb a b ≡ true → a < b
lt_from a b h = grind (arith, nat_tests)

fresh_above : (x : ℕ) (setup : Setup) (h : History) → is_fresh setup.conn h.connections ≡ true
    → is_fresh x (accepts h setup).connections
    ≡ is_above x (last_id (accepts h setup).connections)
fresh_above x setup h f =
    let c = new_connection setup in
    let pushed = is_fresh-push x h.connections c in
    let last = ap (is_above x) (last_id-push h.connections c) in
    pushed ∙ by_cases (nat_lt setup.conn x) (λ b. (is_fresh x h.connections && b) ≡ b)
    (λ lt. ap (λ b. b && true) (is_fresh-above setup.conn x h.connections f (lt_from setup.conn x lt))) (λ ge. none_and (is_fresh x h.connections)) ∙ sym last
  where
    none_and : (b : Bool) → (b && false) ≡ false
    none_and true = refl
    none_and false = refl

pub accepts-sane : (setup : Setup) (h : History) → IsSane h
    → is_fresh setup.conn h.connections ≡ true → IsSane (accepts h setup)
accepts-sane setup h sane f = record {
  ids = λ x. fresh_above x setup h f;
  once = Once-push h.connections (new_connection setup) sane.once f;
  sources = AllSources-push h.connections (new_connection setup) sane.sources (opened-sane setup);
  lanes = sane.lanes;
}

-- ---- what a connection's place holds

pub with_connection-live : (id : ℕ) (s t : SourceHistory) (h : History)
    → source_at id h.connections ≡ Some t
    → live (with_connection id s h) ≡ with_live_connection id (live_source s) (live h)
unfolding live
with_connection-live id s t h here = λ i. record (live h) {
  last = last_id-with_source id s h.connections i;
  connections = with_source-live id s t h.connections here i;
}

pub with_connection-sane : (id : ℕ) (s : SourceHistory) (h : History) → IsSane h
    → IsSaneSource s → IsSane (with_connection id s h)
with_connection-sane id s h sane own = record {
  ids = λ x. is_fresh-with_source x id s h.connections ∙ sane.ids x ∙ ap (is_above x) (sym (last_id-with_source id s h.connections));
  once = Once-with_source id s h.connections sane.once;
  sources = AllSources-with_source id s h.connections own sane.sources;
  lanes = sane.lanes;
}

-- ---- drained

le_from : (a b : ℕ) → ltb a b ≡ false → b ≤ a
le_from a b e = grind (arith, nat_tests)

-- once it was shut, nothing waits to be sent, and none of it is drained
none_drained : (s : SourceHistory) (count : ℕ) → s.shut ≡ true → count ≤ length (unsent s)
    → IsSaneSource s → IsSaneSource (drains s count)
none_drained s count e le good =
    let none : unsent s ≡ [] = ap (λ b. cond b [] (drop s.drained s.appended)) e in
    let zero : count ≤ 0 = omega (arith, le, ap length none) in
    record { admits = good.admits; drains = omega (arith, zero, good.drains) }

pub drained-sane : (s : SourceHistory) (count : ℕ) → IsSaneSource s
    → nat_lt (length (unsent s)) count ≡ false → IsSaneSource (drains s count)
drained-sane s count good few =
    let le = le_from (length (unsent s)) count few in
    by_cases s.shut (λ b. s.shut ≡ b → IsSaneSource (drains s count)) (λ f g. none_drained s count g le good) (λ f g. drains-sane s count good g le) refl

-- ---- shut

pub leaves-live : (h : History) (id : ℕ) (s : SourceHistory) → IsSane h
    → source_at id h.connections ≡ Some s → live (leaves id h) ≡ live_leaves id (live h)
unfolding live
leaves-live h id s sane here = λ i. record (live h) {
  last = last_id-with_gone id h.connections i;
  connections = with_gone-live id s h.connections sane.once here i;
}

pub leaves-sane : (h : History) (id : ℕ) → IsSane h → IsSane (leaves id h)
leaves-sane h id sane = record {
  ids = λ x. is_fresh-with_gone x id h.connections ∙ sane.ids x ∙ ap (is_above x) (sym (last_id-with_gone id h.connections));
  once = Once-with_gone id h.connections sane.once;
  sources = AllSources-with_gone id h.connections sane.sources;
  lanes = sane.lanes;
}
