-- What a source's page knows.
use Rattle.std.proofs.Common.{arith, ◌≡◌, ◌≤◌, ◌<◌, ◌+◌, Bool, true, false, ℕ, zero, suc, List, [], ◌∷◌, ◌++◌, length, Option, Some, None, refl, sym, ap, subst, ◌∙◌}
use Rattle.std.specs.Prelude.{Contains, slice_get, slice_index_or}
use Rattle.std.specs.Option.{option_and_then}
use Rattle.fwd_modes.specs.Requests.{Request}
use Rattle.fwd_modes.specs.declared.origin.Origin.{Origin}
use Rattle.fwd_match.specs.Patterns.{route}
use Rattle.fwd_source.specs.Live.{LiveSource, first_waiting, judged_piece, live_piece_next, source_gives, source_gives_first, source_hears}
use Rattle.fwd_history.specs.Histories.{Comes, IsLegal}
use Rattle.fwd_book.specs.History.{BookSetting}
use Rattle.fwd_book.specs.Receipts.{Receipt, receipts}
use Rattle.fwd_model.specs.declared.config.Config.{Config}
use Rattle.fwd_model.specs.Outcome.{first_of}
use Rattle.fwd_model.specs.Live.{LiveRelay}
use Rattle.fwd_model.specs.Outputs.{LiveOutput}
use Rattle.fwd_run.specs.Pages.{SourceKnown}
use Rattle.fwd_run.specs.Runs.{RunEvent, Opens, Relay, Leave, begun, config_of, moved, run_after, seen, output_at, output_in}
use Rattle.fwd_output.specs.Paged.{AreGivenAfter, Gives, IsAsked}
use Rattle.fwd_output.specs.PagedSources.{AgreesWith, Stands, but_unsent, first_asked, first_route}

pub some_source : {x y : LiveSource} → Some x ≡ Some y → x ≡ y
some_source e = cc

-- ---- a piece

-- it has the same effect whatever waits to be sent
hears_same : (s t : LiveSource) (bytes : List ℕ) → but_unsent s ≡ but_unsent t → but_unsent (source_hears s bytes) ≡ but_unsent (source_hears t bytes)
unfolding source_hears
hears_same s t bytes same = ap (λ u. but_unsent (source_hears u bytes)) same

next_same : (s t : LiveSource) (bytes : List ℕ) → but_unsent s ≡ but_unsent t → but_unsent (live_piece_next s bytes) ≡ but_unsent (live_piece_next t bytes)
next_same s t bytes same = by s.closed t.closed refl refl
  where
    by : (a b : Bool) → s.closed ≡ a → t.closed ≡ b → but_unsent (live_piece_next s bytes) ≡ but_unsent (live_piece_next t bytes)
    by true true here there = grind (arith, here, there, same)
    by false false here there = grind (arith, here, there, hears_same s t bytes same)
    by true false here there = absurd (cc (sym here ∙ ap (λ (u : LiveSource). u.closed) same ∙ there))
    by false true here there = absurd (cc (sym here ∙ ap (λ (u : LiveSource). u.closed) same ∙ there))

next_open : (s : LiveSource) (bytes : List ℕ) → s.shut ≡ false → (live_piece_next s bytes).shut ≡ false
unfolding source_hears
next_open s bytes open_ = by s.closed refl
  where
    by : (b : Bool) → s.closed ≡ b → (live_piece_next s bytes).shut ≡ false
    by true e = grind (arith, e, open_)
    by false e = grind (arith, e, open_)

-- it changes nothing that the source was set up with
pub conn_heard : (s : LiveSource) (bytes : List ℕ) → (live_piece_next s bytes).setup.conn ≡ s.setup.conn
unfolding source_hears
conn_heard s bytes = by s.closed refl
  where
    by : (b : Bool) → s.closed ≡ b → (live_piece_next s bytes).setup.conn ≡ s.setup.conn
    by true e = grind (arith, e)
    by false e = grind (arith, e)

module _ (k l : SourceKnown) (bytes : List ℕ) (stands : Stands k)
    (heard : (s : LiveSource) → k.is ≡ Some s → l ≡ record k { is = Some (live_piece_next s bytes) }) where
  pub heard_id : l.id ≡ k.id
  heard_id = ap (λ (n : SourceKnown). n.id) (heard stands.source stands.is)

  pub heard_stands : Stands l
  heard_stands = record {
    source = live_piece_next stands.source bytes;
    is = ap (λ (n : SourceKnown). n.is) (heard stands.source stands.is);
    not_shut = next_open stands.source bytes stands.not_shut;
  }

  pub heard_agrees : (live next : LiveSource) → AgreesWith k live → next ≡ live_piece_next live bytes → AgreesWith l next
  heard_agrees live next agrees is s at =
      ap but_unsent (some_source (sym at ∙ ap (λ (n : SourceKnown). n.is) (heard stands.source stands.is)))
      ∙ next_same stands.source live bytes (agrees stands.source stands.is)
      ∙ ap but_unsent (sym is)

-- what waits to be sent does not matter
pub unsent_agrees : (k : SourceKnown) (live next : LiveSource) → AgreesWith k live → but_unsent next ≡ but_unsent live → AgreesWith k next
unsent_agrees k live next agrees same s at = agrees s at ∙ sym same

-- ---- the first request

first_parts : (s : LiveSource) (waiting : List Request) (asked : Origin × Request) → first_waiting s waiting ≡ Some asked
    → (first_of waiting ≡ Some asked.1) × (asked.0 ≡ record { conn = s.setup.conn; request = s.admitted + 1 }) × (source_gives_first s waiting ≡ source_gives s)
first_parts s [] asked first = absurd cc
first_parts s (r ∷ rs) asked first = (ap (λ (x : Option (Origin × Request)). option_second x) first, sym (ap (λ (a : Origin × Request). a.0) (same first)), refl)
  where
    option_second : Option (Origin × Request) → Option Request
    option_second None = None
    option_second (Some a) = Some a.1

    same : Some (record { conn = s.setup.conn; request = s.admitted + 1 }, r) ≡ Some asked → (record { conn = s.setup.conn; request = s.admitted + 1 }, r) ≡ asked
    same e = cc

pub gives_first : (s : LiveSource) (asked : Origin × Request) → first_asked s ≡ Some asked → source_gives_first s s.waiting ≡ source_gives s
gives_first s asked first = (first_parts s s.waiting asked first).2

-- the page knows that it is the first, and where the routes lead it
pub is_asked : (k : SourceKnown) (live : LiveSource) (routes : List (List (List ℕ))) (number : ℕ) (asked : Origin × Request)
    → k.id ≡ live.setup.conn → Stands k → AgreesWith k live → k.routes ≡ Some routes → first_asked live ≡ Some asked → first_route routes live ≡ Some number
    → IsAsked k number asked.0 asked.1
is_asked k live routes number asked own stands agrees led first goes =
    let parts = first_parts live live.waiting asked first in
    let same = agrees stands.source stands.is in record {
      source = stands.source;
      is = stands.is;
      routes = routes;
      led = led;
      first = ap (λ (s : LiveSource). first_of s.waiting) same ∙ parts.0;
      here = sym (ap (option_and_then (λ (a : Origin × Request). route routes a.1.tag)) first) ∙ goes;
      named = parts.1 ∙ (λ i. record { conn = sym own i; request = (ap (λ (s : LiveSource). s.admitted + 1) (sym same)) i });
    }

module _ (k l : SourceKnown) (stands : Stands k) (gives : Gives k l) where
  pub gives_id : l.id ≡ k.id
  gives_id = ap (λ (n : SourceKnown). n.id) (gives stands.source stands.is)

  pub gives_stands : Stands l
  gives_stands = record {
    source = source_gives stands.source;
    is = ap (λ (n : SourceKnown). n.is) (gives stands.source stands.is);
    not_shut = stands.not_shut;
  }

  pub gives_agrees : (live next : LiveSource) → AgreesWith k live → next ≡ source_gives live → AgreesWith l next
  gives_agrees live next agrees is s at =
      ap but_unsent (some_source (sym at ∙ ap (λ (n : SourceKnown). n.is) (gives stands.source stands.is)))
      ∙ ap (λ (u : LiveSource). but_unsent (source_gives u)) (agrees stands.source stands.is)
      ∙ ap but_unsent (sym is)

-- ---- what a receipt proves

-- a run has begun just where its settings are known
abbrev Alike : Option LiveRelay → Option Config → Type 0
Alike None None = Unit {0}
Alike None (Some c) = ⊥
Alike (Some r) None = ⊥
Alike (Some r) (Some c) = Unit {0}

alike : (past : List RunEvent) → Alike (run_after past) (config_of past)
alike [] = tt
alike (e ∷ past) = by e (run_after past) (config_of past) (alike past)
  where
    by : (e : RunEvent) (x : Option LiveRelay) (y : Option Config) → Alike x y → Alike (moved x e) (begun y e)
    by (Opens c) None None a = tt
    by (Relay e) None None a = tt
    by (Leave o origins) None None a = tt
    by e None (Some c) a = absurd a
    by e (Some r) None a = absurd a
    by e (Some r) (Some c) a = tt

settings_known : (past : List RunEvent) (o : ℕ) (p : LiveOutput) → output_at past o ≡ Some p → (config : Config) × (config_of past ≡ Some config)
settings_known past o p at = by (run_after past) (config_of past) refl (alike past) at
  where
    by : (x : Option LiveRelay) (y : Option Config) → config_of past ≡ y → Alike x y → seen (λ r. output_in r o) x ≡ Some p → (config : Config) × (config_of past ≡ Some config)
    by None y is a at = absurd cc
    by (Some r) None is a at = absurd a
    by (Some r) (Some c) is a at = (c, is)

settings_on : (more old : List RunEvent) (config : Config) → config_of old ≡ Some config → config_of (more ++ old) ≡ Some config
settings_on [] old config known = known
settings_on (e ∷ more) old config known = ap (λ x. begun x e) (settings_on more old config known)

pub settings_come : (old past : List RunEvent) (config : Config) → Comes old past → config_of old ≡ Some config → config_of past ≡ Some config
settings_come old past config comes known = subst (λ l. config_of l ≡ Some config) comes.1 (settings_on comes.0 old config known)

-- the settings of a run in which an output gives receipts
pub settings_given : (past : List RunEvent) (setting : BookSetting) (given : List Receipt) → AreGivenAfter past setting given
    → (config : Config) × (config_of past ≡ Some config)
settings_given past setting given are = settings_known past setting.output are.output are.at

-- a receipt stands at its place
pub receipt_at : (rs given : List Receipt) (r : Receipt) → given ≡ rs → (has : Contains given r) → slice_get rs has.0 ≡ Some r
receipt_at rs given r same has = subst (λ l. slice_get l has.0 ≡ Some r) same (by given has.0 has.1 ∙ ap Some has.2)
  where
    by : (xs : List Receipt) (i : ℕ) → i < length xs → slice_get xs i ≡ Some (slice_index_or xs i r)
    by [] i few = absurd (omega (arith, few))
    by (x ∷ xs) zero few = refl
    by (x ∷ xs) (suc i) few = by xs i (omega (arith, few))
