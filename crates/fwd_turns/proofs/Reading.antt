-- A read gives none of the requests that wait.
use Rattle.std.proofs.Common.{arith, ◌≡◌, ◌≢◌, ◌<◌, ◌≤◌, ◌⊎◌, inl, inr, Bool, true, false, ℕ, List, [], ◌∷◌, length, Option, Some, refl, ap, ◌∙◌}
use Rattle.std.specs.Prelude.{drop, nat_lt, if◌then◌else◌}
use Rattle.std.proofs.lemmas.Bool.Decides.{nat_tests}
use Rattle.fwd_source.specs.Live.{LiveSource, live_piece_next, source_hears}
use Rattle.fwd_peers.specs.Peers.{PeerShown, Reads, TakesIn, end_by, is_too_long}
use Rattle.fwd_peers.specs.declared.close_reason.CloseReason.TheVariants as reason
use Rattle.fwd_peers.specs.declared.close_reason.PeerEnd.{PeerEnd}
use Rattle.fwd_peers.specs.declared.limits.TheConstants.{UNSENT}
use Rattle.fwd_peers.specs.declared.peer_state.PeerState.{PeerState}
use Rattle.fwd_peers.specs.declared.peer_state.PeerState.TheVariants as stage
use Rattle.fwd_turns.specs.Leaving.{TakesAhead}
use Rattle.fwd_turns.specs.Visits.{judged}

-- a piece gives none
piece_gives : (s : LiveSource) (bytes : List ℕ) → (live_piece_next s bytes).admitted ≡ s.admitted
unfolding source_hears
piece_gives s bytes = by s.closed refl
  where
    by : (b : Bool) → s.closed ≡ b → (live_piece_next s bytes).admitted ≡ s.admitted
    by true e = grind (arith, e)
    by false e = grind (arith, e)

-- nor do bytes that come, or are refused
takes_gives : (s : PeerShown) (bytes : List ℕ) (live : LiveSource) (come : PeerState)
    (why : Option PeerEnd) → TakesIn s bytes live come why → live.admitted ≡ s.live.admitted
takes_gives s [] live come why same = ap (λ (l : LiveSource). l.admitted) same.0
takes_gives s (byte ∷ bytes) live come why (inl taken) =
    ap (λ (l : LiveSource). l.admitted) taken.0 ∙ piece_gives s.live (byte ∷ bytes)
takes_gives s (byte ∷ bytes) live come why (inr refused) =
    ap (λ (l : LiveSource). l.admitted) refused.0

-- nor does a visit to the stream
reads_gives : (now most : ℕ) (to_end more : Bool) (s t : PeerShown)
    → Reads now to_end most s more t → t.live.admitted ≡ s.live.admitted
reads_gives now most to_end more s t reads =
    takes_gives s reads.bytes t.live reads.heard.0 t.why reads.heard.1.0

is_few : (a b : ℕ) → nat_lt a b ≡ true → a < b
is_few a b few = grind (arith, nat_tests)

is_many : (a b : ℕ) → nat_lt a b ≡ false → b ≤ a
is_many a b many = grind (arith, nat_tests)

-- a connection is open or not
open_or_not : (come : PeerState) → (come ≡ stage.Open) ⊎ (come ≢ stage.Open)
open_or_not stage.Open = inl refl
open_or_not stage.Lingering = inr (λ e. cc)
open_or_not stage.Over = inr (λ e. cc)

-- one that is open is read, or left for what waits to be sent to it
while_open : (now most : ℕ) (to_end more : Bool) (s t : PeerShown) (few : Bool)
    → nat_lt (length s.live.unsent) UNSENT ≡ few
    → (UNSENT ≤ length s.live.unsent → (t ≡ record s { held = true }) × (more ≡ false))
    → (length s.live.unsent < UNSENT → Reads now to_end most s more t)
    → t.live.admitted ≡ s.live.admitted
while_open now most to_end more s t true is held read =
    reads_gives now most to_end more s t (read (is_few (length s.live.unsent) UNSENT is))
while_open now most to_end more s t false is held read =
    ap (λ (p : PeerShown). p.live.admitted)
    (held (is_many (length s.live.unsent) UNSENT is)).0

-- however far a connection has come
hears_gives : (now most : ℕ) (to_end more : Bool) (s t : PeerShown)
    → (s.stage ≢ stage.Open → (t ≡ s) × (more ≡ false))
    → (s.stage ≡ stage.Open → UNSENT ≤ length s.live.unsent
    → (t ≡ record s { held = true }) × (more ≡ false))
    → (s.stage ≡ stage.Open → length s.live.unsent < UNSENT → Reads now to_end most s more t)
    → (s.stage ≡ stage.Open) ⊎ (s.stage ≢ stage.Open) → t.live.admitted ≡ s.live.admitted
hears_gives now most to_end more s t closed held read (inl is_open) =
    while_open now most to_end more s t (nat_lt (length s.live.unsent) UNSENT) refl
    (held is_open) (read is_open)
hears_gives now most to_end more s t closed held read (inr not_open) =
    ap (λ (p : PeerShown). p.live.admitted) (closed not_open).0

-- nor is any given where a source is judged
judged_gives : (s : PeerShown) → (judged s).live.admitted ≡ s.live.admitted
judged_gives s = by (is_too_long s)
  where
    by : (b : Bool) → (if b then
        record s { stage = stage.Over; why = Some (end_by reason.NoLogin) }
        else s).live.admitted ≡ s.live.admitted
    by true = refl
    by false = refl

-- that leaves as it was how far it has come where the relay was asked to stop
pub judged_leaves : (s : PeerShown) → (judged s).leave ≡ s.leave
judged_leaves s = by (is_too_long s)
  where
    by : (b : Bool) → (if b then
        record s { stage = stage.Over; why = Some (end_by reason.NoLogin) }
        else s).leave ≡ s.leave
    by true = refl
    by false = refl

-- a source is read and judged
pub gives_none : (now most : ℕ) (to_end more : Bool) (s between t : PeerShown)
    → (s.stage ≢ stage.Open → (between ≡ s) × (more ≡ false))
    → (s.stage ≡ stage.Open → UNSENT ≤ length s.live.unsent
    → (between ≡ record s { held = true }) × (more ≡ false))
    → (s.stage ≡ stage.Open → length s.live.unsent < UNSENT
    → Reads now to_end most s more between)
    → t ≡ judged between → t.live.admitted ≡ s.live.admitted
gives_none now most to_end more s between t closed held read after =
    ap (λ (p : PeerShown). p.live.admitted) after ∙ judged_gives between
    ∙ hears_gives now most to_end more s between closed held read (open_or_not s.stage)

-- bytes are taken that the stream keeps
pub ahead_gives : (s t : PeerShown) (bytes : List ℕ)
    → (s.stage ≡ stage.Open → TakesIn s bytes t.live t.stage t.why)
    → (s.stage ≢ stage.Open → t ≡ s) → t.live.admitted ≡ s.live.admitted
ahead_gives s t bytes taken closed = by (open_or_not s.stage)
  where
    by : (s.stage ≡ stage.Open) ⊎ (s.stage ≢ stage.Open) → t.live.admitted ≡ s.live.admitted
    by (inl is_open) = takes_gives s bytes t.live t.stage t.why (taken is_open)
    by (inr not_open) = ap (λ (p : PeerShown). p.live.admitted) (closed not_open)

-- so they are where a source is judged by them
pub taken_gives : (taken : ℕ) (seen : List ℕ) (s t : PeerShown) → TakesAhead taken seen s t
    → t.live.admitted ≡ s.live.admitted
taken_gives taken seen s t ahead =
    ap (λ (p : PeerShown). p.live.admitted) ahead.after ∙ judged_gives ahead.between
    ∙ ahead_gives s ahead.between (drop taken seen) ahead.takes ahead.closed
