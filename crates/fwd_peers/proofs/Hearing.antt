-- The bytes that come.
use Rattle.std.proofs.Common.{◌≡◌, false, List, ℕ, Bool, [], ◌∷◌, ap, sym, subst, ◌∙◌, arith}
use Rattle.fwd_peers.specs.declared.peer_state.PeerState.{PeerState}
use Rattle.fwd_peers.specs.declared.peer_stream.Visit.{Visit}
use Rattle.fwd_peers.specs.Streams.{StreamCall, IsReading, is_full}
use Rattle.fwd_peers.specs.Peers.{PeerShown, TakesIn, heard_at, stage_visited, Reads}

-- what is taken in depends only on the live part, on how far the connection has come, and on why it
-- was ended
pub taken_by : (s r t u : PeerShown) (bytes : List ℕ) (come : PeerState)
    → r.live ≡ s.live → r.stage ≡ s.stage → r.why ≡ s.why → u.live ≡ t.live → u.why ≡ t.why
    → TakesIn r bytes u.live come u.why → TakesIn s bytes t.live come t.why
taken_by s r t u [] come same here reason there ended taken =
    (sym there ∙ taken.0 ∙ same, taken.1 ∙ here, sym ended ∙ taken.2 ∙ reason)
taken_by s r t u (byte ∷ bytes) come same here reason there ended taken = grind arith

-- a visit gave bytes, they were taken in, and then the connection saw how the visit ended
pub reads : (now : ℕ) (to_end : Bool) (most : ℕ) (s r u t : PeerShown) (bytes : List ℕ) (end : Visit) (more : Bool)
    → IsReading to_end most s.reads bytes end r.reads → r ≡ record s { held = false; reads = r.reads }
    → TakesIn r bytes u.live u.stage u.why
    → u ≡ record r { stage = u.stage; why = u.why; live = u.live; room = u.room; heard = heard_at now bytes r.heard }
    → t ≡ record u { stage = stage_visited u.stage end } → more ≡ is_full end
    → Reads now to_end most s more t
reads now to_end most s r u t bytes end more visit given taken others visited full = record {
  bytes = bytes;
  end = end;
  visit =
      let P : List StreamCall → Type 0 = λ calls. IsReading to_end most s.reads bytes end calls in
      subst P (sym (ap (λ p. p.reads) others) ∙ sym (ap (λ p. p.reads) visited)) visit;
  heard = (
    u.stage,
    (
      taken_by s r t u bytes u.stage
          (ap (λ p. p.live) given) (ap (λ p. p.stage) given) (ap (λ p. p.why) given)
          (sym (ap (λ p. p.live) visited)) (sym (ap (λ p. p.why) visited)) taken,
      ap (λ p. p.stage) visited,
    ),
  );
  again = full;
  rest = grind arith;
}
