-- A piece with which a value goes on or begins that is none of MessagePack.
use Rattle.std.proofs.Common.{◌≡◌, ◌≢◌, ℕ, ◌+◌, Bool, true, false, cond, List, [], ◌++◌, length, Some, None, refl, sym, ap, subst, ◌∙◌}
use Rattle.std.specs.Prelude.{map}
use Rattle.std.proofs.lemmas.List.{append-nil}
use Rattle.fwd_msgpack.specs.declared.fault.ScanFault.{ScanFault}
use Rattle.fwd_msgpack.specs.declared.limits.Limits.{Limits}
use Rattle.fwd_msgpack.specs.declared.scanner.Fed.{Fed}
use Rattle.fwd_msgpack.specs.declared.scanner.Fed.TheVariants as feds
use Rattle.fwd_msgpack.specs.Scanners.{Standing, fresh, heard, onward, taken}
use Rattle.fwd_msgpack.specs.Scans.{Whole, Bad, State, Going, Ended, Failed, first_of, start, verdict_of, whole_len}
use Rattle.fwd_msgpack.proofs.Fronts.{scanned, scanned-Ended, scanned-Failed}
use Rattle.fwd_msgpack.proofs.Pieces.{told_first}
use Rattle.fwd_msgpack.proofs.Wholes.{scanned-append, state_whole}
use Rattle.fwd_session.specs.declared.hearing.Hearing.{Hearing}
use Rattle.fwd_session.specs.declared.limits.TheConstants.{REPLY_LIMIT, REPLY_NESTING}
use Rattle.fwd_session.specs.declared.fault.SessionFault.TheVariants.{BadReply}
use Rattle.fwd_session.specs.declared.told.SessionHeard.TheVariants as told
use Rattle.fwd_session.specs.History.{told_of}
use Rattle.fwd_session.specs.Hearing.{shown}
use Rattle.fwd_session.specs.Said.{AsksForNothing, BeginsBroken, Said, failing, out_of, reply_stream, rest_of, said_in}
use Rattle.fwd_session.specs.Live.{LiveSession, falls_with, live_awaited, live_piece_out, live_piece_told, live_says, said_behind, session_hears, session_listens, session_takes}
use Rattle.fwd_session.proofs.Saying.{stream-bad}

pub no_true : false ≡ true → ⊥
no_true e = cc

-- ---- what comes behind an end, and behind a fault

state_bad : (state : State) (fault : ScanFault) → verdict_of state ≡ Bad fault
    → state ≡ Failed fault
state_bad (Going used stack item) fault e = absurd cc
state_bad (Ended used) fault e = absurd cc
state_bad (Failed other) fault e = cc

pub stays_bad : (limit deep : ℕ) (front behind : List ℕ) (fault : ScanFault)
    → first_of limit deep front ≡ Bad fault → first_of limit deep (front ++ behind) ≡ Bad fault
unfolding first_of
stays_bad limit deep front behind fault e =
    ap verdict_of (scanned-append limit deep start front behind
    ∙ ap (λ (state : State). scanned limit deep state behind) (state_bad (scanned limit deep start front) fault e)
    ∙ scanned-Failed limit deep fault behind)

pub stays_whole : (limit deep : ℕ) (front behind : List ℕ) (used : ℕ)
    → first_of limit deep front ≡ Whole used → first_of limit deep (front ++ behind) ≡ Whole used
unfolding first_of
stays_whole limit deep front behind used e =
    ap verdict_of (scanned-append limit deep start front behind
    ∙ ap (λ (state : State). scanned limit deep state behind) (state_whole (scanned limit deep start front) used e)
    ∙ scanned-Ended limit deep used behind)

-- ---- a scan of both

module _ (limits : Limits) (new one : Standing) (is : new ≡ fresh limits) where
  -- the first bytes, by what the scanner answers to them
  pub judged_front : (front : List ℕ) (fed : Fed) → one ≡ onward new front
      → verdict_of one.state ≡ heard (taken new.state) fed
      → first_of limits.bytes limits.depth front ≡ heard 0 fed
  judged_front front fed on told =
      told_first limits [] front new fed is (ap (λ (s : Standing). whole_len (verdict_of s.state)) is)
      (ap (λ (s : Standing). verdict_of s.state) (sym on) ∙ told)

  -- and all of them, where it goes on behind those
  pub judged_both : (front behind : List ℕ) (two : Standing) (fed : Fed) → one ≡ onward new front
      → verdict_of one.state ≡ heard (taken new.state) feds.More → two ≡ onward one behind
      → verdict_of two.state ≡ heard (taken one.state) fed
      → first_of limits.bytes limits.depth (front ++ behind) ≡ heard (length front) fed
  judged_both front behind two fed on going further told =
      told_first limits front behind one fed (on ∙ ap (λ (s : Standing). onward s front) is)
      (ap whole_len going) (ap (λ (s : Standing). verdict_of s.state) (sym further) ∙ told)

-- an answer that is no fault says that there is none
pub none_broken : (bytes : List ℕ) (n : ℕ) (fed : Fed)
    → first_of REPLY_LIMIT REPLY_NESTING bytes ≡ heard n fed
    → ((fault : ScanFault) → fed ≡ feds.Bad fault → ⊥) → BeginsBroken bytes → ⊥
none_broken bytes n feds.More is none broken = no (sym is ∙ broken.bad)
  where
    no : heard n feds.More ≡ Bad broken.fault → ⊥
    no e = cc
none_broken bytes n (feds.End used) is none broken = no (sym is ∙ broken.bad)
  where
    no : heard n (feds.End used) ≡ Bad broken.fault → ⊥
    no e = cc
none_broken bytes n (feds.Bad fault) is none broken = none fault refl

-- and so says an end in the first bytes
pub ended_whole : (front behind : List ℕ) (used : ℕ)
    → first_of REPLY_LIMIT REPLY_NESTING front ≡ heard 0 (feds.End used)
    → BeginsBroken (front ++ behind) → ⊥
ended_whole front behind used is broken =
    none_broken (front ++ behind) 0 (feds.End used)
    (stays_whole REPLY_LIMIT REPLY_NESTING front behind (0 + used) is) (λ fault e. cc) broken

-- a fault in the first bytes is one of all
pub broken_front : (front behind : List ℕ) (fault : ScanFault)
    → first_of REPLY_LIMIT REPLY_NESTING front ≡ heard 0 (feds.Bad fault)
    → BeginsBroken (front ++ behind)
broken_front front behind fault is = record {
  fault = fault;
  bad = stays_bad REPLY_LIMIT REPLY_NESTING front behind fault is;
}

-- ---- what it does

module _ (s : LiveSession) (bytes : List ℕ) (up : s.down ≡ false)
    (broken : BeginsBroken (s.rest ++ bytes)) where
  pub broken_said : live_says s bytes ≡ failing BadReply s.handshake
  broken_said = ap (said_in s.setup.login s.setup.salt s.handshake (live_awaited s)) (stream-bad (s.rest ++ bytes) broken.fault broken.bad)

  pub broken_told : live_piece_told s bytes ≡ told.Fault BadReply
  broken_told =
      ap (λ b. cond b told.NotUp (told_of s.handshake (live_says s bytes))) up
      ∙ ap (told_of s.handshake) broken_said

  pub broken_out : live_piece_out s bytes ≡ []
  broken_out = ap (λ b. cond b [] (out_of (live_says s bytes))) up ∙ ap out_of broken_said

  pub broken_next : session_hears s bytes ≡ record s {
    waiting = [];
    rest = [];
    carried = map (falls_with true) s.carried;
    down = true;
  }
  unfolding session_takes
  broken_next =
      ap (λ b. cond b s (session_listens s bytes)) up
      ∙ ap (λ (x : Said). session_takes s x (rest_of (reply_stream (s.rest ++ bytes)))) broken_said
      ∙ (λ i. record s {
        waiting = [];
        rest = [];
        carried = map (falls_with true) s.carried;
        accepted = append-nil s.accepted i;
        down = true;
      })

-- what is heard then asks for nothing, and has a fault
module _ (s : LiveSession) (bytes all : List ℕ) (joined : all ≡ s.rest ++ bytes)
    (broken : BeginsBroken (s.rest ++ bytes)) where
  said_all : said_behind s all ≡ failing BadReply s.handshake
  said_all =
      ap (λ xs. said_in s.setup.login s.setup.salt s.handshake (live_awaited s) (reply_stream xs)) joined
      ∙ ap (said_in s.setup.login s.setup.salt s.handshake (live_awaited s)) (stream-bad (s.rest ++ bytes) broken.fault broken.bad)

  pub broken_quiet : AsksForNothing (said_behind s all)
  broken_quiet = subst AsksForNothing (sym said_all) (refl, refl)

  pub broken_faulty : (h : Hearing) → shown s.handshake h ≡ said_behind s all → h.fault ≢ None
  broken_faulty h said none =
      no (sym (ap (λ (x : Said). x.fault) (said ∙ said_all)) ∙ none)
    where
      no : Some BadReply ≡ None → ⊥
      no e = cc
