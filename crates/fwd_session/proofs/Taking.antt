-- What a session takes of what it heard.
use Rattle.std.proofs.Common.{◌≡◌, ℕ, ◌+◌, ◌-◌, Bool, true, false, cond, eqb, append_assoc, List, [], ◌∷◌, ◌++◌, length, max, Option, Some, None, Ok, Err, refl, sym, ap, subst, ◌∙◌, arith, length-append}
use Rattle.std.specs.Prelude.{map, find, remove, slice_get, option_map, is_some, ◌==◌, IfOk, OnOk, OnErr, Result}
use Rattle.std.specs.Arc.{arc_value}
use Rattle.std.proofs.lemmas.Bool.Decides.{nat_tests}
use Rattle.fwd_session.specs.declared.fault.SessionFault.{SessionFault}
use Rattle.fwd_handshake.specs.declared.credentials.Login.{Login}
use Rattle.fwd_chunks.specs.History.{CarriedChunk}
use Rattle.fwd_session.specs.declared.handshake.Handshake.{Handshake}
use Rattle.fwd_session.specs.declared.hearing.Ack.{Ack}
use Rattle.fwd_session.specs.declared.hearing.Hearing.{Hearing}
use Rattle.fwd_session.specs.Flights.{PendingChunk, awaited_of, live_pending}
use Rattle.fwd_session.specs.Hearing.{IsAckOf, AreAcksOf, replies_of, shown}
use Rattle.fwd_session.specs.Said.{Awaited, Said, names, without_first, left_by, accepted_by, accepted_for, said_in, reply_stream, rest_of}
use Rattle.fwd_session.specs.Live.{LiveLoaded, LiveSession, falls_with, live_awaited, live_chunks, live_is_late, live_room, said_behind, session_takes, session_listens, session_hears, session_looks}
use Rattle.fwd_session.proofs.Lists.{find_map, left_length, left_map, length_map, map_map, map_none, without_map}
use Rattle.fwd_session.proofs.Firsts.{first_find, first_map, first_without, map_remove, slice_map}

-- where there is a fault, the bytes of an unfinished value do not count
pub takes-rest : (s : LiveSession) (said : Said) (x y : List ℕ) → (said.fault ≡ None → x ≡ y)
    → session_takes s said x ≡ session_takes s said y
unfolding session_takes
takes-rest s said x y same = λ i. record s {
  handshake = said.handshake;
  waiting = cond (is_some said.fault) [] (s.waiting ++ said.out);
  rest = by said.fault refl i;
  carried = map (falls_with (is_some said.fault)) (left_by (λ l. l.chunk.name) said.replies s.carried);
  accepted = s.accepted ++ accepted_by said.replies (live_chunks s.carried);
  down = is_some said.fault;
}
  where
    by : (f : Option SessionFault) → said.fault ≡ f → cond (is_some f) [] x ≡ cond (is_some f) [] y
    by None e = same e
    by (Some f) e = refl

pub no_bytes : (xs : List ℕ) → (length xs == 0) ≡ true → xs ≡ []
no_bytes [] e = refl
no_bytes (x ∷ xs) e = absurd (grind (arith, nat_tests))

-- what was heard of the bytes of the unfinished value and a piece is what a piece does
pub hears-by : (s : LiveSession) (bytes all : List ℕ) (h : Hearing) → s.down ≡ false
    → s.rest ++ bytes ≡ all → shown s.handshake h ≡ said_behind s all
    → (h.fault ≡ None → h.rest.now ≡ rest_of (reply_stream all))
    → session_takes s (shown s.handshake h) h.rest.now ≡ session_hears s bytes
hears-by s bytes all h up joined same rests =
    takes-rest s (shown s.handshake h) h.rest.now (rest_of (reply_stream all)) rests
    ∙ ap (λ (x : Said). session_takes s x (rest_of (reply_stream all))) same
    ∙ ap (λ (x : List ℕ). session_takes s (said_behind s x) (rest_of (reply_stream x))) (sym joined)
    ∙ sym (ap (λ b. cond b s (session_listens s bytes)) up)

-- of a session that is up and not late only the moment grows
pub looks-up : (s : LiveSession) (now : ℕ) → s.down ≡ false → live_is_late s now ≡ false
    → record s { moment = max s.moment now } ≡ session_looks s now
unfolding session_looks
looks-up s now up none = λ i. record s {
  waiting = cond (sym none i) [] s.waiting;
  rest = cond (sym none i) [] s.rest;
  carried = (sym (map_none (falls_with false) s.carried (λ l. refl)) ∙ ap (λ b. map (falls_with b) s.carried) (sym none)) i;
  down = (up ∙ sym none) i;
  moment = max s.moment now;
}

-- a session of which chunks are acknowledged
abbrev pub accepts_all : List Ack → LiveSession → LiveSession
accepts_all acks s = record s {
  carried = left_by (λ l. l.chunk.name) (replies_of acks) s.carried;
  accepted = s.accepted ++ accepted_by (replies_of acks) (live_chunks s.carried);
}

abbrev pends : LiveLoaded → PendingChunk
pends l = record { chunk = l.chunk; is_handed_on = eqb l.left 0 }

-- the first of them, and then the others
pub accepts-first : (s t : LiveSession) (a : Ack) (acks : List Ack) (c : CarriedChunk) (server : ℕ)
    → IsAckOf server (live_pending s.carried) a
    → slice_get (live_chunks s.carried) a.place ≡ Some c
    → t ≡ record s {
      carried = remove s.carried a.place;
      accepted = s.accepted ++ record { chunk = c; reply = (arc_value a.acked).reply } ∷ [];
    }
    → accepts_all acks t ≡ accepts_all (a ∷ acks) s
accepts-first s t a acks c server ack there is =
    let r = (arc_value a.acked).reply in
    let vs = replies_of acks in
    let test : LiveLoaded → Bool = λ l. names r l.chunk.name in
    let of_chunk : CarriedChunk → Bool = λ k. names r k.name in
    let mine = first_map (λ (p : PendingChunk). names r p.chunk.name) pends s.carried a.place ack.acked.one ack.acked.first in
    let left : remove s.carried a.place ≡ without_first test s.carried = sym (first_without test s.carried a.place mine.0 mine.1) in
    let found : find of_chunk (live_chunks s.carried) ≡ Some c =
    find_map of_chunk (λ (l : LiveLoaded). l.chunk) s.carried
    ∙ ap (option_map (λ (l : LiveLoaded). l.chunk)) (first_find test s.carried a.place mine.0 mine.1 ∙ sym mine.1.there)
    ∙ sym (slice_map (λ (l : LiveLoaded). l.chunk) s.carried a.place) ∙ there in
    let rest : live_chunks (remove s.carried a.place) ≡ without_first of_chunk (live_chunks s.carried) = ap live_chunks left ∙ sym (without_map of_chunk (λ (l : LiveLoaded). l.chunk) s.carried) in
    ap (accepts_all acks) is
    ∙ (λ i. record s {
      carried = left_by (λ (l : LiveLoaded). l.chunk.name) vs (left i);
      accepted = (ap (λ ks. (s.accepted ++ record { chunk = c; reply = r } ∷ []) ++ accepted_by vs ks) rest
          ∙ append_assoc s.accepted (record { chunk = c; reply = r } ∷ []) (accepted_by vs (without_first of_chunk (live_chunks s.carried)))
          ∙ ap (λ o. s.accepted ++ (accepted_for r o ++ accepted_by vs (without_first of_chunk (live_chunks s.carried)))) (sym found)) i;
    })

-- the others are of those that it leaves
pub acks-left : (s t : LiveSession) (a : Ack) (acks : List Ack) (c : CarriedChunk)
    → AreAcksOf s.setup.server (remove (live_pending s.carried) a.place) acks
    → t ≡ record s {
      carried = remove s.carried a.place;
      accepted = s.accepted ++ record { chunk = c; reply = (arc_value a.acked).reply } ∷ [];
    }
    → AreAcksOf t.setup.server (live_pending t.carried) acks
acks-left s t a acks c are is =
    subst (λ (u : LiveSession). AreAcksOf u.setup.server (live_pending u.carried) acks) (sym is)
    (subst (λ ps. AreAcksOf s.setup.server ps acks) (sym (map_remove pends s.carried a.place)) are)

-- what is awaited of a session's chunks
pub awaited_pending : (s : LiveSession) → awaited_of (live_pending s.carried) ≡ live_awaited s
awaited_pending s = map_map (λ (p : PendingChunk). let one : Awaited = record { name = p.chunk.name; is_handed_on = p.is_handed_on } in one) pends s.carried

-- what is heard while a session's chunks are awaited is what it says
pub heard-said : {E : Type 0} (r : Result Hearing E) (s : LiveSession) (bytes : List ℕ)
    (login : Login) (salt : List ℕ) (at : Handshake) (pending : List PendingChunk)
    → login ≡ s.setup.login → salt ≡ s.setup.salt → at ≡ s.handshake
    → pending ≡ live_pending s.carried
    → IfOk r (λ h. shown at h ≡ said_in login salt at (awaited_of pending) (reply_stream bytes))
    → IfOk r (λ h. shown s.handshake h ≡ said_behind s bytes)
heard-said (Err x) s bytes login salt at pending l k a p same = tt
heard-said (Ok h) s bytes login salt at pending l k a p same =
    (λ i. shown (sym a i) h) ∙ same
    ∙ (λ i. said_in (l i) (k i) (a i) ((ap awaited_of p ∙ awaited_pending s) i) (reply_stream bytes))

pub said-same : (s : LiveSession) (bytes : List ℕ)
    (login : Login) (salt : List ℕ) (at : Handshake) (pending : List PendingChunk)
    → login ≡ s.setup.login → salt ≡ s.setup.salt → at ≡ s.handshake
    → pending ≡ live_pending s.carried
    → said_in login salt at (awaited_of pending) (reply_stream bytes) ≡ said_behind s bytes
said-same s bytes login salt at pending l k a p =
    λ i. said_in (l i) (k i) (a i) ((ap awaited_of p ∙ awaited_pending s) i) (reply_stream bytes)

-- what is acknowledged stays until it is taken out
takes-room : (s : LiveSession) (said : Said) (rest : List ℕ)
    → live_room (session_takes s said rest) ≡ live_room s
unfolding session_takes
takes-room s said rest =
    let vs = said.replies in
    let cs = live_chunks s.carried in
    let left = left_by (λ (l : LiveLoaded). l.chunk.name) vs s.carried in
    let down : length (map (falls_with (is_some said.fault)) left) ≡ length left = length_map (falls_with (is_some said.fault)) left in
    let chunks : length left ≡ length (left_by (λ (c : CarriedChunk). c.name) vs cs) =
    sym (ap length (left_map (λ (c : CarriedChunk). c.name) (λ (l : LiveLoaded). l.chunk) vs s.carried) ∙ length_map (λ (l : LiveLoaded). l.chunk) left) in
    let both : length (map (falls_with (is_some said.fault)) left) + length (s.accepted ++ accepted_by vs cs) ≡ length s.carried + length s.accepted =
    omega (arith, down, chunks, left_length vs cs, length_map (λ (l : LiveLoaded). l.chunk) s.carried, length-append s.accepted (accepted_by vs cs)) in
    ap (λ n. s.setup.window - n) both

pub taken-room : {A E : Type 0} (r : Result A E) (s t : LiveSession) (said : Said)
    (rest : List ℕ) → OnOk r (t ≡ session_takes s said rest) → OnErr r (t ≡ s)
    → live_room t ≡ live_room s
taken-room (Ok x) s t said rest ok err = ap live_room ok ∙ takes-room s said rest
taken-room (Err x) s t said rest ok err = ap live_room err
