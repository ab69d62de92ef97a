-- What a session keeps in a turn: its setup, that it has no chunk, and its room.
use Rattle.std.proofs.Common.{◌≡◌, ◌<◌, drop, subst, Bool, true, false, cond, ℕ, List, [], ◌∷◌, ◌++◌, refl, sym, ap, ◌∙◌, ◌-◌, ◌+◌, length, arith}
use Rattle.std.specs.Prelude.{is_some, option_map, map, nat_lt, ◌&&◌}
use Rattle.std.proofs.lemmas.Bool.Decides.{nat_tests}
use Rattle.fwd_session.specs.ServerAcks.{Accepted}
use Rattle.fwd_session.specs.History.{Setup, first_in}
use Rattle.fwd_session.specs.Said.{accepted_by, left_by}
use Rattle.fwd_session.specs.Live.{
  LiveLoaded,
  LiveSession,
  falls_with,
  live_acked,
  live_chunks,
  live_has_chunk,
  live_is_late,
  live_is_ready,
  live_room,
  live_says,
  sends_through,
  session_hears,
  session_listens,
  session_looks,
  session_sends,
  session_takes,
  session_unloads,
}
use Rattle.fwd_session.proofs.Lists.{left_none, length_map, map_none}
use Rattle.fwd_workers.specs.Served.{IsFree, takes_more}

-- ---- what it hears

pub hears-setup : (s : LiveSession) (bytes : List ℕ) → (session_hears s bytes).setup ≡ s.setup
unfolding session_takes
hears-setup s bytes = by s.down
  where
    by : (down : Bool) → (cond down s (session_listens s bytes)).setup ≡ s.setup
    by true = refl
    by false = refl

-- no chunk is accepted where none is carried
none-accepted : (values : List (List ℕ)) → accepted_by values [] ≡ []
none-accepted [] = refl
none-accepted (v ∷ vs) = none-accepted vs

listens-free : (s : LiveSession) (bytes : List ℕ) → IsFree s → IsFree (session_listens s bytes)
unfolding session_takes
listens-free s bytes free =
    let said = live_says s bytes in
    record {
      carried = ap (λ xs. map (falls_with (is_some said.fault)) (left_by (λ l. l.chunk.name) said.replies xs)) free.carried
          ∙ ap (map (falls_with (is_some said.fault))) (left_none {A = LiveLoaded} (λ l. l.chunk.name) said.replies);
      accepted = ap (λ xs. xs ++ accepted_by said.replies (live_chunks s.carried)) free.accepted
          ∙ ap (λ xs. accepted_by said.replies (live_chunks xs)) free.carried
          ∙ none-accepted said.replies;
    }

pub hears-free : (s : LiveSession) (bytes : List ℕ) → IsFree s → IsFree (session_hears s bytes)
hears-free s bytes free = by s.down
  where
    by : (down : Bool) → IsFree (cond down s (session_listens s bytes))
    by true = free
    by false = listens-free s bytes free

-- ---- what is sent

pub sends-free : (s : LiveSession) (count : ℕ) → IsFree s → IsFree (session_sends s count)
sends-free s count free = record {
  carried = ap (map (sends_through count)) free.carried;
  accepted = free.accepted;
}

pub sends-room : (s : LiveSession) (count : ℕ) → live_room (session_sends s count) ≡ live_room s
sends-room s count =
    ap (λ n. s.setup.window - (n + length s.accepted))
    (length_map (sends_through count) s.carried)

pub sends-more : (s : LiveSession) (count : ℕ) → takes_more (session_sends s count) ≡ takes_more s
sends-more s count =
    ap (λ n. live_is_ready s && nat_lt 0 (s.setup.window - (n + length s.accepted)))
    (length_map (sends_through count) s.carried)

pub sends-nothing : (s : LiveSession) → s ≡ session_sends s 0
sends-nothing s = λ i. record s { carried = sym (map_none (sends_through 0) s.carried same) i }
  where
    fewer : (n : ℕ) → n - 0 ≡ n
    fewer n = omega arith

    same : (l : LiveLoaded) → sends_through 0 l ≡ l
    same l = λ i. record l { left = fewer l.left i }

-- ---- what keeps the setup

pub looks-setup : (s : LiveSession) (now : ℕ) → (session_looks s now).setup ≡ s.setup
unfolding session_looks
looks-setup s now = refl

pub looks-room : (s : LiveSession) (now : ℕ) → live_room (session_looks s now) ≡ live_room s
unfolding session_looks
looks-room s now =
    ap (λ n. s.setup.window - (n + length s.accepted))
    (length_map (falls_with (live_is_late s now)) s.carried)

-- the window of a session that has the setup of one with a window
pub same-window : (s t : LiveSession) → t.setup ≡ s.setup → 0 < s.setup.window
    → 0 < t.setup.window
same-window s t same some = subst (λ (x : Setup). 0 < x.window) (sym same) some

-- a session without chunks has room for one
pub free-room : (s : LiveSession) → IsFree s → 0 < s.setup.window → 0 < live_room s
free-room s free some = omega (arith, some, ap length free.carried, ap length free.accepted)

-- ---- whether it has chunks

pub empty : {X : Type 0} (xs : List X) → length xs ≡ 0 → xs ≡ []
empty [] e = refl
empty (x ∷ xs) e = absurd (omega (arith, e))

pub no-chunk : (s : LiveSession) → live_has_chunk s ≡ false → IsFree s
no-chunk s none =
    let few : length s.carried + length s.accepted ≡ 0 = grind (arith, nat_tests, none) in
    record {
      carried = empty s.carried (omega (arith, few));
      accepted = empty s.accepted (omega (arith, few));
    }

pub none-acked : (s : LiveSession) → is_some (live_acked s) ≡ false → s.accepted ≡ []
none-acked s none = by s.accepted none
  where
    by : (xs : List Accepted) → is_some (option_map (λ (a : Accepted). a.chunk) (first_in xs)) ≡ false → xs ≡ []
    by [] e = refl
    by (x ∷ xs) e = absurd cc

-- where a chunk was taken out that was accepted, one fewer is
pub unloads-less : (s : LiveSession) → is_some (live_acked s) ≡ true
    → length (session_unloads s).accepted < length s.accepted
unloads-less s some = by s.accepted some
  where
    by : (xs : List Accepted) → is_some (option_map (λ (a : Accepted). a.chunk) (first_in xs)) ≡ true
        → length (drop 1 xs) < length xs
    by [] e = absurd cc
    by (x ∷ xs) e = omega arith
