-- What a session was told of and heard is its link's, turn after turn.
use Rattle.std.proofs.Common.{arith, ◌≡◌, ◌≢◌, ◌<◌, ◌≤◌, ◌+◌, ◌-◌, ◌++◌, ◌⊎◌, inl, inr, ℕ, zero, suc, Bool, true, false, cond, List, [], ◌∷◌, take, drop, length, Option, Some, None, refl, sym, ap, subst, ◌∙◌}
use Rattle.std.specs.Prelude.{map, max, not, ◌&&◌, slice_get}
use Rattle.std.specs.List.{AllByRecursion}
use Rattle.std.proofs.lemmas.List.{append-nil, append_assoc, length-append, take-append-drop, take-append-le}
use Rattle.fwd_modes.specs.Heads.{head_bytes, reading_of, row_of}
use Rattle.fwd_modes.specs.Scans.{Split, fault_at, first_of, item_begun, parts_of, payload_ended, row_of_values, split_of, values_of}
use Rattle.fwd_modes.specs.Scans.Split.{Open, Broken}
use Rattle.fwd_modes.specs.Acks.{ack_name}
use Rattle.fwd_modes.specs.Frames.{chunk_frame}
use Rattle.fwd_chunks.specs.History.{CarriedChunk}
use Rattle.fwd_session.specs.declared.fault.SessionFault.{SessionFault}
use Rattle.fwd_session.specs.declared.told.SessionHeard.{SessionHeard}
use Rattle.fwd_session.specs.declared.told.SessionHeard.TheVariants as told
use Rattle.fwd_session.specs.ServerAcks.{Accepted, frame_of}
use Rattle.fwd_session.specs.Said.{behind, left_by, out_of, reply_stream, word_of}
use Rattle.fwd_session.specs.History.{
  IsAcknowledged as IsAcked,
  IsAppended,
  IsFramed,
  IsSane,
  Loaded,
  SessionHistory,
  Setup,
  begins,
  chunks_of,
  handshake_of,
  hears,
  is_done,
  listens,
  loads,
  looks,
  newly_accepted,
  newly_heard,
  piece_told,
  says,
  sends,
  to_send,
  told_by,
  told_of,
  unloads,
}
use Rattle.fwd_session.specs.Live.{
  LiveLoaded,
  LiveSession,
  live_chunks,
  live_is_ready,
  live_loaded,
  live_piece_told,
  live_session,
  session_begins,
  session_hears,
  session_loads,
  session_looks,
  session_sends,
  session_unloads,
}
use Rattle.fwd_session.proofs.Following.{
  begins-live,
  begins-sane,
  hears-live,
  hears-sane,
  loads-live,
  loads-sane,
  looks-live,
  looks-sane,
  ready-live,
  sends-live,
  sends-sane,
  told-live,
  unloads-live,
  unloads-sane,
}
use Rattle.fwd_session.proofs.Framing.{
  begins-framed,
  hears-framed,
  loads-framed,
  looks-framed,
  sends-framed,
  unloads-framed,
}
use Rattle.fwd_session.proofs.Accepting.{acknowledged as acked_each, each_accepts, joins}
use Rattle.fwd_session.proofs.Lists.{all_append, all_left, all_same, map_map}
use Rattle.fwd_workers.specs.declared.serve.Served.{Served}
use Rattle.fwd_workers.specs.declared.serve.Served.TheVariants as served
use Rattle.fwd_workers.proofs.Leading.{lives-then}
use Rattle.fwd_workers.specs.Served.{Seen, seen_of, Sends, Gives, Hears, Rests, Fails, HasHeard, IsServed, AreTheLinks, IsOver, IsAcknowledgedBy, IsAcknowledged, Deed, Serves, Loads, Looks, Unloads, Does, Lives, Life, HasLife, WasLoadedBehind, IsWrittenFirst, AreWrittenFirst}
use Rattle.std.proofs.lemmas.Option.{same_Some}

-- the first of a list, and then of what is left
take_more : {X : Type 0} (n m : ℕ) (xs : List X) → take (n + m) xs ≡ take n xs ++ take m (drop n xs)
take_more zero m xs = ap (λ k. take k xs) (plain m)
  where
    plain : (m : ℕ) → 0 + m ≡ m
    plain m = omega arith
take_more (suc n) m [] = ap (λ k. take k []) (plain n m) ∙ sym (nothing-left m)
  where
    plain : (n m : ℕ) → suc n + m ≡ suc (n + m)
    plain n m = omega arith

    nothing-left : {X : Type 0} (m : ℕ) → take {A = X} m [] ≡ []
    nothing-left zero = refl
    nothing-left (suc m) = refl
take_more (suc n) m (x ∷ xs) = ap (λ k. take k (x ∷ xs)) (plain n m) ∙ ap (λ ys. x ∷ ys) (take_more n m xs)
  where
    plain : (n m : ℕ) → suc n + m ≡ suc (n + m)
    plain n m = omega arith

-- the bytes that wait are those behind what was sent
waits : (s : SessionHistory) → s.down ≡ false → to_send s ≡ drop s.sent s.appended
waits s up = ap (λ d. cond d [] (drop s.sent s.appended)) up

live-waits : (s : SessionHistory) → (live_session s).waiting ≡ to_send s
unfolding live_session
live-waits s = refl

-- ---- the write

-- the session that was told of the write, as a history
told-live-mid : (s : SessionHistory) (middle : LiveSession) (before between : Seen)
    → (one : Sends (live_session s) middle before between)
    → middle ≡ live_session (sends s one.count)
told-live-mid s middle before between one = one.told ∙ sym (sends-live s one.count)

mid-sane : (s : SessionHistory) (middle : LiveSession) (before between : Seen) → IsSane s
    → s.down ≡ false → (one : Sends (live_session s) middle before between)
    → IsSane (sends s one.count)
mid-sane s middle before between sane up one =
    sends-sane s one.count sane up (subst (λ w. one.count ≤ length w) (live-waits s) one.within)

mid-bytes : (s : SessionHistory) (middle : LiveSession) (before between : Seen)
    → s.down ≡ false → AreTheLinks s before
    → (one : Sends (live_session s) middle before between) → AreTheLinks (sends s one.count) between
mid-bytes s middle before between up bytes one = record {
  taken = ap (λ (x : Seen). x.taken) one.seen
      ∙ (λ i. bytes.taken i ++ take one.count ((live-waits s ∙ waits s up) i))
      ∙ sym (take_more s.sent one.count s.appended);
  given = ap (λ (x : Seen). x.given) one.seen ∙ bytes.given;
}

-- ---- the read

heard-of : (s : SessionHistory) (bytes : List ℕ) → s.down ≡ false
    → hears s bytes ≡ listens s bytes (says s bytes)
heard-of s bytes up = ap (λ d. cond d s (listens s bytes (says s bytes))) up

-- a session has all bytes of another one, and more behind them, and some of its chunks
record Keeps (s h : SessionHistory) : Type 0 where
  more : List ℕ
  appended : h.appended ≡ s.appended ++ more
  replies : List (List ℕ)
  carried : h.carried ≡ left_by (λ l. l.chunk.name) replies s.carried

keeps-same : (s h : SessionHistory) → h.appended ≡ s.appended → h.carried ≡ s.carried → Keeps s h
keeps-same s h appended carried = record {
  more = [];
  appended = appended ∙ sym (append-nil s.appended);
  replies = [];
  carried = carried;
}

-- a session is over its link's bytes, and framed where this one is, whose bytes it keeps
abbrev IsOverFrom : SessionHistory → LiveSession → Seen → Type 0
IsOverFrom s t seen = (over : IsOver t seen) × (IsFramed s → IsFramed over.history) × Keeps s over.history

-- what was given was heard
hears-over : (s : SessionHistory) (middle t : LiveSession) (between after : Seen) (what : SessionHeard)
    → IsSane s → s.down ≡ false → middle ≡ live_session s → AreTheLinks s between
    → Hears what middle t between after → IsOverFrom s t after
hears-over s middle t between after what sane up live bytes heard = (
  record {
    history = hears s heard.0;
    live = heard.2 ∙ ap (λ m. session_hears m heard.0) live ∙ sym (hears-live s heard.0 sane);
    sane = hears-sane s heard.0 sane;
    bytes = subst (λ h. AreTheLinks h after) (sym (heard-of s heard.0 up)) (record {
      taken = ap (λ (x : Seen). x.taken) heard.1 ∙ bytes.taken
          ∙ sym (take-append-le s.sent s.appended (out_of (says s heard.0)) sane.sent);
      given = ap (λ (x : Seen). x.given) heard.1 ∙ ap (λ g. g ++ heard.0) bytes.given;
    });
  },
  λ own. hears-framed s heard.0 sane own,
  subst (Keeps s) (sym (heard-of s heard.0 up)) (record {
    more = out_of (says s heard.0);
    appended = refl;
    replies = (says s heard.0).replies;
    carried = refl;
  }),
)

-- nothing was heard
rests-over : (s : SessionHistory) (middle t : LiveSession) (between after : Seen) → IsSane s
    → middle ≡ live_session s → AreTheLinks s between → Rests middle t between after
    → IsOverFrom s t after
rests-over s middle t between after sane live bytes rests = (
  record {
    history = s;
    live = rests.0 ∙ live;
    sane = sane;
    bytes = subst (λ x. AreTheLinks s x) (sym rests.1) bytes;
  },
  λ own. own,
  keeps-same s s refl refl,
)

-- the link failed
fails-over : (s : SessionHistory) (middle t : LiveSession) (between after : Seen) → IsSane s
    → middle ≡ live_session s → AreTheLinks s between → Fails middle t between after
    → IsOverFrom s t after
fails-over s middle t between after sane live bytes fails = (
  record {
    history = s;
    live = fails.0 ∙ live;
    sane = sane;
    bytes = subst (λ x. AreTheLinks s x) (sym fails.1) (record { taken = bytes.taken; given = bytes.given });
  },
  λ own. own,
  keeps-same s s refl refl,
)

-- whatever the turn came to, but out of memory
turn-over : (what : Served) (s : SessionHistory) (middle t : LiveSession) (between after : Seen)
    → IsSane s → s.down ≡ false → middle ≡ live_session s → AreTheLinks s between
    → what ≢ served.Memory → HasHeard what middle t between after → IsOverFrom s t after
turn-over served.Quiet s middle t between after sane up live bytes some (inl heard) = hears-over s middle t between after told.Quiet sane up live bytes heard
turn-over served.Quiet s middle t between after sane up live bytes some (inr rests) = rests-over s middle t between after sane live bytes rests
turn-over served.Ready s middle t between after sane up live bytes some heard = hears-over s middle t between after told.Ready sane up live bytes heard
turn-over served.Acked s middle t between after sane up live bytes some heard = hears-over s middle t between after told.Acked sane up live bytes heard
turn-over (served.Down fault) s middle t between after sane up live bytes some heard = hears-over s middle t between after (told.Fault fault) sane up live bytes heard
turn-over served.Closed s middle t between after sane up live bytes some rests = rests-over s middle t between after sane live bytes rests
turn-over (served.Failed fault) s middle t between after sane up live bytes some fails = fails-over s middle t between after sane live bytes fails
turn-over served.Memory s middle t between after sane up live bytes some lost = absurd (some refl)

lasts-from : (s : SessionHistory) (what : Served) (t : LiveSession) (before after : Seen) → IsSane s
    → s.down ≡ false → AreTheLinks s before → IsServed what (live_session s) t before after
    → what ≢ served.Memory → IsOverFrom s t after
lasts-from s what t before after sane up bytes is some =
    let one = is.2 in
    let over = turn-over what (sends s one.count) is.0 t is.1 after (mid-sane s is.0 before is.1 sane up one) up
    (told-live-mid s is.0 before is.1 one) (mid-bytes s is.0 before is.1 up bytes one) some is.3 in
    let kept = over.2 in (
      over.0,
      λ own. over.1 (sends-framed s one.count own),
      record { more = kept.more; appended = kept.appended; replies = kept.replies; carried = kept.carried },
    )

pub lasts : (s : SessionHistory) (what : Served) (t : LiveSession) (before after : Seen) → IsSane s
    → s.down ≡ false → AreTheLinks s before → IsServed what (live_session s) t before after
    → what ≢ served.Memory → IsOver t after
lasts s what t before after sane up bytes is some =
    (lasts-from s what t before after sane up bytes is some).0

-- ---- an acknowledgement

-- a member of a list of which each has a property
all-at : {X : Type 0} (P : X → Type 0) (xs : List X) (place : ℕ) (x : X) → AllByRecursion P xs
    → slice_get xs place ≡ Some x → P x
all-at P [] zero x all e = absurd cc
all-at P [] (suc k) x all e = absurd cc
all-at P (y ∷ ys) zero x all e = subst P (same_Some _ _ e) all.0
all-at P (y ∷ ys) (suc k) x all e = all-at P ys k x all.1 e

-- a member of a list, under a function
map-at : {X Y : Type 0} (f : X → Y) (xs : List X) (place : ℕ) (x : X)
    → slice_get xs place ≡ Some x → slice_get (map f xs) place ≡ Some (f x)
map-at f [] zero x e = absurd cc
map-at f [] (suc k) x e = absurd cc
map-at f (y ∷ ys) zero x e = ap Some (ap f (same_Some _ _ e))
map-at f (y ∷ ys) (suc k) x e = map-at f ys k x e

-- the first of two lists, and what is taken of the second
take-past : {X : Type 0} (n : ℕ) (xs ys : List X) → length xs ≤ n
    → take n (xs ++ ys) ≡ xs ++ take (n - length xs) ys
take-past n [] ys le = ap (λ k. take k ys) (all n)
  where
    all : (n : ℕ) → n ≡ n - 0
    all n = omega arith
take-past zero (x ∷ xs) ys le = absurd (omega (arith, le))
take-past (suc n) (x ∷ xs) ys le =
    ap (λ zs. x ∷ zs) (take-past n xs ys (omega (arith, le)) ∙ ap (λ k. xs ++ take k ys) (fewer n (length xs)))
  where
    fewer : (n m : ℕ) → n - m ≡ suc n - suc m
    fewer n m = omega arith

-- a frame that was appended stands whole among the bytes that were sent, once it is handed on, and
-- behind the same front
frame-taken : (appended front back : List ℕ) (l : Loaded) (sent : ℕ)
    → appended ≡ front ++ frame_of l.chunk ++ back → l.through ≡ length (front ++ frame_of l.chunk)
    → l.through ≤ sent
    → (rest : List ℕ) × (take sent appended ≡ front ++ frame_of l.chunk ++ rest)
frame-taken appended front back l sent framed through within =
    let whole : List ℕ = front ++ frame_of l.chunk in (
      take (sent - length whole) back,
      ap (take sent) framed ∙ take-past sent whole back (omega (arith, within, through)),
    )

-- so of each acknowledgement that bytes bring the whole frame was written
each-by : (s : SessionHistory) (written read : List ℕ) → written ≡ take s.sent s.appended
    → AllByRecursion (IsAcknowledgedBy s written read) (newly_accepted s read)
each-by s written read is =
    all_same (IsAcked s read) (IsAcknowledgedBy s written read) (newly_accepted s read)
    (λ a one. record {
      place = one.place;
      loaded = one.loaded;
      carried = one.carried;
      chunk = one.chunk;
      frame = λ own.
          let there = all-at (IsAppended s.appended) s.carried one.place one.loaded own.framed one.carried in
          let taken = frame-taken s.appended there.front there.back one.loaded s.sent there.framed there.through one.handed_on in (
            there.front,
            taken.0,
            is ∙ taken.1 ∙ ap (λ c. there.front ++ frame_of c ++ taken.0) one.chunk,
            there.through ∙ ap (λ c. length (there.front ++ frame_of c)) one.chunk,
          );
      turn = one.turn;
      ended = one.ended;
      named = one.named;
    }) (acked_each s read)

-- what is told as an acknowledgement has one
replied : (fault : Option SessionFault) (replies : List (List ℕ)) (before after : Bool)
    → told_by fault replies before after ≡ told.Acked → 0 < length replies
replied (Some f) replies before after e = absurd cc
replied None (value ∷ replies) before after e = omega arith
replied None [] false true e = absurd cc
replied None [] false false e = absurd cc
replied None [] true true e = absurd cc
replied None [] true false e = absurd cc

-- a session that was told of an acknowledgement accepted one at least
some-accepted : (s : SessionHistory) (read : List ℕ) → s.down ≡ false
    → piece_told s read ≡ told.Acked → 0 < length (newly_accepted s read)
some-accepted s read up e =
    omega (
      arith,
      each_accepts s read,
      replied (says s read).fault (says s read).replies (is_done (handshake_of s)) (is_done (says s read).handshake)
          (sym (ap (λ d. cond d told.NotUp (told_of (handshake_of s) (says s read))) up) ∙ e),
    )

-- in a turn that came to that, of the session that was told of its write
turn-accepted : (s : SessionHistory) (middle t : LiveSession) (before between after : Seen)
    → IsSane s → s.down ≡ false → (one : Sends (live_session s) middle before between)
    → (heard : Hears told.Acked middle t between after)
    → 0 < length (newly_accepted (sends s one.count) heard.0)
turn-accepted s middle t before between after sane up one heard =
    some-accepted (sends s one.count) heard.0 up
    (told-live (sends s one.count) heard.0 (mid-sane s middle before between sane up one)
    ∙ ap (λ m. live_piece_told m heard.0) (sym (told-live-mid s middle before between one)) ∙ heard.3)

pub acknowledged : (s : SessionHistory) (t : LiveSession) (before after : Seen) → IsSane s
    → s.down ≡ false → AreTheLinks s before → IsServed served.Acked (live_session s) t before after
    → IsAcknowledged s before after
acknowledged s t before after sane up bytes is =
    let one = is.2 in
    let heard = is.3 in
    let written : before.taken ++ take one.count (to_send s) ≡ take (s.sent + one.count) s.appended =
    ap (λ w. before.taken ++ take one.count w) (sym (live-waits s))
    ∙ sym (ap (λ (x : Seen). x.taken) one.seen)
    ∙ (mid-bytes s is.0 before is.1 up bytes one).taken in
    record {
      count = one.count;
      read = heard.0;
      given = ap (λ (x : Seen). x.given) heard.1
          ∙ ap (λ (x : Seen). x.given ++ heard.0) one.seen;
      some = turn-accepted s is.0 t before is.1 after sane up one heard;
      each = each-by (sends s one.count) (before.taken ++ take one.count (to_send s)) heard.0 written;
    }

-- ---- where the value stands

values-behind : (n : ℕ) (s : Split) → values_of (behind n s) ≡ drop n (values_of s)
values-behind n (Open values rest) = refl
values-behind n (Broken values broken) = refl

slice_get-drop : {X : Type 0} (n : ℕ) (xs : List X) (k : ℕ) (x : X)
    → slice_get (drop n xs) k ≡ Some x → slice_get xs (n + k) ≡ Some x
slice_get-drop zero xs k x e = ap (λ i. slice_get xs i) (plain k) ∙ e
  where
    plain : (k : ℕ) → 0 + k ≡ k
    plain k = omega arith
slice_get-drop (suc n) [] k x e = absurd (nothing k e)
  where
    nothing : {X : Type 0} {x : X} (k : ℕ) → slice_get {X = X} [] k ≡ Some x → ⊥
    nothing zero e = cc
    nothing (suc k) e = cc
slice_get-drop (suc n) (y ∷ xs) k x e = ap (λ i. slice_get (y ∷ xs) i) (plain n k) ∙ slice_get-drop n xs k x e
  where
    plain : (n k : ℕ) → suc n + k ≡ suc (n + k)
    plain n k = omega arith

-- a value that a piece ended stands behind all values that were whole before it
value-at : (s : SessionHistory) (read value : List ℕ) (turn : ℕ)
    → slice_get (values_of (newly_heard s read)) turn ≡ Some value
    → (place : ℕ) × (length (values_of (reply_stream s.heard)) ≤ place)
    × (slice_get (values_of (reply_stream (s.heard ++ read))) place ≡ Some value)
value-at s read value turn ended =
    let n = length (values_of (reply_stream s.heard)) in
    let all = reply_stream (s.heard ++ read) in (
      n + turn,
      omega arith,
      slice_get-drop n (values_of all) turn value
          (ap (λ vs. slice_get vs turn) (sym (values-behind n all)) ∙ ended),
    )

-- ---- a life

-- a session whose bytes are its link's, and whose frames are whole
record IsAlive (t : LiveSession) (seen : Seen) : Type 0 where
  over : IsOver t seen
  framed : IsFramed over.history

live-down : (s : SessionHistory) → (live_session s).down ≡ s.down
unfolding live_session
live-down s = refl

live-chunks : (s : SessionHistory) → live_chunks (live_session s).carried ≡ chunks_of s.carried
unfolding live_session
live-chunks s = map_map (λ (l : LiveLoaded). l.chunk) (live_loaded s) s.carried

live-accepted : (s : SessionHistory) → (live_session s).accepted ≡ s.accepted
unfolding live_session
live-accepted s = refl

-- a session that is ready is up
ready-up : (down free : Bool) → not down && free ≡ true → down ≡ false
ready-up true free e = absurd cc
ready-up false free e = refl

-- the history of a session over its life, which is up as the session is
up-alive : (s : LiveSession) (seen : Seen) → (alive : IsAlive s seen) → s.down ≡ false
    → alive.over.history.down ≡ false
up-alive s seen alive up =
    sym (live-down alive.over.history) ∙ ap (λ (x : LiveSession). x.down) (sym alive.over.live) ∙ up

begins-alive : (setup : Setup) (start : Seen) → start.taken ≡ [] → start.given ≡ []
    → IsAlive (session_begins setup) start
begins-alive setup start taken given = record {
  over = record {
    history = begins setup;
    live = sym (begins-live setup);
    sane = begins-sane setup;
    bytes = record { taken = taken; given = given };
  };
  framed = begins-framed setup;
}

loads-alive : (s t : LiveSession) (seen : Seen) (c : CarriedChunk) (now : ℕ) → IsAlive s seen
    → live_is_ready s ≡ true → t ≡ session_loads s c now → IsAlive t seen
loads-alive s t seen c now alive ready is =
    let over = alive.over in
    let h = over.history in
    let up = up-alive s seen alive (ready-up s.down _ ready) in
    record {
      over = record {
        history = loads h c now;
        live = is ∙ ap (λ x. session_loads x c now) over.live ∙ sym (loads-live h c now over.sane up);
        sane = loads-sane h c now over.sane;
        bytes = record {
          taken = over.bytes.taken ∙ sym (take-append-le h.sent h.appended (frame_of c) over.sane.sent);
          given = over.bytes.given;
        };
      };
      framed = loads-framed h c now alive.framed
          (ready-live h ∙ ap live_is_ready (sym over.live) ∙ ready);
    }

looks-alive : (s t : LiveSession) (seen : Seen) (now : ℕ) → IsAlive s seen → s.down ≡ false
    → t ≡ session_looks s now → IsAlive t seen
looks-alive s t seen now alive up is =
    let over = alive.over in
    let h = over.history in
    let up_too = up-alive s seen alive up in
    record {
      over = record {
        history = looks h now;
        live = is ∙ ap (λ x. session_looks x now) over.live ∙ sym (looks-live h now up_too);
        sane = looks-sane h now over.sane up_too;
        bytes = record { taken = over.bytes.taken; given = over.bytes.given };
      };
      framed = looks-framed h now alive.framed;
    }

unloads-alive : (s t : LiveSession) (seen : Seen) → IsAlive s seen → t ≡ session_unloads s
    → IsAlive t seen
unloads-alive s t seen alive is =
    let over = alive.over in
    let h = over.history in
    record {
      over = record {
        history = unloads h;
        live = is ∙ ap session_unloads over.live ∙ sym (unloads-live h);
        sane = unloads-sane h over.sane;
        bytes = record { taken = over.bytes.taken; given = over.bytes.given };
      };
      framed = unloads-framed h alive.framed;
    }

serves-alive : (what : Served) (s t : LiveSession) (before after : Seen) → IsAlive s before
    → s.down ≡ false → what ≢ served.Memory → IsServed what s t before after → IsAlive t after
serves-alive what s t before after alive up some is =
    let over = alive.over in
    let h = over.history in
    let up_too = up-alive s before alive up in
    let next = lasts-from h what t before after over.sane up_too over.bytes
    (subst (λ x. IsServed what x t before after) over.live is) some in
    record { over = next.0; framed = next.1 alive.framed }

serves-keeps : (what : Served) (s t : LiveSession) (before after : Seen) (alive : IsAlive s before)
    (up : s.down ≡ false) (some : what ≢ served.Memory) (is : IsServed what s t before after)
    → Keeps alive.over.history (serves-alive what s t before after alive up some is).over.history
unfolding serves-alive
serves-keeps what s t before after alive up some is =
    let over = alive.over in
    (lasts-from over.history what t before after over.sane (up-alive s before alive up) over.bytes
    (subst (λ x. IsServed what x t before after) over.live is) some).2

-- ---- where the loads put the frames

-- a life with one deed more
abbrev and_then : Life → Deed → Life
and_then life deed = record { setup = life.setup; start = life.start; deeds = life.deeds ++ deed ∷ [] }

-- a chunk's frame stands where its load put it in the life, and its last byte is where the chunk says
record IsPut (life : Life) (s : LiveSession) (seen : Seen) (appended : List ℕ) (l : Loaded) : Type 0 where
  front : List ℕ
  back : List ℕ
  loaded : WasLoadedBehind life s seen l.chunk front
  framed : appended ≡ front ++ frame_of l.chunk ++ back
  through : l.through ≡ length (front ++ frame_of l.chunk)

-- a session is alive by its life, and the frames of its chunks stand where their loads put them
record IsStory (life : Life) (t : LiveSession) (seen : Seen) : Type 0 where
  alive : IsAlive t seen
  life_so_far : HasLife life t seen
  put : AllByRecursion (IsPut life t seen alive.over.history.appended) alive.over.history.carried

put-then : (life : Life) (deed : Deed) (s t : LiveSession) (seen next : Seen)
    (appended more : List ℕ) (l : Loaded) → Does deed s t seen next → IsPut life s seen appended l
    → IsPut (and_then life deed) t next (appended ++ more) l
put-then life deed s t seen next appended more l does put =
    let was = put.loaded in
    let load : Deed = Loads l.chunk was.now in
    record {
      front = put.front;
      back = put.back ++ more;
      loaded = record {
        before = was.before;
        now = was.now;
        later = was.later ++ deed ∷ [];
        split = ap (λ ds. ds ++ deed ∷ []) was.split ∙ append_assoc was.before (load ∷ was.later) (deed ∷ []);
        prior = was.prior;
        between = was.between;
        until = was.until;
        since = lives-then (load ∷ was.later) deed was.prior s t was.between seen next was.since does;
        behind = was.behind;
      };
      framed = ap (λ xs. xs ++ more) put.framed
          ∙ append_assoc (put.front ++ frame_of l.chunk) put.back more;
      through = put.through;
    }

-- a deed that loads nothing
keeps-story : (life : Life) (deed : Deed) (s t : LiveSession) (seen next : Seen)
    → (story : IsStory life s seen) → Does deed s t seen next → (alive : IsAlive t next)
    → Keeps story.alive.over.history alive.over.history → IsStory (and_then life deed) t next
keeps-story life deed s t seen next story does alive keeps =
    let h = story.alive.over.history in
    let g = alive.over.history in
    let Put : Loaded → Type 0 = IsPut (and_then life deed) t next g.appended in
    record {
      alive = alive;
      life_so_far = lives-then life.deeds deed (session_begins life.setup) s t life.start seen next story.life_so_far does;
      put = subst (AllByRecursion Put) (sym keeps.carried) (
          all_left Put (λ l. l.chunk.name) keeps.replies h.carried
          (all_same (IsPut life s seen h.appended) Put h.carried (λ l put.
          subst (λ xs. IsPut (and_then life deed) t next xs l) (sym keeps.appended)
          (put-then life deed s t seen next h.appended keeps.more l does put)) story.put));
    }

-- what a session was handed so far, and its link took or did not
handed : (s : LiveSession) (seen : Seen) → (alive : IsAlive s seen) → s.down ≡ false
    → alive.over.history.appended ≡ seen.taken ++ s.waiting
handed s seen alive up =
    let h = alive.over.history in
    sym (take-append-drop h.sent h.appended)
    ∙ (λ i. sym alive.over.bytes.taken i ++ sym (waits h (up-alive s seen alive up)) i)
    ∙ ap (λ w. seen.taken ++ w) (sym (live-waits h) ∙ ap (λ (x : LiveSession). x.waiting) (sym alive.over.live))

-- a chunk is loaded
loads-story : (life : Life) (s t : LiveSession) (seen : Seen) (c : CarriedChunk) (now : ℕ)
    → IsStory life s seen → Does (Loads c now) s t seen seen
    → IsStory (and_then life (Loads c now)) t seen
unfolding loads-alive
loads-story life s t seen c now story does =
    let alive = story.alive in
    let h = alive.over.history in
    let load : Deed = Loads c now in
    let one : Loaded =
    record { chunk = c; through = length (h.appended ++ frame_of c); moment = max h.moment now } in
    let there = handed s seen alive (ready-up s.down _ does.1) in
    let Put : Loaded → Type 0 = IsPut (and_then life load) t seen (h.appended ++ frame_of c) in
    record {
      alive = loads-alive s t seen c now alive does.1 does.2;
      life_so_far = lives-then life.deeds load (session_begins life.setup) s t life.start seen seen story.life_so_far does;
      put = all_append Put h.carried (one ∷ []) (all_same (IsPut life s seen h.appended) Put h.carried (λ l put.
          put-then life load s t seen seen h.appended (frame_of c) l does put) story.put) (
            record {
              front = h.appended;
              back = [];
              loaded = record {
                before = life.deeds;
                now = now;
                later = [];
                split = refl;
                prior = s;
                between = seen;
                until = story.life_so_far;
                since = (t, seen, does, (refl, refl));
                behind = there;
              };
              framed = sym (append-nil (h.appended ++ frame_of c));
              through = refl;
            },
            tt,
          );
    }

does-story : (life : Life) (deed : Deed) (s t : LiveSession) (before after : Seen)
    → IsStory life s before → Does deed s t before after → IsStory (and_then life deed) t after
unfolding looks-alive unloads-alive
does-story life (Serves what) s t before after story does =
    keeps-story life (Serves what) s t before after story does
    (serves-alive what s t before after story.alive does.0 does.1 does.2)
    (serves-keeps what s t before after story.alive does.0 does.1 does.2)
does-story life (Loads chunk now) s t before after story does =
    subst (IsStory (and_then life (Loads chunk now)) t) (sym does.3)
    (loads-story life s t before chunk now story (does.0, does.1, does.2, refl))
does-story life (Looks now) s t before after story does =
    let h = story.alive.over.history in
    subst (IsStory (and_then life (Looks now)) t) (sym does.2)
    (keeps-story life (Looks now) s t before before story (does.0, does.1, refl)
    (looks-alive s t before now story.alive does.0 does.1) (keeps-same h (looks h now) refl refl))
does-story life Unloads s t before after story does =
    let h = story.alive.over.history in
    subst (IsStory (and_then life Unloads) t) (sym does.2)
    (keeps-story life Unloads s t before before story (does.0, does.1, refl)
    (unloads-alive s t before story.alive does.1) (keeps-same h (unloads h) refl refl))

-- a life with more deeds
abbrev and_all : Life → List Deed → Life
and_all life deeds = record { setup = life.setup; start = life.start; deeds = life.deeds ++ deeds }

abbrev with_deeds : Life → List Deed → Life
with_deeds life deeds = record { setup = life.setup; start = life.start; deeds = deeds }

lives-story : (deeds : List Deed) (life : Life) (s t : LiveSession) (before after : Seen)
    → IsStory life s before → Lives deeds s t before after → IsStory (and_all life deeds) t after
lives-story [] life s t before after story rests =
    subst (λ ds. IsStory (with_deeds life ds) t after) (sym (append-nil life.deeds))
    (subst (λ x. IsStory life x after) (sym rests.0) (subst (IsStory life s) (sym rests.1) story))
lives-story (deed ∷ deeds) life s t before after story lives =
    subst (λ ds. IsStory (with_deeds life ds) t after) (append_assoc life.deeds (deed ∷ []) deeds)
    (lives-story deeds (and_then life deed) lives.0 t lives.1 after
    (does-story life deed s lives.0 before lives.1 story lives.2) lives.3)

begins-story : (setup : Setup) (start : Seen) → start.taken ≡ [] → start.given ≡ []
    → IsStory (record { setup = setup; start = start; deeds = [] }) (session_begins setup) start
unfolding begins-alive
begins-story setup start taken given = record {
  alive = begins-alive setup start taken given;
  life_so_far = (refl, refl);
  put = tt;
}

-- of each acknowledgement that a turn brings, the whole frame was written before it was read, where
-- its load put it
written-first : (life : Life) (h : SessionHistory) (middle : LiveSession) (before between after : Seen)
    (read : List ℕ)
    → AllByRecursion (IsPut life (live_session h) before h.appended) h.carried
    → h.down ≡ false → AreTheLinks h before
    → (sent : Sends (live_session h) middle before between) → Gives between read after
    → AllByRecursion (IsWrittenFirst life (live_session h) before between after)
    (newly_accepted (sends h sent.count) read)
written-first life h middle before between after read all up bytes sent gives =
    all_same (IsAcked g read) (IsWrittenFirst life (live_session h) before between after) (newly_accepted g read)
    (λ a one.
    let put = all-at (IsPut life (live_session h) before h.appended) h.carried one.place one.loaded all one.carried in
    let taken = frame-taken h.appended put.front put.back one.loaded g.sent put.framed put.through one.handed_on in
    let place = value-at g read a.reply one.turn one.ended in
    record {
      chunk = (
        one.place,
        ap (λ cs. slice_get cs one.place) (live-chunks h)
            ∙ map-at (λ (l : Loaded). l.chunk) h.carried one.place one.loaded one.carried ∙ ap Some one.chunk,
      );
      front = put.front;
      loaded = subst (λ c. WasLoadedBehind life (live_session h) before c put.front) one.chunk put.loaded;
      back = taken.0;
      frame = links.taken ∙ taken.1 ∙ ap (λ c. put.front ++ frame_of c ++ taken.0) one.chunk;
      named = one.named;
      place = place.0;
      unread = subst (λ g. length (values_of (reply_stream g)) ≤ place.0) (sym links.given) place.1;
      read = ap (λ g. slice_get (values_of (reply_stream g)) place.0)
          (ap (λ (x : Seen). x.given) gives ∙ ap (λ g. g ++ read) links.given) ∙ place.2;
    }) (acked_each g read)
  where
    g : SessionHistory
    g = sends h sent.count

    links : AreTheLinks g between
    links = mid-bytes h middle before between up bytes sent

story-at : (setup : Setup) (deeds : List Deed) (s : LiveSession) (start before : Seen)
    → start.taken ≡ [] → start.given ≡ [] → Lives deeds (session_begins setup) s start before
    → IsStory (record { setup = setup; start = start; deeds = deeds }) s before
story-at setup deeds s start before taken given lives =
    lives-story deeds (record { setup = setup; start = start; deeds = [] }) (session_begins setup) s
    start before (begins-story setup start taken given) lives

-- ---- whatever a turn comes to

-- what a session accepted that heard bytes
heard-accepted : (h : SessionHistory) (middle t : LiveSession) (before between after : Seen)
    (what : SessionHeard) → IsSane h → h.down ≡ false
    → (sent : Sends (live_session h) middle before between)
    → (heard : Hears what middle t between after)
    → t.accepted ≡ (live_session h).accepted ++ newly_accepted (sends h sent.count) heard.0
heard-accepted h middle t before between after what sane up sent heard =
    let mid : SessionHistory = sends h sent.count in
    ap (λ (x : LiveSession). x.accepted)
    (heard.2 ∙ ap (λ m. session_hears m heard.0) (told-live-mid h middle before between sent)
    ∙ sym (hears-live mid heard.0 (mid-sane h middle before between sane up sent)))
    ∙ live-accepted (hears mid heard.0) ∙ joins mid heard.0 up
    ∙ ap (λ xs. xs ++ newly_accepted mid heard.0) (sym (live-accepted h))

-- a turn, as what its session heard, if it heard anything
heard-what : (what : Served) (middle t : LiveSession) (between after : Seen)
    → HasHeard what middle t between after
    → ((heard : SessionHeard) × Hears heard middle t between after) ⊎ (t ≡ middle)
heard-what served.Quiet middle t between after (inl heard) = inl (told.Quiet, heard)
heard-what served.Quiet middle t between after (inr rests) = inr rests.0
heard-what served.Ready middle t between after heard = inl (told.Ready, heard)
heard-what served.Acked middle t between after heard = inl (told.Acked, heard)
heard-what (served.Down fault) middle t between after heard = inl (told.Fault fault, heard)
heard-what served.Closed middle t between after rests = inr rests.0
heard-what (served.Failed fault) middle t between after fails = inr fails.0
heard-what served.Memory middle t between after lost = inr lost.0

-- over a life, each acknowledgement that comes in a turn has its whole frame written before it
pub any-first : (setup : Setup) (deeds : List Deed) (what : Served) (s middle t : LiveSession)
    (start before between after : Seen)
    → start.taken ≡ [] → start.given ≡ [] → Lives deeds (session_begins setup) s start before
    → s.down ≡ false → Sends s middle before between → HasHeard what middle t between after
    → AreWrittenFirst (record { setup = setup; start = start; deeds = deeds }) s t before between after
any-first setup deeds what s middle t start before between after taken given lives up one has =
    by (heard-what what middle t between after has)
  where
    life : Life
    life = record { setup = setup; start = start; deeds = deeds }

    story : IsStory life s before
    story = story-at setup deeds s start before taken given lives

    alive : IsAlive s before
    alive = story.alive

    h : SessionHistory
    h = alive.over.history

    sent : Sends (live_session h) middle before between
    sent = subst (λ x. Sends x middle before between) alive.over.live one

    by : ((heard : SessionHeard) × Hears heard middle t between after) ⊎ (t ≡ middle)
        → AreWrittenFirst life s t before between after
    by (inl heard) =
        let up_too = up-alive s before alive up in
        let put = subst (λ x. AllByRecursion (IsPut life x before h.appended) h.carried) alive.over.live story.put in
        subst (λ x. AreWrittenFirst life x t before between after) (sym alive.over.live) (record {
          accepted = newly_accepted (sends h sent.count) heard.1.0;
          more = heard-accepted h middle t before between after heard.0 alive.over.sane up_too sent heard.1;
          each = written-first life h middle before between after heard.1.0 put up_too alive.over.bytes sent heard.1.1;
        })
    by (inr same) = record {
      accepted = [];
      more = ap (λ (x : LiveSession). x.accepted) (same ∙ one.told) ∙ sym (append-nil s.accepted);
      each = tt;
    }

-- over a life, a turn that comes to an acknowledgement brings one at least
pub whole-first : (setup : Setup) (deeds : List Deed) (s middle t : LiveSession)
    (start before between after : Seen)
    → start.taken ≡ [] → start.given ≡ [] → Lives deeds (session_begins setup) s start before
    → s.down ≡ false → Sends s middle before between
    → HasHeard served.Acked middle t between after → length s.accepted < length t.accepted
whole-first setup deeds s middle t start before between after taken given lives up one heard =
    let alive = (story-at setup deeds s start before taken given lives).alive in
    let h = alive.over.history in
    let up_too = up-alive s before alive up in
    let sent : Sends (live_session h) middle before between =
    subst (λ x. Sends x middle before between) alive.over.live one in
    let more = newly_accepted (sends h sent.count) heard.0 in
    omega (
      arith,
      ap length (heard-accepted h middle t before between after told.Acked alive.over.sane up_too sent heard),
      length-append (live_session h).accepted more,
      ap (λ (x : LiveSession). length x.accepted) alive.over.live,
      turn-accepted h middle t before between after alive.over.sane up_too sent heard,
    )

-- ---- the law at work

-- a session without a shared key, and a chunk of one entry whose name is one letter
abbrev plain_setup : Setup
plain_setup = record {
  server = 0;
  login = record {
    hostname = [];
    shared_key = None;
    username = [];
    password = [];
    hostname_fits = omega arith;
    username_fits = omega arith;
  };
  salt = [];
  ack_wait = 1000;
  window = 2;
  start = 0;
}

abbrev small_chunk : CarriedChunk
small_chunk = record {
  number = 1;
  tag = 97 ∷ [];
  entries = (0x92 ∷ 0x01 ∷ 0x80 ∷ []) ∷ [];
  name = 120 ∷ [];
}

-- it is loaded, and then its frame is written
abbrev loaded_session : LiveSession
loaded_session = session_loads (session_begins plain_setup) small_chunk 0

abbrev sent_session : LiveSession
sent_session = session_sends loaded_session (length loaded_session.waiting)

-- {"ack": "x"}
abbrev small_ack : List ℕ
small_ack = 0x81 ∷ 0xa3 ∷ 97 ∷ 99 ∷ 107 ∷ 0xa1 ∷ 120 ∷ []

-- the link before the turn, between its write and its read, and behind it
abbrev link_before : Seen
link_before = seen_of [] [] 0

abbrev link_between : Seen
link_between = seen_of (take (length loaded_session.waiting) loaded_session.waiting) [] 0

abbrev link_after : Seen
link_after = record link_between { given = small_ack }

small_ack-told : live_piece_told sent_session small_ack ≡ told.Acked
unfolding reply_stream split_of first_of word_of ack_name chunk_frame head_bytes reading_of row_of parts_of row_of_values payload_ended item_begun fault_at
small_ack-told = refl

-- there is such a life, and a turn that comes to `Acked`
loaded-life : Lives (Loads small_chunk 0 ∷ []) (session_begins plain_setup) loaded_session
    link_before link_before
loaded-life = (loaded_session, link_before, (omega arith, refl, refl, refl), (refl, refl))

loaded-sends : Sends loaded_session sent_session link_before link_between
loaded-sends =
    record { count = length loaded_session.waiting; within = omega arith; told = refl; seen = refl }

pub life-acked : AreWrittenFirst (record { setup = plain_setup; start = link_before; deeds = Loads small_chunk 0 ∷ [] })
    loaded_session (session_hears sent_session small_ack) link_before link_between link_after
life-acked =
    any-first plain_setup (Loads small_chunk 0 ∷ []) served.Acked loaded_session sent_session
    (session_hears sent_session small_ack) link_before link_before link_between link_after
    refl refl loaded-life refl loaded-sends (small_ack, refl, refl, small_ack-told)

-- less than the frame, behind all that was handed before its load, is not enough
pub less-refused : (life : Life) (s : LiveSession) (a : Accepted) (before written acknowledged : Seen)
    → (first : IsWrittenFirst life s before written acknowledged a)
    → length written.taken < length (first.loaded.between.taken ++ first.loaded.prior.waiting ++ frame_of a.chunk)
    → ⊥
less-refused life s a before written acknowledged first less =
    let frame : List ℕ = frame_of a.chunk in
    omega (
      arith,
      less,
      ap length first.frame,
      length-append (first.front ++ frame) first.back,
      ap (λ xs. length (xs ++ frame)) first.loaded.behind,
    )
