-- An output is the live part of a history that its own events reach, and stays so.
use Rattle.std.proofs.Common.{◌≡◌, ◌<◌, ◌^◌, ℕ, zero, suc, Bool, true, false, cond, List, [], ◌∷◌, ◌++◌, Option, Some, None, refl, sym, ap, subst, ◌∙◌, max, inl, inr}
use Rattle.std.specs.Prelude.{◌⊎◌, IfSome, Result, Ok, Err, map, filter, not, slice_get, ◌&&◌, ◌||◌}
use Rattle.std.specs.List.{flat_map, list_all}
use Rattle.std.proofs.lemmas.Option.{none-some, same_Some}
use Rattle.std.proofs.lemmas.Bool.{and_parts}
use Rattle.fwd_modes.specs.Requests.{Request}
use Rattle.fwd_modes.specs.declared.origin.Origin.{Origin}
use Rattle.fwd_chunks.specs.declared.fault.AdmitError.{AdmitError}
use Rattle.fwd_chunks.specs.declared.flush.FlushKind.{FlushKind}
use Rattle.fwd_chunks.specs.Cells.{is_carried, has_number}
use Rattle.fwd_chunks.specs.History.{BufferSetting, BufferHistory, CarriedChunk, carried_chunk_of, spans_of, looks, frees}
use Rattle.fwd_chunks.specs.declared.wanted.Wanted.{Wanted}
use Rattle.fwd_chunks.specs.Live.{LiveBuffer, live_buffer, IsCarried, live_refusal, live_looks, live_flushes, live_takes, live_frees}
use Rattle.fwd_chunks.proofs.Follows as buffer
use Rattle.fwd_chunks.proofs.Sane as sane
use Rattle.fwd_chunks.proofs.News.{enters-acknowledged, spans-unacked}
use Rattle.fwd_failover.specs.History.{ServersSetting, ServersHistory}
use Rattle.fwd_failover.specs.Live.{LiveServers, live_servers}
use Rattle.fwd_failover.proofs.Kept.{live-looked, live-lost, live-settled}
use Rattle.fwd_session.specs.ServerAcks.{ServerAck, IsServerAck}
use Rattle.fwd_session.proofs.Lists.{find_passes}
use Rattle.fwd_book.specs.History as books
use Rattle.fwd_book.specs.History.{Entered, Fate, Admission, BookHistory, CanBeTold, entered_as, are_fresh, is_untold, is_among, is_origin, is_settled, leaves, request_at, untold}
use Rattle.fwd_book.specs.Receipts.{Receipt, once, receipt_if, receipt_of, receipts}
use Rattle.fwd_book.specs.Live as kept
use Rattle.fwd_book.specs.Live.{LiveBook, AreApart, live_book, live_leaves, live_forgets_of}
use Rattle.fwd_book.proofs.Facts.{origin-is}
use Rattle.fwd_book.proofs.Following.{follows-enters, follows-settles, follows-tells, follows-forgets, follows-forgets_of, follows-receipts}
use Rattle.fwd_book.proofs.Whose.{found-own}
use Rattle.fwd_model.specs.Outputs.{OutputHistory, Return, LiveOutput, live_output, moment_if, gets_back, loses, live_loses, no_history, no_requests, output_enters, output_settles, output_looks}
use Rattle.fwd_model.proofs.Settled.{numbers_in, numbers_in-push, unsettled-fresh}
use Rattle.fwd_model.proofs.Follows.Ends.{back-keeps}
use Rattle.fwd_output.specs.Coupling.{IsCoupled}
use Rattle.fwd_output.specs.HandedBack.{Handed, IsHandedBack}
use Rattle.fwd_output.specs.OutputEvents.{OutputEvent, AreTheirs, MayCome, output_next, Lead, IsReachedOutput, IsLiveOutput}
use Rattle.fwd_output.specs.OutputEvents.OutputEvent.{Enter, Flush, Look, Take, Settle, End, PutBack, Tell, Forget, ForgetAll}
use Rattle.fwd_output.proofs.CarriedLemmas.{carried-or}

-- what holds of every output's parts
abbrev pub Holds : LiveBuffer → LiveBook → LiveServers → Type 0
Holds b k s = IsCoupled b k × IsLiveOutput (record { buffer = b; book = k; servers = s })

-- ---- what holds of each history that a run reaches

-- its buffer is sane, and its book knows of the numbers that were acknowledged
pub record IsSaneOutput (o : OutputHistory) : Type 0 where
  pub buffer : sane.IsSane o.buffer
  pub marks : numbers_in o.book.settled ≡ o.buffer.acknowledged

opening-sane : (setting : BufferSetting) (servers : ServersSetting)
    → IsSaneOutput (no_history setting servers)
opening-sane setting servers = record { buffer = sane.opening-sane setting; marks = refl }

backs-sane : (back : List Return) (b : BufferHistory) (now : ℕ) → sane.IsSane b
    → AreTheirs b back now → sane.IsSane (gets_back b back now)
backs-sane [] b now own theirs = own
backs-sane (r ∷ back) b now own theirs =
    backs-sane back (frees b r.number (moment_if r.lost now)) now (sane.frees-sane b r.number (moment_if r.lost now) own theirs.0) theirs.1

leaves-settled : (fate : Fate) (gone : Admission → Bool) (b : BookHistory)
    → (leaves fate gone b).settled ≡ b.settled
unfolding leaves
leaves-settled fate gone b = refl

next-sane : (o : OutputHistory) (e : OutputEvent) → IsSaneOutput o → MayCome o e
    → IsSaneOutput (output_next o e)
next-sane o (Enter origin r now) own may = record {
  buffer = sane.enters-sane o.buffer origin r now own.buffer;
  marks = own.marks ∙ sym (enters-acknowledged o.buffer origin r now);
}
next-sane o (Flush now kind) own may =
    record { buffer = sane.flushes-sane o.buffer now kind own.buffer; marks = own.marks }
next-sane o (Look now) own may =
    record { buffer = sane.looks-sane o.buffer now own.buffer; marks = own.marks }
next-sane o (Take worker wanted now) own may =
    record { buffer = sane.takes-sane o.buffer worker wanted now own.buffer; marks = own.marks }
next-sane o (Settle e) own may = record {
  buffer = sane.settles-sane o.buffer e.number own.buffer may.0;
  marks = numbers_in-push o.book.settled e ∙ ap (λ ns. ns ++ e.number ∷ []) own.marks;
}
next-sane o (End back server now) own may = record {
  buffer = backs-sane back (looks o.buffer now) now (sane.looks-sane o.buffer now own.buffer) may;
  marks = own.marks ∙ sym (back-keeps o.buffer now back).acknowledged;
}
next-sane o (PutBack number) own may =
    record { buffer = sane.frees-sane o.buffer number None own.buffer may; marks = own.marks }
next-sane o (Tell origins) own may = record {
  buffer = own.buffer;
  marks = ap numbers_in (leaves-settled books.Told (λ a. is_among origins a.request.origin && is_settled o.book.settled a.request) o.book) ∙ own.marks;
}
next-sane o (Forget origins) own may = record {
  buffer = own.buffer;
  marks = ap numbers_in (leaves-settled books.Forgotten (λ a. is_among origins a.request.origin) o.book) ∙ own.marks;
}
next-sane o (ForgetAll conn) own may = record {
  buffer = own.buffer;
  marks = ap numbers_in (leaves-settled books.Forgotten (books.is_owed_to conn) o.book) ∙ own.marks;
}

lead-sane : (o p : OutputHistory) (es : List OutputEvent) → IsSaneOutput o → Lead o es p
    → IsSaneOutput p
lead-sane o p [] own same = subst IsSaneOutput (sym same) own
lead-sane o p (e ∷ es) own lead =
    lead-sane (output_next o e) p es (next-sane o e own lead.0) lead.1

pub standing-sane : (l : LiveOutput) (t : IsLiveOutput l) → IsSaneOutput t.history
standing-sane l t =
    let r = t.reached in
    lead-sane (no_history r.setting r.servers) t.history r.events (opening-sane r.setting r.servers) r.leads

-- ---- a run goes on

lead-more : (o p : OutputHistory) (es : List OutputEvent) (e : OutputEvent) → Lead o es p
    → MayCome p e → Lead o (es ++ e ∷ []) (output_next p e)
lead-more o p [] e same may = (subst (λ x. MayCome x e) same may, ap (λ x. output_next x e) same)
lead-more o p (d ∷ es) e lead may = (lead.0, lead-more (output_next o d) p es e lead.1 may)

-- no event changes what the servers are set to
setting-stays : (h : OutputHistory) (e : OutputEvent) → (output_next h e).setting ≡ h.setting
setting-stays h (Enter origin r now) = refl
setting-stays h (Flush now kind) = refl
setting-stays h (Look now) = refl
setting-stays h (Take worker wanted now) = refl
setting-stays h (Settle e) = refl
setting-stays h (End back server now) = refl
setting-stays h (PutBack number) = refl
setting-stays h (Tell origins) = refl
setting-stays h (Forget origins) = refl
setting-stays h (ForgetAll conn) = refl

pub one-more : (h : OutputHistory) (e : OutputEvent) → IsReachedOutput h → MayCome h e
    → IsReachedOutput (output_next h e)
one-more h e r may = record {
  setting = r.setting;
  servers = r.servers;
  events = r.events ++ e ∷ [];
  leads = lead-more (no_history r.setting r.servers) h r.events e r.leads may;
  waits = subst (λ (s : ServersSetting). s.retry_max < 2 ^ 64) (sym (setting-stays h e)) r.waits;
}

-- an event may come to a history, and leads to what is shown
pub record Turn (h : OutputHistory) (l : LiveOutput) : Type 0 where
  pub event : OutputEvent
  pub may : MayCome h event
  pub is : l ≡ live_output (output_next h event)

-- an event comes, and does to the history what is done to its live part
moves : (f : LiveOutput → LiveOutput) (e : OutputEvent) (l : LiveOutput) (t : IsLiveOutput l)
    → MayCome t.history e → live_output (output_next t.history e) ≡ f (live_output t.history)
    → Turn t.history (f l)
moves f e l t may follows = record { event = e; may = may; is = ap f t.is ∙ sym follows }

-- what is shown then is the live part of a history too
goes : (l m : LiveOutput) (t : IsLiveOutput l) → Turn t.history m → IsLiveOutput m
goes l m t turn = record {
  history = output_next t.history turn.event;
  reached = one-more t.history turn.event t.reached turn.may;
  is = turn.is;
}

-- ---- the events

pub begins : (setting : BufferSetting) (servers : ServersSetting) → servers.retry_max < 2 ^ 64
    → IsLiveOutput (no_requests setting servers)
unfolding live_output live_buffer live_book
begins setting servers fits = record {
  history = no_history setting servers;
  reached = record { setting = setting; servers = servers; events = []; leads = refl; waits = fits };
  is = refl;
}

abbrev pub with_buffer : LiveBuffer → LiveOutput → LiveOutput
with_buffer b l = record { buffer = b; book = l.book; servers = l.servers }

flush-follows : (h : OutputHistory) (now : ℕ) (kind : FlushKind) → IsSaneOutput h
    → live_output (output_next h (Flush now kind))
    ≡ with_buffer (live_flushes (live_output h).buffer now kind) (live_output h)
unfolding live_output
flush-follows h now kind own = λ i. record {
  buffer = buffer.flushes-live h.buffer now kind own.buffer i;
  book = live_book h.book;
  servers = live_servers h.setting h.servers;
}

pub flush-turn : (l : LiveOutput) (now : ℕ) (kind : FlushKind) (t : IsLiveOutput l)
    → Turn t.history (with_buffer (live_flushes l.buffer now kind) l)
flush-turn l now kind t =
    moves (λ x. with_buffer (live_flushes x.buffer now kind) x) (Flush now kind) l t tt (flush-follows t.history now kind (standing-sane l t))

pub flushes : (l : LiveOutput) (now : ℕ) (kind : FlushKind) → IsLiveOutput l
    → IsLiveOutput (with_buffer (live_flushes l.buffer now kind) l)
flushes l now kind t = goes l (with_buffer (live_flushes l.buffer now kind) l) t (flush-turn l now kind t)

take-follows : (h : OutputHistory) (worker : ℕ) (wanted : Wanted) (now : ℕ) → IsSaneOutput h
    → live_output (output_next h (Take worker wanted now))
    ≡ with_buffer (live_takes (live_output h).buffer worker wanted now) (live_output h)
unfolding live_output
take-follows h worker wanted now own = λ i. record {
  buffer = buffer.takes-live h.buffer worker wanted now h.buffer.setting.limits.bounded own.buffer i;
  book = live_book h.book;
  servers = live_servers h.setting h.servers;
}

pub take-turn : (l : LiveOutput) (worker : ℕ) (wanted : Wanted) (now : ℕ) (t : IsLiveOutput l)
    → Turn t.history (with_buffer (live_takes l.buffer worker wanted now) l)
take-turn l worker wanted now t =
    moves (λ x. with_buffer (live_takes x.buffer worker wanted now) x) (Take worker wanted now) l t tt (take-follows t.history worker wanted now (standing-sane l t))

pub takes : (l : LiveOutput) (worker : ℕ) (wanted : Wanted) (now : ℕ) → IsLiveOutput l
    → IsLiveOutput (with_buffer (live_takes l.buffer worker wanted now) l)
takes l worker wanted now t = goes l (with_buffer (live_takes l.buffer worker wanted now) l) t (take-turn l worker wanted now t)

look-follows : (h : OutputHistory) (now : ℕ)
    → live_output (output_next h (Look now)) ≡ output_looks (live_output h) now
unfolding live_output live_buffer
look-follows h now = λ i. record {
  buffer = buffer.looks-live h.buffer now i;
  book = live_book h.book;
  servers = live-looked h.setting h.servers (max h.buffer.moment now) i;
}

pub look-turn : (l : LiveOutput) (now : ℕ) (t : IsLiveOutput l) → Turn t.history (output_looks l now)
look-turn l now t = moves (λ x. output_looks x now) (Look now) l t tt (look-follows t.history now)

pub looked : (l : LiveOutput) (now : ℕ) → IsLiveOutput l → IsLiveOutput (output_looks l now)
looked l now t = goes l (output_looks l now) t (look-turn l now t)

enter-follows : (h : OutputHistory) (origin : Origin) (r : Request) (now : ℕ) → IsSaneOutput h
    → live_output (output_next h (Enter origin r now))
    ≡ output_enters (live_output h) origin r now
unfolding live_output
enter-follows h origin r now own =
    let spans = spans_of h.buffer origin r now in
    let fresh : are_fresh h.book.settled spans ≡ true =
    unsettled-fresh h.book.settled spans (ap (λ ns. list_all (λ s. not (has_number s.number ns)) spans) own.marks ∙ spans-unacked h.buffer origin r now own.buffer) in λ i. record {
      buffer = buffer.enters-live h.buffer origin r now own.buffer i;
      book = (follows-enters h.book (entered_as r origin spans) fresh
          ∙ ap (λ ss. kept.live_enters (live_book h.book) (entered_as r origin ss)) (buffer.spans-live h.buffer origin r now own.buffer)) i;
      servers = live_servers h.setting h.servers;
    }

enter-may : (l : LiveOutput) (origin : Origin) (r : Request) (now : ℕ) (t : IsLiveOutput l)
    → request_at l.book.requests origin ≡ None → live_refusal l.buffer r now ≡ None
    → MayCome t.history (Enter origin r now)
unfolding live_output live_book
enter-may l origin r now t new room = (
  ap (λ (x : LiveOutput). request_at x.book.requests origin) (sym t.is) ∙ new,
  buffer.refusal-live t.history.buffer origin r now (standing-sane l t).buffer ∙ ap (λ (x : LiveOutput). live_refusal x.buffer r now) (sym t.is) ∙ room,
)

pub enter-turn : (l : LiveOutput) (origin : Origin) (r : Request) (now : ℕ) (t : IsLiveOutput l)
    → request_at l.book.requests origin ≡ None → live_refusal l.buffer r now ≡ None
    → Turn t.history (output_enters l origin r now)
enter-turn l origin r now t new room =
    moves (λ x. output_enters x origin r now) (Enter origin r now) l t (enter-may l origin r now t new room) (enter-follows t.history origin r now (standing-sane l t))

pub entered : (l : LiveOutput) (origin : Origin) (r : Request) (now : ℕ) → IsLiveOutput l
    → request_at l.book.requests origin ≡ None → live_refusal l.buffer r now ≡ None
    → IsLiveOutput (output_enters l origin r now)
entered l origin r now t new room =
    goes l (output_enters l origin r now) t (enter-turn l origin r now t new room)

-- what is entered is not refused
pub none_refused : {T : Type 0} {x : T} {result : Result T AdmitError}
    (o : Option AdmitError) → result ≡ Ok x → IfSome o (λ fault. result ≡ Err fault) → o ≡ None
none_refused None is refused = refl
none_refused (Some fault) is refused = absurd (never (sym is ∙ refused))
  where
    never : {T E : Type 0} {x : T} {e : E} → ◌≡◌ {A = Result T E} (Ok x) (Err e) → ⊥
    never h = absurd cc

-- ---- chunks that workers have

-- a chunk that a worker has from the live buffer is one of the history's
theirs : (h : BufferHistory) (c : CarriedChunk) → sane.IsSane h → IsCarried (live_buffer h) c
    → (is_carried c.number h.carried ≡ true) × (carried_chunk_of h c.number ≡ c)
theirs h c own is = by (is_carried c.number h.carried) (sym (buffer.carried-live h c.number own) ∙ is)
  where
    by : (b : Bool) → cond b (Some (carried_chunk_of h c.number)) None ≡ Some c
        → (b ≡ true) × (carried_chunk_of h c.number ≡ c)
    by true e = (refl, same_Some _ _ e)
    by false e = absurd (none-some c e)

theirs-now : (l : LiveOutput) (c : CarriedChunk) (t : IsLiveOutput l) → IsCarried l.buffer c
    → (is_carried c.number t.history.buffer.carried ≡ true)
    × (carried_chunk_of t.history.buffer c.number ≡ c)
unfolding live_output
theirs-now l c t is =
    theirs t.history.buffer c (standing-sane l t).buffer (subst (λ (x : LiveOutput). IsCarried x.buffer c) t.is is)

settle-follows : (h : OutputHistory) (e : ServerAck) → IsSaneOutput h
    → is_carried e.number h.buffer.carried ≡ true
    → live_output (output_next h (Settle e)) ≡ output_settles (live_output h) e
unfolding live_output
settle-follows h e own has = λ i. record {
  buffer = buffer.settles-live h.buffer e.number own.buffer has i;
  book = follows-settles h.book e i;
  servers = live-settled h.setting h.servers e.server i;
}

pub settle-turn : (l : LiveOutput) (e : ServerAck) (c : CarriedChunk) (t : IsLiveOutput l)
    → IsCarried l.buffer c → IsServerAck e c → Turn t.history (output_settles l e)
settle-turn l e c t is shows =
    let his = theirs-now l c t is in
    let has : is_carried e.number t.history.buffer.carried ≡ true = ap (λ k. is_carried k t.history.buffer.carried) shows.number ∙ his.0 in
    let same : c ≡ carried_chunk_of t.history.buffer e.number = sym his.1 ∙ ap (carried_chunk_of t.history.buffer) (sym shows.number) in
    moves (λ x. output_settles x e) (Settle e) l t (has, subst (IsServerAck e) same shows) (settle-follows t.history e (standing-sane l t) has)

pub settled : (l : LiveOutput) (e : ServerAck) (c : CarriedChunk) → IsLiveOutput l → IsCarried l.buffer c
    → IsServerAck e c → IsLiveOutput (output_settles l e)
settled l e c t is shows = goes l (output_settles l e) t (settle-turn l e c t is shows)

back-follows : (h : OutputHistory) (number : ℕ) → IsSaneOutput h
    → is_carried number h.buffer.carried ≡ true
    → live_output (output_next h (PutBack number))
    ≡ with_buffer (live_frees (live_output h).buffer number None) (live_output h)
unfolding live_output
back-follows h number own has = λ i. record {
  buffer = buffer.frees-live h.buffer number None own.buffer has i;
  book = live_book h.book;
  servers = live_servers h.setting h.servers;
}

pub put_back : (l : LiveOutput) (b : LiveBuffer) (c : CarriedChunk) → IsLiveOutput l
    → (IsCarried l.buffer c → b ≡ live_frees l.buffer c.number None)
    → (¬ (IsCarried l.buffer c) → b ≡ l.buffer) → IsLiveOutput (with_buffer b l)
put_back l b c t here elsewhere = by (carried-or l.buffer c)
  where
    by : IsCarried l.buffer c ⊎ (¬ (IsCarried l.buffer c)) → IsLiveOutput (with_buffer b l)
    by (inl is) =
        let has = (theirs-now l c t is).0 in
        subst (λ x. IsLiveOutput (with_buffer x l)) (sym (here is))
        (goes l (with_buffer (live_frees l.buffer c.number None) l) t
        (moves (λ x. with_buffer (live_frees x.buffer c.number None) x) (PutBack c.number) l t has (back-follows t.history c.number (standing-sane l t) has)))
    by (inr not) = subst (λ x. IsLiveOutput (with_buffer x l)) (sym (elsewhere not)) t

-- ---- a worker's end

-- chunks that are handed back to a live buffer come back to the history: those that workers have
record ComeBack (h : BufferHistory) (now : ℕ) (d : LiveBuffer) : Type 0 where
  back : List Return
  theirs : AreTheirs h back now
  is : d ≡ live_buffer (gets_back h back now)

come_back : (hs : List Handed) (h : BufferHistory) (now : ℕ) (d : LiveBuffer) → sane.IsSane h
    → IsHandedBack (live_buffer h) hs now d → ComeBack h now d
come_back [] h now d own back = record { back = []; theirs = tt; is = back }
come_back (x ∷ hs) h now d own back =
    by (carried-or (live_buffer h) x.chunk) (λ k its rest. come_back hs k now d its rest)
  where
    by : IsCarried (live_buffer h) x.chunk ⊎ (¬ (IsCarried (live_buffer h) x.chunk))
        → ((k : BufferHistory) → sane.IsSane k → IsHandedBack (live_buffer k) hs now d → ComeBack k now d)
        → ComeBack h now d
    by (inl is) others =
        let n = x.chunk.number in
        let loss = moment_if x.lost now in
        let has = (theirs h x.chunk own is).0 in
        let more = others (frees h n loss) (sane.frees-sane h n loss own has)
        (subst (λ b. IsHandedBack b hs now d) (sym (buffer.frees-live h n loss own has)) (back.0 is)) in
        record { back = record { number = n; lost = x.lost } ∷ more.back; theirs = (has, more.theirs); is = more.is }
    by (inr not) others = others h own (back.1 not)

loses-live : (setting : ServersSetting) (s : ServersHistory) (server : Option ℕ) (moment : ℕ)
    → setting.retry_max < 2 ^ 64
    → live_servers setting (loses setting s server moment)
    ≡ live_loses (live_servers setting s) server moment
loses-live setting s None moment fits = refl
loses-live setting s (Some server) moment fits = live-lost setting s server moment fits

-- the chunks that are handed back, and the server that may be lost
pub end-turn : (l : LiveOutput) (d : LiveBuffer) (hs : List Handed) (server : Option ℕ) (now : ℕ)
    (t : IsLiveOutput l) → IsHandedBack (live_looks l.buffer now) hs now d
    → Turn t.history (record {
      buffer = d;
      book = l.book;
      servers = live_loses l.servers server (max l.buffer.moment now);
    })
unfolding live_output live_buffer
end-turn l d hs server now t back =
    let h = t.history in
    let own = (standing-sane l t).buffer in
    let c = come_back hs (looks h.buffer now) now d (sane.looks-sane h.buffer now own)
    (subst (λ (x : LiveOutput). IsHandedBack (live_looks x.buffer now) hs now d) t.is back) in record {
      event = End c.back server now;
      may = c.theirs;
      is = λ i. record {
        buffer = c.is i;
        book = (t.is i).book;
        servers = (ap (λ (x : LiveOutput). live_loses x.servers server (max x.buffer.moment now)) t.is ∙ sym (loses-live h.setting h.servers server (max h.buffer.moment now) t.reached.waits)) i;
      };
    }

pub ended : (l : LiveOutput) (d : LiveBuffer) (hs : List Handed) (server : Option ℕ) (now : ℕ)
    → IsLiveOutput l → IsHandedBack (live_looks l.buffer now) hs now d
    → IsLiveOutput (record {
      buffer = d;
      book = l.book;
      servers = live_loses l.servers server (max l.buffer.moment now);
    })
ended l d hs server now t back =
    goes l (record { buffer = d; book = l.book; servers = live_loses l.servers server (max l.buffer.moment now) }) t (end-turn l d hs server now t back)

-- ---- who is told, and who is forgotten

abbrev pub with_book : kept.LiveBook → LiveOutput → LiveOutput
with_book k l = record { buffer = l.buffer; book = k; servers = l.servers }

forget-follows : (h : OutputHistory) (origins : List Origin)
    → live_output (output_next h (Forget origins))
    ≡ with_book (live_leaves (live_output h).book origins) (live_output h)
unfolding live_output
forget-follows h origins = λ i. record {
  buffer = live_buffer h.buffer;
  book = follows-forgets h.book origins i;
  servers = live_servers h.setting h.servers;
}

pub forget-turn : (l : LiveOutput) (origins : List Origin) (t : IsLiveOutput l)
    → Turn t.history (with_book (live_leaves l.book origins) l)
forget-turn l origins t =
    moves (λ x. with_book (live_leaves x.book origins) x) (Forget origins) l t tt (forget-follows t.history origins)

pub forgotten : (l : LiveOutput) (origins : List Origin) → IsLiveOutput l
    → IsLiveOutput (with_book (live_leaves l.book origins) l)
forgotten l origins t = goes l (with_book (live_leaves l.book origins) l) t (forget-turn l origins t)

forget_of-follows : (h : OutputHistory) (conn : ℕ)
    → live_output (output_next h (ForgetAll conn))
    ≡ with_book (live_forgets_of (live_output h).book conn) (live_output h)
unfolding live_output
forget_of-follows h conn = λ i. record {
  buffer = live_buffer h.buffer;
  book = follows-forgets_of h.book conn i;
  servers = live_servers h.setting h.servers;
}

pub forgotten_of : (l : LiveOutput) (conn : ℕ) → IsLiveOutput l
    → IsLiveOutput (with_book (live_forgets_of l.book conn) l)
forgotten_of l conn t =
    goes l (with_book (live_forgets_of l.book conn) l) t
    (moves (λ x. with_book (live_forgets_of x.book conn) x) (ForgetAll conn) l t tt (forget_of-follows t.history conn))

-- a receipt is given only where all entries of the request are acknowledged
record Given (settled : List ServerAck) (qs : List Entered) (o : Origin) : Type 0 where
  request : Entered
  here : request_at qs o ≡ Some request
  all : is_settled settled request ≡ true

given-settled : (es : List ServerAck) (qs : List Entered) (os : List Origin) (o : Origin)
    → is_among (map (λ (r : Receipt). r.origin) (flat_map (λ x. receipt_if es (request_at qs x)) os)) o ≡ true
    → Given es qs o
given-settled es qs [] o among = absurd cc
given-settled es qs (x ∷ os) o among =
    by (request_at qs x) refl (λ e. given-settled es qs os o e) among
  where
    origins : List Receipt → List Origin
    origins rs = map (λ (r : Receipt). r.origin) rs

    rest : List Receipt
    rest = flat_map (λ y. receipt_if es (request_at qs y)) os

    here : (q : Entered) → request_at qs x ≡ Some q → is_settled es q ≡ true
        → (is_among (origins rest) o ≡ true → Given es qs o) → (b : Bool)
        → is_origin q.origin o ≡ b → (b || is_among (origins rest) o) ≡ true → Given es qs o
    here q found all others true same e =
        let its : o ≡ q.origin = origin-is q.origin o same in
        let at : q.origin ≡ x = origin-is x q.origin (find_passes (λ r. is_origin x r.origin) qs q found) in
        record { request = q; here = ap (request_at qs) (its ∙ at) ∙ found; all = all }
    here q found all others false other e = others e

    if_settled : (q : Entered) → request_at qs x ≡ Some q
        → (is_among (origins rest) o ≡ true → Given es qs o) → (b : Bool) → is_settled es q ≡ b
        → is_among (origins (cond b (receipt_of es q ∷ []) [] ++ rest)) o ≡ true → Given es qs o
    if_settled q found others true all e = here q found all others (is_origin q.origin o) refl e
    if_settled q found others false not_all e = others e

    by : (w : Option Entered) → request_at qs x ≡ w
        → (is_among (origins rest) o ≡ true → Given es qs o)
        → is_among (origins (receipt_if es w ++ rest)) o ≡ true → Given es qs o
    by None found others e = others e
    by (Some q) found others e = if_settled q found others (is_settled es q) refl e

-- a request that nothing became of is owed an answer
untold-at : (xs : List Admission) (i : ℕ) (a : Admission) → slice_get xs i ≡ Some a
    → is_untold a.fate ≡ true → (j : ℕ)
    × (slice_get (map (λ (x : Admission). x.request) (filter (λ x. is_untold x.fate) xs)) j
    ≡ Some a.request)
untold-at [] i a at is = absurd (none-some a at)
untold-at (b ∷ xs) zero a at is =
    let same : b ≡ a = same_Some b a at in
    subst (λ (x : Admission). (j : ℕ) × (slice_get (map (λ (y : Admission). y.request) (filter (λ y. is_untold y.fate) (b ∷ xs))) j ≡ Some x.request)) same
    (first (is_untold b.fate) (ap (λ (x : Admission). is_untold x.fate) same ∙ is))
  where
    first : (t : Bool) → t ≡ true → (j : ℕ)
        × (slice_get (map (λ (y : Admission). y.request) (cond t (b ∷ filter (λ y. is_untold y.fate) xs) (filter (λ y. is_untold y.fate) xs))) j ≡ Some b.request)
    first true e = (0, refl)
    first false e = absurd cc
untold-at (b ∷ xs) (suc i) a at is = later (is_untold b.fate) (untold-at xs i a at is)
  where
    later : (t : Bool) → ((j : ℕ)
        × (slice_get (map (λ (y : Admission). y.request) (filter (λ y. is_untold y.fate) xs)) j ≡ Some a.request))
        → (j : ℕ)
        × (slice_get (map (λ (y : Admission). y.request) (cond t (b ∷ filter (λ y. is_untold y.fate) xs) (filter (λ y. is_untold y.fate) xs))) j ≡ Some a.request)
    later true m = (suc m.0, m.1)
    later false m = m

-- who is given a receipt can be told
can-be-told : (b : BookHistory) (os : List Origin) → AreApart (untold b)
    → CanBeTold b (map (λ (r : Receipt). r.origin) (receipts b.settled (untold b) os))
can-be-told b os alone = λ i a at owed.
    let parts = and_parts (is_untold a.fate) (is_among (map (λ (r : Receipt). r.origin) (receipts b.settled (untold b) os)) a.request.origin) owed in
    let stands = untold-at b.admissions i a at parts.0 in
    let own : request_at (untold b) a.request.origin ≡ Some a.request = found-own (untold b) alone stands.0 a.request stands.1 in
    let given = given-settled b.settled (untold b) (once os) a.request.origin parts.1 in
    ap (is_settled b.settled) (same_Some a.request given.request (sym own ∙ given.here)) ∙ given.all

tell-follows : (h : OutputHistory) (origins : List Origin) → CanBeTold h.book origins
    → live_output (output_next h (Tell origins))
    ≡ with_book (live_leaves (live_output h).book origins) (live_output h)
unfolding live_output
tell-follows h origins can = λ i. record {
  buffer = live_buffer h.buffer;
  book = follows-tells h.book origins can i;
  servers = live_servers h.setting h.servers;
}

-- the receipts that a history gives are those of its live part
pub given-live : (l : LiveOutput) (os : List Origin) (t : IsLiveOutput l)
    → receipts t.history.book.settled (untold t.history.book) os
    ≡ receipts l.book.settled l.book.requests os
unfolding live_output
given-live l os t =
    follows-receipts t.history.book os
    ∙ ap (λ (x : LiveOutput). receipts x.book.settled x.book.requests os) (sym t.is)

-- its book is of the same run and output
pub same-setting : (l : LiveOutput) (t : IsLiveOutput l) → t.history.book.setting ≡ l.book.setting
unfolding live_output live_book
same-setting l t = sym (ap (λ (x : LiveOutput). x.book.setting) t.is)

alone-then : (l : LiveOutput) (t : IsLiveOutput l) → AreApart l.book.requests
    → AreApart (untold t.history.book)
unfolding live_output live_book
alone-then l t alone = subst (λ (x : LiveOutput). AreApart x.book.requests) t.is alone

pub tell-turn : (l : LiveOutput) (os : List Origin) (t : IsLiveOutput l) → AreApart l.book.requests
    → Turn t.history (with_book
    (live_leaves l.book (map (λ (r : Receipt). r.origin) (receipts l.book.settled l.book.requests os))) l)
tell-turn l os t alone =
    let k = t.history.book in
    let gone = map (λ (r : Receipt). r.origin) (receipts k.settled (untold k) os) in
    let can = can-be-told k os (alone-then l t alone) in
    subst (λ rs. Turn t.history (with_book (live_leaves l.book (map (λ (r : Receipt). r.origin) rs)) l)) (given-live l os t)
    (moves (λ x. with_book (live_leaves x.book gone) x) (Tell gone) l t can (tell-follows t.history gone can))

pub told : (l : LiveOutput) (os : List Origin) → IsLiveOutput l → AreApart l.book.requests
    → IsLiveOutput (with_book
    (live_leaves l.book (map (λ (r : Receipt). r.origin) (receipts l.book.settled l.book.requests os))) l)
told l os t alone =
    goes l (with_book (live_leaves l.book (map (λ (r : Receipt). r.origin) (receipts l.book.settled l.book.requests os))) l) t (tell-turn l os t alone)
