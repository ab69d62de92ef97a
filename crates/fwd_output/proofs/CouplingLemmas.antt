-- What ties an output's chunks to its requests stays.
use Rattle.std.proofs.Common.{◌≡◌, ◌≢◌, ℕ, zero, suc, Bool, true, false, cond, Option, Some, None, List, [], ◌∷◌, ◌++◌, take, drop, refl, sym, ap, subst, ◌∙◌, inl, inr}
use Rattle.std.specs.Prelude.{◌⊎◌, filter, find, not, ◌||◌, ◌==◌, slice_get}
use Rattle.std.specs.Option.{option_or}
use Rattle.std.specs.List.{list_any}
use Rattle.std.proofs.lemmas.Bool.{eqb-true, eq-eqb}
use Rattle.std.proofs.lemmas.List.Folds.{find-append}
use Rattle.fwd_modes.specs.Requests.{Request}
use Rattle.fwd_modes.specs.declared.origin.Origin.{Origin}
use Rattle.fwd_chunks.specs.declared.chunk.Chunk.{Chunk}
use Rattle.fwd_chunks.specs.declared.flush.FlushKind.{FlushKind}
use Rattle.fwd_chunks.specs.declared.span.Span.{Span}
use Rattle.fwd_chunks.specs.History.{BufferSetting, CarriedChunk}
use Rattle.fwd_chunks.specs.declared.wanted.Wanted.{Wanted}
use Rattle.fwd_chunks.specs.Live.{LiveBuffer, IsCarried, is_at, live_opening, live_looks, live_enters, live_spans, live_flushes, live_takes, live_given_for, live_carries_more, live_frees, live_settles}
use Rattle.fwd_chunks.specs.Soundness.{IsSound}
use Rattle.fwd_chunks.specs.Spans.{run_in, IsHeld, AreHeld, IsGone}
use Rattle.fwd_chunks.proofs.Holding.{Stays, flushes-stays, takes-stays, frees-stays, settles-held, settles-gone, settled-gone, enters-held, enters-gone, spans-held, carried-run, carried-found}
use Rattle.fwd_chunks.proofs.Sounding.{adds_all-added, sorted}
use Rattle.fwd_session.specs.ServerAcks.{ServerAck, IsServerAck}
use Rattle.fwd_book.specs.History.{Entered, entered_as, evidence_of, has_run, are_fresh}
use Rattle.fwd_book.specs.Live as kept
use Rattle.fwd_book.specs.Live.{LiveBook, HasItsRuns, IsOf, evidence_for, live_drops}
use Rattle.fwd_book.proofs.Following.{filter-at}
use Rattle.fwd_book.proofs.Found.{numbered, for-found, comes, found_there, in_both}
use Rattle.fwd_model.specs.Outputs.{book_setting}
use Rattle.fwd_output.specs.Coupling.{AreWaiting, IsCoupled}
use Rattle.std.proofs.lemmas.Option.{same_Some}

none_some : {X : Type 0} {x : X} → None ≡ Some x → ⊥
none_some e = absurd cc

false_true : false ≡ true → ⊥
false_true e = absurd cc

pub opening-coupled : (setting : BufferSetting)
    → IsCoupled (live_opening setting) (kept.live_opening (book_setting setting))
opening-coupled setting =
    record { setting = refl; waiting = λ i q at. absurd (none_some at); gone = λ j e at. absurd (none_some at) }

-- ---- the chunks stand elsewhere

waiting-held : (more less : List Chunk) (settled : List ServerAck) (tag : List ℕ) (spans : List Span)
    (own : List (List ℕ))
    → ((s : Span) (rest : List (List ℕ)) → IsHeld less tag s rest → IsHeld more tag s rest)
    → AreWaiting less settled tag spans own → AreWaiting more settled tag spans own
waiting-held more less settled tag [] own stays w = tt
waiting-held more less settled tag (s ∷ spans) own stays w =
    (λ none. stays s own (w.0 none), waiting-held more less settled tag spans (drop s.count own) stays w.1)

pub stays-coupled : (b c : LiveBuffer) (k : LiveBook) → c.setting ≡ b.setting → Stays b c
    → IsCoupled b k → IsCoupled c k
stays-coupled b c k setting stays own = record {
  setting = own.setting ∙ ap book_setting (sym setting);
  waiting = λ i q at. waiting-held c.chunks b.chunks k.settled q.tag q.spans q.entries (λ s rest h. stays.held q.tag s rest h) (own.waiting i q at);
  gone = λ j e at. stays.gone e.number (own.gone j e at);
}

looks-stays : (b : LiveBuffer) (now : ℕ) → Stays b (live_looks b now)
looks-stays b now = record { held = λ tag s own h. h; gone = λ n h. record { none = h.none; given = h.given } }

pub looks-coupled : (b : LiveBuffer) (k : LiveBook) (now : ℕ) → IsCoupled b k
    → IsCoupled (live_looks b now) k
looks-coupled b k now own = stays-coupled b (live_looks b now) k refl (looks-stays b now) own

pub flushes-coupled : (b : LiveBuffer) (k : LiveBook) (now : ℕ) (kind : FlushKind)
    → IsCoupled b k → IsCoupled (live_flushes b now kind) k
flushes-coupled b k now kind own = stays-coupled b (live_flushes b now kind) k refl (flushes-stays b now kind) own

pub takes-coupled : (b : LiveBuffer) (k : LiveBook) (worker : ℕ) (wanted : Wanted) (now : ℕ)
    → IsCoupled b k → IsCoupled (live_takes b worker wanted now) k
takes-coupled b k worker wanted now own = stays-coupled b (live_takes b worker wanted now) k (setting (live_given_for (live_looks b now) wanted)) (takes-stays b worker wanted now) own
  where
    setting : (o : Option Chunk)
        → (live_carries_more worker o (live_looks b now)).setting ≡ b.setting
    setting None = refl
    setting (Some c) = refl

frees-setting : (b : LiveBuffer) (n : ℕ) (loss : Option ℕ)
    → (live_frees b n loss).setting ≡ b.setting
frees-setting b n None = refl
frees-setting b n (Some now) = refl

pub frees-coupled : (b : LiveBuffer) (k : LiveBook) (c : LiveBuffer) (n : ℕ) (loss : Option ℕ)
    → ((c ≡ live_frees b n loss) ⊎ (c ≡ b)) → IsCoupled b k → IsCoupled c k
frees-coupled b k c n loss (inl e) own = subst (λ x. IsCoupled x k) (sym e) (stays-coupled b (live_frees b n loss) k (frees-setting b n loss) (frees-stays b n loss) own)
frees-coupled b k c n loss (inr e) own = subst (λ x. IsCoupled x k) (sym e) own

-- ---- a request is entered

enters-setting : (b : LiveBuffer) (r : Request) (now : ℕ) → IsSound b
    → (live_enters b r now).setting ≡ b.setting
enters-setting b r now sound = (adds_all-added r.entries (live_looks b now) r.tag (sorted b now sound)).setting

held-waiting : (chunks : List Chunk) (settled : List ServerAck) (tag : List ℕ) (spans : List Span)
    (own : List (List ℕ)) → AreHeld chunks tag spans own → AreWaiting chunks settled tag spans own
held-waiting chunks settled tag [] own h = tt
held-waiting chunks settled tag (s ∷ spans) own h = (λ none. h.0, held-waiting chunks settled tag spans (drop s.count own) h.1)

-- no run that stands in the chunks has a number that is gone
held-apart : (c : LiveBuffer) (tag : List ℕ) (n : ℕ) (spans : List Span) (own : List (List ℕ))
    → IsGone c n → AreHeld c.chunks tag spans own → list_any (λ s. s.number == n) spans ≡ false
held-apart c tag n [] own gone h = refl
held-apart c tag n (s ∷ spans) own gone h = by (s.number == n) refl (held-apart c tag n spans (drop s.count own) gone h.1)
  where
    by : (t : Bool) → (s.number == n) ≡ t → list_any (λ x. x.number == n) spans ≡ false
        → (t || list_any (λ x. x.number == n) spans) ≡ false
    by false e rest = rest
    by true e rest = absurd (none_some (sym gone.none ∙ (λ i. find (is_at (sym (eqb-true s.number n e) i)) c.chunks) ∙ h.0.here))

-- no number of what comes was acknowledged
pub comes-fresh : (b : LiveBuffer) (k : LiveBook) (r : Request) (now : ℕ) → IsSound b
    → IsCoupled b k → are_fresh k.settled (live_spans b r now) ≡ true
comes-fresh b k r now sound own = ap not (none k.settled (λ j e at. own.gone j e at))
  where
    none : (es : List ServerAck)
        → ((j : ℕ) (e : ServerAck) → slice_get es j ≡ Some e → IsGone b e.number)
        → list_any (λ e. list_any (λ s. s.number == e.number) (live_spans b r now)) es ≡ false
    none [] gone = refl
    none (e ∷ es) gone =
        (λ i. held-apart (live_enters b r now) r.tag e.number (live_spans b r now) r.entries (enters-gone b r now e.number sound (gone 0 e refl)) (spans-held b r now sound) i || list_any (λ d. list_any (λ s. s.number == d.number) (live_spans b r now)) es)
        ∙ none es (λ j d at. gone (suc j) d at)

pub enters-coupled : (b : LiveBuffer) (k : LiveBook) (r : Request) (origin : Origin) (now : ℕ)
    → IsSound b → IsCoupled b k
    → IsCoupled (live_enters b r now) (kept.live_enters k
    (entered_as r origin (live_spans b r now)))
enters-coupled b k r origin now sound own = record {
  setting = own.setting ∙ ap book_setting (sym (enters-setting b r now sound));
  waiting = λ i q at. by i q (in_both k.requests (new ∷ []) i q at);
  gone = λ j e at. enters-gone b r now e.number sound (own.gone j e at);
}
  where
    new : Entered
    new = entered_as r origin (live_spans b r now)

    only : (j : ℕ) (q : Entered) → slice_get (new ∷ []) j ≡ Some q → new ≡ q
    only zero q e = same_Some _ _ e
    only (suc j) q e = absurd (none_some e)

    by : (i : ℕ) (q : Entered)
        → ((j : ℕ) × (slice_get k.requests j ≡ Some q))
        ⊎ ((j : ℕ) × (slice_get (new ∷ []) j ≡ Some q))
        → AreWaiting (live_enters b r now).chunks k.settled q.tag q.spans q.entries
    by i q (inl at) = waiting-held (live_enters b r now).chunks b.chunks k.settled q.tag q.spans q.entries (λ s rest h. enters-held b r now q.tag s rest sound h) (own.waiting at.0 q at.1)
    by i q (inr at) =
        subst (λ x. AreWaiting (live_enters b r now).chunks k.settled x.tag x.spans x.entries) (only at.0 q at.1)
        (held-waiting (live_enters b r now).chunks k.settled r.tag (live_spans b r now) r.entries (spans-held b r now sound))

-- ---- a chunk is settled

-- some request of the list has the run's number
has-run : (qs : List Entered) (i : ℕ) (q : Entered) (s : Span) → slice_get qs i ≡ Some q
    → list_any (λ x. x.number == s.number) q.spans ≡ true → list_any (has_run s.number) qs ≡ true
has-run [] i q s at has = absurd (none_some at)
has-run (r ∷ qs) zero q s at has = ap (λ t. t || list_any (has_run s.number) qs) (ap (has_run s.number) (same_Some _ _ at) ∙ has)
has-run (r ∷ qs) (suc i) q s at has = by (has_run s.number r) (has-run qs i q s at has)
  where
    by : (t : Bool) → list_any (has_run s.number) qs ≡ true
        → (t || list_any (has_run s.number) qs) ≡ true
    by true rest = refl
    by false rest = rest

-- what waits of a request, seen by what is acknowledged afterwards
waiting-then : (more less : List Chunk) (old new : List ServerAck) (tag : List ℕ) (all : List Span)
    (spans : List Span) (own : List (List ℕ))
    → ((s : Span) → list_any (λ x. x.number == s.number) all ≡ true → evidence_of new s.number
    ≡ None
    → (evidence_of old s.number ≡ None)
    × ((rest : List (List ℕ)) → IsHeld less tag s rest → IsHeld more tag s rest))
    → ((s : Span) → list_any (λ x. x.number == s.number) spans ≡ true → list_any
    (λ x. x.number == s.number) all ≡ true)
    → AreWaiting less old tag spans own → AreWaiting more new tag spans own
waiting-then more less old new tag all [] own stays within w = tt
waiting-then more less old new tag all (s ∷ spans) own stays within w = (
  λ none.
      let then' = stays s (within s (ap (λ t. t || list_any (λ x. x.number == s.number) spans) (eq-eqb s.number s.number refl))) none in
      then'.1 own (w.0 then'.0),
  waiting-then more less old new tag all spans (drop s.count own) stays (λ t has. within t (later (s.number == t.number) (list_any (λ x. x.number == t.number) spans) has)) w.1,
)
  where
    later : (a c : Bool) → c ≡ true → (a || c) ≡ true
    later true c e = refl
    later false c e = e

pub settles-coupled : (b : LiveBuffer) (k : LiveBook) (e : ServerAck) (load : CarriedChunk) → IsSound b
    → IsCarried b load → e.number ≡ load.number → IsCoupled b k
    → IsCoupled (live_settles b load.number) (kept.live_settles k e)
settles-coupled b k e load sound is same own = record {
  setting = own.setting;
  waiting = λ i q at. waiting-then (live_settles b load.number).chunks b.chunks k.settled now q.tag q.spans q.spans q.entries
      (λ s has none. (before s (has-run k.requests i q s at has) none, λ rest h. settles-held b load.number q.tag s rest (apart s (has-run k.requests i q s at has) none) h))
      (λ s has. has) (own.waiting i q at);
  gone = λ j d at.
      let from = comes (evidence_of (k.settled ++ e ∷ [])) k.requests j d at in
      let there = found_there (k.settled ++ e ∷ []) from.number d from.found in
      by d (in_both k.settled (e ∷ []) there.0 d there.1);
}
  where
    now : List ServerAck
    now = (kept.live_settles k e).settled

    -- nothing is found, neither before nor now
    found : (s : Span) → list_any (has_run s.number) k.requests ≡ true
        → evidence_of now s.number ≡ None
        → option_or (evidence_of k.settled s.number) (evidence_of (e ∷ []) s.number) ≡ None
    found s used none =
        sym (find-append (λ d. d.number == s.number) k.settled (e ∷ []))
        ∙ sym (for-found (evidence_of (k.settled ++ e ∷ [])) k.requests s.number (numbered (k.settled ++ e ∷ [])) used) ∙ none

    neither : (o p : Option ServerAck) → option_or o p ≡ None → (o ≡ None) × (p ≡ None)
    neither None p f = (refl, f)
    neither (Some x) p f = absurd cc

    before : (s : Span) → list_any (has_run s.number) k.requests ≡ true
        → evidence_of now s.number ≡ None → evidence_of k.settled s.number ≡ None
    before s used none = (neither (evidence_of k.settled s.number) (evidence_of (e ∷ []) s.number) (found s used none)).0

    apart : (s : Span) → list_any (has_run s.number) k.requests ≡ true
        → evidence_of now s.number ≡ None → s.number ≢ load.number
    apart s used none f =
        let here : (e.number == s.number) ≡ true = eq-eqb e.number s.number (same ∙ sym f) in
        none_some (sym (neither (evidence_of k.settled s.number) (evidence_of (e ∷ []) s.number) (found s used none)).1 ∙ ap (λ t. cond t (Some e) None) here)

    only : (j : ℕ) (d : ServerAck) → slice_get (e ∷ []) j ≡ Some d → e ≡ d
    only zero d f = same_Some _ _ f
    only (suc j) d f = absurd (none_some f)

    by : (d : ServerAck)
        → ((j : ℕ) × (slice_get k.settled j ≡ Some d)) ⊎ ((j : ℕ) × (slice_get (e ∷ []) j ≡ Some d))
        → IsGone (live_settles b load.number) d.number
    by d (inl at) = settles-gone b load.number d.number (own.gone at.0 d at.1)
    by d (inr at) = subst (λ n. IsGone (live_settles b load.number) n) (sym same ∙ ap (λ (x : ServerAck). x.number) (only at.0 d at.1)) (settled-gone b load sound is)

-- ---- requests leave

pub drops-coupled : (b : LiveBuffer) (k : LiveBook) (p : Entered → Bool) → IsCoupled b k
    → IsCoupled b (live_drops p k)
drops-coupled b k p own = record {
  setting = own.setting;
  waiting = λ i q at.
      let old = filter-at (λ r. not (p r)) k.requests i q at in
      waiting-then b.chunks b.chunks k.settled now q.tag q.spans q.spans q.entries
      (λ s has none. (sym (for-found (evidence_of k.settled) left s.number (numbered k.settled) (has-run left i q s at has)) ∙ none, λ rest h. h))
      (λ s has. has) (own.waiting old.0 q old.1);
  gone = λ j d at.
      let from = comes (evidence_of k.settled) left j d at in
      let there = found_there k.settled from.number d from.found in
      own.gone there.0 d there.1;
}
  where
    left : List Entered
    left = filter (λ r. not (p r)) k.requests

    now : List ServerAck
    now = evidence_for left k.settled

-- ---- what a worker has is of what the requests have

-- no evidence has the number of what a worker has
carried-fresh : (b : LiveBuffer) (k : LiveBook) (load : CarriedChunk) (n : ℕ) → IsSound b → IsCarried b load
    → n ≡ load.number → IsCoupled b k → evidence_of k.settled n ≡ None
carried-fresh b k load n sound is same own = by (evidence_of k.settled n) refl
  where
    by : (o : Option ServerAck) → evidence_of k.settled n ≡ o → o ≡ None
    by None e = refl
    by (Some d) e =
        let there = found_there k.settled n d e in
        let number : d.number ≡ n = numbered k.settled n d e in
        let c = carried-found b load.number load is sound.in_order in
        absurd (none_some (sym (own.gone there.0 d there.1).none ∙ (λ i. find (is_at ((number ∙ same) i)) b.chunks) ∙ c.1))

runs-are : (b : LiveBuffer) (k : LiveBook) (load : CarriedChunk) (e : ServerAck) (tag : List ℕ)
    (spans : List Span) (own : List (List ℕ)) → IsSound b → IsCarried b load → IsServerAck e load
    → IsCoupled b k → AreWaiting b.chunks k.settled tag spans own
    → HasItsRuns e.number e.entries spans own
    × (list_any (λ s. s.number == e.number) spans ≡ true → e.tag ≡ tag)
runs-are b k load e tag [] own sound is ev c w = (tt, λ has. absurd (false_true has))
runs-are b k load e tag (s ∷ spans) own sound is ev c w =
    let rest = runs-are b k load e tag spans (drop s.count own) sound is ev c w.1 in (
      (λ same. ap (λ es. run_in es s) ev.entries ∙ (here same).1, rest.0),
      λ has. by (s.number == e.number) refl has rest.1,
    )
  where
    here : s.number ≡ e.number → (load.tag ≡ tag) × (run_in load.entries s ≡ take s.count own)
    here same =
        let at = same ∙ ev.number in
        carried-run b load tag s own sound is at (w.0 (carried-fresh b k load s.number sound is at c))

    by : (t : Bool) → (s.number == e.number) ≡ t
        → (t || list_any (λ x. x.number == e.number) spans) ≡ true
        → (list_any (λ x. x.number == e.number) spans ≡ true → e.tag ≡ tag) → e.tag ≡ tag
    by true f has rest = ev.tag ∙ (here (eqb-true s.number e.number f)).0
    by false f has rest = rest has

pub acked-is-of : (b : LiveBuffer) (k : LiveBook) (load : CarriedChunk) (e : ServerAck) (i : ℕ) (q : Entered)
    → IsSound b → IsCarried b load → IsServerAck e load → IsCoupled b k
    → slice_get k.requests i ≡ Some q → IsOf q e
acked-is-of b k load e i q sound is ev own at =
    let both = runs-are b k load e q.tag q.spans q.entries sound is ev own (own.waiting i q at) in
    record { tag = both.1; runs = both.0 }
