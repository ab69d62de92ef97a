-- What comes back from a server, and who is told at once.
use Rattle.std.proofs.Common.{◌≡◌, ℕ, zero, suc, Bool, true, false, cond, List, [], ◌∷◌, ◌++◌, drop, Option, Some, None, refl, sym, ap, subst, ◌∙◌, inl, inr, arith}
use Rattle.std.specs.Prelude.{◌⊎◌, map, filter, is_some, ◌&&◌, option_map, replicate, slice_get}
use Rattle.std.specs.List.{list_all, list_any, AllByRecursion}
use Rattle.std.proofs.lemmas.Bool.Decides.{nat_tests}
use Rattle.fwd_session.specs.declared.fault.SessionFault.{SessionFault}
use Rattle.fwd_session.specs.declared.told.SessionHeard.{SessionHeard}
use Rattle.fwd_session.specs.declared.told.SessionHeard.TheVariants as heard_as
use Rattle.fwd_session.specs.Said.{Said, out_of}
use Rattle.fwd_session.specs.ServerAcks.{Accepted, ServerAck, evidence_of}
use Rattle.fwd_session.specs.History.{SessionHistory, IsAcknowledged, handshake_of, is_handed_on, is_done, first_in, says, newly_accepted, listens, unloads, told_by, told_of}
use Rattle.fwd_session.proofs.Accepting.{acknowledged}
use Rattle.fwd_chunks.specs.declared.span.Span.{Span}
use Rattle.fwd_chunks.specs.Cells.{has_number}
use Rattle.fwd_model.specs.Outputs.{count_at}
use Rattle.fwd_model.specs.declared.answer.Answer.TheVariants as answer
use Rattle.fwd_model.specs.declared.event.Event.TheVariants as event
use Rattle.fwd_source.specs.History.{SourceHistory}
use Rattle.fwd_model.specs.declared.fault.Refusal.TheVariants.{Closed, NoSuch, NotNow}
use Rattle.fwd_model.specs.Outcome.{answer_of, state_of, within, found as sought, refuse_if, Outcome, Goes, of_heard, ◌>>=◌, ◌>>◌}
use Rattle.fwd_model.specs.Step as steps
use Rattle.fwd_model.specs.Step.{step}
use Rattle.fwd_book.specs.History.{Untold, Admission, evidence_of as acknowledged_at, is_untold, is_of, is_settled, is_due}
use Rattle.fwd_model.specs.Books.{numbers_of}
use Rattle.fwd_model.specs.History.{Lane, History, source_at, with_lane, with_place, with_connection, history_worker, histories}
use Rattle.std.proofs.lemmas.Option.{same_Some}
use Rattle.fwd_model.specs.Delivered.{IsHandedOn, session_at, session_of, standing}
use Rattle.fwd_model.proofs.Lists.{all_at, none_at}
use Rattle.fwd_model.proofs.Places.{slice_get-set_same}

-- ---- a session that heard

-- what settling comes to at a worker whose session is this one
settled_as : (h : History) (o w : ℕ) (l : Lane) (s : SessionHistory)
    → slice_get h.lanes o ≡ Some l → slice_get l.sessions w ≡ Some (Some s)
    → answer_of (step histories h (event.Settle o w))
    ≡ answer_of (sought (first_in s.accepted) NotNow >>= (λ a. Goes (answer.Settled
    (count_at a.chunk.number l.output)) l))
settled_as h o w l s here at =
    ap (λ x. answer_of (sought x NoSuch >>= (λ m. within (λ n. with_lane o n h) (steps.settle histories m w)))) here
    ∙ ap (λ x. answer_of (within (λ n. with_lane o n h) (sought (option_map (history_worker l w) x) NoSuch >>= (λ y. sought y.session NotNow >>= (λ u. sought (first_in u.accepted) NotNow >>= (λ a. Goes (answer.Settled (count_at a.chunk.number l.output)) (histories.settles l w (steps.with_session y (unloads u)) (evidence_of u.setup.server a)))))))) at
    ∙ outside (first_in s.accepted)
  where
    outside : (k : Option Accepted)
        → answer_of (within (λ n. with_lane o n h) (sought k NotNow >>=
        (λ a. Goes (answer.Settled (count_at a.chunk.number l.output))
        (histories.settles l w (steps.with_session (history_worker l w (Some s)) (unloads s)) (evidence_of s.setup.server a)))))
        ≡ answer_of
        (sought k NotNow >>= (λ a. Goes (answer.Settled (count_at a.chunk.number l.output)) l))
    outside None = refl
    outside (Some k) = refl

-- what hearing comes to there
heard_at : (h : History) (o w : ℕ) (bytes : List ℕ) (l : Lane) (s : SessionHistory)
    → slice_get h.lanes o ≡ Some l → slice_get l.sessions w ≡ Some (Some s)
    → step histories h (event.Heard o w bytes) ≡ within (λ n. with_lane o n h)
    (within (histories.puts_worker l w)
    (within (steps.with_session (history_worker l w (Some s))) (steps.heard histories bytes s)))
heard_at h o w bytes l s here at =
    ap (λ x. sought x NoSuch >>= (λ m. within (λ n. with_lane o n h) (steps.at_worker histories m w (λ x. steps.at_session histories x (steps.heard histories bytes))))) here
    ∙ ap (λ x. within (λ n. with_lane o n h) (sought (option_map (history_worker l w) x) NoSuch >>= (λ y. within (histories.puts_worker l w) (steps.at_session histories y (steps.heard histories bytes))))) at

-- what comes of it lies in its place
abbrev placed : (h : History) (o w : ℕ) (l : Lane) (s : SessionHistory)
    → Outcome SessionHistory → Outcome History
placed h o w l s x = within (λ n. with_lane o n h) (within (histories.puts_worker l w) (within (steps.with_session (history_worker l w (Some s))) x))

-- what settling comes to after that
settled_after : (h : History) (o w : ℕ) (l : Lane) (s u : SessionHistory)
    → slice_get h.lanes o ≡ Some l → slice_get l.sessions w ≡ Some (Some s)
    → answer_of (step histories (with_lane o (with_place w (Some u) l) h) (event.Settle o w))
    ≡ answer_of (sought (first_in u.accepted) NotNow >>= (λ a. Goes (answer.Settled
    (count_at a.chunk.number l.output)) (with_place w (Some u) l)))
settled_after h o w l s u here at =
    settled_as (with_lane o (with_place w (Some u) l) h) o w (with_place w (Some u) l) u (slice_get-set_same h.lanes o (with_place w (Some u) l) l here) (slice_get-set_same l.sessions w (Some u) (Some s) at)

-- a session without an accepted acknowledgement settles nothing
none_settled : (s : SessionHistory) (l m : Lane) → s.accepted ≡ []
    → answer_of (sought (first_in s.accepted) NotNow >>= (λ a. Goes (answer.Settled
    (count_at a.chunk.number l.output)) m)) ≡ answer.Refused NotNow
none_settled s l m none = ap (λ (list : List Accepted). answer_of (sought (first_in list) NotNow >>= (λ a. Goes (answer.Settled (count_at a.chunk.number l.output)) m))) none

-- where no frame is handed on, no acknowledgement is accepted
none_accepted : (s : SessionHistory) (bytes : List ℕ) → list_any (is_handed_on s) s.carried ≡ false
    → newly_accepted s bytes ≡ []
none_accepted s bytes early = by (newly_accepted s bytes) (acknowledged s bytes)
  where
    by : (list : List Accepted) → AllByRecursion (IsAcknowledged s bytes) list → list ≡ []
    by [] all = refl
    by (a ∷ list) all =
        let no : is_handed_on s all.0.loaded ≡ false = none_at (is_handed_on s) s.carried all.0.place all.0.loaded early all.0.carried in
        absurd (grind (arith, nat_tests, no, all.0.handed_on))

pub early-nothing : (h : History) (o w : ℕ) (bytes : List ℕ) (l : Lane) (s : SessionHistory)
    → slice_get h.lanes o ≡ Some l → slice_get l.sessions w ≡ Some (Some s)
    → s.accepted ≡ [] → list_any (is_handed_on s) s.carried ≡ false
    → answer_of
    (step histories (state_of h (step histories h (event.Heard o w bytes))) (event.Settle o w))
    ≡ answer.Refused NotNow
early-nothing h o w bytes l s here at none early =
    ap (λ x. answer_of (step histories (state_of h x) (event.Settle o w))) (heard_at h o w bytes l s here at) ∙ by s.down refl
  where
    said : Said
    said = says s bytes

    still : (listens s bytes said).accepted ≡ []
    still = λ i. none i ++ none_accepted s bytes early i

    unheard : answer_of (step histories h (event.Settle o w)) ≡ answer.Refused NotNow
    unheard = settled_as h o w l s here at ∙ none_settled s l l none

    after : answer_of
        (step histories (with_lane o (with_place w (Some (listens s bytes said)) l) h)
        (event.Settle o w)) ≡ answer.Refused NotNow
    after = settled_after h o w l s (listens s bytes said) here at ∙ none_settled (listens s bytes said) l (with_place w (Some (listens s bytes said)) l) still

    told : (t : SessionHeard) (out : List ℕ)
        → answer_of
        (step histories (state_of h (placed h o w l s (of_heard t out (listens s bytes said))))
        (event.Settle o w)) ≡ answer.Refused NotNow
    told heard_as.NotUp out = unheard
    told heard_as.Quiet out = after
    told heard_as.Ready out = after
    told heard_as.Acked out = after
    told (heard_as.Fault f) out = after

    by : (b : Bool) → s.down ≡ b
        → answer_of
        (step histories (state_of h (placed h o w l s (of_heard
        (cond b heard_as.NotUp (told_of (handshake_of s) said)) (cond b [] (out_of said))
        (cond b s (listens s bytes said))))) (event.Settle o w)) ≡ answer.Refused NotNow
    by true e = unheard
    by false e = told (told_of (handshake_of s) said) (out_of said)

-- what hearing comes to that ends with a fault
heard_faulted : (h : History) (o w : ℕ) (bytes : List ℕ) (l : Lane) (s : SessionHistory)
    (f : SessionFault) → slice_get h.lanes o ≡ Some l → slice_get l.sessions w ≡ Some (Some s)
    → s.down ≡ false → (says s bytes).fault ≡ Some f
    → step histories h (event.Heard o w bytes)
    ≡ placed h o w l s (of_heard (heard_as.Fault f) (out_of (says s bytes)) (listens s bytes (says s bytes)))
heard_faulted h o w bytes l s f here at up fault =
    let said = says s bytes in
    let u = listens s bytes said in
    let told : told_of (handshake_of s) said ≡ heard_as.Fault f = ap (λ x. told_by x said.replies (is_done (handshake_of s)) (is_done said.handshake)) fault in
    heard_at h o w bytes l s here at
    ∙ ap (λ b. placed h o w l s (of_heard (cond b heard_as.NotUp (told_of (handshake_of s) said)) (cond b [] (out_of said)) (cond b s u))) up
    ∙ ap (λ t. placed h o w l s (of_heard t (out_of said) u)) told

pub before_fault-stands : (h : History) (o w : ℕ) (a : Accepted) (bytes : List ℕ) (l : Lane)
    (s : SessionHistory) (f : SessionFault) → slice_get h.lanes o ≡ Some l
    → slice_get l.sessions w ≡ Some (Some s) → s.down ≡ false
    → first_in (s.accepted ++ newly_accepted s bytes) ≡ Some a → (says s bytes).fault ≡ Some f
    → (answer_of (step histories h (event.Heard o w bytes)) ≡ answer.SessionFaulted f) ×
    (answer_of
    (step histories (state_of h (step histories h (event.Heard o w bytes))) (event.Settle o w))
    ≡ answer.Settled (count_at a.chunk.number l.output))
before_fault-stands h o w a bytes l s f here at up first fault =
    let u = listens s bytes (says s bytes) in
    let heard = heard_faulted h o w bytes l s f here at up fault in (
      ap answer_of heard,
      ap (λ x. answer_of (step histories (state_of h x) (event.Settle o w))) heard
          ∙ settled_after h o w l s u here at
          ∙ ap (λ x. answer_of (sought x NotNow >>= (λ d. Goes (answer.Settled (count_at d.chunk.number l.output)) (with_place w (Some u) l)))) first,
    )

-- ---- each chunk

-- a member of two lists in a row is one of the first, at its place, or one of the second
appended_at : {X : Type 0} (xs ys : List X) (i : ℕ) (x : X) → slice_get (xs ++ ys) i ≡ Some x
    → slice_get xs i ≡ Some x ⊎ ((j : ℕ) × (slice_get ys j ≡ Some x))
appended_at [] ys i x e = inr (i, e)
appended_at (y ∷ xs) ys zero x e = inl e
appended_at (y ∷ xs) ys (suc i) x e = appended_at xs ys i x e

-- each chunk that is acknowledged after a piece was so before it, or its frame was handed on
pub early-each : (h : History) (o w i : ℕ) (bytes : List ℕ) (l : Lane) (s t : SessionHistory)
    (a : Accepted) → slice_get h.lanes o ≡ Some l → slice_get l.sessions w ≡ Some (Some s)
    → session_of (state_of h (step histories h (event.Heard o w bytes))) o w ≡ Some t
    → slice_get t.accepted i ≡ Some a → slice_get s.accepted i ≡ Some a ⊎ IsHandedOn s a.chunk
early-each h o w i bytes l s t a here at next has =
    by s.down (ap (λ x. session_of (state_of h x) o w) (sym (heard_at h o w bytes l s here at)) ∙ next)
  where
    said : Said
    said = says s bytes

    u : SessionHistory
    u = listens s bytes said

    Wanted : Type 0
    Wanted = slice_get s.accepted i ≡ Some a ⊎ IsHandedOn s a.chunk

    before : session_of h o w ≡ Some s
    before = ap (λ x. standing (session_at w x)) here ∙ ap standing at

    heard : session_of (with_lane o (with_place w (Some u) l) h) o w ≡ Some u
    heard =
        ap (λ x. standing (session_at w x)) (slice_get-set_same h.lanes o (with_place w (Some u) l) l here)
        ∙ ap standing (slice_get-set_same l.sessions w (Some u) (Some s) at)

    unheard : session_of h o w ≡ Some t → Wanted
    unheard e = inl (ap (λ (x : SessionHistory). slice_get x.accepted i) (same_Some _ _ (sym before ∙ e)) ∙ has)

    of_new : slice_get s.accepted i ≡ Some a ⊎ ((j : ℕ) × (slice_get (newly_accepted s bytes) j ≡ Some a))
        → Wanted
    of_new (inl old) = inl old
    of_new (inr new) =
        let is = all_at (IsAcknowledged s bytes) (newly_accepted s bytes) new.0 a (acknowledged s bytes) new.1 in
        inr (record {
          place = is.place;
          loaded = is.loaded;
          carried = is.carried;
          chunk = is.chunk;
          handed_on = grind (arith, nat_tests, is.handed_on);
        })

    now : session_of (with_lane o (with_place w (Some u) l) h) o w ≡ Some t → Wanted
    now e =
        of_new (appended_at s.accepted (newly_accepted s bytes) i a
        (ap (λ (x : SessionHistory). slice_get x.accepted i) (same_Some _ _ (sym heard ∙ e)) ∙ has))

    told : (k : SessionHeard) (out : List ℕ)
        → session_of (state_of h (placed h o w l s (of_heard k out u))) o w ≡ Some t → Wanted
    told heard_as.NotUp out e = unheard e
    told heard_as.Quiet out e = now e
    told heard_as.Ready out e = now e
    told heard_as.Acked out e = now e
    told (heard_as.Fault f) out e = now e

    by : (b : Bool)
        → session_of
        (state_of h (placed h o w l s (of_heard
        (cond b heard_as.NotUp (told_of (handshake_of s) said)) (cond b [] (out_of said))
        (cond b s u)))) o w ≡ Some t → Wanted
    by true e = unheard e
    by false e = told (told_of (handshake_of s) said) (out_of said) e

-- the first of a list stands at place 0
first_at : (xs : List Accepted) (a : Accepted) → slice_get xs 0 ≡ Some a → first_in xs ≡ Some a
first_at [] a e = absurd cc
first_at (b ∷ xs) a e = e

-- what stands behind the first is at a place less
behind_first : (xs : List Accepted) (i : ℕ) (a : Accepted) → slice_get xs (suc i) ≡ Some a
    → (b : Accepted) × (first_in xs ≡ Some b) × (slice_get (drop 1 xs) i ≡ Some a)
behind_first [] i a e = absurd cc
behind_first (b ∷ xs) i a e = (b, refl, e)

-- the output whose worker settled a chunk
abbrev settled_lane : Lane → ℕ → SessionHistory → Accepted → Lane
settled_lane l w u b =
    histories.settles l w (steps.with_session (history_worker l w (Some u)) (unloads u)) (evidence_of u.setup.server b)

-- where settling leads
settled_to : (h : History) (o w : ℕ) (l : Lane) (u : SessionHistory) (b : Accepted)
    → slice_get h.lanes o ≡ Some l → slice_get l.sessions w ≡ Some (Some u)
    → first_in u.accepted ≡ Some b
    → state_of h (step histories h (event.Settle o w)) ≡ with_lane o (settled_lane l w u b) h
settled_to h o w l u b here at first =
    ap (λ x. state_of h (sought x NoSuch >>= (λ m. within (λ n. with_lane o n h) (steps.settle histories m w)))) here
    ∙ ap (λ x. state_of h (within (λ n. with_lane o n h) (sought (option_map (history_worker l w) x) NoSuch >>= (λ y. sought y.session NotNow >>= (λ v. sought (first_in v.accepted) NotNow >>= (λ a. Goes (answer.Settled (count_at a.chunk.number l.output)) (histories.settles l w (steps.with_session y (unloads v)) (evidence_of v.setup.server a)))))))) at
    ∙ ap (λ x. state_of h (within (λ n. with_lane o n h) (sought x NotNow >>= (λ a. Goes (answer.Settled (count_at a.chunk.number l.output)) (histories.settles l w (steps.with_session (history_worker l w (Some u)) (unloads u)) (evidence_of u.setup.server a)))))) first

-- each chunk of a session that is accepted can be settled, once those before it are
settled_each : (i : ℕ) (h : History) (o w : ℕ) (l m : Lane) (u : SessionHistory) (a : Accepted)
    → slice_get h.lanes o ≡ Some l → slice_get l.sessions w ≡ Some (Some u)
    → slice_get u.accepted i ≡ Some a
    → slice_get (steps.after histories h (replicate i (event.Settle o w))).lanes o ≡ Some m
    → answer_of (step histories (steps.after histories h (replicate i (event.Settle o w))) (event.Settle o w))
    ≡ answer.Settled (count_at a.chunk.number m.output)
settled_each zero h o w l m u a here at has there =
    settled_as h o w l u here at
    ∙ ap (λ x. answer_of (sought x NotNow >>= (λ d. Goes (answer.Settled (count_at d.chunk.number l.output)) l))) (first_at u.accepted a has)
    ∙ ap (λ (k : Lane). answer.Settled (count_at a.chunk.number k.output)) (same_Some _ _ (sym here ∙ there))
settled_each (suc i) h o w l m u a here at has there =
    let next = behind_first u.accepted i a has in
    let k : Lane = settled_lane l w u next.0 in
    let leads = settled_to h o w l u next.0 here at next.1 in
    ap (λ g. answer_of (step histories (steps.after histories g (replicate i (event.Settle o w))) (event.Settle o w))) leads
    ∙ settled_each i (with_lane o k h) o w k m (unloads u) a
    (slice_get-set_same h.lanes o k l here) (slice_get-set_same l.sessions w (Some (unloads u)) (Some u) at) next.2
    (ap (λ g. slice_get (steps.after histories g (replicate i (event.Settle o w))).lanes o) (sym leads) ∙ there)

-- so also behind a fault
pub behind_fault-each : (h : History) (o w i : ℕ) (a : Accepted) (bytes : List ℕ) (l m : Lane)
    (s : SessionHistory) (f : SessionFault) → slice_get h.lanes o ≡ Some l
    → slice_get l.sessions w ≡ Some (Some s) → s.down ≡ false
    → slice_get (s.accepted ++ newly_accepted s bytes) i ≡ Some a → (says s bytes).fault ≡ Some f
    → slice_get (steps.after histories h (event.Heard o w bytes ∷ replicate i (event.Settle o w))).lanes o ≡ Some m
    → answer_of
    (step histories (steps.after histories h (event.Heard o w bytes ∷ replicate i (event.Settle o w))) (event.Settle o w))
    ≡ answer.Settled (count_at a.chunk.number m.output)
behind_fault-each h o w i a bytes l m s f here at up has fault there =
    let u = listens s bytes (says s bytes) in
    let k : Lane = with_place w (Some u) l in
    let leads = ap (state_of h) (heard_faulted h o w bytes l s f here at up fault) in
    ap (λ g. answer_of (step histories (steps.after histories g (replicate i (event.Settle o w))) (event.Settle o w))) leads
    ∙ settled_each i (with_lane o k h) o w k m u a
    (slice_get-set_same h.lanes o k l here) (slice_get-set_same l.sessions w (Some u) (Some s) at) has
    (ap (λ g. slice_get (steps.after histories g (replicate i (event.Settle o w))).lanes o) (sym leads) ∙ there)

-- ---- a request without entries

pub listed : (id : ℕ) (acked : List ServerAck) (admissions : List Admission) (i : ℕ) (a : Admission)
    → slice_get admissions i ≡ Some a → is_due id acked a ≡ true
    → has_number a.request.origin.request
    (numbers_of (map (λ x. x.request) (filter (is_due id acked) admissions))) ≡ true
listed id acked [] i a h d = absurd cc
listed id acked (b ∷ admissions) zero a h d =
    let same : b ≡ a = cc in
    subst (λ x. has_number x.request.origin.request (numbers_of (map (λ y. y.request) (filter (is_due id acked) (b ∷ admissions)))) ≡ true) same
    (ap (λ t. has_number b.request.origin.request (numbers_of (map (λ y. y.request) (cond t (b ∷ filter (is_due id acked) admissions) (filter (is_due id acked) admissions))))) (ap (is_due id acked) same ∙ d)
    ∙ first_listed b.request.origin.request (numbers_of (map (λ y. y.request) (filter (is_due id acked) admissions))))
  where
    first_listed : (n : ℕ) (ns : List ℕ) → has_number n (n ∷ ns) ≡ true
    first_listed n ns = grind (arith, nat_tests)
listed id acked (b ∷ admissions) (suc i) a h d = later (is_due id acked b) (listed id acked admissions i a h d)
  where
    later : (t : Bool)
        → has_number a.request.origin.request
        (numbers_of (map (λ y. y.request) (filter (is_due id acked) admissions))) ≡ true
        → has_number a.request.origin.request
        (numbers_of (map (λ (y : Admission). y.request)
        (cond t (b ∷ filter (is_due id acked) admissions) (filter (is_due id acked) admissions))))
        ≡ true
    later true g = grind (arith, nat_tests, g)
    later false g = g

-- what a collect comes to at a connection and an output
pub told_as : (h : History) (o id : ℕ) (s : SourceHistory) (l : Lane)
    → source_at id h.connections ≡ Some s → slice_get h.lanes o ≡ Some l
    → s.shut ≡ false
    → answer_of (step histories h (event.Collect id o)) ≡ answer.Told (histories.due l id).numbers
    (histories.due l id).acks
told_as h o id s l stands here still =
    (λ j. answer_of (sought (stands j) NoSuch >>= (λ x. sought (here j) NoSuch >>= (λ y. within (λ two. with_lane o two.1 (with_connection id two.0 h)) (steps.collect histories id x y)))))
    ∙ ap (λ b. answer_of (within (λ (two : SourceHistory × Lane). with_lane o two.1 (with_connection id two.0 h)) (refuse_if b Closed
    >> Goes (answer.Told (histories.due l id).numbers (histories.due l id).acks) (histories.appends s (histories.due l id).acks, histories.tells l id)))) still

pub without_entries-told : (h : History) (o i : ℕ) (s : SourceHistory) (l : Lane) (a : Admission)
    → source_at a.request.origin.conn h.connections ≡ Some s → s.shut ≡ false
    → slice_get h.lanes o ≡ Some l
    → slice_get l.output.book.admissions i ≡ Some a → a.fate ≡ Untold → a.request.spans ≡ []
    → (numbers out : List ℕ) ×
    (answer_of (step histories h (event.Collect a.request.origin.conn o))
    ≡ answer.Told numbers out) ×
    (has_number a.request.origin.request numbers ≡ true)
without_entries-told h o i s l a stands still here at untold none =
    let id = a.request.origin.conn in
    let is_its : is_of id a.request ≡ true = grind (arith, nat_tests) in
    let settled = l.output.book.settled in
    let all : is_settled settled a.request ≡ true = ap (list_all (λ (x : Span). is_some (acknowledged_at settled x.number))) none in
    let d : is_due id settled a ≡ true = λ j. (is_untold (untold j) && is_its j) && all j in (
      (histories.due l id).numbers,
      (histories.due l id).acks,
      told_as h o id s l stands here still,
      listed id settled l.output.book.admissions i a at d,
    )
