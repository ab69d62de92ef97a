-- Which sources stand behind a visit.
use Rattle.std.proofs.Common.{arith, ◌≡◌, ◌≢◌, ◌<◌, ◌⊎◌, inl, inr, ℕ, Bool, true, false, [], ◌∷◌, length, Option, Some, None, refl, sym, ap, subst, ◌∙◌}
use Rattle.std.specs.Prelude.{◌==◌, ◌&&◌, ◌||◌, not, nat_le, nat_lt, option_map, if◌then◌else◌}
use Rattle.std.specs.Option.{is_some, option_and_then}
use Rattle.std.proofs.lemmas.Bool.Decides.{nat_tests}
use Rattle.std.proofs.lemmas.Bool.{eqb-true, eqb-false}
use Rattle.std.specs.Prelude.{IsSome}
use Rattle.slab.specs.Slab as slots
use Rattle.slab.proofs.SlabLemmas.{Updates-with_value}
use Rattle.fwd_source.specs.Live.{LiveSource, first_waiting}
use Rattle.fwd_peers.specs.Leaving.{is_leaving}
use Rattle.fwd_peers.specs.Peers.{PeerShown, Writes, asks, is_free, stands}
use Rattle.fwd_reader.specs.declared.peer.Peer.{Peer}
use Rattle.fwd_reader.specs.declared.peer.Peer.TheVariants as kind
use Rattle.fwd_reader.specs.declared.connections.OpenConnection.{OpenConnection}
use Rattle.fwd_reader.specs.declared.connections.Connections.{Connections}
use Rattle.fwd_reader.specs.Lending.{with_connection}
use Rattle.fwd_reader.specs.OpenConnections.{connection_at, connection_in, connections_in, without}
use Rattle.fwd_reader.specs.Queues.{is_queued_at, is_ready_at, kept_at, made_kept, made_queued, made_ready, put_at, waits_no_more, with_changed}
use Rattle.fwd_turns.specs.declared.visiting.After.{After}
use Rattle.fwd_turns.specs.declared.visiting.After.TheVariants.{Again, Waits, Kept, Rests, Goes}
use Rattle.fwd_turns.specs.Visits.{after_of, is_left, visited_of}
use Rattle.fwd_reader.specs.Admissions.{AdmitsAndRefuses, AdmitsAndWaits}
use Rattle.fwd_reader.specs.Routers.{RouterShown}
use Rattle.fwd_turns.specs.Keeping.{IsDone, IsReadAt, IsReadFrom, IsReadTo, IsServedAt, IsVisited, IsWith, KeepsAt, KeepsServed, KeepsWaiting, ReadsAndServes, Serves, Standing, StandsWith, waits_unasked}

-- a connection goes or not
goes_or_not : (after : After) → (after ≡ Goes) ⊎ (after ≢ Goes)
goes_or_not Goes = inl refl
goes_or_not Again = inr (λ e. cc)
goes_or_not Waits = inr (λ e. cc)
goes_or_not Kept = inr (λ e. cc)
goes_or_not Rests = inr (λ e. cc)

some_same : {J : Type 0} → (a b : Peer J) → Some a ≡ Some b → a ≡ b
some_same a b e = cc

-- another connection stands at a key
updated : {J : Type 0} → (opened : slots.Slab (OpenConnection J)) (key : ℕ) (was is : OpenConnection J)
    → slots.get opened key ≡ Some was
    → slots.Updates opened (slots.with_value opened key is) key (Some is)
updated opened key was is there = Updates-with_value opened key is (subst IsSome (sym there) refl)

-- the source at a key was visited
pub visits : {J : Type 0} → (opened : slots.Slab (OpenConnection J)) (key : ℕ) (was : OpenConnection J) (after : Peer J)
    → slots.get opened key ≡ Some was
    → ((source : PeerShown) → was.connection ≡ kind.Source source → IsWith source after)
    → IsVisited key (connections_in opened)
    (connections_in (slots.with_value opened key (record was { connection = after })))
visits opened key was after there stands =
    let is = record was { connection = after } in
    record {
      others = λ other apart. ap connection_in ((updated opened key was is there).others other apart);
      there = λ source it.
          let one : IsWith source after =
          stands source (some_same was.connection (kind.Source source)
          (sym (ap connection_in there) ∙ it)) in (
            one.0,
            (
              ap connection_in (updated opened key was is there).changed ∙ ap Some one.1.0,
              one.1.1,
            ),
          );
    }

-- whether a source asks depends only on what waits
asks_by : (a b s : LiveSource)
    → is_some (option_and_then (λ asked. asked.1.chunk) (first_waiting a s.waiting))
    ≡ is_some (option_and_then (λ asked. asked.1.chunk) (first_waiting b s.waiting))
asks_by a b s =
    elim s.waiting as (λ ws. is_some (option_and_then (λ asked. asked.1.chunk) (first_waiting a ws))
    ≡ is_some (option_and_then (λ asked. asked.1.chunk) (first_waiting b ws)))
    [ [] ↦ refl | request ∷ waiting ↦ refl ]

asks_same : (s t : PeerShown) → t.live.waiting ≡ s.live.waiting → asks t ≡ asks s
asks_same s t same =
    ap (λ ws. is_some (option_and_then (λ asked. asked.1.chunk) (first_waiting t.live ws))) same
    ∙ asks_by t.live s.live s.live

-- a write leaves what waits
pub writes_keep : (s t : PeerShown) (goes_on : Bool) → Writes s goes_on t
    → t.live.waiting ≡ s.live.waiting
writes_keep s t goes_on writes =
    ap (λ p. p.live.waiting) writes.after ∙ ap (λ p. p.live.waiting) writes.sent.rest

-- and so does a visit that writes, or does not where the source was told that no more comes
pub visit_keeps : (s t : PeerShown) (goes_on : Bool)
    → (is_leaving s.leave ≡ false → Writes s goes_on t) → (is_leaving s.leave ≡ true → t ≡ s)
    → t.live.waiting ≡ s.live.waiting
visit_keeps s t goes_on written leaves = by (is_leaving s.leave) refl
  where
    by : (b : Bool) → is_leaving s.leave ≡ b → t.live.waiting ≡ s.live.waiting
    by false e = writes_keep s t goes_on (written e)
    by true e = ap (λ (p : PeerShown). p.live.waiting) (leaves e)

-- who has a request that waits and is not sent again does not go
never_goes : (w l a : Bool) (other : After) → w ≡ true → a ≡ false
    → (if w then (if l then (if a then Goes else Kept) else Waits) else other) ≢ Goes
never_goes false l a other does not_a goes = absurd (no_true does)
  where
    no_true : false ≡ true → ⊥
    no_true e = cc
never_goes true false a other does not_a goes = cc
never_goes true true false other does not_a goes = cc
never_goes true true true other does not_a goes = absurd (no_false not_a)
  where
    no_false : true ≡ false → ⊥
    no_false e = cc

both : (a b : Bool) → (a && b) ≡ true → (a ≡ true) × (b ≡ true)
both true b is = (refl, is)
both false b is = absurd (no_true is)
  where
    no_true : false ≡ true → ⊥
    no_true e = cc

is_not : (b : Bool) → not b ≡ true → b ≡ false
is_not false e = refl
is_not true e = cc

some_wait : (count : ℕ) → not (count == 0) ≡ true → nat_lt 0 count ≡ true
some_wait count some = grind (arith, nat_tests)

pub stays_waiting : (s t : PeerShown) (goes_on waits closing : Bool) (after : After)
    → (is_leaving s.leave ≡ false → Writes s goes_on t) → (is_leaving s.leave ≡ true → t ≡ s)
    → waits ≡ nat_lt 0 (length s.live.waiting)
    → after ≡ after_of (visited_of false waits closing t) → waits_unasked s ≡ true → after ≢ Goes
stays_waiting s t goes_on waits closing after written leaves found becomes unasked goes =
    let parts = both (not (length s.live.waiting == 0)) (not (asks s)) unasked in
    never_goes waits (is_left (visited_of false waits closing t)) (asks t)
    (if not (stands t.stage t.live.unsent) then Goes else
    if (visited_of false waits closing t).may_have_more || is_free t then Again else Rests)
    (found ∙ some_wait (length s.live.waiting) parts.0)
    (asks_same s t (visit_keeps s t goes_on written leaves) ∙ is_not (asks s) parts.1)
    (sym becomes ∙ goes)

-- where nothing changes all stand
pub all_stand : {J : Type 0} → (s t : Standing J) → t ≡ s → KeepsWaiting s t
all_stand s t same = record {
  kept = λ key source there waits. (source, (ap (λ f. f key) same ∙ there, refl));
}

-- what becomes of others where one goes, or none does
others_stand : {J : Type 0} → (u t : Standing J) (key k : ℕ) (after : After) → (after ≢ Goes → t ≡ u)
    → (after ≡ Goes → t ≡ without key u) → (k == key) ≡ false
    → (after ≡ Goes) ⊎ (after ≢ Goes) → t k ≡ u k
others_stand u t key k after stays goes apart (inl e) =
    ap (λ f. f k) (goes e) ∙ ap (λ b. if b then None else u k) apart
others_stand u t key k after stays goes apart (inr n) = ap (λ f. f k) (stays n)

-- a connection is visited, and goes by what becomes of it
kept_there : {J : Type 0} → (s u t : Standing J) (key : ℕ) (after : After) → IsVisited key s u
    → KeepsAt key s after → (after ≢ Goes → t ≡ u) → (after ≡ Goes → t ≡ without key u)
    → (k : ℕ) (source : PeerShown) → s k ≡ Some (kind.Source source)
    → waits_unasked source ≡ true → StandsWith source (t k)
kept_there s u t key after visited stand stays goes k source there waits = by (k == key) refl
  where
    at : k ≡ key → s key ≡ Some (kind.Source source)
    at same = subst (λ j. s j ≡ Some (kind.Source source)) same there

    by : (b : Bool) → (k == key) ≡ b → StandsWith source (t k)
    by true e =
        subst (StandsWith source)
        (sym (ap (λ f. f k) (stays (stand source (at (eqb-true k key e)) waits))))
        (subst (λ j. StandsWith source (u j)) (sym (eqb-true k key e))
        (visited.there source (at (eqb-true k key e))))
    by false e = (
      source,
      (
        others_stand u t key k after stays goes e (goes_or_not after)
            ∙ visited.others k (eqb-false k key e) ∙ there,
        refl,
      ),
    )

pub keeps : {J : Type 0} → (before s u t : Standing J) (key : ℕ) (after : After) → s ≡ before
    → IsVisited key s u → KeepsAt key s after → (after ≢ Goes → t ≡ u)
    → (after ≡ Goes → t ≡ without key u) → KeepsWaiting before t
keeps before s u t key after same visited stand stays goes =
    subst (λ b. KeepsWaiting b t) same
    (record { kept = kept_there s u t key after visited stand stays goes })

-- a connection goes that was changed before
pub gone_then : {J : Type 0} → (s u t : Standing J) (key : ℕ)
    → ((other : ℕ) → other ≢ key → u other ≡ s other) → t ≡ without key u → t ≡ without key s
gone_then s u t key others gone = gone ∙ (λ i k. by k (k == key) refl i)
  where
    by : (k : ℕ) (b : Bool) → (k == key) ≡ b
        → (if b then None else u k) ≡ (if b then None else s k)
    by k true e = refl
    by k false e = others k (eqb-false k key e)

source_same : {J : Type 0} → (connection : Peer J) (a b : PeerShown) → connection ≡ kind.Source a
    → connection ≡ kind.Source b → a ≡ b
source_same connection a b is it = cc

-- a source is written to that stands there
pub stands_with : {J : Type 0} → (connection : Peer J) (was told after source : PeerShown)
    → connection ≡ kind.Source was → told ≡ record was { why = None }
    → after.live.waiting ≡ told.live.waiting → connection ≡ kind.Source source
    → IsWith {J = J} source (kind.Source after)
stands_with connection was told after source is once waiting it =
    let same : was ≡ source = source_same connection was source is it in (
      after,
      (
        refl,
        waiting ∙ ap (λ (s : PeerShown). s.live.waiting) once
            ∙ ap (λ (s : PeerShown). s.live.waiting) same,
      ),
    )

none_is : {J : Type 0} → (was : Peer J) → Some was ≡ None → ⊥
none_is was e = absurd cc

-- the connection that is lent was visited
pub visited_at : {J : Type 0} → (c : Connections J) (key : ℕ) (o : Option (OpenConnection J)) (was after : Peer J)
    → slots.get c.opened key ≡ o → Some was ≡ connection_at c key
    → ((source : PeerShown) → was ≡ kind.Source source → IsWith source after)
    → IsVisited key (connection_at c) (connection_at (with_connection c key o after))
visited_at c key None was after there same stands =
    absurd (none_is was (same ∙ ap connection_in there))
visited_at c key (Some opened) was after there same stands =
    let is : was ≡ opened.connection =
    some_same was opened.connection (same ∙ ap connection_in there) in
    visits c.opened key opened after there (λ source it. stands source (is ∙ it))

-- ---- a visit that reads

-- who has nothing that waits has nothing that nobody sends again
none_unasked : (s t : PeerShown) → t.live.waiting ≡ s.live.waiting → s.live.waiting ≡ []
    → waits_unasked t ≡ true → ⊥
none_unasked s t same none unasked =
    let parts = both (not (length t.live.waiting == 0)) (not (asks t)) unasked in
    no_true (sym (ap (λ ws. not (length ws == 0)) (same ∙ none)) ∙ parts.0)
  where
    no_true : false ≡ true → ⊥
    no_true e = cc

-- where none has to wait longer, no source goes of which a request waits that nobody sends again,
-- but for a refusal
done_stays : (o p : RouterShown) (s served t : PeerShown) (after : After)
    → IsDone o s p served → t.live.waiting ≡ served.live.waiting
    → waits_unasked t ≡ true → after ≡ Goes → AdmitsAndRefuses o s p served
done_stays o p s served t after (inl each) same unasked goes =
    absurd (none_unasked served t same each.none unasked)
done_stays o p s served t after (inr refused) same unasked goes = refused

-- where some have to wait, it does not go at all
waits_stays : (t : PeerShown) (again closing : Bool) (after : After)
    → after ≡ after_of (visited_of again true closing t) → waits_unasked t ≡ true
    → after ≡ Goes → ⊥
waits_stays t again closing after becomes unasked goes =
    let parts = both (not (length t.live.waiting == 0)) (not (asks t)) unasked in
    never_goes true (is_left (visited_of again true closing t)) (asks t) Rests refl
    (is_not (asks t) parts.1) (sym becomes ∙ goes)

-- a source is served, and written to
serves : (o p : RouterShown) (s served t : PeerShown) (waits again closing : Bool)
    (after : After)
    → (waits ≡ true → AdmitsAndWaits o s p served) → (waits ≡ false → IsDone o s p served)
    → t.live.waiting ≡ served.live.waiting
    → after ≡ after_of (visited_of again waits closing t) → Serves o s after p t
serves o p s served t true again closing after waited done same becomes = record {
  served = served;
  admits = inl (waited refl);
  waiting = same;
  stays = λ unasked goes. absurd (waits_stays t again closing after becomes unasked goes);
}
serves o p s served t false again closing after waited done same becomes = record {
  served = served;
  admits = inr (done refl);
  waiting = same;
  stays = done_stays o p s served t after (done refl) same;
}

-- a source is read, served, and written to
pub reads_and_serves : (o p : RouterShown) (s read served told t : PeerShown)
    (waits again closing goes_on : Bool) (after : After)
    → (0 < length s.live.waiting → read.live.waiting ≡ s.live.waiting)
    → read.live.admitted ≡ s.live.admitted → (waits ≡ true → AdmitsAndWaits o read p served)
    → (waits ≡ false → IsDone o read p served) → told ≡ record served { why = None }
    → (is_leaving told.leave ≡ false → Writes told goes_on t)
    → (is_leaving told.leave ≡ true → t ≡ told)
    → after ≡ after_of (visited_of again waits closing t) → ReadsAndServes o s after p t
reads_and_serves o p s read served told t waits again closing goes_on after had none waited done once written leaves becomes =
    record {
      read = read;
      had = had;
      none = none;
      serves = serves o p read served t waits again closing after waited done
          (visit_keeps told t goes_on written leaves ∙ ap (λ (x : PeerShown). x.live.waiting) once)
          becomes;
    }

-- a source is left unread
pub stays_so : (o : RouterShown) (s t : PeerShown) → t ≡ s → IsReadFrom o s Again o t
stays_so o s t same = inl (ap (λ (x : PeerShown). x.live.waiting) same, (λ e. cc), refl)

-- a source was read and served
pub was_served : (o p : RouterShown) (s t : PeerShown) (after : After)
    → ReadsAndServes o s after p t → IsReadFrom o s after p t
was_served o p s t after reads = inr reads

-- and so was the connection that it is
pub was_read_to : {J : Type 0} → (o p : RouterShown) (connection last : Peer J) (was left source : PeerShown)
    (after : After) → connection ≡ kind.Source was → last ≡ kind.Source left → IsReadFrom o was after p left
    → connection ≡ kind.Source source → IsReadTo o source after p last
was_read_to o p connection last was left source after is then_ reads it =
    subst (λ s. IsReadTo o s after p last) (source_same connection was source is it) (by reads)
  where
    by : IsReadFrom o was after p left → IsReadTo o was after p last
    by (inl stays) = inl ((left, (then_, stays.0)), stays.1, stays.2)
    by (inr served) = inr (left, (then_, served))

-- where nothing changes each stands
pub all_served : {J : Type 0} → (o : RouterShown) (s t : Standing J) → t ≡ s → KeepsServed o s o t
all_served o s t same = record {
  each = λ key source there. inl (source, (ap (λ f. f key) same ∙ there, refl));
}

-- the connection that is lent was read
pub read_there : {J : Type 0} → (c : Connections J) (key : ℕ) (o : Option (OpenConnection J)) (was after : Peer J)
    (before then_ : RouterShown) (becomes : After)
    → slots.get c.opened key ≡ o → Some was ≡ connection_at c key
    → ((source : PeerShown) → was ≡ kind.Source source
    → IsReadTo before source becomes then_ after)
    → IsReadAt key before (connection_at c) becomes then_
    (connection_at (with_connection c key o after))
read_there c key None was after before then_ becomes there same reads =
    absurd (none_is was (same ∙ ap connection_in there))
read_there c key (Some opened) was after before then_ becomes there same reads =
    let is = record opened { connection = after } in
    let changes = updated c.opened key opened is there in
    record {
      others = λ other apart. ap connection_in (changes.others other apart);
      there = λ source it.
          let is_source : was ≡ kind.Source source =
          some_same was (kind.Source source) (same ∙ it) in
          (after, (ap connection_in changes.changed, reads source is_source));
    }

-- none is lent
pub read_none : {J : Type 0} → (o : RouterShown) (s : Standing J) (key : ℕ) → s key ≡ None
    → IsReadAt key o s Rests o s
read_none o s key none = record {
  others = λ other apart. refl;
  there = λ source it. absurd (none_is (kind.Source source) (sym it ∙ none));
}

-- what becomes of the one that was read
served_at : {J : Type 0} → (o p : RouterShown) (s u t : Standing J) (key : ℕ) (after : After)
    → IsReadAt key o s after p u → (after ≢ Goes → t ≡ u) → (after ≡ Goes → t ≡ without key u)
    → (source : PeerShown) → s key ≡ Some (kind.Source source)
    → StandsWith source (t key) ⊎ IsServedAt o source p (t key)
served_at {J} o p s u t key after read stays goes source there =
    by (read.there source there).0 (read.there source there).1.0 (read.there source there).1.1
  where
    last : (v : PeerShown) → u key ≡ Some (kind.Source v) → (after ≡ Goes) ⊎ (after ≢ Goes)
        → (t key ≡ Some (kind.Source v)) ⊎ ((after ≡ Goes) × (t key ≡ None))
    last v is (inl e) =
        let same : (key == key) ≡ true = grind (arith, nat_tests) in
        inr (e, ap (λ f. f key) (goes e) ∙ ap (λ b. if b then None else u key) same)
    last v is (inr n) = inl (ap (λ f. f key) (stays n) ∙ is)

    by : (connection : Peer J) → u key ≡ Some connection → IsReadTo o source after p connection
        → StandsWith source (t key) ⊎ IsServedAt o source p (t key)
    by connection at_key (inl stood) =
        inl (stood.0.0, (ap (λ f. f key) (stays stood.1) ∙ at_key ∙ ap Some stood.0.1.0, stood.0.1.1))
    by connection at_key (inr was) =
        inr (after, (was.0, (was.1.1, last was.0 (at_key ∙ ap Some was.1.0) (goes_or_not after))))

-- a connection is read, and goes by what becomes of it
pub keeps_served : {J : Type 0} → (o p q : RouterShown) (before s u t : Standing J) (key : ℕ) (after : After)
    → s ≡ before → IsReadAt key o s after p u → (after ≢ Goes → t ≡ u)
    → (after ≡ Goes → t ≡ without key u) → q ≡ p → KeepsServed o before q t
keeps_served o p q before s u t key after same read stays goes left =
    subst (λ r. KeepsServed o before r t) (sym left)
    (subst (λ b. KeepsServed o b p t) same (record {
      each = λ k source there. by k source there (k == key) refl;
    }))
  where
    by : (k : ℕ) (source : PeerShown) → s k ≡ Some (kind.Source source) → (b : Bool)
        → (k == key) ≡ b → StandsWith source (t k) ⊎ IsServedAt o source p (t k)
    by k source there true e =
        let is : k ≡ key = eqb-true k key e in
        subst (λ j. StandsWith source (t j) ⊎ IsServedAt o source p (t j)) (sym is)
        (served_at o p s u t key after read stays goes source
        (subst (λ j. s j ≡ Some (kind.Source source)) is there))
    by k source there false e =
        inl (
          source,
          (
            others_stand u t key k after stays goes e (goes_or_not after)
                ∙ read.others k (eqb-false k key e) ∙ there,
            refl,
          ),
        )

-- ---- what is noted of a connection behind a visit

-- what stands at a key once it was changed there
changed_there : {J : Type 0} → (opened : slots.Slab (OpenConnection J)) (key : ℕ) (o : Option (OpenConnection J))
    (change : OpenConnection J → OpenConnection J) → slots.get opened key ≡ o
    → slots.get (put_at opened key (option_map change o)) key ≡ option_map change o
changed_there opened key None change there = there
changed_there opened key (Some was) change there =
    (updated opened key was (change was) there).changed

-- the same of these connections
changed_at : {J : Type 0} → (before opened : slots.Slab (OpenConnection J)) (key : ℕ)
    (change : OpenConnection J → OpenConnection J) → opened ≡ with_changed before key change
    → slots.get opened key ≡ option_map change (slots.get before key)
changed_at before opened key change is =
    ap (λ o. slots.get o key) is ∙ changed_there before key (slots.get before key) change refl

-- whether what stands at a key, if something does, stands among those that are ready
abbrev are_ready : {J : Type 0} → Option (OpenConnection J) → Option Bool
are_ready {J} o = option_map (λ (it : OpenConnection J). it.is_ready) o

-- the same of those whose requests wait
abbrev are_queued : {J : Type 0} → Option (OpenConnection J) → Option Bool
are_queued {J} o = option_map (λ (it : OpenConnection J). it.is_queued) o

ready_not : {J : Type 0} → (o : Option (OpenConnection J))
    → are_ready (option_map waits_no_more (option_map (made_ready false) o)) ≡ Some false → ⊥
ready_not None e = absurd cc
ready_not (Some o) e = absurd cc

queued_not : {J : Type 0} → (now : ℕ) (o : Option (OpenConnection J))
    → are_queued (option_map (made_queued now) o) ≡ Some false → ⊥
queued_not now None e = absurd cc
queued_not now (Some o) e = absurd cc

still_queued : {J : Type 0} → (o : Option (OpenConnection J))
    → are_queued (option_map made_kept o) ≡ are_queued o
still_queued None = refl
still_queued (Some o) = refl

kept_queued : {J : Type 0} → (opened : slots.Slab (OpenConnection J)) (key : ℕ) (b : Bool)
    → are_queued (slots.get (if b then opened else with_changed opened key made_kept) key)
    ≡ are_queued (slots.get opened key)
kept_queued opened key true = refl
kept_queued opened key false =
    ap are_queued (changed_there opened key (slots.get opened key) made_kept refl)
    ∙ still_queued (slots.get opened key)

-- one that was made ready, and of which no request waits then, is ready
pub noted_again : {J : Type 0} → (s between t : Connections J) (key : ℕ)
    → between.opened ≡ with_changed s.opened key (made_ready false)
    → t.opened ≡ with_changed between.opened key waits_no_more → is_ready_at t key ≢ Some false
noted_again s between t key ready admitted not_ready =
    ready_not (slots.get s.opened key)
    (sym (ap are_ready (changed_at between.opened t.opened key waits_no_more admitted
    ∙ ap (option_map waits_no_more)
    (changed_at s.opened between.opened key (made_ready false) ready))) ∙ not_ready)

-- one of which requests wait stands among those
pub noted_waits : {J : Type 0} → (s t : Connections J) (key now : ℕ)
    → t.opened ≡ with_changed s.opened key (made_queued now) → is_queued_at t key ≢ Some false
noted_waits s t key now waits not_queued =
    queued_not now (slots.get s.opened key)
    (sym (ap are_queued (changed_at s.opened t.opened key (made_queued now) waits)) ∙ not_queued)

-- so does one whose other side is gone
pub noted_kept : {J : Type 0} → (s t : Connections J) (kept limit key now : ℕ)
    → t.opened ≡ kept_at kept limit key (with_changed s.opened key (made_queued now))
    → is_queued_at t key ≢ Some false
noted_kept s t kept limit key now is not_queued =
    queued_not now (slots.get s.opened key)
    (sym (ap (λ o. are_queued (slots.get o key)) is
    ∙ kept_queued (with_changed s.opened key (made_queued now)) key (nat_le limit kept)
    ∙ ap are_queued (changed_there s.opened key (slots.get s.opened key) (made_queued now) refl))
    ∙ not_queued)
