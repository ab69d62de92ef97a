-- A worker's session is of its link, from step to step.
use Rattle.std.proofs.Common.{◌≡◌, ◌≢◌, ◌<◌, ◌++◌, ◌⊎◌, inl, inr, Bool, true, false, cond, List, [], ◌∷◌, Option, Some, None, refl, sym, ap, subst, ◌∙◌}
use Rattle.std.specs.Prelude.{ℕ, is_some, option_map, ◌||◌}
use Rattle.std.proofs.Math.Logic.{∥∥₁_map, ∥∥₁_elim}
use Rattle.std.proofs.Math.Bool.{Bool-set}
use Rattle.fwd_chunks.specs.History.{CarriedChunk}
use Rattle.fwd_session.specs.declared.fault.SessionFault.{SessionFault}
use Rattle.fwd_session.specs.declared.told.SessionHeard.{SessionHeard}
use Rattle.fwd_session.specs.declared.told.SessionHeard.TheVariants as told
use Rattle.fwd_session.specs.ServerAcks.{Accepted}
use Rattle.fwd_session.specs.History.{Setup, first_in, is_done, told_by, told_of}
use Rattle.fwd_session.specs.Live.{LiveSession, live_acked, live_is_late, live_is_ready, live_piece_told, live_room, live_says, session_begins, session_hears, session_listens, session_loads, session_looks, session_takes, session_unloads}
use Rattle.fwd_workers.specs.declared.ending.EndReason.{EndReason}
use Rattle.fwd_workers.specs.declared.ending.EndReason.TheVariants as ending
use Rattle.fwd_environment.specs.declared.link.LossReason.{LossReason}
use Rattle.fwd_workers.specs.declared.serve.Served.{Served}
use Rattle.fwd_workers.specs.declared.serve.Served.TheVariants as served
use Rattle.fwd_workers.specs.Endings.{loss_in}
use Rattle.fwd_workers.specs.Working.{IsTended}
use Rattle.fwd_environment.specs.Links.{Call}
use Rattle.fwd_workers.specs.Served.{Seen, seen_in, HasTurned, Sends, Hears, HasHeard, IsServed, Deed, Serves, Loads, Looks, Unloads, Does, Lives, HasLived, HasLost, IsOfLink}

-- ---- a life goes on

-- one deed more
pub lives-then : (deeds : List Deed) (deed : Deed) (s t u : LiveSession) (a b c : Seen)
    → Lives deeds s t a b → Does deed t u b c → Lives (deeds ++ deed ∷ []) s u a c
lives-then [] deed s t u a b c rests does =
    (u, c, subst (λ x. Does deed x u a c) rests.0 (subst (λ x. Does deed t u x c) rests.1 does), (refl, refl))
lives-then (first ∷ deeds) deed s t u a b c lives does =
    (lives.0, lives.1, lives.2, lives-then deeds deed lives.0 t u lives.1 b c lives.3 does)

lived-then : (deed : Deed) (s t : LiveSession) (seen next : Seen) → HasLived s seen
    → Does deed s t seen next → HasLived t next
lived-then deed s t seen next lived does = record {
  setup = lived.setup;
  deeds = lived.deeds ++ deed ∷ [];
  lives = lives-then lived.deeds deed (session_begins lived.setup) s t (seen_in []) seen next lived.lives does;
}

-- a session that is not to end has lived to here
lived-of : (s : LiveSession) (seen : Seen) → IsOfLink s seen false → HasLived s seen
lived-of s seen own = by own.lived
  where
    no : false ≡ true → ⊥
    no e = cc

    by : HasLived s seen ⊎ ((false ≡ true) × HasLost s seen) → HasLived s seen
    by (inl lived) = lived
    by (inr lost) = absurd (no lost.0)

-- it has lived to here, and is to end
ends-of : (s : LiveSession) (seen : Seen) → HasLived s seen → IsOfLink s seen true
ends-of s seen lived = record { lived = inl lived; up = λ e. absurd (no e) }
  where
    no : true ≡ false → ⊥
    no e = cc

-- ---- a turn leaves a session up, unless it is to end

-- what is told without a fault
abbrev calm : SessionHeard → Bool
calm told.Quiet = true
calm told.Ready = true
calm told.Acked = true
calm (told.Fault fault) = false
calm told.NotUp = false

unfaulted : (fault : Option SessionFault) (replies : List (List ℕ)) (before after : Bool)
    (what : SessionHeard) → calm what ≡ true → told_by fault replies before after ≡ what
    → is_some fault ≡ false
unfaulted None replies before after what quiet e = refl
unfaulted (Some fault) replies before after what quiet e = absurd (no (ap calm e ∙ quiet))
  where
    no : false ≡ true → ⊥
    no e = cc

hears-up : (s : LiveSession) (bytes : List ℕ) (what : SessionHeard) → s.down ≡ false
    → calm what ≡ true → live_piece_told s bytes ≡ what → (session_hears s bytes).down ≡ false
unfolding session_takes
hears-up s bytes what up quiet e =
    ap (λ d. (cond d s (session_listens s bytes)).down) up
    ∙ unfaulted (live_says s bytes).fault (live_says s bytes).replies (is_done s.handshake)
    (is_done (live_says s bytes).handshake) what quiet
    (sym (ap (λ d. cond d told.NotUp (told_of s.handshake (live_says s bytes))) up) ∙ e)

heard-up : (what : SessionHeard) (s middle t : LiveSession) (before between after : Seen)
    → s.down ≡ false → calm what ≡ true → Sends s middle before between
    → Hears what middle t between after → t.down ≡ false
heard-up what s middle t before between after up quiet sends heard =
    ap (λ (x : LiveSession). x.down) heard.2
    ∙ hears-up middle heard.0 what (ap (λ (x : LiveSession). x.down) sends.told ∙ up) quiet heard.3

-- a turn without a loss
goes-up : (what : Served) (s t : LiveSession) (before after : Seen) → s.down ≡ false
    → loss_in what ≡ None → IsServed what s t before after → t.down ≡ false
goes-up what s t before after up none is = by what none is.3
  where
    lost : {X : Type 0} {x : X} → Some x ≡ None → ⊥
    lost e = cc

    by : (what : Served) → loss_in what ≡ None → HasHeard what is.0 t is.1 after → t.down ≡ false
    by served.Quiet none (inl heard) = heard-up told.Quiet s is.0 t before is.1 after up refl is.2 heard
    by served.Quiet none (inr rests) = ap (λ (x : LiveSession). x.down) (rests.0 ∙ is.2.told) ∙ up
    by served.Ready none heard = heard-up told.Ready s is.0 t before is.1 after up refl is.2 heard
    by served.Acked none heard = heard-up told.Acked s is.0 t before is.1 after up refl is.2 heard
    by (served.Down fault) none heard = absurd (lost none)
    by served.Closed none rests = absurd (lost none)
    by (served.Failed fault) none fails = absurd (lost none)
    by served.Memory none memory = absurd (lost none)

-- ---- an upstream, from step to step

-- a session begins on a link of which no call was made
pub begins-upstream : (setup : Setup) (s : LiveSession) (calls : List Call) → s ≡ session_begins setup
    → calls ≡ [] → ∥ IsOfLink s (seen_in calls) false ∥₁
begins-upstream setup s calls begun fresh =
    ∣ record {
      lived = inl (record {
        setup = setup;
        deeds = [];
        lives = (begun, ap seen_in fresh);
      });
      up = λ e. ap (λ (x : LiveSession). x.down) begun;
    } ∣₁

-- it was asked whether it is late
looks-lived : (s t : LiveSession) (now : ℕ) (seen : Seen) → IsOfLink s seen false
    → t ≡ session_looks s now → HasLived t seen
looks-lived s t now seen own is =
    lived-then (Looks now) s t seen seen (lived-of s seen own) (own.up refl, is, refl)

-- and it is, so it is to end
pub late-upstream : (s t : LiveSession) (now : ℕ) (calls : List Call)
    → ∥ IsOfLink s (seen_in calls) false ∥₁ → t ≡ session_looks s now
    → ∥ IsOfLink t (seen_in calls) true ∥₁
late-upstream s t now calls own is =
    ∥∥₁_map own (λ own. ends-of t (seen_in calls) (looks-lived s t now (seen_in calls) own is))

-- it was not late, and its turn came to this
served-upstream-by : (what : Served) (m t : LiveSession) (seen next : Seen) → HasLived m seen
    → m.down ≡ false → IsServed what m t seen next
    → IsOfLink t next (is_some (option_map ending.Lost (loss_in what)))
served-upstream-by what m t seen next lived up is = by what is
  where
    no : true ≡ false → ⊥
    no e = cc

    ends : (what : Served) → what ≢ served.Memory → IsServed what m t seen next → IsOfLink t next true
    ends what some is = ends-of t next (lived-then (Serves what) m t seen next lived (up, some, is))

    goes : (what : Served) → what ≢ served.Memory → loss_in what ≡ None
        → IsServed what m t seen next → IsOfLink t next false
    goes what some none is = record {
      lived = inl (lived-then (Serves what) m t seen next lived (up, some, is));
      up = λ e. goes-up what m t seen next up none is;
    }

    by : (what : Served) → IsServed what m t seen next
        → IsOfLink t next (is_some (option_map ending.Lost (loss_in what)))
    by served.Quiet is = goes served.Quiet (λ e. cc) refl is
    by served.Ready is = goes served.Ready (λ e. cc) refl is
    by served.Acked is = goes served.Acked (λ e. cc) refl is
    by (served.Down fault) is = ends (served.Down fault) (λ e. cc) is
    by served.Closed is = ends served.Closed (λ e. cc) is
    by (served.Failed fault) is = ends (served.Failed fault) (λ e. cc) is
    by served.Memory is = record {
      lived = inr (refl, record { prior = m; before = seen; lived = lived; last = is });
      up = λ e. absurd (no e);
    }

looks-up : (s t : LiveSession) (now : ℕ) → live_is_late s now ≡ false → t ≡ session_looks s now
    → t.down ≡ false
unfolding session_looks
looks-up s t now on is = ap (λ (x : LiveSession). x.down) is ∙ on

pub served-upstream : (what : Served) (s m t : LiveSession) (now : ℕ) (calls after : List Call)
    (why : Option EndReason) → ∥ IsOfLink s (seen_in calls) false ∥₁ → live_is_late s now ≡ false
    → m ≡ session_looks s now → IsServed what m t (seen_in calls) (seen_in after)
    → why ≡ option_map ending.Lost (loss_in what)
    → ∥ IsOfLink t (seen_in after) (is_some why) ∥₁
served-upstream what s m t now calls after why own on is served ends =
    ∥∥₁_map own (λ own. subst (λ w. IsOfLink t (seen_in after) (is_some w)) (sym ends)
    (served-upstream-by what m t (seen_in calls) (seen_in after)
    (looks-lived s m now (seen_in calls) own is) (looks-up s m now on is) served))

-- it is to end
pub ending-upstream : (s : LiveSession) (calls : List Call) (ends : Bool)
    → ∥ IsOfLink s (seen_in calls) ends ∥₁ → ∥ IsOfLink s (seen_in calls) true ∥₁
ending-upstream s calls ends own = ∥∥₁_map own (λ own. record { lived = by own.lived; up = λ e. absurd (no e) })
  where
    no : true ≡ false → ⊥
    no e = cc

    by : HasLived s (seen_in calls) ⊎ ((ends ≡ true) × HasLost s (seen_in calls))
        → HasLived s (seen_in calls) ⊎ ((true ≡ true) × HasLost s (seen_in calls))
    by (inl lived) = inl lived
    by (inr lost) = inr (refl, lost.1)

-- a chunk was loaded
pub loads-upstream : (s t : LiveSession) (chunk : CarriedChunk) (now : ℕ) (calls : List Call) (ends : Bool)
    → ends ≡ false → ∥ IsOfLink s (seen_in calls) ends ∥₁ → 0 < live_room s
    → live_is_ready s ≡ true → t ≡ session_loads s chunk now → ∥ IsOfLink t (seen_in calls) ends ∥₁
loads-upstream s t chunk now calls ends on own room ready is =
    ∥∥₁_map own (λ own. record {
      lived = inl (lived-then (Loads chunk now) s t (seen_in calls) (seen_in calls)
          (lived-of s (seen_in calls) (subst (λ b. IsOfLink s (seen_in calls) b) on own))
          (room, ready, is, refl));
      up = λ e. ap (λ (x : LiveSession). x.down) is ∙ own.up e;
    })

-- a chunk was taken out, also where a last turn ended out of memory
lost-unloads : (s t : LiveSession) (seen : Seen) → is_some (live_acked s) ≡ true → t ≡ session_unloads s
    → HasLost s seen → HasLost t seen
lost-unloads s t seen some is lost =
    let last = lost.last in
    let heard = last.3 in
    let prior : is_some (live_acked lost.prior) ≡ true =
    sym (ap (λ (x : LiveSession). is_some (live_acked x)) (heard.0 ∙ last.2.told)) ∙ some in
    record {
      prior = session_unloads lost.prior;
      before = lost.before;
      lived = lived-then Unloads lost.prior (session_unloads lost.prior) lost.before lost.before
          lost.lived (prior, refl, refl);
      last = (
        session_unloads last.0,
        last.1,
        record {
          count = last.2.count;
          within = last.2.within;
          told = ap session_unloads last.2.told;
          seen = last.2.seen;
        },
        (is ∙ ap session_unloads heard.0, heard.1),
      );
    }

pub unloads-upstream : (s t : LiveSession) (calls : List Call) (ends : Bool)
    → ∥ IsOfLink s (seen_in calls) ends ∥₁ → is_some (live_acked s) ≡ true → t ≡ session_unloads s
    → ∥ IsOfLink t (seen_in calls) ends ∥₁
unloads-upstream s t calls ends own some is =
    ∥∥₁_map own (λ own. record {
      lived = by own.lived;
      up = λ e. ap (λ (x : LiveSession). x.down) is ∙ own.up e;
    })
  where
    by : HasLived s (seen_in calls) ⊎ ((ends ≡ true) × HasLost s (seen_in calls))
        → HasLived t (seen_in calls) ⊎ ((ends ≡ true) × HasLost t (seen_in calls))
    by (inl lived) = inl (lived-then Unloads s t (seen_in calls) (seen_in calls) lived (some, is, refl))
    by (inr lost) = inr (lost.0, lost-unloads s t (seen_in calls) some is lost.1)

-- an upstream that is not to end is up
pub up-upstream : (s : LiveSession) (calls : List Call) → ∥ IsOfLink s (seen_in calls) false ∥₁
    → s.down ≡ false
up-upstream s calls own = ∥∥₁_elim own (Bool-set s.down false) (λ own. own.up refl)

-- the chunk that was accepted first was taken out, if there is one
pub acked-upstream : (s t : LiveSession) (calls : List Call) (ends : Bool)
    → ∥ IsOfLink s (seen_in calls) ends ∥₁ → t ≡ session_unloads s
    → (s.accepted ≡ [] → t ≡ s) → ∥ IsOfLink t (seen_in calls) ends ∥₁
acked-upstream s t calls ends own next none = by s.accepted refl
  where
    by : (accepted : List Accepted) → s.accepted ≡ accepted → ∥ IsOfLink t (seen_in calls) ends ∥₁
    by [] e = subst (λ x. ∥ IsOfLink x (seen_in calls) ends ∥₁) (sym (none e)) own
    by (a ∷ later) e =
        unloads-upstream s t calls ends own
        (ap (λ xs. is_some (option_map (λ (a : Accepted). a.chunk) (first_in xs))) e) next

-- ---- what a turn of an upstream is

no-loss : (why : Option LossReason) → option_map ending.Lost why ≡ None → why ≡ None
no-loss None e = refl
no-loss (Some loss) e = absurd (lost e)
  where
    lost : {X : Type 0} {x : X} → Some x ≡ None → ⊥
    lost e = cc

neither : (a b : Bool) → a ≡ false → b ≡ false → a || b ≡ true → ⊥
neither a b x y e = no (sym (λ i. x i || y i) ∙ e)
  where
    no : false ≡ true → ⊥
    no e = cc

-- it was not late, and its turn came to this
pub served-tended : (what : Served) (s m t : LiveSession) (now : ℕ) (before after : List Call)
    (why : Option EndReason) → s.down ≡ false → live_is_late s now ≡ false
    → m ≡ session_looks s now → HasTurned what m t before after
    → IsServed what m t (seen_in before) (seen_in after)
    → why ≡ option_map ending.Lost (loss_in what) → IsTended s t now before after why
served-tended what s m t now before after why up on is turn served ends = record {
  late = λ e. absurd (neither s.down (live_is_late s now) up on e);
  served = λ e. (what, subst (λ x. HasTurned what x t before after) is turn, ends);
  up = λ none. goes-up what m t (seen_in before) (seen_in after) (looks-up s m now on is)
      (no-loss (loss_in what) (sym ends ∙ none)) served;
}
