-- What a worker's turn with a session and no chunk comes to.
use Rattle.std.proofs.Common.{◌≡◌, true, false, List, Option, Some, None, refl, sym, ap, subst, ◌∙◌}
use Rattle.std.specs.Prelude.{ℕ, is_some, option_map}
use Rattle.fwd_session.specs.History.{Setup}
use Rattle.fwd_session.specs.Live.{LiveSession, live_is_ready}
use Rattle.fwd_workers.specs.declared.ending.EndReason.{EndReason}
use Rattle.fwd_environment.specs.declared.link.WorkerEvent.{WorkerEvent}
use Rattle.fwd_environment.specs.Links.{Call}
use Rattle.fwd_workers.specs.declared.upstream.IdleUpstream.{IdleUpstream}
use Rattle.fwd_workers.specs.declared.upstream.WorkerState.{WorkerState}
use Rattle.fwd_workers.specs.declared.upstream.WorkerState.TheVariants as state
use Rattle.fwd_workers.specs.Choosing.{HasGoneOver}
use Rattle.fwd_workers.specs.Working.{HasTakenNext, IsTended, Lasts}

none-is : false ≡ true → ⊥
none-is e = cc

-- an upstream is to end, or it is not
pub by-ending : {P : Type 0} (ending : Option EndReason) → (ending ≡ None → P)
    → ((why : EndReason) → ending ≡ Some why → P) → P
by-ending None on over = on refl
by-ending (Some why) on over = over why refl

-- a session that is not to end goes on
pub goes-on : (s t u : LiveSession) (now : ℕ) (before after : List Call) (x y : Option EndReason)
    (f : EndReason → EndReason) → IsTended s t now before after x → u ≡ t → y ≡ option_map f x
    → is_some y ≡ false → (y ≡ None) × Lasts s u now before
goes-on s t u now before after None y f turn same is on =
    (is, subst (λ v. Lasts s v now before) (sym same) (after, turn))
goes-on s t u now before after (Some why) y f turn same is on =
    absurd (none-is (sym on ∙ ap is_some is))

-- a session that goes on, or one in its place, is what a worker has that looked for a chunk for it
pub gone-over : {L : Type 0} {g : _} (at : WorkerState L g) (free : IdleUpstream L g)
    (setups : ℕ → Setup) (server : ℕ) (told : Option WorkerEvent) (s : LiveSession) (now : ℕ)
    (before : List Call) → HasGoneOver at free (setups server)
    → (free.upstream.ending ≡ None) × Lasts s free.upstream.session now before
    → live_is_ready free.upstream.session ≡ true → HasTakenNext at told s now before setups
gone-over (state.Standing rest) free setups server told s now before gone on ready =
    subst (λ x. (x.upstream.ending ≡ None) × Lasts s x.upstream.session now before) (sym gone) on
gone-over (state.Took rest chunk) free setups server told s now before gone on ready =
    subst (λ x. (x.upstream.ending ≡ None) × (live_is_ready x.upstream.session ≡ true)
    × Lasts s x.upstream.session now before) (sym gone) (on.0, ready, on.1)
gone-over (state.Sought rest) free setups server told s now before gone on ready =
    (gone.0, (server, gone.1))
gone-over state.Idle free setups server told s now before gone on ready = absurd gone
gone-over state.Seeking free setups server told s now before gone on ready = absurd gone
gone-over (state.Added roomy chunk) free setups server told s now before gone on ready = absurd gone
gone-over (state.Loaded upstream) free setups server told s now before gone on ready = absurd gone
gone-over (state.Settled upstream) free setups server told s now before gone on ready = absurd gone
