use Rattle.std.proofs.Common.{◌≡◌, ◌∙◌, ℕ, zero, suc, true, nat_lt, length, Some, None, [], refl, sym, ap, arith}
use Rattle.std.proofs.lemmas.Bool.Decides.{nat_tests}
use Rattle.fwd_session.specs.Live.{LiveSession, session_begins}
use Rattle.fwd_model.specs.Setups.{session_setup}
use Rattle.fwd_run.specs.Pages.{WorkerKnown}
use Rattle.fwd_workers.specs.Placed.{with}
use Rattle.fwd_workers.proofs.Placing.{stands-as}
use Rattle.relay_threads.proofs.idle_worker.HoldingWorker.meet.Goals as goal

-- where there are servers, there is a first one
some-server : (n m : ℕ) → (m ≡ 0 → ⊥) → n ≡ m → nat_lt 0 n ≡ true
some-server n zero e h = absurd (e refl)
some-server n (suc m) e h = grind (arith, nat_tests)

pub invariant_of-result : goal.invariant_of-result
invariant_of-result g c =
    let page = c.self.inside.page in
    let own = c.self.invariant in
    let taken = with (Some c.self.inside.chunk) None in
    let first : nat_lt 0 (length own.config.standby) ≡ true =
    some-server (length own.config.standby) c.self.inside.terms.servers c.if-self-eq0.false own.servers in
    let begun : session_begins (session_setup own.config 0 [] 0) ≡ c.in-Some.session =
    (λ i. session_begins (record {
      server = 0;
      login = own.login i;
      salt = [];
      ack_wait = (own.acks i).ack_wait;
      window = (own.acks i).window;
      start = 0;
    })) ∙ sym c.in-Some.ensures in
    stands-as page c.up.new.self taken (with (Some c.self.inside.chunk) (Some c.in-Some.session)) c.self.inside.terms own
    (c.up.ensures taken own.config own.has own.set first refl
    ∙ ap (λ (s : LiveSession). record page { has = Some (with (Some c.self.inside.chunk) (Some s)) }) begun)
