use Rattle.std.proofs.Common.{◌≡◌, ◌<◌, ◌≤◌, ◌++◌, ℕ, arith, Some, None, List, [], true, false, length, nat_lt, refl, sym, ap, subst, ◌∙◌}
use Rattle.std.specs.Prelude.{option_to_list}
use Rattle.fwd_chunks.specs.History.{CarriedChunk}
use Rattle.fwd_session.specs.Live.{LiveSession, session_begins}
use Rattle.fwd_model.specs.Layers.{Worker}
use Rattle.fwd_model.specs.Outputs.{output_ends, returned}
use Rattle.fwd_model.specs.Setups.{session_setup}
use Rattle.fwd_run.specs.Pages.{AreCarried, WorkerKnown}
use Rattle.fwd_output.specs.Paged.{IsTrial}
use Rattle.fwd_output.proofs.Paging.{below, both-as, none-carried}
use Rattle.fwd_output.proofs.paged_output.PagedOutput.lose.Goals as goal

pub end-requires : goal.end-requires
end-requires g c =
    let t = c.self.invariant.1 in
    let known = below c.args.server (length t.config.standby) (omega (arith, c.if-server-self.false, t.count)) in
    record { same = ap (λ (k : WorkerKnown). k.output) (c.up.ensures (record { taken = None; session = None }) t.config t.has t.set known refl) ∙ t.here }

pub invariant_of-self : goal.invariant_of-self
invariant_of-self g c =
    let o = c.self.inside in
    let own = c.self.invariant in
    let t = own.1 in
    let known = below c.args.server (length t.config.standby) (omega (arith, c.if-server-self.false, t.count)) in
    let s : LiveSession = session_begins (session_setup t.config c.args.server [] c.args.now) in
    let x : Worker LiveSession = record { taken = None; session = Some s } in
    let up : c.up.new.self ≡ record o.trial { has = Some x } = c.up.ensures (record { taken = None; session = None }) t.config t.has t.set known refl in
    let ends = c.end.ensures.next o.state x own.0.is (ap (λ (k : WorkerKnown). k.has) up) refl refl in
    let back : c.end.new.worker ≡ o.trial = ends.1 ∙ (ap (λ (k : WorkerKnown). record k { has = Some (record { taken = None; session = None }) }) up ∙ ap (λ h. record o.trial { has = h }) (sym t.has)) in
    let here : AreCarried o.state.buffer c.new.result.items = subst (AreCarried o.state.buffer) (sym c.new.ensures.items) (none-carried o.state.buffer) in
    let both =
    both-as o.page c.end.new.self o.trial o.servers o.state c.end-2.new.self _ own
    (c.end-2.ensures.here here ∙ ap (λ (l : List CarriedChunk). output_ends o.state (returned None l) (Some c.args.server) c.args.now) c.new.ensures.items) refl ends.0 in
    (both.0, subst (λ (k : WorkerKnown). IsTrial k c.end.new.self.output o.servers) (sym back) both.1)
