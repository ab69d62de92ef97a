use Rattle.std.proofs.Common.{◌≡◌, Some, None, [], true, nat_lt, length, refl, sym, ap, ◌∙◌}
use Rattle.fwd_session.specs.Live.{LiveSession, session_begins}
use Rattle.fwd_model.specs.declared.event.EndKind.{EndKind}
use Rattle.fwd_model.specs.Live.{lives}
use Rattle.fwd_model.specs.Setups.{session_setup}
use Rattle.fwd_model.specs.Step.{lost_server}
use Rattle.fwd_run.specs.Pages.{WorkerKnown}
use Rattle.fwd_workers.specs.declared.ending.NoSession.{NoSession}
use Rattle.fwd_workers.specs.Endings.{blamed}
use Rattle.fwd_workers.specs.Placed.{with}
use Rattle.fwd_workers.proofs.Placing.{becomes-then, may-end}
use Rattle.fwd_workers.proofs.worker.Worker.lose_unmet.Goals as goal

pub give_back-requires : goal.give_back-requires
give_back-requires g c =
    let st = c.requires.stands in
    let at = c.tell_unmet.new.self.page in
    let same : at ≡ c.args.self.now.page = ap (λ w. w.page) c.tell_unmet.ensures.kept in
    let known = ap (nat_lt c.args.server) st.servers ∙ c.requires.known c.in-Link.field-0 c.in-Link.is in
    let s : LiveSession = session_begins (session_setup st.config c.args.server [] c.now-now.result) in
    let up : c.up.new.self ≡ record at { has = Some (with c.args.taken (Some s)) } = c.up.ensures (with c.args.taken None) st.config (ap (λ (k : WorkerKnown). k.has) same ∙ st.has) (ap (λ (k : WorkerKnown). k.settings) same ∙ st.set) known refl in
    let l = c.leaving-leaving.ensures in
    let left = c.leaving-leaving.result in
    may-end c.up.new.self left.kind c.args.taken left.taken s left.loaded.items left.server (ap (λ (k : WorkerKnown). k.has) up) refl l.taken l.loaded
    (l.server ∙ (ap (λ (w : NoSession). blamed w c.args.server) c.in-Link.is ∙ ap (λ (k : EndKind). lost_server lives k (Some s)) (sym l.kind)))

pub returns-in-Link-clause-has : goal.returns-in-Link-clause-has
returns-in-Link-clause-has g c =
    let st = c.requires.stands in
    let at = c.tell_unmet.new.self.page in
    let same : at ≡ c.args.self.now.page = ap (λ w. w.page) c.tell_unmet.ensures.kept in
    let known = ap (nat_lt c.args.server) st.servers ∙ c.requires.known c.in-Link.field-0 c.in-Link.is in
    let s : LiveSession = session_begins (session_setup st.config c.args.server [] c.now-now.result) in
    let up : c.up.new.self ≡ record at { has = Some (with c.args.taken (Some s)) } = c.up.ensures (with c.args.taken None) st.config (ap (λ (k : WorkerKnown). k.has) same ∙ st.has) (ap (λ (k : WorkerKnown). k.settings) same ∙ st.set) known refl in
    becomes-then c.args.self.now.page c.up.new.self c.give_back.new.page (with c.args.taken (Some s)) (with None None)
    (up ∙ ap (λ (k : WorkerKnown). record k { has = Some (with c.args.taken (Some s)) }) same) c.give_back.ensures.ends
