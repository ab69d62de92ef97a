use Rattle.std.proofs.Common.{◌≡◌, ℕ, None, Some, refl, sym, subst, ap, ◌∙◌}
use Rattle.fwd_model.specs.Outputs.{output_ends}
use Rattle.fwd_model.specs.declared.event.Event.TheVariants as event
use Rattle.fwd_model.specs.Live.{lives}
use Rattle.fwd_model.specs.Names.{Output, Session}
use Rattle.fwd_model.specs.Step as steps
use Rattle.fwd_history.specs.Histories.{IsOfBoth}
use Rattle.fwd_run.specs.Pages.{OutputKnown, WorkerKnown, given_in}
use Rattle.fwd_run.specs.Runs.{Relay, RunEvent, key_of, touches}
use Rattle.fwd_run.proofs.Acting as acting
use Rattle.fwd_run.proofs.Adding.{two_parts, worker_known, both_add, both_carry}
use Rattle.fwd_run.proofs.output_page.OutputPage.end.Goals as goal

pub add_with-requires-clause-event : goal.add_with-requires-clause-event
add_with-requires-clause-event g c =
    let o = c.self.inside.output in
    let v = c.worker.inside in
    let e : RunEvent = Relay (event.End o v.worker c.args.kind c.args.now) in
    let same : v.output ≡ o = ap (λ (k : WorkerKnown). k.output) c.worker.view_is ∙ (c.requires.same ∙ sym (ap (λ (k : OutputKnown). k.output) c.self.view_is)) in
    let key : v.page.0 ≡ key_of (Session o v.worker) = c.worker.invariant ∙ ap (λ k. key_of (Session k v.worker)) same in
    (e, subst (λ k. IsOfBoth touches k v.page.0 e) (sym c.self.invariant.0) (subst (λ k. IsOfBoth touches (key_of (Output o)) k e) (sym key) (λ k. two_parts k (key_of (Output o)) (key_of (Session o v.worker)))), λ past went gone. (refl, refl))

pub returns-clause-next : goal.returns-clause-next
returns-clause-next g c p x at has some none =
    let o = c.self.inside.output in
    let v = c.worker.inside in
    let same : v.output ≡ o = ap (λ (k : WorkerKnown). k.output) c.worker.view_is ∙ (c.requires.same ∙ sym (ap (λ (k : OutputKnown). k.output) c.self.view_is)) in
    let key : v.page.0 ≡ key_of (Session o v.worker) = c.worker.invariant ∙ ap (λ k. key_of (Session k v.worker)) same in
    let worker : v.worker ≡ c.args.worker.now.worker = ap (λ (k : WorkerKnown). k.worker) c.worker.view_is in
    let new = c.add_with.new.self.1 in
    let known =
    both_add o v.worker c.self.inside.page.0 v.page.0 c.self.inside.page.1 v.page.1 new (Relay (event.End o v.worker c.args.kind c.args.now)) p (output_ends p (steps.gives_back lives x) (steps.lost_server lives c.args.kind x.session) c.args.now) x (record { taken = None; session = None }) c.args.self.now c.args.worker.now c.self.invariant.0 key c.self.view_is (ap (λ k. worker_known k v.worker v.page.1) (sym same) ∙ c.worker.view_is) at has c.add_with.ensures.added
    (λ r out his. acting.end_acts r o p out v.worker x his c.args.kind c.args.now some none) in
    (known.0, ap (λ l. worker_known v.output v.worker l) c.add_with.ensures.both ∙ (ap (λ k. worker_known k v.worker new) same ∙ known.1))

pub returns-clause-held : goal.returns-clause-held
returns-clause-held g c p x at has =
    let o = c.self.inside.output in
    let v = c.worker.inside in
    let same : v.output ≡ o = ap (λ (k : WorkerKnown). k.output) c.worker.view_is ∙ (c.requires.same ∙ sym (ap (λ (k : OutputKnown). k.output) c.self.view_is)) in
    let key : v.page.0 ≡ key_of (Session o v.worker) = c.worker.invariant ∙ ap (λ k. key_of (Session k v.worker)) same in
    both_carry o v.worker c.self.inside.page.0 v.page.0 c.self.inside.page.1 v.page.1 c.add_with.new.self.1 (Relay (event.End o v.worker c.args.kind c.args.now)) p x c.args.self.now c.args.worker.now c.self.invariant.0 key c.self.view_is (ap (λ k. worker_known k v.worker v.page.1) (sym same) ∙ c.worker.view_is) at has c.add_with.ensures.added
