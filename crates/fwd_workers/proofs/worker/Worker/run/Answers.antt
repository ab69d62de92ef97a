use Rattle.std.proofs.Common.{arith, ◌≡◌, ◌≤◌, None, ap, subst, sym, ◌∙◌}
use Rattle.fwd_workers.specs.declared.worker.SessionTerms.{SessionTerms}
use Rattle.fwd_workers.specs.Placed.{Becomes, Stands, held, with}
use Rattle.fwd_workers.specs.Working.{IsEarned, accepted_at}
use Rattle.fwd_workers.proofs.Earned.{run-then, state-over}
use Rattle.fwd_workers.proofs.Placing.{becomes-none, becomes-then, stands-as}
use Rattle.fwd_workers.proofs.worker.Worker.run.Goals as goal
use Rattle.fwd_workers.proofs.worker.Worker.run.Goals.{in-Go, in-Hold}

pub step-state-requires : goal.step-state-requires
step-state-requires g c =
    let k = c.args.self.now.page in
    subst (λ (t : SessionTerms). Stands c.loop-turn.self.page (held c.loop-turn.state) t) (sym c.loop-turn.invariant.4)
    (stands-as k c.loop-turn.self.page (with None None) (held c.loop-turn.state) c.args.self.now.terms c.requires c.loop-turn.invariant.3)

pub returns-in-Stop-clause-page : goal.returns-in-Stop-clause-page
returns-in-Stop-clause-page g c =
    let k = c.args.self.now.page in
    becomes-then k c.loop-turn.self.page c.finish.new.page (held c.loop-turn.state) (with None None) c.loop-turn.invariant.3 c.finish.ensures.ends
    ∙ sym (becomes-none k (with None None) c.requires.has)

pub returns-in-Stop-clause-most : goal.returns-in-Stop-clause-most
returns-in-Stop-clause-most g c =
    run-then g.H.Line.Link.calls g.S.Tally.kept g.met.S.Tally.kept_adds (g.S.Tally.count c.args.seat)
    (g.S.Tally.count c.loop-turn.seat) (g.S.Tally.count c.finish.new.seat) (accepted_at c.loop-turn.state)
    c.loop-turn.invariant.2 (state-over c.loop-turn.state) c.finish.ensures.most

pub loop-turn-preserved : goal.loop-turn-preserved
loop-turn-preserved g c =
    let k = c.args.self.now.page in
    elim c.match-pass.branch [
      | in-Go w ↦
          let page : c.match-pass.self.page ≡ w.step-state.new.self.page = ap (λ s. s.page) w.self-is ∙ ap (λ s. s.page) w.tell.ensures in
          let terms : c.match-pass.self.terms ≡ w.step-state.new.self.terms = ap (λ s. s.terms) w.self-is ∙ ap (λ s. s.terms) w.tell.ensures in
          subst (λ s. (g.S.Tally.count c.args.seat ≤ g.S.Tally.count s)
          × (g.S.Tally.parts s ≡ g.S.Tally.parts c.args.seat)
          × ∥ IsEarned g.H.Line.Link.calls g.S.Tally.kept (g.S.Tally.count c.args.seat) (g.S.Tally.count s) ∥₁
          × Becomes k c.match-pass.self.page (held c.match-pass.state)
          × (c.match-pass.self.terms ≡ c.args.self.now.terms))
          (sym w.seat-is) (
            omega (arith, c.loop-turn.invariant.0, w.step-state.ensures.count),
            w.step-state.ensures.parts ∙ c.loop-turn.invariant.1,
            run-then g.H.Line.Link.calls g.S.Tally.kept g.met.S.Tally.kept_adds (g.S.Tally.count c.args.seat)
                (g.S.Tally.count c.loop-turn.seat) (g.S.Tally.count w.step-state.new.seat)
                (accepted_at c.loop-turn.state) c.loop-turn.invariant.2 (state-over c.loop-turn.state)
                w.step-state.ensures.most,
            subst (λ at. Becomes k c.match-pass.self.page (held at)) (sym w.state-is)
                (page ∙ becomes-then k c.loop-turn.self.page w.step-state.new.self.page (held c.loop-turn.state) (held w.step-state.result)
                c.loop-turn.invariant.3 w.step-state.ensures.has),
            terms ∙ (w.step-state.ensures.terms ∙ c.loop-turn.invariant.4),
          )
      | in-Hold w ↦
          subst (λ s. (g.S.Tally.count c.args.seat ≤ g.S.Tally.count s)
          × (g.S.Tally.parts s ≡ g.S.Tally.parts c.args.seat)
          × ∥ IsEarned g.H.Line.Link.calls g.S.Tally.kept (g.S.Tally.count c.args.seat) (g.S.Tally.count s) ∥₁
          × Becomes k c.match-pass.self.page (held c.match-pass.state)
          × (c.match-pass.self.terms ≡ c.args.self.now.terms))
          (sym w.seat-is) (
            c.loop-turn.invariant.0,
            c.loop-turn.invariant.1,
            c.loop-turn.invariant.2,
            subst (λ at. Becomes k c.match-pass.self.page (held at)) (sym w.state-is) (ap (λ s. s.page) w.self-is ∙ c.loop-turn.invariant.3),
            ap (λ s. s.terms) w.self-is ∙ c.loop-turn.invariant.4,
          )
    ]

pub returns-clause-page : goal.returns-clause-page
returns-clause-page g c =
    let k = c.args.self.now.page in
    becomes-then k c.loop-turn.self.page c.finish-2.new.page (held c.loop-turn.state) (with None None) c.loop-turn.invariant.3 c.finish-2.ensures.ends
    ∙ sym (becomes-none k (with None None) c.requires.has)

pub returns-clause-most : goal.returns-clause-most
returns-clause-most g c =
    run-then g.H.Line.Link.calls g.S.Tally.kept g.met.S.Tally.kept_adds (g.S.Tally.count c.args.seat)
    (g.S.Tally.count c.loop-turn.seat) (g.S.Tally.count c.finish-2.new.seat) (accepted_at c.loop-turn.state)
    c.loop-turn.invariant.2 (state-over c.loop-turn.state) c.finish-2.ensures.most
