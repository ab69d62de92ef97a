use Rattle.std.proofs.Common.{List, ℕ, sym, ◌∙◌, subst}
use Rattle.fwd_history.specs.Histories.{Comes, IsOf, Went}
use Rattle.fwd_history.proofs.Entries.{AsksOne, may_add, alone, Alone}
use Rattle.fwd_history.proofs.page.Page.add_after.Goals as goal

pub learn-requires : goal.learn-requires
learn-requires g c = c.reached.invariant.0 ∙ sym c.self.invariant.0

pub note-requires : goal.note-requires
note-requires g c =
    let i = c.self.invariant in
    let n = c.no_pen-nobody.ensures in
    let l = c.learn.ensures in
    let r = c.requires in
    let means = g.D.Deed.means c.args.about.now in (
      i.1 ∙ sym (l.0 ∙ i.0),
      n.0 ∙ sym l.0,
      (
        r.0,
        may_add g.L.Law.touches g.L.Law.may means c.learn.new.self.log c.self.inside.seen.log c.reached.inside.seen.log c.self.inside.pen.nib c.no_pen-nobody.result.nib c.args.self.now r.0
            l.2 l.3 (i.2, i.3) n.1 c.self.view_is
            (subst (λ (t : List g.row.E.Denot). AsksOne g.L.Law.touches g.L.Law.may means c.args.self.now t r.0) (sym c.reached.view_is) (r.1, r.2)),
      ),
    )

-- what is known once the event is added
done : (g : _) (c : goal.After-drop-nobody g)
    → Alone g.L.Law.touches g.L.Law.may (g.D.Deed.means c.args.about.now) c.self.inside.pen.nib c.note.new.first.nib c.self.inside.seen.log c.reached.inside.seen.log c.note.new.seen.log
done g c =
    let i = c.self.invariant in
    let l = c.learn.ensures in
    let e = c.note.ensures in
    alone g.L.Law.touches g.L.Law.may (g.D.Deed.means c.args.about.now) c.learn.new.self.log c.self.inside.seen.log c.reached.inside.seen.log c.note.new.seen.log c.self.inside.pen.nib c.no_pen-nobody.result.nib c.note.new.first.nib
    l.2 l.3 (i.2, i.3) e.4 e.6.0 e.6.1 e.6.2 e.6.3

pub invariant_of-self : goal.invariant_of-self
invariant_of-self g c =
    let i = c.self.invariant in
    let l = c.learn.ensures in
    let e = c.note.ensures in
    let a = done g c in
    (e.0 ∙ (l.0 ∙ i.0), e.2 ∙ i.1, a.one.holds.0, a.one.holds.1, a.legal)

pub returns-clause-added : goal.returns-clause-added
returns-clause-added g c =
    let a = done g c in (
      a.past,
      a.event,
      subst (λ (s : ℕ × List g.row.E.Denot). IsOf g.L.Law.touches s.0 a.event) c.self.view_is a.own,
      subst (λ (s : ℕ × List g.row.E.Denot). Went g.L.Law.touches s.0 s.1 a.past) c.self.view_is a.one.went,
      subst (λ (t : List g.row.E.Denot). Comes t a.past) c.reached.view_is a.comes,
      a.so,
      a.is,
    )

pub returns-clause-legal : goal.returns-clause-legal
returns-clause-legal g c = (done g c).legal
