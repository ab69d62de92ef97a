use Rattle.std.proofs.Common.{ℕ, List, ap, sym, ◌∙◌, subst}
use Rattle.fwd_history.specs.Histories.{IsOfBoth, Went, count_of, IsLegal}
use Rattle.fwd_history.proofs.Entries.{may_add_both, both, Both}
use Rattle.fwd_history.proofs.page.Page.add_with.Goals as goal

pub note-requires : goal.note-requires
note-requires g c =
    let i = c.self.invariant in
    let j = c.other.invariant in
    let l = c.learn.ensures in
    let r = c.requires.event in (
      i.1 ∙ sym (l.0 ∙ i.0),
      j.1 ∙ sym (l.0 ∙ i.0),
      (
        r.0,
        may_add_both g.L.Law.touches g.L.Law.may (g.D.Deed.means c.args.about.now) c.learn.new.self.log c.self.inside.seen.log c.other.inside.seen.log c.self.inside.pen.nib c.other.inside.pen.nib c.args.self.now c.args.other.now r.0
            l.2 l.3 (i.2, i.3) (j.2, j.3) c.requires.apart c.self.view_is c.other.view_is (r.1, r.2),
      ),
    )

-- what is known once the event is added
after : (g : _) (c : goal.After-drop-other-inside g)
    → Both g.L.Law.touches g.L.Law.may (g.D.Deed.means c.args.about.now) c.self.inside.pen.nib c.other.inside.pen.nib c.note.new.first.nib c.note.new.second.nib c.self.inside.seen.log c.other.inside.seen.log c.note.new.seen.log
after g c =
    let i = c.self.invariant in
    let j = c.other.invariant in
    let l = c.learn.ensures in
    let e = c.note.ensures in
    both g.L.Law.touches g.L.Law.may (g.D.Deed.means c.args.about.now) c.learn.new.self.log c.self.inside.seen.log c.other.inside.seen.log c.note.new.seen.log c.self.inside.pen.nib c.other.inside.pen.nib c.note.new.first.nib c.note.new.second.nib
    l.2 l.3 (i.2, i.3) (j.2, j.3) e.4 e.5 e.6.0 e.6.1 e.6.2 e.6.3

pub invariant_of-self : goal.invariant_of-self
invariant_of-self g c =
    let i = c.self.invariant in
    let l = c.learn.ensures in
    let e = c.note.ensures in
    let a = after g c in
    (e.0 ∙ (l.0 ∙ i.0), e.2 ∙ i.1, a.one.holds.0, a.one.holds.1, a.legal)

pub invariant_of-other : goal.invariant_of-other
invariant_of-other g c =
    let i = c.self.invariant in
    let j = c.other.invariant in
    let l = c.learn.ensures in
    let e = c.note.ensures in
    let a = after g c in
    let s = sym (ap (λ z. z.log) c.again.ensures) in (
      ap (λ z. z.book) c.again.ensures ∙ (e.0 ∙ (l.0 ∙ i.0)),
      e.3 ∙ j.1,
      a.other.holds.0,
      a.other.holds.1 ∙ ap (λ (x : List g.row.E.Denot). count_of g.L.Law.touches c.note.new.second.nib.key (mathlib.Core.List.reverse x)) s,
      subst (λ (x : List g.row.E.Denot). IsLegal g.L.Law.may (mathlib.Core.List.reverse x)) s a.legal,
    )

pub returns-clause-added : goal.returns-clause-added
returns-clause-added g c =
    let a = after g c in (
      a.past,
      a.event,
      subst (λ (s : ℕ × List g.row.E.Denot). IsOfBoth g.L.Law.touches c.args.self.now.0 s.0 a.event) c.other.view_is (subst (λ (s : ℕ × List g.row.E.Denot). IsOfBoth g.L.Law.touches s.0 c.other.inside.pen.nib.key a.event) c.self.view_is a.own),
      subst (λ (s : ℕ × List g.row.E.Denot). Went g.L.Law.touches s.0 s.1 a.past) c.self.view_is a.one.went,
      subst (λ (s : ℕ × List g.row.E.Denot). Went g.L.Law.touches s.0 s.1 a.past) c.other.view_is a.other.went,
      a.so,
      a.is,
    )

pub returns-clause-legal : goal.returns-clause-legal
returns-clause-legal g c = (after g c).legal
