use Rattle.std.proofs.Common.{ℕ, List, [], sym, ◌∙◌, subst}
use Rattle.std.proofs.lemmas.List.{append-nil}
use Rattle.fwd_history.specs.Histories.{IsOf, Went}
use Rattle.fwd_history.proofs.Entries.{may_add, alone, Alone}
use Rattle.fwd_history.proofs.page.Page.add.Goals as goal

pub note-requires : goal.note-requires
note-requires g c =
    let i = c.self.invariant in
    let n = c.no_pen-nobody.ensures in
    let v = c.self.inside.seen.log in
    let r = c.requires in (
      i.1 ∙ sym i.0,
      n.0,
      (
        r.0,
        may_add g.L.Law.touches g.L.Law.may (g.D.Deed.means c.args.about.now) v v v c.self.inside.pen.nib c.no_pen-nobody.result.nib c.args.self.now r.0
            ([], append-nil v) ([], append-nil v) (i.2, i.3) n.1 c.self.view_is (r.1, λ past went comes. r.2 past went),
      ),
    )

-- what is known once the event is added
after : (g : _) (c : goal.After-drop-nobody g)
    → Alone g.L.Law.touches g.L.Law.may (g.D.Deed.means c.args.about.now) c.self.inside.pen.nib c.note.new.first.nib c.self.inside.seen.log c.self.inside.seen.log c.note.new.seen.log
after g c =
    let i = c.self.invariant in
    let e = c.note.ensures in
    let v = c.self.inside.seen.log in
    alone g.L.Law.touches g.L.Law.may (g.D.Deed.means c.args.about.now) v v v c.note.new.seen.log c.self.inside.pen.nib c.no_pen-nobody.result.nib c.note.new.first.nib
    ([], append-nil v) ([], append-nil v) (i.2, i.3) e.4 e.6.0 e.6.1 e.6.2 e.6.3

pub invariant_of-self : goal.invariant_of-self
invariant_of-self g c =
    let i = c.self.invariant in
    let e = c.note.ensures in
    let a = after g c in
    (e.0 ∙ i.0, e.2 ∙ i.1, a.one.holds.0, a.one.holds.1, a.legal)

pub returns-clause-added : goal.returns-clause-added
returns-clause-added g c =
    let a = after g c in
    (a.past, a.event, subst (λ (s : ℕ × List g.row.E.Denot). IsOf g.L.Law.touches s.0 a.event) c.self.view_is a.own, subst (λ (s : ℕ × List g.row.E.Denot). Went g.L.Law.touches s.0 s.1 a.past) c.self.view_is a.one.went, a.so, a.is)

pub returns-clause-legal : goal.returns-clause-legal
returns-clause-legal g c = (after g c).legal
