-- What lines are about.
use Rattle.std.specs.Prelude.{◌≡◌, None, codes}
use Rattle.fwd_journal.specs.declared.journal_line.LineKind.{LineKind}
use Rattle.fwd_journal.specs.declared.journal_line.Subject.{Subject}

-- two subjects are the same: they have one kind, one name and one output
pub record AreSame (a b : Subject) : Type 0 where
  pub kind : a.kind ≡ b.kind
  pub name : a.name.now ≡ b.name.now
  pub output : a.output ≡ b.output

-- a subject stands for the others of a kind: those without a limit of their own
abbrev pub AreOthers : LineKind → Subject → Type 0
AreOthers kind subject = (subject.kind ≡ kind)
    × (subject.name.now ≡ codes "others") × (subject.output ≡ None)
