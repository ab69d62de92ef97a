-- Which lines the journal tells: of one subject at most ten in a second of the clock. A subject has
-- a limit of its own where there is a place for it, else the one that its kind shares.
use Rattle.std.specs.Prelude.{◌≡◌, ◌⊎◌, ℕ, ℤ, Bool, List, All, Option, Some, None, IsSomeAnd, IfSome, slice_get, slice_set}
use Rattle.fwd_journal.specs.declared.journal_line.LineKind.{LineKind}
use Rattle.fwd_journal.specs.declared.journal_line.TheConstants.LineKind.{ALL}
use Rattle.fwd_journal.specs.declared.journal_line.Subject.{Subject}
use Rattle.fwd_journal.specs.declared.line_limit.LineLimit.{LineLimit}
use Rattle.fwd_journal.specs.declared.line_limit.TheConstants.LineLimit.{NONE}
use Rattle.fwd_journal.specs.declared.line_limits.SubjectLimit.{SubjectLimit}
use Rattle.fwd_journal.specs.declared.line_limits.LeftOut.{LeftOut}
use Rattle.fwd_journal.specs.Subjects.{AreSame, AreOthers}
use Rattle.fwd_journal.specs.Limits.{told_in, Counts, Owes, paid}

-- a place for the limit of one subject: nobody's at first
abbrev pub Place : Type 0
Place = Option SubjectLimit

-- a place is a subject's
abbrev pub IsOf : Subject → Place → Type 0
IsOf subject place = IsSomeAnd place (λ own. AreSame own.subject subject)

-- a subject may take a place in a second: nobody has it, or one of whom nothing is owed, and no
-- line was told in the second
unfoldable pub IsFree : ℤ → Place → Type 0
IsFree second place = IfSome place (λ own.
    (own.limit.left_out ≡ 0) × (told_in second own.limit ≡ 0))

-- a subject's place owes in a second
abbrev pub OwesAt : Option ℤ → Place → Type 0
OwesAt second place = IsSomeAnd place (λ own. Owes second own.limit)

-- no place is so
abbrev pub NoneIs : (Place → Type 0) → List Place → Type 0
NoneIs IsSo places = All (λ place. IsSo place → ⊥) places

-- a line of a subject counts at one place, and each other place is as it was: at the subject's, or,
-- where it has none, at a free one that becomes its own, as before the first line
pub record CountsAtPlace (subject : Subject) (second : ℤ) (told : Bool) (was now : List Place)
    : Type 0 where
  pub at : ℕ
  pub before : Place
  pub after : SubjectLimit
  pub stood : slice_get was at ≡ Some before
  pub stands : now ≡ slice_set was at (Some after)
  pub own : AreSame after.subject subject
  pub counts : (IsOf subject before
      × IfSome before (λ own. Counts second told own.limit after.limit))
      ⊎ (NoneIs (IsOf subject) was × IsFree second before × Counts second told NONE after.limit)

-- a line of a kind counts at the limit that its subjects share, and each other is as it was
pub record CountsAtKind (kind : LineKind) (second : ℤ) (told : Bool) (was now : List LineLimit)
    : Type 0 where
  pub at : ℕ
  pub before : LineLimit
  pub after : LineLimit
  pub place : slice_get ALL at ≡ Some kind
  pub stood : slice_get was at ≡ Some before
  pub stands : now ≡ slice_set was at after
  pub counts : Counts second told before after

-- the limits of a run: at places for subjects, and one that each kind shares
pub record LimitsShown : Type 0 where
  pub places : List Place
  pub shared : List LineLimit

-- a line of a subject counts once: at a place; or, where the subject has none and none is free, at
-- the limit that its kind shares
abbrev pub CountsOnce : Subject → ℤ → Bool → LimitsShown → LimitsShown → Type 0
CountsOnce subject second told was now =
    (CountsAtPlace subject second told was.places now.places × (now.shared ≡ was.shared))
    ⊎ (NoneIs (IsOf subject) was.places × NoneIs (IsFree second) was.places
    × (now.places ≡ was.places)
    × CountsAtKind subject.kind second told was.shared now.shared)

-- what was left out of a subject is told, and then none of it is owed at its place
pub record PaysAtPlace (second : Option ℤ) (told : LeftOut) (was now : List Place) : Type 0 where
  pub at : ℕ
  pub own : SubjectLimit
  pub stood : slice_get was at ≡ Some (Some own)
  pub owes : Owes second own.limit
  pub stands : now ≡ slice_set was at (Some (record own { limit = paid own.limit }))
  pub subject : told.subject ≡ own.subject
  pub count : told.count ≡ own.limit.left_out

-- what was left out of a kind's other subjects is told, and then none of it is owed there
pub record PaysAtKind (second : Option ℤ) (told : LeftOut) (was now : List LineLimit) : Type 0 where
  pub at : ℕ
  pub kind : LineKind
  pub limit : LineLimit
  pub place : slice_get ALL at ≡ Some kind
  pub stood : slice_get was at ≡ Some limit
  pub owes : Owes second limit
  pub stands : now ≡ slice_set was at (paid limit)
  pub subject : AreOthers kind told.subject
  pub count : told.count ≡ limit.left_out

-- no limit is so
abbrev pub NoLimit : (LineLimit → Type 0) → LimitsShown → Type 0
NoLimit IsSo limits = NoneIs (λ place. IsSomeAnd place (λ own. IsSo own.limit)) limits.places
    × All (λ limit. IsSo limit → ⊥) limits.shared

-- what was left out is told of one subject, or of the others of a kind, if any owes
abbrev pub Pays : Option ℤ → Option LeftOut → LimitsShown → LimitsShown → Type 0
Pays second (Some told) was now =
    (PaysAtPlace second told was.places now.places × (now.shared ≡ was.shared))
    ⊎ ((now.places ≡ was.places) × PaysAtKind second told was.shared now.shared)
Pays second None was now = NoLimit (Owes second) was
    × (now.places ≡ was.places) × (now.shared ≡ was.shared)
