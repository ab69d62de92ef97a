-- What workers told, as the mailbox holds it.
use Rattle.std.specs.Prelude.{◌≡◌, ◌⊎◌, true, [], ◌∷◌, ◌++◌}
use Rattle.fwd_links.specs.declared.mailbox.WorkerNotice.{WorkerNotice}
use Rattle.fwd_links.specs.declared.mailbox.Notices.{Notices}
use Rattle.fwd_links.specs.declared.mailbox.RefusedChunk.{RefusedChunk}

-- one notice more stands behind the others
pub record IsNoted (s : Notices) (notice : WorkerNotice) (t : Notices) : Type 0 where
  pub all : t.all.items ≡ s.all.items ++ notice ∷ []
  pub refused : t.refused ≡ s.refused
  pub missed : t.missed ≡ s.missed

-- none does, and it is known that one is missed
pub record IsMissed (s : Notices) (t : Notices) : Type 0 where
  pub all : t.all.items ≡ s.all.items
  pub refused : t.refused ≡ s.refused
  pub missed : t.missed ≡ true

-- a worker told something: it is noted, or else, where memory is refused, missed
abbrev pub Notes : Notices → WorkerNotice → Notices → Type 0
Notes s notice t = IsNoted s notice t ⊎ IsMissed s t

-- of the chunks that servers seem to refuse, one more stands behind the others; or, where memory is
-- refused, none does
abbrev pub NotesRefusal : Notices → RefusedChunk → Notices → Type 0
NotesRefusal s refusal t =
    ((t.refused.items ≡ s.refused.items ++ refusal ∷ []) ⊎ (t.refused.items ≡ s.refused.items))
    × (t.all ≡ s.all) × (t.missed ≡ s.missed)
