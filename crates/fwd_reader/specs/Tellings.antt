-- Who is told of receipts: each source of those of its own requests, and of each of them.
use Rattle.std.specs.Prelude.{◌≡◌, ◌==◌, ℕ, List, [], ◌∷◌, Option, Some, None, if◌then◌else◌}
use Rattle.fwd_book.specs.Receipts.{Receipt}
use Rattle.fwd_peers.specs.Peers.{PeerShown, IsTold, counted, told_by}

-- the sources that stand, by their ids
abbrev pub Sources : Type 0
Sources = ℕ → Option PeerShown

-- those that stand once the one of an id, if one is told, is gone
abbrev pub sources_without : Option ℕ → Sources → Sources
sources_without None s = s
sources_without (Some gone) s = λ id. if gone == id then None else s id

-- what becomes of the source of an id by a receipt: where it stands it is told of it, and one more
-- of its requests is answered, if it is of one of its own, and otherwise it stays as it is
abbrev pub IsToldAt : (id : ℕ) → Receipt → Option PeerShown → Option PeerShown → Type 0
IsToldAt id receipt None after = after ≡ None
IsToldAt id receipt (Some s) after =
    (t : PeerShown) × ((after ≡ Some t) × IsTold (counted receipt id s) (told_by receipt id) t)

-- a receipt is told, and to nobody else
abbrev pub IsToldOf : Sources → Receipt → Sources → Type 0
IsToldOf s receipt t = (id : ℕ) → IsToldAt id receipt (s id) (t id)

-- receipts are told one after the other, each of them
abbrev pub AreTold : Sources → List Receipt → Sources → Type 0
AreTold s [] t = t ≡ s
AreTold s (receipt ∷ receipts) t =
    (u : Sources) × (IsToldOf s receipt u × AreTold u receipts t)
