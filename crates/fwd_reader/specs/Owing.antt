-- What outputs owe to a reader's sources: what requests take beside their entries until they are
-- answered.
use Rattle.std.specs.Prelude.{◌≡◌, ◌+◌, ◌-◌, ℕ, zero, suc, List, [], ◌∷◌, true, map, sum_by, IfSome}
use Rattle.std.specs.List.{slice_get}
use Rattle.fwd_book.specs.Receipts.{Receipt}
use Rattle.fwd_peers.specs.Costs.{bounded, upkeep}
use Rattle.fwd_reader.specs.declared.admission.Admission.{Admission}
use Rattle.fwd_reader.specs.Entering.{may_owe}

-- what the requests took that these receipts answer
abbrev pub upkeep_of : List Receipt → ℕ
upkeep_of receipts = bounded (sum_by (λ r. upkeep r.tag r.chunk) receipts)

-- what is owed at each output, in the settings' order
abbrev pub owed_at_each : {J : Type 0} → Admission J → List ℕ
owed_at_each a = map (λ line. line.owed.owed) a.lines.items

-- how much may be owed at each
abbrev pub limits_in : {J : Type 0} → Admission J → List ℕ
limits_in a = map (λ line. line.owed.limit) a.lines.items

-- a source that is owed so much may be owed more at the output of a number, by what is owed there
abbrev pub MayOwe : {J : Type 0} → Admission J → (number own : ℕ) → Type 0
MayOwe a number own =
    IfSome (slice_get a.lines.items number)
    (λ line. may_owe line.owed.limit line.owed.owed own ≡ true)

-- a list in which the number at a place became another, where there is one, and no other changed
abbrev pub changed_at : (place : ℕ) → (ℕ → ℕ) → List ℕ → List ℕ
changed_at place change [] = []
changed_at zero change (x ∷ xs) = change x ∷ xs
changed_at (suc place) change (x ∷ xs) = x ∷ changed_at place change xs

-- what is owed at each output, by its number, in bytes
abbrev pub Ledger : Type 0
Ledger = List ℕ

-- the output of a number owes so many bytes more, and no other owes more or less
abbrev pub owes_more : (number bytes : ℕ) → Ledger → Ledger
owes_more number bytes = changed_at number (λ owed. bounded (owed + bytes))

-- or it owes fewer
abbrev pub owes_less : (number bytes : ℕ) → Ledger → Ledger
owes_less number bytes = changed_at number (λ owed. owed - bytes)
