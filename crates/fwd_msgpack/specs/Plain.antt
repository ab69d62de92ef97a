-- Items that open nothing: how many bytes they take; and containers whose head is one byte.
use Rattle.std.specs.Prelude.{◌≡◌, ℕ, ◌+◌, ◌-◌, ◌≤◌, if◌then◌else◌, List, [], ◌∷◌, drop, fold, sum, Option, Some, None}
use Rattle.fwd_msgpack.specs.declared.head.HeadRead.{HeadRead}
use Rattle.fwd_msgpack.specs.declared.head.HeadRead.TheVariants.{Whole, Short, Reserved}
use Rattle.fwd_msgpack.specs.Heads.{payload, members, opens}
use Rattle.fwd_msgpack.specs.Scans.{Going, InHead, scan_byte}

-- How many bytes the item takes that begins with what was read, its head and its payload: none
-- where it is an array or a map.
abbrev pub plain_len : HeadRead → Option ℕ
plain_len (Whole head used) = if opens head then None else Some (used + payload head)
plain_len Short = None
plain_len Reserved = None

-- How many bytes the item takes that begins with what was read, its head and its payload, and how
-- many values it opens.
abbrev pub item_size : HeadRead → Option (ℕ × ℕ)
item_size (Whole head used) = Some (used + payload head, members head)
item_size Short = None
item_size Reserved = None

-- The first bytes are so many items that open nothing: a scan of a container that lacks as many,
-- and is within the limit behind them, goes over them, and each is one member.
abbrev pub AreMembers : List ℕ → (items used : ℕ) → Type 0
AreMembers bytes items used =
    (limit deep from lacking : ℕ) (stack : List ℕ) → items ≤ lacking
    → from + used + (lacking + sum stack) ≤ limit
    → fold (scan_byte limit deep) (Going from (lacking ∷ stack) (InHead [])) bytes
    ≡ fold (scan_byte limit deep) (Going (from + used) ((lacking - items) ∷ stack) (InHead []))
    (drop used bytes)

-- what was read is one byte, the head of an array or a map with so many members
abbrev pub IsSmallOpening : HeadRead → ℕ → Type 0
IsSmallOpening (Whole head used) count =
    (used ≡ 1) × (payload head ≡ 0) × (members head ≡ count)
IsSmallOpening Short count = ⊥
IsSmallOpening Reserved count = ⊥
