-- The parts of a receipt as they are kept.
use Rattle.std.specs.Prelude.{List, [], ◌∷◌}
use Rattle.fwd_book.specs.Receipts.{AckedRange}
use Rattle.fwd_book.specs.declared.receipt.Parts.{Parts}
use Rattle.fwd_book.specs.declared.receipt.Parts.TheVariants.{One, Many}

-- one part after the other
abbrev pub parts_shown : Parts → List AckedRange
parts_shown (One part) = part ∷ []
parts_shown (Many parts) = parts.items
