use Rattle.std.proofs.Common.{◌≡◌, take}
use Rattle.std.specs.List.{list_any}
use Rattle.fwd_modes.specs.declared.origin.Origin.{Origin}
use Rattle.fwd_book.specs.History.{is_among}
use Rattle.fwd_book.specs.Receipts.{once}
use Rattle.fwd_book.specs.Slots.{key_of, is_key}
use Rattle.fwd_book.proofs.book.once.Given as goal

-- the origins so far stand once, and are known
abbrev pub invariant-loop-origin : goal.invariant-loop-origin
invariant-loop-origin l = record {
  asked : l.asked.items ≡ once (take l.origin-index l.origins);
  known : (o : Origin) → list_any (is_key (key_of o)) l.known.keys ≡ is_among (take l.origin-index l.origins) o;
}
