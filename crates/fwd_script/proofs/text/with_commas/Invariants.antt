use Rattle.std.proofs.Common.{◌≡◌, ◌++◌, take}
use Rattle.std.specs.List.{flat_map}
use Rattle.std.specs.Fmt.{decimal}
use Rattle.std.specs.String.{string_bytes}
use Rattle.fwd_script.proofs.ListText.{after_comma}
use Rattle.fwd_script.proofs.text.with_commas.Given as goal

-- the first number, and each other so far after a comma
abbrev pub invariant-loop-number : goal.invariant-loop-number
invariant-loop-number l =
    string_bytes l.text ≡ decimal l.fn.first ++ flat_map after_comma (take l.number-index l.rest)
