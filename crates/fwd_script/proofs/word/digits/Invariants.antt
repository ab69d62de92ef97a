use Rattle.std.proofs.Common.{◌≡◌, take}
use Rattle.std.specs.Str.Parse.{AllDigits, digits_value}
use Rattle.fwd_script.proofs.word.digits.Given as goal

-- the digits so far, and their number
abbrev pub invariant-loop-digit : goal.invariant-loop-digit
invariant-loop-digit l =
    AllDigits 10 (take l.digit-index l.word) × (l.n ≡ digits_value 10 (take l.digit-index l.word))
