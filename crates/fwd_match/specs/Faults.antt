-- How a fault of a pattern is told: its number and its text.
use Rattle.std.specs.Prelude.{ℕ, List, codes}
use Rattle.fwd_match.specs.declared.fault.PatternFault.{PatternFault}
use Rattle.fwd_match.specs.declared.fault.PatternFault.TheVariants.{Memory, Empty, BadBrace, BadStar, TooMany}

-- the number of a fault
abbrev pub fault_number : PatternFault → ℕ
fault_number Memory = 0
fault_number Empty = 1
fault_number BadBrace = 2
fault_number BadStar = 3
fault_number TooMany = 4

-- the text of a fault
abbrev pub fault_text : PatternFault → List ℕ
fault_text Memory = codes "out of memory"
fault_text Empty = codes "no word"
fault_text BadBrace = codes "braces are nested, unclosed or unopened"
fault_text BadStar = codes "a `*` inside a part"
fault_text TooMany = codes "more than 64 words"
