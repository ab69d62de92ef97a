use Rattle.std.proofs.Common.{◌≡◌, ◌≤◌, ◌*◌, ◌+◌, length}
use Rattle.std.specs.Option.{option_copied}
use Rattle.fwd_match.specs.Patterns.{alternatives}
use Rattle.fwd_match.specs.Marks.{marks, fields_left, size_left}
use Rattle.fwd_match.specs.declared.fields.Mark.TheVariants.{Comma}
use Rattle.fwd_match.specs.declared.limits.TheConstants.{WORD_LIMIT}
use Rattle.fwd_match.proofs.counting.count_behind.Given as goal

abbrev pub invariant-loop-rest : goal.invariant-loop-rest
invariant-loop-rest l = record {
  bound : l.count ≤ WORD_LIMIT;
  counted : l.texts * length (alternatives l.inside l.text)
      ≡ l.count + l.texts * length (fields_left (marks (Comma l.inside)) (option_copied l.rest));
}

abbrev pub decreases-loop-rest : goal.decreases-loop-rest
decreases-loop-rest l = size_left (option_copied l.rest)
