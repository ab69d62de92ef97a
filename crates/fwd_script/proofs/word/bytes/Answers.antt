use Rattle.std.proofs.Common.{◌≡◌, sym, ap, ◌∙◌, true, false, Some, refl, arith}
use Rattle.std.specs.Prelude.{codes}
use Rattle.std.specs.Str.{bytes_eq}
use Rattle.std.proofs.lemmas.Bool.Decides.{nat_tests}
use Rattle.fwd_script.specs.Words.{is_hex}
use Rattle.fwd_script.proofs.WordLemmas.{bytes_eq-true}
use Rattle.fwd_script.proofs.HexText.{low_of, bytes_of-hex, bytes_of-no_hex, bytes_of-dash, bytes_of-empty, bytes_of-decoded}
use Rattle.fwd_script.proofs.word.bytes.Goals as goal
use Rattle.fwd_script.proofs.word.bytes.Goals.{then-is_empty-via-then-is_empty, then-is_empty-via-else-is_empty+then-not-is_hex}

pub returns-then-eq-clause-value : goal.returns-then-eq-clause-value
returns-then-eq-clause-value c =
    let dash : c.args.word.now ≡ codes "-" = bytes_eq-true c.args.word.now c.as_slice.result.now (sym c.eq.ensures ∙ c.if-eq.true) ∙ c.as_slice.ensures in
    ap Some c.new.ensures ∙ sym (rw dash bytes_of-dash)

pub returns-then-is_empty-clause-value : goal.returns-then-is_empty-clause-value
returns-then-is_empty-clause-value c =
    elim c.then-is_empty.branch [
      | then-is_empty-via-then-is_empty w ↦ sym (bytes_of-empty c.args.word.now (grind (arith, nat_tests)))
      | then-is_empty-via-else-is_empty+then-not-is_hex w ↦
          let other : bytes_eq c.args.word.now (codes "-") ≡ false = rw (← c.as_slice.ensures) (sym c.eq.ensures ∙ c.if-eq.false) in
          let none : is_hex c.args.word.now ≡ false = cc in
          sym (bytes_of-no_hex c.args.word.now other none)
    ]

pub returns-in-Ok-clause-value : goal.returns-in-Ok-clause-value
returns-in-Ok-clause-value c =
    let hex : is_hex c.args.word.now ≡ true = cc in
    let read = c.in-Ok.ensures {u = tt} in
    ap Some c.from_vec.ensures ∙ sym (bytes_of-decoded c.args.word.now c.in-Ok.bytes.items (grind (arith, nat_tests)) (low_of c.args.word.now hex) read.ok)

pub returns-in-Err-clause-memory : goal.returns-in-Err-clause-memory
returns-in-Err-clause-memory c =
    let hex : is_hex c.args.word.now ≡ true = cc in
    let read = bytes_of-hex c.args.word.now (grind (arith, nat_tests)) hex in
    λ failed. rw read.2 refl
