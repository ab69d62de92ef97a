use Rattle.std.proofs.Common.{sym, refl, arith}
use Rattle.std.proofs.lemmas.Bool.Decides.{nat_tests}
use Rattle.fwd_script.proofs.HexText.{salt_of-long, salt_of-short}
use Rattle.fwd_script.proofs.word.salt.Goals as goal

pub returns-then-word-ge-TOO_LONG_FOR_SALT-clause-value : goal.returns-then-word-ge-TOO_LONG_FOR_SALT-clause-value
returns-then-word-ge-TOO_LONG_FOR_SALT-clause-value c = sym (salt_of-long c.args.word.now (grind (arith, nat_tests)))

pub returns-in_err-bytes-clause-memory : goal.returns-in_err-bytes-clause-memory
returns-in_err-bytes-clause-memory c failed =
    salt_of-short c.args.word.now (grind (arith, nat_tests)) ((c.in_err-bytes.ensures {u = tt}).memory refl)
