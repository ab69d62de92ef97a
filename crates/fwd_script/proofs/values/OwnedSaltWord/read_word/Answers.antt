use Rattle.fwd_script.proofs.HexText.{bytes_of-salt}
use Rattle.fwd_script.proofs.values.OwnedSaltWord.read_word.Goals as goal

pub returns-clause-memory : goal.returns-clause-memory
returns-clause-memory c failed =
    let some = c.salt.ensures.memory failed in
    (some, bytes_of-salt c.args.word.now some)
