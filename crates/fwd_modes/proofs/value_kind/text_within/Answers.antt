use Rattle.fwd_msgpack.specs.Values.{bytes_of}
use Rattle.fwd_modes.proofs.TextLemmas.{length-text_of}
use Rattle.fwd_modes.proofs.value_kind.text_within.Goals as goal

pub returns-then-text-most-clause-head : goal.returns-then-text-most-clause-head
returns-then-text-most-clause-head c = length-text_of (bytes_of c.args.value) c.in_ok-text.text.now c.in_ok-text.ensures.value
