use Rattle.std.proofs.Common.{◌≡◌, None}
use Rattle.std.specs.List.{last_or}
use Rattle.std.specs.Option.{option_map}
use Rattle.fwd_msgpack.specs.Values.{bytes_of, pairs_left}
use Rattle.fwd_msgpack.specs.Texts.{values_under}
use Rattle.fwd_msgpack.proofs.members.Pairs.last_under.Given as goal

abbrev pub invariant-loop-name : goal.invariant-loop-name
invariant-loop-name l =
    last_or (option_map bytes_of l.last) (values_under l.key (pairs_left l.name-iterator))
    ≡ last_or None (values_under l.key (pairs_left l.fn.self))
