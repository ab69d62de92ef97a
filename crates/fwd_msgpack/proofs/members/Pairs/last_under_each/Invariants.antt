use Rattle.std.proofs.Common.{◌≡◌, None}
use Rattle.std.specs.List.{last_or}
use Rattle.std.specs.Option.{option_map}
use Rattle.fwd_msgpack.specs.Values.{bytes_of, pairs_left}
use Rattle.fwd_msgpack.specs.Texts.{values_under}
use Rattle.fwd_msgpack.proofs.members.Pairs.last_under_each.Given as goal

abbrev pub invariant-loop-name : goal.invariant-loop-name
invariant-loop-name l = record {
  one : last_or (option_map bytes_of l.under_one) (values_under l.one (pairs_left l.name-iterator))
      ≡ last_or None (values_under l.one (pairs_left l.fn.self));
  other : last_or (option_map bytes_of l.under_other) (values_under l.other (pairs_left l.name-iterator))
      ≡ last_or None (values_under l.other (pairs_left l.fn.self));
}
