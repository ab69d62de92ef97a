use Rattle.std.proofs.Common.{map, ◌≡◌, length, take, drop}
use Rattle.toml.specs.View.{view}
use Rattle.fwd_settings.specs.Kinds.{each}
use Rattle.fwd_settings.specs.Keys.{first, user_fault, user_settings}
use Rattle.fwd_settings.proofs.user.users_of.Given as goal

abbrev pub invariant-loop-value : goal.invariant-loop-value
invariant-loop-value l = record {
  kept : l.users ≡ map user_settings (map view (take l.value-index l.values));
  count : length l.users ≡ l.value-index;
  good : first (each user_fault 0 (map view l.values)) ≡ first (each user_fault l.value-index (map view (drop l.value-index l.values)));
}
