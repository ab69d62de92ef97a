use Rattle.std.proofs.Common.{map, ◌≡◌, length, take, drop}
use Rattle.toml.specs.View.{view}
use Rattle.fwd_settings.specs.Kinds.{each}
use Rattle.fwd_settings.specs.Keys.{first, server_fault, server_settings}
use Rattle.fwd_settings.proofs.server.servers_of.Given as goal

abbrev pub invariant-loop-value : goal.invariant-loop-value
invariant-loop-value l = record {
  kept : l.servers ≡ map server_settings (map view (take l.value-index l.values));
  count : length l.servers ≡ l.value-index;
  good : first (each (server_fault l.output) 0 (map view l.values)) ≡ first (each (server_fault l.output) l.value-index (map view (drop l.value-index l.values)));
}
