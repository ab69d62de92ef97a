use Rattle.std.proofs.Common.{◌≡◌, ◌++◌, drop}
use Rattle.std.specs.List.{flat_map}
use Rattle.std.specs.String.{string_bytes}
use Rattle.fwd_monitor.specs.Samples.{head_lines_of}
use Rattle.fwd_monitor.specs.Tallies.{
  server_measure_help,
  server_measure_kind,
  server_measure_name,
  server_samples,
}
use Rattle.fwd_monitor.proofs.tallies.push_by_server.Given as goal

-- the samples so far, and those that are still to be added
abbrev pub invariant-loop-server : goal.invariant-loop-server
invariant-loop-server l =
    string_bytes l.text
    ++ flat_map (server_samples l.measure) (drop l.server-index l.servers)
    ≡ string_bytes l.fn.text
    ++ (head_lines_of (server_measure_name l.measure) (server_measure_kind l.measure)
    (server_measure_help l.measure)
    ++ flat_map (server_samples l.measure) l.servers)
