-- What a monitor has yet to send. It only describes the code.
use Rattle.std.specs.Prelude.{Bool, true, false}
use Rattle.fwd_monitors.specs.declared.monitor_peer.MonitorPeer.{MonitorPeer}
use Rattle.fwd_monitors.specs.declared.monitor_peer.MonitorState.{MonitorState}
use Rattle.fwd_monitors.specs.declared.monitor_peer.MonitorState.TheVariants.{Asking}

-- its request's head has not come yet
abbrev pub is_asking : MonitorState → Bool
is_asking Asking = true
is_asking _ = false

-- so it is of a monitor
abbrev pub awaits_head : MonitorPeer → Bool
awaits_head monitor = is_asking monitor.stage
