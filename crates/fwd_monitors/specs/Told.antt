-- What a monitor is told, by what it has sent.
use Rattle.std.specs.Prelude.{◌≡◌, Bool, true, Option, Some, None}
use Rattle.std.specs.Arc.{arc_value}
use Rattle.fwd_monitor.specs.Replies.{Sends, ready_reply}
use Rattle.fwd_monitor.specs.Requests.{WantsMetrics, WantsPage, WantsReady}
use Rattle.fwd_monitor.specs.declared.reply.Reply.{Reply}
use Rattle.fwd_monitor.specs.declared.reply.Reply.TheVariants.{More, Bytes}
use Rattle.fwd_monitors.specs.declared.made_page.PageKind.TheVariants.{Lines, Metrics}
use Rattle.fwd_monitors.specs.declared.monitor_peer.MonitorPeer.{MonitorPeer}
use Rattle.fwd_monitors.specs.declared.monitor_peer.MonitorState.TheVariants.{Wanting}
use Rattle.fwd_monitors.specs.declared.sending.Sending.{Sending}

-- what a monitor is sent, whole
abbrev pub sent_of : Option Sending → Reply
sent_of None = More
sent_of (Some s) = Bytes (arc_value s.reply)

-- a monitor that asked for a page is to be sent it, and a load balancer is sent at once whether the
-- relay drains
pub record IsTold (is_draining : Bool) (m : MonitorPeer) : Type 0 where
  pub page : WantsPage m.heard.items → m.stage ≡ Wanting Lines
  pub metrics : m.has_metrics ≡ true → WantsMetrics m.heard.items → m.stage ≡ Wanting Metrics
  pub ready : WantsReady m.heard.items → Sends (sent_of m.sending) (ready_reply is_draining)

-- a monitor is told as before, but for how much of it was sent
pub record IsAsBefore (before after : MonitorPeer) : Type 0 where
  pub heard : after.heard ≡ before.heard
  pub has_metrics : after.has_metrics ≡ before.has_metrics
  pub stage : after.stage ≡ before.stage
  pub sent : sent_of after.sending ≡ sent_of before.sending
