use Rattle.std.proofs.Common.{rules, ◌≡◌, true, refl, sym, ap, subst, ◌∙◌}
use Rattle.fwd_monitor.specs.declared.reply.Reply.{Reply}
use Rattle.fwd_monitor.specs.declared.reply.Reply.TheVariants.{Bytes}
use Rattle.fwd_monitor.specs.Replies.{Sends, ready_reply}
use Rattle.fwd_monitor.specs.Requests.{WantsMetrics, WantsPage, WantsReady}
use Rattle.fwd_monitors.proofs.ToldLemmas.{never, told-metrics, told-page, told-sent}
use Rattle.fwd_monitors.proofs.monitor_peer.MonitorPeer.take_in.Goals as goal
use Rattle.fwd_monitors.proofs.monitor_peer.MonitorPeer.take_in.Goals.{else-self-via-then-self+else-wants_metrics, else-self-via-else-self}

pub returns-then-wants_page : goal.returns-then-wants_page
returns-then-wants_page c =
    told-page c.args.is_draining _ refl
    (subst WantsPage c.deref.ensures.value (c.wants_page.ensures.0 c.if-wants_page.true))

pub returns-then-wants_metrics : goal.returns-then-wants_metrics
returns-then-wants_metrics c =
    told-metrics c.args.is_draining _ refl
    (subst WantsMetrics c.deref-then-self.ensures.value
    (c.wants_metrics.ensures.0 c.if-wants_metrics.true))

pub returns-in_ok-reply-2 : goal.returns-in_ok-reply-2
returns-in_ok-reply-2 c =
    let bytes = c.extend_from_slice.new.self.items in
    let page : WantsPage bytes → ⊥ =
    λ w. never c.wants_page.result c.if-wants_page.false
    (c.wants_page.ensures.1 (subst WantsPage (sym c.deref.ensures.value) w)) in
    let metrics : c.send.new.self.has_metrics ≡ true → WantsMetrics bytes → ⊥ =
    λ served w. elim c.else-self.branch [
      | else-self-via-then-self+else-wants_metrics b ↦
          never b.wants_metrics.result b.if-wants_metrics.false
          (b.wants_metrics.ensures.1 (subst WantsMetrics (sym b.deref-then-self.ensures.value) w))
      | else-self-via-else-self b ↦ never c.args.self.now.has_metrics b.if-self.false
          (sym c.send.ensures.metrics ∙ served)
    ] in
    let ready : WantsReady bytes → Sends (Bytes c.in-Bytes.reply) (ready_reply c.args.is_draining) =
    λ w. subst (λ (r : Reply). Sends r (ready_reply c.args.is_draining)) c.in-Bytes.is
    (c.in_ok-reply.ensures.ready (subst WantsReady (sym c.deref-2.ensures.value) w)) in
    told-sent c.args.is_draining c.send.new.self bytes (Bytes c.in-Bytes.reply)
    (search rules) page metrics
    (c.send.ensures.sent ∙ ap Bytes c.in_ok-reply-2.ensures.ok) ready
