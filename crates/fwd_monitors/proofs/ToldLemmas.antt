-- What a monitor is told by the bytes that it has sent.
use Rattle.std.proofs.Common.{◌≡◌, ℕ, Bool, true, false, List, sym, subst}
use Rattle.std.specs.Prelude.{IsTrue}
use Rattle.fwd_monitor.specs.declared.reply.Reply.{Reply}
use Rattle.fwd_monitor.specs.Replies.{Sends, ready_reply}
use Rattle.fwd_monitor.specs.Requests.{WantsMetrics, WantsPage, WantsReady}
use Rattle.fwd_monitor.proofs.ReplyLemmas.{page-apart-metrics, ready-apart-metrics, ready-apart-page}
use Rattle.fwd_monitors.specs.Told.{IsTold, sent_of}
use Rattle.fwd_monitors.specs.declared.made_page.PageKind.TheVariants.{Lines, Metrics}
use Rattle.fwd_monitors.specs.declared.monitor_peer.MonitorPeer.{MonitorPeer}
use Rattle.fwd_monitors.specs.declared.monitor_peer.MonitorState.TheVariants.{Wanting}

-- one that asks for the page waits for it
pub told-page : (d : Bool) (m : MonitorPeer) → m.stage ≡ Wanting Lines
    → WantsPage m.heard.items → IsTold d m
told-page d m stage wants = record {
  page = λ w. stage;
  metrics = λ served w. absurd (page-apart-metrics m.heard.items wants w);
  ready = λ w. absurd (ready-apart-page m.heard.items w wants);
}

-- one that asks for the metrics page waits for it
pub told-metrics : (d : Bool) (m : MonitorPeer) → m.stage ≡ Wanting Metrics
    → WantsMetrics m.heard.items → IsTold d m
told-metrics d m stage wants = record {
  page = λ w. absurd (page-apart-metrics m.heard.items w wants);
  metrics = λ served w. stage;
  ready = λ w. absurd (ready-apart-metrics m.heard.items w wants);
}

-- any other is sent what is due
pub told-sent : (d : Bool) (m : MonitorPeer) (bytes : List ℕ) (reply : Reply)
    → m.heard.items ≡ bytes → (WantsPage bytes → ⊥)
    → (m.has_metrics ≡ true → WantsMetrics bytes → ⊥) → sent_of m.sending ≡ reply
    → (WantsReady bytes → Sends reply (ready_reply d)) → IsTold d m
told-sent d m bytes reply heard page metrics sent ready = record {
  page = λ w. absurd (page (subst WantsPage heard w));
  metrics = λ served w. absurd (metrics served (subst WantsMetrics heard w));
  ready = λ w. subst (λ (r : Reply). Sends r (ready_reply d)) (sym sent)
      (ready (subst WantsReady heard w));
}

-- what is false is not true
pub never : (b : Bool) → b ≡ false → IsTrue b → ⊥
never true is on = cc
never false is on = cc
