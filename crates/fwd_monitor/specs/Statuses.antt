-- The status of a reply, and its bytes.
use Rattle.std.specs.Prelude.{ℕ, Bool, true, false, List, Option, Some, None, IsTrue, IsFalse}
use Rattle.httparse.specs.Grammar.{RequestHead}
use Rattle.fwd_base.specs.declared.report.Report.{Report}
use Rattle.fwd_monitor.specs.declared.status.HttpStatus.{HttpStatus}
use Rattle.fwd_monitor.specs.declared.status.HttpStatus.TheVariants.{
  Found,
  Ready,
  Metrics,
  NotFound,
  BadRequest,
}
use Rattle.fwd_monitor.specs.Replies.{page_reply, ready_reply, not_found, bad_request}
use Rattle.fwd_monitor.specs.Requests.{
  BeginsWith,
  IsBad,
  MayWait,
  is_for_metrics,
  is_for_page,
  is_for_ready,
}

-- why the bytes come to this status
abbrev pub HasStatus : List ℕ → HttpStatus → Type 0
HasStatus heard Found =
    (h : RequestHead) × BeginsWith heard h × IsTrue (is_for_page h.method h.target)
HasStatus heard Ready =
    (h : RequestHead) × BeginsWith heard h × IsFalse (is_for_page h.method h.target)
    × IsTrue (is_for_ready h.method h.target)
HasStatus heard Metrics =
    (h : RequestHead) × BeginsWith heard h × IsFalse (is_for_page h.method h.target)
    × IsFalse (is_for_ready h.method h.target) × IsTrue (is_for_metrics h.method h.target)
HasStatus heard NotFound =
    (h : RequestHead) × BeginsWith heard h × IsFalse (is_for_page h.method h.target)
    × IsFalse (is_for_ready h.method h.target) × IsFalse (is_for_metrics h.method h.target)
HasStatus heard BadRequest = IsBad heard

-- the status of the bytes, or none while it is right to wait
abbrev pub IsJudged : List ℕ → Option HttpStatus → Type 0
IsJudged heard (Some status) = HasStatus heard status
IsJudged heard None = MayWait heard

-- the status is that of the page
abbrev pub is_found : Option HttpStatus → Bool
is_found (Some Found) = true
is_found _ = false

-- the status is that of a request for the metrics page
abbrev pub is_metrics : Option HttpStatus → Bool
is_metrics (Some Metrics) = true
is_metrics _ = false

-- the bytes of the reply of each status, where no metrics are served and the relay drains or not
abbrev pub reply_of : HttpStatus → (is_draining : Bool) → List Report → List ℕ
reply_of Found is_draining reports = page_reply reports
reply_of Ready is_draining reports = ready_reply is_draining
reply_of Metrics is_draining reports = not_found
reply_of NotFound is_draining reports = not_found
reply_of BadRequest is_draining reports = bad_request
