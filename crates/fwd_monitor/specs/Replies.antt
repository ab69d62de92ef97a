-- What a monitor is sent.
use Rattle.std.specs.Prelude.{
  ◌≡◌,
  ℕ,
  ◌<◌,
  ◌⊎◌,
  Bool,
  true,
  false,
  List,
  [],
  ◌∷◌,
  ◌++◌,
  length,
  codes,
  if◌then◌else◌,
}
use Rattle.std.specs.Fmt.{decimal}
use Rattle.httparse.specs.Ascii.{crlf_bytes}
use Rattle.httparse.specs.Grammar.{RequestHead, ReadsRequest, NeverHasRequest, EndsInTarget}
use Rattle.fwd_base.specs.declared.report.Report.{Report}
use Rattle.fwd_monitor.specs.declared.figures.Figures.{Figures}
use Rattle.fwd_monitor.specs.declared.figures.OutputFigures.{OutputFigures}
use Rattle.fwd_monitor.specs.declared.limits.TheConstants.{MAX_HEADERS}
use Rattle.fwd_monitor.specs.declared.reply.Reply.{Reply}
use Rattle.fwd_monitor.specs.declared.reply.Reply.TheVariants.{More, Bytes}
use Rattle.fwd_monitor.specs.declared.tally.RelayTally.{RelayTally}
use Rattle.fwd_monitor.specs.Metrics.{metrics_of}
use Rattle.fwd_monitor.specs.Page.{page_of}
use Rattle.fwd_monitor.specs.Requests.{
  is_for_page,
  is_for_ready,
  BeginsWith,
  IsTooLong,
  HasManyLines,
  IsBad,
  MayWait,
  MustWait,
}

-- the status line and the headers, each with its end, and the empty line behind them
abbrev pub head_text : List (List ℕ) → List ℕ
head_text [] = crlf_bytes
head_text (line ∷ lines) = line ++ (crlf_bytes ++ head_text lines)

-- the head for a text of so many bytes, with this status line
abbrev pub text_head : List ℕ → ℕ → List ℕ
text_head line size =
    head_text
    (line
    ∷ codes "Content-Type: text/plain"
    ∷ (codes "Content-Length: " ++ decimal size)
    ∷ codes "Connection: close"
    ∷ [])

-- a text behind its head
abbrev pub text_reply : (line body : List ℕ) → List ℕ
text_reply line body = text_head line (length body) ++ body

-- the status line of what is there
abbrev pub ok_line : List ℕ
ok_line = codes "HTTP/1.1 200 OK"

-- the page behind its head
abbrev pub page_reply : List Report → List ℕ
page_reply reports = text_reply ok_line (page_of reports)

-- the head for a metrics page of so many bytes
abbrev pub metrics_head : ℕ → List ℕ
metrics_head size =
    head_text
    (ok_line
    ∷ codes "Content-Type: text/plain; version=0.0.4; charset=utf-8"
    ∷ (codes "Content-Length: " ++ decimal size)
    ∷ codes "Connection: close"
    ∷ [])

-- the metrics page behind its head
abbrev pub metrics_reply_of : Figures → List OutputFigures → List Report → RelayTally → List ℕ
metrics_reply_of figures outputs reports tally =
    metrics_head (length (metrics_of figures outputs reports tally))
    ++ metrics_of figures outputs reports tally

-- the status line that a load balancer is told: a relay that drains is to get no new sources
abbrev pub ready_line : (is_draining : Bool) → List ℕ
ready_line false = ok_line
ready_line true = codes "HTTP/1.1 503 Service Unavailable"

-- the same in a word
abbrev pub ready_text : (is_draining : Bool) → List ℕ
ready_text false = codes "ready\n"
ready_text true = codes "draining\n"

-- the word behind its head
abbrev pub ready_reply : (is_draining : Bool) → List ℕ
ready_reply is_draining = text_reply (ready_line is_draining) (ready_text is_draining)

-- a reply that is a head alone
abbrev pub bare : List ℕ → List ℕ
bare line = head_text (line ∷ codes "Content-Length: 0" ∷ codes "Connection: close" ∷ [])

-- to what is not there
abbrev pub not_found : List ℕ
not_found = bare (codes "HTTP/1.1 404 Not Found")

-- to what is no request
abbrev pub bad_request : List ℕ
bad_request = bare (codes "HTTP/1.1 400 Bad Request")

-- to a whole head, where the relay drains or not
abbrev pub reply_to : RequestHead → (is_draining : Bool) → List Report → List ℕ
reply_to h is_draining reports =
    if is_for_page h.method h.target then page_reply reports
    else if is_for_ready h.method h.target then ready_reply is_draining
    else not_found

-- the reply is these bytes
abbrev pub Sends : Reply → List ℕ → Type 0
Sends More bytes = ⊥
Sends (Bytes out) bytes = out.items ≡ bytes

-- what a monitor that has sent these bytes is told, by what they are
pub record IsReplyTo
    (heard : List ℕ) (is_draining : Bool) (reports : List Report) (reply : Reply) : Type 0
  where
    pub whole : (h : RequestHead) → BeginsWith heard h → Sends reply (reply_to h is_draining reports)
    pub crowded : (h : RequestHead) (rest : List ℕ) → ReadsRequest heard h rest
        → MAX_HEADERS < length h.fields → Sends reply bad_request
    pub overfull : HasManyLines heard → Sends reply bad_request
    pub hopeless : NeverHasRequest heard → ¬ (EndsInTarget heard) → Sends reply bad_request
    pub long : IsTooLong heard → Sends reply bad_request
    pub waits : MustWait heard → reply ≡ More

-- these bytes are the reply that is due, and why
abbrev pub IsDueText : List ℕ → (is_draining : Bool) → List Report → List ℕ → Type 0
IsDueText heard is_draining reports text =
    ((h : RequestHead) × BeginsWith heard h × (text ≡ reply_to h is_draining reports))
    ⊎ (IsBad heard × (text ≡ bad_request))

-- why the reply is right
abbrev pub HasReason : List ℕ → (is_draining : Bool) → List Report → Reply → Type 0
HasReason heard is_draining reports More = MayWait heard
HasReason heard is_draining reports (Bytes out) = IsDueText heard is_draining reports out.items
