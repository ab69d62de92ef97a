-- The bytes of a monitor come to one reply.
use Rattle.std.proofs.Common.{◌≡◌, ℕ, Bool, true, false, inl, inr, List, [], ◌∷◌, ◌++◌, Option, Some, None, refl, sym, ap, ◌∙◌, subst, arith}
use Rattle.std.specs.Prelude.{IsTrue, IsFalse, if◌then◌else◌}
use Rattle.std.proofs.lemmas.Bool.Decides.{nat_tests}
use Rattle.httparse.specs.Grammar.{RequestHead}
use Rattle.httparse.proofs.GrammarLemmas.{request_unique, ReadsRequest-append}
use Rattle.fwd_base.specs.declared.report.Report.{Report}
use Rattle.fwd_monitor.specs.declared.reply.Reply.{Reply}
use Rattle.fwd_monitor.specs.declared.reply.Reply.TheVariants.{More, Bytes}
use Rattle.fwd_monitor.specs.Requests.{BeginsWith, HasManyLines, IsBad, IsDue, MustWait, WantsMetrics, WantsPage, WantsReady, is_for_metrics, is_for_page, is_for_ready}
use Rattle.fwd_monitor.specs.Statuses.{IsJudged, is_found, is_metrics}
use Rattle.fwd_monitor.specs.declared.status.HttpStatus.{HttpStatus}
use Rattle.fwd_monitor.specs.declared.status.HttpStatus.TheVariants.{Found, Ready, Metrics, NotFound, BadRequest}
use Rattle.fwd_monitor.specs.Replies.{IsReplyTo, IsDueText, HasReason, Sends, bad_request, not_found, page_reply, ready_reply, reply_to}
use Rattle.fwd_monitor.proofs.HeadLemmas.{many-fields, many-more, whole-many}

-- the bytes begin with one head
begins-one : (heard : List ℕ) (h k : RequestHead)
    → BeginsWith heard h → BeginsWith heard k → h ≡ k
begins-one heard h k x y =
    (request_unique heard h k x.whole.0 y.whole.0 x.whole.1 y.whole.1).0

-- a whole head of few headers is not bad
pub begins-good : (heard : List ℕ) (h : RequestHead) → BeginsWith heard h → IsBad heard → ⊥
begins-good heard h x (inl never) =
    never [] h (x.whole.0 ++ []) (ReadsRequest-append heard h x.whole.0 [] x.whole.1)
begins-good heard h x (inr (inl over)) =
    let few = x.few in
    let many = many-fields heard h x.whole.0 x.whole.1 over in
    omega (arith, few, many)
begins-good heard h x (inr (inr long)) = long.unfinished h x.whole.0 x.whole.1

-- where bytes can follow that make a head of few headers, there are few header lines
pub begun-few : (heard more : List ℕ) (h : RequestHead)
    → BeginsWith (heard ++ more) h → HasManyLines heard → ⊥
begun-few heard more h x over =
    begins-good (heard ++ more) h x (inr (inl (many-more heard more over)))

-- no reply is due to bytes that must wait
pub must-none : (heard : List ℕ) → MustWait heard → IsDue heard → ⊥
must-none heard must (inl (h, x)) = must.unfinished h x.whole.0 x.whole.1
must-none heard must (inr (inl never)) =
    let next = must.hopeful in
    never next.0 next.1 next.2 next.3
must-none heard must (inr (inr (inl over))) = must.few over
must-none heard must (inr (inr (inr long))) =
    let short = must.short in
    let least = long.long in
    omega (arith, short, least)

-- bytes to which these are the reply
due-any : (heard : List ℕ) (d : Bool) (reports : List Report) (text : List ℕ)
    → IsDueText heard d reports text → IsDue heard
due-any heard d reports text (inl (h, x, is)) = inl (h, x)
due-any heard d reports text (inr (bad, is)) = inr bad

-- the reply to bytes that begin with a head
due-whole : (heard : List ℕ) (d : Bool) (reports : List Report) (text : List ℕ) (h : RequestHead)
    → IsDueText heard d reports text → BeginsWith heard h → text ≡ reply_to h d reports
due-whole heard d reports text h (inl (k, y, is)) x =
    is ∙ ap (λ (v : RequestHead). reply_to v d reports) (begins-one heard k h y x)
due-whole heard d reports text h (inr (bad, is)) x = absurd (begins-good heard h x bad)

-- the reply to bytes that are bad
due-bad : (heard : List ℕ) (d : Bool) (reports : List Report) (text : List ℕ)
    → IsDueText heard d reports text → IsBad heard → text ≡ bad_request
due-bad heard d reports text (inl (k, y, is)) bad = absurd (begins-good heard k y bad)
due-bad heard d reports text (inr (worse, is)) bad = is

-- the bytes have one reply
pub due-one : (heard : List ℕ) (d : Bool) (reports : List Report) (text other : List ℕ)
    → IsDueText heard d reports text → IsDueText heard d reports other → text ≡ other
due-one heard d reports text other due (inl (h, x, is)) =
    due-whole heard d reports text h due x ∙ sym is
due-one heard d reports text other due (inr (bad, is)) =
    due-bad heard d reports text due bad ∙ sym is

-- a reply with a reason is the reply to what the bytes are
pub reason-reply : (heard : List ℕ) (d : Bool) (reports : List Report) (reply : Reply)
    → HasReason heard d reports reply → IsReplyTo heard d reports reply
reason-reply heard d reports More may = record {
  whole = λ h x. may.unfinished h x.whole.0 x.whole.1;
  crowded = λ h rest x many. may.unfinished h rest x;
  overfull = λ many. may.few many;
  hopeless = λ never outside.
      elim may.hopeful [ inl next ↦ never next.0 next.1 [] next.2 | inr target ↦ outside target ];
  long = λ long. let short = may.short in let least = long.long in omega (arith, short, least);
  waits = λ must. refl;
}
reason-reply heard d reports (Bytes out) due = record {
  whole = λ h x. due-whole heard d reports out.items h due x;
  crowded = λ h rest x many.
      due-bad heard d reports out.items due (inr (inl (whole-many heard h rest x many)));
  overfull = λ many. due-bad heard d reports out.items due (inr (inl many));
  hopeless = λ never outside. due-bad heard d reports out.items due (inl never);
  long = λ long. due-bad heard d reports out.items due (inr (inr long));
  waits = λ must. absurd (must-none heard must (due-any heard d reports out.items due));
}

-- a test has one outcome
differ : (b : Bool) → IsTrue b → IsFalse b → ⊥
differ true t f = cc
differ false t f = cc

-- none is true where it is false
no : IsTrue false → ⊥
no t = cc

-- a request that does not ask for the page
not-page : (heard : List ℕ) (k : RequestHead) → BeginsWith heard k
    → IsFalse (is_for_page k.method k.target) → WantsPage heard → ⊥
not-page heard k begins is w =
    differ (is_for_page w.0.method w.0.target) w.2
    (subst (λ (h : RequestHead). IsFalse (is_for_page h.method h.target))
    (begins-one heard k w.0 begins w.1) is)

-- a request that does not ask for the metrics page
not-metrics : (heard : List ℕ) (k : RequestHead) → BeginsWith heard k
    → IsFalse (is_for_metrics k.method k.target) → WantsMetrics heard → ⊥
not-metrics heard k begins is w =
    differ (is_for_metrics w.0.method w.0.target) w.2
    (subst (λ (h : RequestHead). IsFalse (is_for_metrics h.method h.target))
    (begins-one heard k w.0 begins w.1) is)

-- who asks whether the relay is ready does not ask for the page
ready-page : (method target : List ℕ) → IsTrue (is_for_ready method target)
    → IsFalse (is_for_page method target)
ready-page method [] is = grind (arith, nat_tests, is)
ready-page method (b ∷ []) is = grind (arith, nat_tests, is)
ready-page method (b ∷ c ∷ target) is = grind (arith, nat_tests, is)

-- who asks whether the relay is ready does not ask for the metrics page
ready-metrics : (method target : List ℕ) → IsTrue (is_for_ready method target)
    → IsFalse (is_for_metrics method target)
ready-metrics method [] is = grind (arith, nat_tests, is)
ready-metrics method (b ∷ []) is = grind (arith, nat_tests, is)
ready-metrics method (b ∷ c ∷ target) is = grind (arith, nat_tests, is)

-- bytes that ask whether the relay is ready do not ask for the page
pub ready-apart-page : (heard : List ℕ) → WantsReady heard → WantsPage heard → ⊥
ready-apart-page heard (h, x, asks) w =
    not-page heard h x (ready-page h.method h.target asks) w

-- nor for the metrics page
pub ready-apart-metrics : (heard : List ℕ) → WantsReady heard → WantsMetrics heard → ⊥
ready-apart-metrics heard (h, x, asks) w =
    not-metrics heard h x (ready-metrics h.method h.target asks) w

-- the reply to a head that asks whether the relay is ready
ready-of : (page ready : Bool) (text word other : List ℕ) → IsFalse page → IsTrue ready
    → (if page then text else if ready then word else other) ≡ word
ready-of true ready text word other is asks = cc
ready-of false true text word other is asks = refl
ready-of false false text word other is asks = cc

-- who asks whether the relay is ready is told that
pub ready-told : (heard : List ℕ) (d : Bool) (reports : List Report) (reply : Reply)
    → IsReplyTo heard d reports reply → WantsReady heard → Sends reply (ready_reply d)
ready-told heard d reports reply is (h, x, asks) =
    subst (λ (text : List ℕ). Sends reply text)
    (ready-of (is_for_page h.method h.target) (is_for_ready h.method h.target)
    (page_reply reports) (ready_reply d) not_found
    (ready-page h.method h.target asks) asks)
    (is.whole h x)

-- who asks for the page does not ask for the metrics page
page-apart : (method target : List ℕ) → IsTrue (is_for_page method target)
    → IsFalse (is_for_metrics method target)
page-apart method [] is = grind (arith, nat_tests, is)
page-apart method (b ∷ []) is = grind (arith, nat_tests, is)
page-apart method (b ∷ c ∷ target) is = grind (arith, nat_tests, is)

-- bytes that ask for the page do not ask for the metrics page
pub page-apart-metrics : (heard : List ℕ) → WantsPage heard → WantsMetrics heard → ⊥
page-apart-metrics heard (h, x, asks) w =
    not-metrics heard h x (page-apart h.method h.target asks) w

-- bytes are told the page just where they are judged so
pub found-wants : (heard : List ℕ) (status : Option HttpStatus) → IsJudged heard status
    → (IsTrue (is_found status) → WantsPage heard) × (WantsPage heard → IsTrue (is_found status))
found-wants heard None is =
    ((λ t. absurd (no t)), (λ w. absurd (is.unfinished w.0 w.1.whole.0 w.1.whole.1)))
found-wants heard (Some Found) is = ((λ t. is), (λ w. refl))
found-wants heard (Some Ready) is =
    ((λ t. absurd (no t)), (λ w. absurd (not-page heard is.0 is.1 is.2 w)))
found-wants heard (Some Metrics) is =
    ((λ t. absurd (no t)), (λ w. absurd (not-page heard is.0 is.1 is.2 w)))
found-wants heard (Some NotFound) is =
    ((λ t. absurd (no t)), (λ w. absurd (not-page heard is.0 is.1 is.2 w)))
found-wants heard (Some BadRequest) is =
    ((λ t. absurd (no t)), (λ w. absurd (begins-good heard w.0 w.1 is)))

-- bytes ask for the metrics page just where they are judged so
pub metrics-wants : (heard : List ℕ) (status : Option HttpStatus) → IsJudged heard status
    → (IsTrue (is_metrics status) → WantsMetrics heard)
    × (WantsMetrics heard → IsTrue (is_metrics status))
metrics-wants heard None is =
    ((λ t. absurd (no t)), (λ w. absurd (is.unfinished w.0 w.1.whole.0 w.1.whole.1)))
metrics-wants heard (Some Found) is = (
  (λ t. absurd (no t)),
  (λ w. absurd (not-metrics heard is.0 is.1
      (page-apart is.0.method is.0.target is.2) w)),
)
metrics-wants heard (Some Ready) is = (
  (λ t. absurd (no t)),
  (λ w. absurd (not-metrics heard is.0 is.1
      (ready-metrics is.0.method is.0.target is.3) w)),
)
metrics-wants heard (Some Metrics) is = ((λ t. (is.0, is.1, is.4)), (λ w. refl))
metrics-wants heard (Some NotFound) is =
    ((λ t. absurd (no t)), (λ w. absurd (not-metrics heard is.0 is.1 is.4 w)))
metrics-wants heard (Some BadRequest) is =
    ((λ t. absurd (no t)), (λ w. absurd (begins-good heard w.0 w.1 is)))
