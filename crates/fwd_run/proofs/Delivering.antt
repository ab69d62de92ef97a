-- The receipts that an output gives behind a run's history are of requests that the events of the
-- relay in it delivered.
use Rattle.std.proofs.Common.{◌≡◌, ℕ, Bool, true, false, List, [], ◌∷◌, ◌++◌, Option, Some, None, refl, sym, ap, subst, ◌∙◌}
use Rattle.std.specs.Prelude.{map, option_map, slice_get}
use Rattle.std.proofs.lemmas.Option.{slice_get-map}
use Rattle.fwd_modes.specs.declared.origin.Origin.{Origin}
use Rattle.fwd_source.specs.History.{SourceHistory}
use Rattle.fwd_source.specs.Live.{LiveSource, live_source}
use Rattle.fwd_chunks.specs.Cells.{has_number}
use Rattle.fwd_chunks.specs.Live.{live_buffer}
use Rattle.fwd_book.specs.History as book
use Rattle.fwd_book.specs.History.{is_settled, untold}
use Rattle.fwd_book.specs.Live.{live_book}
use Rattle.fwd_book.specs.Receipts.{Receipt, receipts}
use Rattle.fwd_book.proofs.Following.{follows-receipts}
use Rattle.fwd_model.specs.declared.config.Config.{Config}
use Rattle.fwd_model.specs.declared.event.Event.{Event}
use Rattle.fwd_model.specs.declared.event.Event.TheVariants as event
use Rattle.fwd_model.specs.declared.answer.Answer.TheVariants as answer
use Rattle.fwd_model.specs.declared.fault.Refusal.{Refusal}
use Rattle.fwd_model.specs.declared.fault.Refusal.TheVariants.{Closed, NoSuch}
use Rattle.fwd_model.specs.Outcome.{Outcome, Goes, answer_of, within, found, refuse_if, ◌>>=◌, ◌>>◌}
use Rattle.fwd_model.specs.Books.{numbers_of}
use Rattle.fwd_model.specs.Step as steps
use Rattle.fwd_model.specs.Step.{step}
use Rattle.fwd_model.specs.Outputs.{LiveOutput, live_output}
use Rattle.fwd_model.specs.History.{Lane, History, histories, source_at, with_lane, with_connection}
use Rattle.fwd_model.specs.Live.{LiveLane, LiveRelay, live, live_lane, live_source_at, with_live_book}
use Rattle.fwd_model.specs.Delivered.{IsDelivered, IsTold, reached}
use Rattle.fwd_model.proofs.Deliver.{told_delivered}
use Rattle.fwd_model.proofs.Reached.{IsSane}
use Rattle.fwd_model.proofs.Follows.{live_source_here}
use Rattle.fwd_model.proofs.Follows.Outputs.{lane_at-live}
use Rattle.fwd_model.proofs.Places.{live_workers-same}
use Rattle.fwd_history.specs.Histories.{Comes, IsLegal}
use Rattle.fwd_run.specs.Runs as runs
use Rattle.fwd_run.specs.Runs.{RunEvent, MayHappen, config_of, run_after, relay_events, seen, output_at, output_in, source_in, lane_but_owed, but_owed}
use Rattle.fwd_run.proofs.Histories.{run_history, Agrees, run_follows}
use Rattle.fwd_run.proofs.Marks.{unmarked_output, unmarked_lane, unmarked, unmarked_relay, Follows, run_unmarked}
use Rattle.fwd_run.proofs.Receiving.{IsEntered, IsReceiptOf, receipt-of, is-told}
use Rattle.fwd_run.proofs.Growing.{Grown, GoesOn, goes_on, entered_on, entered_unmarked, entered_marked, settled_on}

-- ---- what a collect is answered

past_found : {S X : Type 0} (why : Refusal) (x : Option X) (z : X) (p : X → Outcome S) → x ≡ Some z → (found x why >>= p) ≡ p z
past_found why x z p e = ap (λ y. found y why >>= p) e

past_check : {S : Type 0} (why : Refusal) (b : Bool) (p : Outcome S) → b ≡ false → (refuse_if b why >> p) ≡ p
past_check why b p e = ap (λ c. refuse_if c why >> p) e

collect_answers : (h : History) (id o : ℕ) (s : SourceHistory) (l : Lane) → source_at id h.connections ≡ Some s → s.shut ≡ false
    → slice_get h.lanes o ≡ Some l
    → answer_of (step histories h (event.Collect id o)) ≡ answer.Told (histories.due l id).numbers (histories.due l id).acks
collect_answers h id o s l known stands here =
    let put : SourceHistory × Lane → History =
    λ two. with_lane o two.1 (with_connection id two.0 h) in
    ap answer_of
    (past_found NoSuch (source_at id h.connections) s (λ s. found (slice_get h.lanes o) NoSuch >>= (λ l. within put (steps.collect histories id s l))) known
    ∙ past_found NoSuch (slice_get h.lanes o) l (λ k. within put (steps.collect histories id s k)) here
    ∙ ap (within put) (past_check Closed s.shut (Goes (answer.Told (histories.due l id).numbers (histories.due l id).acks) (histories.appends s (histories.due l id).acks, histories.tells l id)) stands))

-- ---- what a run's state shows of its history

pub record LaneBehind (h : History) (o : ℕ) (p : LiveOutput) : Type 0 where
  pub lane : Lane
  pub here : slice_get h.lanes o ≡ Some lane
  pub buffer : live_buffer lane.output.buffer ≡ p.buffer
  pub book : live_book lane.output.book ≡ p.book

pub lane_behind : (h : History) (o : ℕ) (p : LiveOutput) → output_in (live h) o ≡ Some p → LaneBehind h o p
unfolding live_lane live_output
lane_behind h o p at = by (slice_get h.lanes o) refl (sym (ap (option_map (λ (l : LiveLane). l.output)) (lane_at-live o h)) ∙ at)
  where
    by : (x : Option Lane) → slice_get h.lanes o ≡ x → option_map (λ (l : LiveLane). l.output) (option_map live_lane x) ≡ Some p → LaneBehind h o p
    by None here e = absurd cc
    by (Some l) here e = let same : live_output l.output ≡ p = cc in record {
      lane = l;
      here = here;
      buffer = ap (λ (q : LiveOutput). q.buffer) same;
      book = ap (λ (q : LiveOutput). q.book) same;
    }

record SourceBehind (h : History) (id : ℕ) : Type 0 where
  source : SourceHistory
  known : source_at id h.connections ≡ Some source
  stands : source.shut ≡ false

source_behind : (h : History) (sane : IsSane h) (id : ℕ) (s : LiveSource) → source_in (live h) id ≡ Some s → s.shut ≡ false → SourceBehind h id
unfolding live_source
source_behind h sane id s at stands = by (source_at id h.connections) refl (sym (live_source_here h sane id) ∙ at)
  where
    by : (x : Option SourceHistory) → source_at id h.connections ≡ x → option_map live_source x ≡ Some s → SourceBehind h id
    by None known e = absurd cc
    by (Some t) known e = let same : live_source t ≡ s = cc in record { source = t; known = known; stands = ap (λ (u : LiveSource). u.shut) same ∙ stands }

-- ---- the law

-- what a run's history, its settings and its events of the relay have in common
pub record Behind (c : Config) (es : List Event) (r : LiveRelay) : Type 0 where
  pub history : History
  pub sane : IsSane history
  pub is : live history ≡ r
  pub one : unmarked_relay history ≡ reached c es

pub behind : (past : List RunEvent) (c : Config) (r : LiveRelay) → IsLegal MayHappen past → config_of past ≡ Some c → run_after past ≡ Some r → Behind c (relay_events past) r
behind past c r legal begun after = by (run_history past) refl
  where
    by : (x : Option History) → run_history past ≡ x → Behind c (relay_events past) r
    by None none = absurd (subst (λ x. Follows x (relay_events past) None) begun (subst (Follows (config_of past) (relay_events past)) none (run_unmarked past legal)))
    by (Some h) is =
        let agrees : Agrees (Some h) (Some r) = subst (Agrees (Some h)) after (subst (λ x. Agrees x (run_after past)) is (run_follows past)) in
        record {
          history = h;
          sane = agrees.0;
          is = agrees.1;
          one = subst (λ x. Follows x (relay_events past) (Some h)) begun (subst (Follows (config_of past) (relay_events past)) is (run_unmarked past legal));
        }

-- where something is seen the relay has begun
pub has_begun : {X : Type 0} (see : LiveRelay → Option X) (x : Option LiveRelay) (y : X) → seen see x ≡ Some y → (r : LiveRelay) × (x ≡ Some r) × (see r ≡ Some y)
has_begun see None y is = absurd cc
has_begun see (Some r) y is = (r, refl, is)

-- a receipt is of a request that an output has, whose entries are all acknowledged, and it has it as
-- long as the run goes on
record Entered_in (c : Config) (es : List Event) (o : ℕ) (receipt : Receipt) : Type 0 where
  lane : Lane
  here : slice_get (reached c es).lanes o ≡ Some (unmarked_lane lane)
  of : IsReceiptOf lane.output.book.settled lane.output.book.admissions receipt

entered_in : (c : Config) (es : List Event) (r : LiveRelay) (b : Behind c es r) (o i : ℕ) (p : LiveOutput) (origins : List Origin) (receipt : Receipt)
    → output_in r o ≡ Some p → slice_get (receipts p.book.settled p.book.requests origins) i ≡ Some receipt → Entered_in c es o receipt
entered_in c es r b o i p origins receipt at given =
    let its = lane_behind b.history o p (ap (λ x. output_in x o) b.is ∙ at) in
    record {
      lane = its.lane;
      here = ap (λ k. slice_get k.lanes o) (sym b.one) ∙ slice_get-map unmarked_lane b.history.lanes o ∙ ap (option_map unmarked_lane) its.here;
      of =
          receipt-of its.lane.output.book.settled its.lane.output.book.admissions origins receipt i
          (ap (λ xs. slice_get xs i) (follows-receipts its.lane.output.book origins ∙ ap (λ b. receipts b.settled b.requests origins) its.book) ∙ given);
    }

-- the lane that an output has then is one in which nothing became of requests
unmarked_there : (h : History) (o : ℕ) (l : Lane) → slice_get (unmarked_relay h).lanes o ≡ Some l → (k : Lane) × (unmarked_lane k ≡ l)
unmarked_there h o l at = by (slice_get h.lanes o) (sym (slice_get-map unmarked_lane h.lanes o) ∙ at)
  where
    by : (x : Option Lane) → option_map unmarked_lane x ≡ Some l → (k : Lane) × (unmarked_lane k ≡ l)
    by None e = absurd cc
    by (Some k) e = (k, cc)

delivers : (c : Config) (es : List Event) (r : LiveRelay) (b : Behind c es r) (o : ℕ) (l : Lane) (s : LiveSource) (receipt : Receipt)
    → slice_get (reached c es).lanes o ≡ Some l → IsReceiptOf l.output.book.settled l.output.book.admissions receipt
    → source_in r receipt.origin.conn ≡ Some s → s.shut ≡ false
    → IsDelivered c es receipt.origin.conn receipt.origin.request o
delivers c es r b o l s receipt here of known stands =
    told_delivered c (es ++ event.Collect id o ∷ []) id receipt.origin.request o told
  where
    id : ℕ
    id = receipt.origin.conn

    source : SourceBehind b.history id
    source = source_behind b.history b.sane id s (ap (λ x. source_in x id) b.is ∙ known) stands

    plain : (k : Lane) × (unmarked_lane k ≡ l)
    plain = unmarked_there b.history o l (ap (λ h. slice_get h.lanes o) b.one ∙ here)

    -- it is due there, as nothing became of it
    among : has_number receipt.origin.request (histories.due l id).numbers ≡ true
    among =
        let k = plain.0.output.book in
        let entered : IsEntered of.request k.admissions =
        entered_marked of.request k.admissions (subst (λ (m : Lane). IsEntered of.request m.output.book.admissions) (sym plain.1) of.entered) in
        let settled : is_settled k.settled of.request ≡ true =
        ap (λ (m : Lane). is_settled m.output.book.settled of.request) plain.1 ∙ of.acknowledged in
        subst (λ (m : Lane). has_number receipt.origin.request (histories.due m id).numbers ≡ true) plain.1
        (subst (λ (x : Origin). has_number x.request (numbers_of (book.due (unmarked_output plain.0.output).book x.conn)) ≡ true) (sym of.origin)
        (is-told k.settled k.admissions of.request entered settled))

    told : IsTold c (es ++ event.Collect id o ∷ []) id receipt.origin.request o
    told = record {
      before = es;
      numbers = (histories.due l id).numbers;
      out = (histories.due l id).acks;
      later = [];
      split = refl;
      told = collect_answers (reached c es) id o source.source l (ap (λ k. source_at id k.connections) (sym b.one) ∙ source.known) source.stands here;
      among = among;
    }

-- a receipt that an output gave, and the run as it went on
went_on : (c : Config) (o : ℕ) (l k : Lane) (receipt : Receipt) → Grown (unmarked_lane l) k → IsReceiptOf l.output.book.settled l.output.book.admissions receipt
    → IsReceiptOf k.output.book.settled k.output.book.admissions receipt
went_on c o l k receipt grown of = record {
  request = of.request;
  entered =
      subst (IsEntered of.request) (sym grown.requests)
      (entered_on of.request (map unmarked l.output.book.admissions) grown.admissions (entered_unmarked of.request l.output.book.admissions of.entered));
  acknowledged = ap (λ es. is_settled es of.request) grown.settled ∙ settled_on of.request l.output.book.settled grown.acks of.acknowledged;
  origin = of.origin;
}

legal_before : (more old : List RunEvent) → IsLegal MayHappen (more ++ old) → IsLegal MayHappen old
legal_before [] old legal = legal
legal_before (e ∷ more) old legal = legal_before more old legal.0

pub run_delivers : (old past : List RunEvent) (c : Config) (o i : ℕ) (p : LiveOutput) (s : LiveSource) (origins : List Origin) (receipt : Receipt)
    → IsLegal MayHappen past → Comes old past → config_of old ≡ Some c → output_at old o ≡ Some p
    → slice_get (receipts p.book.settled p.book.requests origins) i ≡ Some receipt
    → runs.source_at past receipt.origin.conn ≡ Some s → s.shut ≡ false
    → IsDelivered c (relay_events past) receipt.origin.conn receipt.origin.request o
run_delivers old past c o i p s origins receipt legal comes begun at given known stands =
    let was = has_begun (λ r. output_in r o) (run_after old) p at in
    let is = has_begun (λ r. source_in r receipt.origin.conn) (run_after past) s known in
    let whole : IsLegal MayHappen (comes.0 ++ old) = subst (IsLegal MayHappen) (sym comes.1) legal in
    let then = entered_in c (relay_events old) was.0 (behind old c was.0 (legal_before comes.0 old whole) begun was.1) o i p origins receipt was.2 given in
    let on : GoesOn c o (unmarked_lane then.lane) past = subst (GoesOn c o (unmarked_lane then.lane)) comes.1 (goes_on c o (unmarked_lane then.lane) old comes.0 whole begun then.here) in
    delivers c (relay_events past) is.0 (behind past c is.0 legal on.config is.1) o on.has.lane s receipt on.has.here (went_on c o then.lane on.has.lane receipt on.has.grown then.of) is.2 stands

-- ---- but for who is owed an answer, a run's history leads where its events of the relay lead

lane_same : (l : Lane) → lane_but_owed (live_lane l) ≡ lane_but_owed (live_lane (unmarked_lane l))
unfolding live_lane live_output live_book
lane_same l = λ i. record (lane_but_owed (live_lane l)) { workers = live_workers-same l.output (unmarked_output l.output) 0 l.sessions (λ k. refl) i }

lanes_same : (ls : List Lane) → map lane_but_owed (map live_lane ls) ≡ map lane_but_owed (map live_lane (map unmarked_lane ls))
lanes_same [] = refl
lanes_same (l ∷ ls) = λ i. lane_same l i ∷ lanes_same ls i

relay_same : (h : History) → but_owed (live h) ≡ but_owed (live (unmarked_relay h))
unfolding live
relay_same h = ap (λ ls. record (but_owed (live h)) { lanes = ls }) (lanes_same h.lanes)

pub run_is_the_relays : (past : List RunEvent) (c : Config) (r : LiveRelay) → IsLegal MayHappen past → config_of past ≡ Some c → run_after past ≡ Some r
    → but_owed r ≡ but_owed (live (reached c (relay_events past)))
run_is_the_relays past c r legal begun after =
    let b = behind past c r legal begun after in
    ap but_owed (sym b.is) ∙ relay_same b.history ∙ ap (λ h. but_owed (live h)) b.one
