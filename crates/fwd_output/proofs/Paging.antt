-- What an output's page knows of it once an event of its is added.
use Rattle.std.proofs.lemmas.Bool.Decides.{nat_tests}
use Rattle.std.proofs.Common.{arith, true, nat_lt, ◌≡◌, ◌<◌, ◌++◌, ℕ, List, [], ◌∷◌, Option, Some, None, false, refl, sym, ap, subst, ◌∙◌}
use Rattle.std.specs.Prelude.{is_some, map, option_to_list}
use Rattle.std.specs.List.{AllByRecursion}
use Rattle.fwd_modes.specs.declared.origin.Origin.{Origin}
use Rattle.fwd_book.specs.History.{BookSetting}
use Rattle.fwd_book.specs.Receipts.{receipts}
use Rattle.fwd_model.specs.Outputs.{LiveOutput}
use Rattle.fwd_chunks.specs.History.{CarriedChunk}
use Rattle.fwd_session.specs.History.{first_in}
use Rattle.fwd_session.specs.Live.{LiveSession, live_chunks}
use Rattle.fwd_session.specs.ServerAcks.{Accepted, ServerAck}
use Rattle.fwd_model.specs.Layers.{Worker}
use Rattle.fwd_chunks.specs.Live.{LiveBuffer, IsCarried}
use Rattle.fwd_run.specs.Pages.{AreCarried, OutputKnown, WorkerKnown, chunks_in}
use Rattle.fwd_run.specs.Runs.{RunEvent, output_at}
use Rattle.fwd_output.specs.Paged.{IsPaged, IsTrial, AreGivenAfter, HasAcked, MayTake, Takes}

-- it is another output, of the same setting
pub paged-next : (k n : OutputKnown) (p q : LiveOutput) → IsPaged k p → q.book.setting ≡ p.book.setting → n ≡ record k { is = Some q } → IsPaged n q
paged-next k n p q own same next =
    subst (λ x. IsPaged x q) (sym next) (record {
      is = refl;
      number = own.number ∙ ap (λ (s : BookSetting). s.output) (sym same);
      config = own.config;
      set = own.set;
      some = own.some;
    })

-- it is one that is said otherwise
pub paged-as : (k n : OutputKnown) (p q r : LiveOutput) → IsPaged k p → q ≡ r → r.book.setting ≡ p.book.setting → n ≡ record k { is = Some r } → IsPaged n q
paged-as k n p q r own same setting next =
    paged-next k n p q own (ap (λ (x : LiveOutput). x.book.setting) same ∙ setting) (next ∙ ap (λ x. record k { is = Some x }) (sym same))

-- and the worker that never has a chunk is the same output's
pub both-as : (k n : OutputKnown) (t : WorkerKnown) (servers : ℕ) (p q r : LiveOutput) → (IsPaged k p × IsTrial t k.output servers) → q ≡ r → r.book.setting ≡ p.book.setting → n ≡ record k { is = Some r }
    → IsPaged n q × IsTrial t n.output servers
both-as k n t servers p q r own same setting next =
    (paged-as k n p q r own.0 same setting next, subst (λ (x : OutputKnown). IsTrial t x.output servers) (sym next) own.1)

-- after a history its book gives what is given of what is shown
pub given-after : (past : List RunEvent) (l : LiveOutput) (os : List Origin) → output_at past l.book.setting.output ≡ Some l
    → AreGivenAfter past l.book.setting (receipts l.book.settled l.book.requests os)
given-after past l os at = record { output = l; at = at; own = refl; origins = os; is = refl }

-- ---- the chunks of a worker

all_left : {X : Type 0} (P : X → Type 0) (xs ys : List X) → AllByRecursion P (xs ++ ys) → AllByRecursion P xs
all_left P [] ys all = tt
all_left P (x ∷ xs) ys all = (all.0, all_left P xs ys all.1)

all_right : {X : Type 0} (P : X → Type 0) (xs ys : List X) → AllByRecursion P (xs ++ ys) → AllByRecursion P ys
all_right P [] ys all = all
all_right P (x ∷ xs) ys all = all_right P xs ys all.1

first-of : (P : CarriedChunk → Type 0) (acks : List Accepted) (a : Accepted) → first_in acks ≡ Some a → AllByRecursion P (map (λ x. x.chunk) acks) → P a.chunk
first-of P [] a is all = absurd cc
first-of P (x ∷ acks) a is all = let same : x ≡ a = cc in subst (λ (y : Accepted). P y.chunk) same all.0

-- what is true of all that a worker has is true of the chunk that it has acknowledged first
pub acked-among : (P : CarriedChunk → Type 0) (x : Worker LiveSession) (s : LiveSession) (a : Accepted) → x.session ≡ Some s → first_in s.accepted ≡ Some a
    → AllByRecursion P (option_to_list x.taken ++ chunks_in x.session) → P a.chunk
acked-among P x s a stands first all =
    let its : AllByRecursion P (chunks_in (Some s)) = subst (λ o. AllByRecursion P (chunks_in o)) stands (all_right P (option_to_list x.taken) (chunks_in x.session) all) in
    first-of P s.accepted a first (all_right P (live_chunks s.carried) (map (λ x. x.chunk) s.accepted) its)

-- so that one is carried
pub acked-held : (k : WorkerKnown) (o : ℕ) (e : ServerAck) (c : CarriedChunk) (b : LiveBuffer) (a : HasAcked k o e c)
    → AreCarried b (option_to_list a.worker.taken ++ chunks_in a.worker.session) → IsCarried b c
acked-held k o e c b a all =
    subst (IsCarried b) a.is (acked-among (IsCarried b) a.worker a.session a.acked a.stands a.first all.carried)

-- a worker is the one that has it, with its session and what that has acknowledged first
pub acked-first : (k : WorkerKnown) (o : ℕ) (e : ServerAck) (c : CarriedChunk) (a : HasAcked k o e c) (x : Worker LiveSession) (s : LiveSession)
    → k.has ≡ Some x → x.session ≡ Some s → first_in s.accepted ≡ Some a.acked
acked-first k o e c a x s has stands =
    let same : Some a.worker ≡ Some x = sym a.has ∙ has in
    let its : a.worker ≡ x = cc in
    let both : Some a.session ≡ Some s = sym a.stands ∙ (ap (λ (y : Worker LiveSession). y.session) its ∙ stands) in
    let session : a.session ≡ s = cc in
    subst (λ (t : LiveSession). first_in t.accepted ≡ Some a.acked) session a.first

-- a worker that may take a chunk, and is given none, has what it had
pub takes-none : (k : WorkerKnown) (o : ℕ) → MayTake k o → Takes k None k
takes-none k o may x has =
    let none : x.taken ≡ None = none-of x.taken (subst (λ (y : Worker LiveSession). is_some y.taken ≡ false) (worker-is k may.worker x may.has has) may.free) in
    ap (λ h. record k { has = h }) (has ∙ ap (λ t. Some (record x { taken = t })) none)
  where
    none-of : (t : Option CarriedChunk) → is_some t ≡ false → t ≡ None
    none-of None e = refl
    none-of (Some c) e = absurd cc

    worker-is : (k : WorkerKnown) (x y : Worker LiveSession) → k.has ≡ Some x → k.has ≡ Some y → x ≡ y
    worker-is k x y a b = let both : Some x ≡ Some y = sym a ∙ b in cc

-- none are carried
pub none-carried : (b : LiveBuffer) → AreCarried b []
none-carried b = record { carried = tt; apart = λ n. omega arith }

pub below : (n m : ℕ) → n < m → nat_lt n m ≡ true
below n m less = grind (arith, nat_tests)
