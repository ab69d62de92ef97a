-- What a collect comes to, by the origins and the receipts of what is due.
use Rattle.std.proofs.Common.{◌≡◌, ℕ, false, List, [], ◌∷◌, ◌++◌, Option, Some, refl, sym, ap, ◌∙◌}
use Rattle.std.specs.Prelude.{map, option_and_then}
use Rattle.std.specs.List.{concat}
use Rattle.std.proofs.lemmas.List.{append-nil, append_assoc}
use Rattle.fwd_modes.specs.declared.origin.Origin.{Origin}
use Rattle.fwd_source.specs.Live.{LiveSource, source_appends}
use Rattle.fwd_book.specs.History.{Entered, request_at}
use Rattle.fwd_book.specs.Receipts.{Receipt, receipt_of}
use Rattle.fwd_book.specs.Live.{live_due, live_leaves, live_tells_due}
use Rattle.fwd_model.specs.Books.{ack_asked, ack_of, numbers_of, acks_of}
use Rattle.fwd_model.specs.declared.answer.Answer.TheVariants as answer
use Rattle.fwd_model.specs.declared.fault.Refusal.TheVariants.{Closed}
use Rattle.fwd_model.specs.Outcome.{Outcome, Goes, answer_of, state_of, refuse_if, ◌>>◌}
use Rattle.fwd_model.specs.Step.{collect}
use Rattle.fwd_model.specs.Live.{LiveLane, with_live_book, lives}
use Rattle.fwd_output.specs.HandedBack.{chunk_at}
use Rattle.fwd_output.proofs.Basics.{map-more}

-- ---- one receipt more

concat-append : (xs ys : List (List ℕ)) → concat (xs ++ ys) ≡ concat xs ++ concat ys
concat-append [] ys = refl
concat-append (x ∷ xs) ys = ap (λ zs. x ++ zs) (concat-append xs ys) ∙ sym (append_assoc x (concat xs) (concat ys))

pub concat-more : {X : Type 0} (f : X → List ℕ) (xs ys : List X) (x : X) → ys ≡ xs ++ x ∷ []
    → concat (map f ys) ≡ concat (map f xs) ++ f x
concat-more f xs ys x e = ap concat (map-more f xs ys x e) ∙ concat-append (map f xs) (f x ∷ []) ∙ ap (λ zs. concat (map f xs) ++ zs) (append-nil (f x))

-- ---- what receipts tell

mapped-twice : {X Y Z : Type 0} (f : Y → Z) (g : X → Y) (xs : List X)
    → map f (map g xs) ≡ map (λ x. f (g x)) xs
mapped-twice f g [] = refl
mapped-twice f g (x ∷ xs) = ap (λ zs. f (g x) ∷ zs) (mapped-twice f g xs)

-- what a collect comes to where the source was not shut
collected : (conn : ℕ) (s : LiveSource) (l : LiveLane) → s.shut ≡ false
    → collect lives conn s l
    ≡ Goes (answer.Told (lives.due l conn).numbers (lives.due l conn).acks)
    (source_appends s (lives.due l conn).acks, lives.tells l conn)
collected conn s l up =
    ap (λ b. refuse_if b Closed >> Goes (answer.Told (lives.due l conn).numbers (lives.due l conn).acks) (source_appends s (lives.due l conn).acks, lives.tells l conn)) up

-- what a connection is told, by the requests that are found under the origins of what is due
acks-found : (found : Origin → Option Entered) (qs : List Entered)
    → map found (map (λ q. q.origin) qs) ≡ map Some qs
    → map (λ o. ack_asked (option_and_then (λ (q : Entered). q.chunk) (found o))) (map (λ q. q.origin) qs)
    ≡ map ack_of qs
acks-found found [] h = refl
acks-found found (q ∷ qs) h =
    let head : found q.origin ≡ Some q = cc in
    let tail : map found (map (λ x. x.origin) qs) ≡ map Some qs = cc in
    λ i. ack_asked (option_and_then (λ (x : Entered). x.chunk) (head i)) ∷ acks-found found qs tail i

module _ (conn : ℕ) (s : LiveSource) (l : LiveLane) (up : s.shut ≡ false) where
  abbrev due : List Entered
  due = live_due l.output.book conn

  abbrev origins : List Origin
  origins = map (λ q. q.origin) due

  abbrev comes : Outcome (LiveSource × LiveLane)
  comes = collect lives conn s l

  module _ (found : map (request_at l.output.book.requests) origins ≡ map Some due) where
    acks : (out : List ℕ)
        → out ≡ concat (map (λ o. ack_asked (chunk_at l.output.book.requests o)) origins)
        → out ≡ acks_of due
    acks out e = e ∙ ap concat (acks-found (request_at l.output.book.requests) due found)

    pub told_is : (requests out : List ℕ) → requests ≡ map (λ o. o.request) origins
        → out ≡ concat (map (λ o. ack_asked (chunk_at l.output.book.requests o)) origins)
        → answer.Told requests out ≡ answer_of comes
    told_is requests out e f =
        (λ i. answer.Told ((e ∙ mapped-twice (λ (o : Origin). o.request) (λ (q : Entered). q.origin) due) i) (acks out f i))
        ∙ sym (ap answer_of (collected conn s l up))

    pub source_is : (t : LiveSource) (out : List ℕ)
        → out ≡ concat (map (λ o. ack_asked (chunk_at l.output.book.requests o)) origins)
        → t ≡ source_appends s out
        → t ≡ (state_of {S = LiveSource × LiveLane} (s, l) comes).0
    source_is t out f e = e ∙ ap (source_appends s) (acks out f) ∙ sym (ap (λ x. (state_of {S = LiveSource × LiveLane} (s, l) x).0) (collected conn s l up))

  pub lane_is : (m : LiveLane) (rs : List Receipt)
      → rs ≡ map (receipt_of l.output.book.settled) due
      → live_leaves l.output.book origins ≡ live_tells_due l.output.book conn
      → m ≡ with_live_book l (live_leaves l.output.book (map (λ r. r.origin) rs))
      → m ≡ (state_of {S = LiveSource × LiveLane} (s, l) comes).1
  lane_is m rs all law f =
      f ∙ ap (λ os. with_live_book l (live_leaves l.output.book os)) (ap (map (λ (r : Receipt). r.origin)) all ∙ mapped-twice (λ (r : Receipt). r.origin) (receipt_of l.output.book.settled) due)
      ∙ ap (with_live_book l) law
      ∙ sym (ap (λ x. (state_of {S = LiveSource × LiveLane} (s, l) x).1) (collected conn s l up))

  -- ---- where nothing is due

  module _ (none : due ≡ []) where
    pub nothing_told : answer.Told [] [] ≡ answer_of comes
    nothing_told = (λ i. answer.Told (numbers_of (sym none i)) (acks_of (sym none i))) ∙ sym (ap answer_of (collected conn s l up))

    pub source_stays : s ≡ (state_of {S = LiveSource × LiveLane} (s, l) comes).0
    source_stays =
        (λ i. record s { unsent = sym (append-nil s.unsent) i })
        ∙ (λ i. source_appends s (acks_of (sym none i)))
        ∙ sym (ap (λ x. (state_of {S = LiveSource × LiveLane} (s, l) x).0) (collected conn s l up))

    pub lane_stays : live_leaves l.output.book origins ≡ live_tells_due l.output.book conn
        → live_leaves l.output.book [] ≡ l.output.book
        → l ≡ (state_of {S = LiveSource × LiveLane} (s, l) comes).1
    lane_stays law same =
        (λ i. with_live_book l (sym same i))
        ∙ (λ i. with_live_book l (live_leaves l.output.book (map (λ (q : Entered). q.origin) (sym none i))))
        ∙ ap (with_live_book l) law
        ∙ sym (ap (λ x. (state_of {S = LiveSource × LiveLane} (s, l) x).1) (collected conn s l up))
