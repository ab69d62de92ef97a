-- What outputs answer, in several parts.
use Rattle.std.proofs.Common.{arith, ◌≡◌, ◌<◌, ◌+◌, ◌∙◌, ℕ, suc, List, [], ◌∷◌, ◌++◌, Some, None, length, min, refl, sym, ap, subst}
use Rattle.std.specs.Prelude.{map, slice_set}
use Rattle.std.specs.List.{slice_get}
use Rattle.fwd_book.specs.Receipts.{Receipt}
use Rattle.fwd_peers.specs.Costs.{bounded}
use Rattle.fwd_reader.specs.declared.open_tickets.OpenTickets.{OpenTickets}
use Rattle.fwd_reader.specs.Answering.{AnswersBy, AnswersEach, AnswersFirst, AnswersSome, AnswersTimes, Round, added_up}
use Rattle.fwd_reader.specs.Collections.{AreHandedIn, AreRefused}
use Rattle.fwd_reader.specs.OpenTickets.{all_due}
use Rattle.fwd_reader.specs.Owing.{owes_less, upkeep_of}
use Rattle.fwd_reader.specs.Rounds.{ChangesAt}
use Rattle.fwd_reader.specs.Routers.{RouterShown}
use Rattle.fwd_reader.specs.Tellings.{Sources, AreTold}
use Rattle.fwd_reader.proofs.Collecting.{changed_length, set_there, set_twice, some_same}

-- some rounds, and then others
rounds_then : (rounds others : List Round) (s u t : OpenTickets) (told told_u told_t : Sources)
    → AnswersBy rounds s told u told_u → AnswersBy others u told_u t told_t
    → AnswersBy (rounds ++ others) s told t told_t
rounds_then [] others s u t told told_u told_t none more =
    subst (λ x. AnswersBy others x told t told_t) none.0
    (subst (λ x. AnswersBy others u x t told_t) none.1 more)
rounds_then (round ∷ rounds) others s u t told told_u told_t some more = (
  some.0,
  (
    some.1.0,
    (
      some.1.1.0,
      some.1.1.1,
      rounds_then rounds others some.0 u t some.1.0 told_u told_t some.1.1.2 more,
    ),
  ),
)

added_then : (a : ℕ) (rounds others : List Round)
    → added_up a (rounds ++ others) ≡ added_up (added_up a rounds) others
added_then a [] others = refl
added_then a (None ∷ rounds) others = added_then a rounds others
added_then a (Some receipts ∷ rounds) others =
    added_then (bounded (a + upkeep_of receipts)) rounds others

-- what is answered, and then more
pub then_more : (s u t : OpenTickets) (told told_u told_t : Sources) (a b c : ℕ)
    → AnswersSome s told a u told_u b → AnswersSome u told_u b t told_t c
    → AnswersSome s told a t told_t c
then_more s u t told told_u told_t a b c first more = record {
  rounds = first.rounds ++ more.rounds;
  each = rounds_then first.rounds more.rounds s u t told told_u told_t first.each more.each;
  added = more.added ∙ ap (λ n. added_up n more.rounds) first.added
      ∙ sym (added_then a first.rounds more.rounds);
}

-- nothing is answered
pub none_more : (s : OpenTickets) (told : Sources) (a : ℕ) → AnswersSome s told a s told a
none_more s told a = record { rounds = []; each = (refl, refl); added = refl }

-- tickets are handed in, and their receipts are told
pub one_round : (s t : OpenTickets) (told told_t : Sources) (receipts : List Receipt) (a b : ℕ)
    → AreHandedIn s receipts t → AreTold told receipts told_t
    → b ≡ bounded (a + upkeep_of receipts) → AnswersSome s told a t told_t b
one_round s t told told_t receipts a b handed are_told added = record {
  rounds = Some receipts ∷ [];
  each = (t, (told_t, (handed, are_told, (refl, refl))));
  added = added;
}

-- memory is refused for some
pub no_round : (s t : OpenTickets) (told : Sources) (a : ℕ) → AreRefused s t
    → AnswersSome s told a t told a
no_round s t told a refused = record {
  rounds = None ∷ [];
  each = (t, (told, (refused, refl, (refl, refl))));
  added = refl;
}

-- an output answers, and then more
pub at_then : (told told_u told_t : Sources) (a b c : ℕ) (stores between after : List OpenTickets)
    (n : ℕ)
    → ChangesAt (λ s t. AnswersSome s told a t told_u b) stores n between
    → ChangesAt (λ s t. AnswersSome s told_u b t told_t c) between n after
    → ChangesAt (λ s t. AnswersSome s told a t told_t c) stores n after
at_then told told_u told_t a b c stores between after n first more = record {
  store = first.store;
  there = first.there;
  changed = more.changed;
  is = then_more first.store first.changed more.changed told told_u told_t a b c first.is
      (subst (λ s. AnswersSome s told_u b more.changed told_t c) same more.is);
  others = more.others ∙ ap (λ l. slice_set l n more.changed) first.others
      ∙ set_twice stores n first.changed more.changed;
}
  where
    same : more.store ≡ first.changed
    same = some_same more.store first.changed
        (sym more.there ∙ ap (λ l. slice_get l n) first.others
        ∙ set_there stores n first.store first.changed first.there)

-- the same where a router is opened between
pub then_again : (told told_u told_t : Sources) (a b c : ℕ) (stores after : List OpenTickets)
    (o between : RouterShown) (n : ℕ) → o ≡ between → n < length stores
    → ChangesAt (λ s t. AnswersSome s told a t told_u b) stores n between.stores
    → (n < length o.stores → ChangesAt (λ s t. AnswersSome s told_u b t told_t c) o.stores n after)
    → ChangesAt (λ s t. AnswersSome s told a t told_t c) stores n after
then_again told told_u told_t a b c stores after o between n same lt first then_so =
    let count : length between.stores ≡ length stores =
    changed_length (λ s t. AnswersSome s told a t told_u b) stores between.stores n first in
    at_then told told_u told_t a b c stores between.stores after n first
    (subst
    (λ (x : RouterShown). ChangesAt (λ s t. AnswersSome s told_u b t told_t c) x.stores n after) same
    (then_so (omega (arith, count, ap (λ (x : RouterShown). length x.stores) same))))

-- no output answers
pub first_none : (o p : RouterShown) (told : Sources) → p ≡ o → AnswersFirst 0 o told p told
unfolding AnswersFirst
first_none o p told same =
    (ap (λ (x : RouterShown). x.stores) same, ap (λ (x : RouterShown). x.owed) same, refl)

-- one more does, and what it answered is owed no more
pub first_more : (n bytes : ℕ) (o between now p : RouterShown) (told told_between told_then : Sources)
    → AnswersFirst n o told between told_between
    → ChangesAt (λ s t. AnswersSome s told_between 0 t told_then bytes) between.stores n now.stores
    → now.owed ≡ between.owed → p ≡ record now { owed = owes_less n bytes now.owed }
    → AnswersFirst (n + 1) o told p told_then
unfolding AnswersFirst
first_more n bytes o between now p told told_between told_then first at same is =
    let next : suc n ≡ n + 1 = omega arith in
    let stores : p.stores ≡ now.stores = ap (λ (x : RouterShown). x.stores) is in
    subst (λ m. AnswersFirst m o told p told_then) next (
      between,
      (
        told_between,
        (
          first,
          record {
            bytes = bytes;
            answers = subst
                (λ xs. ChangesAt (λ s t. AnswersSome s told_between 0 t told_then bytes)
                between.stores n xs)
                (sym stores) at;
            owed = ap (λ (x : RouterShown). x.owed) is ∙ ap (owes_less n bytes) same;
          },
        ),
      ),
    )

-- each does, once no more are left
pub each : (n : ℕ) (o p : RouterShown) (told told_then : Sources)
    → n ≡ min (length o.stores) 65535 → AnswersFirst n o told p told_then
    → AnswersEach o told p told_then
each n o p told told_then e first = subst (λ m. AnswersFirst m o told p told_then) e first

-- all answer no times
pub no_times : (o p : RouterShown) (told : Sources) → p.stores ≡ map all_due o.stores
    → p.owed ≡ o.owed → AnswersTimes 0 (record o { stores = map all_due o.stores }) told p told
unfolding AnswersTimes
no_times o p told stores owed = (stores, owed, refl)

-- and once more
pub another_time : (n : ℕ) (o between p : RouterShown) (told told_between told_then : Sources)
    → AnswersTimes n o told between told_between → AnswersEach between told_between p told_then
    → AnswersTimes (n + 1) o told p told_then
unfolding AnswersTimes
another_time n o between p told told_between told_then times round =
    let next : suc n ≡ n + 1 = omega arith in
    subst (λ m. AnswersTimes m o told p told_then) next (between, (told_between, (times, round)))
