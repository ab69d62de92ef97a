-- The definitions at work on a request that two chunks share.
use Rattle.std.proofs.Common.{◌≡◌, [], ◌∷◌, List, ℕ, Some, None, refl}
use Rattle.fwd_modes.specs.declared.origin.Origin.{Origin}
use Rattle.fwd_session.specs.ServerAcks.{ServerAck}
use Rattle.fwd_book.specs.History.{Entered, BookHistory, opening, enters, settles, leaves, tells, forgets, untold}
use Rattle.fwd_book.specs.Receipts.{receipts}
use Rattle.fwd_book.specs.Live.{live_book, live_opening}

abbrev origin_at : ℕ → Origin
origin_at n = record { conn = 1; request = n }

abbrev entry : ℕ → List ℕ
entry n = n ∷ []

-- the first request's three entries went into the numbers 1 and 2, the second's one behind them
abbrev split_one : Entered
split_one = record {
  origin = origin_at 1;
  tag = 97 ∷ [];
  entries = entry 1 ∷ entry 2 ∷ entry 3 ∷ [];
  chunk = Some (120 ∷ []);
  spans = record { number = 1; from = 0; count = 2 } ∷ record { number = 2; from = 0; count = 1 } ∷ [];
}

abbrev next_one : Entered
next_one = record {
  origin = origin_at 2;
  tag = 97 ∷ [];
  entries = entry 4 ∷ [];
  chunk = None;
  spans = record { number = 2; from = 1; count = 1 } ∷ [];
}

abbrev chunk_one : ServerAck
chunk_one = record { number = 1; tag = 97 ∷ []; entries = entry 1 ∷ entry 2 ∷ []; server = 0; reply = [] }

abbrev chunk_two : ServerAck
chunk_two = record { number = 2; tag = 97 ∷ []; entries = entry 3 ∷ entry 4 ∷ []; server = 0; reply = [] }

abbrev both : BookHistory
both = enters (enters (opening (record { run = []; output = 0 })) split_one) next_one

abbrev after_two : BookHistory
after_two = settles both chunk_two

abbrev after_both : BookHistory
after_both = settles after_two chunk_one

-- the second request is settled with number 2, the first waits for number 1
second_first : receipts after_two.settled (untold after_two) (origin_at 1 ∷ origin_at 2 ∷ [])
    ≡ record {
      origin = origin_at 2;
      tag = 97 ∷ [];
      entries = entry 4 ∷ [];
      chunk = None;
      parts = record { evidence = chunk_two; from = 1; count = 1 } ∷ [];
    } ∷ []
second_first = refl

-- then both have their receipts, in the order that they are asked in, each once
both_at_last : receipts after_both.settled (untold after_both)
    (origin_at 2 ∷ origin_at 1 ∷ origin_at 2 ∷ origin_at 3 ∷ [])
    ≡ record {
      origin = origin_at 2;
      tag = 97 ∷ [];
      entries = entry 4 ∷ [];
      chunk = None;
      parts = record { evidence = chunk_two; from = 1; count = 1 } ∷ [];
    } ∷ record {
      origin = origin_at 1;
      tag = 97 ∷ [];
      entries = entry 1 ∷ entry 2 ∷ entry 3 ∷ [];
      chunk = Some (120 ∷ []);
      parts = record { evidence = chunk_one; from = 0; count = 2 } ∷ record
          { evidence = chunk_two; from = 0; count = 1 } ∷ [];
    } ∷ []
both_at_last = refl

-- what nobody is owed any more is not kept
two_is_needed : live_book (tells after_both (origin_at 2 ∷ []))
    ≡ record {
      setting = record { run = []; output = 0 };
      requests = split_one ∷ [];
      settled = chunk_one
          ∷ chunk_two ∷ [];
    }
unfolding live_book leaves
two_is_needed = refl

none_is_needed : live_book (forgets after_both (origin_at 1 ∷ origin_at 2 ∷ []))
    ≡ live_opening (record { run = []; output = 0 })
unfolding live_book leaves
none_is_needed = refl

-- a forgotten request is told no more
forgotten : receipts after_both.settled (untold (forgets after_both (origin_at 1 ∷ [])))
    (origin_at 1 ∷ [])
    ≡ []
unfolding leaves
forgotten = refl
