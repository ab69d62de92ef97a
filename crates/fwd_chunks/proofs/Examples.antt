-- The definitions at work: small buffers, from their first entry to the last.
use Rattle.std.proofs.Common.{◌≡◌, ℕ, List, [], ◌∷◌, Some, None, refl, arith}
use Rattle.std.specs.Prelude.{replicate}
use Rattle.fwd_modes.specs.declared.origin.Origin.{Origin}
use Rattle.fwd_modes.specs.Requests.{Request}
use Rattle.fwd_chunks.specs.declared.flush.FlushKind.TheVariants.{Due, All}
use Rattle.fwd_chunks.specs.declared.fault.AdmitError.TheVariants.{Full, NumbersSpent}
use Rattle.fwd_chunks.specs.declared.chunk_state.ChunkState.TheVariants.{Closed}
use Rattle.fwd_chunks.specs.declared.wanted.Wanted.TheVariants.{Any, Fresh}
use Rattle.fwd_base.specs.Waits.{wait_after}
use Rattle.fwd_chunks.specs.Cells.{contents}
use Rattle.fwd_chunks.specs.History.{BufferSetting, BufferHistory, opening, adds, enters, refusal, spans_of, closing, flushes, given, given_for, looks, takes, settles, counts}
use Rattle.fwd_chunks.specs.Events.{Enter, Flush, Take, Free, history_after}
use Rattle.fwd_chunks.specs.Live.{live_buffer}

-- limits in bytes, an interval of a second, waits of half a second to four
abbrev setting : ℕ → ℕ → ℕ → BufferSetting
setting chunk total first = record {
  limits = record { chunk = chunk; total = total; interval = 1000; retry_wait = 500; retry_max = 4000; first = first; bounded = omega arith };
  run = replicate 6 0;
  output = 0;
}

abbrev from : ℕ → Origin
from conn = record { conn = conn; request = 1 }

-- an entry of three bytes, and one of four
abbrev three : List ℕ
three = 0x92 ∷ 0x01 ∷ 0x80 ∷ []

abbrev four : List ℕ
four = 0x92 ∷ 0xcc ∷ 0x80 ∷ 0x80 ∷ []

abbrev of : ℕ → List (List ℕ) → Request
of tag entries = record { tag = tag ∷ []; entries = entries; chunk = None }

-- ---- two requests of one tag, from two connections, share a chunk

abbrev shared : BufferHistory
shared = enters (enters (opening (setting 1000 100000 1)) (from 1) (of 97 (three ∷ [])) 0) (from 2) (of 97 (three ∷ [])) 0

shared_contents : contents 1 shared.cells ≡ three ∷ three ∷ []
unfolding adds
shared_contents = refl

shared_spans : spans_of (enters (opening (setting 1000 100000 1)) (from 1) (of 97 (three
    ∷ [])) 0) (from 2) (of 97 (three ∷ [])) 0
    ≡ record { number = 1; from = 1; count = 1 } ∷ []
unfolding adds
shared_spans = refl

shared_closing : closing shared 0 All ≡ 1 ∷ []
unfolding adds
shared_closing = refl

-- ---- a chunk limit of 6 bytes: two entries go into one chunk, and the third into the next

abbrev split : BufferHistory
split = enters (opening (setting 6 100000 1)) (from 1) (of 97 (three ∷ three ∷ three ∷ [])) 0

split_spans : spans_of (opening (setting 6 100000 1)) (from 1) (of 97 (three ∷ three ∷ three
    ∷ [])) 0
    ≡ record { number = 1; from = 0; count = 2 } ∷ record { number = 2; from = 0; count = 1 } ∷ []
unfolding adds
split_spans = refl

-- the first chunk was closed when the second began
split_closing : closing split 0 All ≡ 2 ∷ []
unfolding adds
split_closing = refl

split_given : given (looks (takes (flushes split 0 All) 0 Any 0) 0) ≡ Some 2
unfolding adds wait_after
split_given = refl

-- the second chunk is settled first
split_settled : counts (settles (takes (takes (flushes split 0 All) 0 Any 0) 1 Any 0) 2)
    ≡ record { accepted = 3; settled = 1; held = 2; bytes = 6; chunks = 1 }
unfolding adds wait_after
split_settled = refl

-- ---- an entry above the chunk limit has a chunk of its own

abbrev large : BufferHistory
large = enters (enters (opening (setting 2 100000 1)) (from 1) (of 97 (three ∷ [])) 0) (from 1) (of 97 (three ∷ [])) 0

large_contents : (contents 1 large.cells ≡ three ∷ [])
    × (contents 2 large.cells ≡ three ∷ [])
unfolding adds
large_contents = (refl, refl)

-- ---- a total limit of 6 bytes

abbrev held : BufferHistory
held = enters (opening (setting 1000 6 1)) (from 1) (of 97 (three ∷ [])) 0

full : refusal held (from 2) (of 97 (four ∷ [])) 0 ≡ Some Full
unfolding adds
full = refl

not_full : refusal held (from 3) (of 97 (three ∷ [])) 0 ≡ None
unfolding adds
not_full = refl

-- ---- the last number

abbrev last : BufferSetting
last = setting 2 100000 18446744073709551615

last_taken : refusal (opening last) (from 1) (of 97 (three ∷ [])) 0 ≡ None
unfolding adds
last_taken = refl

spent : refusal (enters (opening last) (from 1) (of 97 (three ∷ [])) 0) (from 1) (of 97 (three
    ∷ [])) 0 ≡ Some NumbersSpent
unfolding adds
spent = refl

-- Full comes before NumbersSpent
full_first : refusal (enters (opening (setting 2 4 18446744073709551615)) (from 1) (of 97 (three
    ∷ [])) 0) (from 1) (of 97 (three ∷ [])) 0 ≡ Some Full
unfolding adds
full_first = refl

-- ---- tags are never mixed, and a tag keeps its open chunk while another begins one

mixed : spans_of (enters (enters (opening (setting 1000 100000 1)) (from 1) (of 97 (three
    ∷ [])) 0) (from 1) (of 98 (three ∷ [])) 0) (from 1) (of 97 (three ∷ three ∷ [])) 0
    ≡ record { number = 1; from = 1; count = 2 } ∷ []
unfolding adds
mixed = refl

-- ---- an interval of a second

not_due : closing shared 999 Due ≡ []
unfolding adds
not_due = refl

due : closing shared 1000 Due ≡ 1 ∷ []
unfolding adds
due = refl

-- ---- a loss: the chunk waits half a second, and then a whole one

abbrev lost : BufferHistory
lost = history_after (opening (setting 1000 100000 1)) (Enter (from 1) (of 97 (three ∷ [])) 0 ∷ Flush 0 All ∷ Take 0 Any 0 ∷ Free 1 (Some 2000) ∷ [])

waits : given (looks lost 2499) ≡ None
unfolding adds wait_after
waits = refl

waited : given (looks lost 2500) ≡ Some 1
unfolding adds wait_after
waited = refl

waits_longer : given (looks (history_after lost (Take 0 Any 2500 ∷ Free 1 (Some 2500) ∷ [])) 3499)
    ≡ None
unfolding adds wait_after
waits_longer = refl

-- one that is given back without a loss is free at once
unharmed : given (history_after (opening (setting 1000 100000 1)) (Enter (from 1) (of 97 (three
    ∷ [])) 0 ∷ Flush 0 All ∷ Take 0 Any 0 ∷ Free 1 None ∷ [])) ≡ Some 1
unfolding adds wait_after
unharmed = refl

-- ---- one that was lost is free again, and a later one was never lost

abbrev two : BufferHistory
two = history_after lost (Enter (from 1) (of 98 (three ∷ [])) 2400 ∷ Flush 2400 All ∷ [])

any_is_first : given_for (looks two 2500) Any ≡ Some 1
unfolding adds wait_after
any_is_first = refl

fresh_is_second : given_for (looks two 2500) Fresh ≡ Some 2
unfolding adds wait_after
fresh_is_second = refl

-- before the wait of the lost one is over, either gives the other
any_is_second : given_for (looks two 2499) Any ≡ Some 2
unfolding adds wait_after
any_is_second = refl

-- where only lost ones are free, none is fresh
lost_is_any : given_for (looks lost 2500) Any ≡ Some 1
unfolding adds wait_after
lost_is_any = refl

lost_is_not_fresh : given_for (looks lost 2500) Fresh ≡ None
unfolding adds wait_after
lost_is_not_fresh = refl

-- one that is given back without a loss is fresh
unharmed_is_fresh : given_for (history_after (opening (setting 1000 100000 1)) (Enter (from 1) (of 97 (three
    ∷ [])) 0 ∷ Flush 0 All ∷ Take 0 Fresh 0 ∷ Free 1 None ∷ [])) Fresh ≡ Some 1
unfolding adds wait_after
unharmed_is_fresh = refl

-- ---- what is kept

kept : (live_buffer lost).chunks
    ≡ record {
      number = 1;
      tag = 97 ∷ [];
      entries = three
          ∷ [];
      since = 0;
      stage = Closed;
      losses = Some (record { count = 1; last = 2000 });
    } ∷ []
unfolding adds wait_after live_buffer
kept = refl

gone : (live_buffer (settles (takes (flushes shared 0 All) 0 Any 0) 1)).chunks ≡ []
unfolding adds wait_after live_buffer
gone = refl
