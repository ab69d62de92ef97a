-- What a link tells of its calls.
use Rattle.std.specs.Prelude.{
  ◌≡◌,
  ◌≤◌,
  ◌<◌,
  ℕ,
  List,
  [],
  ◌∷◌,
  ◌++◌,
  length,
  take,
  Result,
  Ok,
  Err,
  IfOk,
  sum_by,
}
use Rattle.std.specs.List.{flat_map}
use Rattle.fwd_environment.specs.declared.link.Read.{Read}
use Rattle.fwd_environment.specs.declared.link.Read.TheVariants as read
use Rattle.fwd_environment.specs.declared.link.LinkFault.{LinkFault}

-- One call of a link. A write: the bytes that it was asked to take, and what it answered. A read:
-- how many bytes it was asked for at most, what it answered, and the bytes that it gave.
pub data Call : Type 0 where
  DidWrite : (bytes : List ℕ) (answer : Result ℕ LinkFault) → Call
  DidRead : (room : ℕ) (answer : Result Read LinkFault) (bytes : List ℕ) → Call

-- how many bytes a write took
abbrev pub count_written : Result ℕ LinkFault → ℕ
count_written (Ok n) = n
count_written (Err fault) = 0

-- how many bytes a read gave
abbrev pub count_read : Result Read LinkFault → ℕ
count_read (Ok (read.Bytes n)) = n
count_read (Ok read.Nothing) = 0
count_read (Ok read.Closed) = 0
count_read (Err fault) = 0

-- a read into this room, which gave the bytes that then stand at the room's front
abbrev pub read_into : (room : List ℕ) → Result Read LinkFault → Call
read_into room answer = DidRead (length room) answer (take (count_read answer) room)

-- ---- what a link is offered

-- the one write of a turn, of these bytes, and what it was answered; none of no bytes
abbrev pub write_of : (bytes : List ℕ) → Result ℕ LinkFault → List Call
write_of [] answer = []
write_of (byte ∷ bytes) answer = DidWrite (byte ∷ bytes) answer ∷ []

-- so many of the bytes that wait are offered to the link: one at least, where some wait
pub record IsOffer (size : ℕ) (waiting : List ℕ) : Type 0 where
  pub within : size ≤ length waiting
  pub some : 0 < length waiting → 0 < size

-- the link was offered the first bytes of those that wait, of which there are some, and answered
pub record HasOffered (waiting : List ℕ) (before after : List Call)
    (answer : Result ℕ LinkFault) : Type 0 where
  pub size : ℕ
  pub offer : IsOffer size waiting
  pub within : IfOk answer (λ count. count ≤ size)
  pub calls : after ≡ before ++ write_of (take size waiting) answer

-- ---- what a link took and gave

-- the bytes that a call took: so many of those of a write, from their front on
abbrev pub taken_by : Call → List ℕ
taken_by (DidWrite bytes answer) = take (count_written answer) bytes
taken_by (DidRead room answer bytes) = []

-- the bytes that a call gave
abbrev pub given_by : Call → List ℕ
given_by (DidWrite bytes answer) = []
given_by (DidRead room answer bytes) = bytes

-- a call that failed is one failure
abbrev pub failures_by : Call → ℕ
failures_by (DidWrite bytes (Ok count)) = 0
failures_by (DidWrite bytes (Err fault)) = 1
failures_by (DidRead room (Ok got) bytes) = 0
failures_by (DidRead room (Err fault) bytes) = 1

-- all bytes that these calls took
abbrev pub taken_in : List Call → List ℕ
taken_in calls = flat_map taken_by calls

-- all bytes that they gave
abbrev pub given_in : List Call → List ℕ
given_in calls = flat_map given_by calls

-- how many of them failed
abbrev pub failures_in : List Call → ℕ
failures_in calls = sum_by failures_by calls
