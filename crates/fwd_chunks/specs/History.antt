-- The history of one output's buffer, with nothing removed: what each event asks of it, and what
-- it changes.
use Rattle.std.specs.Prelude.{
  ◌≡◌,
  ◌≤◌,
  ℕ,
  ◌+◌,
  ◌^◌,
  ◌&&◌,
  ◌||◌,
  ◌==◌,
  max,
  min,
  nat_le,
  nat_lt,
  Bool,
  true,
  false,
  not,
  List,
  [],
  ◌∷◌,
  ◌++◌,
  length,
  drop,
  filter,
  find,
  Option,
  Some,
  None,
  if◌then◌else◌,
}
use Rattle.fwd_modes.specs.Requests.{Request}
use Rattle.fwd_modes.specs.Frames.{chunk_name}
use Rattle.fwd_modes.specs.declared.origin.Origin.{Origin}
use Rattle.fwd_chunks.specs.declared.limits.BufferLimits.{BufferLimits}
use Rattle.fwd_chunks.specs.declared.flush.FlushKind.{FlushKind}
use Rattle.fwd_chunks.specs.declared.flush.FlushKind.TheVariants.{Due, All}
use Rattle.fwd_chunks.specs.declared.wanted.Wanted.{Wanted}
use Rattle.fwd_chunks.specs.declared.wanted.Wanted.TheVariants.{Any, Fresh}
use Rattle.fwd_base.specs.declared.counts.Counts.{Counts}
use Rattle.fwd_chunks.specs.declared.span.Span.{Span}
use Rattle.fwd_chunks.specs.declared.fault.AdmitError.{AdmitError}
use Rattle.fwd_chunks.specs.declared.fault.AdmitError.TheVariants.{Full, NumbersSpent}
use Rattle.fwd_base.specs.Waits.{wait_after}
use Rattle.fwd_chunks.specs.Cells.{
  Cell,
  Loss,
  Carry,
  size_of,
  entries_of,
  cells_at,
  contents,
  first_tag,
  has_number,
  numbers_of,
  has_entry,
  last_number,
  greatest,
  number_after,
  is_carried,
  without,
  losses_of,
}

-- what a buffer is set to: its limits, and the run and the output that its chunks' names tell
pub record BufferSetting : Type 0 where
  pub limits : BufferLimits
  pub run : List ℕ
  pub output : ℕ

-- every entry ever admitted, in order; the numbers that may take more; those that a server
-- acknowledged; every loss, the newest first; who has which number; and the greatest moment
-- handed in
pub record BufferHistory : Type 0 where
  pub setting : BufferSetting
  pub cells : List Cell
  pub opened : List ℕ
  pub acknowledged : List ℕ
  pub losses : List Loss
  pub carried : List Carry
  pub moment : ℕ

-- before any event
abbrev pub opening : BufferSetting → BufferHistory
opening setting = record {
  setting = setting;
  cells = [];
  opened = [];
  acknowledged = [];
  losses = [];
  carried = [];
  moment = 0;
}

-- ---- joining

-- the next number that no entry has
abbrev pub next_number : BufferHistory → ℕ
next_number h = number_after h.setting.limits.first (greatest h.cells)

-- the number may take the entry: it is open, and its bytes with the entry are within the chunk
-- limit
abbrev pub has_room : BufferHistory → List ℕ → ℕ → Bool
has_room h entry number =
    has_number number h.opened
    && nat_le (size_of (contents number h.cells) + length entry) h.setting.limits.chunk

-- a new entry takes the number of its tag's last one where that may take it, and else the next
abbrev pub joined_to : BufferHistory → List ℕ → Option ℕ → ℕ
joined_to h entry None = next_number h
joined_to h entry (Some number) = if has_room h entry number then number else next_number h

-- the number that a new entry of the tag takes
abbrev pub joins : BufferHistory → List ℕ → List ℕ → ℕ
joins h tag entry = joined_to h entry (last_number tag h.cells)

-- the entry is admitted: its number is open, and no other number of its tag is
unfoldable pub adds : BufferHistory → List ℕ → Origin → List ℕ → BufferHistory
adds h tag origin entry =
    let number = joins h tag entry in
    record h {
      cells = h.cells
          ++ record {
            tag = tag;
            entry = entry;
            origin = origin;
            number = number;
            moment = h.moment;
          } ∷ [];
      opened = number ∷ filter (λ k. not (has_entry tag k h.cells)) h.opened;
    }

-- one entry after the other
abbrev pub adds_all : BufferHistory → List ℕ → Origin → List (List ℕ) → BufferHistory
adds_all h tag origin [] = h
adds_all h tag origin (entry ∷ entries) = adds_all (adds h tag origin entry) tag origin entries

-- a moment is handed in: a smaller one counts as the greatest so far
abbrev pub looks : BufferHistory → ℕ → BufferHistory
looks h now = record h { moment = max h.moment now }

-- a request is entered at a moment
abbrev pub enters : BufferHistory → Origin → Request → ℕ → BufferHistory
enters h origin r now = adds_all (looks h now) r.tag origin r.entries

-- ---- what a request is answered

-- the entries that are not settled
abbrev pub unsettled : BufferHistory → List Cell
unsettled h = filter (λ c. not (has_number c.number h.acknowledged)) h.cells

-- the bytes of all that is not settled, with the request's, are more than the total limit
abbrev pub is_full : BufferHistory → Request → Bool
is_full h r = nat_lt h.setting.limits.total (size_of (entries_of (unsettled h)) + size_of r.entries)

-- there are more numbers, or more entries, than 64 bits count
abbrev pub is_spent : BufferHistory → Bool
is_spent h = nat_lt (2 ^ 64) (next_number h) || nat_le (2 ^ 64) (length h.cells)

-- why a request is refused, if it is
abbrev pub refusal : BufferHistory → Origin → Request → ℕ → Option AdmitError
refusal h origin r now =
    if is_full h r then Some Full
    else if is_spent (enters h origin r now) then Some NumbersSpent
    else None

-- an entry before runs: it belongs to the first of them where that has its number
abbrev pub before_runs : Span → List Span → List Span
before_runs s [] = s ∷ []
before_runs s (t ∷ runs) =
    if s.number == t.number
    then record { number = s.number; from = s.from; count = s.count + t.count } ∷ runs
    else s ∷ t ∷ runs

-- the runs of cells that came after others: in which chunk, from which place in it on, and how many
abbrev pub runs_after : List Cell → List Cell → List Span
runs_after others [] = []
runs_after others (c ∷ cells) =
    before_runs (record {
      number = c.number;
      from = length (cells_at c.number others);
      count = 1;
    }) (runs_after (others ++ c ∷ []) cells)

-- the spans of a request are the runs of its own entries
abbrev pub spans_of : BufferHistory → Origin → Request → ℕ → List Span
spans_of h origin r now = runs_after h.cells (drop (length h.cells) (enters h origin r now).cells)

-- ---- flushing

-- the first entry of the number is at least so old
abbrev pub is_old : ℕ → ℕ → Option Cell → Bool
is_old interval moment None = false
is_old interval moment (Some c) = nat_le (c.moment + interval) moment

-- a flush closes the number, if it is open
abbrev pub closes : BufferHistory → FlushKind → ℕ → Bool
closes h All number = true
closes h Due number =
    is_old h.setting.limits.interval h.moment (find (λ c. c.number == number) h.cells)

-- the open numbers that a flush closes
abbrev pub closing : BufferHistory → ℕ → FlushKind → List ℕ
closing h now kind =
    filter (λ k. has_number k h.opened && closes (looks h now) kind k) (numbers_of h.cells)

-- the numbers that a flush closes are open no more
abbrev pub flushes : BufferHistory → ℕ → FlushKind → BufferHistory
flushes h now kind =
    record h {
      opened = filter (λ k. not (closes (looks h now) kind k)) h.opened;
      moment = max h.moment now;
    }

-- ---- taking

-- a number with these losses, the newest first, may be tried: its wait after the newest is over
abbrev pub is_over : BufferLimits → List ℕ → ℕ → Bool
is_over limits [] moment = true
is_over limits (newest ∷ older) moment =
    nat_le (newest + wait_after limits.retry_wait limits.retry_max (length (newest
    ∷ older))) moment

-- a number is free: it has entries and is closed, no server acknowledged it, no worker has it,
-- and no loss holds it back
abbrev pub is_free : BufferHistory → ℕ → Bool
is_free h number =
    has_number number (numbers_of h.cells)
    && (not (has_number number h.opened)
    && (not (has_number number h.acknowledged)
    && (not (is_carried number h.carried)
    && is_over h.setting.limits (losses_of number h.losses) h.moment)))

-- the lesser of two, the second of which may be missing
abbrev pub lesser : ℕ → Option ℕ → ℕ
lesser n None = n
lesser n (Some m) = min n m

-- the least of numbers, if there is one
abbrev pub least : List ℕ → Option ℕ
least [] = None
least (n ∷ numbers) = Some (lesser n (least numbers))

-- the number that is given to a worker: the least that is free
abbrev pub given : BufferHistory → Option ℕ
given h = least (filter (is_free h) (numbers_of h.cells))

-- The same in a relation: the number is free, and no free number is below it; where there is
-- none, no number is free.
abbrev pub IsGiven : BufferHistory → Option ℕ → Type 0
IsGiven h None = (k : ℕ) → is_free h k ≡ false
IsGiven h (Some number) =
    (is_free h number ≡ true) × ((k : ℕ) → is_free h k ≡ true → number ≤ k)

-- the moment at which a chunk's wait has to be over: the greatest so far; or the very first, where
-- only a chunk is wanted that no loss ever held back
abbrev pub moment_for : Wanted → ℕ → ℕ
moment_for Any moment = moment
moment_for Fresh moment = 0

-- the history as it is asked for what is wanted
abbrev pub asked_for : BufferHistory → Wanted → BufferHistory
asked_for h wanted = record h { moment = moment_for wanted h.moment }

-- the least number that is free for what is wanted
abbrev pub given_for : BufferHistory → Wanted → Option ℕ
given_for h wanted = given (asked_for h wanted)

-- a worker has the number, if there is one
abbrev pub carry_more : ℕ → Option ℕ → List Carry → List Carry
carry_more worker None carried = carried
carry_more worker (Some number) carried =
    carried ++ record { worker = worker; number = number } ∷ []

-- a worker takes at a moment what is given for what it wants
abbrev pub takes : BufferHistory → ℕ → Wanted → ℕ → BufferHistory
takes h worker wanted now =
    record h {
      carried = carry_more worker (given_for (looks h now) wanted) h.carried;
      moment = max h.moment now;
    }

-- ---- giving back

-- what a worker has of a chunk: its number, its tag, its entries in order, and its name
pub record CarriedChunk : Type 0 where
  pub number : ℕ
  pub tag : List ℕ
  pub entries : List (List ℕ)
  pub name : List ℕ

-- the chunk of a number
abbrev pub carried_chunk_of : BufferHistory → ℕ → CarriedChunk
carried_chunk_of h number = record {
  number = number;
  tag = first_tag (cells_at number h.cells);
  entries = contents number h.cells;
  name = chunk_name h.setting.run h.setting.output number;
}

-- the chunk is one of this buffer, and a worker has it
pub record IsCarried (h : BufferHistory) (load : CarriedChunk) : Type 0 where
  pub carried : is_carried load.number h.carried ≡ true
  pub same : load ≡ carried_chunk_of h load.number

-- a server acknowledged the number
abbrev pub settles : BufferHistory → ℕ → BufferHistory
settles h number =
    record h { acknowledged = h.acknowledged ++ number ∷ []; carried = without number h.carried }

-- the number is given back, with a loss at a moment where one is handed in
abbrev pub frees : BufferHistory → ℕ → Option ℕ → BufferHistory
frees h number None = record h { carried = without number h.carried }
frees h number (Some now) = record h {
  carried = without number h.carried;
  losses = record { number = number; moment = max h.moment now } ∷ h.losses;
  moment = max h.moment now;
}

-- ---- counts

-- the entries ever accepted, the settled ones, those held, the bytes held, and the chunks that
-- hold them
abbrev pub counts : BufferHistory → Counts
counts h = record {
  accepted = length h.cells;
  settled = length (filter (λ c. has_number c.number h.acknowledged) h.cells);
  held = length (unsettled h);
  bytes = size_of (entries_of (unsettled h));
  chunks = length (numbers_of (unsettled h));
}
