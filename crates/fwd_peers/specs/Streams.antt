-- What a stream is seen to do, and what a visit to it comes to.
use Rattle.std.specs.Prelude.{
  ◌≡◌,
  ◌==◌,
  ◌≤◌,
  ◌<◌,
  ◌⊎◌,
  ℕ,
  Bool,
  true,
  false,
  List,
  [],
  ◌∷◌,
  ◌++◌,
  length,
  take,
  Result,
  Ok,
  Err,
  if◌then◌else◌,
}
use Rattle.std.specs.List.{flat_map}
use Rattle.std.specs.IoError.{error_kind}
use Rattle.std.specs.declared.io.ErrorKind.{ErrorKind}
use Rattle.std.specs.declared.io.ErrorKind.TheVariants as kind
use Rattle.std.specs.declared.io.Error.{Error}
use Rattle.fwd_peers.specs.declared.peer_stream.Visit.{Visit}
use Rattle.fwd_peers.specs.declared.peer_stream.Visit.TheVariants as visit

-- One call of a stream. A read: the room that it was to fill, as that is then, and what it
-- answered. A write: the bytes that it was to take, and what it answered.
pub record StreamCall : Type 0 where
  pub bytes : List ℕ
  pub answer : Result ℕ Error

-- it, from its parts
abbrev pub call_of : List ℕ → Result ℕ Error → StreamCall
call_of bytes answer = record { bytes = bytes; answer = answer }

-- what is seen of a stream: all calls that read of it, and all that wrote
pub record StreamShown : Type 0 where
  pub reads : List StreamCall
  pub writes : List StreamCall

-- what an error does to a visit: the stream would wait, the call is made again, or the stream
-- failed
abbrev pub after_error : ErrorKind → Result ℕ Visit
after_error kind.WouldBlock = Err visit.Waits
after_error kind.Interrupted = Ok 0
after_error _ = Err visit.Ended

-- What one answer of a stream does to a visit. So many bytes were moved, and the visit goes on; or
-- it ends so. A call that moves no byte, and is no error, shows that the other side is gone.
abbrev pub after_call : Result ℕ Error → Result ℕ Visit
after_call (Ok count) = if count == 0 then Err visit.Ended else Ok count
after_call (Err error) = after_error (error_kind error)

-- one more call was made, and this is what its answer did to the visit
pub record IsCall (before : List StreamCall) (bytes : List ℕ) (what : Result ℕ Visit)
    (after : List StreamCall) : Type 0 where
  pub answer : Result ℕ Error
  pub told : after ≡ before ++ call_of bytes answer ∷ []
  pub came : what ≡ after_call answer

-- so many of these bytes, from their front on; none where the visit ends
abbrev pub front_of : List ℕ → Result ℕ Visit → List ℕ
front_of bytes (Ok count) = take count bytes
front_of bytes (Err end) = []

-- the bytes that a call moved
abbrev pub moved_by : StreamCall → List ℕ
moved_by call = front_of call.bytes (after_call call.answer)

-- all bytes that calls moved
abbrev pub moved_in : List StreamCall → List ℕ
moved_in calls = flat_map moved_by calls

-- how a visit ends after an answer: so, or as what comes later has it
abbrev pub ends_after : Result ℕ Visit → Visit → Visit
ends_after (Ok count) later = later
ends_after (Err end) later = end

-- how a visit of these calls ended: as the first of them has it that ends a visit; and where none
-- does, there may be more
abbrev pub end_of : List StreamCall → Visit
end_of [] = visit.Full
end_of (call ∷ calls) = ends_after (after_call call.answer) (end_of calls)

-- One visit to a stream, to move so many bytes at most: further calls were made, these are all
-- bytes that they moved, and so they ended. It is made to its end: where no call ended it, all the
-- bytes were moved, or there were as many calls as bytes.
pub record IsVisit (most : ℕ) (before : List StreamCall) (bytes : List ℕ) (end : Visit)
    (after : List StreamCall) : Type 0 where
  pub calls : List StreamCall
  pub told : after ≡ before ++ calls
  pub moved : bytes ≡ moved_in calls
  pub ended : end ≡ end_of calls
  pub whole : end ≡ visit.Full → (length bytes ≡ most) ⊎ (most ≤ length calls)

-- A visit that reads stopped, to wait, behind a read that gave bytes and did not fill its room: no
-- more were there, and the stream tells of itself once there are. No call ended it.
pub record StopsShort (before : List StreamCall) (bytes : List ℕ)
    (after : List StreamCall) : Type 0 where
  pub calls : List StreamCall
  pub last : StreamCall
  pub told : after ≡ before ++ (calls ++ last ∷ [])
  pub moved : bytes ≡ moved_in (calls ++ last ∷ [])
  pub going : end_of (calls ++ last ∷ []) ≡ visit.Full
  pub some : 0 < length (moved_by last)
  pub short : length (moved_by last) < length last.bytes

-- One visit that reads so many bytes at most: it is made to its end, or it stops short. It does not
-- where it is to be made to its end.
abbrev pub IsReading : (to_end : Bool) (most : ℕ) (before : List StreamCall) (bytes : List ℕ)
    (end : Visit) (after : List StreamCall) → Type 0
IsReading to_end most before bytes end after =
    IsVisit most before bytes end after
    ⊎ ((to_end ≡ false) × (end ≡ visit.Waits) × StopsShort before bytes after)

-- there may be more bytes after a visit that ended so
abbrev pub is_full : Visit → Bool
is_full visit.Waits = false
is_full visit.Full = true
is_full visit.Ended = false
