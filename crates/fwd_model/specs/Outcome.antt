-- What an event comes to: it is answered, and the state stays as it was, or goes on to another.
use Rattle.std.specs.Prelude.{ℕ, Bool, true, false, List, [], ◌∷◌, length, Option, Some, None}
use Rattle.fwd_modes.specs.Requests.{Request}
use Rattle.fwd_source.specs.declared.piece.Piece.{Piece}
use Rattle.fwd_source.specs.declared.piece.Piece.TheVariants as told
use Rattle.fwd_session.specs.declared.told.SessionHeard.{SessionHeard}
use Rattle.fwd_session.specs.declared.told.SessionHeard.TheVariants as heard
use Rattle.fwd_chunks.specs.declared.fault.AdmitError.{AdmitError}
use Rattle.fwd_chunks.specs.declared.fault.AdmitError.TheVariants as unfit
use Rattle.fwd_chunks.specs.History.{CarriedChunk}
use Rattle.fwd_model.specs.declared.answer.Answer.{Answer}
use Rattle.fwd_model.specs.declared.answer.Answer.TheVariants as answer
use Rattle.fwd_model.specs.declared.fault.Refusal.{Refusal}
use Rattle.fwd_model.specs.declared.fault.Refusal.TheVariants.{Closed, NotUp}

infixr 1 ◌>>=◌ ◌>>◌
-- an answer where the state stays, or an answer and the next state
pub data Outcome (S : Type 0) : Type 0 where
  Stays : Answer → Outcome S
  Goes : Answer → S → Outcome S

-- the answer, either way
abbrev pub answer_of : {S : Type 0} → Outcome S → Answer
answer_of (Stays a) = a
answer_of (Goes a s) = a

-- the state afterwards, where it was this one before
abbrev pub state_of : {S : Type 0} → S → Outcome S → S
state_of before (Stays a) = before
state_of before (Goes a s) = s

-- what comes of a part, said of the whole that the part is put into
abbrev pub within : {S T : Type 0} → (S → T) → Outcome S → Outcome T
within put (Stays a) = Stays a
within put (Goes a s) = Goes a (put s)

-- a check in front of an outcome: the event is refused, or goes on with what was found
pub data Check (X : Type 0) : Type 0 where
  Fails : Refusal → Check X
  Passes : X → Check X

-- the check, and then what is done with what it found
abbrev pub ◌>>=◌ : {X S : Type 0} → Check X → (X → Outcome S) → Outcome S
◌>>=◌ (Fails why) then = Stays (answer.Refused why)
◌>>=◌ (Passes x) then = then x

-- the check, and then the rest
abbrev pub ◌>>◌ : {S : Type 0} → Check (Unit {0}) → Outcome S → Outcome S
◌>>◌ (Fails why) then = Stays (answer.Refused why)
◌>>◌ (Passes x) then = then

-- what there is, or the refusal
abbrev pub found : {X : Type 0} → Option X → Refusal → Check X
found None why = Fails why
found (Some x) why = Passes x

-- the refusal where the test holds
abbrev pub refuse_if : Bool → Refusal → Check (Unit {0})
refuse_if true why = Fails why
refuse_if false why = Passes tt

-- an answer that says that nothing has changed
abbrev pub is_refusal : Answer → Bool
is_refusal (answer.Refused why) = true
is_refusal answer.Memory = true
is_refusal _ = false

-- ---- what a part answers, as an answer of the relay

-- a piece is refused once the source is closed; else its fault is told, or how many requests
-- wait, and the PONG
abbrev pub of_piece : {S : Type 0} → Piece → ℕ → List ℕ → S → Outcome S
of_piece told.Closed count out s = Stays (answer.Refused Closed)
of_piece (told.Waiting waiting) count out s = Goes (answer.Requests waiting out) s
of_piece (told.Fault fault) count out s = Goes (answer.Faulted fault count out) s

-- bytes are refused once the session is down; else it is told what they did, and the PING that
-- they brought
abbrev pub of_heard : {S : Type 0} → SessionHeard → List ℕ → S → Outcome S
of_heard heard.NotUp out s = Stays (answer.Refused NotUp)
of_heard heard.Quiet out s = Goes (answer.Quiet out) s
of_heard heard.Ready out s = Goes (answer.Ready out) s
of_heard heard.Acked out s = Goes (answer.Acked out) s
of_heard (heard.Fault f) out s = Goes (answer.SessionFaulted f) s

-- a request that its output has no place for, and that its source is shut
abbrev pub of_fault : {S : Type 0} → AdmitError → S → Outcome S
of_fault unfit.Full s = Goes answer.Full s
of_fault unfit.NumbersSpent s = Goes answer.NumbersSpent s
of_fault unfit.Memory s = Stays answer.Memory

-- the first request that waits
abbrev pub first_of : List Request → Option Request
first_of [] = None
first_of (q ∷ qs) = Some q

-- what is told of the least free chunk
abbrev pub chunk_answer : Option CarriedChunk → Answer
chunk_answer None = answer.TookNothing
chunk_answer (Some c) = answer.Took c.number (length c.entries)
