-- What the parts of a hearing show, in the words of the definitions.
use Rattle.std.specs.Prelude.{◌≡◌, ℕ, Bool, true, false, List, [], ◌∷◌, ◌++◌, map, remove, take, slice_get, Some, None, unwrap_or}
use Rattle.std.specs.List.{list_any}
use Rattle.std.specs.Arc.{arc_value}
use Rattle.fwd_modes.specs.Acks.{ack_name}
use Rattle.fwd_session.specs.declared.handshake.Handshake.{Handshake}
use Rattle.fwd_session.specs.declared.hearing.Ack.{Ack}
use Rattle.fwd_session.specs.declared.hearing.Hearing.{Hearing}
use Rattle.fwd_session.specs.declared.verdict.Verdict.{Verdict}
use Rattle.fwd_session.specs.declared.verdict.Verdict.TheVariants as verdict
use Rattle.fwd_session.specs.ServerAcks.{IsBacked}
use Rattle.fwd_session.specs.Said.{Word, Said, names}
use Rattle.fwd_session.specs.Said.Word.{Skipped, Greets, Acks, Fails}
use Rattle.fwd_session.specs.Flights.{PendingChunk}

-- ---- one value

-- what a verdict says
abbrev pub word_in : Verdict → Word
word_in verdict.Skipped = Skipped
word_in (verdict.Greets out next) = Greets out next
word_in (verdict.Acks place) = Acks
word_in (verdict.Fails f) = Fails f

-- the handshake goes on by a verdict
abbrev pub is_greeting : Verdict → Bool
is_greeting (verdict.Greets out next) = true
is_greeting _ = false

-- the first member of a list that passes a test is this one, at this place
pub record IsFirst {A : Type 0} (test : A → Bool) (xs : List A) (place : ℕ) (x : A) : Type 0 where
  pub there : slice_get xs place ≡ Some x
  pub passes : test x ≡ true
  pub before : list_any test (take place xs) ≡ false

-- a value acknowledges this one of the chunks that are awaited
pub record IsAckedAt (pending : List PendingChunk) (value : List ℕ) (place : ℕ) : Type 0 where
  pub one : PendingChunk
  pub first : IsFirst (λ p. names value p.chunk.name) pending place one
  pub handed_on : one.is_handed_on ≡ true
  pub named : ack_name value ≡ Some one.chunk.name

-- where a verdict says that a value acknowledges one, it does
abbrev pub Points : List PendingChunk → (value : List ℕ) → Verdict → Type 0
Points pending value (verdict.Acks place) = IsAckedAt pending value place
Points pending value _ = Unit {0}

-- ---- many values

-- an acknowledgement is of one of the chunks that are awaited
pub record IsAckOf (server : ℕ) (pending : List PendingChunk) (a : Ack) : Type 0 where
  pub acked : IsAckedAt pending (arc_value a.acked).reply a.place
  pub backed : IsBacked server (arc_value a.acked) acked.one.chunk

-- acknowledgements, each of one of those that are left by the ones before it
abbrev pub AreAcksOf : (server : ℕ) → List PendingChunk → List Ack → Type 0
AreAcksOf server pending [] = Unit {0}
AreAcksOf server pending (a ∷ acks) =
    IsAckOf server pending a × AreAcksOf server (remove pending a.place) acks

-- the chunks that are awaited behind them
abbrev pub pending_behind : List Ack → List PendingChunk → List PendingChunk
pending_behind [] pending = pending
pending_behind (a ∷ acks) pending = pending_behind acks (remove pending a.place)

-- the values that acknowledged
abbrev pub replies_of : List Ack → List (List ℕ)
replies_of acks = map (λ (a : Ack). (arc_value a.acked).reply) acks

-- it says nothing of the handshake, and nothing is sent for it
abbrev pub IsOver : Hearing → Type 0
IsOver h = (h.handshake ≡ None) × (h.out.items ≡ [])

-- what was heard, where the handshake was this far before it
abbrev pub shown : Handshake → Hearing → Said
shown before h = record {
  handshake = unwrap_or h.handshake before;
  out = h.out.items;
  replies = replies_of h.acks.items;
  fault = h.fault;
}

-- what was heard, and then what the rest says
abbrev pub before_others : (out : List ℕ) → (replies : List (List ℕ)) → Said → Said
before_others out replies s = record s { out = out ++ s.out; replies = replies ++ s.replies }

-- where a value takes the handshake on, nothing is to be sent for it
abbrev pub GreetsInSilence : Word → Type 0
GreetsInSilence word = (out : List ℕ) (next : Handshake) → word ≡ Greets out next → out ≡ []
