-- What a server's bytes say to a session: its side of the handshake (Forward Protocol Specification
-- v1, "Handshake Messages"), and then its acknowledgements ("Response").
use Rattle.std.specs.Prelude.{◌≡◌, ℕ, Bool, false, List, [], ◌∷◌, ◌++◌, drop, length, find, Option, Some, None, is_some, if◌then◌else◌}
use Rattle.std.specs.List.{list_any}
use Rattle.std.specs.Str.{bytes_eq}
use Rattle.fwd_msgpack.specs.declared.fault.ScanFault.{ScanFault}
use Rattle.fwd_msgpack.specs.Scans.{Bad, Split, first_of, split_of, values_of, is_nil}
use Rattle.fwd_msgpack.specs.Scans.Split.{Open, Broken}
use Rattle.fwd_modes.specs.Acks.{ack_name}
use Rattle.fwd_handshake.specs.declared.credentials.Login.{Login}
use Rattle.fwd_handshake.specs.declared.verdict.HeloAnswer.{HeloAnswer}
use Rattle.fwd_handshake.specs.declared.verdict.HeloAnswer.TheVariants as helo
use Rattle.fwd_handshake.specs.declared.verdict.PongVerdict.{PongVerdict}
use Rattle.fwd_handshake.specs.declared.verdict.PongVerdict.TheVariants as pong
use Rattle.fwd_handshake.specs.Verdicts.{helo_answer, pong_verdict}
use Rattle.fwd_chunks.specs.History.{CarriedChunk}
use Rattle.fwd_session.specs.declared.limits.TheConstants.{REPLY_LIMIT, REPLY_NESTING}
use Rattle.fwd_session.specs.declared.fault.SessionFault.{SessionFault}
use Rattle.fwd_session.specs.declared.fault.SessionFault.TheVariants as fault
use Rattle.fwd_session.specs.declared.handshake.Handshake.{Handshake}
use Rattle.fwd_session.specs.declared.handshake.Handshake.TheVariants.{AwaitsHelo, AwaitsPong, Done}
use Rattle.fwd_session.specs.ServerAcks.{Accepted}

-- ---- which chunk a value names

-- the name that a value acknowledges, if it does, is this one
abbrev pub is_name : Option (List ℕ) → List ℕ → Bool
is_name None name = false
is_name (Some acked) name = bytes_eq acked name

-- a value acknowledges the chunk of this name
abbrev pub names : (value : List ℕ) → (name : List ℕ) → Bool
names value name = is_name (ack_name value) name

-- a list without the first of its members that passes a test
abbrev pub without_first : {A : Type 0} → (A → Bool) → List A → List A
without_first test [] = []
without_first test (x ∷ xs) = if test x then xs else x ∷ without_first test xs

-- what is left of a list, each member of which has a name, once each of these values took away the
-- first that it names
abbrev pub left_by : {A : Type 0} → (A → List ℕ) → (values : List (List ℕ)) → List A → List A
left_by name_of [] xs = xs
left_by name_of (v ∷ vs) xs = left_by name_of vs (without_first (λ x. names v (name_of x)) xs)

-- a chunk is accepted for a value, if there is one
abbrev pub accepted_for : (value : List ℕ) → Option CarriedChunk → List Accepted
accepted_for value None = []
accepted_for value (Some c) = record { chunk = c; reply = value } ∷ []

-- the chunks that values acknowledge, in the order of the values: each the first that its value
-- names of those that are left
abbrev pub accepted_by : (values : List (List ℕ)) → List CarriedChunk → List Accepted
accepted_by [] chunks = []
accepted_by (v ∷ vs) chunks =
    accepted_for v (find (λ c. names v c.name) chunks)
    ++ accepted_by vs (without_first (λ c. names v c.name) chunks)

-- ---- one value

-- what one value says: nothing; the handshake goes on, by what is sent for it and how far it came;
-- a chunk is acknowledged; or a fault
pub data Word : Type 0 where
  Skipped : Word
  Greets : (out : List ℕ) (next : Handshake) → Word
  Acks : Word
  Fails : (fault : SessionFault) → Word

-- a chunk that is not acknowledged: its name, and whether its whole frame is handed on
pub record Awaited : Type 0 where
  pub name : List ℕ
  pub is_handed_on : Bool

-- a HELO is answered by a PING, and then PONG is awaited
abbrev pub helo_word : HeloAnswer → Word
helo_word (helo.Ping ping nonce keepalive) = Greets ping (AwaitsPong nonce keepalive)
helo_word helo.NotHelo = Fails fault.NotHelo

-- a good PONG ends the handshake
abbrev pub pong_word : Bool → PongVerdict → Word
pong_word keepalive pong.Pass = Greets [] (Done keepalive)
pong_word keepalive pong.NotPong = Fails fault.BadReply
pong_word keepalive pong.Denied = Fails fault.Denied
pong_word keepalive pong.BadDigest = Fails fault.BadDigest

-- the chunk that a value names, if it names one of those that are awaited: it is acknowledged,
-- once its whole frame is handed on
abbrev pub named_word : Option Awaited → Word
named_word None = Fails fault.WrongAck
named_word (Some a) = if a.is_handed_on then Acks else Fails fault.EarlyAck

-- the name that a value acknowledges, if it does, against the chunks that are awaited: it is early
-- where no frame of theirs is handed on
abbrev pub ack_word : List Awaited → Option (List ℕ) → Word
ack_word awaited None = Fails fault.BadReply
ack_word awaited (Some name) =
    if list_any (λ a. a.is_handed_on) awaited then
    named_word (find (λ a. bytes_eq name a.name) awaited)
    else Fails fault.EarlyAck

-- what a value says that is not nil, by how far the handshake came and the chunks that are awaited
abbrev pub spoken : Login → (salt : List ℕ) → Handshake → List Awaited → List ℕ → Word
spoken login salt AwaitsHelo awaited value = helo_word (helo_answer login salt value)
spoken login salt (AwaitsPong nonce keepalive) awaited value =
    pong_word keepalive (pong_verdict login salt nonce value)
spoken login salt (Done keepalive) awaited value = ack_word awaited (ack_name value)

-- what a whole value says: nil is skipped
unfoldable pub word_of : Login → (salt : List ℕ) → Handshake → List Awaited → List ℕ → Word
word_of login salt at awaited value =
    if is_nil value then Skipped else spoken login salt at awaited value

-- ---- many values

-- what values say together: how far the handshake came, what is sent for it, the values that
-- acknowledged a chunk, in their order, and the first fault
pub record Said : Type 0 where
  pub handshake : Handshake
  pub out : List ℕ
  pub replies : List (List ℕ)
  pub fault : Option SessionFault

-- what is put behind the bytes that wait to be sent: nothing, once there is a fault
abbrev pub out_of : Said → List ℕ
out_of s = if is_some s.fault then [] else s.out

-- nothing
abbrev pub silence : Handshake → Said
silence at = record { handshake = at; out = []; replies = []; fault = None }

-- a fault
abbrev pub failing : SessionFault → Handshake → Said
failing f at = record { handshake = at; out = []; replies = []; fault = Some f }

-- what is sent, before what comes after it
abbrev pub sending : List ℕ → Said → Said
sending out s = record s { out = out ++ s.out }

-- what is said asks for nothing: nothing is to be sent for it, and no chunk is acknowledged
abbrev pub AsksForNothing : Said → Type 0
AsksForNothing s = (s.out ≡ []) × (s.replies ≡ [])

-- an acknowledgement, and what comes after it
abbrev pub acking : List ℕ → Said → Said
acking value s = record s { replies = value ∷ s.replies }

-- the chunks that are awaited behind these acknowledgements
abbrev pub awaited_behind : (values : List (List ℕ)) → List Awaited → List Awaited
awaited_behind values awaited = left_by (λ a. a.name) values awaited

-- what a value says, and then what comes after it, by how far the handshake came and the chunks
-- that are awaited then. Behind a fault nothing counts
abbrev pub word_then : Handshake → List Awaited → List ℕ → Word
    → (Handshake → List Awaited → Said) → Said
word_then at awaited value Skipped others = others at awaited
word_then at awaited value (Greets out next) others = sending out (others next awaited)
word_then at awaited value Acks others =
    acking value (others at (awaited_behind (value ∷ []) awaited))
word_then at awaited value (Fails f) others = failing f at

-- values in their order, and what is behind them
abbrev pub said_of : Login → (salt : List ℕ) → Handshake → List Awaited
    → List (List ℕ) → (Handshake → Said) → Said
said_of login salt at awaited [] end = end at
said_of login salt at awaited (v ∷ vs) end =
    word_then at awaited v (word_of login salt at awaited v) (λ next left.
    said_of login salt next left vs end)

-- what a stream of values says: its whole values, and then the fault behind them, if there is one
abbrev pub said_in : Login → (salt : List ℕ) → Handshake → List Awaited → Split → Said
said_in login salt at awaited (Open values rest) = said_of login salt at awaited values silence
said_in login salt at awaited (Broken values broken) =
    said_of login salt at awaited values (failing fault.BadReply)

-- ---- the stream

-- a server's bytes as a stream of replies within the limits
unfoldable pub reply_stream : List ℕ → Split
reply_stream bytes = split_of REPLY_LIMIT REPLY_NESTING bytes

-- the first value of a server's bytes is none of MessagePack within the limits
pub record BeginsBroken (bytes : List ℕ) : Type 0 where
  pub fault : ScanFault
  pub bad : first_of REPLY_LIMIT REPLY_NESTING bytes ≡ Bad fault

-- a stream behind its first n values
abbrev pub behind : ℕ → Split → Split
behind n (Open values rest) = Open (drop n values) rest
behind n (Broken values broken) = Broken (drop n values) broken

-- what a piece ends: the values of all bytes heard that were no values before it
abbrev pub ended_by : List ℕ → Split → Split
ended_by heard stream = behind (length (values_of (reply_stream heard))) stream

-- the bytes of the unfinished value
abbrev pub rest_of : Split → List ℕ
rest_of (Open values rest) = rest
rest_of (Broken values broken) = []
