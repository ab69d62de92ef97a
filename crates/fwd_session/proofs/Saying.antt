-- What a server's bytes say: by what stands at their front, and which chunks their values name.
use Rattle.std.proofs.Common.{◌≡◌, ℕ, zero, suc, Bool, true, false, cond, List, [], ◌∷◌, take, drop, Option, Some, None, refl, sym, ap, subst, ◌∙◌}
use Rattle.std.specs.Prelude.{slice_get, find}
use Rattle.std.specs.List.{list_any, AllByRecursion}
use Rattle.std.specs.Str.{bytes_eq}
use Rattle.fwd_msgpack.specs.declared.fault.ScanFault.{ScanFault}
use Rattle.fwd_msgpack.specs.Scans.{Split, split_of, values_of, with_front, is_nil, Whole, Short, Bad, first_of}
use Rattle.fwd_msgpack.specs.Scans.Split.{Open, Broken}
use Rattle.fwd_msgpack.specs.declared.stream.Next.{Next}
use Rattle.fwd_msgpack.specs.declared.stream.Next.TheVariants as next
use Rattle.fwd_msgpack.specs.Values.{bytes_of}
use Rattle.fwd_msgpack.specs.Walks.{split_by}
use Rattle.fwd_msgpack.proofs.Rows.{by_first, told_first, split_first}
use Rattle.fwd_modes.specs.Acks.{ack_name}
use Rattle.fwd_handshake.specs.declared.credentials.Login.{Login}
use Rattle.fwd_handshake.specs.declared.verdict.HeloAnswer.{HeloAnswer}
use Rattle.fwd_handshake.specs.declared.verdict.HeloAnswer.TheVariants as helo
use Rattle.fwd_handshake.specs.declared.verdict.PongVerdict.{PongVerdict}
use Rattle.fwd_handshake.specs.declared.verdict.PongVerdict.TheVariants as pong
use Rattle.fwd_handshake.specs.Verdicts.{helo_answer, pong_verdict}
use Rattle.fwd_session.specs.declared.limits.TheConstants.{REPLY_LIMIT, REPLY_NESTING}
use Rattle.fwd_session.specs.declared.fault.SessionFault.{SessionFault}
use Rattle.fwd_session.specs.declared.fault.SessionFault.TheVariants as fault
use Rattle.fwd_session.specs.declared.handshake.Handshake.{Handshake}
use Rattle.fwd_session.specs.declared.handshake.Handshake.TheVariants.{AwaitsHelo, AwaitsPong, Done}
use Rattle.fwd_session.specs.Said.{Awaited, Word, Said, names, is_name, awaited_behind, helo_word, pong_word, named_word, ack_word, spoken, word_of, word_then, said_of, said_in, silence, failing, reply_stream, rest_of}
use Rattle.fwd_session.specs.Said.Word.{Skipped, Greets, Acks, Fails}

-- ---- by what stands at the front

said-front : (login : Login) (salt : List ℕ) (at : Handshake) (awaited : List Awaited)
    (v : List ℕ) (s : Split)
    → said_in login salt at awaited (with_front (v ∷ []) s)
    ≡ word_then at awaited v (word_of login salt at awaited v)
    (λ next left. said_in login salt next left s)
said-front login salt at awaited v (Open ws rest) = refl
said-front login salt at awaited v (Broken ws broken) = refl

rest_of-front : (vs : List (List ℕ)) (s : Split) → rest_of (with_front vs s) ≡ rest_of s
rest_of-front vs (Open ws rest) = refl
rest_of-front vs (Broken ws broken) = refl

pub said-whole : (login : Login) (salt : List ℕ) (at : Handshake) (awaited : List Awaited)
    (bytes : List ℕ) (used : ℕ) → first_of REPLY_LIMIT REPLY_NESTING bytes ≡ Whole used
    → said_in login salt at awaited (reply_stream bytes)
    ≡ word_then at awaited (take used bytes) (word_of login salt at awaited (take used bytes))
    (λ next left. said_in login salt next left (reply_stream (drop used bytes)))
unfolding reply_stream
said-whole login salt at awaited bytes used e =
    ap (said_in login salt at awaited) (split_first REPLY_LIMIT REPLY_NESTING bytes used e) ∙ said-front login salt at awaited (take used bytes) (split_of REPLY_LIMIT REPLY_NESTING (drop used bytes))

pub rest-whole : (bytes : List ℕ) (used : ℕ) → first_of REPLY_LIMIT REPLY_NESTING bytes ≡ Whole used
    → rest_of (reply_stream bytes) ≡ rest_of (reply_stream (drop used bytes))
unfolding reply_stream
rest-whole bytes used e = ap rest_of (split_first REPLY_LIMIT REPLY_NESTING bytes used e) ∙ rest_of-front (take used bytes ∷ []) (split_of REPLY_LIMIT REPLY_NESTING (drop used bytes))

pub stream-short : (bytes : List ℕ) → first_of REPLY_LIMIT REPLY_NESTING bytes ≡ Short
    → reply_stream bytes ≡ Open [] bytes
unfolding reply_stream split_of
stream-short bytes e = told_first REPLY_LIMIT REPLY_NESTING [] bytes ∙ ap (by_first REPLY_LIMIT REPLY_NESTING [] bytes) e

pub stream-bad : (bytes : List ℕ) (fault : ScanFault)
    → first_of REPLY_LIMIT REPLY_NESTING bytes ≡ Bad fault
    → reply_stream bytes ≡ Broken [] fault
unfolding reply_stream split_of
stream-bad bytes fault e = told_first REPLY_LIMIT REPLY_NESTING [] bytes ∙ ap (by_first REPLY_LIMIT REPLY_NESTING [] bytes) e

-- what bytes say, by what comes next in them
abbrev pub said_by : Login → (salt : List ℕ) → Handshake → List Awaited → Next → Said
said_by login salt at awaited next.Unfinished = silence at
said_by login salt at awaited (next.Fault broken) = failing fault.BadReply at
said_by login salt at awaited (next.Value value behind) =
    word_then at awaited (bytes_of value) (word_of login salt at awaited (bytes_of value))
    (λ g left. said_in login salt g left (reply_stream behind.now))

pub said_next : (login : Login) (salt : List ℕ) (at : Handshake) (awaited : List Awaited)
    (bytes : List ℕ) (what : Next)
    → split_of REPLY_LIMIT REPLY_NESTING bytes ≡ split_by REPLY_LIMIT REPLY_NESTING bytes what
    → said_in login salt at awaited (reply_stream bytes) ≡ said_by login salt at awaited what
unfolding reply_stream
said_next login salt at awaited bytes next.Unfinished e = ap (said_in login salt at awaited) e
said_next login salt at awaited bytes (next.Fault broken) e = ap (said_in login salt at awaited) e
said_next login salt at awaited bytes (next.Value value behind) e =
    ap (said_in login salt at awaited) e ∙ said-front login salt at awaited (bytes_of value) (split_of REPLY_LIMIT REPLY_NESTING behind.now)

-- the bytes of the unfinished value, by what comes next
abbrev pub rest_by : List ℕ → Next → List ℕ
rest_by bytes next.Unfinished = bytes
rest_by bytes (next.Fault broken) = []
rest_by bytes (next.Value value behind) = rest_of (reply_stream behind.now)

pub rest_next : (bytes : List ℕ) (what : Next)
    → split_of REPLY_LIMIT REPLY_NESTING bytes ≡ split_by REPLY_LIMIT REPLY_NESTING bytes what
    → rest_of (reply_stream bytes) ≡ rest_by bytes what
unfolding reply_stream
rest_next bytes next.Unfinished e = ap rest_of e
rest_next bytes (next.Fault broken) e = ap rest_of e
rest_next bytes (next.Value value behind) e = ap rest_of e ∙ rest_of-front (bytes_of value ∷ []) (split_of REPLY_LIMIT REPLY_NESTING behind.now)

-- ---- by the chunks that are awaited

-- an acknowledgement, or that none is, says one or the other
pub ack_either : (P : Word → Type 0) → P Acks → ((f : SessionFault) → P (Fails f))
    → (awaited : List Awaited) (name : Option (List ℕ)) → P (ack_word awaited name)
ack_either P acks fails awaited None = fails fault.BadReply
ack_either P acks fails awaited (Some name) = by (list_any (λ a. a.is_handed_on) awaited)
  where
    handed : (b : Bool) → P (cond b Acks (Fails fault.EarlyAck))
    handed true = acks
    handed false = fails fault.EarlyAck

    found : (o : Option Awaited) → P (named_word o)
    found None = fails fault.WrongAck
    found (Some a) = handed a.is_handed_on

    by : (b : Bool)
        → P
        (cond b (named_word (find (λ a. bytes_eq name a.name) awaited)) (Fails fault.EarlyAck))
    by true = found (find (λ a. bytes_eq name a.name) awaited)
    by false = fails fault.EarlyAck

-- a value names one of these, whose frame is handed on
pub record IsNamed (awaited : List Awaited) (value : List ℕ) : Type 0 where
  pub name : List ℕ
  pub named : ack_name value ≡ Some name
  pub one : Awaited
  pub found : find (λ a. names value a.name) awaited ≡ Some one
  pub handed_on : one.is_handed_on ≡ true

-- values name them, each one of those that are left by the ones before it
abbrev pub AreNamed : List Awaited → (values : List (List ℕ)) → Type 0
AreNamed awaited [] = Unit {0}
AreNamed awaited (v ∷ vs) = IsNamed awaited v × AreNamed (awaited_behind (v ∷ []) awaited) vs

-- the same of what one value says
abbrev Fits : List Awaited → (value : List ℕ) → Word → Type 0
Fits awaited value Skipped = Unit {0}
Fits awaited value (Greets out next) = Unit {0}
Fits awaited value Acks = IsNamed awaited value
Fits awaited value (Fails f) = Unit {0}

fits-helo : (awaited : List Awaited) (value : List ℕ) (a : HeloAnswer)
    → Fits awaited value (helo_word a)
fits-helo awaited value (helo.Ping ping nonce keepalive) = tt
fits-helo awaited value helo.NotHelo = tt

fits-pong : (awaited : List Awaited) (value : List ℕ) (keepalive : Bool) (a : PongVerdict)
    → Fits awaited value (pong_word keepalive a)
fits-pong awaited value keepalive pong.Pass = tt
fits-pong awaited value keepalive pong.NotPong = tt
fits-pong awaited value keepalive pong.Denied = tt
fits-pong awaited value keepalive pong.BadDigest = tt

fits-ack : (awaited : List Awaited) (value : List ℕ) (name : Option (List ℕ))
    → ack_name value ≡ name → Fits awaited value (ack_word awaited name)
fits-ack awaited value None e = tt
fits-ack awaited value (Some name) e = by (list_any (λ a. a.is_handed_on) awaited)
  where
    handed : (a : Awaited) (b : Bool) → a.is_handed_on ≡ b
        → find (λ a. bytes_eq name a.name) awaited ≡ Some a
        → Fits awaited value (cond b Acks (Fails fault.EarlyAck))
    handed a true is found = record { name = name; named = e; one = a; found = ap (λ (o : Option (List ℕ)). find (λ a. is_name o a.name) awaited) e ∙ found; handed_on = is }
    handed a false is found = tt

    found : (o : Option Awaited) → find (λ a. bytes_eq name a.name) awaited ≡ o
        → Fits awaited value (named_word o)
    found None is = tt
    found (Some a) is = handed a a.is_handed_on refl is

    by : (b : Bool)
        → Fits awaited value
        (cond b (named_word (find (λ a. bytes_eq name a.name) awaited)) (Fails fault.EarlyAck))
    by true = found (find (λ a. bytes_eq name a.name) awaited) refl
    by false = tt

fits-spoken : (login : Login) (salt : List ℕ) (at : Handshake) (awaited : List Awaited)
    (value : List ℕ) → Fits awaited value (spoken login salt at awaited value)
fits-spoken login salt AwaitsHelo awaited value = fits-helo awaited value (helo_answer login salt value)
fits-spoken login salt (AwaitsPong nonce keepalive) awaited value = fits-pong awaited value keepalive (pong_verdict login salt nonce value)
fits-spoken login salt (Done keepalive) awaited value = fits-ack awaited value (ack_name value) refl

fits : (login : Login) (salt : List ℕ) (at : Handshake) (awaited : List Awaited)
    (value : List ℕ) → Fits awaited value (word_of login salt at awaited value)
unfolding word_of
fits login salt at awaited value = by (is_nil value)
  where
    by : (b : Bool) → Fits awaited value (cond b Skipped (spoken login salt at awaited value))
    by true = tt
    by false = fits-spoken login salt at awaited value

-- what is behind many values acknowledges nothing
abbrev AcksNone : (Handshake → Said) → Type 0
AcksNone end = (g : Handshake) → (end g).replies ≡ []

named_then : (at : Handshake) (awaited : List Awaited) (v : List ℕ) (w : Word)
    (others : Handshake → List Awaited → Said) → Fits awaited v w
    → ((g : Handshake) (left : List Awaited) → AreNamed left (others g left).replies)
    → AreNamed awaited (word_then at awaited v w others).replies
named_then at awaited v Skipped others fit rest = rest at awaited
named_then at awaited v (Greets out next) others fit rest = rest next awaited
named_then at awaited v Acks others fit rest = (fit, rest at (awaited_behind (v ∷ []) awaited))
named_then at awaited v (Fails f) others fit rest = tt

named : (login : Login) (salt : List ℕ) (at : Handshake) (awaited : List Awaited)
    (vs : List (List ℕ)) (end : Handshake → Said) → AcksNone end
    → AreNamed awaited (said_of login salt at awaited vs end).replies
named login salt at awaited [] end none = subst (AreNamed awaited) (sym (none at)) tt
named login salt at awaited (v ∷ vs) end none =
    named_then at awaited v (word_of login salt at awaited v) (λ next left. said_of login salt next left vs end) (fits login salt at awaited v) (λ g left. named login salt g left vs end none)

-- the values that acknowledged name the chunks that are awaited
pub named_in : (login : Login) (salt : List ℕ) (at : Handshake) (awaited : List Awaited)
    (s : Split) → AreNamed awaited (said_in login salt at awaited s).replies
named_in login salt at awaited (Open vs rest) = named login salt at awaited vs silence (λ g. refl)
named_in login salt at awaited (Broken vs broken) = named login salt at awaited vs (failing fault.BadReply) (λ g. refl)

none_named : (values : List (List ℕ)) → AreNamed [] values → values ≡ []
none_named [] e = refl
none_named (v ∷ vs) e = absurd (nothing e.0.one e.0.found)
  where
    nothing : (a : Awaited) → None ≡ Some a → ⊥
    nothing a e = cc

-- where no chunk is awaited, no value acknowledges
pub silent : (login : Login) (salt : List ℕ) (at : Handshake) (s : Split)
    → (said_in login salt at [] s).replies ≡ []
silent login salt at s = none_named (said_in login salt at [] s).replies (named_in login salt at [] s)

-- ---- where the values stand that acknowledged

-- a value is one of these
abbrev pub IsPlaced : List (List ℕ) → (value : List ℕ) → Type 0
IsPlaced vs value = (turn : ℕ) × (slice_get vs turn ≡ Some value)

further : (v : List ℕ) (vs values : List (List ℕ)) → AllByRecursion (IsPlaced vs) values
    → AllByRecursion (IsPlaced (v ∷ vs)) values
further v vs [] p = tt
further v vs (u ∷ values) p = ((suc p.0.0, p.0.1), further v vs values p.1)

placed_then : (at : Handshake) (a : List Awaited) (v : List ℕ) (vs : List (List ℕ))
    (w : Word) (others : Handshake → List Awaited → Said)
    → ((g : Handshake) (left : List Awaited)
    → AllByRecursion (IsPlaced vs) (others g left).replies)
    → AllByRecursion (IsPlaced (v ∷ vs)) (word_then at a v w others).replies
placed_then at a v vs Skipped others rest = further v vs (others at a).replies (rest at a)
placed_then at a v vs (Greets out next) others rest = further v vs (others next a).replies (rest next a)
placed_then at a v vs Acks others rest =
    let left = awaited_behind (v ∷ []) a in ((zero, refl), further v vs (others at left).replies (rest at left))
placed_then at a v vs (Fails f) others rest = tt

placed : (login : Login) (salt : List ℕ) (at : Handshake) (a : List Awaited)
    (vs : List (List ℕ)) (end : Handshake → Said) → AcksNone end
    → AllByRecursion (IsPlaced vs) (said_of login salt at a vs end).replies
placed login salt at a [] end none = subst (AllByRecursion (IsPlaced [])) (sym (none at)) tt
placed login salt at a (v ∷ vs) end none =
    placed_then at a v vs (word_of login salt at a v) (λ g left. said_of login salt g left vs end) (λ g left. placed login salt g left vs end none)

-- the values that acknowledged are among the stream's
pub placed_in : (login : Login) (salt : List ℕ) (at : Handshake) (a : List Awaited)
    (s : Split) → AllByRecursion (IsPlaced (values_of s)) (said_in login salt at a s).replies
placed_in login salt at a (Open vs rest) = placed login salt at a vs silence (λ g. refl)
placed_in login salt at a (Broken vs broken) = placed login salt at a vs (failing fault.BadReply) (λ g. refl)
