-- The line of each answer, without its line feed.
use Rattle.std.specs.Prelude.{ℕ, Bool, true, false, List, [], ◌∷◌, map, codes, Option, Some, None}
use Rattle.std.specs.List.{join_with_byte}
use Rattle.std.specs.Fmt.{decimal}
use Rattle.fwd_msgpack.specs.declared.fault.ScanFault.{ScanFault}
use Rattle.fwd_msgpack.specs.declared.fault.ScanFault.TheVariants.{Reserved, TooDeep, TooLong}
use Rattle.fwd_modes.specs.declared.fault.InputFault.{InputFault}
use Rattle.fwd_modes.specs.declared.fault.InputFault.TheVariants.{BadShape, BadTag, BadEntry, BadOption, Compressed}
use Rattle.fwd_model.specs.SourceFault.{SourceFault}
use Rattle.fwd_model.specs.SourceFault.TheVariants.{Scan, Input, NotPing, Denied, Closed as SourceClosed}
use Rattle.fwd_model.specs.SessionFault.{SessionFault}
use Rattle.fwd_model.specs.SessionFault.TheVariants as session
use Rattle.fwd_model.specs.declared.fault.Refusal.{Refusal}
use Rattle.fwd_model.specs.declared.fault.Refusal.TheVariants as refusal
use Rattle.fwd_model.specs.declared.answer.Answer.{Answer}
use Rattle.fwd_model.specs.declared.answer.Answer.TheVariants.{Accepted, Requests, Faulted, Admitted, NoRoute, Full, NumbersSpent, Closed, Chose, Done, Took, TookNothing, Frame, Quiet, Ready, Acked, SessionFaulted, Settled, Late, Ended, Told, Forgot, Refused, Memory}
use Rattle.fwd_script.specs.Words.{hex_text}

-- the name of each fault of a value's spelling
abbrev pub scan_name : ScanFault → List ℕ
scan_name Reserved = codes "Reserved"
scan_name TooDeep = codes "TooDeep"
scan_name TooLong = codes "TooLong"

-- the name of each fault of a request
abbrev pub input_name : InputFault → List ℕ
input_name BadShape = codes "BadShape"
input_name BadTag = codes "BadTag"
input_name BadEntry = codes "BadEntry"
input_name BadOption = codes "BadOption"
input_name Compressed = codes "Compressed"

-- the name of each fault of a source
abbrev pub source_name : SourceFault → List ℕ
source_name (Scan fault) = scan_name fault
source_name (Input fault) = input_name fault
source_name NotPing = codes "NotPing"
source_name Denied = codes "Denied"
source_name SourceClosed = codes "Closed"

-- the name of each fault of a server
abbrev pub session_name : SessionFault → List ℕ
session_name session.BadReply = codes "BadReply"
session_name session.WrongAck = codes "WrongAck"
session_name session.EarlyAck = codes "EarlyAck"
session_name session.NotHelo = codes "NotHelo"
session_name session.Denied = codes "Denied"
session_name session.BadDigest = codes "BadDigest"

-- the name of each refusal
abbrev pub refusal_name : Refusal → List ℕ
refusal_name refusal.NotUp = codes "NotUp"
refusal_name refusal.Closed = codes "Closed"
refusal_name refusal.NoSuch = codes "NoSuch"
refusal_name refusal.NotNow = codes "NotNow"

-- a word, and the bytes that an event appended to what waits to be sent
abbrev pub out_words : List ℕ → List ℕ → List (List ℕ)
out_words word out = word ∷ codes "out" ∷ hex_text out ∷ []

-- how many requests wait, and the bytes that an event appended to what waits to be sent
abbrev pub requests_words : ℕ → List ℕ → List (List ℕ)
requests_words waiting out =
    codes "requests" ∷ decimal waiting ∷ codes "out" ∷ hex_text out ∷ []

-- a fault that closed a connection, and the requests before it
abbrev pub faulted_words : SourceFault → ℕ → List ℕ → List (List ℕ)
faulted_words fault waiting out = codes "fault" ∷ source_name fault ∷ requests_words waiting out

-- numbers in decimal with one comma between each two, or `-` for none
abbrev pub list_text : List ℕ → List ℕ
list_text [] = codes "-"
list_text (n ∷ ns) = join_with_byte 44 (map decimal (n ∷ ns))

-- which requests are told, and the bytes that an event appended to what waits to be sent
abbrev pub told_words : List ℕ → List ℕ → List (List ℕ)
told_words requests out =
    codes "told" ∷ list_text requests ∷ codes "out" ∷ hex_text out ∷ []

-- a number in decimal, or `-` for none
abbrev pub maybe_text : Option ℕ → List ℕ
maybe_text (Some n) = decimal n
maybe_text None = codes "-"

-- yes or no, in a word
abbrev pub yes_text : Bool → List ℕ
yes_text true = codes "yes"
yes_text false = codes "no"

-- the words of an answer
abbrev pub answer_words : Answer → List (List ℕ)
answer_words (Accepted out) = out_words (codes "accepted") out
answer_words (Requests waiting out) = requests_words waiting out
answer_words (Faulted fault waiting out) = faulted_words fault waiting out
answer_words (Admitted request entries) =
    codes "admitted" ∷ decimal request ∷ codes "entries" ∷ decimal entries ∷ []
answer_words NoRoute = codes "fault" ∷ codes "NoRoute" ∷ []
answer_words Full = codes "fault" ∷ codes "Full" ∷ []
answer_words NumbersSpent = codes "fault" ∷ codes "NumbersSpent" ∷ []
answer_words (Closed chunks) = codes "closed" ∷ decimal chunks ∷ []
answer_words (Chose server) = codes "server" ∷ maybe_text server ∷ []
answer_words Done = codes "done" ∷ []
answer_words (Took number entries) =
    codes "took" ∷ decimal number ∷ codes "entries" ∷ decimal entries ∷ []
answer_words TookNothing = codes "took" ∷ codes "-" ∷ []
answer_words (Frame out) = codes "frame" ∷ hex_text out ∷ []
answer_words (Quiet out) = out_words (codes "quiet") out
answer_words (Ready out) = out_words (codes "ready") out
answer_words (Acked out) = out_words (codes "acked") out
answer_words (SessionFaulted fault) = codes "fault" ∷ session_name fault ∷ []
answer_words (Settled entries) = codes "settled" ∷ decimal entries ∷ []
answer_words (Late late) = codes "late" ∷ yes_text late ∷ []
answer_words (Ended numbers) = codes "ended" ∷ list_text numbers ∷ []
answer_words (Told requests out) = told_words requests out
answer_words (Forgot requests) = codes "forgot" ∷ decimal requests ∷ []
answer_words (Refused refused) = codes "refused" ∷ refusal_name refused ∷ []
answer_words Memory = codes "memory" ∷ []

-- an answer's line: its words, with one space between each two
abbrev pub text_of : Answer → List ℕ
text_of answer = join_with_byte 32 (answer_words answer)
