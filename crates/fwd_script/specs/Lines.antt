-- The table of events as script lines, the event that a line spells, and the lines of an event.
use Rattle.std.specs.Prelude.{◌≡◌, ℕ, ◌^◌, ◌<◌, if◌then◌else◌, List, [], ◌∷◌, length, map, Contains, codes, Option, Some, None, option_map}
use Rattle.std.specs.List.{join_with_byte}
use Rattle.std.specs.Str.{bytes_eq}
use Rattle.std.specs.Fmt.{decimal}
use Rattle.hex.specs.Hex.{encode_lower, IsBytes}
use Rattle.fwd_model.specs.declared.event.Event.{Event}
use Rattle.fwd_model.specs.declared.event.Event.TheVariants as events
use Rattle.fwd_model.specs.declared.event.EndKind.{EndKind}
use Rattle.fwd_model.specs.declared.event.EndKind.TheVariants.{Kept, Lost}
use Rattle.fwd_model.specs.FlushKind.{FlushKind}
use Rattle.fwd_model.specs.FlushKind.TheVariants.{Due, All}
use Rattle.fwd_model.specs.Wanted.TheVariants.{Any, Fresh}
use Rattle.fwd_script.specs.Words.{◌>>=◌, words, hex_text, number_of, bytes_of, sixteen_of, salt_of}

-- ---- what a word says

-- the kinds of words: a number of 64 or of 16 bits, any bytes, sixteen bytes, the bytes of a
-- PING's salt, which open chunks a flush closes, and how a session's link ended
pub data Kind : Type 0 where
  Long : Kind
  Short : Kind
  Hex : Kind
  Sixteen : Kind
  Salt : Kind
  Closing : Kind
  Ending : Kind

-- what a word of a kind says
abbrev pub Meaning : Kind → Type 0
Meaning Long = ℕ
Meaning Short = ℕ
Meaning Hex = List ℕ
Meaning Sixteen = List ℕ
Meaning Salt = List ℕ
Meaning Closing = FlushKind
Meaning Ending = EndKind

-- it is in range
abbrev pub Fits : (kind : Kind) → Meaning kind → Type 0
Fits Long n = n < 2 ^ 64
Fits Short n = n < 2 ^ 16
Fits Hex bytes = IsBytes bytes
Fits Sixteen bytes = IsBytes bytes × (length bytes ≡ 16)
Fits Salt bytes = IsBytes bytes × (length bytes < 2 ^ 32)
Fits Closing kind = Unit {0}
Fits Ending kind = Unit {0}

-- which open chunks a flush closes, in a word
abbrev pub kind_text : FlushKind → List ℕ
kind_text Due = codes "due"
kind_text All = codes "all"

-- how a session's link ended, in a word
abbrev pub ending_text : EndKind → List ℕ
ending_text Kept = codes "kept"
ending_text Lost = codes "lost"

-- its one spelling: numbers in decimal, bytes in hexadecimal
abbrev pub text_at : (kind : Kind) → Meaning kind → List ℕ
text_at Long n = decimal n
text_at Short n = decimal n
text_at Hex bytes = hex_text bytes
text_at Sixteen bytes = encode_lower bytes
text_at Salt bytes = hex_text bytes
text_at Closing kind = kind_text kind
text_at Ending kind = ending_text kind

-- ---- the table of events

-- what makes an event of the values of some kinds
abbrev pub Makes : List Kind → Type 0
Makes [] = Event
Makes (kind ∷ kinds) = Meaning kind → Makes kinds

-- a form of lines: the name, the kinds of the words behind it, and the event that they make
pub record Form : Type 0 where
  pub name : List ℕ
  pub kinds : List Kind
  pub make : Makes kinds

-- a row of the table
abbrev pub row : List ℕ → (kinds : List Kind) → Makes kinds → Form
row name kinds make = record { name = name; kinds = kinds; make = make }

-- the events of sessions
abbrev pub session_forms : List Form
session_forms =
    row (codes "up") (Short ∷ Short ∷ Short ∷ Salt ∷ Long ∷ []) events.Up
    ∷ row (codes "load") (Short ∷ Short ∷ Long ∷ []) events.Load
    ∷ row (codes "wrote") (Short ∷ Short ∷ Long ∷ []) events.Wrote
    ∷ row (codes "heard") (Short ∷ Short ∷ Hex ∷ []) events.Heard
    ∷ row (codes "late") (Short ∷ Short ∷ Long ∷ []) events.Late
    ∷ row (codes "end") (Short ∷ Short ∷ Ending ∷ Long ∷ []) events.End
    ∷ []

-- the events of outputs and their workers, and of sessions
abbrev pub output_forms : List Form
output_forms =
    row (codes "flush") (Short ∷ Long ∷ Closing ∷ []) events.Flush
    ∷ row (codes "choose") (Short ∷ Short ∷ Long ∷ []) events.Choose
    ∷ row (codes "take") (Short ∷ Short ∷ Long ∷ []) (λ o w now. events.Take o w now Any)
    ∷ row (codes "settle") (Short ∷ Short ∷ []) events.Settle
    ∷ session_forms

-- all events
abbrev pub forms : List Form
forms =
    row (codes "accept") (Long ∷ Sixteen ∷ Sixteen ∷ []) events.Accept
    ∷ row (codes "piece") (Long ∷ Hex ∷ []) events.Piece
    ∷ row (codes "admit") (Long ∷ Short ∷ Long ∷ []) events.Admit
    ∷ row (codes "collect") (Long ∷ Short ∷ []) events.Collect
    ∷ row (codes "forget") (Long ∷ Short ∷ []) events.Forget
    ∷ row (codes "drained") (Long ∷ Long ∷ []) events.Drained
    ∷ row (codes "shut") (Long ∷ []) events.Shut
    ∷ output_forms

-- ---- the lines of an event

-- the values of words of some kinds
abbrev pub Values : List Kind → Type 0
Values [] = Unit {0}
Values (kind ∷ kinds) = Meaning kind × Values kinds

-- the event that is made of them
abbrev pub made : (kinds : List Kind) → Makes kinds → Values kinds → Event
made [] event values = event
made (kind ∷ kinds) make values = made kinds (make values.0) values.1

-- what one word says
abbrev pub Field : Type 0
Field = (kind : Kind) × Meaning kind

-- the values, each with its kind
abbrev pub fields_of : (kinds : List Kind) → Values kinds → List Field
fields_of [] values = []
fields_of (kind ∷ kinds) values = (kind, values.0) ∷ fields_of kinds values.1

-- each of them is in range
abbrev pub AllFit : List Field → Type 0
AllFit [] = Unit {0}
AllFit (f ∷ fields) = Fits f.0 f.1 × AllFit fields

-- their words
abbrev pub texts : List Field → List (List ℕ)
texts fields = map (λ f. text_at f.0 f.1) fields

-- a row of the table and values of its kinds that make this event
pub record Spelling (event : Event) : Type 0 where
  pub form : Form
  pub is_row : Contains forms form
  pub values : Values form.kinds
  pub makes : made form.kinds form.make values ≡ event

-- the name and what the words behind it say
abbrev pub said : {event : Event} → Spelling event → List ℕ × List Field
said s = (s.form.name, fields_of s.form.kinds s.values)

-- the line is an event's: its row's name and the words of its values, which are in range, with one
-- space between each two
pub record IsLineOf (event : Event) (line : List ℕ) : Type 0 where
  pub spelling : Spelling event
  pub fits : AllFit (said spelling).1
  pub spells : line ≡ join_with_byte 32 ((said spelling).0 ∷ texts (said spelling).1)

-- Whether lines tell of the event: a take of theirs is of any chunk. A chunk that no loss ever held
-- back is what a thread asks for, and no line.
abbrev pub HasLines : Event → Type 0
HasLines (events.Take output worker now Fresh) = ⊥
HasLines event = Unit {0}

-- an event is in one row of the table alone, and is made there of one list of values alone
pub record HasOneSpelling (event : Event) : Type 0 where
  pub spelling : Spelling event
  pub alone : (other : Spelling event) → said other ≡ said spelling

-- ---- the event that a line spells

-- which open chunks a flush closes, by its word
unfoldable pub kind_of : List ℕ → Option FlushKind
kind_of word =
    if bytes_eq word (codes "due") then Some Due
    else if bytes_eq word (codes "all") then Some All
    else None

-- how a session's link ended, by its word
unfoldable pub ending_of : List ℕ → Option EndKind
ending_of word =
    if bytes_eq word (codes "kept") then Some Kept
    else if bytes_eq word (codes "lost") then Some Lost
    else None

-- what a word of a kind says, if it is a spelling
abbrev pub read_at : (kind : Kind) → List ℕ → Option (Meaning kind)
read_at Long word = number_of (2 ^ 64) word
read_at Short word = number_of (2 ^ 16) word
read_at Hex word = bytes_of word
read_at Sixteen word = sixteen_of word
read_at Salt word = salt_of word
read_at Closing word = kind_of word
read_at Ending word = ending_of word

-- what no words say
unfoldable pub read_none : List (List ℕ) → Option (Unit {0})
read_none [] = Some tt
read_none (word ∷ rest) = None

-- what a word and the words behind it say
unfoldable pub read_more
    : {A B : Type 0} → (List ℕ → Option A) → (List (List ℕ) → Option B) → List (List ℕ)
    → Option (A × B)
read_more read_first read_rest [] = None
read_more read_first read_rest (word ∷ rest) = do
  x ← read_first word
  xs ← read_rest rest
  Some (x, xs)

-- what just so many words say, each of its kind
abbrev pub read_all : (kinds : List Kind) → List (List ℕ) → Option (Values kinds)
read_all [] = read_none
read_all (kind ∷ kinds) = read_more (read_at kind) (read_all kinds)

-- the event of just so many words, each of its kind
abbrev pub read_as : Form → List (List ℕ) → Option Event
read_as form words = option_map (made form.kinds form.make) (read_all form.kinds words)

-- the event of a name and the words behind it, by the first row of that name
abbrev pub named : List Form → List ℕ → List (List ℕ) → Option Event
named [] name rest = None
named (form ∷ more) name rest =
    if bytes_eq name form.name then read_as form rest else named more name rest

-- the event of a line's words
unfoldable pub of_words : List (List ℕ) → Option Event
of_words [] = None
of_words (name ∷ rest) = named forms name rest

-- the event that a line spells, if it spells one
abbrev pub event_of : List ℕ → Option Event
event_of line = of_words (words line)
