-- The line of an event is text.
use Rattle.std.proofs.Common.{◌≡◌, ℕ, true, List, [], ◌∷◌, Some, refl, nat_lt, lit<, arith}
use Rattle.std.specs.Prelude.{codes}
use Rattle.std.specs.List.{join_with_byte, list_all}
use Rattle.std.specs.Str.{IsAscii, IsUtf8}
use Rattle.std.proofs.lemmas.Bool.{and_parts, ltb-true}
use Rattle.std.proofs.lemmas.Str.{IsAscii-append, IsUtf8-from_ascii}
use Rattle.std.proofs.lemmas.Str.Ascii.{IsAscii-nil, IsAscii-cons}
use Rattle.std.proofs.lemmas.Fmt.{IsAscii-decimal}
use Rattle.hex.specs.Hex.{encode_lower, lower_digits}
use Rattle.hex.proofs.HexLemmas.{IsAscii-encode_with}
use Rattle.fwd_model.specs.declared.event.Event.{Event}
use Rattle.fwd_model.specs.declared.event.EndKind.{EndKind}
use Rattle.fwd_model.specs.declared.event.EndKind.TheVariants.{Kept, Lost}
use Rattle.fwd_model.specs.FlushKind.{FlushKind}
use Rattle.fwd_model.specs.FlushKind.TheVariants.{Due, All}
use Rattle.fwd_script.specs.Words.{hex_text}
use Rattle.fwd_script.specs.Lines.{Kind, Long, Short, Hex, Sixteen, Salt, Closing, Ending, Meaning, Fits, text_at, kind_text, ending_text, Field, AllFit, texts, said, event_of}
use Rattle.fwd_script.proofs.Spelling.{is_ascii-name, event_of-some}

-- a text whose bytes pass the test
IsAscii-tested : (text : List ℕ) → list_all (λ b. nat_lt b 128) text ≡ true → IsAscii text
IsAscii-tested [] h = IsAscii-nil
IsAscii-tested (b ∷ text) h =
    let parts = and_parts (nat_lt b 128) (list_all (λ x. nat_lt x 128) text) h in
    IsAscii-cons b text (ltb-true b 128 parts.0) (IsAscii-tested text parts.1)

abbrev AllAscii : List (List ℕ) → Type 0
AllAscii [] = Unit {0}
AllAscii (word ∷ more) = IsAscii word × AllAscii more

IsAscii-join : (first : List ℕ) (more : List (List ℕ)) → AllAscii (first ∷ more)
    → IsAscii (join_with_byte 32 (first ∷ more))
IsAscii-join first [] h = h.0
IsAscii-join first (second ∷ more) h =
    let rest = IsAscii-join second more h.1 in
    IsAscii-append first (32 ∷ join_with_byte 32 (second ∷ more)) h.0 (IsAscii-cons 32 (join_with_byte 32 (second ∷ more)) (lit< tt) rest)

IsAscii-hex : (bytes : List ℕ) → IsAscii (encode_lower bytes)
IsAscii-hex bytes = IsAscii-encode_with lower_digits bytes (IsAscii-tested lower_digits refl)

IsAscii-hex_text : (bytes : List ℕ) → IsAscii (hex_text bytes)
IsAscii-hex_text [] = IsAscii-tested (codes "-") refl
IsAscii-hex_text (b ∷ bytes) = IsAscii-hex (b ∷ bytes)

IsAscii-kind : (k : FlushKind) → IsAscii (kind_text k)
IsAscii-kind Due = IsAscii-tested (codes "due") refl
IsAscii-kind All = IsAscii-tested (codes "all") refl

IsAscii-ending : (k : EndKind) → IsAscii (ending_text k)
IsAscii-ending Kept = IsAscii-tested (codes "kept") refl
IsAscii-ending Lost = IsAscii-tested (codes "lost") refl

-- a word in range is ASCII
IsAscii-text_at : (kind : Kind) (x : Meaning kind) → Fits kind x → IsAscii (text_at kind x)
IsAscii-text_at Long n r = IsAscii-decimal n r
IsAscii-text_at Short n r = IsAscii-decimal n (omega arith)
IsAscii-text_at Hex bytes r = IsAscii-hex_text bytes
IsAscii-text_at Sixteen bytes r = IsAscii-hex bytes
IsAscii-text_at Salt bytes r = IsAscii-hex_text bytes
IsAscii-text_at Closing kind r = IsAscii-kind kind
IsAscii-text_at Ending kind r = IsAscii-ending kind

AllAscii-texts : (fields : List Field) → AllFit fields → AllAscii (texts fields)
AllAscii-texts [] fit = tt
AllAscii-texts (f ∷ fields) fit = (IsAscii-text_at f.0 f.1 fit.0, AllAscii-texts fields fit.1)

pub IsUtf8-event : (line : List ℕ) (e : Event) → event_of line ≡ Some e → IsUtf8 line
IsUtf8-event line e h =
    let l = (event_of-some line e).0 h in
    let s = l.spelling in
    let name = IsAscii-tested s.form.name (is_ascii-name s.form s.is_row) in
    let all : AllAscii ((said s).0 ∷ texts (said s).1) = (name, AllAscii-texts (said s).1 l.fits) in
    rw l.spells (IsUtf8-from_ascii _ (IsAscii-join (said s).0 (texts (said s).1) all))
