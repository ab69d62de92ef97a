-- A line spells an event exactly where it is that event's line.
use Rattle.std.proofs.Common.{◌≡◌, ℕ, suc, ◌^◌, ◌<◌, ◌==◌, ◌/◌, ◌%◌, ◌&&◌, Bool, true, false, not, zero, nat_lt, cond, List, [], ◌∷◌, ◌++◌, Option, Some, None, refl, subst, sym, ap, ◌∙◌, arith, inl, inr, ◌⊎◌}
use Rattle.std.specs.Prelude.{codes, ◌↔◌, Contains, option_map}
use Rattle.std.specs.List.{list_any, list_all, join_with_byte}
use Rattle.std.specs.Str.{bytes_eq}
use Rattle.std.specs.Str.Parse.{AllDigits}
use Rattle.std.specs.Fmt.{decimal}
use Rattle.std.proofs.lemmas.Bool.{and_parts}
use Rattle.std.proofs.lemmas.Bool.Decides.{nat_tests}
use Rattle.std.proofs.lemmas.Fmt.{decimal_is_IsNumeral}
use Rattle.std.proofs.lemmas.Str.Parse.{digit_from_value}
use Rattle.std.proofs.lemmas.List.Splits.{join_with_byte-slice_split}
use Rattle.hex.specs.Hex.{IsBytes, encode_lower, encode_with}
use Rattle.fwd_model.specs.declared.event.Event.{Event}
use Rattle.fwd_model.specs.declared.event.EndKind.{EndKind}
use Rattle.fwd_model.specs.declared.event.EndKind.TheVariants.{Kept, Lost}
use Rattle.fwd_model.specs.FlushKind.{FlushKind}
use Rattle.fwd_model.specs.FlushKind.TheVariants.{Due, All}
use Rattle.fwd_script.specs.Words.{words, hex_text}
use Rattle.fwd_script.specs.Lines.{Kind, Long, Short, Hex, Sixteen, Salt, Closing, Ending, Meaning, Fits, text_at, kind_text, ending_text, Form, forms, Values, made, Field, fields_of, AllFit, texts, Spelling, said, IsLineOf, kind_of, ending_of, read_at, read_none, read_more, read_all, read_as, named, of_words, event_of}
use Rattle.fwd_script.proofs.WordLemmas.{bytes_eq-same, bytes_eq-true, number_of-some, number_of-decimal}
use Rattle.fwd_script.proofs.HexText.{chosen, then_some, or_false, no_space, bytes_of-some, bytes_of-hex_text, sixteen_of-some, sixteen_of-encode_lower, salt_of-some, salt_of-hex_text}

-- ---- words and the spaces between them

-- no space stands in the word
abbrev Lacks : List ℕ → Type 0
Lacks word = list_any (λ b. b == 32) word ≡ false

words-one : (word : List ℕ) → Lacks word → words word ≡ word ∷ []
words-one [] h = refl
words-one (b ∷ word) h =
    let parts = or_false (b == 32) (list_any (λ b. b == 32) word) h in
    rw (parts.0, words-one word parts.1) refl

words-first : (word rest : List ℕ) → Lacks word
    → words (word ++ 32 ∷ rest) ≡ word ∷ words rest
words-first [] rest h = refl
words-first (b ∷ word) rest h =
    let parts = or_false (b == 32) (list_any (λ b. b == 32) word) h in
    rw (parts.0, words-first word rest parts.1) refl

abbrev AllLack : List (List ℕ) → Type 0
AllLack [] = Unit {0}
AllLack (word ∷ more) = Lacks word × AllLack more

words-join : (first : List ℕ) (more : List (List ℕ)) → AllLack (first ∷ more)
    → words (join_with_byte 32 (first ∷ more)) ≡ first ∷ more
words-join first [] h = words-one first h.0
words-join first (second ∷ more) h =
    words-first first (join_with_byte 32 (second ∷ more)) h.0 ∙ ap (λ (ws : List (List ℕ)). first ∷ ws) (words-join second more h.1)

Lacks-digits : (ds : List ℕ) → AllDigits 10 ds → Lacks ds
Lacks-digits [] h = refl
Lacks-digits (d ∷ ds) h =
    let range = digit_from_value d h.0 in
    let other : (d == 32) ≡ false = grind (arith, nat_tests) in
    rw (other, Lacks-digits ds h.1) refl

Lacks-decimal : (n : ℕ) → n < 2 ^ 64 → Lacks (decimal n)
Lacks-decimal n lt = Lacks-digits (decimal n) (decimal_is_IsNumeral n lt).0.1

Lacks-encode_lower : (bytes : List ℕ) → IsBytes bytes → Lacks (encode_lower bytes)
unfolding encode_with
Lacks-encode_lower [] fits = refl
Lacks-encode_lower (b ∷ rest) fits =
    let small = fits 0 in
    let high = no_space (b / 16) (omega arith) in
    let low = no_space (b % 16) (omega arith) in
    rw (high, low) (Lacks-encode_lower rest (λ i. fits (suc i)))

Lacks-hex_text : (bytes : List ℕ) → IsBytes bytes → Lacks (hex_text bytes)
Lacks-hex_text [] fits = refl
Lacks-hex_text (b ∷ bytes) fits = Lacks-encode_lower (b ∷ bytes) fits

-- ---- what words of some kinds say

abbrev just : {A : Type 0} → A → Option A
just x = Some x

some_is : {A : Type 0} (x y : A) → just x ≡ just y → x ≡ y
some_is x y e = cc

-- a word that is one of two, and what it stands for
one_of_two : {A : Type 0} (word first second : List ℕ) (a b x : A)
    → cond (bytes_eq word first) (Some a) (cond (bytes_eq word second) (Some b) None) ≡ Some x
    → ((a ≡ x) × (word ≡ first)) ⊎ ((b ≡ x) × (word ≡ second))
one_of_two word first second a b x h =
    elim (chosen (bytes_eq word first) (Some a) (cond (bytes_eq word second) (Some b) None) (Some x) h) [
      | inl is ↦ inl (some_is a x is.1, bytes_eq-true word first is.0)
      | inr other ↦
          elim (chosen (bytes_eq word second) (Some b) None (Some x) other.1) [
            | inl is ↦ inr (some_is b x is.1, bytes_eq-true word second is.0)
            | inr neither ↦ absurd (let bad = neither.1 in cc)
          ]
    ]

kind_of-some : (word : List ℕ) (k : FlushKind) → kind_of word ≡ Some k
    → word ≡ kind_text k
unfolding kind_of
kind_of-some word k h =
    elim (one_of_two word (codes "due") (codes "all") Due All k h) [
      | inl due ↦ rw (← due.0) due.1
      | inr all ↦ rw (← all.0) all.1
    ]

kind_of-kind_text : (k : FlushKind) → kind_of (kind_text k) ≡ Some k
unfolding kind_of
kind_of-kind_text Due = refl
kind_of-kind_text All = refl

ending_of-some : (word : List ℕ) (k : EndKind) → ending_of word ≡ Some k
    → word ≡ ending_text k
unfolding ending_of
ending_of-some word k h =
    elim (one_of_two word (codes "kept") (codes "lost") Kept Lost k h) [
      | inl kept ↦ rw (← kept.0) kept.1
      | inr lost ↦ rw (← lost.0) lost.1
    ]

ending_of-ending_text : (k : EndKind) → ending_of (ending_text k) ≡ Some k
unfolding ending_of
ending_of-ending_text Kept = refl
ending_of-ending_text Lost = refl

-- a word that is read is the spelling of what it says
read_at-some : (kind : Kind) (word : List ℕ) (x : Meaning kind)
    → read_at kind word ≡ Some x → Fits kind x × (word ≡ text_at kind x)
read_at-some Long word n h = number_of-some (2 ^ 64) word n h
read_at-some Short word n h = number_of-some (2 ^ 16) word n h
read_at-some Hex word bytes h = bytes_of-some word bytes h
read_at-some Sixteen word bytes h = let s = sixteen_of-some word bytes h in ((s.0, s.1), s.2)
read_at-some Salt word bytes h = let s = salt_of-some word bytes h in ((s.0, s.1), s.2)
read_at-some Closing word kind h = (tt, kind_of-some word kind h)
read_at-some Ending word kind h = (tt, ending_of-some word kind h)

-- a spelling is read
read_at-text_at : (kind : Kind) (x : Meaning kind) → Fits kind x
    → read_at kind (text_at kind x) ≡ Some x
read_at-text_at Long n r = number_of-decimal (2 ^ 64) n r r
read_at-text_at Short n r = number_of-decimal (2 ^ 16) n r (omega arith)
read_at-text_at Hex bytes r = bytes_of-hex_text bytes r
read_at-text_at Sixteen bytes r = sixteen_of-encode_lower bytes r.0 r.1
read_at-text_at Salt bytes r = salt_of-hex_text bytes r.0 r.1
read_at-text_at Closing kind r = kind_of-kind_text kind
read_at-text_at Ending kind r = ending_of-ending_text kind

-- words that are read are the spellings of what they say
read_all-some : (kinds : List Kind) (ws : List (List ℕ)) (values : Values kinds)
    → read_all kinds ws ≡ Some values
    → AllFit (fields_of kinds values) × (ws ≡ texts (fields_of kinds values))
unfolding read_none read_more
read_all-some [] [] values h = (tt, refl)
read_all-some [] (w ∷ ws) values h = absurd cc
read_all-some (kind ∷ kinds) [] values h = absurd cc
read_all-some (kind ∷ kinds) (w ∷ ws) values h =
    let first = then_some (read_at kind w) _ values h in
    let more = then_some (read_all kinds ws) _ values first.2 in
    let same = some_is (first.0, more.0) values more.2 in
    let word = read_at-some kind w first.0 first.1 in
    let rest = read_all-some kinds ws more.0 more.1 in
    rw (← same) ((word.0, rest.0), same_row word.1 rest.1)
  where
    same_row : {v w : List ℕ} {vs ws : List (List ℕ)} → v ≡ w → vs ≡ ws → v ∷ vs ≡ w ∷ ws
    same_row p q = cc

-- spellings are read
read_all-texts : (kinds : List Kind) (values : Values kinds) → AllFit (fields_of kinds values)
    → read_all kinds (texts (fields_of kinds values)) ≡ Some values
unfolding read_none read_more
read_all-texts [] values fit = refl
read_all-texts (kind ∷ kinds) values fit =
    rw (read_at-text_at kind values.0 fit.0, read_all-texts kinds values.1 fit.1) refl

mapped_some : {A B : Type 0} (f : A → B) (o : Option A) (y : B) → option_map f o ≡ Some y
    → (x : A) × (o ≡ Some x) × (f x ≡ y)
mapped_some f (Some x) y h = (x, refl, some_is (f x) y h)
mapped_some f None y h = absurd cc

-- ---- the row of a name

-- what is read by name is read by a row of that name
named-some : (fs : List Form) (name : List ℕ) (ws : List (List ℕ)) (e : Event)
    → named fs name ws ≡ Some e
    → (form : Form) × Contains fs form × (name ≡ form.name) × (read_as form ws ≡ Some e)
named-some [] name ws e h = absurd cc
named-some (form ∷ more) name ws e h =
    elim (chosen (bytes_eq name form.name) (read_as form ws) (named more name ws) (Some e) h) [
      | inl is ↦ (form, (zero, omega arith, refl), bytes_eq-true name form.name is.0, is.1)
      | inr other ↦
          let found = named-some more name ws e other.1 in
          let at = found.1 in
          (found.0, (suc at.0, omega arith, at.2), found.2, found.3)
    ]

-- no row has the name of another
abbrev have_other_names : List Form → Bool
have_other_names [] = true
have_other_names (form ∷ more) =
    list_all (λ f. not (bytes_eq f.name form.name)) more && have_other_names more

-- what passes for all rows passes for one of them
row_passes : (test : Form → Bool) (fs : List Form) (form : Form) → Contains fs form
    → list_all test fs ≡ true → test form ≡ true
row_passes test [] form at h = absurd (omega arith)
row_passes test (first ∷ more) form (zero, lt, is) h =
    subst (λ (f : Form). test f ≡ true) is (and_parts (test first) (list_all test more) h).0
row_passes test (first ∷ more) form (suc k, lt, is) h =
    row_passes test more form (k, omega arith, is) (and_parts (test first) (list_all test more) h).1

not_true : (b : Bool) → not b ≡ true → b ≡ false
not_true true e = absurd cc
not_true false e = refl

-- a row is found by its name
named-row : (fs : List Form) (form : Form) (ws : List (List ℕ)) → have_other_names fs ≡ true
    → Contains fs form → named fs form.name ws ≡ read_as form ws
named-row [] form ws other at = absurd (omega arith)
named-row (first ∷ more) form ws other (zero, lt, is) =
    rw (← is, bytes_eq-same first.name first.name refl) refl
named-row (first ∷ more) form ws other (suc k, lt, is) =
    let tested = and_parts (list_all (λ f. not (bytes_eq f.name first.name)) more) (have_other_names more) other in
    let at : Contains more form = (k, omega arith, is) in
    let differs = row_passes (λ f. not (bytes_eq f.name first.name)) more form at tested.0 in
    rw (not_true (bytes_eq form.name first.name) differs) (named-row more form ws tested.1 at)

-- ---- no space in the words of an event

Lacks-kind : (k : FlushKind) → Lacks (kind_text k)
Lacks-kind Due = refl
Lacks-kind All = refl

Lacks-ending : (k : EndKind) → Lacks (ending_text k)
Lacks-ending Kept = refl
Lacks-ending Lost = refl

Lacks-text_at : (kind : Kind) (x : Meaning kind) → Fits kind x → Lacks (text_at kind x)
Lacks-text_at Long n r = Lacks-decimal n r
Lacks-text_at Short n r = Lacks-decimal n (omega arith)
Lacks-text_at Hex bytes r = Lacks-hex_text bytes r
Lacks-text_at Sixteen bytes r = Lacks-encode_lower bytes r.0
Lacks-text_at Salt bytes r = Lacks-hex_text bytes r.0
Lacks-text_at Closing kind r = Lacks-kind kind
Lacks-text_at Ending kind r = Lacks-ending kind

AllLack-texts : (fields : List Field) → AllFit fields → AllLack (texts fields)
AllLack-texts [] fit = tt
AllLack-texts (f ∷ fields) fit = (Lacks-text_at f.0 f.1 fit.0, AllLack-texts fields fit.1)

Lacks-name : (form : Form) → Contains forms form → Lacks form.name
Lacks-name form at =
    not_true (list_any (λ b. b == 32) form.name) (row_passes (λ f. not (list_any (λ b. b == 32) f.name)) forms form at refl)

pub is_ascii-name : (form : Form) → Contains forms form
    → list_all (λ b. nat_lt b 128) form.name ≡ true
is_ascii-name form at = row_passes (λ f. list_all (λ b. nat_lt b 128) f.name) forms form at refl

-- ---- a line is an event exactly where it is the event's line

of_words-some : (ws : List (List ℕ)) (e : Event) → of_words ws ≡ Some e
    → (s : Spelling e) × AllFit (said s).1 × (ws ≡ (said s).0 ∷ texts (said s).1)
unfolding of_words
of_words-some [] e h = absurd cc
of_words-some (name ∷ ws) e h =
    let found = named-some forms name ws e h in
    let form = found.0 in
    let made_of = mapped_some (made form.kinds form.make) (read_all form.kinds ws) e found.3 in
    let values = made_of.0 in
    let words_are = read_all-some form.kinds ws values made_of.1 in (
      record { form = form; is_row = found.1; values = values; makes = made_of.2 },
      words_are.0,
      same_row found.2 words_are.1,
    )
  where
    same_row : {v w : List ℕ} {vs ws : List (List ℕ)} → v ≡ w → vs ≡ ws → v ∷ vs ≡ w ∷ ws
    same_row p q = cc

of_words-said : (e : Event) (s : Spelling e) → AllFit (said s).1
    → of_words ((said s).0 ∷ texts (said s).1) ≡ Some e
unfolding of_words
of_words-said e s fit =
    named-row forms s.form (texts (said s).1) refl s.is_row
    ∙ ap (option_map (made s.form.kinds s.form.make)) (read_all-texts s.form.kinds s.values fit)
    ∙ ap Some s.makes

pub event_of-some : (line : List ℕ) (e : Event) → (event_of line ≡ Some e) ↔ IsLineOf e line
event_of-some line e = (
  λ h.
      let s = of_words-some (words line) e h in
      record {
        spelling = s.0;
        fits = s.1;
        spells = sym (join_with_byte-slice_split 32 line) ∙ ap (join_with_byte 32) s.2;
      },
  λ l.
      let s = l.spelling in
      let lack : AllLack ((said s).0 ∷ texts (said s).1) = (Lacks-name s.form s.is_row, AllLack-texts (said s).1 l.fits) in
      ap event_of l.spells ∙ ap of_words (words-join (said s).0 (texts (said s).1) lack)
      ∙ of_words-said e s l.fits,
)
