-- Each event is made by one row of the table alone.
use Rattle.std.proofs.Common.{◌≡◌, ℕ, zero, suc, List, [], ◌∷◌, refl, sym, subst, ◌∙◌, arith}
use Rattle.std.specs.Prelude.{Contains}
use Rattle.fwd_model.specs.declared.event.Event.{Event}
use Rattle.fwd_model.specs.declared.event.Event.TheVariants.{Shut, Take}
use Rattle.fwd_model.specs.Wanted.TheVariants.{Any, Fresh}
use Rattle.fwd_script.specs.Lines.{Kind, Meaning, Makes, Form, forms, Values, made, Field, fields_of, Spelling, said, HasLines, HasOneSpelling}

-- P holds of what is made of any values
abbrev OfEach : (kinds : List Kind) → Makes kinds → (Event → Type 0) → Type 0
OfEach [] event P = P event
OfEach (kind ∷ kinds) make P = (x : Meaning kind) → OfEach kinds (make x) P

-- Q follows where P holds of what each form makes
abbrev Follows : List Form → (Event → Type 0) → Type 0 → Type 0
Follows [] P Q = Q
Follows (form ∷ more) P Q = OfEach form.kinds form.make P → Follows more P Q

-- what holds of what each row makes holds of each event that lines tell of: one row makes it. The
-- first clauses split the events, and the last is checked for each of the others, so that none is
-- listed here
by_rows : (P : Event → Type 0) (e : Event) → HasLines e → Follows forms P (P e)
by_rows P (Shut conn) lines = search
by_rows P (Take output worker now Any) lines = search
by_rows P (Take output worker now Fresh) lines = absurd lines
by_rows P e lines = search

of_each : (kinds : List Kind) (make : Makes kinds) (P : Event → Type 0)
    → ((values : Values kinds) → P (made kinds make values)) → OfEach kinds make P
of_each [] event P h = h tt
of_each (kind ∷ kinds) make P h = λ x. of_each kinds (make x) P (λ values. h (x, values))

followed : (fs : List Form) (P : Event → Type 0) (Q : Type 0)
    → ((form : Form) → Contains fs form → (values : Values form.kinds)
    → P (made form.kinds form.make values))
    → Follows fs P Q → Q
followed [] P Q h q = q
followed (form ∷ more) P Q h q =
    followed more P Q (λ f at. h f (suc at.0, omega arith, at.2)) (q (of_each form.kinds form.make P (h form (zero, omega arith, refl))))

by_form : (P : Event → Type 0)
    → ((form : Form) → Contains forms form → (values : Values form.kinds)
    → P (made form.kinds form.make values))
    → (e : Event) → HasLines e → P e
by_form P h e lines = followed forms P (P e) h (by_rows P e lines)

spelling_of : (e : Event) → HasLines e → Spelling e
spelling_of e lines =
    by_form Spelling (λ form at values. record { form = form; is_row = at; values = values; makes = refl }) e lines

-- the name of its row, and what the words behind it say
said_of : (e : Event) → HasLines e → List ℕ × List Field
said_of = by_form (λ _. List ℕ × List Field) (λ form _ values. (form.name, fields_of form.kinds values))

-- what a form makes is told of by lines, and said by it
abbrev Says : Form → Type 0
Says form =
    (values : Values form.kinds)
    → HasLines (made form.kinds form.make values)
    × ((lines : HasLines (made form.kinds form.make values))
    → said_of (made form.kinds form.make values) lines
    ≡ (form.name, fields_of form.kinds values))

abbrev AllSay : List Form → Type 0
AllSay [] = Unit {0}
AllSay (form ∷ more) = Says form × AllSay more

rows-say : AllSay forms
unfolding said_of by_form followed of_each by_rows
rows-say = assumption

row-says : (fs : List Form) (form : Form) → Contains fs form → AllSay fs → Says form
row-says [] form at all = absurd (omega arith)
row-says (first ∷ more) form (zero, lt, is) all = subst Says is all.0
row-says (first ∷ more) form (suc k, lt, is) all = row-says more form (k, omega arith, is) all.1

said_of-said : (e : Event) (lines : HasLines e) (s : Spelling e) → said_of e lines ≡ said s
said_of-said e lines s =
    subst (λ x. (has : HasLines x) → said_of x has ≡ (s.form.name, fields_of s.form.kinds s.values)) s.makes
    (row-says forms s.form s.is_row rows-say s.values).1 lines

pub has_one_spelling : (e : Event) → HasLines e → HasOneSpelling e
has_one_spelling e lines = record {
  spelling = spelling_of e lines;
  alone = λ other. sym (said_of-said e lines other) ∙ said_of-said e lines (spelling_of e lines);
}

pub spelled-has_lines : (e : Event) → Spelling e → HasLines e
spelled-has_lines e s =
    subst HasLines s.makes (row-says forms s.form s.is_row rows-say s.values).0
