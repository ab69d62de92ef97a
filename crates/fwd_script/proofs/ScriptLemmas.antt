-- The lines of a text, and the parts of a script, as one line after the other is taken from the
-- front.
use Rattle.std.proofs.Common.{◌≡◌, ℕ, suc, ◌+◌, ◌-◌, ◌<◌, ◌≤◌, ◌==◌, Bool, true, false, List, [], ◌∷◌, ◌++◌, length, get_or, take, drop, add-one, drop-cons, refl, sym, ap, ◌∙◌, arith, append_assoc, length-append, ◌⊎◌, inl, inr}
use Rattle.std.specs.List.{list_any, flat_map}
use Rattle.std.proofs.lemmas.List.{append-nil, take_at, take-append-drop}
use Rattle.fwd_script.specs.Script.{lines_of, is_rule, event_lines, head_len, settings_lines, ended, settings_of, IsFirstLine, IsScript}
use Rattle.fwd_script.proofs.HexText.{or_false}
use Rattle.fwd_script.proofs.WordLemmas.{bytes_eq-true}
use Rattle.std.specs.Prelude.{codes}

-- no line feed stands in the bytes
abbrev pub OneLine : List ℕ → Type 0
OneLine bytes = list_any (λ b. b == 10) bytes ≡ false

lines_of-ended : (line after : List ℕ) → OneLine line
    → lines_of (line ++ 10 ∷ after) ≡ line ∷ lines_of after
lines_of-ended [] after h = refl
lines_of-ended (b ∷ line) after h =
    let parts = or_false (b == 10) (list_any (λ x. x == 10) line) h in
    rw (parts.0, lines_of-ended line after parts.1) refl

lines_of-last : (b : ℕ) (line : List ℕ) → OneLine (b ∷ line)
    → lines_of (b ∷ line) ≡ (b ∷ line) ∷ []
lines_of-last b [] h =
    let parts = or_false (b == 10) false h in
    rw parts.0 refl
lines_of-last b (c ∷ line) h =
    let parts = or_false (b == 10) (list_any (λ x. x == 10) (c ∷ line)) h in
    rw (parts.0, lines_of-last c line parts.1) refl

pub first_line-ended : (text line after : List ℕ) → OneLine line
    → text ≡ line ++ 10 ∷ after → IsFirstLine text line after
first_line-ended text line after one is = record {
  lines = ap lines_of is ∙ lines_of-ended line after one;
  parts = inl (is ∙ sym (append_assoc line (10 ∷ []) after));
  shorter = let len = ap length is in omega (arith, len, length-append line (10 ∷ after));
}

pub first_line-last : (text : List ℕ) → OneLine text → 0 < length text
    → IsFirstLine text text []
first_line-last [] one some = absurd (omega arith)
first_line-last (b ∷ text) one some = record { lines = lines_of-last b text one; parts = inr (refl, refl); shorter = omega arith }

-- a line feed at an index, and none before
pub first_line-at : (text : List ℕ) (i : ℕ) → i < length text → get_or text i 0 ≡ 10
    → OneLine (take i text) → IsFirstLine text (take i text) (drop (i + 1) text)
first_line-at text i lt feed one =
    let rest : drop i text ≡ get_or text i 0 ∷ drop (suc i) text = drop-cons text i 0 lt in
    let whole : text ≡ take i text ++ drop i text = sym (take-append-drop i text) in
    first_line-ended text (take i text) (drop (i + 1) text) one
    (whole ∙ ap (λ (t : List ℕ). take i text ++ t) (rest ∙ ap (λ (b : ℕ). b ∷ drop (suc i) text) feed) ∙ rw add-one refl)

-- ---- the lines taken so far, none of which ends the settings

pub record IsSplit (script rest : List ℕ) (count : ℕ) : Type 0 where
  pub seen : List (List ℕ)
  pub lines : lines_of script ≡ seen ++ lines_of rest
  pub no_rule : list_any is_rule seen ≡ false
  pub text : (script ≡ flat_map ended seen ++ rest) ⊎ (rest ≡ [])
  pub counted : count ≡ length seen
  pub fits : count + length rest ≤ length script

pub IsSplit-none : (script : List ℕ) → IsSplit script script 0
IsSplit-none script = record { seen = []; lines = refl; no_rule = refl; text = inl refl; counted = refl; fits = omega arith }

list_any-push : (p : List ℕ → Bool) (xs : List (List ℕ)) (y : List ℕ)
    → list_any p xs ≡ false → p y ≡ false → list_any p (xs ++ y ∷ []) ≡ false
list_any-push p [] y h e = rw e refl
list_any-push p (x ∷ xs) y h e =
    let parts = or_false (p x) (list_any p xs) h in
    rw parts.0 (list_any-push p xs y parts.1 e)

flat_map-push : (xs : List (List ℕ)) (y : List ℕ)
    → flat_map ended (xs ++ y ∷ []) ≡ flat_map ended xs ++ ended y
flat_map-push [] y = append-nil (ended y)
flat_map-push (x ∷ xs) y = ap (λ (t : List ℕ). ended x ++ t) (flat_map-push xs y) ∙ sym (append_assoc (ended x) (flat_map ended xs) (ended y))

pub IsSplit-more : (script rest : List ℕ) (count : ℕ) (line after : List ℕ)
    → IsSplit script rest count → IsFirstLine rest line after → is_rule line ≡ false
    → IsSplit script after (count + 1)
IsSplit-more script rest count line after s f other =
    let counted = s.counted in
    let fits = s.fits in
    let shorter = f.shorter in
    record {
      seen = s.seen ++ line ∷ [];
      lines = s.lines ∙ ap (λ (ls : List (List ℕ)). s.seen ++ ls) f.lines ∙ sym (append_assoc s.seen (line ∷ []) (lines_of after));
      no_rule = list_any-push is_rule s.seen line s.no_rule other;
      text =
          elim f.parts [
            | inr last ↦ inr last.1
            | inl whole ↦
                elim s.text [
                  | inr none ↦ absurd (let short : length rest ≡ 0 = ap length none in omega arith)
                  | inl text ↦ inl (text ∙ ap (λ (t : List ℕ). flat_map ended s.seen ++ t) whole ∙ sym (append_assoc (flat_map ended s.seen) (ended line) after) ∙ ap (λ (t : List ℕ). t ++ after) (sym (flat_map-push s.seen line)))
                ]
          ];
      counted = omega (arith, length-append s.seen (line ∷ []));
      fits = omega arith;
    }

-- ---- at the line that ends the settings, and at the end of a script without one

event_lines-rule : (seen : List (List ℕ)) (line : List ℕ) (more : List (List ℕ))
    → list_any is_rule seen ≡ false → is_rule line ≡ true
    → (event_lines (seen ++ line ∷ more) ≡ more) × (settings_lines (seen ++ line ∷ more) ≡ seen) ×
    (head_len (seen ++ line ∷ more) ≡ length seen + 1) ×
    (list_any is_rule (seen ++ line ∷ more) ≡ true)
event_lines-rule [] line more none rule = (rw rule refl, rw rule refl, rw rule refl, rw rule refl)
event_lines-rule (first ∷ seen) line more none rule =
    let parts = or_false (is_rule first) (list_any is_rule seen) none in
    let ih = event_lines-rule seen line more parts.1 rule in
    (rw parts.0 ih.0, rw parts.0 (ap (λ (ls : List (List ℕ)). first ∷ ls) ih.1), rw parts.0 (ap suc ih.2 ∙ omega arith), rw parts.0 ih.3)

event_lines-none : (seen : List (List ℕ)) → list_any is_rule seen ≡ false
    → (event_lines seen ≡ []) × (head_len seen ≡ length seen)
event_lines-none [] none = (refl, refl)
event_lines-none (first ∷ seen) none =
    let parts = or_false (is_rule first) (list_any is_rule seen) none in
    let ih = event_lines-none seen parts.1 in
    (rw parts.0 ih.0, rw parts.0 (ap suc ih.1))

-- what stands before the rest
front-at : (script front rest : List ℕ) → script ≡ front ++ rest
    → take (length script - length rest) script ≡ front
front-at script front rest text =
    let len : length script ≡ length (front ++ rest) = ap length text in
    let size : length script - length rest ≡ length front = omega (arith, length-append front rest) in
    rw (size, text) (take_at front rest (length front) refl)

pub IsSplit-rule : (script rest : List ℕ) (count : ℕ) (line after : List ℕ)
    → IsSplit script rest count → IsFirstLine rest line after → is_rule line ≡ true
    → (take (length script - length rest) script ≡ settings_of script) ×
    (lines_of after ≡ event_lines (lines_of script)) × (count + 1 ≡ head_len (lines_of script))
IsSplit-rule script rest count line after s f rule =
    let whole : lines_of script ≡ s.seen ++ line ∷ lines_of after = s.lines ∙ ap (λ (ls : List (List ℕ)). s.seen ++ ls) f.lines in
    let at = event_lines-rule s.seen line (lines_of after) s.no_rule rule in
    let counted = s.counted in
    let found : settings_of script ≡ flat_map ended s.seen = rw (whole, at.3, at.1) refl in
    let front : take (length script - length rest) script ≡ flat_map ended s.seen =
    elim s.text [
      | inr none ↦ absurd (let short : length rest ≡ 0 = ap length none in let shorter = f.shorter in omega arith)
      | inl text ↦ front-at script (flat_map ended s.seen) rest text
    ] in
    (front ∙ sym found, sym (ap event_lines whole ∙ at.0), rw whole (omega (arith, at.2)))

-- the line that ends the settings stands between the two parts
pub IsSplit-parts : (script rest : List ℕ) (count : ℕ) (line after : List ℕ)
    → IsSplit script rest count → IsFirstLine rest line after → is_rule line ≡ true
    → IsScript script (take (length script - length rest) script) after
IsSplit-parts script rest count line after s f rule =
    let dashes : line ≡ codes "---" = bytes_eq-true line (codes "---") rule in
    let shorter = f.shorter in
    elim s.text [
      | inr none ↦ absurd (let short : length rest ≡ 0 = ap length none in omega arith)
      | inl text ↦
          let front = front-at script (flat_map ended s.seen) rest text in
          elim f.parts [
            | inl whole ↦ inl (text ∙ ap (λ (t : List ℕ). flat_map ended s.seen ++ t) (whole ∙ ap (λ (l : List ℕ). ended l ++ after) dashes) ∙ sym (ap (λ (t : List ℕ). t ++ (ended (codes "---") ++ after)) front))
            | inr last ↦ inr (inl (text ∙ ap (λ (t : List ℕ). flat_map ended s.seen ++ t) (last.0 ∙ dashes) ∙ sym (ap (λ (t : List ℕ). t ++ codes "---") front)), last.1)
          ]
    ]

pub IsSplit-end : (script : List ℕ) (count : ℕ) (rest : List ℕ) → rest ≡ []
    → IsSplit script rest count
    → (script ≡ settings_of script) × (lines_of rest ≡ event_lines (lines_of script)) ×
    (count ≡ head_len (lines_of script))
IsSplit-end script count rest none s =
    let whole : lines_of script ≡ s.seen = s.lines ∙ ap (λ (t : List ℕ). s.seen ++ lines_of t) none ∙ append-nil s.seen in
    let at = event_lines-none s.seen s.no_rule in
    let counted = s.counted in
    (rw (whole, s.no_rule) refl, ap lines_of none ∙ sym (ap event_lines whole ∙ at.0), rw whole (omega (arith, at.1)))
