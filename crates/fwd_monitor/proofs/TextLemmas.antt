-- Bytes that are UTF-8, those that are not, and texts one after another.
use Rattle.std.proofs.Common.{◌≡◌, ℕ, List, ◌++◌, true, false, inl, inr, sym, ap, ◌∙◌, append_assoc}
use Rattle.std.specs.Str.{IsUtf8, is_utf8}
use Rattle.std.proofs.lemmas.Bool.{cases_Bool}
use Rattle.std.proofs.lemmas.Str.{IsUtf8-from_is_utf8, is_utf8-from_IsUtf8}

-- bytes that are UTF-8 pass the test
pub utf8-true : (text : List ℕ) → IsUtf8 text → true ≡ is_utf8 text
utf8-true text is = sym (is_utf8-from_IsUtf8 text is)

-- others do not
pub utf8-false : (text : List ℕ) → ¬ (IsUtf8 text) → false ≡ is_utf8 text
utf8-false text never = elim (cases_Bool (is_utf8 text)) [
  | inl utf8 ↦ absurd (never (IsUtf8-from_is_utf8 text utf8))
  | inr other ↦ sym other
]

-- a text to which two were added, one after the other
pub added : (o a b s t : List ℕ) → s ≡ o ++ a → t ≡ s ++ b → t ≡ o ++ (a ++ b)
added o a b s t x y = y ∙ ap (λ (l : List ℕ). l ++ b) x ∙ regroup o a b
  where
    regroup : (o a b : List ℕ) → (o ++ a) ++ b ≡ o ++ (a ++ b)
    regroup o a b = simp append_assoc
