-- What is known of results, of words in a list, and of fronts of bytes.
use Rattle.std.proofs.Common.{◌≡◌, ℕ, ◌+◌, arith, slice_index_or, true, List, [], ◌∷◌, ◌++◌, length, map, take, drop, Option, Some, None, Result, Ok, Err, refl, sym, ap, ◌∙◌, append_assoc}
use Rattle.std.specs.Prelude.{MatchResult, IsErrAnd, IfSome, Bool, false, IsTrue}
use Rattle.std.specs.Io.KnownBytes.{Appends, Consumes, Keeps}
use Rattle.std.proofs.lemmas.List.{append-nil, take-append-drop, length-map}
use Rattle.std.specs.Str.{bytes_eq}
use Rattle.fwd_script.specs.Program.{words_behind}
use Rattle.fwd_script.proofs.ReplayLemmas.{Appends-then}
use Rattle.fwd_script.proofs.WordLemmas.{bytes_eq-true, bytes_eq-same}

-- what an error shows, at a result that is one
pub match_err : {T E : Type 0} (r : Result T E) (A : T → Type 0) (P Q : E → Type 0)
    → IsErrAnd r P → ((e : E) → P e → Q e) → MatchResult r A Q
match_err (Ok x) A P Q h f = absurd h
match_err (Err e) A P Q h f = f e h

pub Keeps-same : (known : Option (List ℕ)) → Keeps known known
Keeps-same None = tt
Keeps-same (Some xs) = refl

pub Keeps-none : (old new : Option (List ℕ)) → Keeps old new → Appends old new []
Keeps-none None new h = tt
Keeps-none (Some xs) None h = absurd h
Keeps-none (Some xs) (Some ys) h = h ∙ sym (append-nil xs)

-- all that is known to be left, or nothing
pub left_or_none : (known : Option (List ℕ)) → (xs : List ℕ)
    × IfSome known (λ left. xs ≡ left)
left_or_none None = ([], tt)
left_or_none (Some xs) = (xs, refl)

pub Consumes-then : (a b c : Option (List ℕ)) (x y : List ℕ) → Consumes a b x
    → Consumes b c y → Consumes a c (x ++ y)
Consumes-then None b c x y p q = tt
Consumes-then (Some as_) None c x y p q = absurd p
Consumes-then (Some as_) (Some bs) None x y p q = absurd q
Consumes-then (Some as_) (Some bs) (Some cs) x y p q = p ∙ ap (λ (t : List ℕ). x ++ t) q ∙ sym (append_assoc x y cs)

-- some bytes were written of what was left, behind those before
pub write-more : (bytes done rest : List ℕ) (count : ℕ) (a b c : Option (List ℕ))
    → bytes ≡ done ++ rest → Appends a b done → Appends b c (take count rest)
    → (all : List ℕ) × (bytes ≡ all ++ drop count rest) × Appends a c all
write-more bytes done rest count a b c parts before more = (
  done ++ take count rest,
  parts ∙ ap (λ (t : List ℕ). done ++ t) (sym (take-append-drop count rest)) ∙ sym (append_assoc done (take count rest) (drop count rest)),
  Appends-then a b c done (take count rest) before more,
)

-- ---- words

pub behind-length : {A : Type 0} (f : A
    → List ℕ) (xs : List A) (word : List ℕ) (words : List (List ℕ))
    → words_behind (map f xs) ≡ word ∷ words → length xs ≡ length words + 2
behind-length f [] word words e = absurd cc
behind-length f (name ∷ xs) word words e =
    let same : length (map f xs) ≡ length (word ∷ words) = ap (length {A = List ℕ}) e in
    omega (arith, length-map xs f)

pub second : {A : Type 0} (f : A → List ℕ) (xs : List A) (x : A) → length xs ≡ 2
    → x ≡ slice_index_or xs 1 x → words_behind (map f xs) ≡ f x ∷ []
second f [] x len is = absurd (omega arith)
second f (a ∷ []) x len is = absurd (omega arith)
second f (a ∷ b ∷ []) x len is = ap (λ y. f y ∷ []) (sym is)
second f (a ∷ b ∷ c ∷ xs) x len is = absurd (omega arith)

pub third : {A : Type 0} (f : A → List ℕ) (xs : List A) (x y : A) → length xs ≡ 3
    → x ≡ slice_index_or xs 1 x → y ≡ slice_index_or xs 2 y
    → words_behind (map f xs) ≡ f x ∷ f y ∷ []
third f [] x y len is behind = absurd (omega arith)
third f (a ∷ []) x y len is behind = absurd (omega arith)
third f (a ∷ b ∷ []) x y len is behind = absurd (omega arith)
third f (a ∷ b ∷ c ∷ []) x y len is behind = ap (λ z. f z ∷ f c ∷ []) (sym is) ∙ ap (λ z. f x ∷ f z ∷ []) (sym behind)
third f (a ∷ b ∷ c ∷ d ∷ xs) x y len is behind = absurd (omega arith)

-- one word is the one that is asked for exactly where it has its bytes
pub one_word : (said word : List ℕ) (b : Bool) (words : List (List ℕ))
    → b ≡ bytes_eq said word → words ≡ said ∷ []
    → (IsTrue b → words ≡ word ∷ []) × (words ≡ word ∷ [] → IsTrue b)
one_word said word true words e is = ((λ t. is ∙ ap (λ w. w ∷ []) (bytes_eq-true said word (sym e))), (λ h. refl))
one_word said word false words e is = (
  (λ t. absurd cc),
  (λ h.
      let same : said ≡ word = cc in
      let yes : bytes_eq said word ≡ true = bytes_eq-same said word same in
      absurd cc),
)
