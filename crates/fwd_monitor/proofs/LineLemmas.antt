-- The lines of a head, counted by their line feeds.
use Rattle.std.proofs.Common.{◌≡◌, ◌≢◌, ℕ, ◌+◌, ◌<◌, ◌≤◌, ◌⊎◌, inl, inr, Bool, true, false, List, [], ◌∷◌, ◌++◌, length, refl, sym, ap, subst, ◌∙◌, arith, append-nil, append_assoc}
use Rattle.std.specs.Prelude.{All}
use Rattle.std.specs.List.{flat_map}
use Rattle.std.proofs.lemmas.Bool.Decides.{nat_tests}
use Rattle.std.proofs.lemmas.List.Elements.{All-head, All-tail}
use Rattle.httparse.specs.Grammar.{is_token_byte, is_value_byte, AllPass, IsToken, LineEnd, crlf, lf, print_end, print_blank, print_version, Field, print_field, IsField}
use Rattle.httparse.proofs.GrammarLemmas.{cons-append}
use Rattle.fwd_monitor.specs.Lines.{lines_from}

-- ---- bytes in a row

-- a longer front has no fewer lines
pub lines-front : (begun : Bool) (a b : List ℕ) → lines_from begun a ≤ lines_from begun (a ++ b)
lines-front begun [] b = omega arith
lines-front true (x ∷ a) b = grind (arith, nat_tests, lines-front true a b)
lines-front false (x ∷ a) b =
    grind (arith, nat_tests, lines-front true a b, lines-front false a b)

-- once a line has begun, each line feed behind counts
pub lines-append : (a b : List ℕ)
    → lines_from true (a ++ b) ≡ lines_from true a + lines_from true b
lines-append [] b = omega arith
lines-append (x ∷ a) b = grind (arith, nat_tests, lines-append a b)

-- the same, where a line has come
pub lines-behind : (a b : List ℕ) → 0 < lines_from false a
    → lines_from false (a ++ b) ≡ lines_from false a + lines_from true b
lines-behind [] b some = absurd (omega arith)
lines-behind (x ∷ a) b some = grind (arith, nat_tests, lines-append a b, lines-behind a b)

-- one line feed more is at most one line more
pub lines-one : (begun : Bool) (a : List ℕ)
    → lines_from begun (a ++ 10 ∷ []) ≤ lines_from begun a + 1
lines-one true [] = omega arith
lines-one false [] = omega arith
lines-one true (x ∷ a) = grind (arith, nat_tests, lines-one true a)
lines-one false (x ∷ a) = grind (arith, nat_tests, lines-one true a, lines-one false a)

-- the parts of no bytes are none
no-parts : (a x : List ℕ) → a ++ x ≡ [] → x ≡ []
no-parts [] x e = e
no-parts (y ∷ a) x e = let size = ap length e in absurd (omega (arith, size))

-- behind bytes that end in a line feed, bytes without one that end so too are none
pub no-more : (a x b : List ℕ) → a ++ x ≡ b ++ 10 ∷ [] → lines_from true x ≡ 0 → x ≡ []
no-more [] x b e none =
    let feeds : lines_from true x ≡ lines_from true b + 1 =
    subst (λ (t : List ℕ). lines_from true t ≡ lines_from true b + 1) (sym e)
    (lines-append b (10 ∷ [])) in
    absurd (omega arith)
no-more (y ∷ a) x [] e none = no-parts a x (cc)
no-more (y ∷ a) x (z ∷ b) e none = no-more a x b (cc) none

-- of two fronts of the same bytes one is the front of the other
pub two-fronts : (a b c d : List ℕ) → a ++ b ≡ c ++ d
    → ((x : List ℕ) × (a ≡ c ++ x)) ⊎ ((x : List ℕ) × (c ≡ a ++ x))
two-fronts [] b c d e = inr (c, refl)
two-fronts (y ∷ a) b [] d e = inl (y ∷ a, refl)
two-fronts (y ∷ a) b (z ∷ c) d e =
    elim (two-fronts a b c d (cc)) [
      | inl (x, is) ↦ inl (x, cc)
      | inr (x, is) ↦ inr (x, cc)
    ]

-- ---- the parts of a head

-- bytes that are no line feeds end no line
pub lines-run : (test : ℕ → Bool) (bytes rest : List ℕ) → test 10 ≡ false → AllPass test bytes
    → lines_from true (bytes ++ rest) ≡ lines_from true rest
lines-run test [] rest not all = refl
lines-run test (b ∷ bytes) rest not all =
    let passes : test b ≡ true = All-head (λ (v : ℕ). test v ≡ true) b bytes all in
    let other : b ≢ 10 = λ is. let both : true ≡ false =
    sym passes ∙ ap (λ (v : ℕ). test v) is ∙ not in cc in
    let next = lines-run test bytes rest not (All-tail (λ (v : ℕ). test v ≡ true) b bytes all) in
    grind (arith, nat_tests, other, next)

-- no line feed is a byte of a token
token-feed : is_token_byte 10 ≡ false
unfolding is_token_byte
token-feed = refl

-- nor is a carriage return
token-return : is_token_byte 13 ≡ false
unfolding is_token_byte
token-return = refl

-- a line end ends a line
pub lines-end : (end : LineEnd) (rest : List ℕ)
    → lines_from true (print_end end ++ rest) ≡ lines_from true rest + 1
lines-end crlf rest = omega arith
lines-end lf rest = omega arith

-- empty lines before the first line do not count
pub lines-blank : (ends : List LineEnd) (rest : List ℕ)
    → lines_from false (print_blank ends ++ rest) ≡ lines_from false rest
lines-blank [] rest = refl
lines-blank (crlf ∷ ends) rest = lines-blank ends rest
lines-blank (lf ∷ ends) rest = lines-blank ends rest

-- a token begins a line, and ends none
pub lines-token : (token rest : List ℕ) → IsToken token
    → lines_from false (token ++ rest) ≡ lines_from true rest
lines-token [] rest is = let some = is.0 in absurd (omega (arith, some))
lines-token (b ∷ token) rest is =
    let passes : is_token_byte b ≡ true = All-head (λ (v : ℕ). is_token_byte v ≡ true) b token is.1 in
    let no_feed : b ≢ 10 = λ same. let both : true ≡ false =
    sym passes ∙ ap is_token_byte same ∙ token-feed in cc in
    let no_return : b ≢ 13 = λ same. let both : true ≡ false =
    sym passes ∙ ap is_token_byte same ∙ token-return in cc in
    let next = lines-run is_token_byte token rest token-feed (All-tail (λ (v : ℕ). is_token_byte v ≡ true) b token is.1) in
    grind (arith, nat_tests, no_feed, no_return, next)

-- a version ends no line
pub lines-version : (minor : ℕ) (rest : List ℕ) → minor ≤ 1
    → lines_from true (print_version minor ++ rest) ≡ lines_from true rest
lines-version minor rest small = grind (arith, nat_tests)

-- the parts of a header line
field-row : (f : Field) (rest : List ℕ) → print_field f ++ rest
    ≡ f.name ++ (58 ∷ (f.raw ++ (print_end f.end ++ rest)))
field-row f rest = regroup f.name f.raw (print_end f.end) rest
  where
    regroup : (a b c r : List ℕ) → (a ++ 58 ∷ b ++ c) ++ r ≡ a ++ (58 ∷ (b ++ (c ++ r)))
    regroup a b c r = simp (append_assoc, cons-append)

-- a header line is a line
pub lines-field : (f : Field) (rest : List ℕ) → IsField f
    → lines_from true (print_field f ++ rest) ≡ lines_from true rest + 1
lines-field f rest is =
    ap (λ (t : List ℕ). lines_from true t) (field-row f rest)
    ∙ lines-run is_token_byte f.name (58 ∷ (f.raw ++ (print_end f.end ++ rest)))
    token-feed is.name.1
    ∙ lines-run is_value_byte f.raw (print_end f.end ++ rest) refl is.raw
    ∙ lines-end f.end rest

-- so many header lines are so many lines
pub lines-fields : (fs : List Field) (rest : List ℕ) → All IsField fs
    → lines_from true (flat_map print_field fs ++ rest) ≡ lines_from true rest + length fs
lines-fields [] rest all = omega arith
lines-fields (f ∷ fs) rest all =
    let first = lines-field f (flat_map print_field fs ++ rest) (All-head IsField f fs all) in
    let next = lines-fields fs rest (All-tail IsField f fs all) in
    let row = append_assoc (print_field f) (flat_map print_field fs) rest in
    let counts : lines_from true (flat_map print_field (f ∷ fs) ++ rest)
    ≡ lines_from true (flat_map print_field fs ++ rest) + 1 =
    ap (λ (t : List ℕ). lines_from true t) row ∙ first in
    omega (arith, counts, next)

-- a line end ends in a line feed
pub print-end-feed : (end : LineEnd) → (front : List ℕ) × (print_end end ≡ front ++ 10 ∷ [])
print-end-feed crlf = (13 ∷ [], refl)
print-end-feed lf = ([], refl)

-- header lines end in a line feed
pub fields-end : (fs : List Field) → 0 < length fs
    → (front : List ℕ) × (flat_map print_field fs ≡ front ++ 10 ∷ [])
fields-end [] some = absurd (omega arith)
fields-end (f ∷ []) some =
    let last = print-end-feed f.end in
    let front = f.name ++ (58 ∷ (f.raw ++ last.0)) in
    (front, field-row f [] ∙ regroup f.name f.raw (print_end f.end) last.0 last.1)
  where
    regroup : (a b c d : List ℕ) → c ≡ d ++ 10 ∷ []
        → a ++ (58 ∷ (b ++ (c ++ []))) ≡ (a ++ (58 ∷ (b ++ d))) ++ 10 ∷ []
    regroup a b c d is = rw is (simp (append_assoc, cons-append, append-nil))
fields-end (f ∷ g ∷ fs) some =
    let next = fields-end (g ∷ fs) (omega arith) in (
      print_field f ++ next.0,
      ap (λ (t : List ℕ). print_field f ++ t) next.1
          ∙ sym (append_assoc (print_field f) next.0 (10 ∷ [])),
    )
