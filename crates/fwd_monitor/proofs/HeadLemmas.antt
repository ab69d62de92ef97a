-- Heads with many header lines, by how many lines have come.
use Rattle.std.proofs.Common.{◌≡◌, ℕ, zero, suc, ◌+◌, ◌<◌, ◌≤◌, inl, inr, true, false, List, [], ◌∷◌, ◌++◌, length, take, drop, refl, sym, ap, subst, ◌∙◌, arith, append-nil, append_assoc}
use Rattle.std.specs.Prelude.{nat_lt}
use Rattle.std.specs.List.{flat_map}
use Rattle.std.proofs.lemmas.Bool.Decides.{nat_tests}
use Rattle.std.proofs.lemmas.Grind.{flat_map-append}
use Rattle.std.proofs.lemmas.List.{take-append-drop, length-take-le}
use Rattle.std.proofs.lemmas.List.Elements.{All-take}
use Rattle.httparse.specs.Grammar.{is_uri_byte, lf, print_end, print_blank, print_version, Field, print_field, IsField, RequestHead, print_request, IsRequestHead, ReadsRequest, HasNoRequest, MayBecomeRequest, EndsInTarget}
use Rattle.httparse.proofs.GrammarLemmas.{print_request-append, request_unique}
use Rattle.fwd_monitor.specs.declared.limits.TheConstants.{MAX_HEADERS}
use Rattle.fwd_monitor.specs.Lines.{head_lines, lines_from}
use Rattle.fwd_monitor.specs.Requests.{HasManyLines}
use Rattle.fwd_monitor.proofs.LineLemmas.{lines-front, lines-behind, lines-one, no-more, two-fronts, lines-run, lines-end, lines-blank, lines-token, lines-version, lines-fields, fields-end, print-end-feed}

-- ---- the front of a head, without the empty line at its end

-- the request line, with its end
abbrev start_text : RequestHead → List ℕ
start_text h =
    print_blank h.blank ++ (h.method ++ 32 ∷ (h.target ++ 32 ∷ (print_version h.minor
    ++ print_end h.line_end)))

-- the request line and the header lines, each with its end
abbrev front_text : RequestHead → List ℕ
front_text h = start_text h ++ flat_map print_field h.fields

-- a head is its front and an empty line
front-whole : (h : RequestHead) → print_request h ≡ front_text h ++ print_end h.last
front-whole h =
    sym (append-nil (print_request h))
    ∙ print_request-append h []
    ∙ regroup (print_blank h.blank) h.method h.target (print_version h.minor)
    (print_end h.line_end) (flat_map print_field h.fields) (print_end h.last)
  where
    regroup : (a b c d e f g : List ℕ)
        → a ++ (b ++ 32 ∷ (c ++ 32 ∷ (d ++ (e ++ ((f ++ g) ++ [])))))
        ≡ ((a ++ (b ++ 32 ∷ (c ++ 32 ∷ (d ++ e)))) ++ f) ++ g
    regroup a b c d e f g = simp (append_assoc, append-nil)

-- the head of the first so many headers, which ends in a line feed
abbrev cut : ℕ → RequestHead → RequestHead
cut n h = record h { fields = take n h.fields; last = lf }

-- it is a head
cut-head : (n : ℕ) (h : RequestHead) → IsRequestHead h → IsRequestHead (cut n h)
cut-head n h is = record {
  method = is.method;
  target = is.target;
  target_text = is.target_text;
  minor = is.minor;
  fields = All-take IsField n h.fields is.fields;
}

-- its front is a front of the whole head
cut-front : (n : ℕ) (h : RequestHead)
    → print_request h ≡ front_text (cut n h)
    ++ (flat_map print_field (drop n h.fields) ++ print_end h.last)
cut-front n h =
    front-whole h
    ∙ ap (λ (fs : List Field). (start_text h ++ flat_map print_field fs) ++ print_end h.last)
    (sym (take-append-drop n h.fields))
    ∙ ap (λ (t : List ℕ). (start_text h ++ t) ++ print_end h.last)
    (flat_map-append print_field (take n h.fields) (drop n h.fields))
    ∙ regroup (start_text h) (flat_map print_field (take n h.fields))
    (flat_map print_field (drop n h.fields)) (print_end h.last)
  where
    regroup : (a b c d : List ℕ) → (a ++ (b ++ c)) ++ d ≡ (a ++ b) ++ (c ++ d)
    regroup a b c d = simp (append_assoc)

-- ---- how many lines

-- the lines of a request line, and of what stands behind it
lines-start : (h : RequestHead) (rest : List ℕ) → IsRequestHead h
    → lines_from false (start_text h ++ rest) ≡ lines_from true rest + 1
lines-start h rest is =
    let behind = print_version h.minor ++ (print_end h.line_end ++ rest) in
    ap (λ (t : List ℕ). lines_from false t)
    (regroup (print_blank h.blank) h.method h.target (print_version h.minor)
    (print_end h.line_end) rest)
    ∙ lines-blank h.blank (h.method ++ 32 ∷ (h.target ++ 32 ∷ behind))
    ∙ lines-token h.method (32 ∷ (h.target ++ 32 ∷ behind)) is.method
    ∙ lines-run is_uri_byte h.target (32 ∷ behind) refl is.target.1
    ∙ lines-version h.minor (print_end h.line_end ++ rest) is.minor
    ∙ lines-end h.line_end rest
  where
    regroup : (a b c d e r : List ℕ)
        → (a ++ (b ++ 32 ∷ (c ++ 32 ∷ (d ++ e)))) ++ r
        ≡ a ++ (b ++ 32 ∷ (c ++ 32 ∷ (d ++ (e ++ r))))
    regroup a b c d e r = simp append_assoc

-- a front has a line for each header, and the request line
lines-front_text : (h : RequestHead) → IsRequestHead h
    → head_lines (front_text h) ≡ length h.fields + 1
lines-front_text h is =
    let fields = lines-fields h.fields [] is.fields in
    let same : flat_map print_field h.fields ++ [] ≡ flat_map print_field h.fields =
    append-nil (flat_map print_field h.fields) in
    let own = subst (λ (t : List ℕ). lines_from true t ≡ 0 + length h.fields) same fields in
    let start = lines-start h (flat_map print_field h.fields) is in
    omega (arith, own, start)

-- a whole head has one more
lines-whole : (h : RequestHead) → IsRequestHead h
    → head_lines (print_request h) ≡ length h.fields + 2
lines-whole h is =
    let front = lines-front_text h is in
    let more = lines-behind (front_text h) (print_end h.last) (omega (arith, front)) in
    let end = lines-end h.last [] in
    let same : lines_from true (print_end h.last) ≡ 1 =
    subst (λ (t : List ℕ). lines_from true t ≡ 1) (append-nil (print_end h.last)) end in
    let whole : head_lines (print_request h) ≡ head_lines (front_text h ++ print_end h.last) =
    ap head_lines (front-whole h) in
    omega (arith, front, more, same, whole)

-- bytes that end inside the target have no whole line
pub target-lines : (heard : List ℕ) → EndsInTarget heard → head_lines heard ≡ 0
target-lines heard (blank, method, target, token, all, is) =
    ap head_lines (is ∙ regroup (print_blank blank) method target)
    ∙ lines-blank blank _
    ∙ lines-token method _ token
    ∙ lines-run is_uri_byte target [] refl all
  where
    regroup : (a b c : List ℕ) → a ++ b ++ 32 ∷ c ≡ a ++ (b ++ 32 ∷ (c ++ []))
    regroup a b c = simp (append_assoc, append-nil)

-- a head ends in a line feed
whole-feed : (h : RequestHead) → (b : List ℕ) × (print_request h ≡ b ++ 10 ∷ [])
whole-feed h =
    let end = print-end-feed h.last in (
      front_text h ++ end.0,
      front-whole h
          ∙ ap (λ (t : List ℕ). front_text h ++ t) end.1
          ∙ sym (append_assoc (front_text h) end.0 (10 ∷ [])),
    )

-- ---- many header lines

-- where they stand, so many lines have come
pub many-lines : (heard : List ℕ) → HasManyLines heard → MAX_HEADERS + 1 < head_lines heard
many-lines heard (front, rest, is, h, reads, many) =
    let whole = lines-whole h reads.0 in
    let same : head_lines (front ++ 10 ∷ []) ≡ head_lines (print_request h) =
    ap head_lines (reads.1 ∙ append-nil (print_request h)) in
    let one = lines-one false front in
    let more = lines-front false front rest in
    let all : head_lines heard ≡ head_lines (front ++ rest) = ap head_lines is in
    omega (arith, whole, same, one, more, all, many)

-- the front of a head that begins so
cut-reads : (n : ℕ) (h : RequestHead) → IsRequestHead h
    → ReadsRequest (front_text (cut n h) ++ print_end lf) (cut n h) []
cut-reads n h is =
    (cut-head n h is, sym (append-nil (print_request (cut n h)) ∙ front-whole (cut n h)))

-- a head with many headers begins with many header lines
pub front-many : (heard : List ℕ) (h : RequestHead) (rest : List ℕ) → IsRequestHead h
    → heard ≡ front_text (cut (MAX_HEADERS + 1) h) ++ rest → MAX_HEADERS < length h.fields
    → HasManyLines heard
front-many heard h rest is begins many =
    let size = length-take-le (MAX_HEADERS + 1) h.fields (omega (arith, many)) in (
      front_text (cut (MAX_HEADERS + 1) h),
      rest,
      begins,
      cut (MAX_HEADERS + 1) h,
      cut-reads (MAX_HEADERS + 1) h is,
      omega (arith, size),
    )

-- so does a whole one
pub whole-many : (heard : List ℕ) (h : RequestHead) (rest : List ℕ) → ReadsRequest heard h rest
    → MAX_HEADERS < length h.fields → HasManyLines heard
whole-many heard h rest reads many =
    let behind = flat_map print_field (drop (MAX_HEADERS + 1) h.fields) ++ print_end h.last in
    front-many heard h (behind ++ rest) reads.0
    (reads.1 ∙ ap (λ (t : List ℕ). t ++ rest) (cut-front (MAX_HEADERS + 1) h)
    ∙ append_assoc (front_text (cut (MAX_HEADERS + 1) h)) behind rest) many

-- what an empty line makes a head does not begin with a whole head
front-open : (front : List ℕ) (h k : RequestHead) (y : List ℕ)
    → ReadsRequest (front ++ 10 ∷ []) h [] → IsRequestHead k → front ≡ print_request k ++ y → ⊥
front-open front h k y reads is e =
    let other : front ++ 10 ∷ [] ≡ print_request k ++ (y ++ 10 ∷ []) =
    ap (λ (t : List ℕ). t ++ 10 ∷ []) e ∙ append_assoc (print_request k) y (10 ∷ []) in
    let none : [] ≡ y ++ 10 ∷ [] =
    (request_unique (front ++ 10 ∷ []) h k [] (y ++ 10 ∷ []) reads (is, other)).1 in
    no-snoc y none
  where
    no-snoc : (y : List ℕ) → [] ≡ y ++ 10 ∷ [] → ⊥
    no-snoc [] e = let size = ap length e in omega (arith, size)
    no-snoc (z ∷ y) e = let size = ap length e in omega (arith, size)

-- so that a whole head which begins with many lines has many headers
front-fields : (front y : List ℕ) (h k : RequestHead)
    → ReadsRequest (front ++ 10 ∷ []) h [] → IsRequestHead k → print_request k ≡ front ++ y
    → MAX_HEADERS + 1 < head_lines front → MAX_HEADERS < length k.fields
front-fields front y h k reads is e lines =
    decide (lines_from true y) refl
  where
    whole : head_lines (front ++ y) ≡ length k.fields + 2
    whole = subst (λ (t : List ℕ). head_lines t ≡ length k.fields + 2) e (lines-whole k is)

    behind : head_lines (front ++ y) ≡ head_lines front + lines_from true y
    behind = lines-behind front y (omega (arith, lines))

    decide : (n : ℕ) → lines_from true y ≡ n → MAX_HEADERS < length k.fields
    decide zero none =
        let feed = whole-feed k in
        let nothing : y ≡ [] = no-more front y feed.0 (sym e ∙ feed.1) none in
        let same : front ≡ print_request k ++ [] =
        sym (append-nil front) ∙ ap (λ (t : List ℕ). front ++ t) (sym nothing) ∙ sym e
        ∙ sym (append-nil (print_request k)) in
        absurd (front-open front h k [] reads is same)
    decide (suc n) some = omega (arith, whole, behind, lines, some)

-- a whole head that begins with many header lines has many headers
pub many-fields : (heard : List ℕ) (k : RequestHead) (q : List ℕ) → ReadsRequest heard k q
    → HasManyLines heard → MAX_HEADERS < length k.fields
many-fields heard k q x (front, rest, is, h, reads, many) =
    elim (two-fronts front rest (print_request k) q (sym is ∙ x.1)) [
      | inl (y, e) ↦ absurd (front-open front h k y reads x.0 e)
      | inr (y, e) ↦ front-fields front y h k reads x.0 e
          (many-lines front (front, [], sym (append-nil front), h, reads, many))
    ]

-- more bytes leave many lines
pub many-more : (heard more : List ℕ) → HasManyLines heard → HasManyLines (heard ++ more)
many-more heard more (front, rest, is, h, reads, many) = (
  front,
  rest ++ more,
  ap (λ (t : List ℕ). t ++ more) is ∙ append_assoc front rest more,
  h,
  reads,
  many,
)

-- where a head's first so many lines have come, many header lines stand in front
begun-many : (heard more : List ℕ) (h : RequestHead) → ReadsRequest (heard ++ more) h []
    → MAX_HEADERS < length h.fields → MAX_HEADERS + 1 < head_lines heard → HasManyLines heard
begun-many heard more h reads many lines =
    elim (two-fronts heard more front behind
    (reads.1 ∙ append-nil (print_request h) ∙ cut-front (MAX_HEADERS + 1) h)) [
      | inl (x, e) ↦ front-many heard h x reads.0 e many
      | inr (x, e) ↦ front-many heard h [] reads.0 (whole x e) many
    ]
  where
    own : RequestHead
    own = cut (MAX_HEADERS + 1) h

    front : List ℕ
    front = front_text own

    behind : List ℕ
    behind = flat_map print_field (drop (MAX_HEADERS + 1) h.fields) ++ print_end h.last

    size : length own.fields ≡ MAX_HEADERS + 1
    size = length-take-le (MAX_HEADERS + 1) h.fields (omega (arith, many))

    feed : (b : List ℕ) × (flat_map print_field own.fields ≡ b ++ 10 ∷ [])
    feed = fields-end own.fields (omega (arith, size))

    whole : (x : List ℕ) → front ≡ heard ++ x → heard ≡ front ++ []
    whole x e =
        let count = lines-front_text own (cut-head (MAX_HEADERS + 1) h reads.0) in
        let same : head_lines front ≡ head_lines (heard ++ x) = ap head_lines e in
        let past = lines-behind heard x (omega (arith, lines)) in
        let none : lines_from true x ≡ 0 = omega (arith, size, count, same, past, lines) in
        let ends : heard ++ x ≡ (start_text own ++ feed.0) ++ 10 ∷ [] =
        sym e ∙ ap (λ (t : List ℕ). start_text own ++ t) feed.1
        ∙ sym (append_assoc (start_text own) feed.0 (10 ∷ [])) in
        let nothing : x ≡ [] = no-more heard x (start_text own ++ feed.0) ends none in
        sym (append-nil heard) ∙ ap (λ (t : List ℕ). heard ++ t) (sym nothing) ∙ sym e
        ∙ sym (append-nil front)

-- where so many lines of an unfinished head have come, many header lines stand in front
lines-many : (heard more : List ℕ) (h : RequestHead) → ReadsRequest (heard ++ more) h []
    → HasNoRequest heard → MAX_HEADERS + 1 < head_lines heard → HasManyLines heard
lines-many heard more h reads none lines =
    decide (lines_from true more) refl
  where
    count : head_lines (heard ++ more) ≡ length h.fields + 2
    count = subst (λ (t : List ℕ). head_lines t ≡ length h.fields + 2)
        (sym (reads.1 ∙ append-nil (print_request h))) (lines-whole h reads.0)

    past : head_lines (heard ++ more) ≡ head_lines heard + lines_from true more
    past = lines-behind heard more (omega (arith, lines))

    decide : (n : ℕ) → lines_from true more ≡ n → HasManyLines heard
    decide zero nil =
        let feed = whole-feed h in
        let nothing : more ≡ [] = no-more heard more feed.0
        (reads.1 ∙ append-nil (print_request h) ∙ feed.1) nil in
        let same : heard ≡ heard ++ more =
        sym (append-nil heard) ∙ ap (λ (t : List ℕ). heard ++ t) (sym nothing) in
        absurd (none h [] (reads.0, same ∙ reads.1))
    decide (suc n) some =
        begun-many heard more h reads (omega (arith, count, past, lines, some)) lines

-- the count says that there are many header lines
pub counted-many : (heard : List ℕ) → HasNoRequest heard → MayBecomeRequest heard
    → nat_lt (MAX_HEADERS + 1) (head_lines heard) ≡ true → HasManyLines heard
counted-many heard none may is =
    let lines : MAX_HEADERS + 1 < head_lines heard = grind (arith, nat_tests, is) in
    elim may [
      | inl (more, h, reads) ↦ lines-many heard more h reads none lines
      | inr target ↦
          let nil = target-lines heard target in
          absurd (omega (arith, lines, nil))
    ]

-- or that there are not
pub counted-few : (heard : List ℕ) → nat_lt (MAX_HEADERS + 1) (head_lines heard) ≡ false
    → HasManyLines heard → ⊥
counted-few heard is many =
    let lines = many-lines heard many in
    let few : head_lines heard ≤ MAX_HEADERS + 1 = grind (arith, nat_tests, is) in
    omega (arith, lines, few)
