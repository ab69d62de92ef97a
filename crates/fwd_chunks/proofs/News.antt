-- What entering a request adds to a history, and what it leaves.
use Rattle.std.proofs.Common.{◌≡◌, ℕ, ◌+◌, Bool, true, false, cond, List, [], ◌∷◌, ◌++◌, length, drop, refl, sym, ap, ◌∙◌, subst, inl, inr, append_assoc, arith}
use Rattle.std.specs.Prelude.{not, ◌&&◌, ◌||◌, ◌==◌}
use Rattle.std.specs.List.{list_all}
use Rattle.std.proofs.lemmas.Bool.Decides.{nat_tests}
use Rattle.std.proofs.lemmas.List.{append-nil, drop_at}
use Rattle.std.proofs.lemmas.List.Elements.{filter-append}
use Rattle.fwd_modes.specs.Requests.{Request}
use Rattle.fwd_modes.specs.declared.origin.Origin.{Origin}
use Rattle.fwd_chunks.specs.declared.span.Span.{Span}
use Rattle.fwd_chunks.specs.Cells.{Cell, entries_of, cells_at, has_number, is_carried}
use Rattle.fwd_chunks.specs.History.{BufferHistory, joins, adds, adds_all, looks, enters, before_runs, runs_after, spans_of}
use Rattle.fwd_chunks.proofs.CellLemmas.{has_cell, cells_at-none}
use Rattle.fwd_chunks.proofs.Sane.{IsSane, cell_at, joins_or_begins, joins-for, next-for, adds-sane, looks-sane}
use Rattle.std.proofs.lemmas.Bool.{eqb-true}

-- the cells that entries become, one after the other
abbrev pub news_of : List (List ℕ) → BufferHistory → List ℕ → Origin → List Cell
news_of [] h tag origin = []
news_of (entry ∷ entries) h tag origin = cell_at h tag origin entry (joins h tag entry) ∷ news_of entries (adds h tag origin entry) tag origin

-- the cells of a request
abbrev pub news : BufferHistory → Origin → Request → ℕ → List Cell
news h origin r now = news_of r.entries (looks h now) r.tag origin

-- ---- they come behind all others, and all else stays

news_of-cells : (entries : List (List ℕ)) (h : BufferHistory) (tag : List ℕ) (origin : Origin)
    → (adds_all h tag origin entries).cells ≡ h.cells ++ news_of entries h tag origin
unfolding adds
news_of-cells [] h tag origin = sym (append-nil h.cells)
news_of-cells (entry ∷ entries) h tag origin =
    news_of-cells entries (adds h tag origin entry) tag origin ∙ append_assoc h.cells (cell_at h tag origin entry (joins h tag entry) ∷ []) (news_of entries (adds h tag origin entry) tag origin)

pub enters-cells : (h : BufferHistory) (origin : Origin) (r : Request) (now : ℕ)
    → (enters h origin r now).cells ≡ h.cells ++ news h origin r now
enters-cells h origin r now = news_of-cells r.entries (looks h now) r.tag origin

acknowledged-same : (entries : List (List ℕ)) (h : BufferHistory) (tag : List ℕ)
    (origin : Origin) → (adds_all h tag origin entries).acknowledged ≡ h.acknowledged
unfolding adds
acknowledged-same [] h tag origin = refl
acknowledged-same (entry ∷ entries) h tag origin = acknowledged-same entries (adds h tag origin entry) tag origin

carried-same : (entries : List (List ℕ)) (h : BufferHistory) (tag : List ℕ) (origin : Origin)
    → (adds_all h tag origin entries).carried ≡ h.carried
unfolding adds
carried-same [] h tag origin = refl
carried-same (entry ∷ entries) h tag origin = carried-same entries (adds h tag origin entry) tag origin

setting-same : (entries : List (List ℕ)) (h : BufferHistory) (tag : List ℕ) (origin : Origin)
    → (adds_all h tag origin entries).setting ≡ h.setting
unfolding adds
setting-same [] h tag origin = refl
setting-same (entry ∷ entries) h tag origin = setting-same entries (adds h tag origin entry) tag origin

pub enters-acknowledged : (h : BufferHistory) (origin : Origin) (r : Request) (now : ℕ)
    → (enters h origin r now).acknowledged ≡ h.acknowledged
enters-acknowledged h origin r now = acknowledged-same r.entries (looks h now) r.tag origin

pub enters-carried : (h : BufferHistory) (origin : Origin) (r : Request) (now : ℕ)
    → (enters h origin r now).carried ≡ h.carried
enters-carried h origin r now = carried-same r.entries (looks h now) r.tag origin

pub enters-setting : (h : BufferHistory) (origin : Origin) (r : Request) (now : ℕ)
    → (enters h origin r now).setting ≡ h.setting
enters-setting h origin r now = setting-same r.entries (looks h now) r.tag origin

-- ---- whose they are

pub news-entries : (entries : List (List ℕ)) (h : BufferHistory) (tag : List ℕ)
    (origin : Origin) → entries_of (news_of entries h tag origin) ≡ entries
news-entries [] h tag origin = refl
news-entries (entry ∷ entries) h tag origin = ap (λ es. entry ∷ es) (news-entries entries (adds h tag origin entry) tag origin)

-- cells that all have a tag and an origin
abbrev pub AreOf : List ℕ → Origin → List Cell → Type 0
AreOf tag origin [] = Unit {0}
AreOf tag origin (c ∷ cells) = (c.tag ≡ tag) × (c.origin ≡ origin) × AreOf tag origin cells

pub news-own : (entries : List (List ℕ)) (h : BufferHistory) (tag : List ℕ) (origin : Origin)
    → AreOf tag origin (news_of entries h tag origin)
news-own [] h tag origin = tt
news-own (entry ∷ entries) h tag origin = (refl, refl, news-own entries (adds h tag origin entry) tag origin)

-- ---- their numbers

-- what a request's entries join is neither acknowledged nor carried
record Joinable (h : BufferHistory) (n : ℕ) : Type 0 where
  unacked : has_number n h.acknowledged ≡ false
  uncarried : is_carried n h.carried ≡ false

joinable : (h : BufferHistory) (tag entry : List ℕ) → IsSane h → Joinable h (joins h tag entry)
joinable h tag entry own = elim (joins_or_begins h tag entry) [
  | inl j ↦ let f = joins-for h tag entry own j in subst (Joinable h) (sym j.is) (record { unacked = f.unacked; uncarried = f.uncarried })
  | inr b ↦ let f = next-for h tag own in subst (Joinable h) (sym b.is) (record { unacked = f.unacked; uncarried = f.uncarried })
]

news_of-unacked : (entries : List (List ℕ)) (h : BufferHistory) (tag : List ℕ)
    (origin : Origin) → IsSane h
    → list_all (λ c. not (has_number c.number h.acknowledged)) (news_of entries h tag origin)
    ≡ true
unfolding adds
news_of-unacked [] h tag origin own = refl
news_of-unacked (entry ∷ entries) h tag origin own =
    let rest = news_of-unacked entries (adds h tag origin entry) tag origin (adds-sane h tag origin entry own) in
    λ i. not ((joinable h tag entry own).unacked i) && rest i

news_of-uncarried : (entries : List (List ℕ)) (h : BufferHistory) (tag : List ℕ)
    (origin : Origin) → IsSane h
    → list_all (λ c. not (is_carried c.number h.carried)) (news_of entries h tag origin) ≡ true
unfolding adds
news_of-uncarried [] h tag origin own = refl
news_of-uncarried (entry ∷ entries) h tag origin own =
    let rest = news_of-uncarried entries (adds h tag origin entry) tag origin (adds-sane h tag origin entry own) in
    λ i. not ((joinable h tag entry own).uncarried i) && rest i

pub news-unacked : (h : BufferHistory) (origin : Origin) (r : Request) (now : ℕ) → IsSane h
    → list_all (λ c. not (has_number c.number h.acknowledged)) (news h origin r now) ≡ true
news-unacked h origin r now own = news_of-unacked r.entries (looks h now) r.tag origin (looks-sane h now own)

pub news-uncarried : (h : BufferHistory) (origin : Origin) (r : Request) (now : ℕ) → IsSane h
    → list_all (λ c. not (is_carried c.number h.carried)) (news h origin r now) ≡ true
news-uncarried h origin r now own = news_of-uncarried r.entries (looks h now) r.tag origin (looks-sane h now own)

-- a number has what all cells have
pub of_number : (p : ℕ → Bool) (k : ℕ) (cells : List Cell)
    → list_all (λ c. p c.number) cells ≡ true → has_cell k cells ≡ true → p k ≡ true
of_number p k [] all h = absurd cc
of_number p k (c ∷ cells) all h = by (λ a g. of_number p k cells a g) (c.number == k) refl (p c.number) refl all h
  where
    by : (list_all (λ c. p c.number) cells ≡ true → has_cell k cells ≡ true → p k ≡ true)
        → (b : Bool) → (c.number == k) ≡ b → (a : Bool) → p c.number ≡ a
        → (a && list_all (λ c. p c.number) cells) ≡ true → (b || has_cell k cells) ≡ true
        → p k ≡ true
    by rest b e false f all h = absurd cc
    by rest true e true f all h = ap p (sym (eqb-true c.number k e)) ∙ f
    by rest false e true f all h = rest all h

-- where no cell has the number, more cells leave what it has
pub cells_at-beside : (k : ℕ) (xs ys : List Cell) → has_cell k ys ≡ false
    → cells_at k (xs ++ ys) ≡ cells_at k xs
cells_at-beside k xs ys h = filter-append (λ c. c.number == k) xs ys ∙ ap (λ zs. cells_at k xs ++ zs) (cells_at-none k ys h) ∙ append-nil (cells_at k xs)

-- what holds of no cell's number is had by none of them
none_has : (p : ℕ → Bool) (k : ℕ) (cells : List Cell)
    → list_all (λ c. not (p c.number)) cells ≡ true → p k ≡ true → has_cell k cells ≡ false
none_has p k cells all h = by (has_cell k cells) refl
  where
    by : (b : Bool) → has_cell k cells ≡ b → b ≡ false
    by true e = let no : not true ≡ true = ap not (sym h) ∙ of_number (λ j. not (p j)) k cells all e in absurd cc
    by false e = refl

-- what is acknowledged stays as it is
pub acked-stays : (h : BufferHistory) (origin : Origin) (r : Request) (now k : ℕ) → IsSane h
    → has_number k h.acknowledged ≡ true
    → cells_at k (enters h origin r now).cells ≡ cells_at k h.cells
acked-stays h origin r now k own is =
    ap (cells_at k) (enters-cells h origin r now)
    ∙ cells_at-beside k h.cells (news h origin r now) (none_has (λ j. has_number j h.acknowledged) k (news h origin r now) (news-unacked h origin r now own) is)

-- what a worker has stays as it is
pub carried-stays : (h : BufferHistory) (origin : Origin) (r : Request) (now k : ℕ) → IsSane h
    → is_carried k h.carried ≡ true
    → cells_at k (enters h origin r now).cells ≡ cells_at k h.cells
carried-stays h origin r now k own is =
    ap (cells_at k) (enters-cells h origin r now)
    ∙ cells_at-beside k h.cells (news h origin r now) (none_has (λ j. is_carried j h.carried) k (news h origin r now) (news-uncarried h origin r now own) is)

-- ---- their runs

before-all : (p : ℕ → Bool) (s : Span) (runs : List Span)
    → list_all (λ t. p t.number) (before_runs s runs)
    ≡ (p s.number && list_all (λ t. p t.number) runs)
before-all p s [] = refl
before-all p s (t ∷ runs) = by (s.number == t.number) refl
  where
    twice : (a b : Bool) → (a && b) ≡ (a && (a && b))
    twice true b = refl
    twice false b = refl

    by : (b : Bool) → (s.number == t.number) ≡ b
        → list_all (λ t. p t.number)
        (cond b (record { number = s.number; from = s.from; count = s.count + t.count } ∷ runs) (s
        ∷ t ∷ runs)) ≡
        (p s.number && (p t.number && list_all (λ t. p t.number) runs))
    by true e = twice (p s.number) (list_all (λ t. p t.number) runs) ∙ ap (λ n. p s.number && (p n && list_all (λ t. p t.number) runs)) (eqb-true s.number t.number e)
    by false e = refl

-- what holds of the runs' numbers holds of the cells' numbers, and the other way round
pub runs-all : (p : ℕ → Bool) (others cells : List Cell)
    → list_all (λ s. p s.number) (runs_after others cells) ≡ list_all (λ c. p c.number) cells
runs-all p others [] = refl
runs-all p others (c ∷ cells) =
    before-all p (record { number = c.number; from = length (cells_at c.number others); count = 1 }) (runs_after (others ++ c ∷ []) cells)
    ∙ ap (λ b. p c.number && b) (runs-all p (others ++ c ∷ []) cells)

-- the runs of a request are those of its cells
pub spans-runs : (h : BufferHistory) (origin : Origin) (r : Request) (now : ℕ)
    → spans_of h origin r now ≡ runs_after h.cells (news h origin r now)
spans-runs h origin r now =
    ap (λ cs. runs_after h.cells (drop (length h.cells) cs)) (enters-cells h origin r now)
    ∙ ap (runs_after h.cells) (drop_at h.cells (news h origin r now) (length h.cells) refl)

-- none of a request's runs is settled when it comes
pub spans-unacked : (h : BufferHistory) (origin : Origin) (r : Request) (now : ℕ) → IsSane h
    → list_all (λ s. not (has_number s.number h.acknowledged)) (spans_of h origin r now) ≡ true
spans-unacked h origin r now own =
    ap (list_all (λ s. not (has_number s.number h.acknowledged))) (spans-runs h origin r now)
    ∙ runs-all (λ k. not (has_number k h.acknowledged)) h.cells (news h origin r now)
    ∙ news-unacked h origin r now own

-- where each number of cells has what a number may have, they have it
all_numbers : (p : ℕ → Bool) (cells : List Cell) → ((k : ℕ) → has_cell k cells ≡ true → p k ≡ true)
    → list_all (λ c. p c.number) cells ≡ true
all_numbers p [] all = refl
all_numbers p (c ∷ cells) all =
    let here : p c.number ≡ true = all c.number (grind (arith, nat_tests)) in
    λ i. here i && all_numbers p cells (λ k has. all k (grind (arith, nat_tests, has))) i

-- where its cells have what a number may have, its runs have it
pub spans-need : (p : ℕ → Bool) (h : BufferHistory) (origin : Origin) (r : Request) (now : ℕ)
    → ((k : ℕ) → has_cell k (news h origin r now) ≡ true → p k ≡ true)
    → list_all (λ s. p s.number) (spans_of h origin r now) ≡ true
spans-need p h origin r now all =
    ap (list_all (λ s. p s.number)) (spans-runs h origin r now) ∙ runs-all p h.cells (news h origin r now)
    ∙ all_numbers p (news h origin r now) all

-- where its runs have what a number may have, its cells have it
pub spans-give : (p : ℕ → Bool) (h : BufferHistory) (origin : Origin) (r : Request) (now k : ℕ)
    → list_all (λ s. p s.number) (spans_of h origin r now) ≡ true
    → has_cell k (news h origin r now) ≡ true → p k ≡ true
spans-give p h origin r now k all has =
    of_number p k (news h origin r now) (sym (ap (list_all (λ s. p s.number)) (spans-runs h origin r now) ∙ runs-all p h.cells (news h origin r now)) ∙ all) has
