-- A head that is cut off: it has at most eight bytes.
use Rattle.std.proofs.Common.{◌≡◌, ℕ, zero, suc, ◌+◌, ◌-◌, ◌<◌, ◌≤◌, Bool, true, false, cond, ltb, List, [], ◌∷◌, length, take, get_or, Option, Some, None, lit≤, refl, sym, ap, subst, ◌∙◌, arith}
use Rattle.std.specs.Prelude.{◌==◌}
use Rattle.std.proofs.lemmas.Bool.{ltb-true}
use Rattle.fwd_msgpack.specs.declared.head.Head.TheVariants.{Int, Str, Arr, Map}
use Rattle.fwd_msgpack.specs.declared.head.HeadRead.TheVariants as read
use Rattle.fwd_msgpack.specs.declared.limits.Limits.{Limits}
use Rattle.fwd_msgpack.specs.declared.scan_state.ScanState.{ScanState}
use Rattle.fwd_msgpack.specs.declared.scan_state.ScanState.TheVariants as stages
use Rattle.fwd_msgpack.specs.ScanStates.{state_shown, IsScanState, in_head, in_item}
use Rattle.fwd_msgpack.specs.Extents.{scan_behind}
use Rattle.fwd_msgpack.specs.Scanners.{Standing, onward}
use Rattle.fwd_msgpack.specs.Scans.{State}
use Rattle.fwd_msgpack.proofs.Pieces.{later, goes_on_to, at, stands}
use Rattle.fwd_msgpack.specs.Heads.{Row, fixed, named_rows, row_of, row_reading, reading_of}
use Rattle.fwd_msgpack.proofs.Fronts.{scanned, scanned-Ended, scanned-Failed, short_read}

-- no bytes are less than a head
pub nothing_read : reading_of [] ≡ read.Short
unfolding reading_of
nothing_read = refl

-- at most eight bytes follow the first one
abbrev IsSmall : Option Row → Type 0
IsSmall None = Unit {0}
IsSmall (Some row) = row.more ≤ 8

abbrev AllSmall : List (Option Row) → Type 0
AllSmall [] = Unit {0}
AllSmall (row ∷ rows) = IsSmall row × AllSmall rows

small_at : (rows : List (Option Row)) (i : ℕ) → AllSmall rows → IsSmall (get_or rows i None)
small_at [] i all = tt
small_at (row ∷ rows) zero all = all.0
small_at (row ∷ rows) (suc i) all = small_at rows i all.1

named_small : AllSmall named_rows
unfolding named_rows
named_small = (lit≤ tt, (tt, (lit≤ tt, (lit≤ tt, (lit≤ tt, (lit≤ tt, (lit≤ tt, (lit≤ tt, (lit≤ tt, (lit≤ tt, (lit≤ tt, (lit≤ tt, (lit≤ tt, (lit≤ tt, (lit≤ tt, (lit≤ tt, (lit≤ tt, (lit≤ tt, (lit≤ tt, (lit≤ tt, (lit≤ tt, (lit≤ tt, (lit≤ tt, (lit≤ tt, (lit≤ tt, (lit≤ tt, (lit≤ tt, (lit≤ tt, (lit≤ tt, (lit≤ tt, (lit≤ tt, (lit≤ tt, tt))))))))))))))))))))))))))))))))

small : (first : ℕ) → IsSmall (row_of first)
unfolding row_of
small first = by_tests (ltb first 0x80) (ltb first 0x90) (ltb first 0xa0) (ltb first 0xc0) (ltb first 0xe0)
  where
    by_tests : (a b c d e : Bool)
        → IsSmall
        (cond a (fixed (Int false first))
        (cond b (fixed (Map (first - 0x80)))
        (cond c (fixed (Arr (first - 0x90)))
        (cond d (fixed (Str (first - 0xa0)))
        (cond e (get_or named_rows (first - 0xc0) None) (fixed (Int true (256 - first))))))))
    by_tests true b c d e = lit≤ tt
    by_tests false true c d e = lit≤ tt
    by_tests false false true d e = lit≤ tt
    by_tests false false false true e = lit≤ tt
    by_tests false false false false true = small_at named_rows (first - 0xc0) named_small
    by_tests false false false false false = lit≤ tt

by_row : (rest : List ℕ) (o : Option Row) → IsSmall o → row_reading o rest ≡ read.Short
    → length rest < 8
by_row rest None is h = absurd cc
by_row rest (Some row) is h =
    let lt = ltb-true (length rest) row.more (short_read (ltb (length rest) row.more) (row.spells (take row.more rest)) (row.more + 1) h) in
    omega (arith, is, lt)

-- less than a head has at most eight bytes
pub torn_short : (front : List ℕ) → reading_of front ≡ read.Short → length front ≤ 8
unfolding reading_of
torn_short [] h = omega arith
torn_short (first ∷ rest) h =
    let lt = by_row rest (row_of first) (small first) h in
    omega (arith, lt)

-- ---- the stages of a scanner

-- in a head, by its stage
pub head_stage : (limit used owed : ℕ) (front : List ℕ) (stage : ScanState) → stage ≡ stages.Head
    → IsScanState limit used owed front stage
    → (used + owed ≤ limit) × (reading_of front ≡ read.Short)
head_stage limit used owed front stage e is = subst (λ (s : ScanState). IsScanState limit used owed front s) e is

-- in a payload, by its stage
pub payload_stage : (limit used owed : ℕ) (front : List ℕ) (stage : ScanState) (left : ℕ)
    → stage ≡ stages.Payload left → IsScanState limit used owed front stage
    → (0 < left) × (used + left + owed ≤ limit) × (front ≡ [])
payload_stage limit used owed front stage left e is = subst (λ (s : ScanState). IsScanState limit used owed front s) e is

-- within a head, by its state
pub in_head_stage : (used : ℕ) (stack front : List ℕ) (stage : ScanState)
    → in_head (state_shown used stack front stage) ≡ true → stage ≡ stages.Head
in_head_stage used stack front stages.Head e = refl
in_head_stage used stack front (stages.Payload left) e = absurd cc
in_head_stage used stack front stages.Ended e = absurd cc
in_head_stage used stack front (stages.Failed fault) e = absurd cc

-- no bytes of a head have come where none is cut off
pub no_front : (used : ℕ) (stack front : List ℕ) (stage : ScanState) → stage ≡ stages.Head
    → in_item (state_shown used stack front stage) ≡ false → front ≡ []
no_front used stack front stage e none = by_front front (ap (λ (s : ScanState). in_item (state_shown used stack front s)) (sym e) ∙ none)
  where
    by_front : (xs : List ℕ) → in_item (state_shown used stack xs stages.Head) ≡ false → xs ≡ []
    by_front [] h = refl
    by_front (b ∷ xs) h = absurd cc

-- what has ended or failed stays so
pub stays : (limit deep used : ℕ) (stack front : List ℕ) (stage : ScanState) (bytes : List ℕ)
    → (stage ≡ stages.Head → ⊥)
    → in_item (state_shown used stack front stage) ≡ false
    → state_shown used stack front stage
    ≡ scanned limit deep (state_shown used stack front stage) bytes
stays limit deep used stack front stages.Head bytes other none = absurd (other refl)
stays limit deep used stack front (stages.Payload left) bytes other none = absurd cc
stays limit deep used stack front stages.Ended bytes other none = sym (scanned-Ended limit deep used bytes)
stays limit deep used stack front (stages.Failed fault) bytes other none = sym (scanned-Failed limit deep fault bytes)

-- where no item is cut off, the piece is scanned as if the value began with it
pub piece_scanned : (limits : Limits) (used : ℕ) (stack front bytes : List ℕ) (stage : ScanState)
    (old : Standing) (state : State)
    → stage ≡ stages.Head → at limits (state_shown used stack front stage) ≡ old
    → in_item old.state ≡ false → used ≤ limits.bytes
    → state ≡ scan_behind (limits.bytes - used) limits.depth 0 stack bytes
    → at limits (later used state) ≡ onward old bytes
piece_scanned limits used stack front bytes stage old state head old_is none le e =
    let shut = ap (λ (s : Standing). in_item s.state) old_is ∙ none in
    let bare = no_front used stack front stage head shut in
    stands limits _ _ (goes_on_to limits.bytes limits.depth used stack front bytes state le bare e
    ∙ ap (λ (s : ScanState). scanned limits.bytes limits.depth (state_shown used stack front s) bytes) (sym head))
    ∙ ap (λ (s : Standing). onward s bytes) old_is

-- what is not empty has a byte
pub some_bytes : (n : ℕ) → false ≡ (n == 0) → 0 < n
some_bytes zero e = absurd cc
some_bytes (suc n) e = omega arith
