-- Rows of entries, one after the other, and what is left of their bytes.
use Rattle.std.proofs.Common.{◌≡◌, ℕ, zero, suc, ◌+◌, ◌-◌, ◌<◌, ◌≤◌, ◌^◌, List, [], ◌∷◌, ◌++◌, length, take, drop, Some, None, true, nat_lt, min, take-add, append_assoc, slice_get, slice_index_or, refl, sym, ap, subst, ◌∙◌, arith, drop-drop, length-append, length-drop}
use Rattle.std.specs.List.{concat}
use Rattle.std.proofs.lemmas.List.{take_at, drop_at, length-take-le}
use Rattle.std.proofs.lemmas.List.Folds.{concat-append}
use Rattle.std.proofs.lemmas.Option.{same_Some}
use Rattle.std.proofs.lemmas.Bool.{ltb-true}
use Rattle.fwd_modes.specs.Entries.{AreFull}
use Rattle.fwd_chunks.specs.Rows.{joined, bytes_each, AreLong, bytes_behind, IsBegun, StandsIn}

-- one row more
pub joined_push : (rows : List (List (List ℕ))) (row : List (List ℕ))
    → joined (rows ++ row ∷ []) ≡ joined rows ++ row
joined_push [] row = append-none row
  where
    append-none : (xs : List (List ℕ)) → xs ++ [] ≡ xs
    append-none [] = refl
    append-none (x ∷ xs) = ap (λ l. x ∷ l) (append-none xs)
joined_push (r ∷ rows) row = ap (λ es. r ++ es) (joined_push rows row) ∙ sym (append_assoc r (joined rows) row)

pub long_push : (rows : List (List (List ℕ))) (row : List (List ℕ)) → AreLong rows
    → 0 < length (concat row) → AreLong (rows ++ row ∷ [])
long_push [] row long some = (some, tt)
long_push (r ∷ rows) row long some = (long.0, long_push rows row long.1 some)

-- the bytes of rows, row by row
pub each_joined : (rows : List (List (List ℕ)))
    → concat (bytes_each rows) ≡ concat (joined rows)
each_joined [] = refl
each_joined (row ∷ rows) = ap (λ bs. concat row ++ bs) (each_joined rows) ∙ sym (concat-append row (joined rows))

-- each row's bytes are some
pub each_full : (rows : List (List (List ℕ))) → AreLong rows → AreFull (bytes_each rows)
each_full [] long = tt
each_full (row ∷ rows) long = (long.0, each_full rows long.1)

-- ---- what is left

pub begun_first : (rows : List (List (List ℕ))) → AreLong rows → IsBegun 0 rows
begun_first [] long = refl
begun_first (row ∷ rows) long = long.0

row-here : (passed : ℕ) (rows : List (List (List ℕ))) (row d : List (List ℕ))
    → passed < length rows → row ≡ slice_index_or rows passed d → slice_get rows passed ≡ Some row
row-here zero [] row d lt e = absurd (omega arith)
row-here zero (r ∷ rows) row d lt e = ap Some (sym e)
row-here (suc passed) [] row d lt e = absurd (omega arith)
row-here (suc passed) (r ∷ rows) row d lt e = row-here passed rows row d (omega (arith, lt)) e

-- the row at a place
pub row_here : (passed : ℕ) (rows : List (List (List ℕ))) (row d : List (List ℕ))
    → true ≡ nat_lt passed (length rows) → row ≡ slice_index_or rows passed d
    → slice_get rows passed ≡ Some row
row_here passed rows row d lt e = row-here passed rows row d (ltb-true passed (length rows) (sym lt)) e

-- the rows behind so many, where there is one
pub row_at : (passed : ℕ) (rows : List (List (List ℕ))) (row : List (List ℕ))
    → slice_get rows passed ≡ Some row → drop passed rows ≡ row ∷ drop (suc passed) rows
row_at zero [] row e = absurd cc
row_at zero (r ∷ rows) row e = ap (λ x. x ∷ rows) (same_Some r row e)
row_at (suc passed) [] row e = absurd cc
row_at (suc passed) (r ∷ rows) row e = row_at passed rows row e

pub none_at : (passed : ℕ) (rows : List (List (List ℕ))) → slice_get rows passed ≡ None
    → drop passed rows ≡ []
none_at zero [] e = refl
none_at zero (r ∷ rows) e = absurd cc
none_at (suc passed) [] e = refl
none_at (suc passed) (r ∷ rows) e = none_at passed rows e

drop-front : (n : ℕ) (xs ys : List ℕ) → n ≤ length xs → drop n (xs ++ ys) ≡ drop n xs ++ ys
drop-front zero xs ys le = refl
drop-front (suc n) [] ys le = absurd (omega arith)
drop-front (suc n) (x ∷ xs) ys le = drop-front n xs ys (omega (arith, le))

pub rest_row : (sent : ℕ) (row : List (List ℕ)) (rows : List (List (List ℕ)))
    → sent ≤ length (concat row)
    → drop sent (concat (joined (row ∷ rows))) ≡ drop sent (concat row) ++ concat (joined rows)
rest_row sent row rows le = ap (drop sent) (concat-append row (joined rows)) ∙ drop-front sent (concat row) (concat (joined rows)) le

-- the next row's bytes that are left, and those behind it
pub behind_row : (passed sent : ℕ) (rows : List (List (List ℕ))) (row : List (List ℕ))
    → slice_get rows passed ≡ Some row → sent ≤ length (concat row)
    → bytes_behind passed sent rows
    ≡ drop sent (concat row) ++ concat (joined (drop (suc passed) rows))
behind_row passed sent rows row e le =
    ap (λ rs. drop sent (concat (joined rs))) (row_at passed rows row e)
    ∙ ap (drop sent) (concat-append row (joined (drop (suc passed) rows)))
    ∙ drop-front sent (concat row) (concat (joined (drop (suc passed) rows))) le

pub begun_row : (passed sent : ℕ) (rows : List (List (List ℕ))) (row : List (List ℕ))
    → slice_get rows passed ≡ Some row → IsBegun sent (drop passed rows)
    → sent < length (concat row)
begun_row passed sent rows row e begun = subst (IsBegun sent) (row_at passed rows row e) begun

pub nothing_behind : (passed sent : ℕ) (rows : List (List (List ℕ)))
    → slice_get rows passed ≡ None → length (bytes_behind passed sent rows) ≡ 0
nothing_behind passed sent rows e =
    ap (λ rs. length (drop sent (concat (joined rs)))) (none_at passed rows e) ∙ (omega (arith, length-drop sent (concat (joined []))))

-- so many bytes of the next row more
pub behind_more : (passed sent n : ℕ) (rows : List (List (List ℕ)))
    → bytes_behind passed (sent + n) rows ≡ drop n (bytes_behind passed sent rows)
behind_more passed sent n rows = sym (drop-drop n sent (concat (joined (drop passed rows))))

-- all of them
pub behind_next : (passed sent : ℕ) (rows : List (List (List ℕ))) (row : List (List ℕ))
    → slice_get rows passed ≡ Some row → sent ≤ length (concat row)
    → bytes_behind (suc passed) 0 rows
    ≡ drop (length (concat row) - sent) (bytes_behind passed sent rows)
behind_next passed sent rows row e le =
    sym (ap (drop (length (concat row) - sent)) (behind_row passed sent rows row e le)
    ∙ drop_at (drop sent (concat row)) (concat (joined (drop (suc passed) rows))) (length (concat row) - sent) (omega (arith, length-drop sent (concat row))))

row-small : (passed : ℕ) (rows : List (List (List ℕ))) (row : List (List ℕ))
    → slice_get rows passed ≡ Some row → length (concat row) ≤ length (concat (joined rows))
row-small zero [] row e = absurd cc
row-small zero (r ∷ rows) row e = omega (arith, ap length (concat-append r (joined rows)), length-append (concat r) (concat (joined rows)), ap (λ x. length (concat x)) (same_Some r row e))
row-small (suc passed) [] row e = absurd cc
row-small (suc passed) (r ∷ rows) row e = omega (arith, ap length (concat-append r (joined rows)), length-append (concat r) (concat (joined rows)), row-small passed rows row e)

-- there are at most as many rows as bytes
pub few_rows : (rows : List (List (List ℕ))) → AreLong rows
    → length rows ≤ length (concat (joined rows))
few_rows [] long = omega arith
few_rows (r ∷ rows) long = omega (arith, ap length (concat-append r (joined rows)), length-append (concat r) (concat (joined rows)), long.0, few_rows rows long.1)

pub place_within : (passed : ℕ) (rows : List (List (List ℕ))) (row : List (List ℕ))
    → slice_get rows passed ≡ Some row → passed < length rows
place_within zero [] row e = absurd cc
place_within zero (r ∷ rows) row e = omega arith
place_within (suc passed) [] row e = absurd cc
place_within (suc passed) (r ∷ rows) row e = omega (arith, place_within passed rows row e)

pub row_within : (passed sent count : ℕ) (rows : List (List (List ℕ))) (row : List (List ℕ))
    → StandsIn passed sent count rows → slice_get rows passed ≡ Some row
    → length (concat row) < 2 ^ 32
row_within passed sent count rows row s e = omega (arith, row-small passed rows row e, s.small)

-- a place in the next row
pub stands_more : (passed sent count n : ℕ) (rows : List (List (List ℕ))) (row : List (List ℕ))
    → StandsIn passed sent count rows → slice_get rows passed ≡ Some row
    → n < length (concat row) - sent → StandsIn passed (sent + n) (count - n) rows
stands_more passed sent count n rows row s e lt = record {
  long = s.long;
  small = s.small;
  within = s.within;
  begun = subst (IsBegun (sent + n)) (sym (row_at passed rows row e)) (omega (arith, lt));
  left = omega (arith, s.left, ap length (behind_more passed sent n rows), length-drop n (bytes_behind passed sent rows));
}

long-drop : (n : ℕ) (rows : List (List (List ℕ))) → AreLong rows → AreLong (drop n rows)
long-drop zero rows long = long
long-drop (suc n) [] long = tt
long-drop (suc n) (r ∷ rows) long = long-drop n rows long.1

-- the place behind the next row
pub stands_next : (passed sent count : ℕ) (rows : List (List (List ℕ))) (row : List (List ℕ))
    → StandsIn passed sent count rows → slice_get rows passed ≡ Some row
    → StandsIn (suc passed) 0 (count - (length (concat row) - sent)) rows
stands_next passed sent count rows row s e =
    let begun : sent < length (concat row) = begun_row passed sent rows row e s.begun in
    record {
      long = s.long;
      small = s.small;
      within = place_within passed rows row e;
      begun = begun_first (drop (suc passed) rows) (long-drop (suc passed) rows s.long);
      left = omega (arith, s.left, begun, ap length (behind_next passed sent rows row e (omega (arith, begun))), length-drop (length (concat row) - sent) (bytes_behind passed sent rows));
    }

-- ---- a room that is filled

-- so many bytes of all are in a room, and it is as it was behind them
pub record IsFilled (all old room : List ℕ) (filled : ℕ) : Type 0 where
  pub within : filled ≤ length old
  pub whole : filled ≤ length all
  pub is : room ≡ take filled all ++ drop filled old

pub filled_nothing : (all old : List ℕ) → IsFilled all old old 0
filled_nothing all old = record { within = omega arith; whole = omega arith; is = refl }

take-short : (n : ℕ) (xs ys : List ℕ) → n ≤ length xs → take n (xs ++ ys) ≡ take n xs
take-short zero xs ys le = refl
take-short (suc n) [] ys le = absurd (omega arith)
take-short (suc n) (x ∷ xs) ys le = ap (λ l. x ∷ l) (take-short n xs ys (omega (arith, le)))

drop-long : (n m : ℕ) (xs ys : List ℕ) → length xs ≡ n → n ≤ m
    → drop m (xs ++ ys) ≡ drop (m - n) ys
drop-long zero m [] ys e le = (let same : m ≡ m - 0 = omega arith in ap (λ k. drop k ys) same)
drop-long zero m (x ∷ xs) ys e le = absurd (omega (arith, e))
drop-long (suc n) m [] ys e le = absurd (omega (arith, e))
drop-long (suc n) zero (x ∷ xs) ys e le = absurd (omega (arith, le))
drop-long (suc n) (suc m) (x ∷ xs) ys e le =
    let same : m - n ≡ suc m - suc n = omega arith in
    drop-long n m xs ys (omega (arith, e)) (omega (arith, le)) ∙ ap (λ k. drop k ys) same

module _ (all old room : List ℕ) (filled : ℕ) (is : IsFilled all old room filled)
    (piece behind : List ℕ) (left : drop filled all ≡ piece ++ behind) (next : ℕ)
    (count : next ≡ min (length room) (filled + length piece)) where
  long : length (take filled all) ≡ filled
  long = length-take-le filled all is.whole

  same-room : length room ≡ length old
  same-room = omega (arith, ap length is.is, length-append (take filled all) (drop filled old), long, length-drop filled old, is.within)

  rest : length all ≡ filled + (length piece + length behind)
  rest = omega (arith, ap length left, length-append piece behind, length-drop filled all, is.whole)

  low : filled ≤ next
  low = omega (arith, count, same-room, is.within)

  high : next ≤ filled + length piece
  high = omega (arith, count)

  pub room_length : length room ≡ length old
  room_length = same-room

  -- one piece more
  pub filled_more : (new : List ℕ)
      → new ≡ take filled room ++ take (next - filled) piece ++ drop next room
      → IsFilled all old new next
  filled_more new e =
      let again : filled + (next - filled) ≡ next = omega (arith, low) in
      let begins : take filled room ≡ take filled all = ap (take filled) is.is ∙ take_at (take filled all) (drop filled old) filled long in
      let goes : take (next - filled) piece ≡ take (next - filled) (drop filled all) =
      sym (ap (take (next - filled)) left ∙ take-short (next - filled) piece behind (omega (arith, high, low))) in
      let ends : drop next room ≡ drop next old =
      ap (drop next) is.is ∙ drop-long filled next (take filled all) (drop filled old) long low ∙ drop-drop (next - filled) filled old ∙ ap (λ n. drop n old) again in
      record {
        within = omega (arith, count, same-room);
        whole = omega (arith, high, rest);
        is = e ∙ (λ i. begins i ++ goes i ++ ends i) ∙ ap (λ bs. bs ++ drop next old) (sym (take-add filled (next - filled) all) ∙ ap (λ n. take n all) again);
      }

  -- what is behind it, where the room is not full
  pub left_more : next < length room → drop next all ≡ behind
  left_more lt =
      let whole : next ≡ filled + length piece = omega (arith, count, lt) in
      ap (λ n. drop n all) whole ∙ sym (drop-drop (length piece) filled all) ∙ ap (drop (length piece)) left ∙ drop_at piece behind (length piece) refl
