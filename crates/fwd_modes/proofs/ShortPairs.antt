-- Options whose pairs are known by their bytes.
use Rattle.std.proofs.Common.{◌≡◌, ℕ, suc, ◌-◌, ◌<◌, ◌≤◌, Bool, false, cond, List, [], ◌∷◌, ◌++◌, length, drop, Option, Some, None, refl, sym, ap, subst, ◌∙◌, arith}
use Rattle.std.specs.Prelude.{codes, is_none, option_and_then, IfSome}
use Rattle.std.specs.Borrow.{Bor}
use Rattle.std.specs.Option.{option_map}
use Rattle.std.proofs.lemmas.Bool.Decides.{nat_tests}
use Rattle.std.proofs.lemmas.Bool.{le-ltb, lt-ltb}
use Rattle.std.proofs.lemmas.List.{length-append, length-drop, take_all, take_at, drop_at}
use Rattle.fwd_msgpack.specs.declared.head.Head.{Head}
use Rattle.fwd_msgpack.specs.declared.head.Head.TheVariants.{Map, Str}
use Rattle.fwd_msgpack.specs.declared.head.HeadRead.TheVariants as read
use Rattle.fwd_msgpack.specs.Heads.{reading_of, row_of, named_rows}
use Rattle.fwd_msgpack.specs.Plain.{plain_len}
use Rattle.fwd_msgpack.specs.Scans.{IsRow, IsWhole, Whole, first_of, is_nil, is_nil_head, most_bytes, most_deep, pair_up, pairs_in, pairs_of, parts_of, parts_read, row_of_values, text_in, text_of}
use Rattle.fwd_msgpack.specs.Texts.{last_under}
use Rattle.fwd_msgpack.proofs.Parts.{RowOf, last_first, parts_row}
use Rattle.fwd_msgpack.proofs.Rows.{Nonempty-from, row_of_nothing}
use Rattle.fwd_msgpack.proofs.Turns.{plain_first}
use Rattle.fwd_modes.specs.declared.limits.TheConstants.{CHUNK_LIMIT}
use Rattle.fwd_modes.specs.Kinds.{fitting_text}
use Rattle.fwd_modes.specs.Options.{are_bad_pairs, chunk_under, is_bad_chunk, is_compression, option_pairs, unless_nil}
use Rattle.fwd_modes.specs.ShortOptions.{HasChunk, IsChunkAlone, IsChunkBeforeSize, IsChunkBehindSize, IsShortText, chunk_key, size_key}

-- ---- heads of one byte

str_read : (first : ℕ) (rest : List ℕ) → 0xa0 ≤ first → first < 0xc0
    → reading_of (first ∷ rest) ≡ read.Whole (Str (first - 0xa0)) 1
unfolding reading_of row_of
str_read first rest low high =
    rw (le-ltb first 0x80 (omega arith), le-ltb first 0x90 (omega arith), le-ltb first 0xa0 low, lt-ltb first 0xc0 high, le-ltb (length rest) 0 (omega arith)) refl

one_pair : (rest : List ℕ) → parts_of (0x81 ∷ rest) ≡ Some (Map 1, rest)
unfolding parts_of reading_of row_of named_rows
one_pair rest = rw (le-ltb (length rest) 0 (omega arith)) refl

two_pairs : (rest : List ℕ) → parts_of (0x82 ∷ rest) ≡ Some (Map 2, rest)
unfolding parts_of reading_of row_of named_rows
two_pairs rest = rw (le-ltb (length rest) 0 (omega arith)) refl

str_parts : (first : ℕ) (body : List ℕ) → 0xa0 ≤ first → first < 0xc0
    → parts_of (first ∷ body) ≡ Some (Str (first - 0xa0), body)
unfolding parts_of
str_parts first body low high = ap (λ r. parts_read r (first ∷ body)) (str_read first body low high)

short_text : (value : List ℕ) (s : IsShortText value) → text_of value ≡ Some s.body
short_text value s =
    ap text_of s.is
    ∙ ap (option_and_then (λ (p : Head × List ℕ). text_in p.0 p.1)) (str_parts s.first s.body s.low s.high)

short_is : (value : List ℕ) → IsShortText value → is_nil value ≡ false
short_is value s = ap is_nil s.is ∙ ap (λ p. is_nil_head (option_map (λ (q : Head × List ℕ). q.0) p)) (str_parts s.first s.body s.low s.high)

within_limit : (n : ℕ) (text : List ℕ) → length text ≤ n → is_none (fitting_text n (Some text)) ≡ false
within_limit n text fits = grind (arith, nat_tests)

-- ---- values in a row

-- what is left of a row behind its first value
record Behind (n : ℕ) (own rest : List ℕ) : Type 0 where
  values : row_of_values (own ++ rest) ≡ own ∷ row_of_values rest
  row : RowOf n rest

value_first : (n : ℕ) (own rest : List ℕ) → RowOf (suc n) (own ++ rest)
    → first_of most_bytes most_deep (own ++ rest) ≡ Whole (length own) → Behind n own rest
value_first n own rest row first =
    let split = Nonempty-from (own ++ rest) (length own) row.row first in
    let front = take_at own rest (length own) refl in
    let back = drop_at own rest (length own) refl in
    let values : row_of_values (own ++ rest) ≡ own ∷ row_of_values rest = split.values ∙ (λ i. front i ∷ row_of_values (back i)) in
    record {
      values = values;
      row = record {
        row = subst IsRow back split.rest;
        count_is = omega (arith, ap length values, row.count_is);
      };
    }

value_last : (own : List ℕ) → RowOf 1 own → row_of_values own ≡ own ∷ []
value_last own row =
    let split = Nonempty-from own (length own) row.row (last_first own row.row (sym row.count_is)) in
    let front = take_all (length own) own (omega arith) in
    let nothing = row_of_nothing (drop (length own) own) (omega (arith, length-drop (length own) own)) in
    split.values ∙ (λ i. front i ∷ nothing i)

-- a str whose head is one byte at the front of a row
key_first : (first n : ℕ) (text rest : List ℕ) → 0xa0 ≤ first → first < 0xc0
    → length text ≡ first - 0xa0
    → first_of most_bytes most_deep ((first ∷ text) ++ rest) ≡ Whole (length (first ∷ text))
key_first first n text rest low high len =
    let plain : plain_len (reading_of ((first ∷ text) ++ rest)) ≡ Some (length (first ∷ text)) = ap plain_len (str_read first (text ++ rest) low high) ∙ ap Some (omega (arith, len)) in
    plain_first most_bytes most_deep ((first ∷ text) ++ rest) (length (first ∷ text)) plain (omega (arith, length-append (first ∷ text) rest)) (omega (arith, len))

chunk_first : (rest : List ℕ)
    → first_of most_bytes most_deep (chunk_key ++ rest) ≡ Whole (length chunk_key)
chunk_first rest = key_first 0xa5 0 (codes "chunk") rest (omega arith) (omega arith) refl

size_first : (rest : List ℕ)
    → first_of most_bytes most_deep (size_key ++ rest) ≡ Whole (length size_key)
size_first rest = key_first 0xa4 0 (codes "size") rest (omega arith) (omega arith) refl

-- ---- the values under the keys

alone_under : (chunk : List ℕ) → last_under (codes "chunk") ((chunk_key, chunk) ∷ []) ≡ Some chunk
unfolding parts_of reading_of row_of named_rows
alone_under chunk = refl

alone_plain : (chunk : List ℕ) → last_under (codes "compressed") ((chunk_key, chunk) ∷ []) ≡ None
unfolding parts_of reading_of row_of named_rows
alone_plain chunk = refl

behind_under : (size chunk : List ℕ)
    → last_under (codes "chunk") ((size_key, size) ∷ (chunk_key, chunk) ∷ []) ≡ Some chunk
unfolding parts_of reading_of row_of named_rows
behind_under size chunk = refl

behind_plain : (size chunk : List ℕ)
    → last_under (codes "compressed") ((size_key, size) ∷ (chunk_key, chunk) ∷ []) ≡ None
unfolding parts_of reading_of row_of named_rows
behind_plain size chunk = refl

before_under : (size chunk : List ℕ)
    → last_under (codes "chunk") ((chunk_key, chunk) ∷ (size_key, size) ∷ []) ≡ Some chunk
unfolding parts_of reading_of row_of named_rows
before_under size chunk = refl

before_plain : (size chunk : List ℕ)
    → last_under (codes "compressed") ((chunk_key, chunk) ∷ (size_key, size) ∷ []) ≡ None
unfolding parts_of reading_of row_of named_rows
before_plain size chunk = refl

-- ---- the option

-- what its pairs say
says : (option chunk : List ℕ) (pairs : List (List ℕ × List ℕ)) → is_nil option ≡ false
    → pairs_of option ≡ Some pairs → last_under (codes "chunk") pairs ≡ Some chunk
    → last_under (codes "compressed") pairs ≡ None → IsShortText chunk → HasChunk option chunk
says option chunk pairs map found under plain short =
    let given : option_pairs (Some option) ≡ Some pairs = ap (λ (b : Bool). cond b (Some []) (pairs_of option)) map ∙ found in
    let named : chunk_under pairs ≡ Some chunk = ap (option_and_then unless_nil) under ∙ ap (λ (b : Bool). cond b None (Some chunk)) (short_is chunk short) in
    let body : length chunk ≡ suc (length short.body) = ap length short.is in
    record {
      good =
          ap are_bad_pairs given
          ∙ ap is_bad_chunk named
          ∙ ap (λ (t : Option (List ℕ)). is_none (fitting_text CHUNK_LIMIT t)) (short_text chunk short)
          ∙ within_limit CHUNK_LIMIT short.body (omega (arith, body, short.fits));
      chunk_is = ap (option_and_then chunk_under) given ∙ named;
      plain = ap (λ (o : Option (List (List ℕ × List ℕ))). is_compression (option_and_then (last_under (codes "compressed")) o)) given ∙ ap is_compression plain;
      bound = omega (arith, short.fits);
    }

-- of a map with these pairs
map_says : (option body chunk : List ℕ) (n : ℕ) (row : List (List ℕ))
    → parts_of option ≡ Some (Map n, body) → row_of_values body ≡ row
    → last_under (codes "chunk") (pair_up row) ≡ Some chunk
    → last_under (codes "compressed") (pair_up row) ≡ None → IsShortText chunk
    → HasChunk option chunk
map_says option body chunk n row parts values under plain short =
    says option chunk (pair_up row) (ap (λ p. is_nil_head (option_map (λ (q : Head × List ℕ). q.0) p)) parts)
    (ap (option_and_then (λ (p : Head × List ℕ). pairs_in p.0 p.1)) parts ∙ ap (λ (r : List (List ℕ)). Some (pair_up r)) values) under plain short

pub alone_says : (option pairs chunk : List ℕ) → IsWhole option → option ≡ 0x81 ∷ pairs
    → IsChunkAlone pairs chunk → HasChunk option chunk
alone_says option pairs chunk whole is a =
    let parts : parts_of option ≡ Some (Map 1, pairs) = ap parts_of is ∙ one_pair pairs in
    let row : RowOf 2 pairs = parts_row option (Map 1) pairs whole parts refl in
    let key = value_first 1 chunk_key chunk (subst (RowOf 2) a.spelled row) (chunk_first chunk) in
    let values : row_of_values pairs ≡ chunk_key ∷ chunk ∷ [] = ap row_of_values a.spelled ∙ key.values ∙ ap (λ (r : List (List ℕ)). chunk_key ∷ r) (value_last chunk key.row) in
    map_says option pairs chunk 1 (chunk_key ∷ chunk ∷ []) parts values (alone_under chunk) (alone_plain chunk) a.short

pub behind_says : (option pairs chunk : List ℕ) → IsWhole option → option ≡ 0x82 ∷ pairs
    → IsChunkBehindSize pairs chunk → HasChunk option chunk
behind_says option pairs chunk whole is b =
    let parts : parts_of option ≡ Some (Map 2, pairs) = ap parts_of is ∙ two_pairs pairs in
    let row : RowOf 4 pairs = parts_row option (Map 2) pairs whole parts refl in
    let size = b.size in
    let first = value_first 3 size_key (size ++ (chunk_key ++ chunk)) (subst (RowOf 4) b.spelled row) (size_first (size ++ (chunk_key ++ chunk))) in
    let second = value_first 2 size (chunk_key ++ chunk) first.row b.value in
    let third = value_first 1 chunk_key chunk second.row (chunk_first chunk) in
    let values : row_of_values pairs ≡ size_key ∷ size ∷ chunk_key ∷ chunk ∷ [] =
    ap row_of_values b.spelled ∙ first.values
    ∙ ap (λ (r : List (List ℕ)). size_key ∷ r) (second.values ∙ ap (λ (r : List (List ℕ)). size ∷ r) (third.values ∙ ap (λ (r : List (List ℕ)). chunk_key ∷ r) (value_last chunk third.row))) in
    map_says option pairs chunk 2 (size_key ∷ size ∷ chunk_key ∷ chunk ∷ []) parts values (behind_under size chunk) (behind_plain size chunk) b.short

pub before_says : (option pairs chunk : List ℕ) → IsWhole option → option ≡ 0x82 ∷ pairs
    → IsChunkBeforeSize pairs chunk → HasChunk option chunk
before_says option pairs chunk whole is b =
    let parts : parts_of option ≡ Some (Map 2, pairs) = ap parts_of is ∙ two_pairs pairs in
    let row : RowOf 4 pairs = parts_row option (Map 2) pairs whole parts refl in
    let size = b.size in
    let first = value_first 3 chunk_key (chunk ++ (size_key ++ size)) (subst (RowOf 4) b.spelled row) (chunk_first (chunk ++ (size_key ++ size))) in
    let second = value_first 2 chunk (size_key ++ size) first.row b.value in
    let third = value_first 1 size_key size second.row (size_first size) in
    let values : row_of_values pairs ≡ chunk_key ∷ chunk ∷ size_key ∷ size ∷ [] =
    ap row_of_values b.spelled ∙ first.values
    ∙ ap (λ (r : List (List ℕ)). chunk_key ∷ r) (second.values ∙ ap (λ (r : List (List ℕ)). chunk ∷ r) (third.values ∙ ap (λ (r : List (List ℕ)). size_key ∷ r) (value_last size third.row))) in
    map_says option pairs chunk 2 (chunk_key ∷ chunk ∷ size_key ∷ size ∷ []) parts values (before_under size chunk) (before_plain size chunk) b.short

-- of what may be there
pub on_some : (o : Option (Bor (List ℕ))) (P Q : List ℕ → Type 0)
    → ((chunk : List ℕ) → P chunk → Q chunk) → IfSome o (λ b. P b.now) → IfSome o (λ b. Q b.now)
on_some None P Q f h = tt
on_some (Some b) P Q f h = f b.now h
