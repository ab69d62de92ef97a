-- What is written is read back: written strs and bools stand in a row.
use Rattle.std.proofs.Common.{◌≡◌, ℕ, ◌+◌, ◌^◌, ◌<◌, ◌≤◌, Bool, true, false, cond, ltb, List, [], ◌∷◌, ◌++◌, length, lit≤, refl, ap, subst, ◌∙◌, arith}
use Rattle.std.specs.Prelude.{map}
use Rattle.std.specs.Int.{w16, w32, to_be_bytes}
use Rattle.std.proofs.lemmas.List.{append-nil, length-append}
use Rattle.fwd_msgpack.specs.declared.head.Head.TheVariants.{Bool as Boolean, Str}
use Rattle.fwd_msgpack.specs.Heads.{head_bytes}
use Rattle.fwd_msgpack.specs.Scans.{row_of_values}
use Rattle.fwd_msgpack.specs.Texts.{text}
use Rattle.fwd_msgpack.specs.Values.{IsPlain}
use Rattle.fwd_msgpack.proofs.Rows.{row_of_nothing}
use Rattle.fwd_msgpack.proofs.Written.{value_first, written_plain, plain_value, text_plain}

by_width : (a b c : Bool) (n : ℕ)
    → length
    (cond a ((0xa0 + n) ∷ [])
    (cond b (0xd9 ∷ n ∷ [])
    (cond c (0xda ∷ to_be_bytes w16 n) (0xdb ∷ to_be_bytes w32 n))))
    ≤ 5
by_width true b c n = lit≤ tt
by_width false true c n = lit≤ tt
by_width false false true n = lit≤ tt
by_width false false false n = lit≤ tt

-- a head of a str has five bytes at most
str_head : (n : ℕ) → length (head_bytes (Str n)) ≤ 5
unfolding head_bytes
str_head n = by_width (ltb n 0x20) (ltb n 0x100) (ltb n 0x1_0000) n

pub bool_plain : (flag : Bool) → IsPlain (head_bytes (Boolean flag))
bool_plain flag = subst IsPlain (append-nil (head_bytes (Boolean flag))) (written_plain (Boolean flag) tt tt [] refl refl)

pub bool_size : (flag : Bool) → length (head_bytes (Boolean flag)) ≡ 1
unfolding head_bytes
bool_size true = refl
bool_size false = refl

-- a written bool stands first in a row
pub row-bool : (flag : Bool) (rest : List ℕ)
    → row_of_values (head_bytes (Boolean flag) ++ rest)
    ≡ head_bytes (Boolean flag) ∷ row_of_values rest
row-bool flag rest =
    value_first 0 (head_bytes (Boolean flag)) rest (plain_value 0 (head_bytes (Boolean flag)) (bool_plain flag)) (omega arith) (omega (arith, bool_size flag))

-- a written str stands first in a row
pub row-text : (w rest : List ℕ) → length w + 5 < 2 ^ 32
    → row_of_values (text w ++ rest) ≡ text w ∷ row_of_values rest
row-text w rest lt =
    value_first 0 (text w) rest (plain_value 0 (text w) (text_plain w (omega (arith, lt)))) (omega arith)
    (omega (arith, lt, str_head (length w), length-append (head_bytes (Str (length w))) w))

-- strs, one after the other
abbrev pub texts : List (List ℕ) → List ℕ
texts [] = []
texts (w ∷ ws) = text w ++ texts ws

-- each with its head is less than 2 ^ 32 bytes
abbrev pub AreShort : List (List ℕ) → Type 0
AreShort [] = Unit {0}
AreShort (w ∷ ws) = (length w + 5 < 2 ^ 32) × AreShort ws

-- written strs are a row of them
pub row-texts : (ws : List (List ℕ)) → AreShort ws → row_of_values (texts ws) ≡ map text ws
row-texts [] short = row_of_nothing [] refl
row-texts (w ∷ ws) short =
    row-text w (texts ws) short.0 ∙ ap (λ (vs : List (List ℕ)). text w ∷ vs) (row-texts ws short.1)
