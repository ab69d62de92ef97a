-- What a generator gives: its next words, little-endian.
use Rattle.std.specs.Prelude.{ℕ, ◌+◌, ◌%◌, ◌^◌, List, drop}
use Rattle.std.specs.List.{flat_map}
use Rattle.std.specs.Int.{w32, to_le_bytes}
use Rattle.rand_core.specs.Steps.{first_words}
use Rattle.rand_chacha.specs.ChaCha.{ChaCha, next_word}
use Rattle.hex.specs.Hex.{encode_lower}

-- how many double rounds ChaCha20 has
abbrev pub double_rounds : ℕ
double_rounds = 10

-- the generator's next n words
abbrev pub next_words : ℕ → ChaCha → List ℕ
next_words n g = first_words (next_word double_rounds) n g

-- the bytes of n of the generator's words, little-endian, after it passed over some
abbrev pub drawn : (passed n : ℕ) → ChaCha → List ℕ
drawn passed n g = flat_map (to_le_bytes w32) (drop passed (next_words (passed + n) g))

-- the same as hexadecimal digits
abbrev pub hex_drawn : (passed n : ℕ) → ChaCha → List ℕ
hex_drawn passed n g = encode_lower (drawn passed n g)

-- the generator n words further; its stream comes round after 2 ^ 68 words
abbrev pub moved : ℕ → ChaCha → ChaCha
moved n g = record g { word_pos = (g.word_pos + n) % 2 ^ 68 }
