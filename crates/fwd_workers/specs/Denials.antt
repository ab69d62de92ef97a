-- Why a server does not let the relay in, as it says.
use Rattle.std.specs.Prelude.{ℕ, List, [], ◌∷◌, codes, Option, None, if◌then◌else◌}
use Rattle.std.specs.Option.{option_and_then}
use Rattle.fwd_msgpack.specs.Scans.{elements_of, text_of}
use Rattle.fwd_msgpack.specs.Texts.{is_text}

-- the third value of a message whose first is the word PONG
abbrev pub reason_among : List (List ℕ) → Option (List ℕ)
reason_among [] = None
reason_among (word ∷ []) = None
reason_among (word ∷ passed ∷ []) = None
reason_among (word ∷ passed ∷ reason ∷ rest) =
    if is_text (codes "PONG") word then text_of reason else None

-- the reason that a PONG tells
abbrev pub reason_in : List ℕ → Option (List ℕ)
reason_in pong = option_and_then reason_among (elements_of pong)
