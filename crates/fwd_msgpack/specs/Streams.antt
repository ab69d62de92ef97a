-- What a stream begins with: its first value, less than one, or its first fault.
use Rattle.std.specs.Prelude.{◌≡◌, ◌⊎◌, ℕ, ◌<◌, ◌≤◌, List, [], ◌∷◌, ◌++◌, length, take, slice_index}
use Rattle.std.specs.List.{AllByRecursion, flat_map}
use Rattle.fwd_msgpack.specs.declared.fault.ScanFault.{ScanFault}
use Rattle.fwd_msgpack.specs.declared.fault.ScanFault.TheVariants.{Reserved, TooDeep, TooLong}
use Rattle.fwd_msgpack.specs.declared.head.Head.{Head}
use Rattle.fwd_msgpack.specs.Heads.{payload, members}
use Rattle.fwd_msgpack.specs.Scans.{Verdict, Whole, Short, Bad, Split, Open, Broken, most_bytes, most_deep}
use Rattle.fwd_msgpack.specs.Values.{AreHead, IsValue}

-- each is a byte
abbrev pub AreBytes : List ℕ → Type 0
AreBytes bytes = (i : ℕ) → slice_index bytes i < 256

-- an item: a head, of any kind, and its payload
pub record IsItem (bytes : List ℕ) : Type 0 where
  pub head : Head
  pub front : List ℕ
  pub body : List ℕ
  pub parts : bytes ≡ front ++ body
  pub spelled : AreHead head front
  pub len : length body ≡ payload head

-- whole items one after the other
pub record AreItems (bytes : List ℕ) : Type 0 where
  pub items : List (List ℕ)
  pub each : AllByRecursion IsItem items
  pub joined : flat_map (λ item. item) items ≡ bytes

-- the byte that no head begins with, or a whole head
abbrev pub EndsHead : List ℕ → Type 0
EndsHead last = (last ≡ 0xc1 ∷ []) ⊎ ((head : Head) × AreHead head last)

-- The front of a stream is judged where it ends with a complete head or the reserved byte, has only
-- whole items before that, and no value has ended earlier.
pub record IsJudged (front : List ℕ) : Type 0 where
  pub before : List ℕ
  pub last : List ℕ
  pub parts : front ≡ before ++ last
  pub items : AreItems before
  pub ends : EndsHead last
  pub running : (n deep : ℕ) → n < length front → IsValue deep (take n front) → ⊥

-- the value begins so
pub record Begins (front value : List ℕ) : Type 0 where
  pub bytes : AreBytes value
  pub rest : List ℕ
  pub parts : value ≡ front ++ rest

-- some value begins so, at most this deep
abbrev pub CanBegin : (deep : ℕ) → List ℕ → Type 0
CanBegin deep front = (value : List ℕ) × (Begins front value × IsValue deep value)

-- The fault of a judged front: no value of any size and depth begins so; else none of this depth;
-- else each of these has more than limit bytes.
abbrev pub HasFault : (limit deep : ℕ) → List ℕ → ScanFault → Type 0
HasFault limit deep front Reserved = (any : ℕ) → CanBegin any front → ⊥
HasFault limit deep front TooDeep =
    ((any : ℕ) × CanBegin any front) × (CanBegin deep front → ⊥)
HasFault limit deep front TooLong =
    CanBegin deep front
    × ((value : List ℕ) → Begins front value → IsValue deep value → limit < length value)

-- the first n bytes are judged, and faulty
abbrev pub IsFaulty : (limit deep : ℕ) → List ℕ → ScanFault → Type 0
IsFaulty limit deep front fault = IsJudged front × HasFault limit deep front fault

-- What the bytes begin with: a value of n bytes within the limits; or no front of them is a value
-- or faulty; or the shortest faulty front has this fault.
abbrev pub IsFirst : (limit deep : ℕ) → List ℕ → Verdict → Type 0
IsFirst limit deep bytes (Whole n) =
    (n ≤ length bytes) × (n ≤ limit) × IsValue deep (take n bytes)
IsFirst limit deep bytes Short =
    ((n any : ℕ) → IsValue any (take n bytes) → ⊥)
    × ((n : ℕ) (fault : ScanFault) → IsFaulty limit deep (take n bytes) fault → ⊥)
IsFirst limit deep bytes (Bad fault) =
    (n : ℕ)
    × ((n ≤ length bytes) × IsFaulty limit deep (take n bytes) fault
    × ((m : ℕ) (other : ScanFault) → m < n → IsFaulty limit deep (take m bytes) other
    → ⊥))

-- a value within the limits
abbrev pub IsWithinLimits : (limit deep : ℕ) → List ℕ → Type 0
IsWithinLimits limit deep value = IsValue deep value × (length value ≤ limit)

-- The values stand one after the other in the bytes, each within the limits, and then comes the
-- rest, which begins with what the verdict says.
pub record Splits (limit deep : ℕ) (bytes : List ℕ) (values : List (List ℕ)) (rest : List ℕ)
    (verdict : Verdict) : Type 0 where
  pub joined : flat_map (λ value. value) values ++ rest ≡ bytes
  pub each : AllByRecursion (IsWithinLimits limit deep) values
  pub first : IsFirst limit deep rest verdict

-- The stream: its values, and a rest that is less than one;
-- or the values before the first fault, and the fault.
abbrev pub IsStream : (limit deep : ℕ) → List ℕ → Split → Type 0
IsStream limit deep bytes (Open values rest) = Splits limit deep bytes values rest Short
IsStream limit deep bytes (Broken values fault) =
    (rest : List ℕ) × Splits limit deep bytes values rest (Bad fault)

-- The bytes are this head, and as many values as it opens, one after the other.
pub record HasMembers (head : Head) (bytes : List ℕ) (values : List (List ℕ)) : Type 0 where
  pub front : List ℕ
  pub parts : bytes ≡ front ++ flat_map (λ value. value) values
  pub spelled : AreHead head front
  pub count : members head ≡ length values
  pub each : AllByRecursion (IsWithinLimits most_bytes most_deep) values
