-- A stream is its first value, and then the stream behind it.
use Rattle.std.proofs.Common.{◌≡◌, ℕ, zero, suc, ◌+◌, ◌-◌, ◌<◌, Bool, true, false, cond, ltb, List, [], ◌∷◌, ◌++◌, length, take, drop, Option, Some, None, refl, sym, ap, subst, ◌∙◌, arith, append_assoc}
use Rattle.std.specs.Prelude.{fold}
use Rattle.std.proofs.lemmas.List.{append-nil, length-append, take_at, drop_at}
use Rattle.std.proofs.lemmas.List.Sums.{fold-append}
use Rattle.fwd_msgpack.specs.declared.fault.ScanFault.{ScanFault}
use Rattle.fwd_msgpack.specs.declared.fault.ScanFault.TheVariants.{Reserved}
use Rattle.fwd_msgpack.specs.declared.head.Head.{Head}
use Rattle.fwd_msgpack.specs.declared.head.HeadRead.{HeadRead}
use Rattle.fwd_msgpack.specs.declared.head.HeadRead.TheVariants as read
use Rattle.fwd_msgpack.specs.Heads.{reading_of, payload, members}
use Rattle.fwd_msgpack.specs.Scans.{Verdict, Whole, Short, Bad, Item, InHead, InPayload, State, Going, Ended, Failed, value_ended, payload_ended, item_begun, fault_at, unless_faulty, head_heard, scan_item, verdict_of, start, first_of, Split, Open, Broken, judged, hear_byte, split_of, with_front, continued, values_of, rest_of, row_of_values, most_bytes, most_deep, IsRow}
use Rattle.fwd_msgpack.proofs.Fronts.{scanned, scanned-Ended, scanned-Failed}
use Rattle.fwd_msgpack.proofs.Wholes.{scanned-append}
use Rattle.std.proofs.lemmas.Option.{same_Some}

-- ---- a byte counts for one

pub data Step (used : ℕ) (state : State) : Type 0 where
  goes : (stack : List ℕ) (item : Item) → state ≡ Going used stack item → Step used state
  ends : state ≡ Ended used → Step used state
  fails : (fault : ScanFault) → state ≡ Failed fault → Step used state

pop : (used : ℕ) (stack : List ℕ) → Step used (value_ended used stack)
pop used [] = ends refl
pop used (zero ∷ stack) = pop used stack
pop used (suc n ∷ stack) = goes (n ∷ stack) (InHead []) refl

behind_payload : (used : ℕ) (stack : List ℕ) (head : Head)
    → Step used (payload_ended used stack head)
unfolding payload_ended
behind_payload used stack head = by_test (ltb 0 (members head))
  where
    by_test : (b : Bool)
        → Step used
        (cond b (Going used ((members head - 1) ∷ stack) (InHead []))
        (value_ended used stack))
    by_test true = goes ((members head - 1) ∷ stack) (InHead []) refl
    by_test false = pop used stack

begun : (used : ℕ) (stack : List ℕ) (head : Head) → Step used (item_begun used stack head)
unfolding item_begun
begun used stack head = by_test (ltb 0 (payload head))
  where
    by_test : (b : Bool)
        → Step used
        (cond b (Going used stack (InPayload (payload head))) (payload_ended used stack head))
    by_test true = goes stack (InPayload (payload head)) refl
    by_test false = behind_payload used stack head

found : (used : ℕ) (stack : List ℕ) (head : Head) (o : Option ScanFault)
    → Step used (unless_faulty o (item_begun used stack head))
found used stack head (Some fault) = fails fault refl
found used stack head None = begun used stack head

heard : (limit deep used : ℕ) (stack front : List ℕ) (r : HeadRead)
    → Step used (head_heard limit deep used stack front r)
heard limit deep used stack front read.Short = goes stack (InHead front) refl
heard limit deep used stack front read.Reserved = fails Reserved refl
heard limit deep used stack front (read.Whole head n) = found used stack head (fault_at limit deep used stack head)

pub one_byte : (limit deep used : ℕ) (stack : List ℕ) (item : Item) (b : ℕ)
    → Step (used + 1) (scan_item limit deep used stack item b)
one_byte limit deep used stack (InHead pending) b = heard limit deep (used + 1) stack (pending ++ b ∷ []) (reading_of (pending ++ b ∷ []))
one_byte limit deep used stack (InPayload left) b = by_test (ltb 1 left)
  where
    by_test : (c : Bool)
        → Step (used + 1)
        (cond c (Going (used + 1) stack (InPayload (left - 1))) (value_ended (used + 1) stack))
    by_test true = goes stack (InPayload (left - 1)) refl
    by_test false = pop (used + 1) stack

-- ---- the stream behind its first value

-- the stream behind more bytes
abbrev pub told : (limit deep : ℕ) → Split → List ℕ → Split
told limit deep split bytes = fold (hear_byte limit deep) split bytes

-- a stream by the verdict on its front
abbrev pub by_first : (limit deep : ℕ) → List (List ℕ) → List ℕ → Verdict → Split
by_first limit deep values bytes (Whole n) =
    told limit deep (Open (values ++ take n bytes ∷ []) []) (drop n bytes)
by_first limit deep values bytes Short = Open values bytes
by_first limit deep values bytes (Bad fault) = Broken values fault

pub told-Broken :
    (limit deep : ℕ) (values : List (List ℕ)) (fault : ScanFault) (bytes : List ℕ)
    → told limit deep (Broken values fault) bytes ≡ Broken values fault
told-Broken limit deep values fault [] = refl
told-Broken limit deep values fault (b ∷ bytes) = told-Broken limit deep values fault bytes

module _ (limit deep : ℕ) (values : List (List ℕ)) where
  -- seen has come of the first value, and more follows
  pub told_here : (seen more : List ℕ) (stack : List ℕ) (item : Item)
      → scanned limit deep start seen ≡ Going (length seen) stack item
      → told limit deep (Open values seen) more
      ≡ by_first limit deep values (seen ++ more)
      (verdict_of (scanned limit deep start (seen ++ more)))
  unfolding first_of
  told_here seen [] stack item e =
      let state : scanned limit deep start (seen ++ []) ≡ Going (length seen) stack item = ap (λ (xs : List ℕ). scanned limit deep start xs) (append-nil seen) ∙ e in
      ap (λ (xs : List ℕ). Open values xs) (sym (append-nil seen)) ∙ ap (λ (s : State). by_first limit deep values (seen ++ []) (verdict_of s)) (sym state)
  told_here seen (b ∷ more) stack item e =
      by_step (one_byte limit deep (length seen) stack item b)
      (λ stack' item' e'. told_here (seen ++ b ∷ []) more stack' item' e')
    where
      next : scanned limit deep start (seen ++ b ∷ [])
          ≡ scan_item limit deep (length seen) stack item b
      next = scanned-append limit deep start seen (b ∷ []) ∙ ap (λ (s : State). scanned limit deep s (b ∷ [])) e

      regroup : (seen ++ b ∷ []) ++ more ≡ seen ++ b ∷ more
      regroup = append_assoc seen (b ∷ []) more

      size : length (seen ++ b ∷ []) ≡ length seen + 1
      size = length-append seen (b ∷ [])

      whole : scanned limit deep start (seen ++ b ∷ more)
          ≡ scanned limit deep (scan_item limit deep (length seen) stack item b) more
      whole = ap (λ (xs : List ℕ). scanned limit deep start xs) (sym regroup) ∙ scanned-append limit deep start (seen ++ b ∷ []) more ∙ ap (λ (s : State). scanned limit deep s more) next

      by_step : Step (length seen + 1) (scan_item limit deep (length seen) stack item b)
          → ((stack' : List ℕ) (item' : Item)
          → scanned limit deep start (seen ++ b ∷ [])
          ≡ Going (length (seen ++ b ∷ [])) stack' item'
          → told limit deep (Open values (seen ++ b ∷ [])) more
          ≡ by_first limit deep values ((seen ++ b ∷ []) ++ more)
          (verdict_of (scanned limit deep start ((seen ++ b ∷ []) ++ more))))
          → told limit deep (Open values seen) (b ∷ more)
          ≡ by_first limit deep values (seen ++ b ∷ more)
          (verdict_of (scanned limit deep start (seen ++ b ∷ more)))
      by_step (goes stack' item' p) ih =
          ap (λ (s : State). told limit deep (judged values (seen ++ b ∷ []) (verdict_of s)) more) (next ∙ p)
          ∙ ih stack' item' (next ∙ p ∙ ap (λ (n : ℕ). Going n stack' item') (sym size))
          ∙ ap (λ (xs : List ℕ). by_first limit deep values xs (verdict_of (scanned limit deep start xs))) regroup
      by_step (ends p) ih =
          let state : scanned limit deep start (seen ++ b ∷ more) ≡ Ended (length seen + 1) = whole ∙ ap (λ (s : State). scanned limit deep s more) p ∙ scanned-Ended limit deep (length seen + 1) more in
          let front : take (length seen + 1) (seen ++ b ∷ more) ≡ seen ++ b ∷ [] = ap (λ (xs : List ℕ). take (length seen + 1) xs) (sym regroup) ∙ take_at (seen ++ b ∷ []) more (length seen + 1) size in
          let behind : drop (length seen + 1) (seen ++ b ∷ more) ≡ more = ap (λ (xs : List ℕ). drop (length seen + 1) xs) (sym regroup) ∙ drop_at (seen ++ b ∷ []) more (length seen + 1) size in
          ap (λ (s : State). told limit deep (judged values (seen ++ b ∷ []) (verdict_of s)) more) (next ∙ p)
          ∙ ap (λ (xs : List ℕ). told limit deep (Open (values ++ xs ∷ []) []) more) (sym front)
          ∙ ap (λ (xs : List ℕ). told limit deep (Open (values ++ take (length seen + 1) (seen ++ b ∷ more) ∷ []) []) xs) (sym behind)
          ∙ ap (λ (s : State). by_first limit deep values (seen ++ b ∷ more) (verdict_of s)) (sym state)
      by_step (fails fault p) ih =
          let state : scanned limit deep start (seen ++ b ∷ more) ≡ Failed fault = whole ∙ ap (λ (s : State). scanned limit deep s more) p ∙ scanned-Failed limit deep fault more in
          ap (λ (s : State). told limit deep (judged values (seen ++ b ∷ []) (verdict_of s)) more) (next ∙ p)
          ∙ told-Broken limit deep values fault more
          ∙ ap (λ (s : State). by_first limit deep values (seen ++ b ∷ more) (verdict_of s)) (sym state)

  -- behind a value the stream goes on with the next one
  pub told_first : (bytes : List ℕ)
      → told limit deep (Open values []) bytes
      ≡ by_first limit deep values bytes (first_of limit deep bytes)
  unfolding first_of
  told_first bytes = told_here [] bytes [] (InHead []) refl

-- ---- values in front

judged_front : (front values : List (List ℕ)) (rest : List ℕ) (v : Verdict)
    → judged (front ++ values) rest v ≡ with_front front (judged values rest v)
judged_front front values rest (Whole n) = ap (λ (xs : List (List ℕ)). Open xs []) (append_assoc front values (rest ∷ []))
judged_front front values rest Short = refl
judged_front front values rest (Bad fault) = refl

hear_front : (limit deep : ℕ) (front : List (List ℕ)) (split : Split) (b : ℕ)
    → hear_byte limit deep (with_front front split) b
    ≡ with_front front (hear_byte limit deep split b)
hear_front limit deep front (Open values rest) b = judged_front front values (rest ++ b ∷ []) (first_of limit deep (rest ++ b ∷ []))
hear_front limit deep front (Broken values fault) b = refl

pub told_front : (limit deep : ℕ) (front : List (List ℕ)) (split : Split) (bytes : List ℕ)
    → told limit deep (with_front front split) bytes
    ≡ with_front front (told limit deep split bytes)
told_front limit deep front split [] = refl
told_front limit deep front split (b ∷ bytes) =
    ap (λ (s : Split). told limit deep s bytes) (hear_front limit deep front split b) ∙ told_front limit deep front (hear_byte limit deep split b) bytes

-- ---- rows

-- a row that is not empty is its first value, and a row
pub record Nonempty (bytes : List ℕ) (n : ℕ) : Type 0 where
  pub rest : IsRow (drop n bytes)
  pub values : row_of_values bytes ≡ take n bytes ∷ row_of_values (drop n bytes)

-- a stream by the verdict on its front
pub split_told : (limit deep : ℕ) (bytes : List ℕ)
    → split_of limit deep bytes ≡ by_first limit deep [] bytes (first_of limit deep bytes)
unfolding split_of
split_told limit deep bytes = told_first limit deep [] bytes

pub split_first : (limit deep : ℕ) (bytes : List ℕ) (n : ℕ)
    → first_of limit deep bytes ≡ Whole n
    → split_of limit deep bytes
    ≡ with_front (take n bytes ∷ []) (split_of limit deep (drop n bytes))
unfolding split_of
split_first limit deep bytes n e =
    told_first limit deep [] bytes ∙ ap (λ (v : Verdict). by_first limit deep [] bytes v) e ∙ told_front limit deep (take n bytes ∷ []) (Open [] []) (drop n bytes)

pub rest_front : (front : List (List ℕ)) (split : Split)
    → rest_of (with_front front split) ≡ rest_of split
rest_front front (Open values rest) = refl
rest_front front (Broken values fault) = refl

pub values_front : (front : List (List ℕ)) (split : Split)
    → values_of (with_front front split) ≡ front ++ values_of split
values_front front (Open values rest) = refl
values_front front (Broken values fault) = refl

pub Nonempty-from : (bytes : List ℕ) (n : ℕ) → IsRow bytes
    → first_of most_bytes most_deep bytes ≡ Whole n → Nonempty bytes n
unfolding row_of_values
Nonempty-from bytes n row e =
    let split = split_first most_bytes most_deep bytes n e in
    let behind = split_of most_bytes most_deep (drop n bytes) in
    record {
      rest = sym (ap rest_of split ∙ rest_front (take n bytes ∷ []) behind) ∙ row;
      values = ap values_of split ∙ values_front (take n bytes ∷ []) behind;
    }

-- a row begins with a value, if it has any bytes
starts_by : (bytes : List ℕ) (v : Verdict) → first_of most_bytes most_deep bytes ≡ v
    → IsRow bytes → 0 < length bytes → (n : ℕ) × (v ≡ Whole n)
unfolding split_of
starts_by bytes (Whole n) e row lt = (n, refl)
starts_by bytes Short e row lt =
    let split = told_first most_bytes most_deep [] bytes ∙ ap (λ (v : Verdict). by_first most_bytes most_deep [] bytes v) e in
    let nothing : bytes ≡ [] = same_Some bytes [] (ap rest_of (sym split) ∙ row) in
    absurd (omega (arith, ap length nothing))
starts_by bytes (Bad fault) e row lt =
    let split = told_first most_bytes most_deep [] bytes ∙ ap (λ (v : Verdict). by_first most_bytes most_deep [] bytes v) e in
    let both = ap rest_of (sym split) ∙ row in
    absurd cc

pub row_starts : (bytes : List ℕ) → IsRow bytes → 0 < length bytes
    → (n : ℕ) × (first_of most_bytes most_deep bytes ≡ Whole n)
row_starts bytes row lt = starts_by bytes (first_of most_bytes most_deep bytes) refl row lt

pub row_of_nothing : (bytes : List ℕ) → length bytes ≡ 0 → row_of_values bytes ≡ []
unfolding row_of_values split_of
row_of_nothing [] e = refl
row_of_nothing (b ∷ bytes) e = absurd (omega arith)

-- ---- more bytes

-- the bytes behind the last value are less than one
abbrev Runs : (limit deep : ℕ) → Split → Type 0
Runs limit deep (Open values rest) =
    (stack : List ℕ)
    × ((item : Item) × (scanned limit deep start rest ≡ Going (length rest) stack item))
Runs limit deep (Broken values fault) = Unit {0}

runs_judged : (limit deep : ℕ) (values : List (List ℕ)) (rest : List ℕ) (state : State)
    → Step (length rest) state → scanned limit deep start rest ≡ state
    → Runs limit deep (judged values rest (verdict_of state))
runs_judged limit deep values rest state (goes stack item p) e = subst (λ (s : State). Runs limit deep (judged values rest (verdict_of s))) (sym p) (stack, (item, e ∙ p))
runs_judged limit deep values rest state (ends p) e = subst (λ (s : State). Runs limit deep (judged values rest (verdict_of s))) (sym p) ([], (InHead [], refl))
runs_judged limit deep values rest state (fails fault p) e = subst (λ (s : State). Runs limit deep (judged values rest (verdict_of s))) (sym p) tt

runs_byte : (limit deep : ℕ) (split : Split) (b : ℕ) → Runs limit deep split
    → Runs limit deep (hear_byte limit deep split b)
unfolding first_of
runs_byte limit deep (Open values rest) b r =
    let state : scanned limit deep start (rest ++ b ∷ []) ≡ scan_item limit deep (length rest) r.0 r.1.0 b = scanned-append limit deep start rest (b ∷ []) ∙ ap (λ (s : State). scanned limit deep s (b ∷ [])) r.1.1 in
    let count : length rest + 1 ≡ length (rest ++ b ∷ []) = sym (length-append rest (b ∷ [])) in
    let step = subst (λ (n : ℕ). Step n (scan_item limit deep (length rest) r.0 r.1.0 b)) count (one_byte limit deep (length rest) r.0 r.1.0 b) in
    subst (λ (s : State). Runs limit deep (judged values (rest ++ b ∷ []) (verdict_of s))) (sym state) (runs_judged limit deep values (rest ++ b ∷ []) (scan_item limit deep (length rest) r.0 r.1.0 b) step state)
runs_byte limit deep (Broken values fault) b r = tt

runs : (limit deep : ℕ) (split : Split) (bytes : List ℕ) → Runs limit deep split
    → Runs limit deep (told limit deep split bytes)
runs limit deep split [] r = r
runs limit deep split (b ∷ bytes) r = runs limit deep (hear_byte limit deep split b) bytes (runs_byte limit deep split b r)

told_more : (limit deep : ℕ) (split : Split) (more : List ℕ) → Runs limit deep split
    → told limit deep split more ≡ continued limit deep split more
unfolding split_of first_of
told_more limit deep (Open values rest) more r =
    let alone : told limit deep (Open [] rest) more ≡ told limit deep (Open [] []) (rest ++ more) = told_here limit deep [] rest more r.0 r.1.0 r.1.1 ∙ sym (told_first limit deep [] (rest ++ more)) in
    ap (λ (vs : List (List ℕ)). told limit deep (Open vs rest) more) (sym (append-nil values))
    ∙ told_front limit deep values (Open [] rest) more ∙ ap (with_front values) alone
told_more limit deep (Broken values fault) more r = told-Broken limit deep values fault more

-- a stream goes on from its rest
pub split_append : (limit deep : ℕ) (bytes more : List ℕ)
    → split_of limit deep (bytes ++ more)
    ≡ continued limit deep (split_of limit deep bytes) more
unfolding split_of
split_append limit deep bytes more =
    fold-append (hear_byte limit deep) (Open [] []) bytes more ∙ told_more limit deep (told limit deep (Open [] []) bytes) more (runs limit deep (Open [] []) bytes ([], (InHead [], refl)))
