-- Where a scan fails stands the shortest faulty front.
use Rattle.std.proofs.Common.{◌≡◌, ℕ, zero, suc, ◌+◌, ◌-◌, ◌<◌, ◌≤◌, Bool, true, false, cond, ltb, leb, ◌&&◌, List, [], ◌∷◌, ◌++◌, length, take, drop, get_or, sum, Option, Some, None, refl, sym, ap, subst, ◌∙◌, arith, append_assoc, inl, inr, ⊎_elim}
use Rattle.std.proofs.lemmas.Bool.{cases_lt, ltb-true, ltb-false, leb-true, leb-false, le-leb}
use Rattle.std.proofs.lemmas.List.{append-nil, length-append, take-append-drop, take-append-le, take_at}
use Rattle.fwd_msgpack.specs.declared.fault.ScanFault.{ScanFault}
use Rattle.fwd_msgpack.specs.declared.fault.ScanFault.TheVariants.{Reserved, TooDeep, TooLong}
use Rattle.fwd_msgpack.specs.declared.head.Head.{Head}
use Rattle.fwd_msgpack.specs.declared.head.HeadRead.{HeadRead}
use Rattle.fwd_msgpack.specs.declared.head.HeadRead.TheVariants as read
use Rattle.fwd_msgpack.specs.Heads.{Row, row_of, named_rows, row_reading, reading_of, payload, members, opens}
use Rattle.fwd_msgpack.specs.Scans.{Whole, Short, Bad, InHead, InPayload, State, Going, Ended, Failed, after_value, goes_on, value_ended, payload_ended, item_begun, fault_at, unless_faulty, head_found, head_heard, scan_item, scan_byte, verdict_of, start, first_of}
use Rattle.fwd_msgpack.specs.Values.{IsValue}
use Rattle.fwd_msgpack.specs.Streams.{AreBytes, AreItems, EndsHead, IsJudged, Begins, CanBegin, HasFault, IsFaulty, IsFirst}
use Rattle.fwd_msgpack.proofs.Fronts.{scanned, scanned-Ended, scanned-Failed}
use Rattle.fwd_msgpack.proofs.Within.{IsGood, IsGood-from, IsGood-none}
use Rattle.fwd_msgpack.proofs.Wholes.{Front-from, scanned-append, state_whole}
use Rattle.fwd_msgpack.proofs.Sound.{sound}
use Rattle.fwd_msgpack.proofs.Complete.{same_going}
use Rattle.fwd_msgpack.proofs.Fillings.{AreBytes-front}
use Rattle.fwd_msgpack.proofs.History.{here, Along, in_head, in_payload, over, bad, along, exact, Goes, goes_front}
use Rattle.fwd_msgpack.proofs.Openings.{Opens, opens_here, not_faulty, value_ended_here, no_value}

-- ---- the byte that begins no head

all_some : List (Option Row) → Bool
all_some [] = true
all_some (None ∷ rows) = false
all_some (Some row ∷ rows) = all_some rows

some_at : (rows : List (Option Row)) (i : ℕ) → all_some rows ≡ true → i < length rows
    → get_or rows i None ≡ None → ⊥
unfolding all_some
some_at [] i all lt e = omega arith
some_at (None ∷ rows) i all lt e = cc
some_at (Some row ∷ rows) zero all lt e = cc
some_at (Some row ∷ rows) (suc i) all lt e = some_at rows i all (omega arith) e

named_none : (i : ℕ) → i < 32 → get_or named_rows i None ≡ None → i ≡ 1
unfolding all_some named_rows
named_none zero lt e = absurd cc
named_none (suc zero) lt e = refl
named_none (suc (suc i)) lt e = absurd (some_at (drop 2 named_rows) i refl (omega arith) e)

peel : (b : Bool) (row : Row) (o : Option Row) → cond b (Some row) o ≡ None
    → (b ≡ false) × (o ≡ None)
peel true row o e = absurd cc
peel false row o e = (refl, e)

peel_last : (b : Bool) (row : Row) (o : Option Row) → cond b o (Some row) ≡ None
    → (b ≡ true) × (o ≡ None)
peel_last true row o e = (refl, e)
peel_last false row o e = absurd cc

none_row : (first : ℕ) → row_of first ≡ None → first ≡ 0xc1
unfolding row_of
none_row first e =
    let a = peel (ltb first 0x80) _ _ e in
    let b = peel (ltb first 0x90) _ _ a.1 in
    let c = peel (ltb first 0xa0) _ _ b.1 in
    let d = peel (ltb first 0xc0) _ _ c.1 in
    let f = peel_last (ltb first 0xe0) _ _ d.1 in
    let high = ltb-false first 0xc0 d.0 in
    let low = ltb-true first 0xe0 f.0 in
    let place = named_none (first - 0xc0) (omega arith) f.1 in
    omega (arith, place)

reserved_row : (o : Option Row) (rest : List ℕ) → row_reading o rest ≡ read.Reserved
    → o ≡ None
reserved_row None rest e = refl
reserved_row (Some row) rest e = absurd (not_reserved (ltb (length rest) row.more) (row.spells (take row.more rest)) (row.more + 1) e)
  where
    not_reserved : (b : Bool) (head : Head) (used : ℕ)
        → cond b read.Short (read.Whole head used) ≡ read.Reserved → ⊥
    not_reserved true head used r = cc
    not_reserved false head used r = cc

-- the reserved byte stands alone in a head
reserved_alone : (pending : List ℕ) (b : ℕ) → reading_of pending ≡ read.Short
    → reading_of (pending ++ b ∷ []) ≡ read.Reserved → pending ++ b ∷ [] ≡ 0xc1 ∷ []
unfolding reading_of
reserved_alone [] b short e = ap (λ (x : ℕ). x ∷ []) (none_row b (reserved_row (row_of b) [] e))
reserved_alone (first ∷ pending) b short e =
    let none = reserved_row (row_of first) (pending ++ b ∷ []) e in
    let also = ap (λ (o : Option Row). row_reading o pending) none in
    absurd cc

-- ---- which fault a head has

pub data Kind (limit deep used : ℕ) (stack : List ℕ) (head : Head) (fault : ScanFault)
    : Type 0 where
  deep_kind : fault ≡ TooDeep → opens head ≡ true → deep ≤ length stack
      → Kind limit deep used stack head fault
  long_kind : fault ≡ TooLong → (opens head ≡ true → length stack < deep)
      → limit < used + (payload head + members head + sum stack)
      → Kind limit deep used stack head fault

not_both : {A : Type 0} (b : Bool) → b ≡ false → b ≡ true → A
not_both b f t = absurd cc

kind_by :
    (limit deep used : ℕ) (stack : List ℕ) (head : Head) (fault : ScanFault) (a b c : Bool)
    → opens head ≡ a → leb deep (length stack) ≡ b
    → ltb limit (used + (payload head + members head + sum stack)) ≡ c
    → cond (a && b) (Some TooDeep) (cond c (Some TooLong) None) ≡ Some fault
    → Kind limit deep used stack head fault
kind_by limit deep used stack head fault true true c oa ob oc e = deep_kind (cc) oa (leb-true deep (length stack) ob)
kind_by limit deep used stack head fault true false true oa ob oc e = long_kind (cc) (λ (t : opens head ≡ true). leb-false deep (length stack) ob) (ltb-true limit _ oc)
kind_by limit deep used stack head fault true false false oa ob oc e = absurd cc
kind_by limit deep used stack head fault false b true oa ob oc e = long_kind (cc) (λ (t : opens head ≡ true). not_both {A = length stack < deep} (opens head) oa t) (ltb-true limit _ oc)
kind_by limit deep used stack head fault false b false oa ob oc e = absurd cc

pub kind_of : (limit deep used : ℕ) (stack : List ℕ) (head : Head) (fault : ScanFault)
    → fault_at limit deep used stack head ≡ Some fault → Kind limit deep used stack head fault
unfolding fault_at
kind_of limit deep used stack head fault e =
    kind_by limit deep used stack head fault (opens head) (leb deep (length stack)) (ltb limit (used + (payload head + members head + sum stack))) refl refl refl e

too_deep : (limit deep used : ℕ) (stack : List ℕ) (head : Head) → opens head ≡ true
    → deep ≤ length stack → fault_at limit deep used stack head ≡ Some TooDeep
unfolding fault_at
too_deep limit deep used stack head opened le = rw (opened, le-leb deep (length stack) le) refl

-- ---- no head within the limits fails

begun_runs : (used : ℕ) (stack : List ℕ) (head : Head) (fault : ScanFault)
    → item_begun used stack head ≡ Failed fault → ⊥
unfolding item_begun payload_ended
begun_runs used stack head fault = first (ltb 0 (payload head)) (ltb 0 (members head)) (after_value stack)
  where
    first : (a b : Bool) (o : Option (List ℕ))
        → cond a (Going used stack (InPayload (payload head)))
        (cond b (Going used ((members head - 1) ∷ stack) (InHead [])) (goes_on used o))
        ≡ Failed fault
        → ⊥
    first true b o e = cc
    first false true o e = cc
    first false false None e = cc
    first false false (Some next) e = cc

-- ---- where a scan fails

module _ (limit deep : ℕ) where
  -- a scan that goes on, in a head, and the byte that it fails at
  record Fails (bytes : List ℕ) (b : ℕ) (fault : ScanFault) : Type 0 where
    before : List ℕ
    pending : List ℕ
    stack : List ℕ
    parts : bytes ≡ before ++ pending
    items : AreItems before
    short : reading_of pending ≡ read.Short
    state : here limit deep bytes ≡ Going (length bytes) stack (InHead pending)
    fails :
        head_heard limit deep (length bytes + 1) stack (pending ++ b ∷ [])
        (reading_of (pending ++ b ∷ []))
        ≡ Failed fault

  payload_runs : (used left : ℕ) (stack : List ℕ) (b : ℕ) (fault : ScanFault)
      → scan_item limit deep used stack (InPayload left) b ≡ Failed fault → ⊥
  payload_runs used left stack b fault = by_test (ltb 1 left) (after_value stack)
    where
      by_test : (t : Bool) (o : Option (List ℕ))
          → cond t (Going (used + 1) stack (InPayload (left - 1))) (goes_on (used + 1) o)
          ≡ Failed fault
          → ⊥
      by_test true o e = cc
      by_test false None e = cc
      by_test false (Some next) e = cc

  fails_by : (bytes : List ℕ) (b : ℕ) (fault : ScanFault) → Along limit deep bytes
      → Goes limit deep bytes → here limit deep (bytes ++ b ∷ []) ≡ Failed fault
      → Fails bytes b fault
  fails_by bytes b fault (in_head before pending stack parts items at short e) g f = record {
    before = before;
    pending = pending;
    stack = stack;
    parts = parts;
    items = items;
    short = short;
    state = e;
    fails = ap (λ (s : State). scan_byte limit deep s b) (sym e) ∙ sym (scanned-append limit deep start bytes (b ∷ [])) ∙ f;
  }
  fails_by bytes b fault (in_payload before front part stack head left parts items is size some e) g f =
      absurd (payload_runs (length bytes) left stack b fault (ap (λ (s : State). scan_byte limit deep s b) (sym e) ∙ sym (scanned-append limit deep start bytes (b ∷ [])) ∙ f))
  fails_by bytes b fault (over used e) g f =
      let state = g.state in
      absurd cc
  fails_by bytes b fault (bad other e) g f =
      let state = g.state in
      absurd cc

  -- what a wider scan makes of a value that begins so
  module _ (bytes : List ℕ) (b : ℕ) (fault : ScanFault) (x : Fails bytes b fault) where
    through : (limit' deep' : ℕ) → limit ≤ limit' → deep ≤ deep'
        → here limit' deep' (bytes ++ b ∷ [])
        ≡ head_heard limit' deep' (length bytes + 1) x.stack (x.pending ++ b ∷ [])
        (reading_of (x.pending ++ b ∷ []))
    through limit' deep' longer deeper =
        scanned-append limit' deep' start bytes (b ∷ [])
        ∙ ap (λ (s : State). scan_byte limit' deep' s b) (same_going limit deep limit' deep' longer deeper start bytes (length bytes) x.stack (InHead x.pending) x.state)

    -- a fault of the wider scan leaves no value
    no_value_by : (any limit' deep' : ℕ) (other : ScanFault) → limit ≤ limit'
        → deep ≤ deep'
        → head_heard limit' deep' (length bytes + 1) x.stack (x.pending ++ b ∷ [])
        (reading_of (x.pending ++ b ∷ []))
        ≡ Failed other
        → (value : List ℕ) → Begins (bytes ++ b ∷ []) value → IsValue any value
        → length value ≤ limit' → any ≤ deep' → ⊥
    no_value_by any limit' deep' other longer deeper e value begins is fits shallow =
        let ended = value_ended_here limit deep any limit' deep' value is fits shallow in
        let failed : here limit' deep' value ≡ Failed other =
        ap (here limit' deep') begins.parts ∙ scanned-append limit' deep' start (bytes ++ b ∷ []) begins.rest
        ∙ ap (λ (s : State). scanned limit' deep' s begins.rest) (through limit' deep' longer deeper ∙ e) ∙ scanned-Failed limit' deep' other begins.rest in
        cc

    reserved_fault : reading_of (x.pending ++ b ∷ []) ≡ read.Reserved → (any : ℕ)
        → CanBegin any (bytes ++ b ∷ []) → ⊥
    reserved_fault e any can =
        no_value_by any (limit + length can.0) (deep + any) Reserved (omega arith) (omega arith)
        (ap (λ (r : HeadRead). head_heard (limit + length can.0) (deep + any) (length bytes + 1) x.stack (x.pending ++ b ∷ []) r) e) can.0 can.1.0 can.1.1 (omega arith) (omega arith)

    module _ (head : Head) (n : ℕ)
        (e : reading_of (x.pending ++ b ∷ []) ≡ read.Whole head n) where
      count : length bytes + 1 ≡ length (bytes ++ b ∷ [])
      count = sym (length-append bytes (b ∷ []))

      heard_whole : (limit' deep' : ℕ)
          → head_heard limit' deep' (length bytes + 1) x.stack (x.pending ++ b ∷ [])
          (reading_of (x.pending ++ b ∷ []))
          ≡ head_found limit' deep' (length bytes + 1) x.stack head
      heard_whole limit' deep' = ap (λ (r : HeadRead). head_heard limit' deep' (length bytes + 1) x.stack (x.pending ++ b ∷ []) r) e

      -- with wider limits some value begins so
      opens_wider : (limit' deep' : ℕ) → limit ≤ limit' → deep ≤ deep'
          → AreBytes (bytes ++ b ∷ []) → IsGood limit' deep' (length bytes + 1) x.stack head
          → Opens limit' deep' (bytes ++ b ∷ [])
      opens_wider limit' deep' longer deeper are good =
          let begun : here limit' deep' (bytes ++ b ∷ []) ≡ item_begun (length (bytes ++ b ∷ [])) x.stack head =
          through limit' deep' longer deeper ∙ heard_whole limit' deep'
          ∙ ap (λ (o : Option ScanFault). unless_faulty o (item_begun (length bytes + 1) x.stack head)) (IsGood-none limit' deep' (length bytes + 1) x.stack head good)
          ∙ ap (λ (k : ℕ). item_begun k x.stack head) count in
          let fits = good.fits in
          opens_here limit' deep' (bytes ++ b ∷ []) x.stack head are begun (omega (arith, fits, count))

      can : (limit' deep' : ℕ) → Opens limit' deep' (bytes ++ b ∷ [])
          → CanBegin deep' (bytes ++ b ∷ [])
      can limit' deep' o = (o.value, (o.begins, o.is))

      deep_fault : AreBytes (bytes ++ b ∷ []) → opens head ≡ true → deep ≤ length x.stack
          → HasFault limit deep (bytes ++ b ∷ []) TooDeep
      deep_fault are opened le =
          let wide = limit + (length bytes + 1 + (payload head + members head + sum x.stack)) in
          let deeper = deep + suc (length x.stack) in
          let good : IsGood wide deeper (length bytes + 1) x.stack head = record { shallow = λ t. omega arith; fits = omega arith } in (
            (deeper, can wide deeper (opens_wider wide deeper (omega arith) (omega arith) are good)),
            λ (c : CanBegin deep (bytes ++ b ∷ [])). no_value_by deep (limit + length c.0) deep TooDeep (omega arith) (omega arith)
                (heard_whole (limit + length c.0) deep ∙ ap (λ (o : Option ScanFault). unless_faulty o (item_begun (length bytes + 1) x.stack head)) (too_deep (limit + length c.0) deep (length bytes + 1) x.stack head opened le))
                c.0 c.1.0 c.1.1 (omega arith) (omega arith),
          )

      long_fault : AreBytes (bytes ++ b ∷ []) → (opens head ≡ true → length x.stack < deep)
          → HasFault limit deep (bytes ++ b ∷ []) TooLong
      long_fault are shallow =
          let wide = limit + (length bytes + 1 + (payload head + members head + sum x.stack)) in
          let good : IsGood wide deep (length bytes + 1) x.stack head = record { shallow = shallow; fits = omega arith } in (
            can wide deep (opens_wider wide deep (omega arith) (omega arith) are good),
            λ value begins is. ⊎_elim (λ (lt : limit < length value). lt)
                (λ (le : length value ≤ limit). absurd (no_value_by deep limit deep fault (omega arith) (omega arith) x.fails value begins is le (omega arith))) (cases_lt limit (length value)),
          )

      head_fault : (o : Option ScanFault)
          → fault_at limit deep (length bytes + 1) x.stack head ≡ o
          → AreBytes (bytes ++ b ∷ []) → HasFault limit deep (bytes ++ b ∷ []) fault
      head_fault None f are =
          let begun = ap (λ (o : Option ScanFault). unless_faulty o (item_begun (length bytes + 1) x.stack head)) (sym f) ∙ sym (heard_whole limit deep) ∙ x.fails in
          absurd (begun_runs (length bytes + 1) x.stack head fault begun)
      head_fault (Some other) f are =
          let failed = ap (λ (o : Option ScanFault). unless_faulty o (item_begun (length bytes + 1) x.stack head)) (sym f) ∙ sym (heard_whole limit deep) ∙ x.fails in
          let same : other ≡ fault = cc in
          subst (HasFault limit deep (bytes ++ b ∷ [])) same (by_kind (kind_of limit deep (length bytes + 1) x.stack head other f))
        where
          by_kind : Kind limit deep (length bytes + 1) x.stack head other
              → HasFault limit deep (bytes ++ b ∷ []) other
          by_kind (deep_kind k opened le) = subst (HasFault limit deep (bytes ++ b ∷ [])) (sym k) (deep_fault are opened le)
          by_kind (long_kind k shallow lt) = subst (HasFault limit deep (bytes ++ b ∷ [])) (sym k) (long_fault are shallow)

    -- the front through that byte is judged, and has the fault
    judged : EndsHead (x.pending ++ b ∷ []) → Goes limit deep bytes
        → IsJudged (bytes ++ b ∷ [])
    judged ends g = record {
      before = x.before;
      last = x.pending ++ b ∷ [];
      parts = ap (λ (xs : List ℕ). xs ++ b ∷ []) x.parts ∙ append_assoc x.before x.pending (b ∷ []);
      items = x.items;
      ends = ends;
      running = λ n any lt is. runs n any (omega (arith, length-append bytes (b ∷ []))) is;
    }
      where
        runs : (n any : ℕ) → n ≤ length bytes → IsValue any (take n (bytes ++ b ∷ []))
            → ⊥
        runs n any le is =
            let same : take n (bytes ++ b ∷ []) ≡ take n bytes = take-append-le n bytes (b ∷ []) le in
            let goes = goes_front limit deep (take n bytes) (drop n bytes) (subst (Goes limit deep) (sym (take-append-drop n bytes)) g) in
            no_value limit deep (take n bytes) any goes (subst (IsValue any) same is)

    faulty_by : (r : HeadRead) → reading_of (x.pending ++ b ∷ []) ≡ r
        → AreBytes (bytes ++ b ∷ []) → Goes limit deep bytes
        → IsFaulty limit deep (bytes ++ b ∷ []) fault
    faulty_by read.Short e are g =
        let going = ap (λ (r : HeadRead). head_heard limit deep (length bytes + 1) x.stack (x.pending ++ b ∷ []) r) (sym e) ∙ x.fails in
        absurd cc
    faulty_by read.Reserved e are g =
        let failed = ap (λ (r : HeadRead). head_heard limit deep (length bytes + 1) x.stack (x.pending ++ b ∷ []) r) (sym e) ∙ x.fails in
        let same : Reserved ≡ fault = cc in
        subst (IsFaulty limit deep (bytes ++ b ∷ [])) same (judged (inl (reserved_alone x.pending b x.short e)) g, reserved_fault e)
    faulty_by (read.Whole head n) e are g =
        (judged (inr (head, exact x.pending b head n x.short e)) g, head_fault head n e (fault_at limit deep (length bytes + 1) x.stack head) refl are)

  -- ---- the first byte that a scan fails at

  record Found (bytes : List ℕ) (fault : ScanFault) : Type 0 where
    seen : List ℕ
    b : ℕ
    rest : List ℕ
    parts : bytes ≡ seen ++ b ∷ rest
    goes : Goes limit deep seen
    fails : here limit deep (seen ++ b ∷ []) ≡ Failed fault

  find : (seen more : List ℕ) (fault : ScanFault) → Goes limit deep seen
      → here limit deep (seen ++ more) ≡ Failed fault → Found (seen ++ more) fault
  find seen [] fault g e =
      let going = sym (ap (here limit deep) (append-nil seen)) ∙ e in
      let state = g.state in
      absurd cc
  find seen (b ∷ more) fault g e = by_state (here limit deep (seen ++ b ∷ [])) refl (λ g' e'. find (seen ++ b ∷ []) more fault g' e')
    where
      regroup : (seen ++ b ∷ []) ++ more ≡ seen ++ b ∷ more
      regroup = append_assoc seen (b ∷ []) more

      after : here limit deep (seen ++ b ∷ more)
          ≡ scanned limit deep (here limit deep (seen ++ b ∷ [])) more
      after = ap (here limit deep) (sym regroup) ∙ scanned-append limit deep start (seen ++ b ∷ []) more

      by_state : (s : State) → here limit deep (seen ++ b ∷ []) ≡ s
          → (Goes limit deep (seen ++ b ∷ [])
          → here limit deep ((seen ++ b ∷ []) ++ more) ≡ Failed fault
          → Found ((seen ++ b ∷ []) ++ more) fault)
          → Found (seen ++ b ∷ more) fault
      by_state (Going used stack item) h ih =
          subst (λ (xs : List ℕ). Found xs fault) regroup (ih (record { used = used; stack = stack; item = item; state = h }) (ap (here limit deep) regroup ∙ e))
      by_state (Ended n) h ih =
          let ended = sym (scanned-Ended limit deep n more) ∙ ap (λ (s : State). scanned limit deep s more) (sym h) ∙ sym after ∙ e in
          absurd cc
      by_state (Failed other) h ih =
          let failed = sym (scanned-Failed limit deep other more) ∙ ap (λ (s : State). scanned limit deep s more) (sym h) ∙ sym after ∙ e in
          record { seen = seen; b = b; rest = more; parts = refl; goes = g; fails = h ∙ failed }

  starts : Goes limit deep []
  starts = record { used = 0; stack = []; item = InHead []; state = refl }

  -- no front of a scan that goes on is faulty
  none_faulty : (bytes : List ℕ) (n : ℕ) (other : ScanFault) → AreBytes bytes
      → Goes limit deep bytes → IsFaulty limit deep (take n bytes) other → ⊥
  none_faulty bytes n other are g f =
      let whole = take-append-drop n bytes in
      let goes = goes_front limit deep (take n bytes) (drop n bytes) (subst (Goes limit deep) (sym whole) g) in
      not_faulty limit deep (take n bytes) other (AreBytes-front (take n bytes) (drop n bytes) (subst AreBytes (sym whole) are)) f.0 goes f.1

  bad_first : (bytes : List ℕ) (fault : ScanFault) → AreBytes bytes
      → here limit deep bytes ≡ Failed fault → IsFirst limit deep bytes (Bad fault)
  bad_first bytes fault are e =
      let f = find [] bytes fault starts e in
      let x = fails_by f.seen f.b fault (along limit deep f.seen) f.goes f.fails in
      let regroup : bytes ≡ (f.seen ++ f.b ∷ []) ++ f.rest = f.parts ∙ sym (append_assoc f.seen (f.b ∷ []) f.rest) in
      let are_front = AreBytes-front (f.seen ++ f.b ∷ []) f.rest (subst AreBytes regroup are) in
      let are_seen = AreBytes-front f.seen (f.b ∷ []) are_front in
      let size = length-append f.seen (f.b ∷ []) in
      let whole = ap length regroup ∙ length-append (f.seen ++ f.b ∷ []) f.rest in
      let front : take (length f.seen + 1) bytes ≡ f.seen ++ f.b ∷ [] = ap (λ (xs : List ℕ). take (length f.seen + 1) xs) regroup ∙ take_at (f.seen ++ f.b ∷ []) f.rest (length f.seen + 1) size in
      let faulty = faulty_by f.seen f.b fault x (reading_of (x.pending ++ f.b ∷ [])) refl are_front f.goes in (
        length f.seen + 1,
        (
          omega (arith, size, whole),
          subst (λ (xs : List ℕ). IsFaulty limit deep xs fault) (sym front) faulty,
          λ m other lt bad. none_faulty f.seen m other are_seen f.goes
              (subst (λ (xs : List ℕ). IsFaulty limit deep xs other) (ap (λ (xs : List ℕ). take m xs) f.parts ∙ take-append-le m f.seen (f.b ∷ f.rest) (omega arith)) bad),
        ),
      )

  short_first : (bytes : List ℕ) → AreBytes bytes → Goes limit deep bytes
      → IsFirst limit deep bytes Short
  short_first bytes are g = (
    λ n any is. no_value limit deep (take n bytes) any (goes_front limit deep (take n bytes) (drop n bytes) (subst (Goes limit deep) (sym (take-append-drop n bytes)) g)) is,
    λ n fault f. none_faulty bytes n fault are g f,
  )

  -- ---- a value stays within the limit

  Bound : State → Type 0
  Bound (Going used stack (InHead pending)) = Unit {0}
  Bound (Going used stack (InPayload left)) = (0 < left) × (used + left ≤ limit)
  Bound (Ended used) = used ≤ limit
  Bound (Failed fault) = Unit {0}

  bound_end : (used : ℕ) (o : Option (List ℕ)) → used ≤ limit → Bound (goes_on used o)
  unfolding Bound
  bound_end used None le = le
  bound_end used (Some next) le = tt

  bound_begun : (used : ℕ) (stack : List ℕ) (head : Head) → used + payload head ≤ limit
      → Bound (item_begun used stack head)
  unfolding Bound item_begun payload_ended
  bound_begun used stack head fits = by_test (ltb 0 (payload head)) (ltb 0 (members head)) refl
    where
      by_test : (a b : Bool) → ltb 0 (payload head) ≡ a
          → Bound
          (cond a (Going used stack (InPayload (payload head)))
          (cond b (Going used ((members head - 1) ∷ stack) (InHead []))
          (value_ended used stack)))
      by_test true b e = (ltb-true 0 (payload head) e, fits)
      by_test false true e = tt
      by_test false false e = bound_end used (after_value stack) (omega arith)

  bound_found : (used : ℕ) (stack : List ℕ) (head : Head) (o : Option ScanFault)
      → fault_at limit deep used stack head ≡ o
      → Bound (unless_faulty o (item_begun used stack head))
  unfolding Bound
  bound_found used stack head (Some fault) e = tt
  bound_found used stack head None e = bound_begun used stack head (omega (arith, (IsGood-from limit deep used stack head e).fits))

  bound_heard : (used : ℕ) (stack front : List ℕ) (r : HeadRead)
      → Bound (head_heard limit deep used stack front r)
  unfolding Bound
  bound_heard used stack front read.Short = tt
  bound_heard used stack front read.Reserved = tt
  bound_heard used stack front (read.Whole head n) = bound_found used stack head (fault_at limit deep used stack head) refl

  bound_byte : (s : State) (b : ℕ) → Bound s → Bound (scan_byte limit deep s b)
  unfolding Bound
  bound_byte (Going used stack (InHead pending)) b h = bound_heard (used + 1) stack (pending ++ b ∷ []) (reading_of (pending ++ b ∷ []))
  bound_byte (Going used stack (InPayload left)) b h = by_test (ltb 1 left) refl
    where
      by_test : (t : Bool) → ltb 1 left ≡ t
          → Bound
          (cond t (Going (used + 1) stack (InPayload (left - 1)))
          (value_ended (used + 1) stack))
      by_test true e =
          let lt = ltb-true 1 left e in
          (omega arith, omega (arith, h.1))
      by_test false e = bound_end (used + 1) (after_value stack) (omega (arith, h.0, h.1))
  bound_byte (Ended used) b h = h
  bound_byte (Failed fault) b h = tt

  bound : (s : State) (bytes : List ℕ) → Bound s → Bound (scanned limit deep s bytes)
  bound s [] h = h
  bound s (b ∷ bytes) h = bound (scan_byte limit deep s b) bytes (bound_byte s b h)

  pub ended_bound : (bytes : List ℕ) (n : ℕ) → here limit deep bytes ≡ Ended n
      → n ≤ limit
  unfolding Bound
  ended_bound bytes n e = subst Bound e (bound start bytes tt)

  whole_first : (bytes : List ℕ) (n : ℕ) → here limit deep bytes ≡ Ended n
      → IsFirst limit deep bytes (Whole n)
  unfolding first_of
  whole_first bytes n e =
      let f = Front-from limit deep limit deep (omega arith) (omega arith) bytes n (ap verdict_of e) in
      let ended = state_whole (here limit deep (take n bytes)) (length (take n bytes)) f.alone in
      (f.within, ended_bound bytes n e, sound limit deep (take n bytes) ended)

  by_state : (bytes : List ℕ) (s : State) → here limit deep bytes ≡ s → AreBytes bytes
      → IsFirst limit deep bytes (verdict_of s)
  by_state bytes (Going used stack item) e are = short_first bytes are (record { used = used; stack = stack; item = item; state = e })
  by_state bytes (Ended n) e are = whole_first bytes n e
  by_state bytes (Failed fault) e are = bad_first bytes fault are e

  -- what a scan finds is what the bytes begin with
  pub first_is : (bytes : List ℕ) → AreBytes bytes
      → IsFirst limit deep bytes (first_of limit deep bytes)
  unfolding first_of
  first_is bytes are = by_state bytes (here limit deep bytes) refl are
