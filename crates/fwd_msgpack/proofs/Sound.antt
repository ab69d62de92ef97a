-- What a scan takes for a value is one.
use Rattle.std.proofs.Common.{◌≡◌, ℕ, zero, suc, ◌+◌, ◌-◌, ◌<◌, ◌≤◌, Bool, true, false, List, [], ◌∷◌, length, take, drop, Option, Some, None, refl, sym, ap, ◌∙◌, arith, inl, inr, ⊎_elim, zero-add, add-zero}
use Rattle.std.proofs.lemmas.Bool.{lt-ltb, le-ltb, cases_lt, cases_Bool}
use Rattle.std.proofs.lemmas.List.{length-append, length-drop, take-append-drop, nil_from_length, take_at}
use Rattle.fwd_msgpack.specs.declared.fault.ScanFault.{ScanFault}
use Rattle.fwd_msgpack.specs.declared.head.Head.{Head}
use Rattle.fwd_msgpack.specs.declared.head.Head.TheVariants.{Nil, Bool as Boolean, Int, Float, Str, Bin, Arr, Map, Ext}
use Rattle.fwd_msgpack.specs.declared.head.HeadRead.{HeadRead}
use Rattle.fwd_msgpack.specs.declared.head.HeadRead.TheVariants as read
use Rattle.fwd_msgpack.specs.Heads.{reading_of, payload, members, opens}
use Rattle.fwd_msgpack.specs.Scans.{State, Going, Ended, InHead, payload_ended, fault_at, start}
use Rattle.fwd_msgpack.specs.Values.{AreHead, IsPlain, InARow, IsContainer, IsValue}
use Rattle.fwd_msgpack.proofs.Fronts.{Reads-from, scanned, scanned-Ended, short_scanned, reserved_scanned, fault_scanned, payload_stopped, item_scanned, reading_full, ended_shut, ended_opened}
use Rattle.fwd_msgpack.proofs.Within.{IsGood, IsGood-from}
use Rattle.fwd_msgpack.proofs.Parts.{read_within}
use Rattle.fwd_msgpack.proofs.Solo.{solo}

-- a head at the front is a head by itself
pub front_alone : (bytes : List ℕ) (head : Head) (n : ℕ)
    → reading_of bytes ≡ read.Whole head n → AreHead head (take n bytes)
front_alone bytes head n h =
    let r = Reads-from bytes head n h in
    let size : suc (length r.front) ≡ n = omega (arith, r.len, r.used_is) in
    let front : take n bytes ≡ r.first ∷ r.front = ap (λ (xs : List ℕ). take n xs) r.parts ∙ take_at (r.first ∷ r.front) r.after n size in
    let count : r.row.more + 1 ≡ length (take n bytes) = omega (arith, ap length front, r.len) in
    ap reading_of front ∙ reading_full r.first r.row r.front r.row_is r.len ∙ ap (λ (hd : Head). read.Whole hd (r.row.more + 1)) (sym r.head_is) ∙ ap (λ (k : ℕ). read.Whole head k) count

pub shut-members : (head : Head) → opens head ≡ false → members head ≡ 0
shut-members Nil e = refl
shut-members (Boolean b) e = refl
shut-members (Int neg mag) e = refl
shut-members (Float len) e = refl
shut-members (Str len) e = refl
shut-members (Bin len) e = refl
shut-members (Arr n) e = absurd cc
shut-members (Map n) e = absurd cc
shut-members (Ext kind len) e = refl

pub opened-payload : (head : Head) → opens head ≡ true → payload head ≡ 0
opened-payload Nil e = refl
opened-payload (Boolean b) e = refl
opened-payload (Int neg mag) e = refl
opened-payload (Float len) e = absurd cc
opened-payload (Str len) e = absurd cc
opened-payload (Bin len) e = absurd cc
opened-payload (Arr n) e = refl
opened-payload (Map n) e = refl
opened-payload (Ext kind len) e = absurd cc

-- values in a row, in a container that lacks so many after the one in progress
pub in_row : (limit deep : ℕ) (P : List ℕ → Type 0)
    → ((own : List ℕ) → scanned limit deep start own ≡ Ended (length own) → P own)
    → (lacking v : ℕ) (bytes : List ℕ) (n : ℕ) → n ≡ v + length bytes
    → scanned limit (suc deep) (Going v (lacking ∷ []) (InHead [])) bytes ≡ Ended n
    → InARow P (suc lacking) bytes
unfolding InARow
in_row limit deep P each zero v bytes n size e =
    let s = solo limit (suc deep) limit deep (0 ∷ []) (omega arith) (omega arith) v 0 [] (InHead []) bytes n (omega arith) e in
    let ended : Ended (v + length s.own) ≡ Ended n = sym (scanned-Ended limit (suc deep) (v + length s.own) s.others) ∙ s.after in
    let place : v + length s.own ≡ n = cc in
    let nothing : s.others ≡ [] = nil_from_length s.others (omega (arith, ap length s.parts, length-append s.own s.others)) in
    (s.own, (s.others, (s.parts, each s.own (s.alone ∙ ap Ended (zero-add (length s.own))), nothing)))
in_row limit deep P each (suc lacking) v bytes n size e =
    let s = solo limit (suc deep) limit deep (suc lacking ∷ []) (omega arith) (omega arith) v 0 [] (InHead []) bytes n (omega arith) e in
    let rest : n ≡ v + length s.own + length s.others = omega (arith, ap length s.parts, length-append s.own s.others) in
    (s.own, (s.others, (s.parts, each s.own (s.alone ∙ ap Ended (zero-add (length s.own))), in_row limit deep P each lacking (v + length s.own) s.others n rest s.after)))

-- what a scan of exactly one value saw first
record Opening (limit deep : ℕ) (bytes : List ℕ) : Type 0 where
  head : Head
  n : ℕ
  is : reading_of bytes ≡ read.Whole head n
  good : IsGood limit deep n [] head
  size : n + payload head ≤ length bytes
  after :
      scanned limit deep (payload_ended (n + payload head) [] head)
      (drop (payload head) (drop n bytes))
      ≡ Ended (length bytes)

not_short : (limit deep : ℕ) (bytes : List ℕ) (head : Head) (n : ℕ)
    → reading_of bytes ≡ read.Whole head n → fault_at limit deep n [] head ≡ None
    → scanned limit deep start bytes ≡ Ended (length bytes)
    → length (drop n bytes) < payload head → ⊥
not_short limit deep bytes head n h f e lt =
    let short = payload_stopped limit deep 0 [] bytes head n h (ap (λ (k : ℕ). fault_at limit deep k [] head) (zero-add n) ∙ f) lt in
    cc

opening_by : (limit deep : ℕ) (bytes : List ℕ) (head : Head) (n : ℕ) (o : Option ScanFault)
    → reading_of bytes ≡ read.Whole head n → fault_at limit deep n [] head ≡ o
    → scanned limit deep start bytes ≡ Ended (length bytes) → Opening limit deep bytes
opening_by limit deep bytes head n (Some fault) h f e =
    let bad = fault_scanned limit deep 0 [] bytes head n fault h (ap (λ (k : ℕ). fault_at limit deep k [] head) (zero-add n) ∙ f) in
    absurd cc
opening_by limit deep bytes head n None h f e =
    elim (cases_lt (length (drop n bytes)) (payload head)) [
      | inl lt ↦ absurd (not_short limit deep bytes head n h f e lt)
      | inr le ↦ record {
        head = head;
        n = n;
        is = h;
        good = IsGood-from limit deep n [] head f;
        size = omega (arith, length-drop n bytes, (read_within bytes head n h).1);
        after = ap (λ (k : ℕ). scanned limit deep (payload_ended (k + payload head) [] head) (drop (payload head) (drop n bytes))) (sym (zero-add n))
            ∙ sym (item_scanned limit deep 0 [] bytes head n h (ap (λ (k : ℕ). fault_at limit deep k [] head) (zero-add n) ∙ f) le) ∙ e;
      }
    ]

opening : (limit deep : ℕ) (bytes : List ℕ) (r : HeadRead) → reading_of bytes ≡ r
    → scanned limit deep start bytes ≡ Ended (length bytes) → Opening limit deep bytes
opening limit deep bytes (read.Whole head n) h e = opening_by limit deep bytes head n (fault_at limit deep n [] head) h refl e
opening limit deep bytes read.Short h e =
    let short = short_scanned limit deep 0 [] bytes h in
    absurd cc
opening limit deep bytes read.Reserved h e =
    let bad = reserved_scanned limit deep 0 [] bytes h in
    absurd cc

plain : (limit deep : ℕ) (bytes : List ℕ) (o : Opening limit deep bytes)
    → opens o.head ≡ false → IsPlain bytes
plain limit deep bytes o shut =
    let closed = ended_shut (o.n + payload o.head) [] o.head (le-ltb 0 (members o.head) (omega (arith, shut-members o.head shut))) in
    let ended : Ended (o.n + payload o.head) ≡ Ended (length bytes) =
    sym (scanned-Ended limit deep (o.n + payload o.head) (drop (payload o.head) (drop o.n bytes))) ∙ ap (λ (s : State). scanned limit deep s (drop (payload o.head) (drop o.n bytes))) (sym closed) ∙ o.after in
    let count : o.n + payload o.head ≡ length bytes = cc in
    record {
      head = o.head;
      front = take o.n bytes;
      body = drop o.n bytes;
      parts = sym (take-append-drop o.n bytes);
      spelled = front_alone bytes o.head o.n o.is;
      shut = shut;
      len = omega (arith, length-drop o.n bytes);
    }

row_behind : (limit deep : ℕ) (P : List ℕ → Type 0)
    → ((own : List ℕ) → scanned limit deep start own ≡ Ended (length own) → P own)
    → (head : Head) (n m : ℕ) (body : List ℕ) (len : ℕ) → members head ≡ m
    → len ≡ n + length body
    → scanned limit (suc deep) (payload_ended n [] head) body ≡ Ended len → InARow P m body
unfolding InARow
row_behind limit deep P each head n zero body len k size e =
    let closed = ended_shut n [] head (le-ltb 0 (members head) (omega arith)) in
    let ended : Ended n ≡ Ended len = sym (scanned-Ended limit (suc deep) n body) ∙ ap (λ (s : State). scanned limit (suc deep) s body) (sym closed) ∙ e in
    let count : n ≡ len = cc in
    nil_from_length body (omega arith)
row_behind limit deep P each head n (suc m) body len k size e =
    let lacking : members head - 1 ≡ m = omega arith in
    let going : scanned limit (suc deep) (Going n (m ∷ []) (InHead [])) body ≡ Ended len =
    ap (λ (i : ℕ). scanned limit (suc deep) (Going n (i ∷ []) (InHead [])) body) (sym lacking) ∙ ap (λ (s : State). scanned limit (suc deep) s body) (sym (ended_opened n [] head (lt-ltb 0 (members head) (omega arith)))) ∙ e in
    in_row limit deep P each m n body len size going

container : (limit deep : ℕ) (P : List ℕ → Type 0)
    → ((own : List ℕ) → scanned limit deep start own ≡ Ended (length own) → P own)
    → (bytes : List ℕ) (o : Opening limit (suc deep) bytes) → opens o.head ≡ true
    → IsContainer P bytes
container limit deep P each bytes o opened =
    let none : payload o.head ≡ 0 = opened-payload o.head opened in
    let size : length bytes ≡ o.n + length (drop o.n bytes) = omega (arith, length-drop o.n bytes, o.size) in
    let after : scanned limit (suc deep) (payload_ended o.n [] o.head) (drop o.n bytes) ≡ Ended (length bytes) =
    ap (λ (k : ℕ). scanned limit (suc deep) (payload_ended k [] o.head) (drop o.n bytes)) (sym (add-zero o.n))
    ∙ ap (λ (k : ℕ). scanned limit (suc deep) (payload_ended (o.n + k) [] o.head) (drop k (drop o.n bytes))) (sym none) ∙ o.after in
    record {
      head = o.head;
      front = take o.n bytes;
      body = drop o.n bytes;
      parts = sym (take-append-drop o.n bytes);
      spelled = front_alone bytes o.head o.n o.is;
      opened = opened;
      row = row_behind limit deep P each o.head o.n (members o.head) (drop o.n bytes) (length bytes) refl size after;
    }

-- what a scan takes for one value is one
pub sound : (limit deep : ℕ) (bytes : List ℕ)
    → scanned limit deep start bytes ≡ Ended (length bytes) → IsValue deep bytes
unfolding IsValue
sound limit zero bytes e =
    let o = opening limit zero bytes (reading_of bytes) refl e in
    plain limit zero bytes o (shut_at_zero (opens o.head) refl (λ t. omega (arith, o.good.shallow t)))
  where
    shut_at_zero : (b : Bool) → b ≡ b → (b ≡ true → ⊥) → b ≡ false
    shut_at_zero true e not = absurd (not refl)
    shut_at_zero false e not = refl
sound limit (suc deep) bytes e =
    let o = opening limit (suc deep) bytes (reading_of bytes) refl e in
    ⊎_elim (λ t. inr (container limit deep (IsValue deep) (λ own alone. sound limit deep own alone) bytes o t)) (λ f. inl (plain limit (suc deep) bytes o f)) (cases_Bool (opens o.head))
