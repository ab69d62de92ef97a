-- What a head within the limits leaves room for, and what an ended value leaves open.
use Rattle.std.proofs.Common.{◌≡◌, ℕ, zero, suc, ◌+◌, ◌<◌, ◌≤◌, Bool, true, false, cond, ltb, leb, ◌&&◌, List, [], ◌∷◌, length, sum, Some, None, refl, ap, arith}
use Rattle.std.proofs.lemmas.Bool.{ltb-false, leb-false, le-ltb, lt-leb}
use Rattle.fwd_msgpack.specs.declared.fault.ScanFault.TheVariants.{TooDeep, TooLong}
use Rattle.fwd_msgpack.specs.declared.head.Head.{Head}
use Rattle.fwd_msgpack.specs.declared.head.Head.TheVariants.{Nil, Bool as Boolean, Int, Float, Str, Bin, Arr, Map, Ext}
use Rattle.fwd_msgpack.specs.Heads.{payload, members, opens}
use Rattle.fwd_msgpack.specs.Scans.{after_value, fault_at}
use Rattle.fwd_msgpack.proofs.Places.{sum-cons}

-- a head that is not faulty
pub record IsGood (limit deep used : ℕ) (stack : List ℕ) (head : Head) : Type 0 where
  pub shallow : opens head ≡ true → length stack < deep
  pub fits : used + (payload head + members head + sum stack) ≤ limit

good_by : (limit deep used : ℕ) (stack : List ℕ) (head : Head) (a b c : Bool)
    → opens head ≡ a → leb deep (length stack) ≡ b
    → ltb limit (used + (payload head + members head + sum stack)) ≡ c
    → cond (a && b) (Some TooDeep) (cond c (Some TooLong) None) ≡ None
    → IsGood limit deep used stack head
good_by limit deep used stack head true true c oa ob oc h = absurd cc
good_by limit deep used stack head true false true oa ob oc h = absurd cc
good_by limit deep used stack head true false false oa ob oc h = record { shallow = λ e. leb-false deep (length stack) ob; fits = ltb-false limit _ oc }
good_by limit deep used stack head false b true oa ob oc h = absurd cc
good_by limit deep used stack head false b false oa ob oc h = record { shallow = λ e. absurd cc; fits = ltb-false limit _ oc }

pub IsGood-from : (limit deep used : ℕ) (stack : List ℕ) (head : Head)
    → fault_at limit deep used stack head ≡ None → IsGood limit deep used stack head
unfolding fault_at
IsGood-from limit deep used stack head h = good_by limit deep used stack head (opens head) (leb deep (length stack)) (ltb limit (used + (payload head + members head + sum stack))) refl refl refl h

none_by : (deep depth limit total : ℕ) (a : Bool) → (a ≡ true → depth < deep)
    → total ≤ limit
    → cond (a && leb deep depth) (Some TooDeep) (cond (ltb limit total) (Some TooLong) None)
    ≡ None
none_by deep depth limit total true shallow fits = rw (lt-leb deep depth (shallow refl), le-ltb limit total fits) refl
none_by deep depth limit total false shallow fits = rw (le-ltb limit total fits) refl

pub IsGood-none : (limit deep used : ℕ) (stack : List ℕ) (head : Head)
    → IsGood limit deep used stack head → fault_at limit deep used stack head ≡ None
unfolding fault_at
IsGood-none limit deep used stack head good = none_by deep (length stack) limit (used + (payload head + members head + sum stack)) (opens head) good.shallow good.fits

-- what opens members opens
pub opens-members : (head : Head) → 0 < members head → opens head ≡ true
opens-members Nil lt = absurd (omega arith)
opens-members (Boolean b) lt = absurd (omega arith)
opens-members (Int neg mag) lt = absurd (omega arith)
opens-members (Float len) lt = absurd (omega arith)
opens-members (Str len) lt = absurd (omega arith)
opens-members (Bin len) lt = absurd (omega arith)
opens-members (Arr n) lt = refl
opens-members (Map n) lt = refl
opens-members (Ext kind len) lt = absurd (omega arith)

-- an ended value opens nothing, and is no longer lacked
pub record IsLess (old new : List ℕ) : Type 0 where
  pub opened : length new ≤ length old
  pub owed : sum new < sum old

pub after_value-less : (old new : List ℕ) → after_value old ≡ Some new → IsLess old new
after_value-less [] new e = absurd cc
after_value-less (zero ∷ old) new e =
    let less = after_value-less old new e in
    record { opened = omega (arith, less.opened); owed = omega (arith, less.owed, sum-cons 0 old) }
after_value-less (suc n ∷ old) new e =
    let same : (n ∷ old) ≡ new = cc in
    record { opened = omega (arith, ap length same); owed = omega (arith, ap sum same, sum-cons n old, sum-cons (suc n) old) }
