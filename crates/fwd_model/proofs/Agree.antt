-- When two outcomes agree: the answers are one, and what the second goes on to is what the first
-- goes on to, seen through a map.
use Rattle.std.proofs.Common.{◌≡◌, Bool, true, false, cond, Option, Some, None, refl, sym, subst}
use Rattle.std.specs.Prelude.{option_map}
use Rattle.fwd_model.specs.declared.answer.Answer.{Answer}
use Rattle.fwd_model.specs.declared.fault.Refusal.{Refusal}
use Rattle.fwd_model.specs.Outcome.{Outcome, Stays, Goes, within, found, refuse_if, ◌>>=◌, ◌>>◌}

-- what an outcome goes on to is sane
abbrev pub Kept : {S : Type 0} → (S → Type 0) → Outcome S → Type 0
Kept P (Stays a) = Unit {0}
Kept P (Goes a s) = P s

-- a change leads to what its map says, and to what is sane
abbrev pub Leads : {S T : Type 0} → (S → T) → (S → Type 0) → S → T → Type 0
Leads f P s t = (f s ≡ t) × P s

pub record Agrees {S T : Type 0} (f : S → T) (P : S → Type 0) (x : Outcome S) (y : Outcome T) : Type 0 where
  pub same : within f x ≡ y
  pub kept : Kept P x

module _ {S T : Type 0} {f : S → T} {P : S → Type 0} where
  pub stays : {a : Answer} → Agrees f P (Stays a) (Stays a)
  stays = record { same = refl; kept = tt }

  pub goes : {a b : Answer} {s : S} {t : T} → a ≡ b → Leads f P s t
      → Agrees f P (Goes a s) (Goes b t)
  goes e leads = record { same = λ i. Goes (e i) (leads.0 i); kept = leads.1 }

  pub checked : (why : Refusal) {b c : Bool} {p : Outcome S} {q : Outcome T} → c ≡ b
      → (b ≡ false → Agrees f P p q)
      → Agrees f P (refuse_if b why >> p) (refuse_if c why >> q)
  checked why {b} {c} {p} {q} e then = subst (λ d. Agrees f P (refuse_if b why >> p) (refuse_if d why >> q)) (sym e) (at b then)
    where
      at : (b : Bool) → (b ≡ false → Agrees f P p q)
          → Agrees f P (refuse_if b why >> p) (refuse_if b why >> q)
      at true then = stays
      at false then = then refl

  pub either : {b c : Bool} {p p' : Outcome S} {q q' : Outcome T} → c ≡ b → Agrees f P p q
      → Agrees f P p' q' → Agrees f P (cond b p p') (cond c q q')
  either {b} {c} {p} {p'} {q} {q'} e one other = subst (λ d. Agrees f P (cond b p p') (cond d q q')) (sym e) (at b)
    where
      at : (b : Bool) → Agrees f P (cond b p p') (cond b q q')
      at true = one
      at false = other

  pub sought : {X Y : Type 0} {g : X → Y} (why : Refusal) {x : Option X} {y : Option Y}
      {p : X → Outcome S} (q : Y → Outcome T)
      → y ≡ option_map g x
      → ((z : X) → x ≡ Some z → Agrees f P (p z) (q (g z)))
      → Agrees f P (found x why >>= p) (found y why >>= q)
  sought {X} {Y} {g} why {x} {y} {p} q e then = subst (λ z. Agrees f P (found x why >>= p) (found z why >>= q)) (sym e) (at x then)
    where
      at : (x : Option X) → ((z : X) → x ≡ Some z → Agrees f P (p z) (q (g z)))
          → Agrees f P (found x why >>= p) (found (option_map g x) why >>= q)
      at None then = stays
      at (Some z) then = then z refl

  pub inside : {R Q : Type 0} (put : R → S) (its : Q → T) {g : R → Q} {PR : R → Type 0}
      {x : Outcome R} {y : Outcome Q}
      → Agrees g PR x y
      → ((z : R) → PR z → Leads f P (put z) (its (g z))) → Agrees f P (within put x) (within its y)
  inside {R} {Q} put its {g} {PR} {x} {y} agrees leads = subst (λ z. Agrees f P (within put x) (within its z)) agrees.same (at x agrees.kept)
    where
      at : (x : Outcome R) → Kept PR x → Agrees f P (within put x) (within its (within g x))
      at (Stays a) kept = stays
      at (Goes a z) kept = goes refl (leads z kept)
