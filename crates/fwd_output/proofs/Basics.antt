-- One item more, either outcome of a call, and a server that is no standby.
use Rattle.std.proofs.Common.{◌≡◌, Bool, true, false, List, [], ◌∷◌, ◌++◌, refl, ap, ◌∙◌}
use Rattle.std.specs.Prelude.{map, not, Contains, Result, Ok, Err, OnOk, OnErr}
use Rattle.std.specs.List.{list_any}
use Rattle.std.proofs.lemmas.List.{map-append}
use Rattle.std.proofs.lemmas.Map.Views.{Contains-from_any}

pub map-more : {X Y : Type 0} (f : X → Y) (xs ys : List X) (x : X) → ys ≡ xs ++ x ∷ []
    → map f ys ≡ map f xs ++ f x ∷ []
map-more f xs ys x e = ap (map f) e ∙ map-append f xs (x ∷ [])

-- what is so where a call succeeds, and where it fails
pub either_way : {T E : Type 0} (P Q R : Type 0) (r : Result T E) → OnOk r P → OnErr r Q
    → (P → R) → (Q → R) → R
either_way P Q R (Ok x) p q f g = f p
either_way P Q R (Err e) p q f g = g q

abbrev same : Bool → Bool → Bool
same false b = not b
same true b = b

apart : false ≡ true → ⊥
apart e = absurd cc

same-is : (a b : Bool) → same a b ≡ true → a ≡ b
same-is false false e = refl
same-is false true e = absurd (apart e)
same-is true false e = absurd (apart e)
same-is true true e = refl

pub has-false : (bs : List Bool) → list_any not bs ≡ true → Contains bs false
has-false bs e = Contains-from_any same-is false bs e
