-- The first of some faults, and what a reader hands on.
use Rattle.std.proofs.Common.{◌≡◌, ◌≢◌, Option, Some, None, List, [], ◌∷◌, ◌++◌, Result, Ok, Err, refl}
use Rattle.std.specs.Result.{IsErrAnd}
use Rattle.fwd_settings.specs.declared.fault.SettingsFault.{SettingsFault}
use Rattle.fwd_settings.specs.declared.fault.SettingsFault.TheVariants.{Memory}
use Rattle.fwd_settings.specs.Keys.{first}
use Rattle.fwd_settings.specs.Kinds.{Answers}

-- a fault that `?` hands on
pub told : {A : Type 0} (found : Option SettingsFault) (setting : A)
    (result : Result A SettingsFault) (fault : SettingsFault)
    → IsErrAnd result (λ e. e ≡ fault) → (fault ≢ Memory → found ≡ Some fault)
    → Answers found setting result
told found setting (Ok answer) fault same h = absurd same
told found setting (Err e) fault same h = rw same h

-- where the first part has no fault, the first fault is the second part's
pub first_after : (done more : List (Option SettingsFault)) → first done ≡ None
    → first (done ++ more) ≡ first more
first_after [] more none = refl
first_after (None ∷ done) more none = first_after done more none
first_after (Some fault ∷ done) more none = cc

-- a fault of the first part is the first of both
pub first_found : (done more : List (Option SettingsFault)) (fault : SettingsFault)
    → first done ≡ Some fault → first (done ++ more) ≡ Some fault
first_found [] more fault found = cc
first_found (None ∷ done) more fault found = first_found done more fault found
first_found (Some other ∷ done) more fault found = found
