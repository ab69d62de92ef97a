-- How keys are written.
use Rattle.std.proofs.Common.{◌≡◌, ◌≢◌, ℕ, List, ◌++◌, refl}
use Rattle.std.specs.Prelude.{codes}
use Rattle.fwd_settings.specs.declared.table_path.TablePath.{TablePath}
use Rattle.fwd_settings.specs.declared.table_path.TablePath.TheVariants.{Root, Relay, User, Output, Server}
use Rattle.fwd_settings.specs.Faults.{own_key, key_under}

pub key_inside : (place : TablePath) (name : List ℕ) → place ≢ Root
    → key_under place name ≡ own_key place ++ (codes "." ++ name)
key_inside Root name inside = absurd (inside refl)
key_inside Relay name inside = refl
key_inside (User user) name inside = refl
key_inside (Output output) name inside = refl
key_inside (Server output server) name inside = refl
