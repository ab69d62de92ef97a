-- What a source that gives a request is set to.
use Rattle.std.proofs.Common.{◌≡◌, List, [], ◌∷◌, refl}
use Rattle.fwd_modes.specs.Requests.{Request}
use Rattle.fwd_source.specs.Live.{LiveSource, source_gives_first}

-- it is set as before
pub gives_setup : (s : LiveSource) (waiting : List Request)
    → (source_gives_first s waiting).setup ≡ s.setup
gives_setup s [] = refl
gives_setup s (request ∷ waiting) = refl
