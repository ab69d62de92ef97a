-- Where a connection with an id stands.
use Rattle.std.specs.Prelude.{◌≡◌, ℕ, ◌<◌, List, length, Some, slice_get, slice_set}
use Rattle.fwd_source.specs.Live.{LiveSource}
use Rattle.fwd_model.specs.Live.{LiveConnection, live_source_at, with_live_source}

-- it stands at this place, and to put another source there is to put it under the id
pub record IsPlace (id : ℕ) (cs : List LiveConnection) (place : ℕ) : Type 0 where
  pub within : place < length cs
  pub source : LiveSource
  pub here : slice_get cs place ≡ Some (record { id = id; source = source })
  pub found : live_source_at id cs ≡ Some source
  pub put : (s : LiveSource)
      → with_live_source id s cs ≡ slice_set cs place (record { id = id; source = s })
