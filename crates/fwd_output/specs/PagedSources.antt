-- What is seen of a source with its page in the history of a run, and what its page knows of it.
use Rattle.std.specs.Prelude.{◌≡◌, ◌⊎◌, ℕ, Bool, true, false, List, [], Option, Some, None, option_and_then}
use Rattle.fwd_match.specs.Patterns.{route}
use Rattle.fwd_modes.specs.Requests.{Request}
use Rattle.fwd_modes.specs.declared.origin.Origin.{Origin}
use Rattle.fwd_source.specs.Live.{LiveSource, first_waiting, source_gives}
use Rattle.fwd_history.specs.Histories.{Comes}
use Rattle.fwd_book.specs.Receipts.{Receipt}
use Rattle.fwd_book.specs.declared.refusal.AdmitRefusal.{AdmitRefusal}
use Rattle.fwd_book.specs.declared.refusal.AdmitRefusal.TheVariants as refusal
use Rattle.fwd_model.specs.declared.config.Config.{Config}
use Rattle.fwd_model.specs.Delivered.{IsDelivered}
use Rattle.fwd_run.specs.Pages.{SourceKnown}
use Rattle.fwd_run.specs.Runs.{RunEvent, config_of, relay_events}

-- a source: its live part, for how many bytes of answers there is room, and whether a request that
-- it gave was refused, so that it gives none any more
pub record SourceShown : Type 0 where
  pub live : LiveSource
  pub room : ℕ
  pub refused : Bool

-- the first request that waits, with its number
abbrev pub first_asked : LiveSource → Option (Origin × Request)
first_asked s = first_waiting s s.waiting

-- the output that takes it: the first whose pattern matches its tag
abbrev pub first_route : List (List (List ℕ)) → LiveSource → Option ℕ
first_route routes s = option_and_then (λ asked. route routes asked.1.tag) (first_asked s)

-- its first request is given
abbrev pub Entered : SourceShown → Origin × Request → SourceShown → Type 0
Entered s asked t =
    (first_asked s.live ≡ Some asked) × (t ≡ record s { live = source_gives s.live })

-- Its first request does not enter an output, for a reason. None is given: none waits, or one was
-- refused before, which is as if out of memory. Or it was given in vain, and none is any more.
abbrev pub IsKeptOut : SourceShown → AdmitRefusal → SourceShown → Type 0
IsKeptOut s why t =
    ((why ≡ refusal.Memory) × (t ≡ s) × ((s.refused ≡ true) ⊎ (first_asked s.live ≡ None)))
    ⊎ ((asked : Origin × Request) × ((first_asked s.live ≡ Some asked)
    × (t ≡ record s { live = source_gives s.live; refused = true })))

-- a source but for the bytes that wait to be sent to it, which are no events of the run
abbrev pub but_unsent : LiveSource → LiveSource
but_unsent s = record s { unsent = [] }

-- a page knows a connection, which is not shut
pub record Stands (k : SourceKnown) : Type 0 where
  pub source : LiveSource
  pub is : k.is ≡ Some source
  pub not_shut : source.shut ≡ false

-- it knows just what the source is, but for those bytes
abbrev pub AgreesWith : SourceKnown → LiveSource → Type 0
AgreesWith k live = (s : LiveSource) → k.is ≡ Some s → but_unsent s ≡ but_unsent live

-- The request of a receipt was delivered to the next hop of the output of a number: by the events of
-- the relay in a beginning of the run's history, which begins with the run's settings.
pub record WasDelivered (past : List RunEvent) (output : ℕ) (r : Receipt) : Type 0 where
  pub before : List RunEvent
  pub begins : Comes before past
  pub config : Config
  pub set : config_of before ≡ Some config
  pub is : IsDelivered config (relay_events before) r.origin.conn r.origin.request output
