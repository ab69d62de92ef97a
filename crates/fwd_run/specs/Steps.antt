-- What steps stand for.
use Rattle.std.specs.Prelude.{[], ◌∷◌, map}
use Rattle.fwd_model.specs.declared.event.Event.TheVariants as event
use Rattle.fwd_run.specs.Runs.{RunEvent, Relay, Leave}
use Rattle.fwd_run.specs.declared.step.Step.{Step}
use Rattle.fwd_run.specs.declared.step.Step.TheVariants as step

-- the event that a step stands for
abbrev pub event_of : Step → RunEvent
event_of (step.Accept id nonce auth) = Relay (event.Accept id nonce auth)
event_of (step.Piece id bytes) = Relay (event.Piece id bytes.now)
event_of (step.Quiet id) = Relay (event.Drained id 0)
event_of (step.Admit id output now) = Relay (event.Admit id output now)
event_of (step.Known output) = Leave output []
event_of (step.Flush output now kind) = Relay (event.Flush output now kind)
event_of (step.Told output receipts) = Leave output (map (λ r. r.origin) receipts.now)
event_of (step.Left output origin) = Leave output (origin ∷ [])
event_of (step.Look output now) = Relay (event.Choose output 0 now)
event_of (step.Up output worker server salt now) =
    Relay (event.Up output worker server salt.now now)
event_of (step.Take output worker now wanted) = Relay (event.Take output worker now wanted)
event_of (step.Load output worker now) = Relay (event.Load output worker now)
event_of (step.Wrote output worker count) = Relay (event.Wrote output worker count)
event_of (step.Heard output worker bytes) = Relay (event.Heard output worker bytes.now)
event_of (step.Late output worker now) = Relay (event.Late output worker now)
event_of (step.Settle output worker) = Relay (event.Settle output worker)
event_of (step.End output worker kind now) = Relay (event.End output worker kind now)
