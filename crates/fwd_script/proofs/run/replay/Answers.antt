use Rattle.std.proofs.Common.{◌≡◌, ℕ, List, Option, inl, ap, ◌∙◌}
use Rattle.fwd_script.specs.Script.{lines_of, settings_of, event_lines, head_len}
use Rattle.fwd_script.specs.Replay.{Replays}
use Rattle.fwd_script.proofs.History.{opened_replays}
use Rattle.fwd_script.specs.Statuses.{unread_status}
use Rattle.fwd_script.specs.declared.input.InputError.{InputError}
use Rattle.fwd_script.specs.declared.input.InputError.TheVariants as reads
use Rattle.fwd_script.specs.declared.status.Status.{Status}
use Rattle.fwd_script.specs.declared.status.Status.TheVariants.{Memory}
use Rattle.fwd_script.specs.Reads.{Unread, ReadsSome}
use Rattle.fwd_script.proofs.Results.{left_or_none, Keeps-same}
use Rattle.fwd_script.proofs.run.replay.Goals as goal

-- nothing was written where the input was not read to its end
ends : (error : InputError) (status : Status) (script : List ℕ) (known : Option (List ℕ))
    → status ≡ unread_status error → Replays status script known known
ends reads.Memory status script known e = rw e (inl (Keeps-same known))
ends (reads.Failed failed) status script known e = rw e (Keeps-same known)

-- a read that failed is not out of memory
some_read : (error : InputError) (status : Status) (old new : Option (List ℕ))
    → status ≡ unread_status error → Unread error old new → status ≡ Memory → ReadsSome old new
some_read reads.Memory status old new e front is = (front.0, front.1, inl front.2)
some_read (reads.Failed failed) status old new e front is = absurd cc

pub returns-clause-replays : goal.returns-clause-replays
returns-clause-replays g c =
    let old = g.W.Write.contents c.args.writer.now in
    let new = g.W.Write.contents c.answer_script.new.writer in
    let script = c.split_script-script in
    let whole = c.as_slice.ensures.value in
    let left = c.in-Ok.input.items in (
      left,
      c.in-Ok.ensures.whole,
      opened_replays left script.result.settings.now c.in-Ok-open_relay.relay c.answer_script.result script.result.lines_before (lines_of script.result.events.now) old new
          c.live_run_follows.ensures.answers c.in-Ok-open_relay.ensures (script.ensures.settings ∙ ap settings_of whole) (script.ensures.before ∙ ap (λ t. head_len (lines_of t)) whole)
          (script.ensures.events ∙ ap (λ t. event_lines (lines_of t)) whole) c.answer_script.ensures.ends,
    )

pub returns-in-Err-clause-replays : goal.returns-in-Err-clause-replays
returns-in-Err-clause-replays g c =
    let left = left_or_none (g.R.Read.remaining c.args.reader.now) in
    (left.0, left.1, ends c.in-Err.error c.from.result left.0 _ c.from.ensures)

pub returns-in-Err-clause-memory : goal.returns-in-Err-clause-memory
returns-in-Err-clause-memory g c is =
    some_read c.in-Err.error c.from.result _ _ c.from.ensures (c.in-Err.ensures {u = tt}).unread is
