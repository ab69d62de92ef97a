use Rattle.fwd_script.proofs.EventText.{IsUtf8-event}
use Rattle.fwd_script.proofs.event.events_are_text.Goals as goal

pub returns : goal.returns
returns c = IsUtf8-event
