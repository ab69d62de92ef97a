use Rattle.std.proofs.Common.{[], length, sym, ap, ◌∙◌}
use Rattle.std.specs.Prelude.{slice_get}
use Rattle.fwd_model.specs.History.{opening}
use Rattle.fwd_model.proofs.Deliver.{told_among-delivered}
use Rattle.fwd_script.specs.Replay.{events_of}
use Rattle.fwd_script.proofs.History.{history_answers}
use Rattle.fwd_script.proofs.run.told_line_is_delivered.Goals as goal

pub returns : goal.returns
returns c = λ config lines id r o t.
    let same = history_answers (opening config) (events_of lines) in
    told_among-delivered config [] (events_of lines) id r o (record {
      before = t.before;
      later = t.later;
      numbers = t.numbers;
      out = t.out;
      split = t.split;
      told = ap (λ xs. slice_get xs (length t.before)) (sym same) ∙ t.told;
      among = t.among;
    })
