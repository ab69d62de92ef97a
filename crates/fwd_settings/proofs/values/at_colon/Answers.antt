use Rattle.fwd_settings.proofs.AddressLemmas.{cut_at_colon}
use Rattle.fwd_settings.proofs.values.at_colon.Goals as goal

pub returns : goal.returns
returns c = cut_at_colon c.args.text.now c.split_once.result c.split_once.ensures.cases
