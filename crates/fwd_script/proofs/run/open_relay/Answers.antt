use Rattle.fwd_script.proofs.OpenLemmas.{opened_opens}
use Rattle.fwd_script.proofs.run.open_relay.Goals as goal

pub returns : goal.returns
returns c = opened_opens c.args.text.now c.read_config.result _ c.read_config.ensures c.opened.ensures.made c.opened.ensures.refused c.opened.ensures.memory
