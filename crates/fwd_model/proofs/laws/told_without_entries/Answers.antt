use Rattle.fwd_model.proofs.WayBack.{without_entries-told}
use Rattle.fwd_model.proofs.laws.told_without_entries.Goals as goal

pub returns : goal.returns
returns c h o i s l a stands still here at untold none = without_entries-told h o i s l a stands still here at untold none
