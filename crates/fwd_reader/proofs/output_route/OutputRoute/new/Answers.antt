use Rattle.fwd_reader.proofs.Routed.{open_tickets_none}
use Rattle.fwd_reader.proofs.output_route.OutputRoute.new.Goals as goal

pub returns : goal.returns
returns g c = λ routes. open_tickets_none routes c.new.result c.new.ensures
