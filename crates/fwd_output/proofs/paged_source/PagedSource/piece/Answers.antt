use Rattle.std.proofs.Common.{sym, ap, ◌∙◌}
use Rattle.fwd_source.specs.Live.{LiveSource}
use Rattle.fwd_output.proofs.Knowing.{conn_heard, heard_agrees, heard_id, heard_stands}
use Rattle.fwd_output.proofs.paged_source.PagedSource.piece.Goals as goal

pub invariant_of-self-2 : goal.invariant_of-self-2
invariant_of-self-2 g c =
    let k = c.self.inside.page in
    let live = c.self.inside.source.live in (
      heard_id k c.heard.new.self c.args.bytes.now c.self.invariant.1 c.heard.ensures
          ∙ c.self.invariant.0
          ∙ sym (ap (λ (s : LiveSource). s.setup.conn) c.in_ok-told.ensures.live ∙ conn_heard live c.args.bytes.now),
      heard_stands k c.heard.new.self c.args.bytes.now c.self.invariant.1 c.heard.ensures,
      λ ok. heard_agrees k c.heard.new.self c.args.bytes.now c.self.invariant.1 c.heard.ensures live c.piece.new.self.live
          (c.self.invariant.2 ok) c.in_ok-told.ensures.live,
    )
