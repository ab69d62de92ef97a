use Rattle.std.proofs.Common.{find, sym, ap, ◌∙◌, subst}
use Rattle.fwd_chunks.specs.Live.{LiveBuffer, is_at, is_open_of}
use Rattle.fwd_chunks.specs.Plans.{IsPlan}
use Rattle.fwd_chunks.specs.contracts.buffer.Buffer.{the_view}
use Rattle.fwd_chunks.proofs.Closing.{number-found}
use Rattle.fwd_chunks.proofs.Opened.{found-same}
use Rattle.fwd_chunks.proofs.buffer.Buffer.joined_by.Goals as goal

pub returns : goal.returns
returns c =
    let plan : IsPlan (the_view c.self.inside) c.args.batch.now c.args.plan = subst (λ (x : LiveBuffer). IsPlan x c.args.batch.now c.args.plan) (sym c.self.view_is) c.requires in
    let chunks = c.self.inside.index.chunks in
    let tag = c.args.batch.now.tag in
    let n = c.in_ok-number.number in
    let e = number-found (find (is_open_of c.args.batch.now.tag) c.self.inside.index.chunks) c.in_ok-number.number (sym c.in_ok-number.was ∙ plan.joins) in
    c.get.ensures
    ∙ ap (λ k. find (is_at k) c.self.inside.index.chunks) (sym e.1.1)
    ∙ found-same (is_open_of tag) chunks e.0 c.self.invariant.stored.sound.in_order e.1.0
    ∙ sym e.1.0
    ∙ ap (λ (b : LiveBuffer). find (is_open_of c.args.batch.now.tag) b.chunks) c.self.view_is
