use Rattle.std.proofs.Common.{cond, Some, None, find, option_map, sym, ap, ◌∙◌}
use Rattle.fwd_chunks.specs.Live.{LiveBuffer, is_open_of}
use Rattle.fwd_chunks.proofs.Opened.{open-untold, open-told, if_open}
use Rattle.fwd_chunks.proofs.buffer.Buffer.open_of.Goals as goal

pub returns-in_err-number : goal.returns-in_err-number
returns-in_err-number c =
    let tag = c.args.tag.now in
    ap (option_map (λ p. p.0.now)) c.from_residual.ensures
    ∙ sym (open-untold c.self.inside.tags c.self.inside.index.chunks tag c.self.invariant.newest (sym c.newest.ensures ∙ ap (option_map (λ p. p.0)) c.in_err-number.was))
    ∙ ap (λ (b : LiveBuffer). find (is_open_of c.args.tag.now) b.chunks) c.self.view_is

pub returns-in_err-chunk : goal.returns-in_err-chunk
returns-in_err-chunk c =
    let tag = c.args.tag.now in
    let told = open-told c.self.inside.tags c.self.inside.index.chunks tag c.in_ok-number.number c.self.invariant.newest c.self.invariant.stored.sound.in_order (sym c.newest.ensures ∙ ap (option_map (λ p. p.0)) c.in_ok-number.was) in
    ap (option_map (λ p. p.0.now)) c.from_residual-in_err-chunk.ensures
    ∙ ap (if_open tag) c.in_err-chunk.ensures
    ∙ sym told
    ∙ ap (λ (b : LiveBuffer). find (is_open_of c.args.tag.now) b.chunks) c.self.view_is

pub returns-then-is_open_of : goal.returns-then-is_open_of
returns-then-is_open_of c =
    let tag = c.args.tag.now in
    let told = open-told c.self.inside.tags c.self.inside.index.chunks tag c.in_ok-number.number c.self.invariant.newest c.self.invariant.stored.sound.in_order (sym c.newest.ensures ∙ ap (option_map (λ p. p.0)) c.in_ok-number.was) in
    ap (λ t. cond t (Some c.in_ok-chunk.chunk.now) None) c.if-is_open_of.ensures
    ∙ ap (if_open tag) c.in_ok-chunk.ensures
    ∙ sym told
    ∙ ap (λ (b : LiveBuffer). find (is_open_of c.args.tag.now) b.chunks) c.self.view_is

pub returns-else-is_open_of : goal.returns-else-is_open_of
returns-else-is_open_of c =
    let tag = c.args.tag.now in
    let told = open-told c.self.inside.tags c.self.inside.index.chunks tag c.in_ok-number.number c.self.invariant.newest c.self.invariant.stored.sound.in_order (sym c.newest.ensures ∙ ap (option_map (λ p. p.0)) c.in_ok-number.was) in
    ap (λ t. cond t (Some c.in_ok-chunk.chunk.now) None) c.if-is_open_of.ensures
    ∙ ap (if_open tag) c.in_ok-chunk.ensures
    ∙ sym told
    ∙ ap (λ (b : LiveBuffer). find (is_open_of c.args.tag.now) b.chunks) c.self.view_is
