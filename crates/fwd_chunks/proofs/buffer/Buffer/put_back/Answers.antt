use Rattle.std.proofs.Common.{◌≡◌, sym, ap, ◌∙◌}
use Rattle.std.specs.Prelude.{is_some}
use Rattle.fwd_chunks.specs.Live.{changed, is_at, live_frees}
use Rattle.fwd_chunks.specs.Stored.{put_back}
use Rattle.fwd_chunks.proofs.Opened.{newest-put_back}
use Rattle.fwd_chunks.proofs.Counted.{counted-put_back}
use Rattle.fwd_chunks.proofs.Calls.{moment_after, put_back-stored, frees-is}
use Rattle.fwd_chunks.proofs.buffer.Buffer.put_back.Goals as goal
use Rattle.fwd_chunks.proofs.buffer.Buffer.put_back.Goals.{in-None, in-Some}
use Rattle.fwd_chunks.specs.contracts.buffer.Buffer.{the_view}

pub invariant_of-self : goal.invariant_of-self
invariant_of-self c = rw c.put_back.ensures (record {
  stored = put_back-stored (the_view c.self.inside) c.args.number c.is_some.result c.match-loss.moment c.self.inside.bytes c.self.invariant.stored;
  newest = newest-put_back c.self.inside.tags c.args.number c.is_some.result c.match-loss.moment c.self.inside.index.chunks c.self.invariant.newest;
  counted = counted-put_back c.self.inside.tags c.args.number c.is_some.result c.match-loss.moment c.self.inside.index.chunks c.self.invariant.counted;
  waits = c.self.invariant.waits;
})

pub returns : goal.returns
returns c =
    let items = c.self.inside.index.chunks in
    let v = the_view c.self.inside in
    let lost : c.is_some.result ≡ is_some c.args.loss = c.is_some.ensures ∙ elim c.match-loss.branch [ in-None w ↦ ap is_some w.loss-is | in-Some w ↦ ap is_some w.loss-is ∙ ap is_some (sym w.in-Some.is) ] in
    let moment : c.match-loss.moment ≡ moment_after v c.args.loss = elim c.match-loss.branch [
      | in-None w ↦ w.moment-is ∙ ap (moment_after v) (sym w.in-None.is)
      | in-Some w ↦ w.moment-is ∙ w.max-moment.ensures ∙ ap (moment_after v) (sym w.in-Some.is)
    ] in
    (λ i. record v { chunks = ap (λ h. h.chunks) c.put_back.ensures i; greatest = ap (λ h. h.last) c.put_back.ensures i; moment = c.match-loss.moment })
    ∙ (λ i. record v { chunks = changed (is_at c.args.number) (put_back (lost i) (moment i)) items; moment = moment i })
    ∙ frees-is v c.args.number c.args.loss
    ∙ ap (λ b. live_frees b c.args.number c.args.loss) c.self.view_is
