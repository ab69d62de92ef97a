use Rattle.std.proofs.Common.{◌≡◌, Some, None, sym, ap, ◌∙◌}
use Rattle.std.specs.Prelude.{option_map}
use Rattle.fwd_chunks.specs.Live.{live_looks, live_asked_for, live_given_for, live_is_free}
use Rattle.fwd_chunks.specs.Stored.{TagFits}
use Rattle.fwd_chunks.proofs.Sounding.{found-all}
use Rattle.fwd_chunks.proofs.buffer.Buffer.take_wanted.Goals as goal
use Rattle.fwd_chunks.specs.contracts.buffer.Buffer.{the_view}

pub carried_chunk_of-requires : goal.carried_chunk_of-requires
carried_chunk_of-requires c =
    let v = the_view c.self.inside in
    let given : live_given_for (live_looks v c.args.now) c.args.wanted ≡ Some c.in-Some.chunk.now =
    ap (λ b. live_given_for (live_looks b c.args.now) c.args.wanted) c.self.view_is ∙ sym c.first_wanted.ensures ∙ ap (option_map (λ p. p.0.now)) c.in-Some.is in
    found-all TagFits (live_is_free (live_asked_for (live_looks v c.args.now) c.args.wanted)) c.self.inside.index.chunks c.in-Some.chunk.now given c.self.invariant.stored.tags

pub returns-in_err-carried-clause-none : goal.returns-in_err-carried-clause-none
returns-in_err-carried-clause-none c = λ e.
    absurd (some_none (sym (sym c.first_wanted.ensures ∙ ap (option_map (λ p. p.0.now)) c.in-Some.is) ∙ e))
  where
    some_none : {X : Type 0} {x : X} → Some x ≡ None → ⊥
    some_none f = cc
