use Rattle.std.proofs.Common.{ℕ, List, Some, None, true, false, sym, ap, ◌∙◌}
use Rattle.fwd_session.specs.Said.{ack_word}
use Rattle.fwd_session.specs.Flights.{awaited_of}
use Rattle.fwd_session.proofs.Firsts.{there_within}
use Rattle.fwd_session.proofs.Judging.{ack_early, ack_found, ack_handed}
use Rattle.fwd_session.proofs.hearing.ack_verdict.Goals as goal

pub returns-then-not-any_handed_on-clause-word :
    goal.returns-then-not-any_handed_on-clause-word
returns-then-not-any_handed_on-clause-word c =
    let ps = c.args.unacked.now in
    let name : List ℕ = c.in-Ok.name.now in
    sym (ap (ack_word (awaited_of ps)) c.in-Ok.ensures.name ∙ ack_early ps name (sym c.any_handed_on.ensures ∙ c.if-not-any_handed_on.true))

pub is_handed_on-requires : goal.is_handed_on-requires
is_handed_on-requires c =
    let one = c.in-Some.ensures.some in
    there_within c.args.unacked.now c.in-Some.place one.0 one.1.there

pub returns-in-None-clause-word : goal.returns-in-None-clause-word
returns-in-None-clause-word c =
    let ps = c.args.unacked.now in
    let name : List ℕ = c.in-Ok.name.now in
    sym (ap (ack_word (awaited_of ps)) c.in-Ok.ensures.name ∙ ack_found ps name (sym c.any_handed_on.ensures ∙ c.if-not-any_handed_on.false) None c.in-None.ensures.none)

pub returns-in-Some-clause-word : goal.returns-in-Some-clause-word
returns-in-Some-clause-word c =
    let ps = c.args.unacked.now in
    let name : List ℕ = c.in-Ok.name.now in
    let one = c.in-Some.ensures.some in
    sym (ap (ack_word (awaited_of ps)) c.in-Ok.ensures.name ∙ ack_handed ps name (sym c.any_handed_on.ensures ∙ c.if-not-any_handed_on.false) c.in-Some.place one.0 one.1 true (c.is_handed_on.ensures ∙ ap Some c.if-is_handed_on.true))

pub returns-in-Some-2-clause-word : goal.returns-in-Some-2-clause-word
returns-in-Some-2-clause-word c =
    let ps = c.args.unacked.now in
    let name : List ℕ = c.in-Ok.name.now in
    let one = c.in-Some.ensures.some in
    sym (ap (ack_word (awaited_of ps)) c.in-Ok.ensures.name ∙ ack_handed ps name (sym c.any_handed_on.ensures ∙ c.if-not-any_handed_on.false) c.in-Some.place one.0 one.1 false (c.is_handed_on.ensures ∙ ap Some c.if-is_handed_on.false))
