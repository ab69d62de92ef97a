use Rattle.std.proofs.Common.{sym, true≢false}
use Rattle.fwd_msgpack.specs.declared.scanner.Fed.TheVariants as feds
use Rattle.std.proofs.Common.{length}
use Rattle.fwd_session.proofs.Broken.{broken_front, ended_whole, judged_both, judged_front, none_broken}
use Rattle.fwd_session.proofs.listening.begins_broken.Goals as goal

pub returns-in-Bad-matches-clause-broken : goal.returns-in-Bad-matches-clause-broken
returns-in-Bad-matches-clause-broken c = λ same. record {
  fault = c.in-Bad-matches.field-0;
  bad = judged_both _ c.new-scanner.result c.feed.new.self c.new-scanner.ensures c.args.front.now c.args.behind.now
      c.feed-in-More.new.self (feds.Bad c.in-Bad-matches.field-0) c.in-More.ensures.state c.in-More.ensures.verdict
      c.in-Bad-matches.ensures.state c.in-Bad-matches.ensures.verdict;
}

pub returns-in_default : goal.returns-in_default
returns-in_default c = record {
  broken = λ e. absurd (true≢false (sym e));
  sound = λ broken. absurd (none_broken _ (length c.args.front.now) c.feed-in-More.result
      (judged_both _ c.new-scanner.result c.feed.new.self c.new-scanner.ensures c.args.front.now c.args.behind.now
      c.feed-in-More.new.self c.feed-in-More.result c.in-More.ensures.state c.in-More.ensures.verdict
      c.feed-in-More.ensures.state c.feed-in-More.ensures.verdict) c.in_default.not-Bad broken);
}

pub returns-in-End-clause-sound : goal.returns-in-End-clause-sound
returns-in-End-clause-sound c = λ broken.
    absurd (ended_whole c.args.front.now c.args.behind.now c.in-End.field-0
    (judged_front _ c.new-scanner.result c.feed.new.self c.new-scanner.ensures c.args.front.now
    (feds.End c.in-End.field-0) c.in-End.ensures.state c.in-End.ensures.verdict) broken)

pub returns-in-Bad-clause-broken : goal.returns-in-Bad-clause-broken
returns-in-Bad-clause-broken c = λ same.
    broken_front c.args.front.now c.args.behind.now c.in-Bad.field-0
    (judged_front _ c.new-scanner.result c.feed.new.self c.new-scanner.ensures c.args.front.now
    (feds.Bad c.in-Bad.field-0) c.in-Bad.ensures.state c.in-Bad.ensures.verdict)
