use Rattle.std.proofs.Common.{rules, ◌≡◌, ◌<◌, ◌+◌, ◌++◌, [], ◌∷◌, List, ℕ, length, ap, subst, sym, arith, length-append}
use Rattle.std.specs.List.{concat, AllByRecursion}
use Rattle.fwd_session.proofs.Gathering.{full_push, concat_push}
use Rattle.fwd_session.proofs.outbox.Outbox.push.Goals as goal

pub invariant_of-self-2 : goal.invariant_of-self-2
invariant_of-self-2 c =
    let frames : List (List ℕ) = c.self.inside.frames.items in
    let items : c.push_back.new.self.items ≡ frames ++ c.args.frame ∷ [] = search rules in
    let len : c.in_ok-len.len ≡ length c.args.frame = search rules in
    let left : c.in_ok-left.left ≡ c.self.inside.left + c.in_ok-len.len = search rules in (
      subst (AllByRecursion (λ f. 0 < length f)) (sym items) (full_push frames c.args.frame c.self.invariant.0 c.requires),
      omega (arith, left, len, c.self.invariant.1, ap (λ l. length (concat l)) items, ap length (concat_push frames c.args.frame), length-append (concat frames) c.args.frame),
      omega (arith, c.if-left-gt-MOST.false),
    )
