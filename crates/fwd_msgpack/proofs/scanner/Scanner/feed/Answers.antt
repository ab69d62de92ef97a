use Rattle.std.proofs.Common.{arith, ℕ, sym, ap, ◌∙◌}
use Rattle.fwd_msgpack.specs.Scans.{verdict_of}
use Rattle.fwd_msgpack.specs.Scanners.{Standing, heard}
use Rattle.fwd_msgpack.proofs.Pieces.{onward_all, ends_within, told_within}
use Rattle.fwd_msgpack.proofs.scanner.Scanner.feed.Goals as goal

pub answer-requires : goal.answer-requires
answer-requires c total e =
    let old = c.args.self.now in
    let state = onward_all old c.finish_item-at.new.self c.go_on.new.self c.finish_item-at.result c.args.piece.now c.finish_item-at.ensures.state c.go_on.ensures in
    let ended = ap (λ (s : Standing). s.state) (sym state) ∙ e in
    let within = ends_within old.limits.bytes old.limits.depth old.state c.args.piece.now total c.requires.going ended in
    omega (arith, c.taken-before.ensures)

pub returns : goal.returns
returns c =
    let old = c.args.self.now in
    let state = onward_all old c.finish_item-at.new.self c.go_on.new.self c.finish_item-at.result c.args.piece.now c.finish_item-at.ensures.state c.go_on.ensures in
    let verdict = c.answer.ensures ∙ ap (λ (n : ℕ). heard n c.answer.result) c.taken-before.ensures in
    let within = told_within old.limits.bytes old.limits.depth old.state c.args.piece.now c.answer.result c.requires.going (ap (λ (s : Standing). verdict_of s.state) (sym state) ∙ verdict) in
    record { state = state; verdict = verdict; within = within }
