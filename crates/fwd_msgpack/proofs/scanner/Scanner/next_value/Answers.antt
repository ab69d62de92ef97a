use Rattle.std.proofs.Common.{[], ◌∷◌, drop, sym, ap, ◌∙◌}
use Rattle.std.proofs.lemmas.List.{take_rest}
use Rattle.fwd_msgpack.specs.Scans.{split_of, with_front}
use Rattle.fwd_msgpack.proofs.Rows.{by_first, split_told, split_first}
use Rattle.fwd_msgpack.proofs.scanner.Scanner.next_value.Goals as goal

pub returns-in-Whole-clause-split : goal.returns-in-Whole-clause-split
returns-in-Whole-clause-split c =
    let bytes = c.args.bytes.now in
    let limits = c.args.self.now.limits in
    let used = c.in-Whole.used in
    rw (take_rest bytes used) (split_first limits.bytes limits.depth bytes used (sym c.in-Whole.ensures.verdict) ∙ ap (λ v. with_front (v ∷ []) (split_of limits.bytes limits.depth (drop used bytes))) (sym c.in-Whole.ensures.front))

pub returns-in-Short-clause-split : goal.returns-in-Short-clause-split
returns-in-Short-clause-split c =
    let limits = c.args.self.now.limits in
    split_told limits.bytes limits.depth c.args.bytes.now ∙ ap (by_first limits.bytes limits.depth [] c.args.bytes.now) (sym c.in-Short.ensures.verdict)

pub returns-in-Bad-clause-split : goal.returns-in-Bad-clause-split
returns-in-Bad-clause-split c =
    let limits = c.args.self.now.limits in
    split_told limits.bytes limits.depth c.args.bytes.now ∙ ap (by_first limits.bytes limits.depth [] c.args.bytes.now) (sym c.in-Bad.ensures.verdict)
