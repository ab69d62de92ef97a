use Rattle.std.proofs.Common.{sym, ap, ◌∙◌}
use Rattle.std.proofs.lemmas.List.{take_rest}
use Rattle.fwd_msgpack.specs.Scans.{parts_of, parts_read}
use Rattle.fwd_msgpack.proofs.Parts.{whole_head}
use Rattle.fwd_msgpack.proofs.value.Value.parts.Goals as goal

pub unreachable-requires : goal.unreachable-requires
unreachable-requires c =
    let bytes = c.args.self.bytes.now in
    let found = whole_head bytes c.args.self.whole in
    c.in_default.not-Whole found.0 found.1.0 (c.read_head.ensures.head ∙ found.1.1)

pub returns-clause-value : goal.returns-clause-value
unfolding parts_of
returns-clause-value c =
    let bytes = c.args.self.bytes.now in
    rw (take_rest bytes c.in-Whole.used) (ap (λ r. parts_read r bytes) (sym c.read_head.ensures.head ∙ c.in-Whole.is))
