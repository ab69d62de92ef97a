use Rattle.std.proofs.Common.{◌≡◌, true, Option, Some, None, refl, sym, ◌∙◌}
use Rattle.std.specs.Prelude.{is_some}
use Rattle.std.specs.Option.{option_map}
use Rattle.fwd_msgpack.specs.Values.{bytes_of}
use Rattle.fwd_modes.specs.declared.entry.Entry.{Entry}
use Rattle.fwd_modes.specs.Readings.{kept}
use Rattle.fwd_modes.proofs.Spelled.{kept_spelled}
use Rattle.fwd_modes.proofs.entry.is_kept.Goals as goal

mapped : (read : Option Entry) → is_some read ≡ true → is_some (option_map kept read) ≡ true
mapped None e = e
mapped (Some entry) e = refl

pub returns-then-first : goal.returns-then-first
returns-then-first c = λ some.
    kept_spelled (bytes_of c.args.value) c.in-Some.first.now c.in-Some.field-0-1.now
    (sym c.bytes.ensures.value ∙ c.in-Some.ensures.cases.0) c.if-first.true c.args.value.whole
    (option_map kept c.read.result) c.read.ensures.value (mapped c.read.result (sym c.is_some.ensures ∙ some))
