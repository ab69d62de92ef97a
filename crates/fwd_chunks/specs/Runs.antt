-- The runs of a request as they are kept.
use Rattle.std.specs.Prelude.{List, [], ◌∷◌}
use Rattle.fwd_chunks.specs.declared.span.Span.{Span}
use Rattle.fwd_chunks.specs.declared.spans.Runs.{Runs}
use Rattle.fwd_chunks.specs.declared.spans.Runs.TheVariants.{One, Many}

-- one run after the other
abbrev pub runs_shown : Runs → List Span
runs_shown (One span) = span ∷ []
runs_shown (Many spans) = spans.items
