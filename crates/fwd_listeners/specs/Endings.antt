-- Why a run ended, by what it left.
use Rattle.std.specs.Prelude.{ℕ, ◌+◌, ◌-◌, ◌^◌, ◌==◌, ◌&&◌, min, Bool, true, false, List, if◌then◌else◌}
use Rattle.std.specs.List.{fold}
use Rattle.fwd_base.specs.declared.report.Report.{Report}
use Rattle.fwd_listeners.specs.declared.left.Left.{Left}
use Rattle.fwd_listeners.specs.declared.ending.Ending.{Ending}
use Rattle.fwd_listeners.specs.declared.ending.Ending.TheVariants as endings

-- nothing is left: no entry, none of a source that does not ask, and no source is unread
abbrev pub is_nothing : Left → Bool
is_nothing left = (left.entries == 0) && ((left.unasked == 0) && (left.sources == 0))

-- a number of entries and those that outputs hold, by their reports, as far as a u64 counts
abbrev pub entries_with : ℕ → List Report → ℕ
entries_with = fold (λ entries report. min (entries + report.counts.held) (2 ^ 64 - 1))

-- what is left, with the entries that outputs hold, by their reports
abbrev pub with_held : Left → List Report → Left
with_held left reports =
    record {
      entries = entries_with left.entries reports;
      unasked = left.unasked;
      sources = left.sources;
    }

-- why a run ended that was asked to stop or not: all is delivered only if nothing is left
abbrev pub ending_of : Bool → Left → Ending
ending_of false left = endings.Turns
ending_of true left = if is_nothing left then endings.Delivered else endings.Left left
