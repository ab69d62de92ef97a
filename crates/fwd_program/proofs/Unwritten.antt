-- How a run ends before it writes its page.
use Rattle.std.proofs.Common.{◌≡◌, ◌≢◌, ◌⊎◌, ℕ, List, Option, Result, Ok, Err, inl, inr, refl, sym, subst}
use Rattle.std.specs.Prelude.{MatchResult}
use Rattle.std.proofs.KnownBytes.{Keeps-refl}
use Rattle.fwd_settings.specs.Whole.{settings_of}
use Rattle.fwd_settings.specs.declared.settings.Settings.{Settings}
use Rattle.fwd_settings.specs.declared.fault.SettingsFault.{SettingsFault}
use Rattle.fwd_settings.specs.declared.fault.SettingsFault.TheVariants as faults
use Rattle.fwd_script.specs.Statuses.{refused_status}
use Rattle.fwd_script.specs.declared.status.Status.TheVariants.{Done}
use Rattle.fwd_loop.specs.StartFault.{StartFault}
use Rattle.fwd_loop.specs.StartFault.TheVariants as starts
use Rattle.fwd_loop.specs.Ending.{Ending}
use Rattle.fwd_loop.specs.Ending.TheVariants as endings
use Rattle.fwd_journal.specs.RunEnds.{ended_as, ended_by}
use Rattle.fwd_journal.specs.declared.ending.RunEnd.{RunEnd}
use Rattle.fwd_journal.specs.declared.ending.RunEnd.TheVariants.{Ran}
use Rattle.fwd_check.specs.Found.{Found}
use Rattle.fwd_program.specs.Ends.{Runs}

-- settings that were found are their text's
pub good_text : (s : Settings) (text : List ℕ) → Found (Ok s) text → settings_of text ≡ Ok s
good_text s text (inl e) = absurd cc
good_text s text (inr (inl e)) = absurd cc
good_text s text (inr (inr e)) = sym e

-- refused settings end a run as they end a check
pub refused_runs : (text : List ℕ) (fault : SettingsFault) (end : RunEnd)
    (known : Option (List ℕ)) → Found (Err fault) text → end ≡ Ran (refused_status fault)
    → Runs end text known known
refused_runs text fault end known from e = rw e (by fault from)
  where
    own : (fault : SettingsFault) → fault ≢ faults.Memory → Found (Err fault) text
        → (settings_of text ≡ Err fault) ⊎ (fault ≡ faults.Unreadable)
    own fault other (inl e) = absurd (other cc)
    own fault other (inr (inl e)) = inr cc
    own fault other (inr (inr e)) = inl (sym e)

    by : (fault : SettingsFault) → Found (Err fault) text
        → Runs (Ran (refused_status fault)) text known known
    by faults.Memory from = Keeps-refl known
    by faults.Unreadable from = (inr refl, Keeps-refl known)
    by faults.NotToml from = (own faults.NotToml (λ e. absurd cc) from, Keeps-refl known)
    by (faults.Missing key) from = (own (faults.Missing key) (λ e. absurd cc) from, Keeps-refl known)
    by (faults.WrongKind key) from = (own (faults.WrongKind key) (λ e. absurd cc) from, Keeps-refl known)
    by (faults.OutOfRange key) from = (own (faults.OutOfRange key) (λ e. absurd cc) from, Keeps-refl known)
    by (faults.Unknown key) from = (own (faults.Unknown key) (λ e. absurd cc) from, Keeps-refl known)
    by (faults.BadPattern key) from = (own (faults.BadPattern key) (λ e. absurd cc) from, Keeps-refl known)

-- a relay that cannot start, or not go on, has written nothing
pub start_runs : (text : List ℕ) (s : Settings) (fault : StartFault) (end : RunEnd)
    (known : Option (List ℕ)) → settings_of text ≡ Ok s → end ≡ ended_by fault
    → Runs end text known known
start_runs text s starts.Memory end known good e = rw e (Keeps-refl known)
start_runs text s (starts.Listen address) end known good e = rw e (s, good, Keeps-refl known)
start_runs text s (starts.Control path) end known good e = rw e (s, good, Keeps-refl known)
start_runs text s starts.Poll end known good e = rw e (s, good, Keeps-refl known)
start_runs text s starts.Seed end known good e = rw e (s, good, Keeps-refl known)
start_runs text s starts.Thread end known good e = rw e (s, good, Keeps-refl known)

-- ---- how a run ended, by what came of it

-- a run that came to its end wrote its page, whichever end that was
as_ended : (ending : Ending) (text : List ℕ) (old new : Option (List ℕ))
    → Runs (Ran Done) text old new → Runs (ended_as ending) text old new
as_ended endings.Turns text old new runs = runs
as_ended endings.Delivered text old new runs = runs
as_ended (endings.Left left) text old new runs = runs

pub ended_runs : (ran : Result Ending RunEnd) (end : RunEnd) (text : List ℕ)
    (old new : Option (List ℕ)) → MatchResult ran (λ ending. end ≡ ended_as ending) (λ e. end ≡ e)
    → MatchResult ran (λ _. Runs (Ran Done) text old new) (λ e. Runs e text old new)
    → Runs end text old new
ended_runs (Ok ending) end text old new is runs =
    subst (λ e. Runs e text old new) (sym is) (as_ended ending text old new runs)
ended_runs (Err e) end text old new is runs = subst (λ e'. Runs e' text old new) (sym is) runs
