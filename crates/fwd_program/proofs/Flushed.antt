-- What stands written once a run's output was flushed.
use Rattle.std.proofs.Common.{◌≡◌, ℕ, List, Option, Result, Ok, Err, inl, inr, sym, subst}
use Rattle.std.specs.Prelude.{OnOk, IfErr, MatchResult}
use Rattle.std.specs.Io.KnownBytes.{Keeps}
use Rattle.std.proofs.KnownBytes.{Keeps-trans, Appends-kept}
use Rattle.fwd_monitor.specs.Page.{page_of}
use Rattle.fwd_script.specs.declared.status.Status.{Status}
use Rattle.fwd_script.specs.declared.status.Status.TheVariants.{Done, BadSettings, BadLine, Memory, Input, Output}
use Rattle.fwd_script.specs.declared.writing.WriteFailed.{WriteFailed}
use Rattle.fwd_script.proofs.ReplayLemmas.{AppendsFront-all}
use Rattle.fwd_journal.specs.declared.ending.RunEnd.{RunEnd}
use Rattle.fwd_journal.specs.declared.ending.RunEnd.TheVariants.{Ran, Left}
use Rattle.fwd_program.specs.Ends.{Runs}

-- what a run wrote still stands after what writes nothing more
kept : (status : Status) (text : List ℕ) (old mid new : Option (List ℕ))
    → Runs (Ran status) text old mid → Keeps mid new → Runs (Ran status) text old new
kept Done text old mid new (s, good, reports, fit, wrote) k = (s, good, reports, fit, Appends-kept old mid new (page_of reports) wrote k)
kept (BadSettings fault) text old mid new (why, wrote) k = (why, Keeps-trans old mid new wrote k)
kept (BadLine n) text old mid new wrote k = absurd wrote
kept Memory text old mid new wrote k = Keeps-trans old mid new wrote k
kept (Input failed) text old mid new wrote k = absurd wrote
kept (Output failed) text old mid new (inl wrote) k = inl (Keeps-trans old mid new wrote k)
kept (Output failed) text old mid new (inr (s, good, reports, fit, (front, rest, is, wrote))) k = inr (s, good, reports, fit, (front, rest, is, Appends-kept old mid new front wrote k))

-- what a run wrote is a front of its page, or nothing
front : (status : Status) (failed : WriteFailed) (text : List ℕ) (old new : Option (List ℕ))
    → Runs (Ran status) text old new → Runs (Ran (Output failed)) text old new
front Done failed text old new (s, good, reports, fit, wrote) = inr (s, good, reports, fit, AppendsFront-all old new (page_of reports) wrote)
front (BadSettings fault) failed text old new (why, wrote) = inl wrote
front (BadLine n) failed text old new wrote = absurd wrote
front Memory failed text old new wrote = inl wrote
front (Input other) failed text old new wrote = absurd wrote
front (Output other) failed text old new wrote = wrote

-- what a run wrote that left something, behind a flush
pub left_runs : {T : Type 0} (r : Result T WriteFailed) (left : _) (result : RunEnd)
    (text : List ℕ) (old mid new : Option (List ℕ))
    → MatchResult r (λ _. result ≡ Left left) (λ failed. result ≡ Ran (Output failed))
    → Runs (Left left) text old mid → Keeps mid new → Runs result text old new
left_runs (Ok x) left result text old mid new is wrote k =
    subst (λ e. Runs e text old new) (sym is) (kept Done text old mid new wrote k)
left_runs (Err failed) left result text old mid new is wrote k =
    subst (λ e. Runs e text old new) (sym is)
    (kept (Output failed) text old mid new (front Done failed text old mid wrote) k)

-- what a run wrote, behind a flush that tells a failure of its own
pub flushed_runs : {T : Type 0} (r : Result T WriteFailed) (status result : Status)
    (text : List ℕ) (old mid new : Option (List ℕ)) → OnOk r (result ≡ status)
    → IfErr r (λ failed. result ≡ Output failed) → Runs (Ran status) text old mid
    → Keeps mid new → Runs (Ran result) text old new
flushed_runs (Ok x) status result text old mid new ok err wrote k =
    subst (λ s. Runs (Ran s) text old new) (sym ok) (kept status text old mid new wrote k)
flushed_runs (Err failed) status result text old mid new ok err wrote k =
    subst (λ s. Runs (Ran s) text old new) (sym err) (kept (Output failed) text old mid new (front status failed text old mid wrote) k)
