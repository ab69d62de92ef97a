use Rattle.std.proofs.Common.{◌≡◌, ◌∙◌, ap, subst, inr}
use Rattle.std.specs.Io.KnownBytes.{Appends}
use Rattle.fwd_monitor.specs.Page.{page_of}
use Rattle.fwd_script.specs.Statuses.{refused_status}
use Rattle.fwd_script.specs.Writes.{AppendsFront}
use Rattle.fwd_script.specs.declared.status.Status.TheVariants.{Done, Output}
use Rattle.fwd_script.proofs.Results.{match_err}
use Rattle.fwd_journal.specs.RunEnds.{ended_by}
use Rattle.fwd_journal.specs.declared.ending.RunEnd.TheVariants.{Ran}
use Rattle.fwd_check.specs.Found.{Found}
use Rattle.fwd_program.specs.Ends.{Runs}
use Rattle.fwd_program.proofs.Unwritten.{good_text, refused_runs, start_runs}
use Rattle.fwd_program.proofs.running.run_found.Goals as goal

pub returns-in_err-settings-clause-runs : goal.returns-in_err-settings-clause-runs
returns-in_err-settings-clause-runs g c text from =
    let kept = g.W.Write.contents c.args.output.now in
    match_err c.from_residual.result (λ x. Runs (Ran Done) text kept kept) (λ end. end ≡ Ran (refused_status c.in_err-settings.field-0.0)) (λ end. Runs end text kept kept)
    c.from_residual.ensures.1 (λ end e. refused_runs text c.in_err-settings.field-0.0 end kept (subst (λ f. Found f text) c.in_err-settings.was from) e)

pub returns-in_err-reports-clause-runs : goal.returns-in_err-reports-clause-runs
returns-in_err-reports-clause-runs g c text from =
    let settings = c.in_ok-settings.settings in
    let good = good_text settings text (subst (λ f. Found f text) c.in_ok-settings.was from) in
    let kept = g.W.Write.contents c.args.output.now in
    match_err c.from_residual-in_err-reports.result (λ x. Runs (Ran Done) text kept kept) (λ end. end ≡ ended_by c.in_err-reports.field-0.0) (λ end. Runs end text kept kept)
    c.from_residual-in_err-reports.ensures.1 (λ end e. start_runs text settings c.in_err-reports.field-0.0 end kept good e)

pub returns-in_err-write_all-clause-runs : goal.returns-in_err-write_all-clause-runs
returns-in_err-write_all-clause-runs g c text from =
    let settings = c.in_ok-settings.settings in
    let good = good_text settings text (subst (λ f. Found f text) c.in_ok-settings.was from) in
    let reports = c.in_ok-reports.reports.items in
    let page : c.as_bytes.result.now ≡ page_of reports = c.as_bytes.ensures.value ∙ c.in_ok-text.ensures ∙ ap page_of c.deref.ensures.value in
    let old = g.W.Write.contents c.args.output.now in
    let new = g.W.Write.contents c.write_all.new.writer in
    let front = subst (AppendsFront old new) page c.in_err-write_all.ensures.front in
    match_err c.from_residual-in_err-write_all.result (λ x. Runs (Ran Done) text old new) (λ end. end ≡ Ran (Output c.in_err-write_all.field-0.0)) (λ end. Runs end text old new)
    c.from_residual-in_err-write_all.ensures.1 (λ end e. rw e (inr (settings, good, reports, (c.in_ok-reports.ensures.count, c.in_ok-reports.ensures.add_up), front)))

pub returns-clause-runs : goal.returns-clause-runs
returns-clause-runs g c text from =
    let settings = c.in_ok-settings.settings in
    let good = good_text settings text (subst (λ f. Found f text) c.in_ok-settings.was from) in
    let reports = c.in_ok-reports.reports.items in
    let page : c.as_bytes.result.now ≡ page_of reports = c.as_bytes.ensures.value ∙ c.in_ok-text.ensures ∙ ap page_of c.deref.ensures.value in
    let wrote = subst (Appends (g.W.Write.contents c.args.output.now) (g.W.Write.contents c.write_all.new.writer)) page c.in_ok-write_all.ensures.all in
    (settings, good, reports, (c.in_ok-reports.ensures.count, c.in_ok-reports.ensures.add_up), wrote)
