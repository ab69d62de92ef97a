use Rattle.std.proofs.Common.{◌≡◌, ◌++◌, Some, refl, sym, ap, subst, ◌∙◌}
use Rattle.std.specs.Prelude.{map, option_to_list}
use Rattle.fwd_chunks.specs.Live.{live_looks}
use Rattle.fwd_model.specs.Outputs.{LiveOutput, output_ends, returned}
use Rattle.fwd_model.specs.Live.{lives}
use Rattle.fwd_model.specs.Step.{gives_back}
use Rattle.fwd_run.specs.Pages.{AreCarried}
use Rattle.fwd_output.specs.HandedBack.{kept_back, lost_back}
use Rattle.fwd_output.proofs.Paging.{both-as}
use Rattle.fwd_output.proofs.Returning.{handed-accepted, handed-settled}
use Rattle.fwd_output.proofs.paged_output.PagedOutput.end.Goals as goal

pub invariant_of-self : goal.invariant_of-self
invariant_of-self g c =
    let o = c.self.inside in
    let own = c.self.invariant.0 in
    let may = c.requires in
    let all : AreCarried o.state.buffer (option_to_list c.args.leaving.taken ++ c.args.leaving.loaded.items) = subst (λ t. AreCarried o.state.buffer (option_to_list t ++ c.args.leaving.loaded.items)) (sym may.took) (subst (λ l. AreCarried o.state.buffer (option_to_list may.worker.taken ++ l)) (sym may.whole) (c.end.ensures.held o.state may.worker own.is may.has)) in
    both-as o.page c.end.new.self o.trial o.servers o.state c.end-2.new.self _ c.self.invariant
    (c.end-2.ensures.here all ∙ (ap (λ t. output_ends o.state (returned t c.args.leaving.loaded.items) c.args.leaving.server c.args.now) may.took ∙ (ap (λ l. output_ends o.state (returned may.worker.taken l) c.args.leaving.server c.args.now) may.carried ∙ ap (λ e. output_ends o.state (gives_back lives may.worker) e c.args.now) may.loses)))
    refl (c.end.ensures.next o.state may.worker own.is may.has may.some may.none).0

pub returns-clause-accepted : goal.returns-clause-accepted
returns-clause-accepted g c =
    let b = c.self.inside.state.buffer in
    let handed = map kept_back (option_to_list c.args.leaving.taken) ++ map lost_back c.args.leaving.loaded.items in
    handed-accepted (live_looks b c.args.now) c.end-2.new.self.buffer handed c.args.now c.end-2.ensures.each ∙ ap (λ (x : LiveOutput). x.buffer.accepted) c.self.view_is

pub returns-clause-settled : goal.returns-clause-settled
returns-clause-settled g c =
    let b = c.self.inside.state.buffer in
    let handed = map kept_back (option_to_list c.args.leaving.taken) ++ map lost_back c.args.leaving.loaded.items in
    handed-settled (live_looks b c.args.now) c.end-2.new.self.buffer handed c.args.now c.end-2.ensures.each ∙ ap (λ (x : LiveOutput). x.buffer.settled) c.self.view_is
