use Rattle.std.proofs.Common.{◌≡◌, ℕ, List, ◌++◌, Some, sym, ap, subst, ◌∙◌}
use Rattle.fwd_msgpack.specs.Scans.{first_of}
use Rattle.fwd_source.specs.declared.piece.SourceTold.{SourceTold}
use Rattle.fwd_source.specs.Hearing.{fault_in}
use Rattle.fwd_source.specs.Live.{Shown, live_piece_next}
use Rattle.fwd_source.proofs.Faulty.{closes, faulty_answer, faulty_out, faulty_left}
use Rattle.fwd_source.proofs.source.Source.hears_a_fault.Goals as goal

pub returns-clause-answer : goal.returns-clause-answer
returns-clause-answer c =
    let live = c.args.self.now.live in
    let bytes = c.args.bytes.now in
    let fault = c.in-Some.fault in
    let own = subst (λ (xs : List ℕ). fault_in (first_of c.self.inside.scanner.limits.bytes c.self.inside.scanner.limits.depth (xs ++ bytes)) ≡ Some fault) c.deref.ensures.value (sym c.in-Some.ensures.fault) in
    let found = subst (λ (v : Shown). fault_in (first_of v.live.setup.limits.bytes v.live.setup.limits.depth (v.live.rest ++ bytes)) ≡ Some fault) c.self.view_is own in
    ap (λ (t : SourceTold). t.piece) c.told_of.ensures ∙ sym (faulty_answer live bytes fault c.requires.open found)

pub returns-clause-out : goal.returns-clause-out
returns-clause-out c =
    let live = c.args.self.now.live in
    let bytes = c.args.bytes.now in
    let fault = c.in-Some.fault in
    let own = subst (λ (xs : List ℕ). fault_in (first_of c.self.inside.scanner.limits.bytes c.self.inside.scanner.limits.depth (xs ++ bytes)) ≡ Some fault) c.deref.ensures.value (sym c.in-Some.ensures.fault) in
    let found = subst (λ (v : Shown). fault_in (first_of v.live.setup.limits.bytes v.live.setup.limits.depth (v.live.rest ++ bytes)) ≡ Some fault) c.self.view_is own in
    ap (λ (t : SourceTold). t.out) c.told_of.ensures ∙ c.new.ensures ∙ sym (faulty_out live bytes fault c.requires.open found)

pub returns-clause-live : goal.returns-clause-live
returns-clause-live c =
    let live = c.args.self.now.live in
    let bytes = c.args.bytes.now in
    let fault = c.in-Some.fault in
    let own = subst (λ (xs : List ℕ). fault_in (first_of c.self.inside.scanner.limits.bytes c.self.inside.scanner.limits.depth (xs ++ bytes)) ≡ Some fault) c.deref.ensures.value (sym c.in-Some.ensures.fault) in
    let found = subst (λ (v : Shown). fault_in (first_of v.live.setup.limits.bytes v.live.setup.limits.depth (v.live.rest ++ bytes)) ≡ Some fault) c.self.view_is own in
    let limits = c.fault_of.new.scanner.limits in
    let same = c.in-Some.ensures.limits ∙ ap (λ (v : Shown). v.live.setup.limits) c.self.view_is in
    subst (λ (v : Shown). closes v.live limits c.clear.new.self.items ≡ live_piece_next live bytes) (sym c.self.view_is) (faulty_left live bytes fault c.requires.open found limits c.clear.new.self.items same c.clear.ensures.items)
