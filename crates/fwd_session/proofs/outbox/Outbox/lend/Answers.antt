use Rattle.std.proofs.Common.{◌≡◌, ◌+◌, ◌<◌, ◌++◌, List, ℕ, length, take, drop, ap, subst, sym, ◌∙◌, arith}
use Rattle.std.proofs.lemmas.Bool.Decides.{nat_tests}
use Rattle.std.specs.List.{concat}
use Rattle.fwd_chunks.specs.declared.write_slices.TheConstants.{PIECE_LIMIT}
use Rattle.fwd_chunks.specs.Lending.{IsLent}
use Rattle.fwd_chunks.proofs.Lending.{lent_both, lent_full}
use Rattle.fwd_session.proofs.Gathering.{next_frame, frames_behind}
use Rattle.fwd_session.proofs.outbox.Outbox.lend.Goals as goal

pub loop-place-preserved : goal.loop-place-preserved
loop-place-preserved c =
    let frames : List (List ℕ) = c.self.inside.frames.items in
    let before = c.args.pieces in
    let l = c.loop-place in
    let frame : List ℕ = c.index.result.now in
    let there : l.place < length frames = omega (arith, c.loop-place-test.true, c.len-place-end.ensures, c.self.inside.frames.ok) in
    let both = lent_both before l.lent c.lend-lent.result (concat (take l.place frames)) frame l.invariant.lent c.lend-lent.ensures in
    let next : concat (take l.place frames) ++ frame ≡ concat (take (l.place + 1) frames) =
    ap (λ f. concat (take l.place frames) ++ f) c.index.ensures ∙ sym (next_frame frames l.place frame there) in
    record {
      within = omega (arith, there);
      lent = subst (λ bytes. IsLent before bytes c.lend-lent.result) next both;
    }

pub returns-then-is_full : goal.returns-then-is_full
returns-then-is_full c =
    let frames : List (List ℕ) = c.self.inside.frames.items in
    let before = c.args.pieces in
    let l = c.loop-place in
    let full : length l.lent ≡ PIECE_LIMIT = grind (arith, nat_tests, sym c.is_full.ensures.value ∙ c.if-is_full.true) in
    let all : concat (take l.place frames) ++ concat (drop l.place frames) ≡ concat c.args.self.now = sym (frames_behind frames l.place) ∙ ap concat c.self.view_is in
    subst (λ bytes. IsLent before bytes l.lent) all
    (lent_both before l.lent l.lent (concat (take l.place frames)) (concat (drop l.place frames)) l.invariant.lent (lent_full l.lent (concat (drop l.place frames)) full))
