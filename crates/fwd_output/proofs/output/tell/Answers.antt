use Rattle.std.proofs.Common.{◌≡◌, ◌+◌, suc, take, ◌++◌, ◌∷◌, [], sym, ap, ◌∙◌, arith}
use Rattle.std.specs.Prelude.{map}
use Rattle.std.proofs.lemmas.List.{take_all}
use Rattle.std.proofs.Math.Seq.{take-suc}
use Rattle.fwd_book.specs.Live.{BookState, live_leaves}
use Rattle.fwd_book.proofs.Keeping.{leaves-none, leaves-then}
use Rattle.fwd_output.proofs.Basics.{map-more}
use Rattle.fwd_output.proofs.output.tell.Goals as goal

pub loop-receipt-init : goal.loop-receipt-init
loop-receipt-init c = λ i. record { live = leaves-none c.args.book.now.live c.is_sound.ensures.kept i; ready = c.args.book.now.ready }

pub loop-receipt-preserved : goal.loop-receipt-preserved
loop-receipt-preserved c =
    let b = c.args.book.now.live in
    let rs = c.args.given.now in
    let i = c.loop-receipt.receipt-index in
    let r = c.receipt-item.result in
    let one_more : i + 1 ≡ suc i = omega arith in
    let next : take (i + 1) rs ≡ take i rs ++ r ∷ [] =
    ap (λ k. take k rs) one_more ∙ take-suc rs i _ c.loop-receipt-test.true ∙ ap (λ x. take i rs ++ x ∷ []) (sym c.receipt-item.is) in
    c.forget.ensures.left
    ∙ ap (λ o. record { live = live_leaves c.loop-receipt.book.live (o ∷ []); ready = c.loop-receipt.book.ready }) c.origin.ensures
    ∙ ap (λ (s : BookState). record { live = live_leaves s.live (r.origin ∷ []); ready = s.ready }) c.loop-receipt.invariant
    ∙ (λ j. record {
      live = (leaves-then b (map (λ x. x.origin) (take i rs)) r.origin ∙ ap (live_leaves b) (sym (map-more (λ x. x.origin) (take i rs) (take (i + 1) rs) r next))) j;
      ready = c.args.book.now.ready;
    })

pub returns : goal.returns
returns c =
    c.loop-receipt.invariant
    ∙ ap (λ rs. record { live = live_leaves c.args.book.now.live (map (λ r. r.origin) rs); ready = c.args.book.now.ready }) (take_all c.loop-receipt.receipt-index c.args.given.now c.loop-receipt-test.false)
