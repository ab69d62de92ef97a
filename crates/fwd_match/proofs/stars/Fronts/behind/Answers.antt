use Rattle.std.proofs.Common.{◌≡◌, ◌+◌, ◌<◌, ◌∷◌, ◌∙◌, ap, sym, List, ℕ, length, drop, get_or, add-one, arith}
use Rattle.std.proofs.Math.Seq.{drop-cons}
use Rattle.fwd_match.specs.Asterisks.{further, each_front}
use Rattle.fwd_match.proofs.stars.Fronts.behind.Goals as goal

pub loop-byte-preserved : goal.loop-byte-preserved
loop-byte-preserved c = λ test.
    let bytes = c.args.bytes.now in
    let index = c.loop-byte.byte-index in
    let within : index < length bytes = omega arith in
    let first : drop index bytes ≡ get_or bytes index 0 ∷ drop (index + 1) bytes = rw add-one (drop-cons bytes index 0 within) in
    c.loop-byte.invariant test
    ∙ ap (λ (left : List ℕ). each_front c.loop-byte.fronts (λ front. test (further front left))) first
    ∙ sym (c.after-fronts.ensures (λ front. test (further front (drop (index + 1) bytes))))
