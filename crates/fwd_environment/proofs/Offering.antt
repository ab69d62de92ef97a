-- What a link was offered, and took.
use Rattle.std.proofs.Common.{arith, ◌≡◌, ◌≢◌, ◌≤◌, ◌+◌, ◌++◌, ℕ, List, [], ◌∷◌, ◌<◌, take, length, Result, Some, refl, sym, ap, subst, ◌∙◌, take-take, IfOk}
use Rattle.std.proofs.lemmas.List.{length-take, take_all}
use Rattle.std.proofs.lemmas.Option.{same_Some}
use Rattle.std.proofs.Math.Seq.{take-append_seam}
use Rattle.std.specs.Prelude.{map, slice_get}
use Rattle.std.specs.Borrow.{Bor}
use Rattle.std.specs.List.{concat}
use Rattle.fwd_chunks.specs.Lending.{AreSome}
use Rattle.fwd_environment.specs.declared.link.LinkFault.{LinkFault}
use Rattle.fwd_environment.specs.Links.{Call, DidWrite, HasOffered, write_of}

-- a write of some bytes is made
pub write-some : (waiting : List ℕ) (answer : Result ℕ LinkFault) → waiting ≢ []
    → write_of waiting answer ≡ DidWrite waiting answer ∷ []
write-some [] answer some = absurd (some refl)
write-some (byte ∷ bytes) answer some = refl

-- a write of bytes was offered all of them
pub offers-all : (bytes : List ℕ) (before after : List Call) (answer : Result ℕ LinkFault)
    → 0 < length bytes → after ≡ before ++ DidWrite bytes answer ∷ []
    → IfOk answer (λ count. count ≤ length bytes) → HasOffered bytes before after answer
offers-all bytes before after answer some told within = record {
  size = length bytes;
  offer = record { within = omega arith; some = λ more. more };
  within = within;
  calls = told
      ∙ ap (λ calls. before ++ calls) (sym (write-some bytes answer (λ e. omega (arith, ap length e, some))))
      ∙ ap (λ bs. before ++ write_of bs answer) (sym (take_all (length bytes) bytes (omega arith)));
}

-- so it was offered the first of those that these are the first of
pub offers-front : (bytes waiting : List ℕ) (before after : List Call) (answer : Result ℕ LinkFault)
    → bytes ≡ take (length bytes) waiting → (0 < length waiting → 0 < length bytes)
    → HasOffered bytes before after answer → HasOffered waiting before after answer
offers-front bytes waiting before after answer is some offered = record {
  size = offered.size;
  offer = record {
    within = omega (arith, offered.offer.within, ap length is, length-take (length bytes) waiting);
    some = λ more. offered.offer.some (some more);
  };
  within = offered.within;
  calls = offered.calls
      ∙ ap (λ bs. before ++ write_of bs answer)
      (ap (take offered.size) is ∙ take-take offered.size (length bytes) waiting offered.offer.within);
}

-- the bytes of a piece that is lent
abbrev bytes_of : Bor (List ℕ) → List ℕ
bytes_of piece = piece.now

-- the first of pieces stands before all others, and is some
pub first-piece : (pieces : List (Bor (List ℕ))) (piece : Bor (List ℕ))
    → Some piece ≡ slice_get pieces 0 → AreSome (map bytes_of pieces)
    → (piece.now ≡ take (length piece.now) (concat (map bytes_of pieces))) × (0 < length piece.now)
first-piece [] piece e some = absurd cc
first-piece (first ∷ others) piece e some =
    let same : piece ≡ first = same_Some _ _ e in (
      subst (λ p. bytes_of p ≡ take (length (bytes_of p)) (concat (map bytes_of (first ∷ others)))) (sym same)
          (sym (take-append_seam first.now (concat (map bytes_of others)))),
      subst (λ p. 0 < length (bytes_of p)) (sym same) some.0,
    )
