use Rattle.std.proofs.Common.{◌≡◌, ◌∷◌, ℕ, sym, ap, ◌∙◌}
use Rattle.fwd_msgpack.specs.Values.{bytes_of}
use Rattle.fwd_modes.specs.ShortOptions.{HasChunk, IsChunkAlone, IsChunkBeforeSize}
use Rattle.fwd_modes.proofs.ShortPairs.{alone_says, before_says, behind_says, on_some}
use Rattle.fwd_modes.proofs.short_option.short_chunk.Goals as goal

pub returns-in-129 : goal.returns-in-129
returns-in-129 c =
    let option = bytes_of c.args.option in
    let pairs = c.in_ok-head.pairs.now in
    let is : option ≡ 0x81 ∷ pairs = sym c.bytes.ensures.value ∙ c.in_ok-head.ensures.cases.0 ∙ ap (λ (b : ℕ). b ∷ pairs) c.in-129.is in
    on_some c.chunk_alone.result (IsChunkAlone pairs) (HasChunk option) (λ chunk a. alone_says option pairs chunk c.args.option.whole is a) c.chunk_alone.ensures

pub returns-in-Some : goal.returns-in-Some
returns-in-Some c =
    let option = bytes_of c.args.option in
    let pairs = c.in_ok-head.pairs.now in
    let is : option ≡ 0x82 ∷ pairs = sym c.bytes.ensures.value ∙ c.in_ok-head.ensures.cases.0 ∙ ap (λ (b : ℕ). b ∷ pairs) c.in-130.is in
    behind_says option pairs c.in-Some.chunk.now c.args.option.whole is c.in-Some.ensures

pub returns-in-None : goal.returns-in-None
returns-in-None c =
    let option = bytes_of c.args.option in
    let pairs = c.in_ok-head.pairs.now in
    let is : option ≡ 0x82 ∷ pairs = sym c.bytes.ensures.value ∙ c.in_ok-head.ensures.cases.0 ∙ ap (λ (b : ℕ). b ∷ pairs) c.in-130.is in
    on_some c.chunk_before_size.result (IsChunkBeforeSize pairs) (HasChunk option) (λ chunk b. before_says option pairs chunk c.args.option.whole is b) c.chunk_before_size.ensures
