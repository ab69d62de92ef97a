use Rattle.std.proofs.Common.{◌≡◌, take}
use Rattle.fwd_chunks.specs.Listing.{listed}
use Rattle.fwd_chunks.proofs.Tagging.{seen}
use Rattle.fwd_chunks.proofs.tags.Tags.listed.Given as goal

abbrev pub invariant-loop-place : goal.invariant-loop-place
invariant-loop-place l = l.list ≡ listed (seen (take l.place l.self-inside.entries.entries) (λ k. k.items))
