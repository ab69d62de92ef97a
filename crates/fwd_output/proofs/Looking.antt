-- What a worker finds is for its use.
use Rattle.std.proofs.Common.{◌≡◌, ℕ, Bool, true, false, Option, Some, None, refl, sym, subst}
use Rattle.std.specs.Prelude.{IfOk, Result, Ok, Err}
use Rattle.fwd_chunks.specs.declared.chunk.Chunk.{Chunk}
use Rattle.fwd_chunks.specs.declared.wanted.Wanted.{Wanted}
use Rattle.fwd_output.specs.Looks.{HasFound, HasFoundOf, IsForUse, may_look}
use Rattle.fwd_output.specs.Turns.{LockedState}
use Rattle.fwd_output.specs.declared.offer.Found.{Found}
use Rattle.fwd_output.specs.declared.offer.Found.TheVariants as found
use Rattle.fwd_output.specs.declared.server_view.ChunkSearch.{ChunkSearch}
use Rattle.fwd_output.specs.declared.server_view.ServerView.{ServerView}

-- what a worker that may look finds is for its use
found-for-use : (first : Wanted) (a b c : Option Chunk) (what : Found) (s : LockedState)
    (view : ServerView) (search : ChunkSearch) (now : ℕ) (t : LockedState)
    → may_look view search.chunk_use ≡ true → HasFoundOf first a b c what s view search now t
    → IsForUse what view search.chunk_use
found-for-use first a b c found.Nothing s view search now t may is = tt
found-for-use first (Some x) b c (found.Passed offer) s view search now t may is = (may, is.1)
found-for-use first None (Some x) c (found.Passed offer) s view search now t may is = (may, is.1)
found-for-use first None None (Some x) (found.Passed offer) s view search now t may is = (may, is.1)
found-for-use first None None None (found.Passed offer) s view search now t may is = absurd cc
found-for-use first (Some x) b c (found.Took picked) s view search now t may is =
    (may, is.1, cc)
found-for-use first None (Some x) c (found.Took picked) s view search now t may is =
    (may, is.1, cc)
found-for-use first None None (Some x) (found.Took picked) s view search now t may is =
    (may, is.1, cc)
found-for-use first None None None (found.Took picked) s view search now t may is = absurd cc

-- and so is nothing, which one finds that may not
pub for-use : {E : Type 0} (s t : LockedState) (view : ServerView) (search : ChunkSearch) (now : ℕ)
    (result : Result Found E)
    → (may_look view search.chunk_use ≡ true → IfOk result (λ what.
    HasFound what s view search now t))
    → (may_look view search.chunk_use ≡ false → result ≡ Ok found.Nothing)
    → IfOk result (λ what. IsForUse what view search.chunk_use)
for-use s t view search now result has none = by (may_look view search.chunk_use) refl result has none
  where
    by : {E : Type 0} (may : Bool) → may_look view search.chunk_use ≡ may → (r : Result Found E)
        → (may_look view search.chunk_use ≡ true → IfOk r (λ what. HasFound what s view search now t))
        → (may_look view search.chunk_use ≡ false → r ≡ Ok found.Nothing)
        → IfOk r (λ what. IsForUse what view search.chunk_use)
    by true e (Ok what) has none = found-for-use _ _ _ _ what s view search now t e (has e)
    by true e (Err error) has none = tt
    by false e r has none = subst (λ x. IfOk x (λ what. IsForUse what view search.chunk_use)) (sym (none e)) tt
