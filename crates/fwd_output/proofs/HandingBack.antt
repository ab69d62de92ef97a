-- Chunks that are handed back to a buffer, one after the other.
use Rattle.std.proofs.Common.{◌≡◌, ◌≢◌, ℕ, suc, ◌≤◌, Option, Some, None, List, [], ◌∷◌, ◌++◌, refl, sym, ap, subst, ◌∙◌, arith}
use Rattle.std.specs.Prelude.{map, option_to_list}
use Rattle.fwd_chunks.specs.History.{CarriedChunk}
use Rattle.fwd_chunks.specs.Live.{LiveBuffer, IsCarried, live_frees, live_looks}
use Rattle.fwd_chunks.proofs.Taken.{carried-frees}
use Rattle.fwd_model.specs.Outputs.{Return, live_gets_back, returned, moment_if}
use Rattle.fwd_run.specs.Pages.{AreCarried}
use Rattle.fwd_output.specs.HandedBack.{Handed, kept_back, lost_back, IsHandedBack}
use Rattle.fwd_output.proofs.ChunkLemmas.{all_both, times-first, times-more, times-others}

-- one is handed back, and then the others
pub hand_one : (b e d : LiveBuffer) (h : Handed) (hs : List Handed) (now : ℕ)
    → (IsCarried b h.chunk → e ≡ live_frees b h.chunk.number (moment_if h.lost now))
    → (¬ (IsCarried b h.chunk) → e ≡ b)
    → IsHandedBack e hs now d → IsHandedBack b (h ∷ hs) now d
hand_one b e d h hs now here elsewhere back =
    (λ is. subst (λ x. IsHandedBack x hs now d) (here is) back, λ not. subst (λ x. IsHandedBack x hs now d) (elsewhere not) back)

-- the chunk that was taken, if there is one, is handed back first
pub hand_none : (b d : LiveBuffer) (taken : Option CarriedChunk) (hs : List Handed) (now : ℕ)
    → taken ≡ None → IsHandedBack b hs now d
    → IsHandedBack b (map kept_back (option_to_list taken) ++ hs) now d
hand_none b d taken hs now e back =
    subst (λ o. IsHandedBack b (map kept_back (option_to_list o) ++ hs) now d) (sym e) back

pub hand_taken : (b e d : LiveBuffer) (taken : Option CarriedChunk) (c : CarriedChunk) (hs : List Handed)
    (now : ℕ) → taken ≡ Some c
    → (IsCarried b c → e ≡ live_frees b c.number None) → (¬ (IsCarried b c) → e ≡ b)
    → IsHandedBack e hs now d
    → IsHandedBack b (map kept_back (option_to_list taken) ++ hs) now d
hand_taken b e d taken c hs now f here elsewhere back =
    subst (λ o. IsHandedBack b (map kept_back (option_to_list o) ++ hs) now d) (sym f) (hand_one b e d (kept_back c) hs now here elsewhere back)

-- the others are still here once one of them is back
here-still : (b : LiveBuffer) (c : CarriedChunk) (cs : List CarriedChunk) (loss : Option ℕ) → AreCarried b (c ∷ cs)
    → AreCarried (live_frees b c.number loss) cs
here-still b c cs loss own = record {
  carried = all_both (IsCarried b) (λ d. c.number ≢ d.number) (IsCarried (live_frees b c.number loss)) cs (λ d e differ. carried-frees b c.number d.number loss differ ∙ e) own.carried.1 (times-others c.number cs (omega (arith, own.apart c.number, times-first c cs)));
  apart = λ n. omega (arith, own.apart n, times-more n c cs);
}

abbrev back_of : Handed → Return
back_of h = record { number = h.chunk.number; lost = h.lost }

abbrev chunk_of : Handed → CarriedChunk
chunk_of h = h.chunk

-- where all of them are here, all are given back
all-back : (b : LiveBuffer) (hs : List Handed) (now : ℕ) (d : LiveBuffer)
    → AreCarried b (map chunk_of hs) → IsHandedBack b hs now d
    → d ≡ live_gets_back b (map back_of hs) now
all-back b [] now d own back = back
all-back b (h ∷ hs) now d own back =
    all-back (live_frees b h.chunk.number (moment_if h.lost now)) hs now d (here-still b h.chunk (map chunk_of hs) (moment_if h.lost now) own) (back.0 own.carried.0)

module _ (loaded : List CarriedChunk) where
  chunks-lost : (cs : List CarriedChunk) → map chunk_of (map lost_back cs) ≡ cs
  chunks-lost [] = refl
  chunks-lost (c ∷ cs) = ap (λ ds. c ∷ ds) (chunks-lost cs)

  returns-lost : (cs : List CarriedChunk)
      → map back_of (map lost_back cs) ≡ map (Rattle.fwd_model.specs.Outputs.return_of Rattle.std.proofs.Common.true) cs
  returns-lost [] = refl
  returns-lost (c ∷ cs) = ap (λ rs. record { number = c.number; lost = Rattle.std.proofs.Common.true } ∷ rs) (returns-lost cs)

  pub handed-back : (b : LiveBuffer) (taken : Option CarriedChunk) (now : ℕ) (d : LiveBuffer)
      → AreCarried b (option_to_list taken ++ loaded)
      → IsHandedBack (live_looks b now) (map kept_back (option_to_list taken) ++ map lost_back loaded) now d
      → d ≡ live_gets_back (live_looks b now) (returned taken loaded) now
  handed-back b None now d own back =
      all-back (live_looks b now) (map lost_back loaded) now d (subst (AreCarried (live_looks b now)) (sym (chunks-lost loaded)) (looks own)) back
      ∙ ap (λ rs. live_gets_back (live_looks b now) rs now) (returns-lost loaded)
    where
      looks : AreCarried b loaded → AreCarried (live_looks b now) loaded
      looks own = record { carried = own.carried; apart = own.apart }
  handed-back b (Some c) now d own back =
      all-back (live_looks b now) (kept_back c ∷ map lost_back loaded) now d (subst (λ cs. AreCarried (live_looks b now) (c ∷ cs)) (sym (chunks-lost loaded)) (looks own)) back
      ∙ ap (λ rs. live_gets_back (live_looks b now) (record { number = c.number; lost = Rattle.std.proofs.Common.false } ∷ rs) now) (returns-lost loaded)
    where
      looks : AreCarried b (c ∷ loaded) → AreCarried (live_looks b now) (c ∷ loaded)
      looks own = record { carried = own.carried; apart = own.apart }
