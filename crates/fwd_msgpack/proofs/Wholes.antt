-- The first value of some bytes is a value by itself.
use Rattle.std.proofs.Common.{◌≡◌, ℕ, ◌+◌, ◌<◌, ◌≤◌, List, [], ◌++◌, length, take, sym, ap, ◌∙◌, arith}
use Rattle.std.proofs.lemmas.List.Sums.{fold-append}
use Rattle.std.proofs.lemmas.List.{length-append, take_at}
use Rattle.fwd_msgpack.specs.Scans.{Whole, State, Going, Ended, Failed, InHead, verdict_of, start, scan_byte, first_of}
use Rattle.fwd_msgpack.proofs.Fronts.{scanned, scanned-Ended}
use Rattle.fwd_msgpack.proofs.Solo.{solo}

pub scanned-append : (limit deep : ℕ) (state : State) (xs ys : List ℕ)
    → scanned limit deep state (xs ++ ys) ≡ scanned limit deep (scanned limit deep state xs) ys
scanned-append limit deep state xs ys = fold-append (scan_byte limit deep) state xs ys

pub state_whole : (state : State) (n : ℕ) → verdict_of state ≡ Whole n → state ≡ Ended n
state_whole (Going used stack item) n e = absurd cc
state_whole (Ended used) n e = cc
state_whole (Failed fault) n e = absurd cc

-- the front of the bytes is a value, also within wider limits
pub record Front (limit deep : ℕ) (bytes : List ℕ) (n : ℕ) : Type 0 where
  pub some : 0 < n
  pub within : n ≤ length bytes
  pub len : length (take n bytes) ≡ n
  pub alone : first_of limit deep (take n bytes) ≡ Whole (length (take n bytes))

pub Front-from :
    (limit deep limit' deep' : ℕ) (longer : limit ≤ limit') (deeper : deep ≤ deep')
    (bytes : List ℕ) (n : ℕ)
    → first_of limit deep bytes ≡ Whole n → Front limit' deep' bytes n
unfolding first_of
Front-from limit deep limit' deep' longer deeper bytes n e =
    let s = solo limit deep limit' deep' [] longer (omega arith) 0 0 [] (InHead []) bytes n (omega arith) (state_whole (scanned limit deep start bytes) n e) in
    let ended : Ended (0 + length s.own) ≡ Ended n = sym (scanned-Ended limit deep (0 + length s.own) s.others) ∙ s.after in
    let count : 0 + length s.own ≡ n = cc in
    let len : length s.own ≡ n = omega arith in
    let front : take n bytes ≡ s.own = ap (λ (xs : List ℕ). take n xs) s.parts ∙ take_at s.own s.others n len in
    record {
      some = omega (arith, s.some);
      within = omega (arith, ap length s.parts, length-append s.own s.others);
      len = ap length front ∙ len;
      alone = ap (λ (xs : List ℕ). verdict_of (scanned limit' deep' start xs)) front ∙ ap verdict_of (s.alone ∙ ap Ended (count ∙ sym len ∙ sym (ap length front)));
    }
