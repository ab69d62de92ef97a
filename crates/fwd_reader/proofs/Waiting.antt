-- Who waits for chunks where the list of the newest one is gone.
use Rattle.std.proofs.Common.{◌≡◌, ℕ, Bool, true, false, List, [], ◌∷◌, Option, Some, None, refl, sym, ap, subst, arith, ◌∙◌}
use Rattle.std.specs.Ordering.{is_eq, nat_cmp}
use Rattle.std.proofs.lemmas.Bool.Decides.{nat_tests}
use Rattle.fwd_output.specs.Tickets.{Ticket}
use Rattle.fwd_reader.specs.Stores.{tickets_of, waiting_in, waits_with}
use Rattle.fwd_reader.specs.Waiting.{IsApart, list_at, lists_with}
use Rattle.fwd_reader.specs.declared.ticket_store.waiting.ChunkTickets.{ChunkTickets}

-- a number is itself, and no other
itself : (a : ℕ) → is_eq (nat_cmp a a) ≡ true
itself a = grind (arith, nat_tests)

same : (a b : ℕ) → is_eq (nat_cmp a b) ≡ true → a ≡ b
same a b e = grind (arith, nat_tests)

-- the first of some lists is found at its number
at-first : (c : ℕ) (own : List Ticket) (rest : List (ℕ × List Ticket))
    → waiting_in ((c, own) ∷ rest) c ≡ own
at-first c own rest = rw (itself c) refl

-- where that is gone, and it was the one of its number, who waits for any other waits still
first-gone : (c : ℕ) (own : List Ticket) (rest : List (ℕ × List Ticket)) → list_at rest c ≡ None
    → (k : ℕ) → waiting_in rest k ≡ waits_with (waiting_in ((c, own) ∷ rest)) c [] k
first-gone c own rest none k = by-test (is_eq (nat_cmp c k)) refl
  where
    by-test : (t : Bool) → is_eq (nat_cmp c k) ≡ t
        → waiting_in rest k ≡ waits_with (waiting_in ((c, own) ∷ rest)) c [] k
    by-test true e =
        subst (λ n. waiting_in rest n ≡ waits_with (waiting_in ((c, own) ∷ rest)) c [] n) (same c k e)
        (ap tickets_of none ∙ sym (rw (itself c) refl))
    by-test false e =
        let back : is_eq (nat_cmp k c) ≡ false = grind (arith, nat_tests) in
        sym (rw e (rw back refl))

-- and so where it is the newest one
pub newest-gone : (now : List (ℕ × List Ticket)) (newest gone : Option ChunkTickets)
    (one : ChunkTickets) (others after : List (ℕ × List Ticket)) → lists_with newest others ≡ now
    → IsApart newest others → newest ≡ Some one → gone ≡ None → after ≡ others
    → (chunk : ℕ) × (one.tickets ≡ waiting_in now chunk)
    × ((k : ℕ) → waiting_in (lists_with gone after) k ≡ waits_with (waiting_in now) chunk [] k)
newest-gone now newest gone one others after view apart is none same-rest =
    let lists : (one.chunk, one.tickets) ∷ others ≡ now = subst (λ n. lists_with n others ≡ now) is view in (
      one.chunk,
      subst (λ l. one.tickets ≡ waiting_in l one.chunk) lists (sym (at-first one.chunk one.tickets others)),
      λ k. subst (λ l. waiting_in (lists_with gone after) k ≡ waits_with (waiting_in l) one.chunk [] k) lists
          (subst (λ g. waiting_in (lists_with g after) k
          ≡ waits_with (waiting_in ((one.chunk, one.tickets) ∷ others)) one.chunk [] k) (sym none)
          (subst (λ a. waiting_in a k
          ≡ waits_with (waiting_in ((one.chunk, one.tickets) ∷ others)) one.chunk [] k) (sym same-rest)
          (first-gone one.chunk one.tickets others (subst (λ n. IsApart n others) is apart) k))),
    )
