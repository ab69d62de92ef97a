-- Chunks that are settled, and tickets that are to be handed in for it.
use Rattle.std.proofs.Common.{arith, ◌≡◌, ◌<◌, ◌≤◌, ◌+◌, ◌∙◌, ℕ, zero, suc, List, [], ◌∷◌, length, get_or, drop, map, refl, sym, ap, subst}
use Rattle.std.specs.Prelude.{slice_set}
use Rattle.std.proofs.lemmas.List.{at_drop_more, drop_all, map-set}
use Rattle.fwd_links.specs.declared.mailbox.WorkerNotice.{WorkerNotice}
use Rattle.fwd_reader.specs.declared.open_tickets.OpenTickets.{OpenTickets}
use Rattle.fwd_reader.specs.declared.output_route.OutputRoute.{OutputRoute}
use Rattle.fwd_reader.specs.OpenTickets.{AreAllDue, AreSettled, all_due, due_at}
use Rattle.fwd_reader.specs.Routers.{stores_of}
use Rattle.fwd_reader.specs.Settlements.{HearsAll, HearsOf, SettlesAt, SettlesIn}
use Rattle.fwd_reader.proofs.Admitting.{got}
use Rattle.fwd_reader.proofs.Refusing.{none_there}

-- those of the first so many outputs are to be handed in, all of them
abbrev pub due_to : ℕ → List OpenTickets → List OpenTickets
due_to zero ss = ss
due_to (suc n) [] = []
due_to (suc n) (s ∷ ss) = all_due s ∷ due_to n ss

-- and those of one more
one_more : (n : ℕ) (ss : List OpenTickets) → due_at n (due_to n ss) ≡ due_to (suc n) ss
one_more zero [] = refl
one_more zero (s ∷ ss) = refl
one_more (suc n) [] = refl
one_more (suc n) (s ∷ ss) = ap (λ l. all_due s ∷ l) (one_more n ss)

pub due_more : (n : ℕ) (ss ts : List OpenTickets) → ts ≡ due_to n ss
    → due_at n ts ≡ due_to (n + 1) ss
due_more n ss ts e =
    let next : suc n ≡ n + 1 = omega arith in
    ap (due_at n) e ∙ one_more n ss ∙ ap (λ m. due_to m ss) next

-- and at the end those of each
pub due_whole : (n : ℕ) (ss : List OpenTickets) → length ss ≤ n → due_to n ss ≡ map all_due ss
due_whole zero [] le = refl
due_whole zero (s ∷ ss) le = absurd (omega arith)
due_whole (suc n) [] le = refl
due_whole (suc n) (s ∷ ss) le = ap (λ l. all_due s ∷ l) (due_whole n ss (omega arith))

-- those of the output at a place are
pub due_place : {J : Type 0} (xs : List (OutputRoute J)) (n : ℕ) (x y : OutputRoute J) → n < length xs
    → x ≡ get_or xs n x → AreAllDue x.open_tickets y.open_tickets
    → stores_of (slice_set xs n y) ≡ due_at n (stores_of xs)
due_place [] n x y lt is due = absurd (omega arith)
due_place (z ∷ zs) zero x y lt is due =
    ap (λ o. o ∷ stores_of zs)
    ((λ i. record { few = due.0 i; many = due.1 i }) ∙ ap (λ o. all_due o.open_tickets) is)
due_place (z ∷ zs) (suc n) x y lt is due =
    ap (λ l. z.open_tickets ∷ l) (due_place zs n x y (omega arith) is due)

-- and none where none stands there
pub due_nowhere : {J : Type 0} (xs : List (OutputRoute J)) (n : ℕ) → length xs ≤ n
    → stores_of xs ≡ due_at n (stores_of xs)
due_nowhere [] n le = refl
due_nowhere (x ∷ xs) zero le = absurd (omega arith)
due_nowhere (x ∷ xs) (suc n) le = ap (λ l. x.open_tickets ∷ l) (due_nowhere xs n (omega arith))

-- a chunk of the output at a place is settled
pub settles : {J : Type 0} (xs : List (OutputRoute J)) (n chunk : ℕ) (x y : OutputRoute J) → n < length xs
    → x ≡ get_or xs n x → AreSettled x.open_tickets chunk y.open_tickets
    → SettlesAt (stores_of xs) n chunk (stores_of (slice_set xs n y))
settles xs n chunk x y lt is settled =
    subst (λ o. SettlesIn o (stores_of xs) n chunk (stores_of (slice_set xs n y)))
    (sym (got xs n x lt is))
    (y.open_tickets, (settled, map-set (λ o. o.open_tickets) xs n y))

pub settles_none : {J : Type 0} (xs : List (OutputRoute J)) (n chunk : ℕ) → length xs ≤ n
    → SettlesAt (stores_of xs) n chunk (stores_of xs)
settles_none xs n chunk le =
    subst (λ o. SettlesIn o (stores_of xs) n chunk (stores_of xs)) (sym (none_there xs n le)) refl

-- one more notice is heard
pub heard_next : (notices : List WorkerNotice) (i : ℕ) (one : WorkerNotice)
    (s u t : List OpenTickets) → i < length notices → one ≡ get_or notices i one
    → HearsOf one.output one.event s u → HearsAll (drop (i + 1) notices) u t
    → HearsAll (drop i notices) s t
heard_next notices i one s u t lt is heard more =
    subst (λ ns. HearsAll ns s t) (sym (front ∙ ap (λ x. x ∷ drop (i + 1) notices) (sym is)))
    (u, (heard, more))
  where
    front : drop i notices ≡ get_or notices i one ∷ drop (i + 1) notices
    front = at_drop_more (λ ns. ns) notices i one lt

-- and at the end all are
pub heard_last : (notices : List WorkerNotice) (i : ℕ) (s : List OpenTickets)
    → length notices ≤ i → HearsAll (drop i notices) s s
heard_last notices i s le = subst (λ ns. HearsAll ns s s) (sym (drop_all i notices le)) refl

-- each route has its tickets
pub each_store : {J : Type 0} (xs : List (OutputRoute J)) → length (stores_of xs) ≡ length xs
each_store [] = refl
each_store (x ∷ xs) = ap suc (each_store xs)
