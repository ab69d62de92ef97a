-- A request that an output's route admits.
use Rattle.std.proofs.Common.{arith, ◌≡◌, ◌<◌, ◌∙◌, ℕ, zero, suc, List, [], ◌∷◌, ◌++◌, Some, length, get_or, sym, subst, ap}
use Rattle.std.specs.Prelude.{All, slice_set}
use Rattle.std.specs.List.{slice_get}
use Rattle.std.specs.Option.{option_and_then}
use Rattle.std.proofs.lemmas.List.{map-set}
use Rattle.std.proofs.lemmas.List.Elements.{All-cons, All-head, All-nil, All-set, All-tail}
use Rattle.fwd_match.specs.Patterns.{route}
use Rattle.fwd_modes.specs.Requests.{Request}
use Rattle.fwd_modes.specs.declared.origin.Origin.{Origin}
use Rattle.fwd_peers.specs.Costs.{upkeep}
use Rattle.fwd_peers.specs.Peers.{PeerShown, Gives, first_route}
use Rattle.fwd_reader.specs.declared.open_tickets.OpenTickets.{OpenTickets}
use Rattle.fwd_reader.specs.declared.output_route.OutputRoute.{OutputRoute}
use Rattle.fwd_reader.specs.Admissions.{Admits, Enters, KeepsTicketOf}
use Rattle.fwd_reader.specs.Owing.{owes_more}
use Rattle.fwd_reader.specs.Routers.{RouterShown, stores_of}
use Rattle.fwd_reader.specs.Promises.{HoldsRouted}
use Rattle.fwd_reader.proofs.Routed.{open_tickets_keep}

-- the store of the route at a place
pub got : {J : Type 0} (xs : List (OutputRoute J)) (n : ℕ) (x : OutputRoute J) → n < length xs → x ≡ get_or xs n x
    → slice_get (stores_of xs) n ≡ Some x.open_tickets
got [] n x lt is = absurd (omega arith)
got (y ∷ ys) zero x lt is = ap (λ o. Some o.open_tickets) (sym is)
got (y ∷ ys) (suc n) x lt is = got ys n x (omega arith) is

-- the route at a place is another
pub enters : {J : Type 0} (router : List (OutputRoute J)) (number : ℕ) (output_route after : OutputRoute J) (asked : Origin × Request)
    → number < length router → output_route ≡ get_or router number output_route
    → KeepsTicketOf number output_route.open_tickets asked after.open_tickets
    → Enters (stores_of router) number asked (stores_of (slice_set router number after))
enters router number output_route after asked lt is keeps = record {
  store = output_route.open_tickets;
  there = got router number output_route lt is;
  with_ticket = after.open_tickets;
  keeps = keeps;
  others = map-set (λ o. o.open_tickets) router number after;
}

-- and so the first request that waits at a source is admitted
pub admits : (o p : RouterShown) (s t : PeerShown) (number : ℕ) (asked : Origin × Request)
    → Some number ≡ first_route o.routes s → Gives s (Some asked) t
    → Enters o.stores number asked p.stores
    → p.owed ≡ owes_more number (upkeep asked.1.tag asked.1.chunk) o.owed → p.routes ≡ o.routes
    → Admits o s p t
admits o p s t number asked routed gives entered owed routes = record {
  asked = asked;
  given = gives;
  number = number;
  named = sym (routed ∙ ap (option_and_then (λ a. route o.routes a.1.tag)) gives.0);
  entered = entered;
  owed = owed;
  routes = routes;
}

-- the tickets of the route at a place, where each one's are routed
pub at_place : {J : Type 0} (routes : List (List (List ℕ))) (xs : List (OutputRoute J)) (n : ℕ) (x : OutputRoute J)
    → n < length xs → x ≡ get_or xs n x → All (HoldsRouted routes) (stores_of xs)
    → HoldsRouted routes x.open_tickets
at_place routes [] n x lt is all = absurd (omega arith)
at_place routes (y ∷ ys) zero x lt is all =
    subst (λ o. HoldsRouted routes o.open_tickets) (sym is)
    (All-head (HoldsRouted routes) y.open_tickets (stores_of ys) all)
at_place routes (y ∷ ys) (suc n) x lt is all =
    at_place routes ys n x (omega arith) is
    (All-tail (HoldsRouted routes) y.open_tickets (stores_of ys) all)

-- an output's route whose tickets are routed is put there
pub put_place : {J : Type 0} (routes : List (List (List ℕ))) (xs : List (OutputRoute J)) (n : ℕ) (x : OutputRoute J)
    → HoldsRouted routes x.open_tickets → All (HoldsRouted routes) (stores_of xs)
    → All (HoldsRouted routes) (stores_of (slice_set xs n x))
put_place routes xs n x one all =
    subst (All (HoldsRouted routes)) (sym (map-set (λ o. o.open_tickets) xs n x))
    (All-set (HoldsRouted routes) (stores_of xs) n x.open_tickets one all)

-- an output's route with the same tickets is put there
pub same_place : {J : Type 0} (xs : List (OutputRoute J)) (n : ℕ) (x y : OutputRoute J) → n < length xs → x ≡ get_or xs n x
    → y.open_tickets ≡ x.open_tickets → stores_of (slice_set xs n y) ≡ stores_of xs
same_place [] n x y lt is same = absurd (omega arith)
same_place (z ∷ zs) zero x y lt is same =
    ap (λ l. l ∷ stores_of zs) (same ∙ ap (λ o. o.open_tickets) is)
same_place (z ∷ zs) (suc n) x y lt is same =
    ap (λ l. z.open_tickets ∷ l) (same_place zs n x y (omega arith) is same)

-- a ticket of a request is kept, at the output that is named first for its tag
pub keeps_routed : (routes : List (List (List ℕ))) (number : ℕ) (asked : Origin × Request)
    (s t : OpenTickets) → route routes asked.1.tag ≡ Some number → KeepsTicketOf number s asked t
    → HoldsRouted routes s → HoldsRouted routes t
keeps_routed routes number asked s t named keeps all =
    open_tickets_keep routes s t keeps.ticket keeps.kept
    (ap (λ q. route routes q.tag) keeps.batch ∙ named ∙ ap Some (sym keeps.output)) all

-- an output's route more, whose tickets are routed
pub push_place : {J : Type 0} (routes : List (List (List ℕ))) (xs : List (OutputRoute J)) (x : OutputRoute J)
    → HoldsRouted routes x.open_tickets → All (HoldsRouted routes) (stores_of xs)
    → All (HoldsRouted routes) (stores_of (xs ++ x ∷ []))
push_place routes [] x one all =
    All-cons (HoldsRouted routes) x.open_tickets [] one (All-nil (HoldsRouted routes))
push_place routes (y ∷ ys) x one all =
    All-cons (HoldsRouted routes) y.open_tickets (stores_of (ys ++ x ∷ []))
    (All-head (HoldsRouted routes) y.open_tickets (stores_of ys) all)
    (push_place routes ys x one (All-tail (HoldsRouted routes) y.open_tickets (stores_of ys) all))
