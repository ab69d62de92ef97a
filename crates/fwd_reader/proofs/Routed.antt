-- That the tickets of an output are of the output that the routes name first for their tags.
use Rattle.std.proofs.Common.{◌≡◌, ◌∙◌, ◌++◌, inl, inr, ℕ, Bool, true, false, List, [], ◌∷◌, Option, Some, None, sym, subst}
use Rattle.std.specs.Prelude.{All, Contains, map, if◌then◌else◌}
use Rattle.std.specs.Ordering.{is_eq, nat_cmp}
use Rattle.std.proofs.lemmas.List.Elements.{All-append, All-cons, All-contains_itself, All-head, All-nil, All-tail, All-push, All-weaker}
use Rattle.std.proofs.lemmas.List.Sorted.{All-permutation}
use Rattle.std.proofs.lemmas.Option.{same_Some}
use Rattle.fwd_history.specs.Histories.{Comes}
use Rattle.fwd_match.specs.Patterns.{route}
use Rattle.fwd_book.specs.History.{BookSetting}
use Rattle.fwd_book.specs.Receipts.{Receipt}
use Rattle.fwd_output.specs.Paged.{AreGivenAfter}
use Rattle.fwd_run.specs.Runs.{RunEvent}
use Rattle.fwd_output.specs.Tickets.{Ticket, IsRight, ticket_of}
use Rattle.fwd_reader.specs.Stores.{Stored, Held, held_in, AreHeld, IsSame, IsKept, IsSettled, FindsLeast, Looks, HandsOver, with_ticket, with_due, none_kept, last_chunk}
use Rattle.fwd_reader.specs.declared.open_tickets.OpenTickets.{OpenTickets}
use Rattle.fwd_reader.specs.OpenTickets.{AreSame, AreAllDue, Keeps}
use Rattle.fwd_reader.specs.Collections.{AreGiven, AreGivenFor, ComeBack, IsHandedIn, IsRefused, AreHandedIn, AreRefused}
use Rattle.fwd_reader.specs.Promises.{IsRouted, AreRouted, HoldsRouted, IsDeliveredTo, IsPromised}
use Rattle.fwd_reader.specs.Tellings.{Sources}

-- of the receipts that an output gives after a history the requests were delivered, where their
-- sources stand
abbrev pub AreDelivered : (past before : List RunEvent) → Sources → List Receipt → Type 0
AreDelivered past before stands rs =
    (setting : BookSetting) → AreGivenAfter before setting rs
    → All (IsDeliveredTo past setting.output stands) rs

module _ (routes : List (List (List ℕ))) where
  abbrev Routed : List Ticket → Type 0
  Routed = All (IsRouted routes)

  -- the two parts of a list
  front : (xs ys : List Ticket) → Routed (xs ++ ys) → Routed xs
  front [] ys all = All-nil (IsRouted routes)
  front (x ∷ xs) ys all = All-cons (IsRouted routes) x xs (All-head (IsRouted routes) x (xs ++ ys) all)
      (front xs ys (All-tail (IsRouted routes) x (xs ++ ys) all))

  back : (xs ys : List Ticket) → Routed (xs ++ ys) → Routed ys
  back [] ys all = all
  back (x ∷ xs) ys all = back xs ys (All-tail (IsRouted routes) x (xs ++ ys) all)

  one_of : (b : Bool) (xs ys : List Ticket) → Routed xs → Routed ys → Routed (if b then xs else ys)
  one_of true xs ys here there = here
  one_of false xs ys here there = there

  -- the same tickets are held
  held : (s t : Held) → AreHeld s t → AreRouted routes s → AreRouted routes t
  held s t same all = record {
    waits = λ chunk. subst Routed (sym (same.waits chunk)) (all.waits chunk);
    due = subst Routed (sym same.due) all.due;
    late = subst Routed (sym same.late) all.late;
  }

  -- a ticket more is held
  one_more : (s : Held) (ticket : Ticket) (chunk : Option ℕ) → IsRouted routes ticket
      → AreRouted routes s → AreRouted routes (with_ticket s ticket chunk)
  one_more s ticket None is all = record {
    waits = all.waits;
    due = All-push (IsRouted routes) s.due ticket all.due is;
    late = all.late;
  }
  one_more s ticket (Some chunk) is all = record {
    waits = λ other. one_of (is_eq (nat_cmp chunk other)) (s.waits chunk ++ ticket ∷ []) (s.waits other)
        (All-push (IsRouted routes) (s.waits chunk) ticket (all.waits chunk) is) (all.waits other);
    due = all.due;
    late = all.late;
  }

  -- who waits for a chunk is due
  moved : (s : Held) (chunk : ℕ) → AreRouted routes s → AreRouted routes (with_due s chunk)
  moved s chunk all = record {
    waits = λ other. one_of (is_eq (nat_cmp chunk other)) [] (s.waits other)
        (All-nil (IsRouted routes)) (all.waits other);
    due = All-append (IsRouted routes) s.due (s.waits chunk) all.due (all.waits chunk);
    late = all.late;
  }

  -- a store that holds none
  none : (t : Stored) → IsSame none_kept t → AreRouted routes (held_in t)
  none t same = held (held_in none_kept) (held_in t) same.held (record {
    waits = λ chunk. All-nil (IsRouted routes);
    due = All-nil (IsRouted routes);
    late = All-nil (IsRouted routes);
  })

  -- a ticket is kept
  kept : (s t : Stored) (ticket : Ticket) → IsKept s ticket t → IsRouted routes ticket
      → AreRouted routes (held_in s) → AreRouted routes (held_in t)
  kept s t ticket keeps is all =
      held (with_ticket (held_in s) ticket (last_chunk ticket.spans)) (held_in t) keeps.held
      (one_more (held_in s) ticket (last_chunk ticket.spans) is all)

  -- a chunk is settled
  settled : (s t : Stored) (chunk : ℕ) → IsSettled s chunk t → AreRouted routes (held_in s)
      → AreRouted routes (held_in t)
  settled s t chunk is all =
      elim is.moved [
        | inl due ↦ held (with_due (held_in s) chunk) (held_in t) due.0 (moved (held_in s) chunk all)
        | inr same ↦ held (held_in s) (held_in t) same.0 all
      ]

  finds : (s t : Stored) → FindsLeast s t → AreRouted routes (held_in s) → AreRouted routes (held_in t)
  finds s t found all =
      elim found [
        | inl some ↦ held (with_due (held_in s) some.2.0) (held_in t) some.2.1
            (moved (held_in s) some.2.0 all)
        | inr none ↦ held (held_in s) (held_in t) none.2 all
      ]

  looks : (s t : Stored) → Looks s t → AreRouted routes (held_in s) → AreRouted routes (held_in t)
  looks s t is all =
      elim is [
        | inl none ↦ held (held_in s) (held_in t) none.0.held all
        | inr (inl late) ↦ held (record (held_in s) { due = s.late; late = [] }) (held_in t) late.2
            (record { waits = all.waits; due = all.late; late = All-nil (IsRouted routes) })
        | inr (inr most) ↦ finds s t most.3 all
      ]

  -- tickets are handed over
  handed : (s t : Stored) (taken : List Ticket) → HandsOver s taken t → AreRouted routes (held_in s)
      → Routed taken × AreRouted routes (held_in t)
  handed s t taken hands all =
      let found : AreRouted routes (held_in hands.found) = looks s hands.found hands.looks all in
      let due : Routed (taken ++ t.due) = subst Routed hands.first found.due in (
        front taken t.due due,
        held (record (held_in hands.found) { due = t.due }) (held_in t) hands.rest
            (record { waits = found.waits; due = back taken t.due due; late = found.late }),
      )

  -- tickets come back
  come_back : (s t : Stored) (tickets : List Ticket) → ComeBack s tickets t → Routed tickets
      → AreRouted routes (held_in s) → AreRouted routes (held_in t)
  come_back s t tickets is come all =
      subst (λ x. AreRouted routes (held_in x)) (sym is) (record {
        waits = all.waits;
        due = all.due;
        late = All-append (IsRouted routes) s.late tickets all.late come;
      })

  -- receipts for tickets that are of the first output for their tags, whose requests were delivered
  -- to that output's next hop, where their sources stand
  promised : (past : List RunEvent) (stands : Sources) (setting own : BookSetting) (rs : List Receipt)
      → Routed (map (ticket_of setting) rs) → All (λ r. IsRight r (ticket_of setting r)) rs
      → Routed (map (ticket_of own) rs) → All (IsDeliveredTo past own.output stands) rs
      → All (IsPromised routes past stands) rs
  promised past stands setting own [] of right of_own given = All-nil (IsPromised routes past stands)
  promised past stands setting own (r ∷ rs) of right of_own given =
      let here : route routes r.tag ≡ Some setting.output =
      All-head (IsRouted routes) (ticket_of setting r) (map (ticket_of setting) rs) of in
      let there : route routes r.tag ≡ Some own.output =
      All-head (IsRouted routes) (ticket_of own r) (map (ticket_of own) rs) of_own in
      All-cons (IsPromised routes past stands) r rs
      (record {
        setting = setting;
        routed = here;
        right = All-head (λ q. IsRight q (ticket_of setting q)) r rs right;
        delivered = subst (λ n. IsDeliveredTo past n stands r)
            (same_Some own.output setting.output (sym there ∙ here))
            (All-head (IsDeliveredTo past own.output stands) r rs given);
      })
      (promised past stands setting own rs
      (All-tail (IsRouted routes) (ticket_of setting r) (map (ticket_of setting) rs) of)
      (All-tail (λ q. IsRight q (ticket_of setting q)) r rs right)
      (All-tail (IsRouted routes) (ticket_of own r) (map (ticket_of own) rs) of_own)
      (All-tail (IsDeliveredTo past own.output stands) r rs given))

  -- tickets of a store are handed in
  handed_in : (s t : Stored) (rs : List Receipt) (is : IsHandedIn s rs t) → AreRouted routes (held_in s)
      → Routed (map (ticket_of is.setting) rs) × AreRouted routes (held_in t)
  handed_in s t rs is all =
      let over : Routed is.taken × AreRouted routes (held_in is.between) = handed s is.between is.taken is.handed all in
      let each : Routed (map (ticket_of is.setting) rs ++ is.back) = All-permutation (IsRouted routes) is.taken
      (map (ticket_of is.setting) rs ++ is.back) is.each over.0 in (
        front (map (ticket_of is.setting) rs) is.back each,
        come_back is.between t is.back is.rest (back (map (ticket_of is.setting) rs) is.back each) over.1,
      )

  -- and an output gives receipts for them
  given_for : (before : List RunEvent) (s : Stored) (rs : List Receipt) (is : AreGivenFor before s rs)
      → AreRouted routes (held_in s) → Routed (map (ticket_of is.setting) rs)
  given_for before s rs is all =
      let over : Routed is.taken × AreRouted routes (held_in is.between) = handed s is.between is.taken is.handed all in
      let each : Routed (map (ticket_of is.setting) rs ++ is.back) = All-permutation (IsRouted routes) is.taken
      (map (ticket_of is.setting) rs ++ is.back) is.each over.0 in
      front (map (ticket_of is.setting) rs) is.back each

  -- where the requests were delivered of what an output gives, these are as promised
  all_promised : (past before : List RunEvent) (stands : Sources) (s t u : Stored) (rs : List Receipt)
      → AreDelivered past before stands rs → IsHandedIn s rs t → AreGivenFor before u rs
      → AreRouted routes (held_in s) → AreRouted routes (held_in u)
      → All (IsPromised routes past stands) rs
  all_promised past before stands s t u rs delivered is given all others =
      promised past stands is.setting given.setting rs (handed_in s t rs is all).0 is.right
      (given_for before u rs given others)
      (delivered given.setting given.given)

  -- memory was refused
  refused : (s t : Stored) → IsRefused s t → AreRouted routes (held_in s) → AreRouted routes (held_in t)
  refused s t is all =
      elim is [
        | inl none ↦ looks s t none all
        | inr some ↦ (
            let u : Stored = some.1.0 in
            let over : Routed some.0 × AreRouted routes (held_in u) = handed s u some.0 some.1.1.0 all in
            subst (λ x. AreRouted routes (held_in x)) (sym some.1.1.1) (record {
              waits = over.1.waits;
              due = over.1.due;
              late = All-append (IsRouted routes) u.late some.0 over.1.late over.0;
            })
            )
      ]

  same_backlog : (s t : Stored) → t ≡ s → AreRouted routes (held_in s) → AreRouted routes (held_in t)
  same_backlog s t is all = subst (λ x. AreRouted routes (held_in x)) (sym is) all

  -- both stores hold none
  pub open_tickets_none : (t : OpenTickets) → IsSame none_kept t.few × IsSame none_kept t.many → HoldsRouted routes t
  open_tickets_none t empty = record { few = none t.few empty.0; many = none t.many empty.1 }

  -- both stores are as they were
  pub open_tickets_same : (s t : OpenTickets) → AreSame s t → HoldsRouted routes s → HoldsRouted routes t
  open_tickets_same s t same all = record {
    few = held (held_in s.few) (held_in t.few) same.0.held all.few;
    many = held (held_in s.many) (held_in t.many) same.1.held all.many;
  }

  -- one of them keeps a ticket
  pub open_tickets_keep : (s t : OpenTickets) (ticket : Ticket) → Keeps s ticket t → IsRouted routes ticket
      → HoldsRouted routes s → HoldsRouted routes t
  open_tickets_keep s t ticket keeps is all =
      elim keeps [
        | inl few ↦ record {
          few = kept s.few t.few ticket few.0 is all.few;
          many = same_backlog s.many t.many few.1 all.many;
        }
        | inr many ↦ record {
          few = same_backlog s.few t.few many.1 all.few;
          many = kept s.many t.many ticket many.0 is all.many;
        }
      ]

  -- tickets of one of them are handed in
  pub open_tickets_handed : (s t : OpenTickets) (rs : List Receipt) → AreHandedIn s rs t → HoldsRouted routes s
      → HoldsRouted routes t
  open_tickets_handed s t rs is all =
      elim is [
        | inl few ↦ record {
          few = (handed_in s.few t.few rs few.0 all.few).1;
          many = same_backlog s.many t.many few.1 all.many;
        }
        | inr many ↦ record {
          few = same_backlog s.few t.few many.1 all.few;
          many = (handed_in s.many t.many rs many.0 all.many).1;
        }
      ]

  -- the receipts for them are as promised
  pub open_tickets_promised : (past before : List RunEvent) (stands : Sources) (s t : OpenTickets)
      (rs : List Receipt) → AreDelivered past before stands rs → AreHandedIn s rs t
      → AreGiven before s rs → HoldsRouted routes s → All (IsPromised routes past stands) rs
  open_tickets_promised past before stands s t rs delivered is given all =
      elim is [
        | inl few ↦ elim given [
          | inl own ↦ all_promised past before stands s.few t.few s.few rs delivered few.0 own all.few all.few
          | inr own ↦ all_promised past before stands s.few t.few s.many rs delivered few.0 own all.few all.many
        ]
        | inr many ↦ elim given [
          | inl own ↦ all_promised past before stands s.many t.many s.few rs delivered many.0 own all.many all.few
          | inr own ↦ all_promised past before stands s.many t.many s.many rs delivered many.0 own all.many all.many
        ]
      ]

  -- memory was refused for one of them
  pub open_tickets_refused : (s t : OpenTickets) → AreRefused s t → HoldsRouted routes s → HoldsRouted routes t
  open_tickets_refused s t is all =
      elim is [
        | inl few ↦ record {
          few = refused s.few t.few few.0 all.few;
          many = same_backlog s.many t.many few.1 all.many;
        }
        | inr many ↦ record {
          few = same_backlog s.few t.few many.1 all.few;
          many = refused s.many t.many many.0 all.many;
        }
      ]

  -- a chunk is settled
  pub open_tickets_settled : (s t : OpenTickets) (chunk : ℕ) → IsSettled s.few chunk t.few
      → IsSettled s.many chunk t.many → HoldsRouted routes s → HoldsRouted routes t
  open_tickets_settled s t chunk few many all = record {
    few = settled s.few t.few chunk few all.few;
    many = settled s.many t.many chunk many all.many;
  }

  late_due : (s t : Stored) → t ≡ record s { late_due = true; all_due = true }
      → AreRouted routes (held_in s) → AreRouted routes (held_in t)
  late_due s t is all = subst (λ x. AreRouted routes (held_in x)) (sym is) all

  -- all tickets are to be handed in
  pub open_tickets_all_due : (s t : OpenTickets) → AreAllDue s t → HoldsRouted routes s → HoldsRouted routes t
  open_tickets_all_due s t is all = record {
    few = late_due s.few t.few is.0 all.few;
    many = late_due s.many t.many is.1 all.many;
  }
