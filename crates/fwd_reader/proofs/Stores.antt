-- What a store's calls make of what it holds, from what they make of its parts.
use Rattle.std.proofs.Common.{◌≡◌, ◌++◌, [], ◌∷◌, ℕ, List, Some, Result, Ok, Err, OnOk, inl, inr, refl, sym, subst}
use Rattle.fwd_output.specs.Tickets.{Ticket}
use Rattle.fwd_reader.specs.Stores.{
  AreHeld,
  HandsOver,
  IsKept,
  Looks,
  Stored,
  held_in,
  last_chunk,
  waiting_in,
  waits_with,
  with_ticket,
}

-- what a call did where it is Ok, from what else it did
pub on_ok : {X Y : Type 0} {A B : Type 0} (r : Result X Y) → (A → B) → OnOk r A → OnOk r B
on_ok (Ok x) f a = f a
on_ok (Err e) f a = a

-- a ticket of a request that has a last chunk waits for that
pub kept_at : (s t : Stored) (ticket : Ticket) (chunk : ℕ)
    → last_chunk ticket.spans ≡ Some chunk
    → ((k : ℕ) → waiting_in t.lists k
    ≡ waits_with (waiting_in s.lists) chunk (waiting_in s.lists chunk ++ ticket ∷ []) k)
    → t.due ≡ s.due → t.late ≡ s.late → t.late_due ≡ s.late_due → t.all_due ≡ s.all_due
    → IsKept s ticket t
kept_at s t ticket chunk last waits due late late_due all = record {
  held = subst (λ o. AreHeld (with_ticket (held_in s) ticket o) (held_in t)) (sym last)
      (record { waits = waits; due = due; late = late });
  late_due = late_due;
  all_due = all;
}

-- what is taken off the front of those that are due is handed over
pub handed : (s m t : Stored) (taken : List Ticket)
    → Looks s m → m.due ≡ taken ++ t.due → t.lists ≡ m.lists
    → t.late ≡ m.late → t.late_due ≡ m.late_due → t.all_due ≡ m.all_due
    → (taken ≡ [] → t.due ≡ []) → HandsOver s taken t
handed s m t taken looks first lists late late_due all some = record {
  found = m;
  looks = looks;
  first = first;
  rest = record {
    waits = λ chunk. subst (λ l. waiting_in l chunk ≡ waiting_in m.lists chunk) (sym lists) refl;
    due = refl;
    late = late;
  };
  late_due = late_due;
  all_due = all;
  some = some;
}

-- a look comes to the same whatever room there is
looks_on : (s m : Stored) (room : ℕ) → Looks s m → Looks s (record m { room = room })
looks_on s m room (inl none) = inl (
  record { held = none.0.held; late_due = none.0.late_due; all_due = none.0.all_due },
  none.1,
)
looks_on s m room (inr (inl back)) = inr (inl back)
looks_on s m room (inr (inr all)) = inr (inr all)

-- and so where nothing is handed over behind it
pub kept_due : (s m t : Stored) → Looks s m → t.lists ≡ m.lists → t.due ≡ m.due
    → t.late ≡ m.late → t.late_due ≡ m.late_due → t.all_due ≡ m.all_due → Looks s t
kept_due s m t looks lists due late late_due all =
    subst (Looks s) same (looks_on s m t.room looks)
  where
    same : record m { room = t.room } ≡ t
    same = λ i. record {
      lists = sym lists i;
      due = sym due i;
      late = sym late i;
      late_due = sym late_due i;
      all_due = sym all i;
      room = t.room;
    }
