-- What was handed over and came back.
use Rattle.std.proofs.Common.{◌≡◌, ◌++◌, List, true, inl, inr, ap, sym, subst}
use Rattle.fwd_output.specs.Tickets.{Ticket}
use Rattle.fwd_reader.specs.Stores.{Stored, HandsOver, Looks}
use Rattle.fwd_reader.specs.Collections.{ComeBack, IsRefused}

-- nothing was handed over
pub none_handed : (s t : Stored) → Looks s t → IsRefused s t
none_handed s t looks = inl looks

-- tickets that came back are to be handed in again
again : (u v : Stored) (taken : List Ticket) → ComeBack u taken v
    → record v { late_due = true }
    ≡ record u { late = u.late ++ taken; late_due = true; room = v.room }
again u v taken back =
    let stirs : Stored → Stored = λ x. record x { late_due = true; room = v.room } in ap stirs back

-- what was handed over came back
pub refused : (s u v t : Stored) (taken : List Ticket) → HandsOver s taken u → ComeBack u taken v
    → t ≡ record v { late_due = true } → IsRefused s t
refused s u v t taken handed back late_due =
    subst (IsRefused s) (sym late_due) (inr (taken, (u, (handed, again u v taken back))))
