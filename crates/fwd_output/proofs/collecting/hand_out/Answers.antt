use Rattle.std.proofs.Common.{arith, ◌≡◌, ◌++◌, ◌∷◌, [], Option, None, true, false, List, length, refl, sym, ap, subst, ◌∙◌}
use Rattle.std.specs.Prelude.{IsSome, is_some, option_to_list, unwrap_or}
use Rattle.std.specs.Vec.Iter.{into_iter_items, into_iter_len, into_iter_steps}
use Rattle.fwd_modes.specs.declared.origin.Origin.{Origin}
use Rattle.fwd_book.specs.History.{request_at}
use Rattle.fwd_book.specs.Live.{LiveBook, live_leaves}
use Rattle.fwd_book.specs.Receipts.{Receipt}
use Rattle.fwd_book.proofs.Facts.{apart}
use Rattle.fwd_book.proofs.Keeping.{leaves-none}
use Rattle.fwd_model.specs.Outputs.{LiveOutput}
use Rattle.fwd_output.specs.Tickets.{Ticket}
use Rattle.fwd_output.proofs.HandingOut.{Giving, giving-none, giving-next, giving-told, giving-back, hands-all, nothing}
use Rattle.fwd_output.proofs.collecting.hand_out.Goals as goal
use Rattle.fwd_output.proofs.collecting.hand_out.Goals.{in_default-unwrap_or-via-in-Some-unwrap_or+else-leave_at, in_default-unwrap_or-via-in_default-unwrap_or}

pub loop-ticket-init : goal.loop-ticket-init
loop-ticket-init c =
    let b = c.args.state.now.book in
    let all = c.args.tickets.items in
    let due = c.args.due.items in
    let none : Giving b all [] all due [] b = giving-none b all due c.requires.due (leaves-none b c.is_sound.ensures.kept) in
    let first : Giving b all c.args.back.items all due c.args.receipts.items b =
    subst (λ bs. Giving b all bs all due c.args.receipts.items b) (sym c.requires.none.1)
    (subst (λ rs. Giving b all [] all due rs b) (sym c.requires.none.0) none) in
    let no_receipts = ap length c.requires.none.0 in
    let none_back = ap length c.requires.none.1 in
    record {
      giving =
          subst (λ us. Giving b all c.args.back.items us (into_iter_items c.into_iter-due.result) c.args.receipts.items b) (sym c.into_iter-rest.ensures.rest)
          (subst (λ ds. Giving b all c.args.back.items all ds c.args.receipts.items b) (sym c.into_iter-due.ensures.rest) first);
      told_room = omega (arith, no_receipts, c.args.receipts.ok.0, c.args.tickets.ok.0, c.into_iter-rest.ensures.len, c.requires.room.0);
      back_room = omega (arith, none_back, c.args.back.ok.0, c.args.tickets.ok.0, c.into_iter-rest.ensures.len, c.requires.room.1);
      others = refl;
    }

pub loop-ticket-preserved-then-leave_at : goal.loop-ticket-preserved-then-leave_at
loop-ticket-preserved-then-leave_at c =
    let b = c.args.state.now.book in
    let all = c.args.tickets.items in
    let so = c.loop-ticket.invariant in
    let t : Ticket = c.in-Some.ticket in
    let now : LiveBook = c.loop-ticket.state.book in
    let first = c.next.ensures.items ∙ ap (λ x. option_to_list x ++ into_iter_items c.next.new.self) c.in-Some.is in
    let Steps : Option (Option Receipt) → Type 0 = λ x. into_iter_steps c.loop-ticket.due x c.next-in-Some.new.self in
    let next = giving-next b all c.loop-ticket.back.items (into_iter_items c.loop-ticket.rest) (into_iter_items c.next.new.self) t
    (into_iter_items c.loop-ticket.due) (into_iter_items c.next-in-Some.new.self) c.next-in-Some.result c.loop-ticket.receipts.items now so.giving first c.next-in-Some.ensures.items
    (λ none. nothing (into_iter_items c.loop-ticket.due) (into_iter_len c.loop-ticket.due) c.loop-ticket.due.rest.ok.0 (subst Steps none c.next-in-Some.ensures.cases).0) in
    let given = subst (λ r. Giving b all c.loop-ticket.back.items (t ∷ into_iter_items c.next.new.self) (r ∷ into_iter_items c.next-in-Some.new.self) c.loop-ticket.receipts.items now)
    (sym c.unwrap_or.ensures ∙ c.in-Some-unwrap_or.is) next in
    let left : c.leave_at.new.self.book ≡ live_leaves now (t.origin ∷ []) =
    ap (λ (o : LiveOutput). o.book) c.leave_at.ensures.left ∙ ap (λ (o : Origin). live_leaves now (o ∷ [])) c.origin.ensures in
    let there : is_some (request_at now.requests t.origin) ≡ true =
    ap (λ (o : Origin). is_some (request_at now.requests o)) (sym c.origin.ensures) ∙ sym c.leave_at.ensures.held ∙ c.if-leave_at.true in
    let told = giving-told b all c.loop-ticket.back.items (into_iter_items c.next.new.self) t (into_iter_items c.next-in-Some.new.self) c.in-Some-unwrap_or.receipt c.loop-ticket.receipts.items now c.leave_at.new.self.book given there left in
    let one = c.next.ensures.len in
    let is_one = ap (λ x. length (option_to_list x)) c.in-Some.is in
    record {
      giving = subst (λ rs. Giving b all c.loop-ticket.back.items (into_iter_items c.next.new.self) (into_iter_items c.next-in-Some.new.self) rs c.leave_at.new.self.book) (sym c.push_reserved.ensures.items) told;
      told_room = omega (arith, one, is_one, so.told_room, c.push_reserved.ensures.len, c.push_reserved.ensures.capacity);
      back_room = omega (arith, one, is_one, so.back_room);
      others =
          c.leave_at.ensures.left
          ∙ ap (λ (o : LiveOutput). record o { book = live_leaves now (c.origin.result ∷ []) }) so.others
          ∙ ap (λ k. record (c.args.state.now) { book = k }) (sym (ap (λ (o : LiveOutput). o.book) c.leave_at.ensures.left));
    }

pub loop-ticket-preserved-in_default-unwrap_or : goal.loop-ticket-preserved-in_default-unwrap_or
loop-ticket-preserved-in_default-unwrap_or c =
    let b = c.args.state.now.book in
    let all = c.args.tickets.items in
    let so = c.loop-ticket.invariant in
    let t : Ticket = c.in-Some.ticket in
    let now : LiveBook = c.loop-ticket.state.book in
    let rest = into_iter_items c.next.new.self in
    let due = into_iter_items c.next-in-Some.new.self in
    let given = c.loop-ticket.receipts.items in
    let r : Option Receipt = unwrap_or c.next-in-Some.result None in
    let first = c.next.ensures.items ∙ ap (λ x. option_to_list x ++ into_iter_items c.next.new.self) c.in-Some.is in
    let Steps : Option (Option Receipt) → Type 0 = λ x. into_iter_steps c.loop-ticket.due x c.next-in-Some.new.self in
    let next = giving-next b all c.loop-ticket.back.items (into_iter_items c.loop-ticket.rest) rest t
    (into_iter_items c.loop-ticket.due) due c.next-in-Some.result given now so.giving first c.next-in-Some.ensures.items
    (λ none. nothing (into_iter_items c.loop-ticket.due) (into_iter_len c.loop-ticket.due) c.loop-ticket.due.rest.ok.0 (subst Steps none c.next-in-Some.ensures.cases).0) in
    let same : ◌≡◌ {A = LiveOutput} c.in_default-unwrap_or.state c.loop-ticket.state = elim c.in_default-unwrap_or.branch [
      | in_default-unwrap_or-via-in-Some-unwrap_or+else-leave_at w ↦ w.state-is ∙ w.leave_at.ensures.same w.if-leave_at.false
      | in_default-unwrap_or-via-in_default-unwrap_or w ↦ w.state-is
    ] in
    let gone : IsSome r → is_some (request_at now.requests t.origin) ≡ false = elim c.in_default-unwrap_or.branch [
      | in_default-unwrap_or-via-in-Some-unwrap_or+else-leave_at w ↦ λ some.
          ap (λ (o : Origin). is_some (request_at now.requests o)) (sym w.origin.ensures) ∙ sym w.leave_at.ensures.held ∙ w.if-leave_at.false
      | in_default-unwrap_or-via-in_default-unwrap_or w ↦ λ some.
          absurd (apart (ap is_some (sym w.in_default-unwrap_or.is ∙ c.unwrap_or.ensures) ∙ some))
    ] in
    let left = giving-back b all c.loop-ticket.back.items rest t due r given now next gone in
    let one = c.next.ensures.len in
    let is_one = ap (λ x. length (option_to_list x)) c.in-Some.is in
    record {
      giving =
          subst (λ (o : LiveOutput). Giving b all c.push_reserved-in_default-unwrap_or.new.self.items rest due given o.book) (sym same)
          (subst (λ bs. Giving b all bs rest due given now) (sym c.push_reserved-in_default-unwrap_or.ensures.items) left);
      told_room = omega (arith, one, is_one, so.told_room);
      back_room = omega (arith, one, is_one, so.back_room, c.push_reserved-in_default-unwrap_or.ensures.len, c.push_reserved-in_default-unwrap_or.ensures.capacity);
      others = same ∙ so.others ∙ ap (λ k. record (c.args.state.now) { book = k }) (sym (ap (λ (o : LiveOutput). o.book) same));
    }

pub loop-ticket-preserved : goal.loop-ticket-preserved
loop-ticket-preserved c =
    let b = c.args.state.now.book in
    let all = c.args.tickets.items in
    let so = c.loop-ticket.invariant in
    let t : Ticket = c.in-Some.ticket in
    let now : LiveBook = c.loop-ticket.state.book in
    let rest = into_iter_items c.next.new.self in
    let due = into_iter_items c.next-in-Some.new.self in
    let given = c.loop-ticket.receipts.items in
    let r : Option Receipt = unwrap_or c.next-in-Some.result None in
    let first = c.next.ensures.items ∙ ap (λ x. option_to_list x ++ into_iter_items c.next.new.self) c.in-Some.is in
    let Steps : Option (Option Receipt) → Type 0 = λ x. into_iter_steps c.loop-ticket.due x c.next-in-Some.new.self in
    let next = giving-next b all c.loop-ticket.back.items (into_iter_items c.loop-ticket.rest) rest t
    (into_iter_items c.loop-ticket.due) due c.next-in-Some.result given now so.giving first c.next-in-Some.ensures.items
    (λ none. nothing (into_iter_items c.loop-ticket.due) (into_iter_len c.loop-ticket.due) c.loop-ticket.due.rest.ok.0 (subst Steps none c.next-in-Some.ensures.cases).0) in
    let same : ◌≡◌ {A = LiveOutput} c.in_default-unwrap_or.state c.loop-ticket.state = elim c.in_default-unwrap_or.branch [
      | in_default-unwrap_or-via-in-Some-unwrap_or+else-leave_at w ↦ w.state-is ∙ w.leave_at.ensures.same w.if-leave_at.false
      | in_default-unwrap_or-via-in_default-unwrap_or w ↦ w.state-is
    ] in
    let gone : IsSome r → is_some (request_at now.requests t.origin) ≡ false = elim c.in_default-unwrap_or.branch [
      | in_default-unwrap_or-via-in-Some-unwrap_or+else-leave_at w ↦ λ some.
          ap (λ (o : Origin). is_some (request_at now.requests o)) (sym w.origin.ensures) ∙ sym w.leave_at.ensures.held ∙ w.if-leave_at.false
      | in_default-unwrap_or-via-in_default-unwrap_or w ↦ λ some.
          absurd (apart (ap is_some (sym w.in_default-unwrap_or.is ∙ c.unwrap_or.ensures) ∙ some))
    ] in
    let left = giving-back b all c.loop-ticket.back.items rest t due r given now next gone in
    let one = c.next.ensures.len in
    let is_one = ap (λ x. length (option_to_list x)) c.in-Some.is in
    record {
      giving =
          subst (λ (o : LiveOutput). Giving b all c.push_reserved-in_default-unwrap_or.new.self.items rest due given o.book) (sym same)
          (subst (λ bs. Giving b all bs rest due given now) (sym c.push_reserved-in_default-unwrap_or.ensures.items) left);
      told_room = omega (arith, one, is_one, so.told_room);
      back_room = omega (arith, one, is_one, so.back_room, c.push_reserved-in_default-unwrap_or.ensures.len, c.push_reserved-in_default-unwrap_or.ensures.capacity);
      others = same ∙ so.others ∙ ap (λ k. record (c.args.state.now) { book = k }) (sym (ap (λ (o : LiveOutput). o.book) same));
    }

pub returns : goal.returns
returns c =
    let o = c.args.state.now in
    let all = c.args.tickets.items in
    let so = c.loop-ticket.invariant in
    let back = c.loop-ticket.back.items in
    let Steps : Option Ticket → Type 0 = λ x. into_iter_steps c.loop-ticket.rest x c.next.new.self in
    let none = nothing (into_iter_items c.loop-ticket.rest) (into_iter_len c.loop-ticket.rest) c.loop-ticket.rest.rest.ok.0 (subst Steps c.in_default.is c.next.ensures.cases).0 in
    let giving = subst (λ us. Giving o.book all back us (into_iter_items c.loop-ticket.due) c.loop-ticket.receipts.items c.loop-ticket.state.book) none so.giving in
    (giving.told, hands-all o.book all giving.told back giving.hands, giving.given_are, so.others ∙ ap (λ k. record o { book = k }) giving.now_is)
