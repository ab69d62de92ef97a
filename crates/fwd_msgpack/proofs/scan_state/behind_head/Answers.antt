use Rattle.std.proofs.Common.{arith, sym, ◌∙◌, ◌<◌, ◌≤◌, ◌-◌, refl, add-zero}
use Rattle.fwd_msgpack.specs.Heads.{payload, members}
use Rattle.fwd_msgpack.proofs.Pieces.{found_payload, found_opened, found_ended}
use Rattle.fwd_msgpack.proofs.Places.{sum-cons}
use Rattle.fwd_msgpack.proofs.Torn.{nothing_read}
use Rattle.fwd_msgpack.proofs.Within.{IsGood-from, opens-members}
use Rattle.fwd_msgpack.proofs.scan_state.behind_head.Goals as goal

pub returns-then-payload-gt0 : goal.returns-then-payload-gt0
returns-then-payload-gt0 c =
    let none = sym c.head_fault.ensures ∙ c.in_default.is in
    let good = IsGood-from _ _ _ _ _ none in
    rw c.payload-then-payload-gt0.ensures record {
      state = found_payload _ _ c.args.used c.args.stack.now c.args.head none (omega arith);
      stage = (omega arith, omega (arith, good.fits), refl);
    }

pub overflow_cast-members : goal.overflow_cast-members
overflow_cast-members c =
    let good = IsGood-from _ _ _ _ _ (sym c.head_fault.ensures ∙ c.in_default.is) in
    omega (arith, c.members-then-members-gt0.ensures, good.fits)

pub push-requires-clause-room : goal.push-requires-clause-room
push-requires-clause-room c =
    let good = IsGood-from _ _ _ _ _ (sym c.head_fault.ensures ∙ c.in_default.is) in
    let lt : 0 < members c.args.head = omega (arith, c.members.ensures) in
    omega (arith, good.shallow (opens-members c.args.head lt))

pub returns-then-members-gt0 : goal.returns-then-members-gt0
returns-then-members-gt0 c =
    let none = sym c.head_fault.ensures ∙ c.in_default.is in
    let good = IsGood-from _ _ _ _ _ none in
    let total = sum-cons (members c.args.head - 1) c.args.stack.now in
    let bare : payload c.args.head ≤ 0 = omega arith in
    let lt : 0 < members c.args.head = omega arith in
    rw (add-zero, c.push.ensures, c.members-then-members-gt0.ensures) record {
      state = found_opened _ _ c.args.used c.args.stack.now c.args.head none bare lt;
      stage = (omega (arith, good.fits, total), nothing_read);
    }

pub returns : goal.returns
returns c =
    let none = sym c.head_fault.ensures ∙ c.in_default.is in
    let good = IsGood-from _ _ _ _ _ none in
    record {
      state = c.behind_value.ensures.state c.args.used ∙ found_ended _ _ c.args.used c.args.stack.now c.args.head none (omega arith) (omega arith);
      stage = c.behind_value.ensures.stage c.args.limits.bytes c.args.used (omega (arith, good.fits));
    }
