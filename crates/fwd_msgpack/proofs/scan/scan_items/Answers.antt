use Rattle.std.proofs.Common.{arith, ◌<◌, ◌≤◌, ◌+◌, ◌-◌, sym, ap, ◌∙◌, length, refl}
use Rattle.std.proofs.lemmas.List.{take_rest, length-drop}
use Rattle.fwd_msgpack.specs.Heads.{payload, members}
use Rattle.fwd_msgpack.proofs.Within.{IsGood-from, opens-members, after_value-less}
use Rattle.fwd_msgpack.proofs.Places.{sum-cons}
use Rattle.fwd_msgpack.proofs.Turns.{reading_here, short_here, reserved_here, fault_here, payload_here, opened_here, next_here, whole_here, next_plain, whole_plain}
use Rattle.fwd_msgpack.proofs.scan.scan_items.Goals as goal

pub loop-lacking-init : goal.loop-lacking-init
loop-lacking-init c = record { inside = omega arith; owed = omega arith; fits = omega arith; same = refl }

pub returns-in-Short : goal.returns-in-Short
returns-in-Short c =
    let reads = sym c.in-Short.is ∙ c.read_head.ensures.head in
    let same = c.skip_members-used.ensures.same ∙ c.loop-lacking.invariant.same in
    record {
      state = short_here _ _ c.args.bytes.now c.skip_members-used.result c.skip_members-used.new.stack _ same c.skip_members-used.ensures.inside reads;
      within = (c.skip_members-used.ensures.inside, c.skip_members-used.ensures.fits, reading_here c.args.bytes.now c.skip_members-used.result _ reads);
    }

pub returns-in-Reserved-clause-state : goal.returns-in-Reserved-clause-state
returns-in-Reserved-clause-state c =
    reserved_here _ _ c.args.bytes.now c.skip_members-used.result c.skip_members-used.new.stack _ (c.skip_members-used.ensures.same ∙ c.loop-lacking.invariant.same) (sym c.in-Reserved.is ∙ c.read_head.ensures.head)

pub returns-in-Some-head_fault-clause-state : goal.returns-in-Some-head_fault-clause-state
returns-in-Some-head_fault-clause-state c =
    fault_here _ _ c.args.bytes.now c.skip_members-used.result c.skip_members-used.new.stack _ (c.skip_members-used.ensures.same ∙ c.loop-lacking.invariant.same) c.in-Whole.head c.in-Whole.len
    (sym c.in-Whole.is ∙ c.read_head.ensures.head) c.in-Some-head_fault.fault (sym c.head_fault.ensures ∙ c.in-Some-head_fault.is)

pub returns-then-left-payload : goal.returns-then-left-payload
returns-then-left-payload c =
    let size = c.payload-payload.ensures in
    let head = c.in-Whole.head in
    let used = c.skip_members-used.result + c.in-Whole.len in
    let good = sym c.head_fault.ensures ∙ c.in_default-head_fault.is in
    let fits = (IsGood-from _ _ _ _ _ good).fits in
    let within = c.in-Whole.ensures.within in
    let inside : used ≤ length c.args.bytes.now = omega (arith, within, ap length (take_rest c.args.bytes.now c.skip_members-used.result), length-drop c.skip_members-used.result c.args.bytes.now) in
    let less : length c.args.bytes.now - used < payload head = omega (arith, size) in
    rw size record {
      state = payload_here _ _ c.args.bytes.now c.skip_members-used.result c.skip_members-used.new.stack _ (c.skip_members-used.ensures.same ∙ c.loop-lacking.invariant.same) head c.in-Whole.len (sym c.in-Whole.is ∙ c.read_head.ensures.head) good inside less;
      within = (omega arith, omega (arith, fits));
    }

pub overflow_cast-members : goal.overflow_cast-members
overflow_cast-members c =
    let good = IsGood-from _ _ _ _ _ (sym c.head_fault.ensures ∙ c.in_default-head_fault.is) in
    omega (arith, c.members-then-members-gt0.ensures, good.fits)

pub push-requires-then-members-gt0-clause-room : goal.push-requires-then-members-gt0-clause-room
push-requires-then-members-gt0-clause-room c =
    let good = IsGood-from _ _ _ _ _ (sym c.head_fault.ensures ∙ c.in_default-head_fault.is) in
    let lt : 0 < members c.in-Whole.head = omega (arith, c.members.ensures) in
    omega (arith, good.shallow (opens-members c.in-Whole.head lt))

pub loop-lacking-preserved-then-members-gt0 : goal.loop-lacking-preserved-then-members-gt0
loop-lacking-preserved-then-members-gt0 c =
    let s = c.skip_members-used.new.stack in
    let head = c.in-Whole.head in
    let none = sym c.head_fault.ensures ∙ c.in_default-head_fault.is in
    let good = IsGood-from _ _ _ _ _ none in
    let lt : 0 < members head = omega (arith, c.members.ensures) in
    let size = c.payload-payload.ensures in
    let within = c.in-Whole.ensures.within in
    let le : payload head ≤ length c.args.bytes.now - (c.skip_members-used.result + c.in-Whole.len) = omega (arith, size) in
    let same = opened_here _ _ c.args.bytes.now c.skip_members-used.result s _ (c.skip_members-used.ensures.same ∙ c.loop-lacking.invariant.same) head c.in-Whole.len (sym c.in-Whole.is ∙ c.read_head.ensures.head) none le lt in
    let total = sum-cons (members head - 1) s in
    rw (c.push-then-members-gt0.ensures, size, c.members-then-members-gt0.ensures) record {
      inside = omega (arith, size, within, ap length (take_rest c.args.bytes.now c.skip_members-used.result), length-drop c.skip_members-used.result c.args.bytes.now);
      owed = omega (arith, good.fits);
      fits = omega (arith, good.fits, total);
      same = same;
    }

pub returns-then-not-end_value : goal.returns-then-not-end_value
returns-then-not-end_value c =
    let head = c.in-Whole.head in
    let none = sym c.head_fault.ensures ∙ c.in_default-head_fault.is in
    let good = IsGood-from _ _ _ _ _ none in
    let size = c.payload-payload.ensures in
    let within = c.in-Whole.ensures.within in
    let le : payload head ≤ length c.args.bytes.now - (c.skip_members-used.result + c.in-Whole.len) = omega (arith, size) in
    let shut : members head ≤ 0 = omega (arith, c.members.ensures) in
    rw size record {
      state = whole_here _ _ c.args.bytes.now c.skip_members-used.result c.skip_members-used.new.stack _ (c.skip_members-used.ensures.same ∙ c.loop-lacking.invariant.same) head c.in-Whole.len (sym c.in-Whole.is ∙ c.read_head.ensures.head) none le shut c.if-not-end_value.ensures;
      within = (omega (arith, size, within, ap length (take_rest c.args.bytes.now c.skip_members-used.result), length-drop c.skip_members-used.result c.args.bytes.now), omega (arith, good.fits));
    }

pub loop-lacking-preserved : goal.loop-lacking-preserved
loop-lacking-preserved c =
    let s = c.skip_members-used.new.stack in
    let head = c.in-Whole.head in
    let none = sym c.head_fault.ensures ∙ c.in_default-head_fault.is in
    let size = c.payload-payload.ensures in
    let within = c.in-Whole.ensures.within in
    let le : payload head ≤ length c.args.bytes.now - (c.skip_members-used.result + c.in-Whole.len) = omega (arith, size) in
    let shut : members head ≤ 0 = omega (arith, c.members.ensures) in
    let good = IsGood-from _ _ _ _ _ none in
    let next = c.end_value-else-members-gt0.new.self in
    let less = after_value-less s next c.if-not-end_value.ensures in
    let same = next_here _ _ c.args.bytes.now c.skip_members-used.result s _ (c.skip_members-used.ensures.same ∙ c.loop-lacking.invariant.same) head c.in-Whole.len (sym c.in-Whole.is ∙ c.read_head.ensures.head) none le shut next c.if-not-end_value.ensures in
    rw size record {
      inside = omega (arith, size, within, ap length (take_rest c.args.bytes.now c.skip_members-used.result), length-drop c.skip_members-used.result c.args.bytes.now);
      owed = omega (arith, good.fits, less.owed);
      fits = omega (arith, good.fits, less.owed);
      same = same;
    }

pub returns-in-Some-plain_item : goal.returns-in-Some-plain_item
returns-in-Some-plain_item c =
    let item = c.in-Some-plain_item.ensures in
    let inside : c.skip_members-used.result + c.in-Some-plain_item.size ≤ length c.args.bytes.now = omega (arith, item.fits, c.room_at.ensures.inside) in
    let fits : c.skip_members-used.result + c.in-Some-plain_item.size ≤ c.args.limits.bytes = omega (arith, item.fits, c.room_at.ensures.fits) in
    record {
      state = whole_plain _ _ c.args.bytes.now c.skip_members-used.result c.skip_members-used.new.stack _ (c.skip_members-used.ensures.same ∙ c.loop-lacking.invariant.same) c.in-Some-plain_item.size item.plain inside (omega (arith, item.fits, c.room_at.ensures.fits)) c.if-end_value.ensures;
      within = (inside, fits);
    }

pub loop-lacking-preserved-then-end_value : goal.loop-lacking-preserved-then-end_value
loop-lacking-preserved-then-end_value c =
    let s = c.skip_members-used.new.stack in
    let next = c.end_value.new.self in
    let item = c.in-Some-plain_item.ensures in
    let less = after_value-less s next c.if-end_value.ensures in
    let inside : c.skip_members-used.result + c.in-Some-plain_item.size ≤ length c.args.bytes.now = omega (arith, item.fits, c.room_at.ensures.inside) in
    record {
      inside = inside;
      owed = omega (arith, item.fits, c.room_at.ensures.fits, less.owed);
      fits = omega (arith, item.fits, c.room_at.ensures.fits, less.owed);
      same = next_plain _ _ c.args.bytes.now c.skip_members-used.result s _ (c.skip_members-used.ensures.same ∙ c.loop-lacking.invariant.same) c.in-Some-plain_item.size item.plain inside (omega (arith, item.fits, c.room_at.ensures.fits)) next c.if-end_value.ensures;
    }
