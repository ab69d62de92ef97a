use Rattle.std.proofs.Common.{rules, ◌≡◌, ◌<◌, ◌++◌, List, ℕ, ◌∷◌, length, drop, ap, subst, sym, ◌∙◌, arith}
use Rattle.std.specs.List.{concat}
use Rattle.fwd_chunks.specs.Rows.{joined, IsBegun, AreLong}
use Rattle.fwd_chunks.proofs.Sending.{IsFilled, filled_more, left_more, rest_row, begun_first}
use Rattle.fwd_chunks.proofs.send_cursor.SendCursor.gather.Goals as goal

pub loop-slice-preserved : goal.loop-slice-preserved
loop-slice-preserved c =
    let all = c.args.self.now in
    let old = c.args.room.now in
    let l = c.loop-slice in
    let row : List (List ℕ) = c.in-Some.slice.now in
    let rows : List (List (List ℕ)) = c.in-Some.slices.now in
    let piece : List ℕ = c.split_at-in-Some.result.1.now in
    let rest : l.rest.now ≡ row ∷ rows = search rules in
    let begun : l.sent < length (concat row) = subst (IsBegun l.sent) rest l.invariant.begun in
    let long : AreLong (row ∷ rows) = subst AreLong rest l.invariant.long in
    let is : piece ≡ drop l.sent (concat row) = c.split_at-in-Some.ensures.back ∙ ap (drop l.sent) (c.bytes.ensures.value ∙ ap concat c.part.ensures.value) in
    let left : drop l.filled all ≡ piece ++ concat (joined rows) =
    l.invariant.behind ∙ ap (λ rs. drop l.sent (concat (joined rs))) rest ∙ rest_row l.sent row rows (omega (arith, begun)) ∙ ap (λ bs. bs ++ concat (joined rows)) (sym is) in
    let more : IsFilled all old c.put-filled.new.room c.put-filled.result =
    filled_more all old l.room l.filled l.invariant.filled piece (concat (joined rows)) left c.put-filled.result c.put-filled.ensures.count c.put-filled.new.room c.put-filled.ensures.bytes in
    let same : length c.put-filled.new.room ≡ length l.room = search rules in
    record {
      filled = more;
      long = long.1;
      begun = begun_first rows long.1;
      behind = left_more all old l.room l.filled l.invariant.filled piece (concat (joined rows)) left c.put-filled.result c.put-filled.ensures.count (omega (arith, c.if-filled-room.false, same, c.put-filled.ensures.count));
    }

full : (c : goal.Then-filled-room)
    → IsFilled c.args.self.now c.args.room.now c.put-filled.new.room c.put-filled.result
full c =
    let all = c.args.self.now in
    let l = c.loop-slice in
    let row : List (List ℕ) = c.in-Some.slice.now in
    let rows : List (List (List ℕ)) = c.in-Some.slices.now in
    let piece : List ℕ = c.split_at-in-Some.result.1.now in
    let rest : l.rest.now ≡ row ∷ rows = search rules in
    let begun : l.sent < length (concat row) = subst (IsBegun l.sent) rest l.invariant.begun in
    let is : piece ≡ drop l.sent (concat row) = c.split_at-in-Some.ensures.back ∙ ap (drop l.sent) (c.bytes.ensures.value ∙ ap concat c.part.ensures.value) in
    let left : drop l.filled all ≡ piece ++ concat (joined rows) =
    l.invariant.behind ∙ ap (λ rs. drop l.sent (concat (joined rs))) rest ∙ rest_row l.sent row rows (omega (arith, begun)) ∙ ap (λ bs. bs ++ concat (joined rows)) (sym is) in
    filled_more all c.args.room.now l.room l.filled l.invariant.filled piece (concat (joined rows)) left c.put-filled.result c.put-filled.ensures.count c.put-filled.new.room c.put-filled.ensures.bytes

pub returns-then-filled-room-clause-count : goal.returns-then-filled-room-clause-count
returns-then-filled-room-clause-count c =
    let more = full c in
    let same : length c.put-filled.new.room ≡ length c.args.room.now = search rules in
    omega (arith, more.whole, c.if-filled-room.true, same)

pub returns-then-filled-room-clause-bytes : goal.returns-then-filled-room-clause-bytes
returns-then-filled-room-clause-bytes c = (full c).is
