-- A visit to a stream, call by call.
use Rattle.std.proofs.Common.{◌≡◌, ◌≤◌, ◌<◌, ◌+◌, ◌-◌, ◌⊎◌, inl, inr, arith, length-append, ℕ, List, [], ◌∷◌, ◌++◌, length, take, drop, Result, Ok, Err, append-nil, refl, ap, sym, ◌∙◌, append_assoc}
use Rattle.std.proofs.lemmas.Bool.Decides.{nat_tests}
use Rattle.std.proofs.Math.Seq.{take-add, take-append-add}
use Rattle.std.proofs.lemmas.Grind.{flat_map-append}
use Rattle.std.proofs.lemmas.List.{length-take-le, take-append-le, take_rest}
use borrow.Rule.Slice.PartMut.{post_of, put_mid}
use Rattle.std.specs.IoError.{error_kind}
use Rattle.std.specs.declared.io.ErrorKind.{ErrorKind}
use Rattle.std.specs.declared.io.ErrorKind.TheVariants as kind
use Rattle.std.specs.declared.io.Error.{Error}
use Rattle.fwd_peers.specs.declared.peer_stream.Visit.{Visit}
use Rattle.fwd_peers.specs.declared.peer_stream.Visit.TheVariants as visit
use Rattle.fwd_peers.specs.Streams.{StreamCall, IsCall, IsVisit, StopsShort, after_call, after_error, call_of, ends_after, end_of, front_of, moved_by, moved_in}

-- the visit goes on after these calls: each of them moved bytes, or is made again
abbrev pub GoesOn : List StreamCall → Type 0
GoesOn [] = Unit {0}
GoesOn (call ∷ calls) = ((count : ℕ) × (after_call call.answer ≡ Ok count)) × GoesOn calls

-- it did so from these calls on, so many at least, and they moved these bytes in all
pub record IsUnderWay (made : ℕ) (before : List StreamCall) (bytes : List ℕ) (after : List StreamCall) : Type 0 where
  pub calls : List StreamCall
  pub told : after ≡ before ++ calls
  pub moved : bytes ≡ moved_in calls
  pub going : GoesOn calls
  pub enough : made ≤ length calls

-- no answer ends a visit with room left
never_full_after : (what : ErrorKind) → after_error what ≡ Err visit.Full → ⊥
never_full_after kind.WouldBlock same = cc
never_full_after kind.Interrupted same = cc
never_full_after _ same = cc

never_full : (answer : Result ℕ Error) → after_call answer ≡ Err visit.Full → ⊥
never_full (Ok count) same = grind (arith, nat_tests)
never_full (Err error) same = never_full_after (error_kind error) same

-- one call more that moved bytes lets it go on
goes_further : (calls : List StreamCall) (call : StreamCall) (count : ℕ) → GoesOn calls → after_call call.answer ≡ Ok count → GoesOn (calls ++ call ∷ [])
goes_further [] call count going came = ((count, came), tt)
goes_further (c ∷ calls) call count going came = (going.0, goes_further calls call count going.1 came)

-- it ends as the first call that ends it has it
ends_there : (calls : List StreamCall) → GoesOn calls → (more : List StreamCall) → end_of (calls ++ more) ≡ end_of more
ends_there [] going more = refl
ends_there (c ∷ calls) going more = ap (λ r. ends_after r (end_of (calls ++ more))) going.0.1 ∙ ends_there calls going.1 more

-- the calls with one more
told_more : (before middle after calls : List StreamCall) (call : StreamCall) → middle ≡ before ++ calls
    → after ≡ middle ++ call ∷ [] → after ≡ before ++ (calls ++ call ∷ [])
told_more before middle after calls call there further =
    further ∙ ap (λ l. l ++ call ∷ []) there ∙ append_assoc before calls (call ∷ [])

-- the bytes that they moved
moved_more : (calls : List StreamCall) (room : List ℕ) (answer : Result ℕ Error) (what : Result ℕ Visit)
    → what ≡ after_call answer
    → moved_in calls ++ front_of room what ≡ moved_in (calls ++ call_of room answer ∷ [])
moved_more calls room answer what came =
    ap (λ r. moved_in calls ++ front_of room r) came
    ∙ ap (λ b. moved_in calls ++ b) (sym (append-nil (moved_by (call_of room answer))))
    ∙ sym (flat_map-append moved_by calls (call_of room answer ∷ []))

-- no call was made yet
pub none_made : (before : List StreamCall) → IsUnderWay 0 before [] before
none_made before = record { calls = []; told = sym (append-nil before); moved = refl; going = tt; enough = omega arith }

-- one call more moved bytes
pub one_more : (made : ℕ) (before middle after : List StreamCall) (bytes room bytes' : List ℕ) (count : ℕ)
    → IsUnderWay made before bytes middle → IsCall middle room (Ok count) after
    → bytes' ≡ bytes ++ take count room → IsUnderWay (made + 1) before bytes' after
one_more made before middle after bytes room bytes' count way call all = record {
  calls = way.calls ++ call_of room call.answer ∷ [];
  told = told_more before middle after way.calls (call_of room call.answer) way.told call.told;
  moved = all ∙ ap (λ b. b ++ take count room) way.moved ∙ moved_more way.calls room call.answer (Ok count) call.came;
  going = goes_further way.calls (call_of room call.answer) count way.going (sym call.came);
  enough = omega (arith, way.enough, length-append way.calls (call_of room call.answer ∷ []));
}

-- what a call moved that was answered so many bytes
moved_count : (room : List ℕ) (answer : Result ℕ Error) (count : ℕ) → Ok count ≡ after_call answer
    → count ≤ length room → length (moved_by (call_of room answer)) ≡ count
moved_count room answer count came within =
    ap (λ r. length (front_of room r)) (sym came) ∙ length-take-le count room within

-- one call more moved bytes, and did not fill its room
pub stops_short : (made : ℕ) (before middle after : List StreamCall) (bytes room bytes' : List ℕ) (count : ℕ)
    → IsUnderWay made before bytes middle → IsCall middle room (Ok count) after
    → bytes' ≡ bytes ++ take count room → 0 < count → count < length room
    → StopsShort before bytes' after
unfolding one_more
stops_short made before middle after bytes room bytes' count way call all some short =
    let more = one_more made before middle after bytes room bytes' count way call all in
    let size = moved_count room call.answer count call.came (omega (arith, short)) in
    record {
      calls = way.calls;
      last = call_of room call.answer;
      told = more.told;
      moved = more.moved;
      going = ap end_of (sym (append-nil more.calls)) ∙ ends_there more.calls more.going [];
      some = omega (arith, size, some);
      short = omega (arith, size, short);
    }

-- one call more ended the visit
pub ends_so : (most made : ℕ) (before middle after : List StreamCall) (bytes bytes' room : List ℕ) (end : Visit)
    → IsUnderWay made before bytes middle → IsCall middle room (Err end) after → bytes' ≡ bytes
    → IsVisit most before bytes' end after
ends_so most made before middle after bytes bytes' room end way call same = record {
  calls = way.calls ++ call_of room call.answer ∷ [];
  told = told_more before middle after way.calls (call_of room call.answer) way.told call.told;
  moved = same ∙ way.moved ∙ sym (append-nil (moved_in way.calls)) ∙ moved_more way.calls room call.answer (Err end) call.came;
  ended = sym (ends_there way.calls way.going (call_of room call.answer ∷ []) ∙ ap (λ r. ends_after r visit.Full) (sym call.came));
  whole = λ full. absurd (never_full call.answer (sym call.came ∙ ap (λ e. Err e) full));
}

-- no call ended it
pub is_open : (most made : ℕ) (before after : List StreamCall) (bytes : List ℕ)
    → IsUnderWay made before bytes after → (length bytes ≡ most) ⊎ (most ≤ made)
    → IsVisit most before bytes visit.Full after
is_open most made before after bytes way enough = record {
  calls = way.calls;
  told = way.told;
  moved = way.moved;
  ended = sym (ap end_of (sym (append-nil way.calls)) ∙ ends_there way.calls way.going []);
  whole = λ full. elim enough [ inl all ↦ inl all | inr many ↦ inr (omega (arith, many, way.enough)) ];
}

-- a read filled the room's next bytes, and moved so many of them
pub room_filled : (a n k : ℕ) (xs ys : List ℕ) → a ≤ length xs → n ≤ length ys
    → take (a + n) (put_mid a k xs ys) ≡ take a xs ++ take n ys
room_filled a n k xs ys there moved =
    ap (λ m. take (m + n) (put_mid a k xs ys)) (sym (length-take-le a xs there))
    ∙ take-append-add (take a xs) (ys ++ post_of a k xs) n
    ∙ ap (λ z. take a xs ++ z) (take-append-le n ys (post_of a k xs) moved)

-- a write took so many of the next bytes
pub bytes_taken : (a n : ℕ) (xs : List ℕ)
    → take (a + n) xs ≡ take a xs ++ take n (take (length xs - a) (drop a xs))
bytes_taken a n xs = take-add a n xs ∙ ap (λ z. take a xs ++ take n z) (sym (take_rest xs a))
