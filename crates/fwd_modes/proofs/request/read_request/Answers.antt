use Rattle.std.proofs.Common.{◌≡◌, ◌∙◌, refl, sym}
use Rattle.std.specs.Prelude.{Some, None, option_and_then}
use Rattle.fwd_msgpack.specs.Scans.{elements_of}
use Rattle.fwd_msgpack.specs.Values.{bytes_of}
use Rattle.fwd_modes.specs.Requests.{request_of, parts_in}
use Rattle.fwd_modes.specs.Requests.Reading.{Fails as fails}
use Rattle.fwd_modes.specs.Readings.{parts_shown, entries_given}
use Rattle.fwd_modes.specs.declared.fault.InputFault.TheVariants.{BadShape}
use Rattle.fwd_modes.proofs.Judgements.{only_bad_entry, no_heartbeat}
use Rattle.fwd_modes.proofs.request.read_request.Goals as goal

pub returns-in_default : goal.returns-in_default
unfolding request_of
returns-in_default c =
    let depth = c.args.limits.depth in
    let bytes = bytes_of c.args.value in
    let none : option_and_then (parts_in depth) (elements_of bytes) ≡ None = sym (c.in_default.ensures depth) in
    let said : request_of depth bytes ≡ fails BadShape = rw (sym c.is_nil.ensures, c.if-is_nil.false, none) refl in
    record {
      value = sym said;
      skipped = λ h. absurd (let e : fails BadShape ≡ _ = sym said ∙ h in cc);
      refused = λ fault other h. let e : fails BadShape ≡ fails fault = sym said ∙ h in cc;
    }

pub returns-in-Err : goal.returns-in-Err
unfolding request_of
returns-in-Err c =
    let depth = c.args.limits.depth in
    let bytes = bytes_of c.args.value in
    let some : option_and_then (parts_in depth) (elements_of bytes) ≡ Some (parts_shown depth c.in-Some.parts) = sym (c.in-Some.ensures depth) in
    let judged = c.in-Err.ensures (entries_given depth c.in-Some.parts.entries) in
    let said : fails c.in-Err.fault ≡ request_of depth bytes = rw (sym c.is_nil.ensures, c.if-is_nil.false, some) judged in
    record {
      value = said;
      skipped = λ h. absurd (let e : fails c.in-Err.fault ≡ _ = said ∙ h in cc);
      refused = λ fault other h. let e : fails c.in-Err.fault ≡ fails fault = said ∙ h in cc;
    }

pub returns-in-Ok-clause-skipped : goal.returns-in-Ok-clause-skipped
unfolding request_of
returns-in-Ok-clause-skipped c = λ h.
    let depth = c.args.limits.depth in
    let bytes = bytes_of c.args.value in
    let some : option_and_then (parts_in depth) (elements_of bytes) ≡ Some (parts_shown depth c.in-Some.parts) = sym (c.in-Some.ensures depth) in
    let judged = c.in-Ok.ensures (entries_given depth c.in-Some.parts.entries) in
    let said : _ ≡ request_of depth bytes = rw (sym c.is_nil.ensures, c.if-is_nil.false, some) judged in
    absurd (no_heartbeat (entries_given depth c.in-Some.parts.entries) c.in-Ok.asked (said ∙ h))

pub returns-in-Ok-clause-refused : goal.returns-in-Ok-clause-refused
unfolding request_of
returns-in-Ok-clause-refused c = λ fault other h.
    let depth = c.args.limits.depth in
    let bytes = bytes_of c.args.value in
    let some : option_and_then (parts_in depth) (elements_of bytes) ≡ Some (parts_shown depth c.in-Some.parts) = sym (c.in-Some.ensures depth) in
    let judged = c.in-Ok.ensures (entries_given depth c.in-Some.parts.entries) in
    let said : _ ≡ request_of depth bytes = rw (sym c.is_nil.ensures, c.if-is_nil.false, some) judged in
    absurd (other (only_bad_entry (entries_given depth c.in-Some.parts.entries) c.in-Ok.asked fault (said ∙ h)))
