-- The check of settings, by what was read.
use Rattle.std.proofs.Common.{◌≡◌, ◌≢◌, ℕ, List, Result, Ok, Err, Option, Vec, Global, inl, inr, refl, ap, ◌∙◌}
use Rattle.std.specs.Prelude.{IfOk, IfErr, IfSome, OnOk}
use Rattle.std.specs.Io.KnownBytes.{Consumes, IsAtEnd}
use Rattle.fwd_settings.specs.Whole.{settings_of}
use Rattle.fwd_settings.specs.declared.settings.Settings.{Settings}
use Rattle.fwd_settings.specs.declared.fault.SettingsFault.{SettingsFault}
use Rattle.fwd_settings.specs.declared.fault.SettingsFault.TheVariants as faults
use Rattle.fwd_script.specs.Checks.{Checks, TellsGood, verdict_on, unread}
use Rattle.fwd_script.specs.Reads.{Unread, ReadsSome}
use Rattle.fwd_script.specs.Statuses.{refused_status}
use Rattle.fwd_script.specs.declared.input.InputError.{InputError}
use Rattle.fwd_script.specs.declared.input.InputError.TheVariants.{Memory as NoRoom, Failed}
use Rattle.fwd_script.specs.declared.status.Status.{Status}
use Rattle.fwd_script.specs.declared.status.Status.TheVariants.{Done, BadSettings, BadLine, Memory, Input, Output}
use Rattle.fwd_script.proofs.Results.{left_or_none, Keeps-same}

abbrev good : Settings → Result Settings Status
good s = Ok s

abbrev refused : Status → Result Settings Status
refused status = Err status

-- ---- a verdict on the settings that were found

pub verdict_text : (read : Result (Vec ℕ Global) InputError)
    (found : Result Settings SettingsFault) (v : Result Settings Status)
    → v ≡ verdict_on found
    → IfOk read (λ text. found ≢ Err faults.Memory → found ≡ settings_of text.items)
    → IfOk read (λ text. v ≢ refused Memory → v ≡ verdict_on (settings_of text.items))
verdict_text (Ok bytes) found v is text = λ other. is ∙ ap verdict_on (text (λ e. other (is ∙ ap verdict_on e)))
verdict_text (Err error) found v is text = tt

pub verdict_unread : (read : Result (Vec ℕ Global) InputError)
    (found : Result Settings SettingsFault) (v : Result Settings Status)
    → v ≡ verdict_on found → IfErr read (λ error. found ≡ Err (unread error))
    → IfErr read (λ error. v ≡ verdict_on (Err (unread error)))
verdict_unread (Ok bytes) found v is failed = tt
verdict_unread (Err error) found v is failed = is ∙ ap verdict_on failed

-- what stands for good settings is their text's
good_text : (r : Result Settings SettingsFault) (s : Settings) → good s ≡ verdict_on r
    → r ≡ Ok s
good_text (Ok t) s e = cc
good_text (Err fault) s e = absurd cc

tells : (status : Status) (text : List ℕ) (s : Settings) (old new : Option (List ℕ))
    → settings_of text ≡ Ok s → TellsGood status s old new → Checks status text old new
tells Done text s old new e h = (s, e, h)
tells (BadSettings fault) text s old new e h = absurd h
tells (BadLine n) text s old new e h = absurd h
tells Memory text s old new e h = h
tells (Input failed) text s old new e h = absurd h
tells (Output failed) text s old new e h = (s, e, h)

pub told_checks : (read : Result (Vec ℕ Global) InputError) (known : Option (List ℕ))
    (s : Settings) (status : Status) (old new : Option (List ℕ))
    → IfOk read (λ bytes. IfSome known (λ left. bytes.items ≡ left))
    → IfOk read (λ text. good s ≢ refused Memory → good s ≡ verdict_on (settings_of text.items))
    → IfErr read (λ error. good s ≡ verdict_on (Err (unread error)))
    → TellsGood status s old new
    → (text : List ℕ) × IfSome known (λ left. text ≡ left) × Checks status text old new
told_checks (Ok bytes) known s status old new whole text failed tells_good =
    (bytes.items, whole, tells status bytes.items s old new (good_text (settings_of bytes.items) s (text (λ e. absurd cc))) tells_good)
told_checks (Err NoRoom) known s status old new whole text failed tells_good = absurd cc
told_checks (Err (Failed why)) known s status old new whole text failed tells_good = absurd cc

-- a text's own fault, at the status that says it
fault_checks : (r : Result Settings SettingsFault) (text : List ℕ) (status : Status)
    (known : Option (List ℕ)) → settings_of text ≡ r → refused status ≡ verdict_on r
    → Checks status text known known
fault_checks (Ok s) text status known e h = absurd cc
fault_checks (Err fault) text status known e h = by fault status e cc
  where
    by : (fault : SettingsFault) (status : Status) → settings_of text ≡ Err fault
        → status ≡ refused_status fault → Checks status text known known
    by faults.Memory status e h = rw h (Keeps-same known)
    by faults.Unreadable status e h = rw h (inl e, Keeps-same known)
    by faults.NotToml status e h = rw h (inl e, Keeps-same known)
    by (faults.Missing key) status e h = rw h (inl e, Keeps-same known)
    by (faults.WrongKind key) status e h = rw h (inl e, Keeps-same known)
    by (faults.OutOfRange key) status e h = rw h (inl e, Keeps-same known)
    by (faults.Unknown key) status e h = rw h (inl e, Keeps-same known)
    by (faults.BadPattern key) status e h = rw h (inl e, Keeps-same known)

-- a status that is out of memory, or the one that the text's settings are refused with
memory_or : (status : Status) (text : List ℕ) (known : Option (List ℕ))
    → (refused status ≢ refused Memory → refused status ≡ verdict_on (settings_of text))
    → Checks status text known known
memory_or Memory text known h = Keeps-same known
memory_or Done text known h = fault_checks (settings_of text) text Done known refl (h (λ e. absurd cc))
memory_or (BadSettings fault) text known h = fault_checks (settings_of text) text (BadSettings fault) known refl (h (λ e. absurd cc))
memory_or (BadLine n) text known h = fault_checks (settings_of text) text (BadLine n) known refl (h (λ e. absurd cc))
memory_or (Input failed) text known h = fault_checks (settings_of text) text (Input failed) known refl (h (λ e. absurd cc))
memory_or (Output failed) text known h = fault_checks (settings_of text) text (Output failed) known refl (h (λ e. absurd cc))

pub refused_checks : (read : Result (Vec ℕ Global) InputError) (known : Option (List ℕ))
    (status : Status) (old : Option (List ℕ))
    → IfOk read (λ bytes. IfSome known (λ left. bytes.items ≡ left))
    → IfOk read
    (λ text. refused status ≢ refused Memory → refused status ≡ verdict_on (settings_of text.items))
    → IfErr read (λ error. refused status ≡ verdict_on (Err (unread error)))
    → (text : List ℕ) × IfSome known (λ left. text ≡ left) × Checks status text old old
refused_checks (Ok bytes) known status old whole text failed = (bytes.items, whole, memory_or status bytes.items old text)
refused_checks (Err NoRoom) known status old whole text failed =
    let left = left_or_none known in
    let is : status ≡ Memory = cc in
    (left.0, left.1, rw is (Keeps-same old))
refused_checks (Err (Failed why)) known status old whole text failed =
    let left = left_or_none known in
    let is : status ≡ BadSettings faults.Unreadable = cc in
    (left.0, left.1, rw is (inr refl, Keeps-same old))

-- ---- what was read before an answer

-- good settings are those of a text that was read to its end
pub good_reads : (read : Result (Vec ℕ Global) InputError) (s : Settings)
    (old new : Option (List ℕ)) → IfOk read (λ bytes. Consumes old new bytes.items)
    → OnOk read (IsAtEnd new) → IfErr read (λ error. good s ≡ verdict_on (Err (unread error)))
    → ReadsSome old new
good_reads (Ok bytes) s old new taken end failed = (bytes.items, taken, inr end)
good_reads (Err NoRoom) s old new taken end failed = absurd cc
good_reads (Err (Failed why)) s old new taken end failed = absurd cc

-- a read that failed is not out of memory
pub memory_reads : (read : Result (Vec ℕ Global) InputError) (status : Status)
    (old new : Option (List ℕ)) → IfOk read (λ bytes. Consumes old new bytes.items)
    → OnOk read (IsAtEnd new) → IfErr read (λ error. Unread error old new)
    → IfErr read (λ error. refused status ≡ verdict_on (Err (unread error)))
    → status ≡ Memory → ReadsSome old new
memory_reads (Ok bytes) status old new taken end front failed is = (bytes.items, taken, inr end)
memory_reads (Err NoRoom) status old new taken end front failed is = (front.0, front.1, inl front.2)
memory_reads (Err (Failed why)) status old new taken end front failed is = absurd cc
