-- Why an output does not admit a request, where its buffer does not take it.
use Rattle.fwd_chunks.specs.declared.fault.AdmitError.{AdmitError}
use Rattle.fwd_chunks.specs.declared.fault.AdmitError.TheVariants as unfit
use Rattle.fwd_book.specs.declared.refusal.AdmitRefusal.{AdmitRefusal}
use Rattle.fwd_book.specs.declared.refusal.AdmitRefusal.TheVariants as refusal

-- a buffer's refusal, as one of an output
abbrev pub refusal_as : AdmitError → AdmitRefusal
refusal_as unfit.Full = refusal.Full
refusal_as unfit.NumbersSpent = refusal.NumbersSpent
refusal_as unfit.Memory = refusal.Memory
