use Rattle.std.proofs.Common.{◌≡◌, ◌++◌, ◌<◌, take, length, arith, length-append}
use Rattle.std.proofs.lemmas.Bool.Decides.{nat_tests}
use Rattle.fwd_script.proofs.Results.{match_err, Consumes-then}
use Rattle.fwd_script.specs.Reads.{Unread}
use Rattle.fwd_script.specs.declared.input.InputError.TheVariants.{Memory}
use Rattle.fwd_script.proofs.input.read_input.Goals as goal

pub returns-in_err-extend_from_slice-in-Some-clause-unread : goal.returns-in_err-extend_from_slice-in-Some-clause-unread
returns-in_err-extend_from_slice-in-Some-clause-unread g c =
    let gave = rw c.in-Some.is at (c.in_ok-read_some.ensures {u = tt}).1 in
    let within = gave.0 in
    let some : 0 < length (c.loop-bytes.bytes.items ++ take c.in-Some.count c.read_some.new.buffer) = grind (arith, nat_tests, length-append c.loop-bytes.bytes.items (take c.in-Some.count c.read_some.new.buffer)) in
    match_err c.from_residual-in_err-extend_from_slice-in-Some.result _ (λ e. e ≡ Memory) (λ e. Unread e (g.R.Read.remaining c.args.reader.now) (g.R.Read.remaining c.read_some.new.reader)) c.from_residual-in_err-extend_from_slice-in-Some.ensures.1
    (λ e same. rw same (c.loop-bytes.bytes.items ++ take c.in-Some.count c.read_some.new.buffer, Consumes-then _ _ _ _ _ c.loop-bytes.invariant.0 gave.1, some))
