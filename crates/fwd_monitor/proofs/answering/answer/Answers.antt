use Rattle.std.proofs.Common.{rules}
use Rattle.fwd_monitor.specs.declared.reply.Reply.TheVariants.{Bytes}
use Rattle.fwd_monitor.specs.Replies.{HasReason}
use Rattle.fwd_monitor.proofs.ReplyLemmas.{ready-told, reason-reply}
use Rattle.fwd_monitor.proofs.answering.answer.Goals as goal

pub returns-in_ok-text-in-Some-clause-reply : goal.returns-in_ok-text-in-Some-clause-reply
returns-in_ok-text-in-Some-clause-reply c =
    let heard = c.args.head.now in
    let is_draining = c.args.is_draining in
    let reports = c.args.reports.now in
    let reason : HasReason heard is_draining reports (Bytes c.into_bytes.result) = search rules in
    reason-reply heard is_draining reports (Bytes c.into_bytes.result) reason

pub returns-in_ok-text-in-Some-clause-ready : goal.returns-in_ok-text-in-Some-clause-ready
returns-in_ok-text-in-Some-clause-ready c wants =
    let heard = c.args.head.now in
    let is_draining = c.args.is_draining in
    let reports = c.args.reports.now in
    let reason : HasReason heard is_draining reports (Bytes c.into_bytes.result) = search rules in
    ready-told heard is_draining reports (Bytes c.into_bytes.result)
    (reason-reply heard is_draining reports (Bytes c.into_bytes.result) reason) wants
