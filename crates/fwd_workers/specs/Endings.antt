-- Why a worker's session ends, and what that counts as.
use Rattle.std.specs.Prelude.{ℕ, ◌==◌, Bool, true, false, Option, Some, None, if◌then◌else◌}
use Rattle.fwd_output.specs.EndKind.{EndKind}
use Rattle.fwd_output.specs.EndKind.TheVariants as end
use Rattle.fwd_workers.specs.declared.ending.EndReason.{EndReason}
use Rattle.fwd_workers.specs.declared.ending.EndReason.TheVariants as ending
use Rattle.fwd_workers.specs.declared.ending.NoSession.{NoSession}
use Rattle.fwd_workers.specs.declared.ending.NoSession.TheVariants as unmet
use Rattle.fwd_environment.specs.declared.link.LinkFault.{LinkFault}
use Rattle.fwd_environment.specs.declared.link.LinkFault.TheVariants as link
use Rattle.fwd_environment.specs.declared.link.LossReason.{LossReason}
use Rattle.fwd_environment.specs.declared.link.LossReason.TheVariants as loss
use Rattle.fwd_environment.specs.declared.link.WorkerEvent.{WorkerEvent}
use Rattle.fwd_environment.specs.declared.link.WorkerEvent.TheVariants as event
use Rattle.fwd_workers.specs.declared.serve.Served.{Served}
use Rattle.fwd_workers.specs.declared.serve.Served.TheVariants as served

-- why the server is lost after a turn, if it is: a fault put the session down, the link was closed
-- or failed, or memory was refused
abbrev pub loss_in : Served → Option LossReason
loss_in served.Quiet = None
loss_in served.Ready = None
loss_in served.Acked = None
loss_in (served.Down fault) = Some (loss.Fault fault)
loss_in served.Closed = Some loss.Closed
loss_in (served.Failed fault) = Some (loss.Link fault)
loss_in served.Memory = Some loss.Memory

-- The session is said to be lost where its link failed or was closed, and where memory was refused
-- in a turn. Where the server is at fault, or late, and where the link is spent, the session itself
-- shows what was owed.
abbrev pub kind_of : EndReason → EndKind
kind_of ending.Spent = end.Kept
kind_of ending.Left = end.Kept
kind_of (ending.Lost (loss.Link fault)) = end.Lost
kind_of (ending.Lost loss.Closed) = end.Lost
kind_of (ending.Lost loss.Memory) = end.Lost
kind_of (ending.Lost (loss.Fault fault)) = end.Kept
kind_of (ending.Lost loss.Late) = end.Kept

-- why a session without a chunk ends: a server that closes its side behind the handshake owes
-- nothing, and is not lost
abbrev pub idle_ending : EndReason → (is_greeted : Bool) → EndReason
idle_ending (ending.Lost loss.Closed) true = ending.Left
idle_ending (ending.Lost loss.Closed) false = ending.Lost loss.Closed
idle_ending (ending.Lost (loss.Link fault)) is_greeted = ending.Lost (loss.Link fault)
idle_ending (ending.Lost loss.Memory) is_greeted = ending.Lost loss.Memory
idle_ending (ending.Lost (loss.Fault fault)) is_greeted = ending.Lost (loss.Fault fault)
idle_ending (ending.Lost loss.Late) is_greeted = ending.Lost loss.Late
idle_ending ending.Spent is_greeted = ending.Spent
idle_ending ending.Left is_greeted = ending.Left

-- what is said of a session whose worker ends, and which may be to end itself
abbrev pub kind_in : Option EndReason → EndKind
kind_in None = end.Kept
kind_in (Some why) = kind_of why

-- what is told of a session's end where so many of its chunks are not acknowledged: that its server
-- is lost, why, and how many these are, if it is
abbrev pub news_of : EndReason → (server chunks : ℕ) → Option WorkerEvent
news_of ending.Spent server chunks = None
news_of ending.Left server chunks = None
news_of (ending.Lost why) server chunks = Some (event.Lost server why chunks)

-- why no session began where no link could be had: want of memory is no fault of a link
abbrev pub unmet_of : LinkFault → NoSession
unmet_of link.Connect = unmet.Link link.Connect
unmet_of link.Read = unmet.Link link.Read
unmet_of link.Write = unmet.Link link.Write
unmet_of link.Descriptors = unmet.Link link.Descriptors
unmet_of link.Memory = unmet.Memory
unmet_of link.Refused = unmet.Link link.Refused
unmet_of link.Unanswered = unmet.Link link.Unanswered
unmet_of link.Unreachable = unmet.Link link.Unreachable

-- where no session began: the server is lost where no link to it could be had, and no server is
-- where memory was refused
abbrev pub blamed : NoSession → (server : ℕ) → Option ℕ
blamed (unmet.Link fault) server = Some server
blamed unmet.Memory server = None
blamed unmet.Unknown server = None

-- what is told of that: a session with that server could not be had, and why; it had no chunk
abbrev pub unmet_news : NoSession → (server : ℕ) → Option WorkerEvent
unmet_news (unmet.Link fault) server = Some (event.Lost server (loss.Link fault) 0)
unmet_news unmet.Memory server = Some (event.Lost server loss.Memory 0)
unmet_news unmet.Unknown server = None

-- what is told where a chunk is loaded: the server that it goes to, where the worker's last one
-- went to another
abbrev pub went_of : (last : Option ℕ) → (server : ℕ) → Option WorkerEvent
went_of None server = None
went_of (Some last) server = if last == server then None else Some (event.Went server)
