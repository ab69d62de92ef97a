-- What is counted of an event, and of what a worker tells: each reason has a count of its own name.
use Rattle.std.specs.Prelude.{ℕ, ◌+◌, ◌-◌, ◌^◌, true, false, max, min}
use Rattle.fwd_modes.specs.declared.fault.InputFault.{InputFault}
use Rattle.fwd_modes.specs.declared.fault.InputFault.TheVariants as input
use Rattle.fwd_monitor.specs.declared.tally.MemoryRefused.{MemoryRefused}
use Rattle.fwd_monitor.specs.declared.tally.OutputTally.{OutputTally}
use Rattle.fwd_monitor.specs.declared.tally.OverLimit.{OverLimit}
use Rattle.fwd_monitor.specs.declared.tally.RequestsRefused.{RequestsRefused}
use Rattle.fwd_monitor.specs.declared.tally.ServerTally.{ServerTally}
use Rattle.fwd_monitor.specs.declared.tally.SessionsLost.{SessionsLost}
use Rattle.fwd_monitor.specs.declared.tally.SourcesClosed.{SourcesClosed}
use Rattle.fwd_msgpack.specs.declared.fault.ScanFault.{ScanFault}
use Rattle.fwd_msgpack.specs.declared.fault.ScanFault.TheVariants as scan
use Rattle.fwd_monitors.specs.declared.observer.ListenerKind.{ListenerKind}
use Rattle.fwd_monitors.specs.declared.observer.ListenerKind.TheVariants as listener
use Rattle.fwd_monitors.specs.declared.observer.JournalEvent.{JournalEvent}
use Rattle.fwd_monitors.specs.declared.observer.JournalEvent.TheVariants.{
  SourceClosed,
  Unrouted,
  OverLimit as TooMany,
  Memory,
}
use Rattle.fwd_monitors.specs.declared.observer.MemoryFor.{MemoryFor}
use Rattle.fwd_monitors.specs.declared.observer.MemoryFor.TheVariants as purpose
use Rattle.fwd_peers.specs.declared.close_reason.CloseReason.{CloseReason}
use Rattle.fwd_peers.specs.declared.close_reason.CloseReason.TheVariants.{
  Fault,
  Refused,
  TooLarge,
  NoRoute,
  NoLogin,
  Idle,
}
use Rattle.fwd_session.specs.declared.fault.SessionFault.{SessionFault}
use Rattle.fwd_session.specs.declared.fault.SessionFault.TheVariants as session
use Rattle.fwd_source.specs.declared.fault.SourceFault.{SourceFault}
use Rattle.fwd_source.specs.declared.fault.SourceFault.TheVariants as source
use Rattle.fwd_environment.specs.declared.link.LinkFault.{LinkFault}
use Rattle.fwd_environment.specs.declared.link.LinkFault.TheVariants as link
use Rattle.fwd_environment.specs.declared.link.LossReason.{LossReason}
use Rattle.fwd_environment.specs.declared.link.LossReason.TheVariants as loss
use Rattle.fwd_environment.specs.declared.link.WorkerEvent.{WorkerEvent}
use Rattle.fwd_environment.specs.declared.link.WorkerEvent.TheVariants as news
use Rattle.fwd_book.specs.declared.refusal.AdmitRefusal.{AdmitRefusal}
use Rattle.fwd_book.specs.declared.refusal.AdmitRefusal.TheVariants as refusal

-- so many more: above 2^64 - 1 a count stands
abbrev pub raised_by : ℕ → ℕ → ℕ
raised_by more n = min (n + more) (2 ^ 64 - 1)

-- one more
abbrev pub raised : ℕ → ℕ
raised n = raised_by 1 n

-- the bytes that are settled of those accepted, where so many are held: no fewer than before
abbrev pub settled_bytes : (accepted held before : ℕ) → ℕ
settled_bytes accepted held before = max (accepted - held) before

-- what is counted of an output that holds so many bytes of those accepted
abbrev pub settled_after : (accepted held : ℕ) → OutputTally → OutputTally
settled_after accepted held t =
    record t { settled_bytes = settled_bytes accepted held t.settled_bytes }

-- a request was not admitted
abbrev pub refused_after : AdmitRefusal → RequestsRefused → RequestsRefused
refused_after refusal.Memory r = record r { memory = raised r.memory }
refused_after refusal.NotNow r = record r { not_now = raised r.not_now }
refused_after refusal.Full r = record r { full = raised r.full }
refused_after refusal.NumbersSpent r = record r { numbers_spent = raised r.numbers_spent }

-- a source's bytes began no value
abbrev pub scanned_after : ScanFault → SourcesClosed → SourcesClosed
scanned_after scan.Reserved c = record c { reserved = raised c.reserved }
scanned_after scan.TooDeep c = record c { too_deep = raised c.too_deep }
scanned_after scan.TooLong c = record c { too_long = raised c.too_long }

-- a value of it was no request
abbrev pub read_after : InputFault → SourcesClosed → SourcesClosed
read_after input.BadShape c = record c { bad_shape = raised c.bad_shape }
read_after input.BadTag c = record c { bad_tag = raised c.bad_tag }
read_after input.BadEntry c = record c { bad_entry = raised c.bad_entry }
read_after input.BadOption c = record c { bad_option = raised c.bad_option }
read_after input.Compressed c = record c { compressed = raised c.compressed }

-- a source had a fault
abbrev pub fault_after : SourceFault → SourcesClosed → SourcesClosed
fault_after (source.Scan fault) c = scanned_after fault c
fault_after (source.Input fault) c = read_after fault c
fault_after source.NotPing c = record c { not_ping = raised c.not_ping }
fault_after source.Denied c = record c { denied = raised c.denied }
fault_after source.Closed c = record c { closed = raised c.closed }

-- a source was closed
abbrev pub end_after : CloseReason → SourcesClosed → SourcesClosed
end_after (Fault fault) c = fault_after fault c
end_after (Refused _ why) c = record c { refused = refused_after why c.refused }
end_after (TooLarge _ _ _) c = record c { refused = refused_after refusal.Full c.refused }
end_after NoRoute c = record c { no_route = raised c.no_route }
end_after NoLogin c = record c { no_login = raised c.no_login }
end_after Idle c = record c { idle = raised c.idle }

-- the sources that were closed, behind an event
abbrev pub closed_after : JournalEvent → SourcesClosed → SourcesClosed
closed_after (SourceClosed _ why) c = end_after why c
closed_after (Unrouted _ _) c = record c { no_route = raised c.no_route }
closed_after _ c = c

-- a connection was one too many
abbrev pub listener_after : ListenerKind → OverLimit → OverLimit
listener_after listener.Source o = record o { sources = raised o.sources }
listener_after listener.Monitor o = record o { monitors = raised o.monitors }

-- the connections that were too many, behind an event
abbrev pub over_limit_after : JournalEvent → OverLimit → OverLimit
over_limit_after (TooMany who _) o = listener_after who o
over_limit_after _ o = o

-- memory was refused
abbrev pub purpose_after : MemoryFor → MemoryRefused → MemoryRefused
purpose_after (purpose.Source _) m = record m { source = raised m.source }
purpose_after purpose.Monitor m = record m { monitor = raised m.monitor }
purpose_after (purpose.Output _) m = record m { output = raised m.output }
purpose_after purpose.News m = record m { news = raised m.news }
purpose_after purpose.Pause m = record m { pause = raised m.pause }

-- the times that memory was refused, behind an event
abbrev pub memory_after : JournalEvent → MemoryRefused → MemoryRefused
memory_after (Memory what) m = purpose_after what m
memory_after _ m = m

-- a session was lost, since its link could not be had, or failed
abbrev pub link_after : LinkFault → SessionsLost → SessionsLost
link_after link.Connect l = record l { connect = raised l.connect }
link_after link.Refused l = record l { connect = raised l.connect }
link_after link.Unanswered l = record l { connect = raised l.connect }
link_after link.Unreachable l = record l { connect = raised l.connect }
link_after link.Read l = record l { read = raised l.read }
link_after link.Write l = record l { write = raised l.write }
link_after link.Descriptors l = record l { descriptors = raised l.descriptors }
link_after link.Memory l = record l { memory = raised l.memory }

-- what the server sent put a session down
abbrev pub down_after : SessionFault → SessionsLost → SessionsLost
down_after session.BadReply l = record l { bad_reply = raised l.bad_reply }
down_after session.WrongAck l = record l { wrong_ack = raised l.wrong_ack }
down_after session.EarlyAck l = record l { early_ack = raised l.early_ack }
down_after session.NotHelo l = record l { not_helo = raised l.not_helo }
down_after session.Denied l = record l { denied = raised l.denied }
down_after session.BadDigest l = record l { bad_digest = raised l.bad_digest }

-- a session was lost
abbrev pub lost_after : LossReason → SessionsLost → SessionsLost
lost_after (loss.Link fault) l = link_after fault l
lost_after loss.Closed l = record l { closed = raised l.closed }
lost_after (loss.Fault fault) l = down_after fault l
lost_after loss.Late l = record l { late = raised l.late }
lost_after loss.Memory l = record l { memory = raised l.memory }

-- a worker told this of a server
abbrev pub server_after : WorkerEvent → ServerTally → ServerTally
server_after (news.Settled _ _) s =
    record s { acknowledged = raised s.acknowledged; is_lost = false }
server_after (news.Lost _ why chunks) s = record s {
  lost = lost_after why s.lost;
  resent = raised_by chunks s.resent;
  is_lost = true;
}
server_after (news.Went _) s = s
