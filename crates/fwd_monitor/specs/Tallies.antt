-- What the metrics page says of what was counted from the relay's start on. The reasons are the
-- words that the journal has for them.
use Rattle.std.specs.Prelude.{ℕ, Bool, true, false, List, ◌++◌, codes}
use Rattle.std.specs.List.{enumerate_from, flat_map}
use Rattle.std.specs.Fmt.{decimal}
use Rattle.std.specs.Net.Text.{socket_text}
use Rattle.fwd_monitor.specs.Samples.{head_lines_of, output_line, word_line}
use Rattle.fwd_monitor.specs.declared.measure.OutputCount.{OutputCount}
use Rattle.fwd_monitor.specs.declared.measure.OutputCount.TheVariants.{
  WithoutAck,
  AcceptedBytes,
  SettledBytes,
  ChunksRefused,
}
use Rattle.fwd_monitor.specs.declared.measure.ServerMeasure.{ServerMeasure}
use Rattle.fwd_monitor.specs.declared.measure.ServerMeasure.TheVariants.{
  Lost,
  Acknowledged,
  Resent,
  IsLost,
}
use Rattle.fwd_monitor.specs.declared.tally.MemoryRefused.{MemoryRefused}
use Rattle.fwd_monitor.specs.declared.tally.OutputTally.{OutputTally}
use Rattle.fwd_monitor.specs.declared.tally.OverLimit.{OverLimit}
use Rattle.fwd_monitor.specs.declared.tally.RelayTally.{RelayTally}
use Rattle.fwd_monitor.specs.declared.tally.RequestsRefused.{RequestsRefused}
use Rattle.fwd_monitor.specs.declared.tally.ServerTally.{ServerTally}
use Rattle.fwd_monitor.specs.declared.tally.SessionsLost.{SessionsLost}
use Rattle.fwd_monitor.specs.declared.tally.SourcesClosed.{SourcesClosed}

-- ---- samples by a reason, behind a text that ends where the reason begins

-- of requests that were not admitted
unfoldable pub refused_lines : (front : List ℕ) → RequestsRefused → List ℕ
refused_lines front r =
    word_line front (codes "Memory") r.memory
    ++ word_line front (codes "NotNow") r.not_now
    ++ word_line front (codes "Full") r.full
    ++ word_line front (codes "NumbersSpent") r.numbers_spent

-- of sources that were closed
unfoldable pub closed_lines : (front : List ℕ) → SourcesClosed → List ℕ
closed_lines front c =
    word_line front (codes "Reserved") c.reserved
    ++ word_line front (codes "TooDeep") c.too_deep
    ++ word_line front (codes "TooLong") c.too_long
    ++ word_line front (codes "BadShape") c.bad_shape
    ++ word_line front (codes "BadTag") c.bad_tag
    ++ word_line front (codes "BadEntry") c.bad_entry
    ++ word_line front (codes "BadOption") c.bad_option
    ++ word_line front (codes "Compressed") c.compressed
    ++ word_line front (codes "NotPing") c.not_ping
    ++ word_line front (codes "Denied") c.denied
    ++ word_line front (codes "Closed") c.closed
    ++ word_line front (codes "NoRoute") c.no_route
    ++ word_line front (codes "NoLogin") c.no_login
    ++ word_line front (codes "Idle") c.idle
    ++ refused_lines front c.refused

-- of sessions that were lost
unfoldable pub lost_lines : (front : List ℕ) → SessionsLost → List ℕ
lost_lines front l =
    word_line front (codes "Connect") l.connect
    ++ word_line front (codes "Read") l.read
    ++ word_line front (codes "Write") l.write
    ++ word_line front (codes "Descriptors") l.descriptors
    ++ word_line front (codes "Memory") l.memory
    ++ word_line front (codes "Closed") l.closed
    ++ word_line front (codes "BadReply") l.bad_reply
    ++ word_line front (codes "WrongAck") l.wrong_ack
    ++ word_line front (codes "EarlyAck") l.early_ack
    ++ word_line front (codes "NotHelo") l.not_helo
    ++ word_line front (codes "Denied") l.denied
    ++ word_line front (codes "BadDigest") l.bad_digest
    ++ word_line front (codes "Late") l.late

-- ---- what is said of the relay

-- the lines in front of a counter's samples
abbrev pub counter_head : (name help : List ℕ) → List ℕ
counter_head name help = head_lines_of name (codes "counter") help

-- the sources that were closed
abbrev pub closed_text : SourcesClosed → List ℕ
closed_text c =
    counter_head (codes "forward_relay_sources_closed_total")
    (codes "Sources that the relay closed, by why.")
    ++ closed_lines (codes "forward_relay_sources_closed_total{reason=\"") c

-- the samples of connections that were too many
unfoldable pub over_limit_lines : (front : List ℕ) → OverLimit → List ℕ
over_limit_lines front o =
    word_line front (codes "source") o.sources ++ word_line front (codes "monitor") o.monitors

-- the connections that were too many
abbrev pub over_limit_text : OverLimit → List ℕ
over_limit_text o =
    counter_head (codes "forward_relay_over_limit_total")
    (codes "Connections that were closed at once, since they were too many.")
    ++ over_limit_lines (codes "forward_relay_over_limit_total{caller=\"") o

-- the samples of memory that was refused
unfoldable pub memory_lines : (front : List ℕ) → MemoryRefused → List ℕ
memory_lines front m =
    word_line front (codes "source") m.source
    ++ word_line front (codes "monitor") m.monitor
    ++ word_line front (codes "output") m.output
    ++ word_line front (codes "news of workers") m.news
    ++ word_line front (codes "no source is read") m.pause

-- memory that was refused
abbrev pub memory_text : MemoryRefused → List ℕ
memory_text m =
    counter_head (codes "forward_relay_memory_refused_total")
    (codes "Times that memory was refused, by what for.")
    ++ memory_lines (codes "forward_relay_memory_refused_total{what=\"") m

-- ---- what is said of each output

-- the front of an output's samples by a reason
abbrev pub reason_front : (name : List ℕ) → (output : ℕ) → List ℕ
reason_front name output =
    name ++ codes "{output=\"" ++ decimal output ++ codes "\",reason=\""

-- the requests that an output did not admit
abbrev pub refused_samples : (name : List ℕ) → ℕ × OutputTally → List ℕ
refused_samples name (output, t) = refused_lines (reason_front name output) t.refused

-- a counter that says so of each output
unfoldable pub refused : (name help : List ℕ) → List OutputTally → List ℕ
refused name help outputs =
    counter_head name help ++ flat_map (refused_samples name) (enumerate_from 0 outputs)

-- the metric that says so
abbrev pub refused_text : List OutputTally → List ℕ
refused_text outputs =
    refused (codes "forward_relay_requests_refused_total")
    (codes "Requests that an output did not admit, by why.") outputs

-- the name of a counter that each output has
abbrev pub count_name : OutputCount → List ℕ
count_name WithoutAck = codes "forward_relay_accepted_without_ack_entries_total"
count_name AcceptedBytes = codes "forward_relay_accepted_bytes_total"
count_name SettledBytes = codes "forward_relay_settled_bytes_total"
count_name ChunksRefused = codes "forward_relay_chunks_refused_total"

-- what it is
abbrev pub count_help : OutputCount → List ℕ
count_help WithoutAck = codes "Entries accepted of sources that asked for no acknowledgement."
count_help AcceptedBytes = codes "Bytes of the entries ever accepted, as total_limit counts them."
count_help SettledBytes =
    codes "Bytes of the entries acknowledged by the next hop, as total_limit counts them."
count_help ChunksRefused =
    codes "Losses of chunks that a server seems to refuse, as the journal tells them."

-- its value
abbrev pub counted : OutputCount → OutputTally → ℕ
counted WithoutAck t = t.without_ack
counted AcceptedBytes t = t.accepted_bytes
counted SettledBytes t = t.settled_bytes
counted ChunksRefused t = t.chunks_refused

-- its sample of an output
abbrev pub count_line : OutputCount → ℕ × OutputTally → List ℕ
count_line count (output, t) = output_line (count_name count) output (counted count t)

-- the counter, with a sample for each output
unfoldable pub by_count : OutputCount → List OutputTally → List ℕ
by_count count outputs =
    counter_head (count_name count) (count_help count)
    ++ flat_map (count_line count) (enumerate_from 0 outputs)

-- ---- what is said of each server

-- the name of a metric that each server has
abbrev pub server_measure_name : ServerMeasure → List ℕ
server_measure_name Lost = codes "forward_relay_server_sessions_lost_total"
server_measure_name Acknowledged = codes "forward_relay_server_acknowledged_chunks_total"
server_measure_name Resent = codes "forward_relay_server_resent_chunks_total"
server_measure_name IsLost = codes "forward_relay_server_lost"

-- its type
abbrev pub server_measure_kind : ServerMeasure → List ℕ
server_measure_kind IsLost = codes "gauge"
server_measure_kind _ = codes "counter"

-- what it is
abbrev pub server_measure_help : ServerMeasure → List ℕ
server_measure_help Lost = codes "Sessions with the server that were lost, by why."
server_measure_help Acknowledged = codes "Chunks that the server acknowledged."
server_measure_help Resent = codes "Chunks under way in a session that was lost: sent again."
server_measure_help IsLost = codes "1 where the server was lost and acknowledged no chunk since."

-- the metric's name, and the labels of a server but for its address: its output's number, and its
-- place among the servers of that, from 0
abbrev pub place_front : (name : List ℕ) → (output place : ℕ) → List ℕ
place_front name output place =
    name ++ codes "{output=\"" ++ decimal output ++ codes "\",place=\"" ++ decimal place
    ++ codes "\",server=\""

-- the front of a server's samples: its address is behind that
unfoldable pub server_front : (name : List ℕ) → ServerTally → List ℕ
server_front name s =
    place_front name s.output s.place ++ (socket_text s.address ++ codes "\"")

-- a sample behind such a front
unfoldable pub value_line : (front : List ℕ) → ℕ → List ℕ
value_line front value = front ++ codes "} " ++ decimal value ++ codes "\n"

-- samples by a reason behind such a front
unfoldable pub lost_samples : (front : List ℕ) → SessionsLost → List ℕ
lost_samples front l = lost_lines (front ++ codes ",reason=\"") l

-- 1 where something is so, and else 0
abbrev pub flag : Bool → ℕ
flag true = 1
flag false = 0

-- the samples of a server
abbrev pub server_samples : ServerMeasure → ServerTally → List ℕ
server_samples Lost s = lost_samples (server_front (server_measure_name Lost) s) s.lost
server_samples Acknowledged s =
    value_line (server_front (server_measure_name Acknowledged) s) s.acknowledged
server_samples Resent s =
    value_line (server_front (server_measure_name Resent) s) s.resent
server_samples IsLost s =
    value_line (server_front (server_measure_name IsLost) s) (flag s.is_lost)

-- the metric, with the samples of each server
unfoldable pub by_server : ServerMeasure → List ServerTally → List ℕ
by_server measure servers =
    head_lines_of (server_measure_name measure) (server_measure_kind measure)
    (server_measure_help measure)
    ++ flat_map (server_samples measure) servers

-- ---- all of it

-- what was counted of the relay
abbrev pub relay_tally_text : RelayTally → List ℕ
relay_tally_text t = closed_text t.closed ++ over_limit_text t.over_limit ++ memory_text t.memory

-- what was counted of its outputs and their servers
abbrev pub output_tally_text : List OutputTally → List ServerTally → List ℕ
output_tally_text outputs servers =
    refused_text outputs ++ by_count WithoutAck outputs ++ by_count AcceptedBytes outputs
    ++ by_count SettledBytes outputs ++ by_count ChunksRefused outputs ++ by_server Lost servers
    ++ by_server Acknowledged servers ++ by_server Resent servers ++ by_server IsLost servers
