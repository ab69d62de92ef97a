-- The metrics page, in Prometheus' text format 0.0.4.
use Rattle.std.specs.Prelude.{
  ℕ,
  ◌/◌,
  ◌==◌,
  ◌&&◌,
  Bool,
  not,
  List,
  [],
  ◌++◌,
  Option,
  Some,
  None,
  take,
  drop,
  map,
  codes,
  if◌then◌else◌,
}
use Rattle.std.specs.List.{count_by, enumerate_from, flat_map, list_any}
use Rattle.std.specs.Fmt.{decimal}
use Rattle.std.specs.Str.{is_utf8}
use Rattle.hex.specs.Hex.{encode_lower}
use Rattle.fwd_base.specs.declared.counts.Counts.{Counts}
use Rattle.fwd_base.specs.declared.report.Report.{Report}
use Rattle.fwd_base.specs.declared.tag_count.TagCount.{TagCount}
use Rattle.fwd_monitor.specs.declared.figures.Figures.{Figures}
use Rattle.fwd_monitor.specs.declared.figures.OutputFigures.{OutputFigures}
use Rattle.fwd_monitor.specs.declared.figures.ProcessFigures.{ProcessFigures}
use Rattle.fwd_monitor.specs.declared.limits.TheConstants.{MAX_TAGS}
use Rattle.fwd_monitor.specs.declared.measure.Measure.{Measure}
use Rattle.fwd_monitor.specs.declared.measure.Measure.TheVariants.{
  Accepted,
  Settled,
  Held,
  HeldBytes,
  Chunks,
}
use Rattle.fwd_monitor.specs.declared.measure.OutputFigure.{OutputFigure}
use Rattle.fwd_monitor.specs.declared.measure.OutputFigure.TheVariants.{
  TotalLimit,
  OldestAge,
  WaitingSources,
  WaitingBytes,
}
use Rattle.fwd_monitor.specs.declared.measure.TagMeasure.{TagMeasure}
use Rattle.fwd_monitor.specs.declared.measure.TagMeasure.TheVariants.{Entries, EntryBytes}
use Rattle.fwd_monitor.specs.declared.tally.RelayTally.{RelayTally}
use Rattle.fwd_monitor.specs.declared.version.TheConstants.{VERSION}
use Rattle.fwd_monitor.specs.Samples.{
  counter,
  escaped,
  gauge,
  gauge_if,
  head_lines_of,
  output_line,
  seconds_if,
  word_line,
}
use Rattle.fwd_monitor.specs.Tallies.{output_tally_text, relay_tally_text}

-- ---- the labels of tags and patterns

-- a text that may stand as it is: UTF-8 without a zero byte, which readers take for the page's end
abbrev pub is_plain : List ℕ → Bool
is_plain tag = is_utf8 tag && not (list_any (λ b. b == 0) tag)

-- a label of this name: in hexadecimal digits, under another name, where it may not stand as it is
abbrev pub text_label : (name : List ℕ) → List ℕ → List ℕ
text_label name text =
    if is_plain text
    then name ++ codes "=\"" ++ escaped text ++ codes "\""
    else name ++ codes "_hex=\"" ++ encode_lower text ++ codes "\""

-- ---- what is said of each output

-- the name of a metric that each output has
abbrev pub measure_name : Measure → List ℕ
measure_name Accepted = codes "forward_relay_accepted_entries_total"
measure_name Settled = codes "forward_relay_settled_entries_total"
measure_name Held = codes "forward_relay_held_entries"
measure_name HeldBytes = codes "forward_relay_held_bytes"
measure_name Chunks = codes "forward_relay_held_chunks"

-- its type
abbrev pub measure_kind : Measure → List ℕ
measure_kind Accepted = codes "counter"
measure_kind Settled = codes "counter"
measure_kind _ = codes "gauge"

-- what it is
abbrev pub measure_help : Measure → List ℕ
measure_help Accepted = codes "Entries ever accepted."
measure_help Settled = codes "Entries acknowledged by the next hop."
measure_help Held = codes "Entries that are not settled."
measure_help HeldBytes = codes "Bytes of the entries that are not settled."
measure_help Chunks = codes "Chunks that have entries that are not settled."

-- its value
abbrev pub measured : Measure → Counts → ℕ
measured Accepted c = c.accepted
measured Settled c = c.settled
measured Held c = c.held
measured HeldBytes c = c.bytes
measured Chunks c = c.chunks

-- its sample of an output
abbrev pub measure_line : Measure → ℕ × Report → List ℕ
measure_line measure (output, r) =
    output_line (measure_name measure) output (measured measure r.counts)

-- the metric, with a sample for each output
unfoldable pub by_output : Measure → List Report → List ℕ
by_output measure reports =
    head_lines_of (measure_name measure) (measure_kind measure) (measure_help measure)
    ++ flat_map (measure_line measure) (enumerate_from 0 reports)

-- ---- what is said of each output beside that

-- the name of a gauge that each output has
abbrev pub figure_name : OutputFigure → List ℕ
figure_name TotalLimit = codes "forward_relay_total_limit_bytes"
figure_name OldestAge = codes "forward_relay_oldest_chunk_age_seconds"
figure_name WaitingSources = codes "forward_relay_waiting_sources"
figure_name WaitingBytes = codes "forward_relay_waiting_bytes"

-- what it is
abbrev pub figure_help : OutputFigure → List ℕ
figure_help TotalLimit = codes "The most bytes of entries that are not settled."
figure_help OldestAge = codes "Seconds since the oldest chunk held was begun, or 0."
figure_help WaitingSources = codes "Sources whose next request waits until it can be taken."
figure_help WaitingBytes = codes "Bytes of the entries of the requests that wait so."

-- its value
abbrev pub figure_of : OutputFigure → OutputFigures → ℕ
figure_of TotalLimit f = f.total_limit
figure_of OldestAge f = f.oldest_age
figure_of WaitingSources f = f.waiting_sources
figure_of WaitingBytes f = f.waiting_bytes

-- its sample of an output
abbrev pub figure_line : OutputFigure → ℕ × OutputFigures → List ℕ
figure_line figure (output, f) = output_line (figure_name figure) output (figure_of figure f)

-- the gauge, with a sample for each output
unfoldable pub by_figure : OutputFigure → List OutputFigures → List ℕ
by_figure figure outputs =
    head_lines_of (figure_name figure) (codes "gauge") (figure_help figure)
    ++ flat_map (figure_line figure) (enumerate_from 0 outputs)

-- ---- which tags each output takes

-- the sample that says so
unfoldable pub info_line : (name : List ℕ) → ℕ × OutputFigures → List ℕ
info_line name (output, f) =
    name ++ codes "{output=\"" ++ decimal output ++ codes "\","
    ++ text_label (codes "match") f.pattern ++ codes "} 1\n"

-- the samples of all outputs
unfoldable pub info_lines : (name : List ℕ) → List OutputFigures → List ℕ
info_lines name outputs = flat_map (info_line name) (enumerate_from 0 outputs)

-- what stands in front of them
abbrev pub info_head : List ℕ
info_head =
    head_lines_of (codes "forward_relay_output_info") (codes "gauge")
    (codes "The match pattern of an output: always 1.")

-- the metric that says so
abbrev pub infos_text : List OutputFigures → List ℕ
infos_text outputs =
    info_head ++ info_lines (codes "forward_relay_output_info") outputs

-- ---- what is said of each tag

-- the name of a metric that each tag has
abbrev pub tag_measure_name : TagMeasure → List ℕ
tag_measure_name Entries = codes "forward_relay_tag_held_entries"
tag_measure_name EntryBytes = codes "forward_relay_tag_held_bytes"

-- what it is
abbrev pub tag_measure_help : TagMeasure → List ℕ
tag_measure_help Entries = codes "Entries of the tag that are not settled."
tag_measure_help EntryBytes = codes "Bytes of the entries of the tag that are not settled."

-- its value
abbrev pub tag_measured : TagMeasure → TagCount → ℕ
tag_measured Entries t = t.held
tag_measured EntryBytes t = t.bytes

-- its sample of a tag of an output
abbrev pub tag_sample : TagMeasure → (output : ℕ) → TagCount → List ℕ
tag_sample measure output t =
    tag_measure_name measure ++ codes "{output=\"" ++ decimal output ++ codes "\","
    ++ text_label (codes "tag") t.tag ++ codes "} " ++ decimal (tag_measured measure t)
    ++ codes "\n"

-- the tags of an output, each with the output's number
abbrev pub tags_of : ℕ × Report → List (ℕ × TagCount)
tags_of output = map (λ t. (output.0, t)) output.1.tags

-- the tags of all outputs, in their order
abbrev pub all_tags : List Report → List (ℕ × TagCount)
all_tags reports = flat_map tags_of (enumerate_from 0 reports)

-- the sample of a tag that has its output's number
abbrev pub sample_of : TagMeasure → ℕ × TagCount → List ℕ
sample_of measure tag = tag_sample measure tag.0 tag.1

-- the metric, with samples of the first `MAX_TAGS` tags
abbrev pub by_tag : TagMeasure → List Report → List ℕ
by_tag measure reports =
    head_lines_of (tag_measure_name measure) (codes "gauge") (tag_measure_help measure)
    ++ flat_map (sample_of measure) (take MAX_TAGS (all_tags reports))

-- how many of these tags are of an output
abbrev pub of_output : (output : ℕ) → List (ℕ × TagCount) → ℕ
of_output output tags = count_by (λ t. t.0 == output) tags

-- the sample of an output: how many of these tags it has
abbrev pub left_out_sample : (name : List ℕ) → List (ℕ × TagCount) → ℕ × Report → List ℕ
left_out_sample name tags output = output_line name output.0 (of_output output.0 tags)

-- a gauge that says how many tags of each output have no samples
unfoldable pub left_out : (name help : List ℕ) → List Report → List ℕ
left_out name help reports =
    head_lines_of name (codes "gauge") help
    ++ flat_map (left_out_sample name (drop MAX_TAGS (all_tags reports))) (enumerate_from 0 reports)

-- the metric that says so
abbrev pub left_out_text : List Report → List ℕ
left_out_text reports =
    left_out (codes "forward_relay_tags_left_out")
    (codes "Tags with entries that are not settled and no samples here.") reports

-- ---- the page

-- the most bytes that each output holds, and how old its oldest chunk is
abbrev pub output_figures_text : List OutputFigures → List ℕ
output_figures_text outputs =
    by_figure TotalLimit outputs ++ by_figure OldestAge outputs
    ++ by_figure WaitingSources outputs ++ by_figure WaitingBytes outputs

-- which version runs
unfoldable pub build_text : List ℕ
build_text =
    head_lines_of (codes "forward_relay_build_info") (codes "gauge")
    (codes "The version that runs: always 1.")
    ++ word_line (codes "forward_relay_build_info{version=\"") VERSION.now 1

-- when the relay started, where the clock of the system told it
abbrev pub start_text : Option ℕ → List ℕ
start_text start =
    gauge_if (codes "forward_relay_start_time_seconds")
    (codes "When the relay started, in seconds since 1970.") start

-- what a gauge says of a flag
abbrev pub flag_value : Bool → ℕ
flag_value flag = if flag then 1 else 0

-- what is known of the relay itself
unfoldable pub known_text : Figures → List ℕ
known_text f =
    start_text f.start
    ++ gauge (codes "forward_relay_uptime_seconds")
    (codes "Whole seconds since the relay started.") (f.uptime / 1000)
    ++ gauge (codes "forward_relay_sources_open")
    (codes "Sources that are connected.") f.sources
    ++ gauge (codes "forward_relay_sources_limit")
    (codes "The most sources at a time.") f.source_limit
    ++ gauge (codes "forward_relay_draining")
    (codes "Whether the relay was asked to stop, and delivers what it holds: 1 or 0.")
    (flag_value f.is_draining)

-- what is said of the process, as other programs say it, where the system told it
unfoldable pub process_text : ProcessFigures → List ℕ
process_text p =
    gauge_if (codes "process_resident_memory_bytes")
    (codes "Memory that the process has, in bytes.") p.resident
    ++ gauge_if (codes "process_open_fds")
    (codes "Files that the process has open.") p.open_files
    ++ gauge_if (codes "process_max_fds")
    (codes "The most files that the process may have open.") p.most_files
    ++ seconds_if (codes "process_cpu_seconds_total") (codes "counter")
    (codes "Processor time of the process, in seconds.") p.processor
    ++ seconds_if (codes "process_start_time_seconds") (codes "gauge")
    (codes "When the process started, in seconds since 1970.") p.start

-- what is said of the relay itself
abbrev pub figures_text : Figures → List ℕ
figures_text f =
    build_text ++ known_text f
    ++ counter (codes "forward_relay_journal_lines_left_out_total")
    (codes "Lines that the journal left out, and events that could not be told.") f.left_out
    ++ process_text f.process

-- what is said of the outputs
abbrev pub outputs_text : List Report → List ℕ
outputs_text reports =
    by_output Accepted reports ++ by_output Settled reports ++ by_output Held reports
    ++ by_output HeldBytes reports ++ by_output Chunks reports

-- its end: which tags each output takes, and what is held of them
unfoldable pub end_text : List OutputFigures → List Report → List ℕ
end_text outputs reports =
    infos_text outputs ++ by_tag Entries reports ++ by_tag EntryBytes reports

-- the page, from what is known of the relay and of its outputs, the reports, and what was counted
-- since the relay started
abbrev pub metrics_of : Figures → List OutputFigures → List Report → RelayTally → List ℕ
metrics_of figures outputs reports tally =
    figures_text figures ++ relay_tally_text tally
    ++ outputs_text reports ++ output_figures_text outputs
    ++ output_tally_text tally.outputs.items tally.servers.items
    ++ left_out_text reports ++ end_text outputs reports
