-- Receipts: what shows a source that all entries of its request were acknowledged.
use Rattle.std.specs.Prelude.{
  ◌≡◌,
  ◌+◌,
  ◌≤◌,
  length,
  ℕ,
  not,
  List,
  [],
  ◌∷◌,
  map,
  filter,
  Option,
  Some,
  None,
  slice_get,
}
use Rattle.std.specs.List.{flat_map}
use Rattle.fwd_modes.specs.Acks.{ack_name}
use Rattle.fwd_modes.specs.declared.origin.Origin.{Origin}
use Rattle.fwd_chunks.specs.declared.span.Span.{Span}
use Rattle.fwd_chunks.specs.Spans.{run_in, AreRising}
use Rattle.fwd_session.specs.ServerAcks.{ServerAck}
use Rattle.fwd_book.specs.History.{
  BookSetting,
  Entered,
  name_at,
  is_origin,
  request_at,
  evidence_of,
  is_settled,
}

-- a run of a request's entries in a chunk that was acknowledged: from which entry of it on, and
-- how many
pub record AckedRange : Type 0 where
  pub evidence : ServerAck
  pub from : ℕ
  pub count : ℕ

-- the request's connection and number, its tag, its entries, its `chunk`, and the runs that its
-- entries took
pub record Receipt : Type 0 where
  pub origin : Origin
  pub tag : List ℕ
  pub entries : List (List ℕ)
  pub chunk : Option (List ℕ)
  pub parts : List AckedRange

-- the run that a part is of
abbrev pub span_of : AckedRange → Span
span_of p = record { number = p.evidence.number; from = p.from; count = p.count }

-- the entries that a part shows: they were sent, and acknowledged
abbrev pub shown_by : AckedRange → List (List ℕ)
shown_by p = run_in p.evidence.entries (span_of p)

-- A receipt is right for a request: it has its origin, its tag, its entries and its `chunk`; its
-- parts are the request's runs, in order; these runs of the chunks that were acknowledged, joined,
-- are the request's entries, and each lies within its chunk; the chunks' numbers rise; each chunk
-- has the request's tag; and each reply names its chunk at this output.
pub record IsRightFor (setting : BookSetting) (q : Entered) (r : Receipt) : Type 0 where
  pub origin : r.origin ≡ q.origin
  pub tag : r.tag ≡ q.tag
  pub entries : r.entries ≡ q.entries
  pub chunk : r.chunk ≡ q.chunk
  pub spans : map span_of r.parts ≡ q.spans
  pub shown : flat_map shown_by r.parts ≡ q.entries
  pub within : (i : ℕ) (p : AckedRange) → slice_get r.parts i ≡ Some p
      → p.from + p.count ≤ length p.evidence.entries
  pub rising : AreRising (map (λ p. p.evidence.number) r.parts)
  pub tags : (i : ℕ) (p : AckedRange) → slice_get r.parts i ≡ Some p → p.evidence.tag ≡ q.tag
  pub names : (i : ℕ) (p : AckedRange) → slice_get r.parts i ≡ Some p
      → ack_name p.evidence.reply ≡ Some (name_at setting p.evidence.number)

-- ---- the receipt that a book gives

-- a run with what was acknowledged under its number, if anything was
abbrev pub part_of : Option ServerAck → Span → List AckedRange
part_of None s = []
part_of (Some e) s = record { evidence = e; from = s.from; count = s.count } ∷ []

-- the runs with what was acknowledged under their numbers
abbrev pub parts_of : List ServerAck → List Span → List AckedRange
parts_of settled spans = flat_map (λ s. part_of (evidence_of settled s.number) s) spans

-- the receipt of a request
abbrev pub receipt_of : List ServerAck → Entered → Receipt
receipt_of settled q = record {
  origin = q.origin;
  tag = q.tag;
  entries = q.entries;
  chunk = q.chunk;
  parts = parts_of settled q.spans;
}

-- the receipt of an origin's request, where there is the request and its entries are all
-- acknowledged
abbrev pub receipt_if : List ServerAck → Option Entered → List Receipt
receipt_if settled None = []
receipt_if settled (Some q) = filter (λ r. is_settled settled q) (receipt_of settled q ∷ [])

-- each origin once, where it stands first
abbrev pub once : List Origin → List Origin
once [] = []
once (origin ∷ origins) = origin ∷ filter (λ o. not (is_origin origin o)) (once origins)

-- the receipts of the requests of these origins whose entries are all acknowledged, in the order of
-- the origins, each once
abbrev pub receipts : List ServerAck → List Entered → List Origin → List Receipt
receipts settled qs origins =
    flat_map (λ origin. receipt_if settled (request_at qs origin)) (once origins)
