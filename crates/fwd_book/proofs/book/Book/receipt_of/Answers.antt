use Rattle.std.proofs.Common.{◌≡◌, ℕ, cond, Some, List, [], ◌∷◌, sym, ap, ◌∙◌}
use Rattle.std.specs.Prelude.{is_some, option_map}
use Rattle.std.specs.List.{flat_map, list_all}
use Rattle.fwd_chunks.specs.declared.span.Span.{Span}
use Rattle.fwd_book.specs.History.{BookSetting, Entered, is_origin, is_settled, request_at}
use Rattle.fwd_book.specs.Receipts.{AckedRange, shown_by, part_of, parts_of, receipt_of}
use Rattle.fwd_book.specs.Parts.{parts_shown}
use Rattle.fwd_book.specs.Live.{BookState, found_for}
use Rattle.fwd_book.specs.ChunkRefs.{ChunkRef, found_at, live_of}
use Rattle.fwd_book.proofs.Facts.{apart}
use Rattle.fwd_book.proofs.Gathering.{when-all, when-none}
use Rattle.fwd_book.proofs.Keeping.{settled-alike, parts-alike-noted}
use Rattle.fwd_book.proofs.Right.{found_stands, good}
use Rattle.fwd_book.proofs.book.Book.receipt_of.Goals as goal

pub returns-in_err-parts-clause-none : goal.returns-in_err-parts-clause-none
returns-in_err-parts-clause-none c = λ none.
    let notes : List (ℕ × ChunkRef) = c.self.inside.chunk_refs.notes in
    let qs : List Entered = c.self.inside.requests.items in
    let q : Entered = c.args.kept.now in
    let noted : list_all (λ s. is_some (found_at notes s.number)) c.spans.result.now ≡ is_settled (found_for (found_at notes) qs) q =
    ap (list_all (λ s. is_some (found_at notes s.number))) c.spans.ensures ∙ settled-alike notes qs q c.self.invariant.0 in
    let shown : is_settled (found_for (found_at notes) qs) q ≡ is_settled c.args.self.now.live.settled q = ap (λ (s : BookState). is_settled s.live.settled q) c.self.view_is in
    absurd (apart (c.in_err-parts.ensures.none (noted ∙ shown ∙ none)))

pub new-requires : goal.new-requires
new-requires c =
    let notes : List (ℕ × ChunkRef) = c.self.inside.chunk_refs.notes in
    let qs : List Entered = c.self.inside.requests.items in
    let q : Entered = c.args.kept.now in
    let found : Span → List AckedRange = λ s. part_of (found_at notes s.number) s in
    let noted : list_all (λ s. is_some (found_at notes s.number)) c.spans.result.now ≡ is_settled (found_for (found_at notes) qs) q =
    ap (list_all (λ s. is_some (found_at notes s.number))) c.spans.ensures ∙ settled-alike notes qs q c.self.invariant.0 in
    let shown : is_settled (found_for (found_at notes) qs) q ≡ is_settled c.args.self.now.live.settled q = ap (λ (s : BookState). is_settled s.live.settled q) c.self.view_is in
    let there = when-all (list_all (λ s. is_some (found_at notes s.number)) c.spans.result.now) (parts_shown c.in-Some.parts) (flat_map found c.spans.result.now)
    (sym (ap (option_map parts_shown) c.in-Some.is) ∙ c.in_ok-parts.ensures.parts) in
    let parts : parts_shown c.in-Some.parts ≡ parts_of (found_for (found_at notes) qs) q.spans =
    there.1 ∙ ap (flat_map found) c.spans.ensures ∙ parts-alike-noted notes qs q.spans c.self.invariant.0 in
    let setting : BookSetting = record { run = c.self.inside.run; output = c.self.inside.output } in
    let asked : request_at qs c.requires.held.0 ≡ Some q = ap (λ (s : BookState). request_at s.live.requests c.requires.held.0) c.self.view_is ∙ c.requires.held.1 in
    let stands = found_stands (λ r. is_origin c.requires.held.0 r.origin) qs q asked in
    record { shown = ap (flat_map shown_by) parts ∙ (good (live_of setting qs notes) q stands.place c.self.invariant.1 stands.here (sym noted ∙ there.0)).shown }

pub returns-in_err-new-in-Some-clause-none : goal.returns-in_err-new-in-Some-clause-none
returns-in_err-new-in-Some-clause-none c = λ none.
    let notes : List (ℕ × ChunkRef) = c.self.inside.chunk_refs.notes in
    let qs : List Entered = c.self.inside.requests.items in
    let q : Entered = c.args.kept.now in
    let found : Span → List AckedRange = λ s. part_of (found_at notes s.number) s in
    let noted : list_all (λ s. is_some (found_at notes s.number)) c.spans.result.now ≡ is_settled (found_for (found_at notes) qs) q =
    ap (list_all (λ s. is_some (found_at notes s.number))) c.spans.ensures ∙ settled-alike notes qs q c.self.invariant.0 in
    let shown : is_settled (found_for (found_at notes) qs) q ≡ is_settled c.args.self.now.live.settled q = ap (λ (s : BookState). is_settled s.live.settled q) c.self.view_is in
    let there = when-all (list_all (λ s. is_some (found_at notes s.number)) c.spans.result.now) (parts_shown c.in-Some.parts) (flat_map found c.spans.result.now)
    (sym (ap (option_map parts_shown) c.in-Some.is) ∙ c.in_ok-parts.ensures.parts) in
    absurd (apart (sym (noted ∙ shown ∙ none) ∙ there.0))

pub returns-in-None-clause-given : goal.returns-in-None-clause-given
returns-in-None-clause-given c =
    let notes : List (ℕ × ChunkRef) = c.self.inside.chunk_refs.notes in
    let qs : List Entered = c.self.inside.requests.items in
    let q : Entered = c.args.kept.now in
    let found : Span → List AckedRange = λ s. part_of (found_at notes s.number) s in
    let noted : list_all (λ s. is_some (found_at notes s.number)) c.spans.result.now ≡ is_settled (found_for (found_at notes) qs) q =
    ap (list_all (λ s. is_some (found_at notes s.number))) c.spans.ensures ∙ settled-alike notes qs q c.self.invariant.0 in
    let shown : is_settled (found_for (found_at notes) qs) q ≡ is_settled c.args.self.now.live.settled q = ap (λ (s : BookState). is_settled s.live.settled q) c.self.view_is in
    let not = when-none (list_all (λ s. is_some (found_at notes s.number)) c.spans.result.now) (flat_map found c.spans.result.now)
    (sym (ap (option_map parts_shown) c.in-None.is) ∙ c.in_ok-parts.ensures.parts) in
    sym (ap (λ a. cond a (receipt_of c.args.self.now.live.settled q ∷ []) []) (sym (noted ∙ shown) ∙ not))

pub returns-in_ok-new-in-Some-clause-given : goal.returns-in_ok-new-in-Some-clause-given
returns-in_ok-new-in-Some-clause-given c =
    let notes : List (ℕ × ChunkRef) = c.self.inside.chunk_refs.notes in
    let qs : List Entered = c.self.inside.requests.items in
    let q : Entered = c.args.kept.now in
    let found : Span → List AckedRange = λ s. part_of (found_at notes s.number) s in
    let noted : list_all (λ s. is_some (found_at notes s.number)) c.spans.result.now ≡ is_settled (found_for (found_at notes) qs) q =
    ap (list_all (λ s. is_some (found_at notes s.number))) c.spans.ensures ∙ settled-alike notes qs q c.self.invariant.0 in
    let shown : is_settled (found_for (found_at notes) qs) q ≡ is_settled c.args.self.now.live.settled q = ap (λ (s : BookState). is_settled s.live.settled q) c.self.view_is in
    let there = when-all (list_all (λ s. is_some (found_at notes s.number)) c.spans.result.now) (parts_shown c.in-Some.parts) (flat_map found c.spans.result.now)
    (sym (ap (option_map parts_shown) c.in-Some.is) ∙ c.in_ok-parts.ensures.parts) in
    let parts : parts_shown c.in-Some.parts ≡ parts_of (found_for (found_at notes) qs) q.spans =
    there.1 ∙ ap (flat_map found) c.spans.ensures ∙ parts-alike-noted notes qs q.spans c.self.invariant.0 in
    ap (λ r. r ∷ []) c.in_ok-new-in-Some.ensures
    ∙ (λ i. record { origin = q.origin; tag = q.tag; entries = q.entries; chunk = q.chunk; parts = parts i } ∷ [])
    ∙ ap (λ (s : BookState). receipt_of s.live.settled q ∷ []) c.self.view_is
    ∙ sym (ap (λ a. cond a (receipt_of c.args.self.now.live.settled q ∷ []) []) (sym (noted ∙ shown) ∙ there.0))
