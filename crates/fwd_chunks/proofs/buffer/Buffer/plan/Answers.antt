use Rattle.std.proofs.Common.{◌≡◌, length, take, drop, sym, ap, ◌∙◌, arith}
use Rattle.std.specs.Prelude.{find, option_map}
use Rattle.fwd_chunks.specs.declared.chunk.Chunk.{Chunk}
use Rattle.fwd_chunks.specs.Live.{LiveBuffer, is_open_of}
use Rattle.fwd_chunks.specs.Filling.{fitting, needed, joining_to}
use Rattle.fwd_chunks.specs.Parts.{entries_in}
use Rattle.fwd_chunks.proofs.Admission.{joining-within}
use Rattle.fwd_chunks.proofs.buffer.Buffer.plan.Goals as goal
use Rattle.fwd_chunks.proofs.buffer.Buffer.plan.Goals.{in-None, in-Some}

pub split_at-requires : goal.split_at-requires
split_at-requires c =
    let r = c.args.batch.now in
    let found : option_map (λ p. p.0.now) c.open_of.result ≡ find (is_open_of c.args.batch.now.tag) c.args.self.now.chunks = c.open_of.ensures ∙ ap (λ t. find (is_open_of t) c.args.self.now.chunks) c.tag.ensures.value in
    let joins : c.match-open_of.joins.2 ≡ joining_to c.self.inside.limits.chunk (find (is_open_of c.args.batch.now.tag) c.args.self.now.chunks) c.args.batch.now.entries = elim c.match-open_of.branch [
      | in-None w ↦ ap (λ x. x.2) w.joins-is ∙ ap (λ o. joining_to c.self.inside.limits.chunk o r.entries) (sym (ap (option_map (λ p. p.0.now)) w.in-None.is) ∙ found)
      | in-Some w ↦ ap (λ x. x.2) w.joins-is ∙ w.fitting-count.ensures ∙ (λ i. fitting (c.from-limit.ensures i) (w.size.ensures.value i) (c.whole-part.ensures.value i))
          ∙ ap (λ o. joining_to c.self.inside.limits.chunk o r.entries) (sym (ap (option_map (λ p. p.0.now)) w.in-Some.is) ∙ found)
    ] in
    omega (arith, joins, joining-within c.self.inside.limits.chunk (find (is_open_of r.tag) c.args.self.now.chunks) r.entries, ap length c.whole-part.ensures.value)

pub returns : goal.returns
returns c =
    let r = c.args.batch.now in
    let found : option_map (λ p. p.0.now) c.open_of.result ≡ find (is_open_of c.args.batch.now.tag) c.args.self.now.chunks = c.open_of.ensures ∙ ap (λ t. find (is_open_of t) c.args.self.now.chunks) c.tag.ensures.value in
    let joins : c.match-open_of.joins.2 ≡ joining_to c.self.inside.limits.chunk (find (is_open_of c.args.batch.now.tag) c.args.self.now.chunks) c.args.batch.now.entries = elim c.match-open_of.branch [
      | in-None w ↦ ap (λ x. x.2) w.joins-is ∙ ap (λ o. joining_to c.self.inside.limits.chunk o r.entries) (sym (ap (option_map (λ p. p.0.now)) w.in-None.is) ∙ found)
      | in-Some w ↦ ap (λ x. x.2) w.joins-is ∙ w.fitting-count.ensures ∙ (λ i. fitting (c.from-limit.ensures i) (w.size.ensures.value i) (c.whole-part.ensures.value i))
          ∙ ap (λ o. joining_to c.self.inside.limits.chunk o r.entries) (sym (ap (option_map (λ p. p.0.now)) w.in-Some.is) ∙ found)
    ] in
    let limit : c.self.inside.limits.chunk ≡ c.args.self.now.setting.limits.chunk = ap (λ (b : LiveBuffer). b.setting.limits.chunk) c.self.view_is in
    let number : c.match-open_of.joins.0 ≡ option_map (λ (d : Chunk). d.number) (find (is_open_of c.args.batch.now.tag) c.args.self.now.chunks) = elim c.match-open_of.branch [
      | in-None w ↦ ap (λ x. x.0) w.joins-is ∙ ap (option_map (λ (d : Chunk). d.number)) (sym (ap (option_map (λ p. p.0.now)) w.in-None.is) ∙ found)
      | in-Some w ↦ ap (λ x. x.0) w.joins-is ∙ ap (option_map (λ (d : Chunk). d.number)) (sym (ap (option_map (λ p. p.0.now)) w.in-Some.is) ∙ found)
    ] in
    record {
      joins = number;
      front = c.split_at.ensures.front ∙ (λ i. take ((joins ∙ ap (λ l. joining_to l (find (is_open_of r.tag) c.args.self.now.chunks) r.entries) limit) i) (c.whole-part.ensures.value i));
      back = c.split_at.ensures.back ∙ (λ i. drop ((joins ∙ ap (λ l. joining_to l (find (is_open_of r.tag) c.args.self.now.chunks) r.entries) limit) i) (c.whole-part.ensures.value i));
      needs = c.needed.ensures.value ∙ ap (λ n. needed n (entries_in c.split_at.result.1)) (c.from-limit.ensures ∙ limit);
    }
