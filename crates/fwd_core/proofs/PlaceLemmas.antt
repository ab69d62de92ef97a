-- The first connection with an id, at its place.
use Rattle.std.proofs.Common.{◌≡◌, ℕ, ◌+◌, ◌<◌, true, cond, eqb, List, ◌∷◌, ◌++◌, length, get_or, take, drop, Some, sym, ap, ◌∙◌, arith, add-one}
use Rattle.std.proofs.lemmas.Bool.Decides.{nat_tests}
use Rattle.std.proofs.lemmas.List.{drop_more, set_split}
use Rattle.std.proofs.lemmas.Option.{slice_get-get_or}
use Rattle.fwd_source.specs.Live.{LiveSource}
use Rattle.fwd_model.specs.Live.{LiveConnection, live_source_at, with_live_source}
use Rattle.fwd_core.specs.Places.{IsPlace}

same_id : (a b : ℕ) → a ≡ b → eqb a b ≡ true
same_id a b e = grind (arith, nat_tests)

pub place_here : (id : ℕ) (cs : List LiveConnection) (place : ℕ) (x : LiveConnection)
    → place < length cs → x ≡ get_or cs place x → x.id ≡ id
    → live_source_at id (drop place cs) ≡ live_source_at id cs
    →
    ((s : LiveSource) → with_live_source id s cs ≡ take place cs
    ++ with_live_source id s (drop place cs))
    → IsPlace id cs place
place_here id cs place x lt is own found put =
    let split : drop place cs ≡ x ∷ drop (place + 1) cs = drop_more cs place x lt ∙ ap (λ y. y ∷ drop (place + 1) cs) (sym is) in
    let test = same_id x.id id own in
    let named : x ≡ record { id = id; source = x.source } = λ i. record { id = own i; source = x.source } in
    record {
      within = lt;
      source = x.source;
      here = slice_get-get_or cs place x lt ∙ ap Some (sym is ∙ named);
      found = sym found ∙ ap (live_source_at id) split ∙ ap (λ b. cond b (Some x.source) (live_source_at id (drop (place + 1) cs))) test;
      put = λ s.
          put s
          ∙ ap (λ ds. take place cs ++ with_live_source id s ds) split
          ∙ ap (λ b. take place cs ++ cond b (record { id = x.id; source = s } ∷ drop (place + 1) cs) (x ∷ with_live_source id s (drop (place + 1) cs))) test
          ∙ (λ i. take place cs ++ record { id = own i; source = s } ∷ drop (add-one place i) cs)
          ∙ sym (set_split cs place (record { id = id; source = s }) lt);
    }
