use Rattle.std.proofs.Common.{◌≡◌, ℕ, true, false, List, [], ◌∷◌, length, sym, ◌∙◌, arith}
use Rattle.std.specs.Prelude.{◌==◌, map}
use Rattle.std.proofs.lemmas.Bool.Decides.{nat_tests}
use Rattle.fwd_book.specs.History.{Entered}
use Rattle.fwd_book.specs.Live.{live_due, live_is_due}
use Rattle.fwd_book.proofs.Keeping.{leaves-none}
use Rattle.fwd_core.proofs.CollectLemmas.{nothing_told, source_stays, lane_stays}
use Rattle.fwd_core.proofs.state.connection_events.tell_from.Goals as goal

no_items : {X : Type 0} (xs : List X) (n : ℕ) → n ≡ length xs → (n == 0) ≡ true → xs ≡ []
no_items [] n size none = λ i. []
no_items (x ∷ xs) n size none = let zero : n ≡ 0 = grind (arith, nat_tests, none) in absurd (omega (arith, zero, size))

no_map : (qs : List Entered) → [] ≡ map (λ (q : Entered). q.origin) qs → qs ≡ []
no_map [] h = λ i. []
no_map (q ∷ qs) h = absurd cc

pub returns-then-is_empty-clause-answer : goal.returns-then-is_empty-clause-answer
returns-then-is_empty-clause-answer c =
    let up : c.args.source.now.live.shut ≡ false = sym c.is_shut.ensures ∙ c.if-is_shut.false in
    let empty : c.in_ok-origins.origins.items ≡ [] = no_items c.in_ok-origins.origins.items _ c.in_ok-origins.origins.ok.0 (sym c.is_empty.ensures ∙ c.if-is_empty.true) in
    c.told_nothing.ensures
    ∙ nothing_told c.args.conn c.args.source.now.live c.args.lane.now up
    (no_map (live_due c.args.lane.now.output.book c.args.conn) (sym empty ∙ c.in_ok-origins.ensures.due))

pub returns-then-is_empty-clause-source : goal.returns-then-is_empty-clause-source
returns-then-is_empty-clause-source c =
    let up : c.args.source.now.live.shut ≡ false = sym c.is_shut.ensures ∙ c.if-is_shut.false in
    let empty : c.in_ok-origins.origins.items ≡ [] = no_items c.in_ok-origins.origins.items _ c.in_ok-origins.origins.ok.0 (sym c.is_empty.ensures ∙ c.if-is_empty.true) in
    source_stays c.args.conn c.args.source.now.live c.args.lane.now up
    (no_map (live_due c.args.lane.now.output.book c.args.conn) (sym empty ∙ c.in_ok-origins.ensures.due))

pub returns-then-is_empty-clause-lane : goal.returns-then-is_empty-clause-lane
returns-then-is_empty-clause-lane c =
    let b = c.args.lane.now.output.book in
    let up : c.args.source.now.live.shut ≡ false = sym c.is_shut.ensures ∙ c.if-is_shut.false in
    let empty : c.in_ok-origins.origins.items ≡ [] = no_items c.in_ok-origins.origins.items _ c.in_ok-origins.origins.ok.0 (sym c.is_empty.ensures ∙ c.if-is_empty.true) in
    let none : live_due b c.args.conn ≡ [] = no_map (live_due b c.args.conn) (sym empty ∙ c.in_ok-origins.ensures.due) in
    lane_stays c.args.conn c.args.source.now.live c.args.lane.now up none
    (c.origins_are_enough.ensures.leaves b (live_is_due b c.args.conn) c.is_sound.ensures.sound)
    (sym (leaves-none b c.is_sound.ensures.kept))
