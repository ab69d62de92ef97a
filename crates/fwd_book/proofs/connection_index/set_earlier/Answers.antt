use Rattle.std.proofs.Common.{◌≡◌, Some, cond, rules, sym, ap, ◌∙◌}
use Rattle.std.specs.Prelude.{option_map}
use Rattle.slab.specs.Slab.{get}
use Rattle.fwd_book.specs.Links.{is_the, follows_on}
use Rattle.fwd_book.proofs.Seats.{written, written-len}
use Rattle.fwd_book.proofs.connection_index.set_earlier.Goals as goal

pub returns-in-Some-get_mut-clause-linked : goal.returns-in-Some-get_mut-clause-linked
returns-in-Some-get_mut-clause-linked c = λ k.
    let there : get c.args.kept.now c.in-Some.slot ≡ Some c.in-Some-get_mut.kept.now = search rules in
    written c.args.kept.now c.in-Some.slot c.in-Some-get_mut.kept.now (follows_on c.args.earlier) there k
    ∙ ap (λ o. cond (is_the o k) (option_map (follows_on c.args.earlier) (get c.args.kept.now k)) (get c.args.kept.now k)) (sym c.in-Some.is)

pub returns-in-Some-get_mut-clause-len : goal.returns-in-Some-get_mut-clause-len
returns-in-Some-get_mut-clause-len c =
    let there : get c.args.kept.now c.in-Some.slot ≡ Some c.in-Some-get_mut.kept.now = search rules in
    written-len c.args.kept.now c.in-Some.slot c.in-Some-get_mut.kept.now (follows_on c.args.earlier c.in-Some-get_mut.kept.now) there
