use Rattle.std.proofs.Common.{◌+◌, ◌∷◌, [], List, ℕ, take, sym, ap, subst, arith}
use Rattle.std.proofs.lemmas.List.{length-drop, take_rest}
use Rattle.fwd_msgpack.specs.Flat.{BeginsWithMap}
use Rattle.fwd_modes.specs.Fronts.{StandAt}
use Rattle.fwd_modes.specs.Kinds.{is_map_head}
use Rattle.fwd_modes.proofs.Fronting.{stand_alone}
use Rattle.fwd_modes.proofs.front_request.map_at.Goals as goal

pub returns-in-Some-clause-stand : goal.returns-in-Some-clause-stand
returns-in-Some-clause-stand c =
    let deep = c.args.limits.depth in
    let bytes = c.args.bytes.now in
    let at = c.args.at in
    let len = c.in-Some.len in
    let rest = take_rest bytes at in
    let found = subst (λ (xs : List ℕ). BeginsWithMap deep xs len) rest c.in-Some.ensures in
    subst (λ (xs : List ℕ). StandAt deep bytes at (at + len) (take len xs ∷ [])) (sym rest)
    (stand_alone deep bytes at len (omega (arith, length-drop at bytes, found.within, c.requires)) found.value)

pub returns-in-Some-clause-map : goal.returns-in-Some-clause-map
returns-in-Some-clause-map c = ap is_map_head c.in-Some.ensures.map
