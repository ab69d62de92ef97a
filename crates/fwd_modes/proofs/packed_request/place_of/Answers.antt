use Rattle.std.proofs.Common.{◌-◌, List, ℕ, ◌++◌, length, ap, refl, arith}
use Rattle.std.specs.List.{flat_map}
use Rattle.std.proofs.lemmas.List.{length-append}
use Rattle.fwd_msgpack.specs.Values.{bytes_of}
use Rattle.fwd_modes.specs.Moved.{optional}
use Rattle.fwd_modes.proofs.Moving.{text_stands, text_at}
use Rattle.fwd_modes.proofs.packed_request.place_of.Goals as goal

pub overflow_sub-result : goal.overflow_sub-result
overflow_sub-result c =
    let bytes = bytes_of c.args.value in
    let given = c.args.given in
    let text = c.args.text.now in
    let others = flat_map (λ (v : List ℕ). v) (optional given.option) in
    let stands = text_stands bytes (bytes_of given.tag) (bytes_of given.packed) text (optional given.option) c.args.value.whole c.requires.members.0 c.requires.own in
    omega (arith, ap length stands.1, length-append stands.0 (text ++ others), length-append text others, c.option_len-behind.ensures, ap length c.bytes-all.ensures.value)

pub overflow_sub-result-2 : goal.overflow_sub-result-2
overflow_sub-result-2 c =
    let bytes = bytes_of c.args.value in
    let given = c.args.given in
    let text = c.args.text.now in
    let others = flat_map (λ (v : List ℕ). v) (optional given.option) in
    let stands = text_stands bytes (bytes_of given.tag) (bytes_of given.packed) text (optional given.option) c.args.value.whole c.requires.members.0 c.requires.own in
    omega (arith, ap length stands.1, length-append stands.0 (text ++ others), length-append text others, c.option_len-behind.ensures, ap length c.bytes-all.ensures.value)

pub returns : goal.returns
returns c =
    let bytes = bytes_of c.args.value in
    let given = c.args.given in
    let text = c.args.text.now in
    let others = flat_map (λ (v : List ℕ). v) (optional given.option) in
    let stands = text_stands bytes (bytes_of given.tag) (bytes_of given.packed) text (optional given.option) c.args.value.whole c.requires.members.0 c.requires.own in
    let all = ap length c.bytes-all.ensures.value in
    let found = text_at bytes stands.0 text others (length c.bytes-all.result.now - c.option_len-behind.result - length text) (length text) (length others) stands.1 refl refl (omega (arith, all, c.option_len-behind.ensures)) in
    record { place = found.0; inside = found.1 }
