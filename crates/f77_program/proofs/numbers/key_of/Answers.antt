use Rattle.std.proofs.Common.{◌≡◌, ◌+◌, ◌-◌, ◌*◌, ◌^◌, ◌<◌, ◌≤◌, length, drop, get_or, ap, ◌∙◌, arith, rules}
use Rattle.std.proofs.lemmas.List.{drop_more, length-drop}
use Rattle.f77_program.specs.Numbered.{key_of}
use Rattle.f77_program.proofs.Keyed.{key_below, low_drop, low_short, few_short}
use Rattle.f77_program.proofs.numbers.key_of.Goals as goal

pub overflow_mul-key : goal.overflow_mul-key
overflow_mul-key c =
    let name = c.args.name.now in
    let place = c.loop-place.place in
    let few : length name ≤ 18 = few_short name c.requires in
    let behind : length (drop place name) ≤ 17 = (let l = length-drop place name in omega (arith, l, few, c.loop-place-test.true)) in
    let bound : key_of (drop place name) < 2 ^ 120 = key_below 17 (drop place name) (low_drop place name (low_short name c.requires)) behind in
    let less : c.loop-place.key * 128 < 2 ^ 128 = omega (arith, bound, c.loop-place.invariant) in
    search rules

pub overflow_add-key : goal.overflow_add-key
overflow_add-key c =
    let name = c.args.name.now in
    let place = c.loop-place.place in
    let few : length name ≤ 18 = few_short name c.requires in
    let inside : place - 1 < length name = omega (arith, c.loop-place-test.true, c.loop-place.auto.place) in
    let next : place - 1 + 1 ≡ place = omega (arith, c.loop-place-test.true) in
    let whole : key_of (drop (place - 1) name) ≡ key_of (drop place name) * 128 + get_or name (place - 1) 0 =
    ap key_of (drop_more name (place - 1) 0 inside) ∙ ap (λ k. key_of (drop k name) * 128 + get_or name (place - 1) 0) next in
    let behind : length (drop (place - 1) name) ≤ 18 = (let l = length-drop (place - 1) name in omega (arith, l, few)) in
    let bound : key_of (drop (place - 1) name) < 2 ^ 127 = key_below 18 (drop (place - 1) name) (low_drop (place - 1) name (low_short name c.requires)) behind in
    let less : c.loop-place.key * 128 + c.from.result < 2 ^ 128 = omega (arith, bound, whole, c.loop-place.invariant, c.from.ensures) in
    search rules
