use Rattle.std.proofs.Common.{◌≡◌, ◌+◌, ◌-◌, ◌++◌, ℤ, take, drop, length, length-drop, map, ap, sym, ◌∙◌, arith}
use Rattle.std.proofs.lemmas.Bool.{leb-true}
use Rattle.std.proofs.lemmas.List.{take_all}
use Rattle.nest_model.specs.Memory.{cell_value}
use Rattle.seq_meaning.specs.Loads.{cells_of_load, is_load_within}
use Rattle.seq_meaning.proofs.Ranges.{values_of_range}
use Rattle.seq_meaning.proofs.load.push_loaded.Goals as goal

pub returns-in_ok-extend_from_slice-in-Array : goal.returns-in_ok-extend_from_slice-in-Array
returns-in_ok-extend_from_slice-in-Array c =
    let memory = c.args.memory.now in
    let first = c.in-Array.first in
    let count = c.in-Array.count in
    let rest = drop first memory in
    let within = leb-true (first + count) (length memory) (sym (ap (is_load_within (length memory) c.args.values.now) c.in-Array.is) ∙ c.requires) in
    let whole : take (length memory - first) rest ≡ rest = take_all (length memory - first) rest (omega (arith, length-drop {A = ℤ})) in
    c.in_ok-extend_from_slice-in-Array.ensures.items
    ∙ ap (λ xs. c.args.loaded.now.items ++ xs) (ap (take count) whole ∙ values_of_range memory first count within ∙ ap (λ l. map (cell_value memory) (cells_of_load c.args.values.now l)) (sym c.in-Array.is))
