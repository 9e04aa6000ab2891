-- Lines that are printed one after another.
use Rattle.std.proofs.Common.{◌≡◌, ℤ, List, [], ◌∷◌, ◌++◌, append_assoc, refl, ap, sym, ◌∙◌}
use Rattle.std.specs.List.{fold}
use Rattle.nest_tree.specs.Tree.{Tree}
use Rattle.nest_model.specs.Instances.{Instance}
use Rattle.nest_model.specs.Memory.{line_of, loaded_in, memory_after, output_from}

-- the output of some instances and of others behind them
pub output_from-append : (tree : Tree) (memory : List ℤ) (xs ys : List Instance) → output_from tree memory (xs ++ ys) ≡ output_from tree memory xs ++ output_from tree (fold (memory_after tree) memory xs) ys
output_from-append tree memory [] ys = refl
output_from-append tree memory (x ∷ xs) ys =
    let line = line_of tree x (loaded_in tree memory x) in
    let next = memory_after tree memory x in
    ap (λ o. line ++ o) (output_from-append tree next xs ys) ∙ sym (append_assoc line (output_from tree next xs) (output_from tree (fold (memory_after tree) next xs) ys))
