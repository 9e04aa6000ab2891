use Rattle.std.proofs.Common.{◌≡◌, true, false, if◌then◌else◌, codes, map, reverse, ap, sym, ◌∙◌}
use Rattle.std.specs.Str.{bytes_eq}
use Rattle.nest_tree.specs.Tree.{load, least_of, greatest_of}
use Rattle.nest_tree.specs.View.{expressions_from}
use Rattle.nest_tree.proofs.Rows.{expression_of-Min, expression_of-Max}
use Rattle.f77_scene.specs.Scene.{is_array, number_among}
use Rattle.f77_scene.specs.Trees.{chosen_tree}
use Rattle.f77_source.specs.Forms.{form_at}
use Rattle.f77_source.proofs.tree.call_tree.Goals as goal

pub returns-then-eq : goal.returns-then-eq
returns-then-eq c =
    let n = c.args.name.now in
    let xs = expressions_from c.args.operands.items in
    let element = load (record { variable = number_among c.args.variables.now n; subscripts = map form_at (reverse c.args.subscripts.now) }) in
    let array : is_array c.args.known.now n ≡ false = sym c.if-is_array.ensures in
    let least : bytes_eq n (codes "MIN") ≡ true = sym (ap (bytes_eq n) c.as_slice.ensures) ∙ sym c.eq.ensures ∙ c.if-eq.true in
    expression_of-Min c.args.operands ∙ sym (ap (λ b. if b then element else chosen_tree n xs) array ∙ ap (λ b. if b then least_of xs else greatest_of xs) least)

pub returns-else-eq : goal.returns-else-eq
returns-else-eq c =
    let n = c.args.name.now in
    let xs = expressions_from c.args.operands.items in
    let element = load (record { variable = number_among c.args.variables.now n; subscripts = map form_at (reverse c.args.subscripts.now) }) in
    let array : is_array c.args.known.now n ≡ false = sym c.if-is_array.ensures in
    let greatest : bytes_eq n (codes "MIN") ≡ false = sym (ap (bytes_eq n) c.as_slice.ensures) ∙ sym c.eq.ensures ∙ c.if-eq.false in
    expression_of-Max c.args.operands ∙ sym (ap (λ b. if b then element else chosen_tree n xs) array ∙ ap (λ b. if b then least_of xs else greatest_of xs) greatest)
