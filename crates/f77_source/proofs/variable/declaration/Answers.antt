use Rattle.std.proofs.Common.{◌≡◌, ℤ, false, List, [], reverse, if◌then◌else◌, ap, sym, ◌∙◌}
use Rattle.nest_tree.specs.Tree.{Declaration}
use Rattle.nest_tree.specs.declared.tree.Spread.TheVariants.{Block}
use Rattle.f77_scene.specs.Scene.{Name, is_array}
use Rattle.f77_source.specs.Arrays.{array}
use Rattle.f77_source.proofs.variable.declaration.Goals as goal

abbrev scalar_with : Name → List (ℤ × ℤ) → Declaration
scalar_with n bounds = record { name = n; bounds = bounds; axis = 0; spread = Block }

pub returns : goal.returns
returns c =
    let n = c.args.name.now in
    let s = c.args.known.now in
    let scalar : is_array s n ≡ false = sym c.if-is_array.ensures in
    ap (λ m. scalar_with m c.new.result.items) c.in_ok-from_slice.ensures.items ∙ ap (scalar_with n) c.new.ensures.items
    ∙ sym (ap (λ b. if b then array (reverse c.args.directives.now) s n else scalar_with n []) scalar)
