-- The tree of a part, by the trees of its operands and what they come to.
use Rattle.std.specs.Prelude.{ℤ, List, map, if◌then◌else◌}
use Rattle.f77_forms.specs.declared.form.Operator.{Operator}
use Rattle.f77_forms.specs.declared.form.Operator.TheVariants.{Add, Subtract, Multiply, Divide}
use Rattle.nest_tree.specs.Tree as tree
use Rattle.nest_tree.specs.Tree.{Expression}
use Rattle.nest_tree.specs.View.{expressions_from}
use Rattle.nest_tree.specs.declared.tree.Expr.{Expr}
use Rattle.f77_program.specs.declared.measure.Measure.{Measure}
use Rattle.f77_scene.specs.Scene.{Name, Scene, is_array, number_among}
use Rattle.f77_scene.specs.Trees.{chosen_tree}
use Rattle.f77_source.specs.Forms.{form_at}

abbrev pub call_tree : List Name → Scene → Name → List Expr → List Measure → Expression
call_tree variables s n operands measures =
    if is_array s n
    then tree.load (record {
      variable = number_among variables n;
      subscripts = map form_at measures;
    })
    else chosen_tree n (expressions_from operands)

abbrev pub binary_tree : Operator → Expression → Expression → ℤ → Expression
binary_tree Add a b divisor = tree.add a b
binary_tree Subtract a b divisor = tree.sub a b
binary_tree Multiply a b divisor = tree.mul a b
binary_tree Divide a b divisor = tree.div a divisor
