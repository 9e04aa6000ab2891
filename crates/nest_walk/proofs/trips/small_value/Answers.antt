use Rattle.std.proofs.Common.{FitsSigned, w64, rules, map, ap, sym, ◌∙◌}
use Rattle.std.proofs.lemmas.Int.{to_z-of_z}
use Rattle.nest_tree.specs.Tree.{param_values}
use Rattle.nest_tree.specs.Values.{wrapped}
use Rattle.nest_tree.specs.View.{tree_of}
use Rattle.nest_tree.specs.WellFormed.{loops_of}
use Rattle.nest_tree.specs.declared.tree.Parameter.{Parameter}
use Rattle.nest_walk.specs.Paths.{form_among}
use Rattle.nest_walk.specs.RoundsOf.{rounds_of}
use Rattle.nest_walk.proofs.CursorMoves.{values_are}
use Rattle.nest_walk.proofs.FormValues.{exact}
use Rattle.nest_walk.proofs.trips.small_value.Goals as goal

pub returns : goal.returns
returns c =
    let tree = tree_of c.args.program.now in
    let rounds = rounds_of c.args.path.now in
    let f : FitsSigned w64 c.value_at.result = search rules in
    let values = ap (map (λ (p : Parameter). p.value)) c.deref.ensures.value ∙ sym (values_are c.args.program.now.params.items) in
    to_z-of_z w64 c.value_at.result f ∙ exact (loops_of tree.items) rounds c.args.form.now (param_values tree) c.value_at.result c.requires.numbered c.value_at.ensures.form c.requires.small
    (c.value_at.ensures.value ∙ ap (λ params. wrapped (form_among c.args.form.now rounds params)) values)
