use Rattle.std.proofs.Common.{FitsSigned, rules, IsTrue, length, ap, sym, subst, ◌∙◌}
use Rattle.std.specs.Int.{w128}
use Rattle.std.proofs.lemmas.Int.{to_z-of_z}
use Rattle.std.proofs.lemmas.List.{length-map}
use Rattle.nest_tree.specs.Form.{reach_within}
use Rattle.nest_tree.specs.Tree.{param_values}
use Rattle.nest_tree.specs.View.{constant_of, tree_of}
use Rattle.nest_tree.specs.WellFormed.{loops_of}
use Rattle.nest_walk.specs.Paths.{form_among}
use Rattle.nest_walk.specs.RoundsOf.{rounds_of}
use Rattle.nest_walk.proofs.FormValues.{form_same}
use Rattle.owner_partition.proofs.Places.{values}
use Rattle.owner_partition.proofs.own.exact_value.Goals as goal

pub exact_on-requires : goal.exact_on-requires
exact_on-requires c =
    subst (λ n. IsTrue (reach_within n c.args.form.now.params)) (length-map c.args.program.now.params.items constant_of ∙ ap length (sym c.deref.ensures.value)) c.requires.given

pub returns-clause-value : goal.returns-clause-value
returns-clause-value c =
    let tree = tree_of c.args.program.now in
    let rounds = rounds_of c.args.path.now in
    let f : FitsSigned w128 c.exact_on.result = search rules in
    to_z-of_z w128 c.exact_on.result f ∙ c.exact_on.ensures.value ∙ ap (form_among c.args.form.now rounds) (values c.args.program.now c.deref.result.now c.deref.ensures.value)
    ∙ form_same (loops_of tree.items) rounds c.args.form.now (param_values tree) c.requires.numbered c.exact_on.ensures.form
