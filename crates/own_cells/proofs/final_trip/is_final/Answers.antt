use Rattle.std.proofs.Common.{FitsSigned, map, nat_le, to_z, of_z, rules, ap, sym, ◌∙◌}
use Rattle.std.specs.Int.{w64}
use Rattle.std.proofs.lemmas.Bool.{and_parts}
use Rattle.std.proofs.lemmas.Int.{to_z-of_z}
use Rattle.nest_tree.specs.Form.{numbered}
use Rattle.nest_tree.specs.Tree.{param_values}
use Rattle.nest_tree.specs.Values.{wrapped}
use Rattle.nest_tree.specs.View.{head_of, tree_of}
use Rattle.nest_tree.specs.WellFormed.{loops_of}
use Rattle.nest_tree.specs.declared.tree.Parameter.{Parameter}
use Rattle.nest_walk.specs.Cursors.{loops_in}
use Rattle.nest_walk.specs.Paths.{form_among}
use Rattle.nest_walk.specs.RoundsOf.{rounds_of}
use Rattle.nest_walk.proofs.CursorMoves.{values_are}
use Rattle.nest_walk.proofs.FormValues.{form_same}
use Rattle.own_cells.specs.FinalTrips.{is_past}
use Rattle.own_cells.proofs.LoopValues.{value_is}
use Rattle.own_cells.proofs.final_trip.is_final.Goals as goal

pub returns : goal.returns
returns c =
    let tree = tree_of c.args.program.now in
    let rounds = rounds_of c.args.path.now in
    let head = head_of c.args.nest.now in
    let loops = loops_in tree rounds in
    let params = param_values tree in
    let number = and_parts (nat_le 1 head.number) (nat_le head.number (loops_of tree.items)) c.requires.number in
    let f1 : FitsSigned w64 c.value_of-value.result = search rules in
    let f2 : FitsSigned w64 c.value_at-last.result = search rules in
    let f3 : FitsSigned w64 c.args.nest.now.step = search rules in
    let value = to_z-of_z w64 c.value_of-value.result f1 ∙ c.value_of-value.ensures ∙ value_is (loops_of tree.items) rounds head.number number.0 c.requires.numbered in
    let values = ap (map (λ (p : Parameter). p.value)) c.deref.ensures.value ∙ sym (values_are c.args.program.now.params.items) in
    let last = to_z-of_z w64 c.value_at-last.result f2 ∙ c.value_at-last.ensures.value ∙ ap (λ ps. wrapped (form_among head.m2 rounds ps)) values ∙ ap wrapped (form_same (loops_of tree.items) rounds head.m2 params c.requires.numbered c.value_at-last.ensures.form) in
    c.is_past.ensures
    ∙ ap (λ z. is_past z (to_z w64 (of_z w64 c.args.nest.now.step)) (to_z w64 (of_z w64 c.value_at-last.result))) value
    ∙ ap (λ z. is_past (numbered loops head.number) z (to_z w64 (of_z w64 c.value_at-last.result))) (to_z-of_z w64 c.args.nest.now.step f3)
    ∙ ap (is_past (numbered loops head.number) head.step) last
