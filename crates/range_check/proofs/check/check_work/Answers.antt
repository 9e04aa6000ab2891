use Rattle.std.proofs.Common.{◌≡◌, ◌∷◌, [], Err, true, map, ap, sym, ◌∙◌, subst, rules}
use Rattle.std.specs.List.{flat_map}
use Rattle.std.specs.Option.{option_or}
use Rattle.std.specs.Result.{result_err}
use Rattle.std.proofs.lemmas.Bool.{and_parts}
use Rattle.nest_tree.specs.Limits.{line_of_work}
use Rattle.nest_tree.specs.Loads.{loads_in, loads_in_item}
use Rattle.nest_tree.specs.Tree.{Assignment, Printing, assign, print}
use Rattle.nest_tree.specs.View.{expression_of, printed_of, statement_of, tree_of}
use Rattle.nest_tree.proofs.Wide.{first_refused}
use Rattle.nest_tree.proofs.Rows.{same_work}
use Rattle.nest_model.specs.Ranges.{accesses_of}
use Rattle.nest_walk.specs.Cursors.{loops_in}
use Rattle.nest_walk.specs.Places.{numbers_of}
use Rattle.nest_walk.specs.RoundsOf.{rounds_of}
use Rattle.range_check.specs.Outside.{access_outside, accesses_outside, are_sound_accesses, is_sound_access}
use Rattle.range_check.proofs.Lists.{outside-append, outside-one, sound-append}
use Rattle.range_check.proofs.check.check_work.Goals as goal

pub check_loads-requires-clause-sound : goal.check_loads-requires-clause-sound
check_loads-requires-clause-sound c =
    let tree = tree_of c.args.program.now in
    let loops = loops_in tree (rounds_of c.args.path.now) in
    let around = numbers_of (rounds_of c.args.path.now) in
    let a : Assignment = record { target = c.in-Assign.target; value = expression_of c.in-Assign.value; guard = c.in-Assign.field-2; line = c.in-Assign.line } in
    let sound = sound-append tree around loops (loads_in a.value) (a.target ∷ []) (c.requires.sound (assign a) (ap statement_of c.in-Assign.is)) in
    sound.0

pub check_access-requires-clause-sound : goal.check_access-requires-clause-sound
check_access-requires-clause-sound c =
    let tree = tree_of c.args.program.now in
    let loops = loops_in tree (rounds_of c.args.path.now) in
    let around = numbers_of (rounds_of c.args.path.now) in
    let a : Assignment = record { target = c.in-Assign.target; value = expression_of c.in-Assign.value; guard = c.in-Assign.field-2; line = c.in-Assign.line } in
    let sound = sound-append tree around loops (loads_in a.value) (a.target ∷ []) (c.requires.sound (assign a) (ap statement_of c.in-Assign.is)) in
    (and_parts (is_sound_access tree around loops a.target) true sound.1).0

pub check_items-requires-clause-sound : goal.check_items-requires-clause-sound
check_items-requires-clause-sound c =
    let tree = tree_of c.args.program.now in
    let loops = loops_in tree (rounds_of c.args.path.now) in
    let around = numbers_of (rounds_of c.args.path.now) in
    let p : Printing = record { items = map printed_of c.in-Print.items.items; line = c.in-Print.line } in
    ap (λ xs. are_sound_accesses tree around loops (flat_map loads_in_item (map printed_of xs))) c.deref.ensures.value ∙ c.requires.sound (print p) (ap statement_of c.in-Print.is)

pub returns-in_err-check_loads-in-Assign : goal.returns-in_err-check_loads-in-Assign
returns-in_err-check_loads-in-Assign c = λ w is.
    let tree = tree_of c.args.program.now in
    let loops = loops_in tree (rounds_of c.args.path.now) in
    let a : Assignment = record { target = c.in-Assign.target; value = expression_of c.in-Assign.value; guard = c.in-Assign.field-2; line = c.in-Assign.line } in
    let out = accesses_outside tree loops c.in-Assign.line in
    let split = outside-append tree loops c.in-Assign.line (loads_in a.value) (a.target ∷ []) ∙ ap (option_or (out (loads_in a.value))) (outside-one tree loops c.in-Assign.line a.target) in
    let this = same_work (assign a) w (sym (ap statement_of c.in-Assign.is) ∙ is) in
    let same : c.from_residual.result ≡ Err c.in_err-check_loads-in-Assign.field-0.0 = search rules in
    let first = ap result_err same ∙ first_refused c.in_err-check_loads-in-Assign.field-0.0 _ (access_outside tree loops c.in-Assign.line a.target) _ c.in_err-check_loads-in-Assign.ensures split in
    subst (λ x. result_err c.from_residual.result ≡ accesses_outside tree loops (line_of_work x) (accesses_of x)) this first

pub returns-in_ok-check_loads-in-Assign : goal.returns-in_ok-check_loads-in-Assign
returns-in_ok-check_loads-in-Assign c = λ w is.
    let tree = tree_of c.args.program.now in
    let loops = loops_in tree (rounds_of c.args.path.now) in
    let a : Assignment = record { target = c.in-Assign.target; value = expression_of c.in-Assign.value; guard = c.in-Assign.field-2; line = c.in-Assign.line } in
    let out = accesses_outside tree loops c.in-Assign.line in
    let split = outside-append tree loops c.in-Assign.line (loads_in a.value) (a.target ∷ []) ∙ ap (option_or (out (loads_in a.value))) (outside-one tree loops c.in-Assign.line a.target) in
    let this = same_work (assign a) w (sym (ap statement_of c.in-Assign.is) ∙ is) in
    let first = c.check_access.ensures ∙ ap (λ o. option_or o (access_outside tree loops c.in-Assign.line a.target)) c.in_ok-check_loads-in-Assign.ensures ∙ sym split in
    subst (λ x. result_err c.check_access.result ≡ accesses_outside tree loops (line_of_work x) (accesses_of x)) this first
