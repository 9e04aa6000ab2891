use Rattle.std.proofs.Common.{List, [], ap, sym, subst, ◌∙◌}
use Rattle.nest_tree.specs.declared.tree.Item.{Item}
use Rattle.nest_tree.specs.View.{tree_of, statements_from}
use Rattle.nest_walk.specs.Cursors.{left_of}
use Rattle.nest_walk.specs.Frames.{levels_to}
use Rattle.nest_walk.specs.InText.{AreInText}
use Rattle.nest_walk.specs.Walks.{Stretch, enters_but, is_sound, left, walk_in}
use Rattle.nest_walk.proofs.TextMoves.{start_text}
use Rattle.nest_walk.proofs.Walks.{start_sound}
use Rattle.nest_walk.proofs.cursor.Cursor.new.Goals as goal

pub invariant_of-result : goal.invariant_of-result
invariant_of-result c =
    let tree = tree_of c.args.program.now in
    let marks = c.args.marks.now in
    let levels = levels_to c.ended.result.all c.new.result.depth in record {
      sound = ap (λ rounds. is_sound (walk_in tree marks) rounds levels (record { statements = statements_from c.deref.result.now; place = 1; first = 1 })) c.new.ensures
          ∙ ap (λ items. is_sound (walk_in tree marks) [] levels (record { statements = statements_from items; place = 1; first = 1 })) c.deref.ensures.value
          ∙ start_sound tree marks levels c.args.program.now.formed c.args.program.now.limits;
      texts =
          let start : List Item → Stretch = λ items. record { statements = statements_from items; place = 1; first = 1 } in
          subst (λ rounds. AreInText tree (walk_in tree marks) rounds levels (start c.deref.result.now)) (sym c.new.ensures)
          (subst (λ items. AreInText tree (walk_in tree marks) [] levels (start items)) (sym c.deref.ensures.value) (start_text tree (enters_but marks)));
    }

pub returns-clause-visits : goal.returns-clause-visits
unfolding left_of
returns-clause-visits c =
    let tree = tree_of c.args.program.now in
    let marks = c.args.marks.now in
    let levels = levels_to c.ended.result.all c.new.result.depth in
    ap (λ rounds. left (walk_in tree marks) rounds levels (record { statements = statements_from c.deref.result.now; place = 1; first = 1 })) c.new.ensures
    ∙ ap (λ items. left (walk_in tree marks) [] levels (record { statements = statements_from items; place = 1; first = 1 })) c.deref.ensures.value
