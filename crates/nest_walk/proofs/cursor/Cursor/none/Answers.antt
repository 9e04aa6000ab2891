use Rattle.std.proofs.Common.{ap, sym, subst}
use Rattle.nest_tree.specs.Tree.{done}
use Rattle.nest_tree.specs.View.{tree_of}
use Rattle.nest_walk.specs.Cursors.{left_of}
use Rattle.nest_walk.specs.Frames.{levels_to}
use Rattle.nest_walk.specs.InText.{AreInText}
use Rattle.nest_walk.specs.Walks.{Stretch, is_sound, left}
use Rattle.nest_walk.proofs.Alone.{whole_walk}
use Rattle.nest_walk.proofs.TextMoves.{start_stands}
use Rattle.nest_walk.proofs.cursor.Cursor.none.Goals as goal

pub invariant_of-result : goal.invariant_of-result
invariant_of-result c =
    let tree = tree_of c.args.program.now in
    let levels = levels_to c.ended.result.all c.new.result.depth in
    let nothing : Stretch = record { statements = done; place = 1; first = 1 } in record {
      sound = ap (λ rounds. is_sound (whole_walk tree) rounds levels nothing) c.new.ensures;
      texts = subst (λ rounds. AreInText tree (whole_walk tree) rounds levels nothing) (sym c.new.ensures) (start_stands tree);
    }

pub returns-clause-visits : goal.returns-clause-visits
unfolding left_of
returns-clause-visits c =
    let tree = tree_of c.args.program.now in
    let nothing : Stretch = record { statements = done; place = 1; first = 1 } in
    ap (λ rounds. left (whole_walk tree) rounds (levels_to c.ended.result.all c.new.result.depth) nothing) c.new.ensures
