use Rattle.std.proofs.Common.{◌≡◌, List, ◌+◌, ap, sym, subst, ◌∙◌}
use Rattle.nest_tree.specs.View.{statement_of, statements_from, tree_of}
use Rattle.nest_tree.specs.declared.tree.Item.{Item}
use Rattle.nest_walk.specs.Cursors.{left_of}
use Rattle.nest_walk.specs.Frames.{levels_to}
use Rattle.nest_walk.specs.InText.{AreInText}
use Rattle.nest_walk.specs.RoundsOf.{rounds_of}
use Rattle.nest_walk.specs.Walks.{Stretch, is_sound, left}
use Rattle.nest_walk.proofs.Alone.{ended_round, levels_round, one_left, one_sound, one_text, reached, whole_walk}
use Rattle.nest_walk.proofs.cursor.Cursor.restart.Goals as goal

pub end-requires : goal.end-requires
end-requires c = c.depth.ensures.within

pub invariant_of-self : goal.invariant_of-self
invariant_of-self c =
    let tree = tree_of c.args.self.now.program.now in
    let rounds = rounds_of c.args.path.now in
    let s = c.args.stop in
    let end = s.first + c.works_in_item.result in
    let at = ap (λ n. s.first + n) c.works_in_item.ensures in
    let known = reached tree rounds s c.requires.reached in
    let stretch : List Item → Stretch = λ items. record { statements = statements_from items; place = s.first; first = s.first } in
    let levels : levels_to c.end.new.self.all c.args.path.now.depth ≡ ended_round rounds end = levels_round c.args.path.now c.end.new.self.all c.depth.result end c.depth.ensures.count c.end.ensures in record {
      sound = ap (λ ls. is_sound (whole_walk tree) rounds ls (stretch c.from_ref.result.now)) levels
          ∙ ap (λ items. is_sound (whole_walk tree) rounds (ended_round rounds end) (stretch items)) c.from_ref.ensures.value
          ∙ one_sound tree rounds (statement_of s.item.now) s.first known c.requires.text end at;
      texts = subst (λ ls. AreInText tree (whole_walk tree) rounds ls (stretch c.from_ref.result.now)) (sym levels)
          (subst (λ items. AreInText tree (whole_walk tree) rounds (ended_round rounds end) (stretch items)) (sym c.from_ref.ensures.value) (one_text tree rounds (statement_of s.item.now) s.first known c.requires.text end at));
    }

pub returns-clause-visits : goal.returns-clause-visits
unfolding left_of
returns-clause-visits c =
    let tree = tree_of c.args.self.now.program.now in
    let rounds = rounds_of c.args.path.now in
    let s = c.args.stop in
    let end = s.first + c.works_in_item.result in
    let known = reached tree rounds s c.requires.reached in
    let stretch : List Item → Stretch = λ items. record { statements = statements_from items; place = s.first; first = s.first } in
    ap (λ ls. left (whole_walk tree) rounds ls (stretch c.from_ref.result.now)) (levels_round c.args.path.now c.end.new.self.all c.depth.result end c.depth.ensures.count c.end.ensures)
    ∙ ap (λ items. left (whole_walk tree) rounds (ended_round rounds end) (stretch items)) c.from_ref.ensures.value
    ∙ one_left tree rounds (statement_of s.item.now) s.first known c.requires.text end
