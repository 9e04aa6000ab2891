use Rattle.std.proofs.Common.{◌≡◌, [], MatchOption, None, Some, ap, subst, ◌∙◌, arith}
use Rattle.nest_tree.specs.View.{statement_of, statements_from, tree_of}
use Rattle.nest_tree.specs.WellFormed.{are_good_statements, scope_of}
use Rattle.nest_tree.proofs.Cells.{well_formed_parts}
use Rattle.nest_model.specs.Instances.{works_of}
use Rattle.nest_model.specs.Visits.{every, stops_of}
use Rattle.nest_walk.specs.Places.{numbers_of}
use Rattle.nest_walk.specs.RoundsOf.{rounds_of}
use Rattle.nest_walk.specs.Walks.{enters_but}
use Rattle.nest_walk.proofs.TextMoves.{works_of-all}
use Rattle.owner_partition.proofs.Places.{few_phases}
use Rattle.owner_partition.proofs.Sites.{site_same}
use Rattle.owner_partition.proofs.site.site_of.Goals as goal

pub site_among-requires-clause-good : goal.site_among-requires-clause-good
site_among-requires-clause-good c =
    let tree = tree_of c.args.program.now in (
      scope_of tree,
      1,
      ap (λ rs. are_good_statements (scope_of tree) (numbers_of rs) 1 (statements_from c.deref.result.now)) c.requires.bare
          ∙ ap (λ xs. are_good_statements (scope_of tree) [] 1 (statements_from xs)) c.deref.ensures.value ∙ (well_formed_parts tree c.args.program.now.formed).statements,
    )

pub site_among-requires-clause-stops : goal.site_among-requires-clause-stops
site_among-requires-clause-stops c =
    let enters = enters_but c.closed.result.now in
    omega (arith, few_phases (tree_of c.args.program.now) enters c.args.program.now.formed, ap (λ xs. stops_of enters (statements_from xs)) c.deref.ensures.value)

pub site_among-requires-clause-works : goal.site_among-requires-clause-works
site_among-requires-clause-works c =
    let tree = tree_of c.args.program.now in
    omega (arith, few_phases tree every c.args.program.now.formed, works_of-all tree.items, ap (λ xs. works_of (statements_from xs)) c.deref.ensures.value)

pub returns : goal.returns
returns c =
    let same = site_same c.args.program.now c.args.cut.now.marks c.closed.result.now c.deref.result.now (rounds_of c.args.path.now) c.saturating_sub-before.result c.args.number c.args.outer.now c.closed.ensures c.deref.ensures.value c.requires.bare c.saturating_sub-before.ensures in
    subst (λ o. MatchOption c.site_among.result (o ≡ None) (λ s. o ≡ Some (record { what = statement_of s.item.now; first = s.first; rounds = rounds_of c.site_among.new.path }))) same c.site_among.ensures
