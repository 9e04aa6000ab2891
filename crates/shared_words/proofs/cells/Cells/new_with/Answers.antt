use Rattle.std.proofs.Common.{rules, []}
use Rattle.nest_tree.specs.View.{tree_of}
use Rattle.shared_words.proofs.Seating.{opens_table}
use Rattle.shared_words.proofs.cells.Cells.new_with.Goals as goal

pub of_words-requires : goal.of_words-requires
of_words-requires c = opens_table (record { program = c.args.program; plan = c.args.plan; style = c.args.style }) _ [] (c.laws_in_styles.ensures c.args.style (tree_of c.args.program.now) c.args.plan.now c.args.program.now.formed c.args.program.now.limits c.requires.ranges c.requires.fits c.requires.ordered) (search rules)

pub invariant_of-result : goal.invariant_of-result
invariant_of-result c = record {
  runnable = record { formed = c.args.program.now.formed; limits = c.args.program.now.limits; ranges = c.requires.ranges; fits = c.requires.fits; ordered = c.requires.ordered };
  words = search rules;
  slots = search rules;
  cells = search rules;
  arrived = search rules;
  laws = c.laws_in_styles.ensures c.args.style (tree_of c.args.program.now) c.args.plan.now c.args.program.now.formed c.args.program.now.limits c.requires.ranges c.requires.fits c.requires.ordered;
}
