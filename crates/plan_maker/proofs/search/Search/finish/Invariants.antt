use Rattle.std.proofs.Common.{map}
use Rattle.nest_tree.specs.View.{tree_of}
use Rattle.plan_maker.specs.Trials.{HasMoreCertificates, slots_asked}
use Rattle.plan_maker.proofs.Ready.{seen}
use Rattle.plan_maker.proofs.search.Search.finish.Given as goal

abbrev pub invariant-loop-slot : goal.invariant-loop-slot
invariant-loop-slot l = HasMoreCertificates (slots_asked (tree_of l.problem.program.now) l.problem.plan.now l.kinds.items (map seen l.yielded)) l.fn.certificates.items l.all.items
