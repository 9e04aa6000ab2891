use Rattle.std.proofs.Common.{◌≡◌, length, map, take}
use Rattle.nest_tree.specs.Tree.{Tree}
use Rattle.plan_maker.specs.Asked.{AreRefuted}
use Rattle.plan_maker.specs.Loops.{AreLoopVerdicts, loops_asked, loops_paths_asked, own_in, tried_in}
use Rattle.maker_marks.specs.Privates.{own_at}
use Rattle.maker_marks.specs.Tries.{tried_at}
use Rattle.plan_maker.proofs.loops.loop_certificates.Given as goal

abbrev pub invariant-loop-verdict : goal.invariant-loop-verdict
invariant-loop-verdict l = record {
  place : l.place ≡ length l.yielded;
  trips : (tree : Tree) → AreLoopVerdicts tree l.fn.verdicts.items → AreRefuted (loops_asked tree (tried_at (map tried_in l.fn.verdicts.items)) (own_at (map own_in l.fn.verdicts.items)) 1 (take l.place l.marks)) l.certificates.trips.items;
  paths : (tree : Tree) → AreLoopVerdicts tree l.fn.verdicts.items → AreRefuted (loops_paths_asked tree (tried_at (map tried_in l.fn.verdicts.items)) (own_at (map own_in l.fn.verdicts.items)) 1 (take l.place l.marks)) l.certificates.paths.items;
}
