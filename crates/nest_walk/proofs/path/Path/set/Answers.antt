use Rattle.std.proofs.Common.{rules, ◌≤◌, length, ap, ◌∙◌, w64, set, ◌-◌}
use Rattle.std.proofs.lemmas.Int.{to_z-of_z}
use Rattle.nest_walk.specs.Paths.{rounds_to}
use Rattle.nest_walk.proofs.PathLists.{set_last}
use Rattle.nest_walk.proofs.path.Path.set.Goals as goal

pub returns : goal.returns
returns c = λ r rounds e.
    let p = c.args.self.now in
    let le : p.depth ≤ length p.values = search rules in
    ap (λ v. rounds_to p.numbers (set p.values (p.depth - 1) v) p.depth) (to_z-of_z w64 c.args.value c.ranges.value)
    ∙ set_last p.numbers p.values p.depth c.args.value r rounds le e
