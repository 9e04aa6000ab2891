use Rattle.std.proofs.Common.{◌≡◌, ◌+◌, ◌-◌, length, refl, ap, sym, ◌∙◌, arith}
use Rattle.std.specs.Prelude.{Some, slice_get}
use Rattle.std.proofs.lemmas.Option.{slice_get_read}
use Rattle.nest_tree.specs.View.{tree_of}
use Rattle.nest_walk.specs.Texts.{placed}
use Rattle.owner_partition.specs.Marks.{enters_outer}
use Rattle.comm_system.proofs.Lists.{mapped_get}
use Rattle.comm_system.specs.PhaseViews.{phase_seen}
use Rattle.maker_candidates.proofs.Stops.{placed_at}
use Rattle.maker_candidates.proofs.candidates.all_candidates.Goals as goal

pub candidates_at-requires : goal.candidates_at-requires
candidates_at-requires c =
    let tree = tree_of c.args.program.now in
    let marks = c.args.plan.now.cut.marks in
    let phases = c.args.phases.now in
    let k = c.loop-place.place in
    let p = c.index-phases-place.result in
    let at : slice_get phases k ≡ Some p = slice_get_read phases (length phases) k p refl c.loop-place-test.true c.index-phases-place.is in
    let there = ap (λ ps. slice_get ps k) (sym c.requires.phases) ∙ mapped_get phase_seen phases k p at in
    let back : k + 1 - 1 ≡ k = omega arith in
    ap (slice_get (placed tree (enters_outer marks))) back ∙ placed_at tree marks k (phase_seen p) there
