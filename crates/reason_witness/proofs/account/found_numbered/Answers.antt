use Rattle.std.proofs.Common.{refl, subst, true}
use Rattle.nest_tree.specs.View.{tree_of}
use Rattle.comm_system.specs.Obligations.{obligations_of}
use Rattle.reason_witness.specs.Findings.{IsSearched}
use Rattle.reason_witness.specs.declared.found.Wanted.TheVariants.{Number}
use Rattle.reason_witness.proofs.Refused.{refused_there}
use Rattle.reason_witness.proofs.account.found_numbered.Goals as goal

pub unreachable-requires : goal.unreachable-requires
unreachable-requires c =
    let tree = tree_of c.args.program.now in
    let all = obligations_of tree c.args.plan.now in
    let there = refused_there tree c.args.plan.now c.args.number c.requires.refused in
    subst (IsSearched true all (Number c.args.number)) c.in-None.is c.in_ok-found.ensures refl there.0 there.1 there.2
