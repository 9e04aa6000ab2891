use Rattle.std.proofs.Common.{◌++◌, ◌∷◌, [], drop, length, ap, ◌∙◌, arith}
use Rattle.std.specs.Prelude.{replicate}
use Rattle.nest_rows.specs.declared.terms.Around.{Around}
use Rattle.owner_partition.proofs.StaticPhases.{with_last}
use Rattle.owner_partition.proofs.outer_loops.OuterLoops.with_inner.Goals as goal

pub returns : goal.returns
returns c =
    let outer = c.as_slice-outer.result.now in
    let inner : Around = record { nest = c.args.nest } in
    with_last outer _ 6 inner (omega (arith, ap length c.as_slice-outer.ensures, c.requires)) (ap (λ xs. xs ++ drop (length outer) (replicate 6 inner)) c.copy_from_slice.ensures.after)
    ∙ ap (λ xs. xs ++ inner ∷ []) c.as_slice-outer.ensures
