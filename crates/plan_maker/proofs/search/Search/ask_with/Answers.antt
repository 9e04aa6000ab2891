use Rattle.std.proofs.Common.{◌≡◌, ◌+◌, suc, ap, ◌∙◌, arith}
use Rattle.std.specs.Prelude.{◌≢◌, slice_get, slice_set}
use Rattle.std.specs.List.{list_all}
use Rattle.nest_tree.specs.View.{tree_of}
use Rattle.comm_system.specs.Signatures.{has_places_in}
use Rattle.plan_maker.proofs.Fresh.{all_have}
use Rattle.plan_maker.proofs.TakenKinds.{taken_elsewhere, taken_have}
use Rattle.plan_maker.proofs.search.Search.ask_with.Goals as goal

pub try_kinds-requires-clause-places : goal.try_kinds-requires-clause-places
try_kinds-requires-clause-places c =
    let s = c.args.self.now in
    let have = ap (list_all (λ ks. list_all has_places_in ks)) c.requires.search.candidates ∙ all_have (tree_of s.problem.program.now) s.problem.plan.now s.problem.shape in
    ap (list_all has_places_in) (c.as_slice.ensures.value ∙ c.in_ok-kinds.ensures) ∙ taken_have s.candidates.items (slice_set s.taken.items c.args.phase c.args.place) have

pub try_kinds-requires-clause-elsewhere : goal.try_kinds-requires-clause-elsewhere
try_kinds-requires-clause-elsewhere c k other =
    let s = c.args.self.now in
    let apart : k ≢ c.args.phase = λ same. other (let at : suc k ≡ c.args.phase + 1 = omega (arith, same) in at) in
    ap (λ ks. slice_get ks k) (c.as_slice.ensures.value ∙ c.in_ok-kinds.ensures) ∙ taken_elsewhere s.candidates.items s.taken.items c.args.phase c.args.place k apart
