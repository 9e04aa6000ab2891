use Rattle.std.proofs.Common.{◌≡◌, ◌<◌, ℕ, subst, ℤ, List, length, pos, set, ap, sym, ◌∙◌, ◌-ℤ◌, ◌+ℤ◌, w64, rules, arith, FitsSigned, to_z, of_z}
use Rattle.std.proofs.lemmas.Int.{to_z-of_z}
use Rattle.std.proofs.lemmas.List.{length-map}
use Rattle.nest_tree.specs.Layout.{bounds_of, cell_count, count_of, first_cell}
use Rattle.nest_tree.specs.Tree.{param_values}
use Rattle.nest_tree.specs.Values.{wrapped}
use Rattle.nest_tree.specs.View.{tree_of}
use Rattle.nest_tree.specs.WellFormed.{loops_of, scope_of}
use Rattle.nest_model.specs.Accesses.{access_cell}
use Rattle.nest_walk.specs.CellForms.{dot_by_depth}
use Rattle.nest_walk.specs.Paths.{Round, by_number, origin, rounds_to}
use Rattle.nest_walk.specs.Places.{cell_among, numbers_of}
use Rattle.nest_walk.specs.RoundsOf.{rounds_of}
use Rattle.nest_walk.proofs.Affine.{affine-cell}
use Rattle.nest_walk.proofs.CellPlaces.{cell_in_64_bits, exact_cell}
use Rattle.nest_walk.proofs.CellSums.{AreSteps, form_is}
use Rattle.nest_walk.proofs.GoodAccesses.{good_access-forms, good_access-there}
use Rattle.nest_walk.proofs.PathLists.{by_depth-all, left_over-at, rounds_to-length, same_numbers}
use Rattle.nest_walk.proofs.cells.CellForm.of_access.Goals as goal

pub cell_on-base-requires : goal.cell_on-base-requires
cell_on-base-requires c = record { there = good_access-there (tree_of c.args.program.now) (numbers_of (rounds_of c.args.path.now)) c.args.access.now c.requires.good }

pub cell_on-requires : goal.cell_on-requires
cell_on-requires c = record { there = good_access-there (tree_of c.args.program.now) (numbers_of (rounds_of c.args.path.now)) c.args.access.now c.requires.good }

pub one_along-requires : goal.one_along-requires
one_along-requires c =
    let p = c.args.path.now in
    omega (arith, c.depth-depth-end.ensures.count, rounds_to-length p.numbers p.values p.depth, c.loop-depth-test.true)

pub returns : goal.returns
returns c = λ p same numbers inside.
    let tree = tree_of c.args.program.now in
    let a = c.args.access.now in
    let path = c.args.path.now in
    let g : List ℤ → ℤ = λ vs. cell_among tree a (rounds_to path.numbers vs path.depth) in
    let steps = c.loop-depth.steps in
    let fits : FitsSigned w64 c.cell_on-base.result = search rules in
    let base = to_z w64 (of_z w64 c.cell_on-base.result) in
    let end : c.depth-depth-end.result ≡ path.depth = c.depth-depth-end.ensures.count ∙ rounds_to-length path.numbers path.values path.depth in
    let start : c.cell_on-base.result ≡ wrapped (g origin) = c.cell_on-base.ensures ∙ ap (λ rounds. wrapped (cell_among tree a rounds)) c.at_origin.ensures in
    let based = to_z-of_z w64 c.cell_on-base.result fits ∙ start in
    let are : AreSteps g path.depth base steps = record {
      start = based;
      along = λ d lt. c.loop-depth.invariant.along d (omega (arith, lt, end, c.loop-depth-test.false)) ∙ ap (λ z. wrapped (wrapped (g (set origin d (pos 1))) -ℤ z)) based;
      others = λ d le. c.loop-depth.invariant.others d (omega (arith, le, end, c.loop-depth.auto.depth-end));
    } in
    let deep : p.depth ≡ path.depth =
    sym (rounds_to-length p.numbers p.values p.depth) ∙ sym (length-map (rounds_of p) (λ (r : Round). r.number)) ∙ ap (λ (ns : List ℕ). length ns) same
    ∙ length-map (rounds_of path) (λ (r : Round). r.number) ∙ rounds_to-length path.numbers path.values path.depth in
    let rounds : rounds_of p ≡ rounds_to path.numbers p.values path.depth =
    ap (rounds_to p.numbers p.values) deep ∙ same_numbers path.numbers p.numbers path.values p.values path.depth (sym (ap (λ n. numbers_of (rounds_to p.numbers p.values n)) deep) ∙ same) in
    let values = sym (by_depth-all p.numbers p.values p.depth p.six p.within p.left_over) in
    let affine = affine-cell (pos (first_cell tree a.variable)) path.numbers path.depth (bounds_of tree a.variable) a.subscripts (param_values tree) in
    let around = numbers_of (rounds_of path) in
    let there = good_access-there tree around a c.requires.good in
    let exact = exact_cell tree a (rounds_of p) c.args.program.now.formed c.args.program.now.limits there.low there.high there.as_many (good_access-forms (scope_of tree) around a c.requires.good) numbers inside in
    let sum = form_is g path.depth base steps p.values affine are c.loop-depth.invariant.six p.six (λ d le. left_over-at p.values p.depth d p.left_over (omega (arith, le, deep))) in
    let value = ap (λ vs. count_of (wrapped (base +ℤ dot_by_depth steps vs))) values ∙ ap count_of sum ∙ ap (λ rs. count_of (wrapped (cell_among tree a rs))) (sym rounds) ∙ ap (λ z. count_of (wrapped z)) (sym exact.cell)
    ∙ cell_in_64_bits (access_cell tree (by_number (loops_of tree.items) (rounds_of p)) a) exact.small in
    (value, subst (λ n. n < cell_count tree) (sym value) exact.within)
