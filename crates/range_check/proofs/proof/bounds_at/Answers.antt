use Rattle.std.proofs.Common.{◌<◌, ℤ, pos, List, length, get_or, ap, sym, ◌∙◌, arith}
use Rattle.std.proofs.lemmas.List.{get_or_default}
use Rattle.std.proofs.lemmas.List.Sums.{AllPass-from_list_all}
use Rattle.nest_tree.specs.Layout.{bounds_of}
use Rattle.nest_tree.specs.View.{declaration_of, tree_of}
use Rattle.nest_tree.specs.WellFormed.{is_good_dimension}
use Rattle.nest_tree.proofs.Cells.{declared-numbered}
use Rattle.nest_tree.proofs.Places.{good_declaration}
use Rattle.range_check.proofs.proof.bounds_at.Goals as goal

pub index-requires-2 : goal.index-requires-2
index-requires-2 c =
    let p = c.args.program.now in
    let a = c.args.access.now in
    let v = c.index.result.now in
    let d = declared-numbered p a.variable v c.args.program.now.formed c.requires.there.low c.requires.there.high c.index.ensures in
    omega (arith, ap (λ (bs : List (ℤ × ℤ)). length bs) d.bounds, c.requires.place, v.bounds.ok.0)

pub returns-clause-bounds : goal.returns-clause-bounds
returns-clause-bounds c =
    let p = c.args.program.now in
    let a = c.args.access.now in
    let v = c.index.result.now in
    let d = declared-numbered p a.variable v c.args.program.now.formed c.requires.there.low c.requires.there.high c.index.ensures in
    c.index-2.ensures ∙ ap (λ bs. get_or bs c.args.place c.index-2.result.now) (sym d.bounds) ∙ get_or_default (bounds_of (tree_of p) a.variable) c.args.place c.index-2.result.now (pos 0, pos 0) c.requires.place

pub returns-clause-good : goal.returns-clause-good
returns-clause-good c =
    let p = c.args.program.now in
    let a = c.args.access.now in
    let v = c.index.result.now in
    let d = declared-numbered p a.variable v c.args.program.now.formed c.requires.there.low c.requires.there.high c.index.ensures in
    let lt : c.args.place < length v.bounds.items = omega (arith, ap (λ (bs : List (ℤ × ℤ)). length bs) d.bounds, c.requires.place) in
    ap is_good_dimension c.index-2.ensures ∙ AllPass-from_list_all is_good_dimension v.bounds.items (good_declaration (declaration_of v) d.good).0 c.args.place c.index-2.result.now lt
