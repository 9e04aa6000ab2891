use Rattle.std.proofs.Common.{◌≡◌, true, false, set, refl, ap, ◌∙◌, sym, w64, FitsSigned, to_z, of_z, arith, rules}
use Rattle.std.proofs.lemmas.Int.{to_z-of_z}
use Rattle.std.proofs.lemmas.List.{get_or_default}
use Rattle.fork_join.specs.Overlays.{laid_in, stretched}
use Rattle.fork_join.specs.StoreLists.{entries_of}
use Rattle.fork_join.proofs.Laying.{laid_set}
use Rattle.fork_join.proofs.stores.Stores.set.Goals as goal

pub returns-then-index-clause-laid : goal.returns-then-index-clause-laid
returns-then-index-clause-laid c memory =
    let s = c.args.self.now in let kept = c.requires.kept in
    let cells = stretched s.stretches.items in
    let mark = c.index.ensures ∙ get_or_default s.stored.items c.args.cell c.index.result.now false c.requires.inside in
    let is : c.index.result.now ≡ true = search rules in
    let v = c.args.value in
    let fits : FitsSigned w64 v = search rules in
    laid_set cells cells s.values.items memory c.args.cell (to_z w64 (of_z w64 v)) (omega (arith, kept.values, c.requires.inside)) (kept.marked.marked c.args.cell ∙ sym mark ∙ is) (λ d other. refl)
    ∙ ap (set (laid_in (entries_of s) memory) c.args.cell) (to_z-of_z w64 v fits)

pub add-requires-clause-none : goal.add-requires-clause-none
add-requires-clause-none c =
    let s = c.args.self.now in
    let mark = c.index.ensures ∙ get_or_default s.stored.items c.args.cell c.index.result.now false c.requires.inside in
    let is : c.index.result.now ≡ false = search rules in
    sym mark ∙ is
