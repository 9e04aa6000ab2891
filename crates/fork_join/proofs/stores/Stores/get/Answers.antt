use Rattle.std.proofs.Common.{◌≡◌, true, false, pos, ◌∙◌, sym, w64, FitsSigned, arith, rules}
use Rattle.std.proofs.lemmas.Int.{to_z-of_z}
use Rattle.std.proofs.lemmas.List.{get_or_default}
use Rattle.fork_join.specs.Overlays.{stretched}
use Rattle.fork_join.proofs.Laying.{laid_away, laid_there}
use Rattle.fork_join.proofs.stores.Stores.get.Goals as goal

pub returns-then-index : goal.returns-then-index
returns-then-index c memory inside =
    let s = c.args.self.now in let kept = c.requires.kept in
    let mark = c.index.ensures ∙ get_or_default s.stored.items c.args.cell c.index.result.now false c.requires.inside in
    let is : c.index.result.now ≡ true = search rules in
    let v = c.index-then-index.result.now in
    let fits : FitsSigned w64 v = search rules in
    laid_there (stretched s.stretches.items) s.values.items memory c.args.cell inside (kept.marked.marked c.args.cell ∙ sym mark ∙ is)
    ∙ get_or_default s.values.items c.args.cell (pos 0) v (omega (arith, kept.values, c.requires.inside)) ∙ sym c.index-then-index.ensures ∙ sym (to_z-of_z w64 v fits)

pub returns-else-index : goal.returns-else-index
returns-else-index c memory inside =
    let s = c.args.self.now in let kept = c.requires.kept in
    let mark = c.index.ensures ∙ get_or_default s.stored.items c.args.cell c.index.result.now false c.requires.inside in
    let is : c.index.result.now ≡ false = search rules in
    laid_away (stretched s.stretches.items) s.values.items memory c.args.cell inside (kept.marked.marked c.args.cell ∙ sym mark ∙ is)
