use Rattle.std.proofs.Common.{◌≡◌, ◌+◌, ◌∷◌, [], ◌++◌, length, take, ap, sym, ◌∙◌, subst, arith}
use Rattle.std.specs.List.{range_with_len}
use Rattle.std.proofs.lemmas.List.{take_all, take_more}
use Rattle.list_lemmas.proofs.Ranges.{range-more}
use Rattle.presolve.specs.Columns.{AreRising}
use Rattle.nest_rows.specs.declared.constraint.Constraint.{Constraint}
use Rattle.nest_systems.specs.Kept.{HasKept}
use Rattle.nest_systems.proofs.KeptRowLists.{keeps-both, keeps-none, kept-vars}
use Rattle.nest_systems.proofs.kept.KeptRows.push_all.Goals as goal

pub loop-index-init : goal.loop-index-init
loop-index-init c = keeps-none c.args.self.now

pub loop-index-preserved : goal.loop-index-preserved
loop-index-preserved c =
    let cs = c.args.constraints.now in
    let i = c.loop-index.index in
    let x = c.index-constraints-index.result in
    let old = c.args.self.now in
    let new = c.push.new.self in
    let lt = c.loop-index-test.true in
    let at : c.args.before + i + 1 ≡ c.args.before + 1 + i = omega arith in
    let one = subst (λ n. HasKept (x ∷ []) (n ∷ []) c.loop-index.self new) at c.in_ok-push.ensures in
    let both = keeps-both (take i cs) (x ∷ []) (range_with_len (c.args.before + 1) i) ((c.args.before + 1 + i) ∷ []) old c.loop-index.self new c.loop-index.invariant one in
    let taken : take (i + 1) cs ≡ take i cs ++ x ∷ [] = take_more cs i x lt ∙ ap (λ (y : Constraint). take i cs ++ y ∷ []) (sym c.index-constraints-index.is) in
    subst (λ ys. HasKept ys (range_with_len (c.args.before + 1) (i + 1)) old new) (sym taken)
    (subst (λ ns. HasKept (take i cs ++ x ∷ []) ns old new) (sym (range-more (c.args.before + 1) i)) both)

pub returns : goal.returns
returns c =
    let cs = c.args.constraints.now in
    let i = c.loop-index.index in
    let e : i ≡ length cs = omega arith in
    subst (λ n. HasKept cs (range_with_len (c.args.before + 1) n) c.args.self.now c.loop-index.self) e
    (subst (λ xs. HasKept xs (range_with_len (c.args.before + 1) i) c.args.self.now c.loop-index.self) (take_all i cs c.loop-index-test.false) c.loop-index.invariant)

pub push-requires-clause-rising : goal.push-requires-clause-rising
push-requires-clause-rising c = let (vars, rising) = c.requires.rising in (vars, subst (λ (cols : _). AreRising 0 vars cols.now) (sym c.loop-index.invariant.columns) rising)

pub push-requires-clause-vars : goal.push-requires-clause-vars
push-requires-clause-vars c = kept-vars _ _ c.args.self.now c.loop-index.self c.loop-index.invariant c.requires.vars
