use Rattle.std.proofs.Common.{◌≡◌, ℕ, suc, ◌+◌, ◌-◌, ◌^◌, drop, min, ap, sym, ◌∙◌, arith}
use Rattle.std.specs.Io.Iter.{u64_saturate}
use Rattle.std.specs.Prelude.{if◌then◌else◌}
use Rattle.nest_tree.specs.View.{statement_of, statements_from}
use Rattle.nest_tree.proofs.Rows.{statement_of-Loop, statements_more}
use Rattle.std.proofs.lemmas.List.{at_drop_all}
use Rattle.own_scalars.specs.OwnScalars.{path_length, path_length_in}
use Rattle.own_scalars.proofs.scalars.+path.Goals as goal

pub path_length-returns-then-some_in : goal.path_length-returns-then-some_in
path_length-returns-then-some_in t c =
    let v = c.args.scalar in
    let s = statement_of c.item-item.result in
    let behind = statements_from (drop (c.loop-item.item-index + 1) c.args.body.now) in
    let more = ap (path_length v) (statements_more c.args.body.now c.loop-item.item-index c.item-item.result c.loop-item-test.true c.item-item.is) in
    c.path_length_in.ensures ∙ ap u64_saturate (sym (sym c.loop-item.invariant ∙ more ∙ ap (λ b. if b then path_length_in v s else path_length v behind) (sym c.some_in.ensures ∙ c.if-some_in.true)))

pub path_length-loop-item-preserved : goal.path_length-loop-item-preserved
path_length-loop-item-preserved t c =
    let v = c.args.scalar in
    let s = statement_of c.item-item.result in
    let behind = statements_from (drop (c.loop-item.item-index + 1) c.args.body.now) in
    let more = ap (path_length v) (statements_more c.args.body.now c.loop-item.item-index c.item-item.result c.loop-item-test.true c.item-item.is) in
    sym (more ∙ ap (λ b. if b then path_length_in v s else path_length v behind) (sym c.some_in.ensures ∙ c.if-some_in.false)) ∙ c.loop-item.invariant

pub path_length-returns : goal.path_length-returns
path_length-returns t c =
    let none = at_drop_all (λ xs. path_length c.args.scalar (statements_from xs)) c.args.body.now c.loop-item.item-index c.loop-item-test.false in
    ap u64_saturate (sym none ∙ c.loop-item.invariant)

saturated : (n r : ℕ) → r ≡ min (u64_saturate n + 1) (2 ^ 64 - 1) → r ≡ u64_saturate (suc n)
saturated n r is = omega arith

pub path_length_in-returns-in-Loop : goal.path_length_in-returns-in-Loop
path_length_in-returns-in-Loop t c =
    let v = c.args.scalar in
    let inner = c.path_length.ensures ∙ ap (λ xs. u64_saturate (path_length v (statements_from xs))) c.deref.ensures.value in
    let whole = ap (path_length_in v) (ap statement_of c.in-Loop.is ∙ statement_of-Loop c.in-Loop.nest) in
    saturated (path_length v (statements_from c.in-Loop.nest.items.items)) c.saturating_add.result (c.saturating_add.ensures ∙ ap (λ n. min (n + 1) (2 ^ 64 - 1)) inner) ∙ ap u64_saturate (sym whole)
