use Rattle.std.proofs.Common.{◌≡◌, ◌<◌, List, ◌++◌, length, map, take, inl, inr, OnOk, ap, sym, ◌∙◌, subst, rules, arith}
use Rattle.std.proofs.lemmas.List.{map-append, take_all}
use Rattle.std.proofs.lemmas.Result.{on_ok_weaker}
use Rattle.nest_tree.specs.Loads.{loads_among, loads_in}
use Rattle.nest_tree.specs.View.{expression_of, expressions_from, tree_of}
use Rattle.nest_tree.specs.WellFormed.{are_good_expressions, is_good_expression, scope_of}
use Rattle.nest_tree.specs.declared.tree.Expr.{the_lemmas}
use Rattle.nest_tree.proofs.Rows.{expression_of-Max, expression_of-Min}
use Rattle.nest_walk.specs.Grown.{GrewBy}
use Rattle.nest_walk.specs.Places.{numbers_of}
use Rattle.nest_walk.specs.RoundsOf.{rounds_of}
use Rattle.nest_walk.specs.Tables.{AreLoadCells, Loaded, element}
use Rattle.nest_walk.proofs.Grown.{grew-both, grew-none}
use Rattle.nest_walk.proofs.TableParts.{good_argument, greatest_of-good, least_of-good, loads_taken}
use Rattle.nest_walk.proofs.table.+loads.Goals as goal

pub push_all_loads-push_loads-requires : goal.push_all_loads-push_loads-requires
push_all_loads-push_loads-requires t c =
    let scope = scope_of (tree_of c.args.program.now) in
    let lt : c.loop-argument.argument-index < length c.args.arguments.now = omega arith in
    (search (rules, the_lemmas), good_argument scope (numbers_of (rounds_of c.args.path.now)) c.args.arguments.now c.loop-argument.argument-index c.argument-item.result lt c.argument-item.is c.requires.good)

pub push_all_loads-loop-argument-init : goal.push_all_loads-loop-argument-init
push_all_loads-loop-argument-init t c = grew-none _ _

pub push_all_loads-loop-argument-preserved : goal.push_all_loads-loop-argument-preserved
push_all_loads-loop-argument-preserved t c =
    let R = AreLoadCells (tree_of c.args.program.now) (numbers_of (rounds_of c.args.path.now)) in
    let lt : c.loop-argument.argument-index < length c.args.arguments.now = omega arith in
    let more = loads_taken c.args.arguments.now c.loop-argument.argument-index c.argument-item.result lt c.argument-item.is in
    subst (λ (xs : List Loaded). GrewBy R xs c.args.loads.now.items c.push_loads.new.loads.items) (sym more) (grew-both R _ _ _ _ _ c.loop-argument.invariant c.in_ok-push_loads.ensures)

pub push_all_loads-returns : goal.push_all_loads-returns
push_all_loads-returns t c =
    let R = AreLoadCells (tree_of c.args.program.now) (numbers_of (rounds_of c.args.path.now)) in
    let all : take c.loop-argument.argument-index c.args.arguments.now ≡ c.args.arguments.now = take_all c.loop-argument.argument-index c.args.arguments.now (omega arith) in
    subst (λ xs. GrewBy R (map element (loads_among (expressions_from xs))) c.args.loads.now.items c.loop-argument.loads.items) all c.loop-argument.invariant

pub push_loads-push_all_loads-requires : goal.push_loads-push_all_loads-requires
push_loads-push_all_loads-requires t c =
    let scope = scope_of (tree_of c.args.program.now) in
    let around = numbers_of (rounds_of c.args.path.now) in
    let e = ap expression_of c.in-Min.is ∙ expression_of-Min c.in-Min.arguments in
    let good = least_of-good scope around (expressions_from c.in-Min.arguments.items) (sym (ap (is_good_expression scope around) e) ∙ c.requires.good) in
    (search (rules, the_lemmas), ap (λ xs. are_good_expressions scope around (expressions_from xs)) c.deref.ensures.value ∙ good)

pub push_loads-push_all_loads-requires-in-Max : goal.push_loads-push_all_loads-requires-in-Max
push_loads-push_all_loads-requires-in-Max t c =
    let scope = scope_of (tree_of c.args.program.now) in
    let around = numbers_of (rounds_of c.args.path.now) in
    let e = ap expression_of c.in-Max.is ∙ expression_of-Max c.in-Max.arguments in
    let good = greatest_of-good scope around (expressions_from c.in-Max.arguments.items) (sym (ap (is_good_expression scope around) e) ∙ c.requires.good) in
    (search (rules, the_lemmas), ap (λ xs. are_good_expressions scope around (expressions_from xs)) c.deref-in-Max.ensures.value ∙ good)

pub push_loads-returns-in-Min : goal.push_loads-returns-in-Min
push_loads-returns-in-Min t c =
    let R = AreLoadCells (tree_of c.args.program.now) (numbers_of (rounds_of c.args.path.now)) in
    let same = ap (λ e. map element (loads_in e)) (ap expression_of c.in-Min.is ∙ expression_of-Min c.in-Min.arguments) ∙ ap (λ xs. map element (loads_among (expressions_from xs))) (sym c.deref.ensures.value) in
    subst (λ (xs : List Loaded). OnOk c.push_all_loads.result (GrewBy R xs c.args.loads.now.items c.push_all_loads.new.loads.items)) (sym same) c.push_all_loads.ensures

pub push_loads-returns-in-Max : goal.push_loads-returns-in-Max
push_loads-returns-in-Max t c =
    let R = AreLoadCells (tree_of c.args.program.now) (numbers_of (rounds_of c.args.path.now)) in
    let same = ap (λ e. map element (loads_in e)) (ap expression_of c.in-Max.is ∙ expression_of-Max c.in-Max.arguments) ∙ ap (λ xs. map element (loads_among (expressions_from xs))) (sym c.deref-in-Max.ensures.value) in
    subst (λ (xs : List Loaded). OnOk c.push_all_loads-in-Max.result (GrewBy R xs c.args.loads.now.items c.push_all_loads-in-Max.new.loads.items)) (sym same) c.push_all_loads-in-Max.ensures

pub push_loads-returns-in_ok-push_loads-in-Add : goal.push_loads-returns-in_ok-push_loads-in-Add
push_loads-returns-in_ok-push_loads-in-Add t c =
    let R = AreLoadCells (tree_of c.args.program.now) (numbers_of (rounds_of c.args.path.now)) in
    let old = c.args.loads.now.items in
    let middle = c.push_loads.new.loads.items in
    let new = c.push_loads-in-Add.new.loads.items in
    let a = map element (loads_in (expression_of c.in-Add.a.value)) in
    let b = map element (loads_in (expression_of c.in-Add.b.value)) in
    let split = map-append element (loads_in (expression_of c.in-Add.a.value)) (loads_in (expression_of c.in-Add.b.value)) in
    let both : map element (loads_in (expression_of c.args.e.now)) ≡ a ++ b = elim c.in-Add.is [ inl h ↦ ap (λ e. map element (loads_in (expression_of e))) h ∙ split | inr k ↦ elim k [ inl h ↦ ap (λ e. map element (loads_in (expression_of e))) h ∙ split | inr h ↦ ap (λ e. map element (loads_in (expression_of e))) h ∙ split ] ] in
    let first = subst (λ e. GrewBy R (map element (loads_in (expression_of e))) old middle) c.deref-in-Add.ensures c.in_ok-push_loads-in-Add.ensures in
    let second = subst (λ e. OnOk c.push_loads-in-Add.result (GrewBy R (map element (loads_in (expression_of e))) middle new)) c.deref-in-Add-2.ensures c.push_loads-in-Add.ensures in
    on_ok_weaker c.push_loads-in-Add.result (λ (more : GrewBy R b middle new). subst (λ (xs : List Loaded). GrewBy R xs old new) (sym both) (grew-both R a b old middle new first more)) second

pub push_loads-returns-in-Neg : goal.push_loads-returns-in-Neg
push_loads-returns-in-Neg t c =
    let R = AreLoadCells (tree_of c.args.program.now) (numbers_of (rounds_of c.args.path.now)) in
    let same : map element (loads_in (expression_of c.args.e.now)) ≡ map element (loads_in (expression_of c.in-Neg.a.value)) = elim c.in-Neg.is [ inl h ↦ ap (λ e. map element (loads_in (expression_of e))) h | inr h ↦ ap (λ e. map element (loads_in (expression_of e))) h.1 ] in
    subst (λ (xs : List Loaded). OnOk c.push_loads-in-Neg.result (GrewBy R xs c.args.loads.now.items c.push_loads-in-Neg.new.loads.items))
    (ap (λ e. map element (loads_in (expression_of e))) c.deref-in-Neg.ensures ∙ sym same) c.push_loads-in-Neg.ensures
