use Rattle.std.proofs.Common.{arith, rules, ap, sym, ◌∙◌, ℤ, length-append, length-drop, w64, ◌≡◌, to_z, of_z, FitsSigned, drop, length, subst, ◌≤◌, IsTrue}
use Rattle.std.specs.Int.{int_min, int_max}
use Rattle.std.proofs.lemmas.Bool.{and_parts}
use Rattle.std.proofs.lemmas.Int.{to_z-of_z}
use Rattle.nest_tree.specs.View.{expression_of}
use Rattle.nest_tree.specs.declared.tree.Access.{Access}
use Rattle.nest_tree.specs.declared.tree.Expr.{the_lemmas}
use Rattle.nest_tree.proofs.tree.Expr.TheLaws.{the_size}
use Rattle.nest_tree.proofs.Rows.{expression_of-Max, expression_of-Min}
use Rattle.nest_model.specs.Meaning.{has_value, value_of}
use Rattle.seq_meaning.proofs.Values.{arguments_valued-Min, arguments_valued-Max, Remains-cast, Remains-head, most_behind_first}
use Rattle.seq_meaning.proofs.value.Given.+value.Goals as goal
use Rattle.nest_tree.specs.Loads.{loads_in}

pub value-operand-requires-in-Add : goal.value-operand-requires-in-Add
value-operand-requires-in-Add t c =
    let v = rw c.in-Add.is at c.requires.valued in
    let l = rw c.in-Add.is at c.requires.loads in (
      search (rules, the_lemmas),
      (
        rw c.deref-in-Add-2.ensures (and_parts _ _ v).1,
        rw (c.deref-in-Add-2.ensures, c.operand-x.ensures.rest, c.deref-in-Add.ensures) (omega (arith, length-drop {A = ℤ}, length-append {A = Access})),
      ),
    )

pub value-operand-requires-in-Sub : goal.value-operand-requires-in-Sub
value-operand-requires-in-Sub t c =
    let v = rw c.in-Sub.is at c.requires.valued in
    let l = rw c.in-Sub.is at c.requires.loads in (
      search (rules, the_lemmas),
      (
        rw c.deref-in-Sub-2.ensures (and_parts _ _ v).1,
        rw (c.deref-in-Sub-2.ensures, c.operand-x-in-Sub.ensures.rest, c.deref-in-Sub.ensures) (omega (arith, length-drop {A = ℤ}, length-append {A = Access})),
      ),
    )

pub value-operand-requires-in-Mul : goal.value-operand-requires-in-Mul
value-operand-requires-in-Mul t c =
    let v = rw c.in-Mul.is at c.requires.valued in
    let l = rw c.in-Mul.is at c.requires.loads in (
      search (rules, the_lemmas),
      (
        rw c.deref-in-Mul-2.ensures (and_parts _ _ v).1,
        rw (c.deref-in-Mul-2.ensures, c.operand-x-in-Mul.ensures.rest, c.deref-in-Mul.ensures) (omega (arith, length-drop {A = ℤ}, length-append {A = Access})),
      ),
    )

pub value-least-requires : goal.value-least-requires
value-least-requires t c =
    let e = ap expression_of c.in-Min.is ∙ expression_of-Min c.in-Min.arguments in
    let w = arguments_valued-Min _ _ _ (subst (λ x. IsTrue (has_value (length c.args.self.now.loops.now) (length c.args.self.now.params.now) x)) e c.requires.valued) in
    let l = subst (λ x. length (loads_in x) ≤ length (drop c.args.at.now c.args.self.now.loaded.now)) e c.requires.loads in
    (search (rules, the_lemmas), rw c.deref-in-Min.ensures.value (w.0, (w.1, l)))

pub value-greatest-requires : goal.value-greatest-requires
value-greatest-requires t c =
    let e = ap expression_of c.in-Max.is ∙ expression_of-Max c.in-Max.arguments in
    let w = arguments_valued-Max _ _ _ (subst (λ x. IsTrue (has_value (length c.args.self.now.loops.now) (length c.args.self.now.params.now) x)) e c.requires.valued) in
    let l = subst (λ x. length (loads_in x) ≤ length (drop c.args.at.now c.args.self.now.loaded.now)) e c.requires.loads in
    (search (rules, the_lemmas), rw c.deref-in-Max.ensures.value (w.0, (w.1, l)))

pub value-returns-in-Min-clause-value : goal.value-returns-in-Min-clause-value
value-returns-in-Min-clause-value t c =
    let v = rw c.deref-in-Min.ensures.value at c.least.ensures.value in
    let e = ap (λ x. value_of x c.args.self.now.loops.now c.args.self.now.params.now (drop c.args.at.now c.args.self.now.loaded.now)) (ap expression_of c.in-Min.is ∙ expression_of-Min c.in-Min.arguments) in
    let fits : FitsSigned w64 c.least.result = search rules in
    rw (to_z-of_z w64 c.least.result fits) (v ∙ sym e)

pub value-returns-in-Max-clause-value : goal.value-returns-in-Max-clause-value
value-returns-in-Max-clause-value t c =
    let v = rw c.deref-in-Max.ensures.value at c.greatest.ensures.value in
    let e = ap (λ x. value_of x c.args.self.now.loops.now c.args.self.now.params.now (drop c.args.at.now c.args.self.now.loaded.now)) (ap expression_of c.in-Max.is ∙ expression_of-Max c.in-Max.arguments) in
    let fits : FitsSigned w64 c.greatest.result = search rules in
    rw (to_z-of_z w64 c.greatest.result fits) (v ∙ sym e)

pub value-returns-in-Min-clause-rest : goal.value-returns-in-Min-clause-rest
value-returns-in-Min-clause-rest t c =
    let v = rw c.deref-in-Min.ensures.value at c.least.ensures.rest in
    let e = ap (λ x. drop (length (loads_in x)) (drop c.args.at.now c.args.self.now.loaded.now)) (ap expression_of c.in-Min.is ∙ expression_of-Min c.in-Min.arguments) in
    v ∙ sym e

pub value-returns-in-Max-clause-rest : goal.value-returns-in-Max-clause-rest
value-returns-in-Max-clause-rest t c =
    let v = rw c.deref-in-Max.ensures.value at c.greatest.ensures.rest in
    let e = ap (λ x. drop (length (loads_in x)) (drop c.args.at.now c.args.self.now.loaded.now)) (ap expression_of c.in-Max.is ∙ expression_of-Max c.in-Max.arguments) in
    v ∙ sym e

pub least-value-requires : goal.least-value-requires
least-value-requires t c =
    let h = Remains-head _ _ _ c.loop-e.e-index _ _ _ _ _ _ c.loop-e-test.true c.e-item.is c.loop-e.invariant in
    let lighter = most_behind_first the_size c.args.arguments.now c.loop-e.e-index _ c.loop-e-test.true c.e-item.is in
    (omega (arith, c.decreases, lighter), (h.0, h.1))

pub greatest-value-requires : goal.greatest-value-requires
greatest-value-requires t c =
    let h = Remains-head _ _ _ c.loop-e.e-index _ _ _ _ _ _ c.loop-e-test.true c.e-item.is c.loop-e.invariant in
    let lighter = most_behind_first the_size c.args.arguments.now c.loop-e.e-index _ c.loop-e-test.true c.e-item.is in
    (omega (arith, c.decreases, lighter), (h.0, h.1))

pub least-loop-e-preserved : goal.least-loop-e-preserved
least-loop-e-preserved t c =
    let fits : FitsSigned w64 c.value.result = search rules in
    let step = λ (next : ℤ) (h : FitsSigned w64 next) (p : next ≡ int_min (to_z w64 c.loop-e.best-bits) (to_z w64 (of_z w64 c.value.result))).
    Remains-cast int_min _ _ next _ c.loop-e.e-index _ _ _ _ _ _ _ c.loop-e-test.true c.e-item.is fits c.value.ensures.value c.value.ensures.rest c.loop-e.invariant h p in
    search (rules, step)

pub greatest-loop-e-preserved : goal.greatest-loop-e-preserved
greatest-loop-e-preserved t c =
    let fits : FitsSigned w64 c.value.result = search rules in
    let step = λ (next : ℤ) (h : FitsSigned w64 next) (p : next ≡ int_max (to_z w64 c.loop-e.best-bits) (to_z w64 (of_z w64 c.value.result))).
    Remains-cast int_max _ _ next _ c.loop-e.e-index _ _ _ _ _ _ _ c.loop-e-test.true c.e-item.is fits c.value.ensures.value c.value.ensures.rest c.loop-e.invariant h p in
    search (rules, step)
