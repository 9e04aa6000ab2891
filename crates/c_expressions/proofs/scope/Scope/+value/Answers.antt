use Rattle.std.proofs.Common.{rules, ◌≡◌, ◌+◌, ◌-◌, ◌++◌, [], suc, codes, length, take, ◌∷◌, ap, sym, ◌∙◌, subst, arith, FitsSigned, w64, IsTrue, OnOk, string_bytes, if◌then◌else◌}
use Rattle.std.proofs.lemmas.Int.{to_z-of_z}
use Rattle.std.proofs.lemmas.List.{nil_from_length}
use Rattle.std.proofs.lemmas.Result.{on_ok_weaker}
use Rattle.list_lemmas.proofs.Appending.{take-cons_all}
use Rattle.nest_tree.specs.Tree.{neg, add, sub, mul, div, least_of, greatest_of}
use Rattle.nest_tree.specs.View.{expression_of, expressions_from, tree_of}
use Rattle.nest_tree.proofs.Rows.{expression_of-Max, expression_of-Min}
use Rattle.c_expressions.specs.Grammar.{Appends, is_name, postfix, unary}
use Rattle.c_expressions.specs.Numbers.{literal_of, word_of}
use Rattle.c_expressions.specs.Told.{AppendsValue}
use Rattle.c_expressions.proofs.Telling.{ChosenSoFar, add_told, chosen_all, chosen_first, chosen_next, chosen_none, div_told, greatest_told, least_told, load_told, loop_told, mul_told, neg_told, number_told, param_told, sub_told, taken_first, taken_more}
use Rattle.c_expressions.proofs.scope.Scope.+value.Goals as goal

pub put_chosen-returns-in_default : goal.put_chosen-returns-in_default
put_chosen-returns-in_default t c =
    let none = nil_from_length c.args.arguments.now c.in_default.ensures.cases in
    on_ok_weaker c.put_text.result (chosen_none (tree_of c.args.self.now.program.now) c.args.self.now.privates.now c.args.word.now c.args.arguments.now _ _ none) c.put_text.ensures

pub put_chosen-loop-e-init : goal.put_chosen-loop-e-init
put_chosen-loop-e-init t c =
    let tree = tree_of c.args.self.now.program.now in
    let privates = c.args.self.now.privates.now in
    let rest = c.in-Some.rest.now in
    let old = string_bytes c.args.out.now in
    let new = string_bytes c.put_value.new.out in
    let value = subst (λ place. AppendsValue tree privates (expression_of c.in-Some.first.now) place (string_bytes c.put_opens.new.out) new) c.place_of_first.ensures c.in_ok-put_value.ensures in
    let first = chosen_first tree privates c.args.word.now c.in-Some.first.now (length rest) old (string_bytes c.put_opens.new.out) new c.in_ok-put_opens.ensures value in
    let zero : length rest ≡ length rest - 0 = omega arith in
    subst (λ es. ChosenSoFar tree privates c.args.word.now es (length rest - 0) old new) (sym (taken_first c.args.arguments.now rest c.in-Some.first.now c.in-Some.ensures.cases.0))
    (subst (λ n. ChosenSoFar tree privates c.args.word.now (c.in-Some.first.now ∷ []) n old new) zero first)

pub put_chosen-loop-e-preserved : goal.put_chosen-loop-e-preserved
put_chosen-loop-e-preserved t c =
    let tree = tree_of c.args.self.now.program.now in
    let privates = c.args.self.now.privates.now in
    let rest = c.in-Some.rest.now in
    let i = c.loop-e.e-index in
    let old = string_bytes c.args.out.now in
    let new = string_bytes c.put_text-in-loop-e-2.new.out in
    let so_far = take (i + 1) c.args.arguments.now in
    let good : IsTrue (is_name c.args.word.now) = search rules in
    let less : length rest - i ≡ suc (length rest - (i + 1)) = let lt = c.loop-e-test.true in omega (arith, lt) in
    let before = subst (λ n. ChosenSoFar tree privates c.args.word.now so_far n old (string_bytes c.loop-e.out)) less c.loop-e.invariant in
    subst (λ es. ChosenSoFar tree privates c.args.word.now es (length rest - (i + 1)) old new) (taken_more c.args.arguments.now rest c.in-Some.first.now c.e-item.result i c.in-Some.ensures.cases.0 c.loop-e-test.true c.e-item.is)
    (chosen_next tree privates c.args.word.now so_far c.e-item.result (length rest - (i + 1)) old (string_bytes c.loop-e.out) _ _ new good before c.in_ok-put_text.ensures c.in_ok-put_value-2.ensures c.in_ok-put_text-2.ensures)

pub put_chosen-returns : goal.put_chosen-returns
put_chosen-returns t c =
    let tree = tree_of c.args.self.now.program.now in
    let privates = c.args.self.now.privates.now in
    let rest = c.in-Some.rest.now in
    let i = c.loop-e.e-index in
    let none : length rest - i ≡ 0 = let le = c.loop-e-test.false in omega (arith, le) in
    chosen_all tree privates c.args.word.now (take (i + 1) c.args.arguments.now) c.args.arguments.now (length rest - i) _ _ (take-cons_all c.args.arguments.now rest c.in-Some.first.now i c.in-Some.ensures.cases.0 c.loop-e-test.false) none c.loop-e.invariant

pub put_value-returns-in-Number : goal.put_value-returns-in-Number
put_value-returns-in-Number t c =
    let fits : FitsSigned w64 c.in-Number.number = search rules in
    let old = string_bytes c.args.out.now in
    let new = string_bytes c.put_word.new.out in
    let word = subst (λ z. OnOk c.put_word.result (Appends old new postfix (word_of (literal_of z)))) (to_z-of_z w64 c.in-Number.number fits) c.put_word.ensures in
    subst (λ x. OnOk c.put_word.result (AppendsValue (tree_of c.args.self.now.program.now) c.args.self.now.privates.now x c.args.place old new)) (sym (ap expression_of c.in-Number.is))
    (on_ok_weaker c.put_word.result (number_told (tree_of c.args.self.now.program.now) c.args.self.now.privates.now c.in-Number.number c.args.place old new) word)

pub put_value-returns-in-Param : goal.put_value-returns-in-Param
put_value-returns-in-Param t c =
    let fits : FitsSigned w64 c.parameter.result = search rules in
    let old = string_bytes c.args.out.now in
    let new = string_bytes c.put_word-in-Param.new.out in
    let word = subst (λ z. OnOk c.put_word-in-Param.result (Appends old new postfix (word_of (literal_of z)))) (to_z-of_z w64 c.parameter.result fits ∙ c.parameter.ensures) c.put_word-in-Param.ensures in
    subst (λ x. OnOk c.put_word-in-Param.result (AppendsValue (tree_of c.args.self.now.program.now) c.args.self.now.privates.now x c.args.place old new)) (sym (ap expression_of c.in-Param.is))
    (on_ok_weaker c.put_word-in-Param.result (param_told (tree_of c.args.self.now.program.now) c.args.self.now.privates.now c.in-Param.number c.args.place old new) word)

pub put_value-returns-in-LoopValue : goal.put_value-returns-in-LoopValue
put_value-returns-in-LoopValue t c =
    let old = string_bytes c.args.out.now in
    let new = string_bytes c.put_loop_word.new.out in
    subst (λ x. OnOk c.put_loop_word.result (AppendsValue (tree_of c.args.self.now.program.now) c.args.self.now.privates.now x c.args.place old new)) (sym (ap expression_of c.in-LoopValue.is))
    (on_ok_weaker c.put_loop_word.result (loop_told (tree_of c.args.self.now.program.now) c.args.self.now.privates.now c.in-LoopValue.number c.args.place old new) c.put_loop_word.ensures)

pub put_value-returns-in-Load : goal.put_value-returns-in-Load
put_value-returns-in-Load t c =
    let old = string_bytes c.args.out.now in
    let new = string_bytes c.put_access.new.out in
    subst (λ x. OnOk c.put_access.result (AppendsValue (tree_of c.args.self.now.program.now) c.args.self.now.privates.now x c.args.place old new)) (sym (ap expression_of c.in-Load.is))
    (on_ok_weaker c.put_access.result (load_told (tree_of c.args.self.now.program.now) c.args.self.now.privates.now c.in-Load.access c.args.place old new) c.put_access.ensures)

pub put_value-returns-in_ok-put_value-in-Neg : goal.put_value-returns-in_ok-put_value-in-Neg
put_value-returns-in_ok-put_value-in-Neg t c =
    let old = string_bytes c.args.out.now in
    let new = string_bytes c.put_if-in-Neg.new.out in
    let loose = c.is_looser-is_looser.ensures in
    let opened = c.in_ok-put_if-in-Neg.ensures ∙ ap (λ b. old ++ (if b then codes "(" else [])) loose in
    subst (λ x. OnOk c.put_if-in-Neg.result (AppendsValue (tree_of c.args.self.now.program.now) c.args.self.now.privates.now x c.args.place old new))
    (sym (ap expression_of c.in-Neg.is ∙ ap (λ a. neg (expression_of a)) (sym c.deref.ensures)))
    (on_ok_weaker c.put_if-in-Neg.result
    (λ h. neg_told (tree_of c.args.self.now.program.now) c.args.self.now.privates.now (expression_of c.deref.result.now) c.args.place old _ _ _ new opened c.in_ok-put_text-in-Neg.ensures c.in_ok-put_value-in-Neg.ensures
    (h ∙ ap (λ b. string_bytes c.put_value.new.out ++ (if b then codes ")" else [])) loose))
    c.put_if-in-Neg.ensures)

pub put_value-returns-in_ok-put_value-in-Add-2 : goal.put_value-returns-in_ok-put_value-in-Add-2
put_value-returns-in_ok-put_value-in-Add-2 t c =
    let old = string_bytes c.args.out.now in
    let new = string_bytes c.put_if-in-Add-2.new.out in
    let loose = c.is_looser-is_looser-in-Add.ensures in
    let opened = c.in_ok-put_if-in-Add.ensures ∙ ap (λ b. old ++ (if b then codes "(" else [])) loose in
    let is = ap expression_of c.in-Add.is ∙ ap (λ a. add (expression_of a) (expression_of c.in-Add.b.value)) (sym c.deref-in-Add.ensures) ∙ ap (λ b. add (expression_of c.deref-in-Add.result.now) (expression_of b)) (sym c.deref-in-Add-2.ensures) in
    subst (λ x. OnOk c.put_if-in-Add-2.result (AppendsValue (tree_of c.args.self.now.program.now) c.args.self.now.privates.now x c.args.place old new)) (sym is)
    (on_ok_weaker c.put_if-in-Add-2.result
    (λ h. add_told (tree_of c.args.self.now.program.now) c.args.self.now.privates.now (expression_of c.deref-in-Add.result.now) (expression_of c.deref-in-Add-2.result.now) c.args.place old _ _ _ _ new opened
    c.in_ok-put_value-in-Add.ensures c.in_ok-put_text-in-Add.ensures c.in_ok-put_value-in-Add-2.ensures (h ∙ ap (λ b. string_bytes c.put_value-in-Add-2.new.out ++ (if b then codes ")" else [])) loose))
    c.put_if-in-Add-2.ensures)

pub put_value-returns-in_ok-put_value-in-Sub-2 : goal.put_value-returns-in_ok-put_value-in-Sub-2
put_value-returns-in_ok-put_value-in-Sub-2 t c =
    let old = string_bytes c.args.out.now in
    let new = string_bytes c.put_if-in-Sub-2.new.out in
    let loose = c.is_looser-is_looser-in-Sub.ensures in
    let opened = c.in_ok-put_if-in-Sub.ensures ∙ ap (λ b. old ++ (if b then codes "(" else [])) loose in
    let is = ap expression_of c.in-Sub.is ∙ ap (λ a. sub (expression_of a) (expression_of c.in-Sub.b.value)) (sym c.deref-in-Sub.ensures) ∙ ap (λ b. sub (expression_of c.deref-in-Sub.result.now) (expression_of b)) (sym c.deref-in-Sub-2.ensures) in
    subst (λ x. OnOk c.put_if-in-Sub-2.result (AppendsValue (tree_of c.args.self.now.program.now) c.args.self.now.privates.now x c.args.place old new)) (sym is)
    (on_ok_weaker c.put_if-in-Sub-2.result
    (λ h. sub_told (tree_of c.args.self.now.program.now) c.args.self.now.privates.now (expression_of c.deref-in-Sub.result.now) (expression_of c.deref-in-Sub-2.result.now) c.args.place old _ _ _ _ new opened
    c.in_ok-put_value-in-Sub.ensures c.in_ok-put_text-in-Sub.ensures c.in_ok-put_value-in-Sub-2.ensures (h ∙ ap (λ b. string_bytes c.put_value-in-Sub-2.new.out ++ (if b then codes ")" else [])) loose))
    c.put_if-in-Sub-2.ensures)

pub put_value-returns-in_ok-put_value-in-Mul-2 : goal.put_value-returns-in_ok-put_value-in-Mul-2
put_value-returns-in_ok-put_value-in-Mul-2 t c =
    let old = string_bytes c.args.out.now in
    let new = string_bytes c.put_if-in-Mul-2.new.out in
    let loose = c.is_looser-is_looser-in-Mul.ensures in
    let opened = c.in_ok-put_if-in-Mul.ensures ∙ ap (λ b. old ++ (if b then codes "(" else [])) loose in
    let is = ap expression_of c.in-Mul.is ∙ ap (λ a. mul (expression_of a) (expression_of c.in-Mul.b.value)) (sym c.deref-in-Mul.ensures) ∙ ap (λ b. mul (expression_of c.deref-in-Mul.result.now) (expression_of b)) (sym c.deref-in-Mul-2.ensures) in
    subst (λ x. OnOk c.put_if-in-Mul-2.result (AppendsValue (tree_of c.args.self.now.program.now) c.args.self.now.privates.now x c.args.place old new)) (sym is)
    (on_ok_weaker c.put_if-in-Mul-2.result
    (λ h. mul_told (tree_of c.args.self.now.program.now) c.args.self.now.privates.now (expression_of c.deref-in-Mul.result.now) (expression_of c.deref-in-Mul-2.result.now) c.args.place old _ _ _ _ new opened
    c.in_ok-put_value-in-Mul.ensures c.in_ok-put_text-in-Mul.ensures c.in_ok-put_value-in-Mul-2.ensures (h ∙ ap (λ b. string_bytes c.put_value-in-Mul-2.new.out ++ (if b then codes ")" else [])) loose))
    c.put_if-in-Mul-2.ensures)

pub put_value-returns-in_ok-put_literal-in-Div : goal.put_value-returns-in_ok-put_literal-in-Div
put_value-returns-in_ok-put_literal-in-Div t c =
    let fits : FitsSigned w64 c.in-Div.divisor = search rules in
    let old = string_bytes c.args.out.now in
    let new = string_bytes c.put_text-in-Div-3.new.out in
    let literal = subst (λ z. Appends (string_bytes c.put_text-in-Div-2.new.out) (string_bytes c.put_literal.new.out) unary (literal_of z)) (to_z-of_z w64 c.in-Div.divisor fits) c.in_ok-put_literal-in-Div.ensures in
    subst (λ x. OnOk c.put_text-in-Div-3.result (AppendsValue (tree_of c.args.self.now.program.now) c.args.self.now.privates.now x c.args.place old new))
    (sym (ap expression_of c.in-Div.is ∙ ap (λ a. div (expression_of a) c.in-Div.divisor) (sym c.deref-in-Div.ensures)))
    (on_ok_weaker c.put_text-in-Div-3.result
    (div_told (tree_of c.args.self.now.program.now) c.args.self.now.privates.now (expression_of c.deref-in-Div.result.now) c.in-Div.divisor c.args.place old _ _ _ _ new c.in_ok-put_text-in-Div.ensures c.in_ok-put_value-in-Div.ensures c.in_ok-put_text-in-Div-2.ensures literal)
    c.put_text-in-Div-3.ensures)

pub put_value-returns-in-Min : goal.put_value-returns-in-Min
put_value-returns-in-Min t c =
    let old = string_bytes c.args.out.now in
    let new = string_bytes c.put_chosen.new.out in
    let is = ap expression_of c.in-Min.is ∙ expression_of-Min c.in-Min.arguments ∙ ap (λ xs. least_of (expressions_from xs)) (sym c.deref-in-Min.ensures.value) in
    subst (λ x. OnOk c.put_chosen.result (AppendsValue (tree_of c.args.self.now.program.now) c.args.self.now.privates.now x c.args.place old new)) (sym is)
    (on_ok_weaker c.put_chosen.result (least_told (tree_of c.args.self.now.program.now) c.args.self.now.privates.now (expressions_from c.deref-in-Min.result.now) c.args.place old new) c.put_chosen.ensures)

pub put_value-returns-in-Max : goal.put_value-returns-in-Max
put_value-returns-in-Max t c =
    let old = string_bytes c.args.out.now in
    let new = string_bytes c.put_chosen-in-Max.new.out in
    let is = ap expression_of c.in-Max.is ∙ expression_of-Max c.in-Max.arguments ∙ ap (λ xs. greatest_of (expressions_from xs)) (sym c.deref-in-Max.ensures.value) in
    subst (λ x. OnOk c.put_chosen-in-Max.result (AppendsValue (tree_of c.args.self.now.program.now) c.args.self.now.privates.now x c.args.place old new)) (sym is)
    (on_ok_weaker c.put_chosen-in-Max.result (greatest_told (tree_of c.args.self.now.program.now) c.args.self.now.privates.now (expressions_from c.deref-in-Max.result.now) c.args.place old new) c.put_chosen-in-Max.ensures)
