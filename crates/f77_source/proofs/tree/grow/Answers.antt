use Rattle.std.proofs.Common.{◌≡◌, [], ◌∷◌, ◌++◌, ◌-◌, length, map, reverse, take, drop, sym, ap, ◌∙◌, arith, append_assoc, w64, FitsSigned, rules}
use Rattle.std.proofs.lemmas.Int.{to_z-of_z}
use Rattle.std.proofs.lemmas.List.{length-append, length-map, length-reverse}
use Rattle.nest_tree.specs.View.{expression_of}
use Rattle.f77_forms.proofs.Called.{expression_of-Call}
use Rattle.f77_forms.specs.View as forms
use Rattle.f77_program.specs.Measures.{measure_of, linear_reaches}
use Rattle.f77_program.specs.Operands.{operands_of}
use Rattle.f77_program.specs.Reaches.{reach_of}
use Rattle.f77_program.specs.declared.reach.Reach.TheVariants.{Within}
use Rattle.f77_program.proofs.Parted.{operands_of-Call}
use Rattle.f77_program.proofs.Reached.{linear-list}
use Rattle.f77_scene.specs.Expressions.{value_of}
use Rattle.f77_scene.specs.Scene.{is_array}
use Rattle.f77_scene.specs.Tests.{subscripts_at}
use Rattle.f77_scene.specs.Trees.{tree_of, sign_tree}
use Rattle.f77_source.specs.Grown.{call_tree, binary_tree}
use Rattle.f77_source.proofs.Grown.{call-tree, binary-tree, operands_measured, call_within, topped, on_ok}
use Rattle.f77_source.proofs.Splits.{last_of, top_of}
use Rattle.f77_source.proofs.tree.grow.Goals as goal

pub taken-requires : goal.taken-requires
taken-requires c =
    let f = tree_of c.args.variables.now c.args.known.now in
    let ops = operands_of (forms.expression_of c.args.part.now) in
    let count : ops ≡ map forms.expression_of c.in-Call.arguments.items = ap (λ p. operands_of (forms.expression_of p)) c.in-Call.is ∙ operands_of-Call c.in-Call.name c.in-Call.arguments in
    omega (arith, c.len.ensures, ap length c.requires.trees.1, length-append c.requires.trees.0 (reverse (map f ops)), length-reverse (map f ops), length-map ops f, ap length count, length-map c.in-Call.arguments.items forms.expression_of, length-map c.args.trees.now.items expression_of)

pub overflow_sub-subscripts : goal.overflow_sub-subscripts
overflow_sub-subscripts c =
    let f = measure_of c.args.known.now in
    let ops = operands_of (forms.expression_of c.args.part.now) in
    let count : ops ≡ map forms.expression_of c.in-Call.arguments.items = ap (λ p. operands_of (forms.expression_of p)) c.in-Call.is ∙ operands_of-Call c.in-Call.name c.in-Call.arguments in
    omega (arith, c.len-in-Call.ensures, ap length c.requires.measures.1, length-append c.requires.measures.0 (reverse (map f ops)), length-reverse (map f ops), length-map ops f, ap length count, length-map c.in-Call.arguments.items forms.expression_of)

pub call_tree-requires-clause-affine : goal.call_tree-requires-clause-affine
call_tree-requires-clause-affine c = λ e.
    let s = c.args.known.now in
    let name = c.in-Call.name in
    let arguments = c.in-Call.arguments in
    let es = map forms.expression_of arguments.items in
    let front = c.requires.measures.0 in
    let whole : c.args.measures.now ≡ front ++ reverse (map (measure_of s) es) =
    c.requires.measures.1 ∙ ap (λ p. front ++ reverse (map (measure_of s) (operands_of (forms.expression_of p)))) c.in-Call.is ∙ ap (λ os. front ++ reverse (map (measure_of s) os)) (operands_of-Call name arguments) in
    let count : c.len-in-Call.result ≡ length es = omega (arith, c.len-in-Call.ensures, length-map arguments.items forms.expression_of) in
    let within : reach_of s (subscripts_at s (forms.expression_of c.args.part.now)) ≡ Within = c.requires.affine in
    let called = ap (λ p. reach_of s (subscripts_at s (forms.expression_of p))) c.in-Call.is ∙ ap (λ x. reach_of s (subscripts_at s x)) (expression_of-Call name arguments) in
    ap linear_reaches (operands_measured s c.args.measures.now front es c.len-in-Call.result whole count) ∙ linear-list s es
    ∙ call_within s name.items es (sym called ∙ within) (ap (is_array s) (sym c.deref-in-Call.ensures.value) ∙ e)

pub popped-left-requires : goal.popped-left-requires
popped-left-requires c =
    let f = tree_of c.args.variables.now c.args.known.now in
    let front = c.requires.trees.0 in
    let x = f (forms.expression_of c.in-Binary.field-1.value) in
    let y = f (forms.expression_of c.in-Binary.field-2.value) in
    let h : map expression_of c.args.trees.now.items ≡ (front ++ y ∷ []) ++ x ∷ [] =
    c.requires.trees.1 ∙ ap (λ p. front ++ reverse (map f (operands_of (forms.expression_of p)))) c.in-Binary.is ∙ sym (append_assoc front (y ∷ []) (x ∷ [])) in
    let last = last_of expression_of c.args.trees.now.items (front ++ y ∷ []) x h in
    omega (arith, ap length last.whole, length-append last.first (last.x ∷ []))

pub popped-right-requires : goal.popped-right-requires
popped-right-requires c =
    let f = tree_of c.args.variables.now c.args.known.now in
    let front = c.requires.trees.0 in
    let x = f (forms.expression_of c.in-Binary.field-1.value) in
    let y = f (forms.expression_of c.in-Binary.field-2.value) in
    let h : map expression_of c.args.trees.now.items ≡ (front ++ y ∷ []) ++ x ∷ [] =
    c.requires.trees.1 ∙ ap (λ p. front ++ reverse (map f (operands_of (forms.expression_of p)))) c.in-Binary.is ∙ sym (append_assoc front (y ∷ []) (x ∷ [])) in
    let last = last_of expression_of c.args.trees.now.items (front ++ y ∷ []) x h in
    let left = c.popped-left.ensures last.first last.x last.whole in
    let second = last_of expression_of last.first front y last.fronts in
    omega (arith, ap length left.0, ap length second.whole, length-append second.first (second.x ∷ []))

pub returns-in_ok-tree-in-Call : goal.returns-in_ok-tree-in-Call
returns-in_ok-tree-in-Call c = on_ok c.push-in-Call.result c.push-in-Call.ensures (λ pushed front h.
    let s = c.args.known.now in
    let f = tree_of c.args.variables.now s in
    let name = c.in-Call.name in
    let arguments = c.in-Call.arguments in
    let es = map forms.expression_of arguments.items in
    let trees = c.args.trees.now.items in
    let operands = c.in_ok-operands-in-Call.operands.items in
    let ops : map expression_of trees ≡ front ++ reverse (map f es) =
    h ∙ ap (λ p. front ++ reverse (map f (operands_of (forms.expression_of p)))) c.in-Call.is ∙ ap (λ os. front ++ reverse (map f os)) (operands_of-Call name arguments) in
    let top = top_of expression_of trees front (map f es) ops in
    let count : length top.top ≡ c.len.result =
    omega (arith, c.len.ensures, length-map top.top expression_of, ap length top.tops, length-map es f, length-map arguments.items forms.expression_of) in
    let left = c.in_ok-operands-in-Call.ensures.left top.first top.top top.whole count in
    let tops = c.in_ok-operands-in-Call.ensures.top top.first top.top top.whole count in
    let below = c.requires.measures.0 in
    let whole : c.args.measures.now ≡ below ++ reverse (map (measure_of s) es) =
    c.requires.measures.1 ∙ ap (λ p. below ++ reverse (map (measure_of s) (operands_of (forms.expression_of p)))) c.in-Call.is ∙ ap (λ os. below ++ reverse (map (measure_of s) os)) (operands_of-Call name arguments) in
    let as_many : c.len-in-Call.result ≡ length es = omega (arith, c.len-in-Call.ensures, length-map arguments.items forms.expression_of) in
    let called = ap (λ p. reach_of s (subscripts_at s (forms.expression_of p))) c.in-Call.is ∙ ap (λ x. reach_of s (subscripts_at s x)) (expression_of-Call name arguments) in
    let ms = c.args.measures.now in
    let k = c.len-in-Call.result in
    let measured = operands_measured s ms below es k whole as_many in
    let tree : expression_of c.in_ok-tree-in-Call.tree ≡ f (forms.expression_of c.args.part.now) =
    c.in_ok-tree-in-Call.ensures ∙ ap (λ n. call_tree c.args.variables.now s n operands (reverse (take (length ms - (length ms - k)) (drop (length ms - k) ms)))) c.deref-in-Call.ensures.value ∙ ap (call_tree c.args.variables.now s name.items operands) measured
    ∙ call-tree c.args.variables.now s name.items es operands (ap (map expression_of) tops ∙ top.tops) (call_within s name.items es (sym called ∙ c.requires.affine))
    ∙ ap f (sym (expression_of-Call name arguments)) ∙ ap (λ p. f (forms.expression_of p)) (sym c.in-Call.is) in
    topped front c.taken.new.stack.items c.push-in-Call.new.stack.items c.in_ok-tree-in-Call.tree (f (forms.expression_of c.args.part.now)) pushed (ap (map expression_of) left ∙ top.fronts) tree)

pub returns-in_ok-signed_tree-in-Signed : goal.returns-in_ok-signed_tree-in-Signed
returns-in_ok-signed_tree-in-Signed c = on_ok c.push-in-Signed.result c.push-in-Signed.ensures (λ pushed front h.
    let f = tree_of c.args.variables.now c.args.known.now in
    let sign = c.in-Signed.sign in
    let a = f (forms.expression_of c.in-Signed.field-1.value) in
    let ops : map expression_of c.args.trees.now.items ≡ front ++ a ∷ [] = h ∙ ap (λ p. front ++ reverse (map f (operands_of (forms.expression_of p)))) c.in-Signed.is in
    let last = last_of expression_of c.args.trees.now.items front a ops in
    let term = c.popped-term.ensures last.first last.x last.whole in
    let tree : expression_of c.in_ok-signed_tree-in-Signed.field-0 ≡ f (forms.expression_of c.args.part.now) =
    c.in_ok-signed_tree-in-Signed.ensures ∙ ap (λ t. sign_tree sign (expression_of t)) term.1 ∙ ap (sign_tree sign) last.same ∙ ap (λ p. f (forms.expression_of p)) (sym c.in-Signed.is) in
    topped front c.popped-term.new.stack.items c.push-in-Signed.new.stack.items c.in_ok-signed_tree-in-Signed.field-0 (f (forms.expression_of c.args.part.now)) pushed (ap (map expression_of) term.0 ∙ last.fronts) tree)

pub returns-in_ok-binary_tree-in-Binary : goal.returns-in_ok-binary_tree-in-Binary
returns-in_ok-binary_tree-in-Binary c = on_ok c.push-in-Binary.result c.push-in-Binary.ensures (λ pushed front h.
    let s = c.args.known.now in
    let f = tree_of c.args.variables.now s in
    let op = c.in-Binary.operator in
    let a = forms.expression_of c.in-Binary.field-1.value in
    let b = forms.expression_of c.in-Binary.field-2.value in
    let ops : map expression_of c.args.trees.now.items ≡ (front ++ f b ∷ []) ++ f a ∷ [] =
    h ∙ ap (λ p. front ++ reverse (map f (operands_of (forms.expression_of p)))) c.in-Binary.is ∙ sym (append_assoc front (f b ∷ []) (f a ∷ [])) in
    let last = last_of expression_of c.args.trees.now.items (front ++ f b ∷ []) (f a) ops in
    let left = c.popped-left.ensures last.first last.x last.whole in
    let second = last_of expression_of last.first front (f b) last.fronts in
    let right = c.popped-right.ensures second.first second.x (left.0 ∙ second.whole) in
    let below = c.requires.measures.0 in
    let whole = c.requires.measures.1 ∙ ap (λ p. below ++ reverse (map (measure_of s) (operands_of (forms.expression_of p)))) c.in-Binary.is in
    let d = c.second_value-divisor.result in
    let fits : FitsSigned w64 d = search rules in
    let divisor : d ≡ value_of s b = c.second_value-divisor.ensures below (measure_of s a) (measure_of s b) whole in
    let tree : expression_of c.in_ok-binary_tree-in-Binary.field-0 ≡ f (forms.expression_of c.args.part.now) =
    c.in_ok-binary_tree-in-Binary.ensures ∙ ap (λ z. binary_tree op (expression_of c.popped-left.result) (expression_of c.popped-right.result) z) (to_z-of_z w64 d fits) ∙ ap (λ t. binary_tree op (expression_of t) (expression_of c.popped-right.result) d) left.1
    ∙ ap (λ t. binary_tree op (expression_of last.x) (expression_of t) d) right.1 ∙ ap (λ t. binary_tree op t (expression_of second.x) d) last.same
    ∙ ap (λ t. binary_tree op (f a) t d) second.same ∙ ap (binary_tree op (f a) (f b)) divisor
    ∙ binary-tree c.args.variables.now s op a b ∙ ap (λ p. f (forms.expression_of p)) (sym c.in-Binary.is) in
    topped front c.popped-right.new.stack.items c.push-in-Binary.new.stack.items c.in_ok-binary_tree-in-Binary.field-0 (f (forms.expression_of c.args.part.now)) pushed (ap (map expression_of) right.0 ∙ second.fronts) tree)

pub second_value-divisor-requires : goal.second_value-divisor-requires
second_value-divisor-requires c =
    let f = measure_of c.args.known.now in
    let front = c.requires.measures.0 in
    let x = f (forms.expression_of c.in-Binary.field-1.value) in
    let y = f (forms.expression_of c.in-Binary.field-2.value) in
    let h : c.args.measures.now ≡ front ++ y ∷ x ∷ [] = c.requires.measures.1 ∙ ap (λ p. front ++ reverse (map f (operands_of (forms.expression_of p)))) c.in-Binary.is in
    omega (arith, ap length h, length-append front (y ∷ x ∷ []))
