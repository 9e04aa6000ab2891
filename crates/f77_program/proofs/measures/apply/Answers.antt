use Rattle.std.proofs.Common.{◌≡◌, List, [], ◌∷◌, ◌++◌, length, map, reverse, Result, Ok, Err, OnOk, sym, ap, ◌∙◌, arith, append_assoc}
use Rattle.std.proofs.lemmas.List.{append-nil, length-append, length-map, length-reverse}
use Rattle.f77_forms.proofs.Called.{expression_of-Call}
use Rattle.f77_forms.specs.Form as forms
use Rattle.f77_forms.specs.View.{expression_of}
use Rattle.f77_program.specs.declared.measure.Measure.{Measure}
use Rattle.f77_program.specs.Measures.{measure_of, call_measure, signed_measure, binary_measure}
use Rattle.f77_program.specs.Operands.{operands_of}
use Rattle.f77_program.proofs.Parted.{operands_of-Call, listed_arguments}
use Rattle.f77_program.proofs.Measured.{measured-call, measured-signed, measured-binary}
use Rattle.f77_program.proofs.measures.apply.Goals as goal

on_ok : {T E A B : Type 0} (r : Result T E) → OnOk r A → (A → B) → OnOk r B
on_ok (Ok x) h g = g h
on_ok (Err e) h g = tt

-- one thing on top of what is left
topped : (front left new : List Measure) (m n : Measure) → new ≡ left ++ m ∷ [] → left ≡ front → m ≡ n → new ≡ front ++ n ∷ []
topped front left new m n pushed rest same = pushed ∙ ap (λ st. st ++ m ∷ []) rest ∙ ap (λ x. front ++ x ∷ []) same

pub returns-in-Parenthesized : goal.returns-in-Parenthesized
returns-in-Parenthesized c = λ front h.
    let f = measure_of c.args.known.now in
    h ∙ ap (λ p. front ++ reverse (map f (operands_of (expression_of p)))) c.in-Parenthesized.is ∙ ap (λ p. front ++ f (expression_of p) ∷ []) (sym c.in-Parenthesized.is)

pub returns-in-Number : goal.returns-in-Number
returns-in-Number c = on_ok c.push.result c.push.ensures (λ pushed front h.
    let f = measure_of c.args.known.now in
    let old : c.args.stack.now.items ≡ front = h ∙ ap (λ p. front ++ reverse (map f (operands_of (expression_of p)))) c.in-Number.is ∙ append-nil front in
    topped front c.args.stack.now.items c.push.new.stack.items c.of_number.result (f (expression_of c.args.part.now)) pushed old (c.of_number.ensures c.args.known.now ∙ ap (λ p. f (expression_of p)) (sym c.in-Number.is)))

pub taken-requires : goal.taken-requires
taken-requires c =
    let f = measure_of c.args.known.now in
    let ops = operands_of (expression_of c.args.part.now) in
    let count : ops ≡ map expression_of c.in-Call.arguments.items = ap (λ p. operands_of (expression_of p)) c.in-Call.is ∙ operands_of-Call c.in-Call.name c.in-Call.arguments in
    omega (arith, c.len.ensures, ap length c.requires.1, length-append c.requires.0 (reverse (map f ops)), length-reverse (map f ops), length-map ops f, ap length count, length-map c.in-Call.arguments.items expression_of)

pub popped-right-requires : goal.popped-right-requires
popped-right-requires c =
    let f = measure_of c.args.known.now in
    let front = c.requires.0 in
    let a = f (expression_of c.in-Binary.field-1.value) in
    let b = f (expression_of c.in-Binary.field-2.value) in
    let h : c.args.stack.now.items ≡ (front ++ b ∷ []) ++ a ∷ [] = c.requires.1 ∙ ap (λ p. front ++ reverse (map f (operands_of (expression_of p)))) c.in-Binary.is ∙ sym (append_assoc front (b ∷ []) (a ∷ [])) in
    let left = c.popped-left.ensures (front ++ b ∷ []) a h in
    omega (arith, ap length left.0, length-append front (b ∷ []))

pub returns-in_ok-operands-in-Call : goal.returns-in_ok-operands-in-Call
returns-in_ok-operands-in-Call c = on_ok c.push-in-Call.result c.push-in-Call.ensures (λ pushed front h.
    let f = measure_of c.args.known.now in
    let name = c.in-Call.name in
    let arguments = c.in-Call.arguments in
    let es = map expression_of arguments.items in
    let ops : c.args.stack.now.items ≡ front ++ reverse (map f es) = h ∙ ap (λ p. front ++ reverse (map f (operands_of (expression_of p)))) c.in-Call.is ∙ ap (λ os. front ++ reverse (map f os)) (operands_of-Call name arguments) in
    let len : length arguments.items ≡ c.len.result = omega (arith, c.len.ensures) in
    let count : length (map f es) ≡ c.len.result = length-map es f ∙ length-map arguments.items expression_of ∙ len in
    let left = c.in_ok-operands-in-Call.ensures.left front (map f es) ops count in
    let top = c.in_ok-operands-in-Call.ensures.top front (map f es) ops count in
    let measured : call_measure c.args.known.now name.items (map f es) ≡ f (expression_of c.args.part.now) =
    ap (λ os. call_measure c.args.known.now name.items (map f os)) (sym (listed_arguments es)) ∙ sym (measured-call c.args.known.now name.items (forms.arguments_in es)) ∙ ap f (sym (expression_of-Call name arguments)) ∙ ap (λ p. f (expression_of p)) (sym c.in-Call.is) in
    let call : c.of_call.result ≡ call_measure c.args.known.now name.items (map f es) =
    c.of_call.ensures ∙ ap (λ n. call_measure c.args.known.now n c.as_slice-in-Call-2.result.now) c.as_slice-in-Call.ensures.value ∙ ap (call_measure c.args.known.now name.items) (c.as_slice-in-Call-2.ensures.value ∙ top) in
    topped front c.taken.new.stack.items c.push-in-Call.new.stack.items c.of_call.result (f (expression_of c.args.part.now)) pushed left (call ∙ measured))

pub returns-in_ok-of_signed-in-Signed : goal.returns-in_ok-of_signed-in-Signed
returns-in_ok-of_signed-in-Signed c = on_ok c.push-in-Signed.result c.push-in-Signed.ensures (λ pushed front h.
    let f = measure_of c.args.known.now in
    let a = f (expression_of c.in-Signed.field-1.value) in
    let ops : c.args.stack.now.items ≡ front ++ a ∷ [] = h ∙ ap (λ p. front ++ reverse (map f (operands_of (expression_of p)))) c.in-Signed.is in
    let term = c.popped-term.ensures front a ops in
    let measured : c.in_ok-of_signed-in-Signed.field-0 ≡ f (expression_of c.args.part.now) =
    c.in_ok-of_signed-in-Signed.ensures ∙ ap (signed_measure c.in-Signed.sign) term.1 ∙ sym (measured-signed c.args.known.now c.in-Signed.sign (expression_of c.in-Signed.field-1.value)) ∙ ap (λ p. f (expression_of p)) (sym c.in-Signed.is) in
    topped front c.popped-term.new.stack.items c.push-in-Signed.new.stack.items c.in_ok-of_signed-in-Signed.field-0 (f (expression_of c.args.part.now)) pushed term.0 measured)

pub returns-in_ok-of_binary-in-Binary : goal.returns-in_ok-of_binary-in-Binary
returns-in_ok-of_binary-in-Binary c = on_ok c.push-in-Binary.result c.push-in-Binary.ensures (λ pushed front h.
    let f = measure_of c.args.known.now in
    let op = c.in-Binary.operator in
    let x = expression_of c.in-Binary.field-1.value in
    let y = expression_of c.in-Binary.field-2.value in
    let ops : c.args.stack.now.items ≡ (front ++ f y ∷ []) ++ f x ∷ [] = h ∙ ap (λ p. front ++ reverse (map f (operands_of (expression_of p)))) c.in-Binary.is ∙ sym (append_assoc front (f y ∷ []) (f x ∷ [])) in
    let left = c.popped-left.ensures (front ++ f y ∷ []) (f x) ops in
    let right = c.popped-right.ensures front (f y) left.0 in
    let measured : c.in_ok-of_binary-in-Binary.field-0 ≡ f (expression_of c.args.part.now) =
    c.in_ok-of_binary-in-Binary.ensures ∙ ap (λ m. binary_measure op m c.popped-right.result) left.1 ∙ ap (binary_measure op (f x)) right.1 ∙ sym (measured-binary c.args.known.now op x y) ∙ ap (λ p. f (expression_of p)) (sym c.in-Binary.is) in
    topped front c.popped-right.new.stack.items c.push-in-Binary.new.stack.items c.in_ok-of_binary-in-Binary.field-0 (f (expression_of c.args.part.now)) pushed right.0 measured)
