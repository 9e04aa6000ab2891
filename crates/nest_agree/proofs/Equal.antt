-- The tests of equality pass exactly where the parts are equal.
use Rattle.std.proofs.Common.{◌≡◌, ℕ, ℤ, pos, true, false, ◌&&◌, ◌==◌, List, [], ◌∷◌, Option, Some, None, length, map, refl, ap, sym, ◌∙◌}
use Rattle.std.specs.Prelude.{if◌then◌else◌}
use Rattle.std.specs.List.{list_all}
use Rattle.std.specs.Ordering.{int_eq}
use Rattle.std.proofs.lemmas.Bool.{and_from, and_parts, eq-eqb, eqb-true}
use Rattle.std.proofs.lemmas.Bool.Decides.{Decides-int_eq}
use Rattle.nest_tree.specs.declared.tree.Access.{Access}
use Rattle.nest_tree.specs.declared.tree.Compare.{Compare}
use Rattle.nest_tree.specs.declared.tree.Compare.TheVariants.{Lt, Le, Eq, Ge, Gt}
use Rattle.nest_tree.specs.declared.tree.Guard.{Guard}
use Rattle.nest_tree.specs.declared.tree.Spread.{Spread}
use Rattle.nest_tree.specs.declared.tree.Spread.TheVariants.{Block, Cyclic}
use Rattle.nest_tree.specs.Form.{Form}
use Rattle.nest_tree.specs.Layout.{bounds_of}
use Rattle.nest_tree.specs.Tree.{Expression, Expressions, number, loop_value, param, load, neg, add, sub, mul, div, least_of, greatest_of, no_more, one_more, Printed, value, whole, text, Work, assign, print, Head, Statement, Statements, do_loop, work, continue, done, next, Constant, Declaration, Tree}
use Rattle.nest_agree.specs.Agree.{Agree, AreSameKinds, HaveSameBounds, IsSameKind, do_agree, printed_whole}
use Rattle.nest_agree.specs.Same.{access_of, arguments_of, compare_number, first_of, index_of, kind_of, number_of, same, same_access, same_all, same_at, same_bounds, same_bytes, same_ends, same_form, same_guard, same_head, same_kind, same_list, same_name, same_pair, same_printed, same_statement, same_statements, same_work, second_of, spread_number}
use Rattle.nest_agree.proofs.Lists.{list_is, list_self}

int_is : (a b : ℤ) → int_eq a b ≡ true → a ≡ b
int_is a b = (Decides-int_eq a b).0

int_self : (a : ℤ) → int_eq a a ≡ true
int_self a = (Decides-int_eq a a).1 refl

nat_is : (a b : ℕ) → (a == b) ≡ true → a ≡ b
nat_is a b e = eqb-true a b e

nat_self : (a : ℕ) → (a == a) ≡ true
nat_self a = eq-eqb a a refl

-- ---- forms, accesses, comparisons

pair_is : (p q : ℕ × ℤ) → same_pair p q ≡ true → p ≡ q
pair_is (m, c) (n, d) e =
    let both = and_parts (m == n) (int_eq c d) e in
    let P : ℕ → ℕ × ℤ = λ z. (z, c) in
    let Q : ℤ → ℕ × ℤ = λ z. (n, z) in
    ap P (nat_is m n both.0) ∙ ap Q (int_is c d both.1)

pair_self : (p : ℕ × ℤ) → same_pair p p ≡ true
pair_self (m, c) = and_from (m == m) (int_eq c c) (nat_self m) (int_self c)

ends_is : (p q : ℤ × ℤ) → same_ends p q ≡ true → p ≡ q
ends_is (m, c) (n, d) e =
    let both = and_parts (int_eq m n) (int_eq c d) e in
    let P : ℤ → ℤ × ℤ = λ z. (z, c) in
    let Q : ℤ → ℤ × ℤ = λ z. (n, z) in
    ap P (int_is m n both.0) ∙ ap Q (int_is c d both.1)

ends_self : (p : ℤ × ℤ) → same_ends p p ≡ true
ends_self (m, c) = and_from (int_eq m m) (int_eq c c) (int_self m) (int_self c)

bytes_is : (xs ys : List ℕ) → same_bytes xs ys ≡ true → xs ≡ ys
bytes_is = list_is (λ (a b : ℕ). a == b) nat_is

bytes_self : (xs : List ℕ) → same_bytes xs xs ≡ true
bytes_self = list_self (λ (a b : ℕ). a == b) nat_self

form_is : (f g : Form) → same_form f g ≡ true → f ≡ g
form_is f g e =
    let outer = and_parts (int_eq f.constant g.constant && same_list same_pair f.loops g.loops) (same_list same_pair f.params g.params) e in
    let inner = and_parts (int_eq f.constant g.constant) (same_list same_pair f.loops g.loops) outer.0 in
    let A : ℤ → Form = λ z. record { constant = z; loops = f.loops; params = f.params } in
    let B : List (ℕ × ℤ) → Form = λ z. record { constant = g.constant; loops = z; params = f.params } in
    let C : List (ℕ × ℤ) → Form = λ z. record { constant = g.constant; loops = g.loops; params = z } in
    ap A (int_is f.constant g.constant inner.0) ∙ ap B (list_is same_pair pair_is f.loops g.loops inner.1) ∙ ap C (list_is same_pair pair_is f.params g.params outer.1)

form_self : (f : Form) → same_form f f ≡ true
form_self f =
    and_from (int_eq f.constant f.constant && same_list same_pair f.loops f.loops) (same_list same_pair f.params f.params)
    (and_from (int_eq f.constant f.constant) (same_list same_pair f.loops f.loops) (int_self f.constant) (list_self same_pair pair_self f.loops)) (list_self same_pair pair_self f.params)

access_is : (a b : Access) → same_access a b ≡ true → a ≡ b
access_is a b e =
    let both = and_parts (a.variable == b.variable) (same_list same_form a.subscripts b.subscripts) e in
    let A : ℕ → Access = λ z. record { variable = z; subscripts = a.subscripts } in
    let B : List Form → Access = λ z. record { variable = b.variable; subscripts = z } in
    ap A (nat_is a.variable b.variable both.0) ∙ ap B (list_is same_form form_is a.subscripts b.subscripts both.1)

access_self : (a : Access) → same_access a a ≡ true
access_self a = and_from (a.variable == a.variable) (same_list same_form a.subscripts a.subscripts) (nat_self a.variable) (list_self same_form form_self a.subscripts)

compare_is : (c d : Compare) → compare_number c ≡ compare_number d → c ≡ d
compare_is Lt Lt e = refl
compare_is Lt Le e = absurd (cc)
compare_is Lt Eq e = absurd (cc)
compare_is Lt Ge e = absurd (cc)
compare_is Lt Gt e = absurd (cc)
compare_is Le Lt e = absurd (cc)
compare_is Le Le e = refl
compare_is Le Eq e = absurd (cc)
compare_is Le Ge e = absurd (cc)
compare_is Le Gt e = absurd (cc)
compare_is Eq Lt e = absurd (cc)
compare_is Eq Le e = absurd (cc)
compare_is Eq Eq e = refl
compare_is Eq Ge e = absurd (cc)
compare_is Eq Gt e = absurd (cc)
compare_is Ge Lt e = absurd (cc)
compare_is Ge Le e = absurd (cc)
compare_is Ge Eq e = absurd (cc)
compare_is Ge Ge e = refl
compare_is Ge Gt e = absurd (cc)
compare_is Gt Lt e = absurd (cc)
compare_is Gt Le e = absurd (cc)
compare_is Gt Eq e = absurd (cc)
compare_is Gt Ge e = absurd (cc)
compare_is Gt Gt e = refl

guard_is : (g h : Option Guard) → same_guard g h ≡ true → g ≡ h
guard_is None None e = refl
guard_is None (Some h) e = absurd (cc)
guard_is (Some g) None e = absurd (cc)
guard_is (Some g) (Some h) e =
    let outer = and_parts (same_form g.left h.left && compare_number g.op == compare_number h.op) (same_form g.right h.right) e in
    let inner = and_parts (same_form g.left h.left) (compare_number g.op == compare_number h.op) outer.0 in
    let A : Form → Option Guard = λ z. Some (record { left = z; op = g.op; right = g.right }) in
    let B : Compare → Option Guard = λ z. Some (record { left = h.left; op = z; right = g.right }) in
    let C : Form → Option Guard = λ z. Some (record { left = h.left; op = h.op; right = z }) in
    ap A (form_is g.left h.left inner.0) ∙ ap B (compare_is g.op h.op (nat_is (compare_number g.op) (compare_number h.op) inner.1)) ∙ ap C (form_is g.right h.right outer.1)

guard_self : (g : Option Guard) → same_guard g g ≡ true
guard_self None = refl
guard_self (Some g) =
    and_from (same_form g.left g.left && compare_number g.op == compare_number g.op) (same_form g.right g.right)
    (and_from (same_form g.left g.left) (compare_number g.op == compare_number g.op) (form_self g.left) (nat_self (compare_number g.op))) (form_self g.right)

-- ---- expressions

loaded : Option Access → Expression
loaded None = number (pos 0)
loaded (Some access) = load access

abbrev build : ℕ → ℤ → ℕ → Expression → Expression → Expressions → Expression
build k n i a b xs =
    if k == 0 then number n
    else if k == 1 then loop_value i
    else if k == 2 then param i
    else if k == 3 then neg a
    else if k == 4 then add a b
    else if k == 5 then sub a b
    else if k == 6 then mul a b
    else if k == 7 then div a n
    else if k == 8 then least_of xs
    else if k == 9 then greatest_of xs
    else number (pos 0)

-- an expression of one of the first ten kinds is made of its parts
rebuilt : (y : Expression) (k : ℕ) → (kind_of y == k) ≡ true → (k == 10) ≡ false → build k (number_of y) (index_of y) (first_of y) (second_of y) (arguments_of y) ≡ y
rebuilt (number n) k e low = ap (λ j. build j (number_of (number n)) (index_of (number n)) (first_of (number n)) (second_of (number n)) (arguments_of (number n))) (sym (nat_is 0 k e))
rebuilt (loop_value l) k e low = ap (λ j. build j (number_of (loop_value l)) (index_of (loop_value l)) (first_of (loop_value l)) (second_of (loop_value l)) (arguments_of (loop_value l))) (sym (nat_is 1 k e))
rebuilt (param p) k e low = ap (λ j. build j (number_of (param p)) (index_of (param p)) (first_of (param p)) (second_of (param p)) (arguments_of (param p))) (sym (nat_is 2 k e))
rebuilt (neg a) k e low = ap (λ j. build j (number_of (neg a)) (index_of (neg a)) (first_of (neg a)) (second_of (neg a)) (arguments_of (neg a))) (sym (nat_is 3 k e))
rebuilt (add a b) k e low = ap (λ j. build j (number_of (add a b)) (index_of (add a b)) (first_of (add a b)) (second_of (add a b)) (arguments_of (add a b))) (sym (nat_is 4 k e))
rebuilt (sub a b) k e low = ap (λ j. build j (number_of (sub a b)) (index_of (sub a b)) (first_of (sub a b)) (second_of (sub a b)) (arguments_of (sub a b))) (sym (nat_is 5 k e))
rebuilt (mul a b) k e low = ap (λ j. build j (number_of (mul a b)) (index_of (mul a b)) (first_of (mul a b)) (second_of (mul a b)) (arguments_of (mul a b))) (sym (nat_is 6 k e))
rebuilt (div a divisor) k e low = ap (λ j. build j (number_of (div a divisor)) (index_of (div a divisor)) (first_of (div a divisor)) (second_of (div a divisor)) (arguments_of (div a divisor))) (sym (nat_is 7 k e))
rebuilt (least_of arguments) k e low = ap (λ j. build j (number_of (least_of arguments)) (index_of (least_of arguments)) (first_of (least_of arguments)) (second_of (least_of arguments)) (arguments_of (least_of arguments))) (sym (nat_is 8 k e))
rebuilt (greatest_of arguments) k e low = ap (λ j. build j (number_of (greatest_of arguments)) (index_of (greatest_of arguments)) (first_of (greatest_of arguments)) (second_of (greatest_of arguments)) (arguments_of (greatest_of arguments))) (sym (nat_is 9 k e))
rebuilt (load access) k e low = let clash = ap (λ j. j == 10) (nat_is 10 k e) ∙ low in absurd (cc)

load_is : (y : Expression) (a : Access) → Some a ≡ access_of y → load a ≡ y
load_is (number n) x e = absurd (cc)
load_is (loop_value l) x e = absurd (cc)
load_is (param p) x e = absurd (cc)
load_is (neg a) x e = absurd (cc)
load_is (add a b) x e = absurd (cc)
load_is (sub a b) x e = absurd (cc)
load_is (mul a b) x e = absurd (cc)
load_is (div a divisor) x e = absurd (cc)
load_is (least_of arguments) x e = absurd (cc)
load_is (greatest_of arguments) x e = absurd (cc)
load_is (load access) x e = cc

at_is : (a : Access) (o : Option Access) → same_at a o ≡ true → Some a ≡ o
at_is a None e = absurd (cc)
at_is a (Some b) e = ap Some (access_is a b e)

mutual
  pub same_is : (x y : Expression) → same x y ≡ true → x ≡ y
  same_is (number n) y e = let p = and_parts (kind_of y == 0) (int_eq n (number_of y)) e in ap number (int_is n (number_of y) p.1) ∙ rebuilt y 0 p.0 refl
  same_is (loop_value l) y e = let p = and_parts (kind_of y == 1) (l == index_of y) e in ap loop_value (nat_is l (index_of y) p.1) ∙ rebuilt y 1 p.0 refl
  same_is (param l) y e = let p = and_parts (kind_of y == 2) (l == index_of y) e in ap param (nat_is l (index_of y) p.1) ∙ rebuilt y 2 p.0 refl
  same_is (neg a) y e = let p = and_parts (kind_of y == 3) (same a (first_of y)) e in ap neg (same_is a (first_of y) p.1) ∙ rebuilt y 3 p.0 refl
  same_is (add a b) y e =
      let q = and_parts (kind_of y == 4 && same a (first_of y)) (same b (second_of y)) e in
      let p = and_parts (kind_of y == 4) (same a (first_of y)) q.0 in
      ap (λ z. add z b) (same_is a (first_of y) p.1) ∙ ap (λ z. add (first_of y) z) (same_is b (second_of y) q.1) ∙ rebuilt y 4 p.0 refl
  same_is (sub a b) y e =
      let q = and_parts (kind_of y == 5 && same a (first_of y)) (same b (second_of y)) e in
      let p = and_parts (kind_of y == 5) (same a (first_of y)) q.0 in
      ap (λ z. sub z b) (same_is a (first_of y) p.1) ∙ ap (λ z. sub (first_of y) z) (same_is b (second_of y) q.1) ∙ rebuilt y 5 p.0 refl
  same_is (mul a b) y e =
      let q = and_parts (kind_of y == 6 && same a (first_of y)) (same b (second_of y)) e in
      let p = and_parts (kind_of y == 6) (same a (first_of y)) q.0 in
      ap (λ z. mul z b) (same_is a (first_of y) p.1) ∙ ap (λ z. mul (first_of y) z) (same_is b (second_of y) q.1) ∙ rebuilt y 6 p.0 refl
  same_is (div a divisor) y e =
      let q = and_parts (kind_of y == 7 && same a (first_of y)) (int_eq divisor (number_of y)) e in
      let p = and_parts (kind_of y == 7) (same a (first_of y)) q.0 in
      ap (λ z. div z divisor) (same_is a (first_of y) p.1) ∙ ap (λ z. div (first_of y) z) (int_is divisor (number_of y) q.1) ∙ rebuilt y 7 p.0 refl
  same_is (least_of arguments) y e = let p = and_parts (kind_of y == 8) (same_all arguments (arguments_of y)) e in ap least_of (all_is arguments (arguments_of y) p.1) ∙ rebuilt y 8 p.0 refl
  same_is (greatest_of arguments) y e = let p = and_parts (kind_of y == 9) (same_all arguments (arguments_of y)) e in ap greatest_of (all_is arguments (arguments_of y) p.1) ∙ rebuilt y 9 p.0 refl
  same_is (load access) y e = load_is y access (at_is access (access_of y) e)

  all_is : (xs ys : Expressions) → same_all xs ys ≡ true → xs ≡ ys
  all_is no_more no_more e = refl
  all_is no_more (one_more f more) e = absurd (cc)
  all_is (one_more x rest) no_more e = absurd (cc)
  all_is (one_more x rest) (one_more f more) e =
      let p = and_parts (same x f) (same_all rest more) e in
      ap (λ z. one_more z rest) (same_is x f p.0) ∙ ap (λ z. one_more f z) (all_is rest more p.1)

mutual
  pub same_self : (x : Expression) → same x x ≡ true
  same_self (number n) = int_self n
  same_self (loop_value l) = nat_self l
  same_self (param p) = nat_self p
  same_self (neg a) = same_self a
  same_self (add a b) = and_from (same a a) (same b b) (same_self a) (same_self b)
  same_self (sub a b) = and_from (same a a) (same b b) (same_self a) (same_self b)
  same_self (mul a b) = and_from (same a a) (same b b) (same_self a) (same_self b)
  same_self (div a divisor) = and_from (same a a) (int_eq divisor divisor) (same_self a) (int_self divisor)
  same_self (least_of arguments) = all_self arguments
  same_self (greatest_of arguments) = all_self arguments
  same_self (load access) = access_self access

  all_self : (xs : Expressions) → same_all xs xs ≡ true
  all_self no_more = refl
  all_self (one_more x rest) = and_from (same x x) (same_all rest rest) (same_self x) (all_self rest)

-- ---- statements

printed_is : (p q : Printed) → same_printed p q ≡ true → p ≡ q
printed_is (value e) (value f) h = ap value (same_is e f h)
printed_is (value e) (whole v) h = absurd (cc)
printed_is (value e) (text ys) h = absurd (cc)
printed_is (whole u) (value f) h = absurd (cc)
printed_is (whole u) (whole v) h = ap whole (nat_is u v h)
printed_is (whole u) (text ys) h = absurd (cc)
printed_is (text xs) (value f) h = absurd (cc)
printed_is (text xs) (whole v) h = absurd (cc)
printed_is (text xs) (text ys) h = ap text (bytes_is xs ys h)

printed_self : (p : Printed) → same_printed p p ≡ true
printed_self (value e) = same_self e
printed_self (whole v) = nat_self v
printed_self (text xs) = bytes_self xs

work_is : (w v : Work) → same_work w v ≡ true → w ≡ v
work_is (assign a) (assign b) e =
    let r = and_parts (same_access a.target b.target && same a.value b.value && same_guard a.guard b.guard) (a.line == b.line) e in
    let q = and_parts (same_access a.target b.target && same a.value b.value) (same_guard a.guard b.guard) r.0 in
    let p = and_parts (same_access a.target b.target) (same a.value b.value) q.0 in
    let A : Access → Work = λ z. assign (record { target = z; value = a.value; guard = a.guard; line = a.line }) in
    let B : Expression → Work = λ z. assign (record { target = b.target; value = z; guard = a.guard; line = a.line }) in
    let C : Option Guard → Work = λ z. assign (record { target = b.target; value = b.value; guard = z; line = a.line }) in
    let D : ℕ → Work = λ z. assign (record { target = b.target; value = b.value; guard = b.guard; line = z }) in
    ap A (access_is a.target b.target p.0) ∙ ap B (same_is a.value b.value p.1) ∙ ap C (guard_is a.guard b.guard q.1) ∙ ap D (nat_is a.line b.line r.1)
work_is (assign a) (print q) e = absurd (cc)
work_is (print p) (assign b) e = absurd (cc)
work_is (print p) (print q) e =
    let both = and_parts (same_list same_printed p.items q.items) (p.line == q.line) e in
    let A : List Printed → Work = λ z. print (record { items = z; line = p.line }) in
    let B : ℕ → Work = λ z. print (record { items = q.items; line = z }) in
    ap A (list_is same_printed printed_is p.items q.items both.0) ∙ ap B (nat_is p.line q.line both.1)

work_self : (w : Work) → same_work w w ≡ true
work_self (assign a) =
    and_from (same_access a.target a.target && same a.value a.value && same_guard a.guard a.guard) (a.line == a.line)
    (and_from (same_access a.target a.target && same a.value a.value) (same_guard a.guard a.guard)
    (and_from (same_access a.target a.target) (same a.value a.value) (access_self a.target) (same_self a.value)) (guard_self a.guard)) (nat_self a.line)
work_self (print p) = and_from (same_list same_printed p.items p.items) (p.line == p.line) (list_self same_printed printed_self p.items) (nat_self p.line)

head_is : (h k : Head) → same_head h k ≡ true → h ≡ k
head_is h k e =
    let s = and_parts (h.number == k.number && same_form h.m1 k.m1 && same_form h.m2 k.m2 && int_eq h.step k.step) (h.line == k.line) e in
    let r = and_parts (h.number == k.number && same_form h.m1 k.m1 && same_form h.m2 k.m2) (int_eq h.step k.step) s.0 in
    let q = and_parts (h.number == k.number && same_form h.m1 k.m1) (same_form h.m2 k.m2) r.0 in
    let p = and_parts (h.number == k.number) (same_form h.m1 k.m1) q.0 in
    let A : ℕ → Head = λ z. record { number = z; m1 = h.m1; m2 = h.m2; step = h.step; line = h.line } in
    let B : Form → Head = λ z. record { number = k.number; m1 = z; m2 = h.m2; step = h.step; line = h.line } in
    let C : Form → Head = λ z. record { number = k.number; m1 = k.m1; m2 = z; step = h.step; line = h.line } in
    let D : ℤ → Head = λ z. record { number = k.number; m1 = k.m1; m2 = k.m2; step = z; line = h.line } in
    let E : ℕ → Head = λ z. record { number = k.number; m1 = k.m1; m2 = k.m2; step = k.step; line = z } in
    ap A (nat_is h.number k.number p.0) ∙ ap B (form_is h.m1 k.m1 p.1) ∙ ap C (form_is h.m2 k.m2 q.1) ∙ ap D (int_is h.step k.step r.1) ∙ ap E (nat_is h.line k.line s.1)

head_self : (h : Head) → same_head h h ≡ true
head_self h =
    and_from (h.number == h.number && same_form h.m1 h.m1 && same_form h.m2 h.m2 && int_eq h.step h.step) (h.line == h.line)
    (and_from (h.number == h.number && same_form h.m1 h.m1 && same_form h.m2 h.m2) (int_eq h.step h.step)
    (and_from (h.number == h.number && same_form h.m1 h.m1) (same_form h.m2 h.m2)
    (and_from (h.number == h.number) (same_form h.m1 h.m1) (nat_self h.number) (form_self h.m1)) (form_self h.m2)) (int_self h.step)) (nat_self h.line)

mutual
  statement_is : (s t : Statement) → same_statement s t ≡ true → s ≡ t
  statement_is (do_loop head body) (do_loop other items) e =
      let p = and_parts (same_head head other) (same_statements body items) e in
      ap (λ z. do_loop z body) (head_is head other p.0) ∙ ap (λ z. do_loop other z) (statements_is body items p.1)
  statement_is (do_loop head body) (work v) e = absurd (cc)
  statement_is (do_loop head body) (continue line) e = absurd (cc)
  statement_is (work w) (do_loop other items) e = absurd (cc)
  statement_is (work w) (work v) e = ap work (work_is w v e)
  statement_is (work w) (continue line) e = absurd (cc)
  statement_is (continue line) (do_loop other items) e = absurd (cc)
  statement_is (continue line) (work v) e = absurd (cc)
  statement_is (continue line) (continue other) e = ap continue (nat_is line other e)

  statements_is : (ss ts : Statements) → same_statements ss ts ≡ true → ss ≡ ts
  statements_is done done e = refl
  statements_is done (next t more) e = absurd (cc)
  statements_is (next s rest) done e = absurd (cc)
  statements_is (next s rest) (next t more) e =
      let p = and_parts (same_statement s t) (same_statements rest more) e in
      ap (λ z. next z rest) (statement_is s t p.0) ∙ ap (λ z. next t z) (statements_is rest more p.1)

mutual
  statement_self : (s : Statement) → same_statement s s ≡ true
  statement_self (do_loop head body) = and_from (same_head head head) (same_statements body body) (head_self head) (statements_self body)
  statement_self (work w) = work_self w
  statement_self (continue line) = nat_self line

  statements_self : (ss : Statements) → same_statements ss ss ≡ true
  statements_self done = refl
  statements_self (next s rest) = and_from (same_statement s s) (same_statements rest rest) (statement_self s) (statements_self rest)

-- ---- declarations

names_are : (cs ds : List Constant) → same_list same_name cs ds ≡ true → map (λ (c : Constant). c.name) cs ≡ map (λ (c : Constant). c.name) ds
names_are [] [] e = refl
names_are [] (d ∷ ds) e = absurd (cc)
names_are (c ∷ cs) [] e = absurd (cc)
names_are (c ∷ cs) (d ∷ ds) e =
    let p = and_parts (same_name c d) (same_list same_name cs ds) e in
    ap (λ z. z ∷ map (λ (x : Constant). x.name) cs) (bytes_is c.name d.name p.0) ∙ ap (λ z. d.name ∷ z) (names_are cs ds p.1)

names_same : (cs ds : List Constant) → map (λ (c : Constant). c.name) cs ≡ map (λ (c : Constant). c.name) ds → same_list same_name cs ds ≡ true
names_same [] [] e = refl
names_same [] (d ∷ ds) e = absurd (cc)
names_same (c ∷ cs) [] e = absurd (cc)
names_same (c ∷ cs) (d ∷ ds) e =
    let here : c.name ≡ d.name = cc in
    let later : map (λ (x : Constant). x.name) cs ≡ map (λ (x : Constant). x.name) ds = cc in
    and_from (same_name c d) (same_list same_name cs ds) (ap (same_bytes c.name) (sym here) ∙ bytes_self c.name) (names_same cs ds later)

spread_is : (s t : Spread) → spread_number s ≡ spread_number t → s ≡ t
spread_is Block Block e = refl
spread_is Block Cyclic e = absurd (cc)
spread_is Cyclic Block e = absurd (cc)
spread_is Cyclic Cyclic e = refl

kind_is : (v w : Declaration) → same_kind v w ≡ true → IsSameKind v w
kind_is v w e =
    let r = and_parts (same_bytes v.name w.name && length v.bounds == length w.bounds && v.axis == w.axis) (spread_number v.spread == spread_number w.spread) e in
    let q = and_parts (same_bytes v.name w.name && length v.bounds == length w.bounds) (v.axis == w.axis) r.0 in
    let p = and_parts (same_bytes v.name w.name) (length v.bounds == length w.bounds) q.0 in
    record {
      name = bytes_is v.name w.name p.0;
      dimensions = nat_is (length v.bounds) (length w.bounds) p.1;
      axis = nat_is v.axis w.axis q.1;
      spread = spread_is v.spread w.spread (nat_is (spread_number v.spread) (spread_number w.spread) r.1);
    }

kind_same : (v w : Declaration) → IsSameKind v w → same_kind v w ≡ true
kind_same v w k =
    and_from (same_bytes v.name w.name && length v.bounds == length w.bounds && v.axis == w.axis) (spread_number v.spread == spread_number w.spread)
    (and_from (same_bytes v.name w.name && length v.bounds == length w.bounds) (v.axis == w.axis)
    (and_from (same_bytes v.name w.name) (length v.bounds == length w.bounds) (ap (same_bytes v.name) (sym k.name) ∙ bytes_self v.name) (eq-eqb (length v.bounds) (length w.bounds) k.dimensions)) (eq-eqb v.axis w.axis k.axis))
    (eq-eqb (spread_number v.spread) (spread_number w.spread) (ap spread_number k.spread))

kinds_are : (vs ws : List Declaration) → same_list same_kind vs ws ≡ true → AreSameKinds vs ws
kinds_are [] [] e = tt
kinds_are [] (w ∷ ws) e = absurd (cc)
kinds_are (v ∷ vs) [] e = absurd (cc)
kinds_are (v ∷ vs) (w ∷ ws) e = let p = and_parts (same_kind v w) (same_list same_kind vs ws) e in (kind_is v w p.0, kinds_are vs ws p.1)

kinds_same : (vs ws : List Declaration) → AreSameKinds vs ws → same_list same_kind vs ws ≡ true
kinds_same [] [] k = refl
kinds_same [] (w ∷ ws) k = absurd k
kinds_same (v ∷ vs) [] k = absurd k
kinds_same (v ∷ vs) (w ∷ ws) k = and_from (same_kind v w) (same_list same_kind vs ws) (kind_same v w k.0) (kinds_same vs ws k.1)

bounds_are : (f g : Tree) (vs : List ℕ) → list_all (same_bounds f.variables g.variables) vs ≡ true → HaveSameBounds f g vs
bounds_are f g [] e = tt
bounds_are f g (v ∷ vs) e =
    let p = and_parts (same_bounds f.variables g.variables v) (list_all (same_bounds f.variables g.variables) vs) e in
    (list_is same_ends ends_is (bounds_of f v) (bounds_of g v) p.0, bounds_are f g vs p.1)

bounds_same : (f g : Tree) (vs : List ℕ) → HaveSameBounds f g vs → list_all (same_bounds f.variables g.variables) vs ≡ true
bounds_same f g [] b = refl
bounds_same f g (v ∷ vs) b =
    and_from (same_bounds f.variables g.variables v) (list_all (same_bounds f.variables g.variables) vs)
    (ap (same_list same_ends (bounds_of f v)) (sym b.0) ∙ list_self same_ends ends_self (bounds_of f v)) (bounds_same f g vs b.1)

-- ---- programs

pub agree_is : (f g : Tree) → do_agree f g ≡ true → Agree f g
agree_is f g e =
    let r = and_parts (same_statements f.items g.items && same_list same_name f.params g.params && same_list same_kind f.variables g.variables) (list_all (same_bounds f.variables g.variables) (printed_whole f.items)) e in
    let q = and_parts (same_statements f.items g.items && same_list same_name f.params g.params) (same_list same_kind f.variables g.variables) r.0 in
    let p = and_parts (same_statements f.items g.items) (same_list same_name f.params g.params) q.0 in
    record {
      items = statements_is f.items g.items p.0;
      names = names_are f.params g.params p.1;
      variables = kinds_are f.variables g.variables q.1;
      bounds = bounds_are f g (printed_whole f.items) r.1;
    }

pub agree_same : (f g : Tree) → Agree f g → do_agree f g ≡ true
agree_same f g a =
    and_from (same_statements f.items g.items && same_list same_name f.params g.params && same_list same_kind f.variables g.variables) (list_all (same_bounds f.variables g.variables) (printed_whole f.items))
    (and_from (same_statements f.items g.items && same_list same_name f.params g.params) (same_list same_kind f.variables g.variables)
    (and_from (same_statements f.items g.items) (same_list same_name f.params g.params) (ap (same_statements f.items) (sym a.items) ∙ statements_self f.items) (names_same f.params g.params a.names))
    (kinds_same f.variables g.variables a.variables)) (bounds_same f g (printed_whole f.items) a.bounds)
