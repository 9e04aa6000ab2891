-- Affine forms: what subscripts, DO bounds and the sides of a comparison stand for.
use Rattle.std.specs.Prelude.{ℕ, ◌==◌, ℤ, pos, negsuc, ◌+ℤ◌, ◌*ℤ◌, Bool, true, ◌&&◌, ◌||◌, not, nat_lt, if◌then◌else◌, List, [], ◌∷◌, ◌++◌, map, codes, ◌≡◌, refl}
use Rattle.std.specs.List.{list_any}
use Rattle.std.specs.Ordering.{int_eq}
use Rattle.nest_tree.specs.Form.{Form}
pub use Rattle.nest_tree.specs.Form.{fixed}
use Rattle.f77_forms.specs.declared.form.Sign.{Sign}
use Rattle.f77_forms.specs.declared.form.Sign.TheVariants.{Plus, Minus}
use Rattle.f77_forms.specs.declared.form.Operator.TheVariants.{Add, Subtract, Multiply, Divide}
use Rattle.f77_forms.specs.Characters.{decimal}
use Rattle.f77_forms.specs.Form.{ExpressionForm, number, name, call, parenthesized, signed, binary}
use Rattle.f77_scene.specs.Scene.{Scene, first_scene, is_constant_name, constant_names, number_among, is_open, loop_named}
use Rattle.f77_scene.specs.Expressions.{names_in, is_constant, value_of}

-- ---- sums and multiples of forms

-- a pair in front of pairs; a coefficient of 0 is left out
abbrev pub kept : ℕ → ℤ → List (ℕ × ℤ) → List (ℕ × ℤ)
kept n c pairs = if int_eq c (pos 0) then pairs else (n, c) ∷ pairs

-- one more pair among pairs whose numbers rise
abbrev pub with_pair : ℕ → ℤ → List (ℕ × ℤ) → List (ℕ × ℤ)
with_pair n c [] = kept n c []
with_pair n c ((m, d) ∷ pairs) = if nat_lt n m
    then kept n c ((m, d) ∷ pairs)
    else (if n == m then kept n (c +ℤ d) pairs else (m, d) ∷ with_pair n c pairs)

abbrev pub pairs_plus : List (ℕ × ℤ) → List (ℕ × ℤ) → List (ℕ × ℤ)
pairs_plus [] pairs = pairs
pairs_plus ((n, c) ∷ more) pairs = with_pair n c (pairs_plus more pairs)

abbrev pub pairs_times : ℤ → List (ℕ × ℤ) → List (ℕ × ℤ)
pairs_times z [] = []
pairs_times z ((n, c) ∷ pairs) = kept n (z *ℤ c) (pairs_times z pairs)

abbrev pub plus : Form → Form → Form
plus a b = record {
  constant = a.constant +ℤ b.constant;
  loops = pairs_plus a.loops b.loops;
  params = pairs_plus a.params b.params;
}

abbrev pub times : ℤ → Form → Form
times z a = record {
  constant = z *ℤ a.constant;
  loops = pairs_times z a.loops;
  params = pairs_times z a.params;
}

-- ---- expressions that are affine

-- a loop variable stands in an expression
abbrev pub has_loop : Scene → ExpressionForm → Bool
has_loop s e = list_any (is_open s) (names_in s e)

-- a quotient, MIN or MAX is affine where it is a constant, and a product where one factor has no loop variable
abbrev pub is_affine : Scene → ExpressionForm → Bool
is_affine s (number ds) = true
is_affine s (name n) = is_open s n || is_constant_name s n
is_affine s (call n arguments) = is_constant s (call n arguments)
is_affine s (parenthesized e) = is_affine s e
is_affine s (signed sign e) = is_affine s e
is_affine s (binary Add a b) = is_affine s a && is_affine s b
is_affine s (binary Subtract a b) = is_affine s a && is_affine s b
is_affine s (binary Multiply a b) =
    is_affine s a && is_affine s b && not (has_loop s a && has_loop s b)
is_affine s (binary Divide a b) = is_constant s (binary Divide a b)

abbrev pub sign_times : Sign → Form → Form
sign_times Plus a = a
sign_times Minus a = times (negsuc 0) a

-- the form of a name: the variable of a loop round this place, or a name of a PARAMETER statement
abbrev pub name_form : Scene → List ℕ → Form
name_form s n =
    if is_open s n
    then record { constant = pos 0; loops = (loop_named s.opened n, pos 1) ∷ []; params = [] }
    else record {
      constant = pos 0;
      loops = [];
      params = (number_among (constant_names s) n, pos 1) ∷ [];
    }

-- the form that an affine expression stands for; of two factors without a loop variable the left one's value multiplies
abbrev pub form_of : Scene → ExpressionForm → Form
form_of s (number ds) = fixed (pos (decimal ds))
form_of s (name n) = name_form s n
form_of s (call n arguments) = fixed (value_of s (call n arguments))
form_of s (parenthesized e) = form_of s e
form_of s (signed sign e) = sign_times sign (form_of s e)
form_of s (binary Add a b) = plus (form_of s a) (form_of s b)
form_of s (binary Subtract a b) = plus (form_of s a) (sign_times Minus (form_of s b))
form_of s (binary Multiply a b) =
    if has_loop s a then times (value_of s b) (form_of s a) else times (value_of s a) (form_of s b)
form_of s (binary Divide a b) = fixed (value_of s (binary Divide a b))

-- ---- the numbers that have to keep the limit

-- the numbers of a form: its constant, its coefficients of loops, then those of named constants
abbrev pub numbers_of : Form → List ℤ
numbers_of f = f.constant ∷ map (λ (p : ℕ × ℤ). p.1) f.loops ++ map (λ (p : ℕ × ℤ). p.1) f.params

-- the value that a product takes of one factor
abbrev pub taken : Scene → ExpressionForm → ExpressionForm → ℤ
taken s a b = if has_loop s a then value_of s b else value_of s a

-- the numbers of the forms met on the way from the left, and the values taken
abbrev pub met : Scene → ExpressionForm → List ℤ
met s (number ds) = pos (decimal ds) ∷ []
met s (name n) = []
met s (call n arguments) = value_of s (call n arguments) ∷ []
met s (parenthesized e) = met s e
met s (signed sign e) = met s e
met s (binary Add a b) = met s a ++ met s b ++ numbers_of (form_of s (binary Add a b))
met s (binary Subtract a b) = met s a ++ met s b ++ numbers_of (form_of s (binary Subtract a b))
met s (binary Multiply a b) =
    met s a ++ met s b ++ taken s a b ∷ numbers_of (form_of s (binary Multiply a b))
met s (binary Divide a b) = value_of s (binary Divide a b) ∷ []

-- ---- examples

-- 2*(3-4)+5 is the number 3, and on the way 2, 3, 4, -1, 2, -2, 5 and 3 are met
abbrev example : ExpressionForm
example = binary Add (binary Multiply (number (codes "2"))
    (parenthesized (binary Subtract (number (codes "3")) (number (codes "4")))))
    (number (codes "5"))

pub form_of-example : form_of first_scene example ≡ fixed (pos 3)
form_of-example = refl

pub met-example : met first_scene example
    ≡ pos 2 ∷ pos 3 ∷ pos 4 ∷ negsuc 0 ∷ pos 2 ∷ negsuc 1 ∷ pos 5 ∷ pos 3 ∷ []
met-example = refl

-- a pair that comes to 0 is left out
pub pairs_plus-example : pairs_plus ((1, pos 2) ∷ (3, pos 1) ∷ []) ((1, negsuc 1) ∷ (2, pos 4) ∷ [])
    ≡ (2, pos 4) ∷ (3, pos 1) ∷ []
pairs_plus-example = refl
