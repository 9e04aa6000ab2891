-- Names are spelled as names.
use Rattle.std.proofs.Common.{◌≡◌, ℕ, zero, suc, ◌+◌, ◌-◌, ◌<◌, ◌/◌, ◌%◌, ◌==◌, Bool, true, false, ◌&&◌, nat_le, IsTrue, List, [], ◌∷◌, map, refl, ap, ap₂, ◌∙◌, arith, Option, Some, None, slice_get, if◌then◌else◌}
use Rattle.std.specs.Fmt.{decimal, digit_glyph, digits, digits_onto}
use Rattle.std.specs.List.{list_all}
use Rattle.std.proofs.lemmas.Bool.{le-leb, lt-ltb}
use Rattle.list_lemmas.proofs.Tests.{or_right_true}
use Rattle.nest_tree.specs.Tree.{Declaration, Tree}
use Rattle.c_expressions.specs.Grammar.{is_digit, is_letter, is_name, is_name_byte, is_variable}
use Rattle.c_expressions.specs.Names.{cleaned, loop_name, name_in, own_cell, shared_cell, term_name}
use Rattle.c_expressions.specs.declared.sum.Term.{Term}
use Rattle.c_expressions.specs.declared.sum.Term.TheVariants.{Loop, Last, Processor}

digit_byte : (d : ℕ) → d < 10 → is_name_byte (48 + d) ≡ true
digit_byte d lt =
    let low : nat_le 48 (48 + d) ≡ true = le-leb 48 (48 + d) (omega arith) in
    let high : nat_le (48 + d) 57 ≡ true = le-leb (48 + d) 57 (omega arith) in
    or_right_true (is_letter (48 + d)) (is_digit (48 + d)) (ap₂ (λ a b. a && b) low high)

glyph_byte : (d : ℕ) → d < 10 → is_name_byte (digit_glyph false d) ≡ true
glyph_byte d lt = ap (λ b. is_name_byte (if b then 48 + d else 87 + d)) (lt-ltb d 10 lt) ∙ digit_byte d lt

digits_onto_names : (k n : ℕ) (bytes : List ℕ) → list_all is_name_byte bytes ≡ true → list_all is_name_byte (digits_onto k 10 false n bytes) ≡ true
digits_onto_names zero n bytes all = all
digits_onto_names (suc k) n bytes all =
    let more : list_all is_name_byte (digit_glyph false (n % 10) ∷ bytes) ≡ true = ap₂ (λ a b. a && b) (glyph_byte (n % 10) (omega arith)) all in
    elim (n / 10 == 0) as (λ b. list_all is_name_byte (if b then digit_glyph false (n % 10) ∷ bytes else digits_onto k 10 false (n / 10) (digit_glyph false (n % 10) ∷ bytes)) ≡ true)
    [ true ↦ more | false ↦ digits_onto_names k (n / 10) (digit_glyph false (n % 10) ∷ bytes) more ]

pub digits_are_names : (n : ℕ) → list_all is_name_byte (decimal n) ≡ true
unfolding digits
digits_are_names n = digits_onto_names 64 n [] refl

cleaned_by : (b : ℕ) (t : Bool) → is_name_byte b ≡ t → is_name_byte (if t then b else 95) ≡ true
cleaned_by b true e = e
cleaned_by b false e = refl

pub cleaned_are_names : (bytes : List ℕ) → list_all is_name_byte (map cleaned bytes) ≡ true
cleaned_are_names [] = refl
cleaned_are_names (b ∷ bytes) = ap₂ (λ x y. x && y) (cleaned_by b (is_name_byte b) refl) (cleaned_are_names bytes)

name_in_is : (n : ℕ) (o : Option Declaration) → list_all is_name_byte (name_in n o) ≡ true
name_in_is n (Some v) = cleaned_are_names v.name
name_in_is n None = digits_are_names n

pub loop_name_is : (n : ℕ) → IsTrue (is_variable (loop_name n))
loop_name_is n = digits_are_names n

pub term_name_is : (t : Term) → IsTrue (is_variable (term_name t))
term_name_is (Loop n) = loop_name_is n
term_name_is Last = refl
term_name_is Processor = refl

pub shared_cell_is : (tree : Tree) (n : ℕ) → IsTrue (is_variable (shared_cell tree n))
shared_cell_is tree n = name_in_is n (slice_get tree.variables (n - 1))

pub own_cell_is : (tree : Tree) (n : ℕ) → IsTrue (is_variable (own_cell tree n))
own_cell_is tree n = name_in_is n (slice_get tree.variables (n - 1))

-- behind the letters that a cell's name begins with
pub shared_array_is : (tree : Tree) (n : ℕ) → IsTrue (is_name (shared_cell tree n))
shared_array_is tree n = shared_cell_is tree n
