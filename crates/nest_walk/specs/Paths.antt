-- The loops round a place with their values, the innermost first.
use Rattle.std.specs.Prelude.{ℕ, zero, suc, ◌-◌, ◌==◌, ℤ, pos, ◌+ℤ◌, ◌*ℤ◌, Bool, List, [], ◌∷◌, ◌++◌, map, length, reverse, replicate, slice_index_or, if◌then◌else◌, ◌≡◌, refl}
use Rattle.std.specs.Ordering.{int_eq}
use Rattle.nest_tree.specs.Form.{Form, dot}
use Rattle.nest_model.specs.Instances.{with_loop}

-- a loop's number and the value of its DO variable
pub record Round : Type 0 where
  pub number : ℕ
  pub value : ℤ

-- the first so many loops of numbers and values that stand by depth
abbrev pub rounds_to : List ℕ → List ℤ → ℕ → List Round
rounds_to numbers values zero = []
rounds_to numbers values (suc k) = record {
  number = slice_index_or numbers k 0;
  value = slice_index_or values k (pos 0);
} ∷ rounds_to numbers values k

abbrev pub is_zero : ℤ → Bool
is_zero v = int_eq v (pos 0)

-- the values of so many loops by number, where only these have one
abbrev pub by_number : ℕ → List Round → List ℤ
by_number loops [] = replicate loops (pos 0)
by_number loops (r ∷ rounds) = with_loop (by_number loops rounds) r.number r.value

-- the values by depth from the outermost, in six places, 0 in those left over
abbrev pub by_depth : List Round → List ℤ
by_depth rounds =
    reverse (map (λ (r : Round). r.value) rounds) ++ replicate (6 - length rounds) (pos 0)

-- the values by depth of loops that are all at 0
abbrev pub origin : List ℤ
origin = replicate 6 (pos 0)

-- the value of the loop with this number, 0 where it isn't among these
abbrev pub value_among : List Round → ℕ → ℤ
value_among [] n = pos 0
value_among (r ∷ rounds) n = if r.number == n then r.value else value_among rounds n

-- coefficients times values, and the value of a form
abbrev pub dot_among : List (ℕ × ℤ) → List Round → ℤ
dot_among [] rounds = pos 0
dot_among ((n, c) ∷ pairs) rounds = c *ℤ value_among rounds n +ℤ dot_among pairs rounds

abbrev pub form_among : Form → List Round → List ℤ → ℤ
form_among f rounds params = f.constant +ℤ dot_among f.loops rounds +ℤ dot f.params params

-- of three loops, the third stands in the first
abbrev example_rounds : List Round
example_rounds = record { number = 3; value = pos 7 } ∷ record { number = 1; value = pos 5 } ∷ []

pub by_number-example : by_number 3 example_rounds ≡ pos 5 ∷ pos 0 ∷ pos 7 ∷ []
by_number-example = refl

pub by_depth-example : by_depth example_rounds ≡ pos 5 ∷ pos 7 ∷ pos 0 ∷ pos 0 ∷ pos 0 ∷ pos 0 ∷ []
by_depth-example = refl
