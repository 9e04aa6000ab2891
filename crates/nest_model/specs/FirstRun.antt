-- The first run: K = 20, K = K*2 + 2, PRINT *, 'K', K.
use Rattle.std.specs.Prelude.{pos, ◌≡◌, None, [], ◌∷◌, codes, ◌++◌, refl}
use Rattle.std.specs.Int.{int_wrap}
use Rattle.std.specs.Fmt.{digits}
use Rattle.nest_tree.specs.declared.tree.Access.{Access}
use Rattle.nest_tree.specs.declared.tree.Spread.TheVariants.{Block}
use Rattle.nest_tree.specs.Tree.{Tree, number, load, add, mul, value, text, assign, print, work, done, next}
use Rattle.nest_model.specs.Memory.{last_memory, output_of}

-- the scalar K
abbrev pub k : Access
k = record { variable = 1; subscripts = [] }

abbrev pub first_run : Tree
first_run = record {
  items = next (work (assign (record {
    target = k;
    value = number (pos 20);
    guard = None;
    line = 2;
  }))) (next (work (assign (record {
    target = k;
    value = add (mul (load k) (number (pos 2))) (number (pos 2));
    guard = None;
    line = 3;
  }))) (next (work (print (record
      { items = text (75 ∷ []) ∷ value (load k) ∷ []; line = 4 }))) done));
  params = [];
  variables = record { name = 75 ∷ []; bounds = []; axis = 0; spread = Block } ∷ [];
}

-- its memory in the end, and its line of output, " K 42"
pub last_memory-first_run : last_memory first_run ≡ pos 42 ∷ []
unfolding int_wrap
last_memory-first_run = refl

pub output_of-first_run : output_of first_run ≡ codes " K 42" ++ 10 ∷ []
unfolding int_wrap digits
output_of-first_run = refl
