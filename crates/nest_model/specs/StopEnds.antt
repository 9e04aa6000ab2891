-- The intervals of the loops round each stop of a walk, stop by stop in text order.
use Rattle.std.specs.Prelude.{ℕ, ◌-◌, ℤ, pos, negsuc, Bool, true, List, [], ◌∷◌, ◌++◌, slice_index_or, if◌then◌else◌, ◌≡◌, refl}
use Rattle.nest_tree.specs.Form.{fixed}
use Rattle.nest_tree.specs.Intervals.{head_interval, with_ends}
use Rattle.nest_tree.specs.Layout.{are_inside}
use Rattle.nest_tree.specs.Limits.{no_ends}
use Rattle.nest_tree.specs.Tree.{print, Statement, Statements, do_loop, work, continue, done, next, Tree, param_values}
use Rattle.nest_model.specs.Visits.{Visit}

-- a loop inside others has the interval that those of the others give it; loops that are not round the stop have (0, 0), by number
abbrev mutual
  pub stop_ends_in : List ℤ → (ℕ → Bool) → List (ℤ × ℤ) → Statement → List (List (ℤ × ℤ))
  stop_ends_in params enters ends (do_loop head body) =
      if enters head.number
      then stop_ends_of params enters (with_ends ends head.number
      (head_interval params ends head)) body
      else ends ∷ []
  stop_ends_in params enters ends (work w) = ends ∷ []
  stop_ends_in params enters ends (continue line) = []

  pub stop_ends_of : List ℤ → (ℕ → Bool) → List (ℤ × ℤ) → Statements → List (List (ℤ × ℤ))
  stop_ends_of params enters ends done = []
  stop_ends_of params enters ends (next s rest) =
      stop_ends_in params enters ends s ++ stop_ends_of params enters ends rest

abbrev pub stop_ends : Tree → (ℕ → Bool) → List (List (ℤ × ℤ))
stop_ends tree enters = stop_ends_of (param_values tree) enters no_ends tree.items

-- each loop's value lies in its interval, loop by loop: 0 in (0, 0) for a loop that is not round the stop
abbrev pub is_in_its_ends : List (List (ℤ × ℤ)) → Visit → Bool
is_in_its_ends all v = are_inside (slice_index_or all (v.place - 1) []) v.loops

-- a PRINT in DO 10 J = I, -6, -1 in DO 10 I = 1, 4: I lies from 1 to 4, and J from -6 to 4
abbrev printed : Statements
printed = next (work (print (record { items = []; line = 3 }))) done

abbrev inner : Statement
inner = do_loop (record {
  number = 2;
  m1 = record {
    constant = pos 0;
    loops = (1, pos 1) ∷ [];
    params = [];
  };
  m2 = fixed (negsuc 5);
  step = negsuc 0;
  line = 2;
}) printed

abbrev outer : Statement
outer = do_loop (record {
  number = 1;
  m1 = fixed (pos 1);
  m2 = fixed (pos 4);
  step = pos 1;
  line = 1;
}) (next inner done)

pub stop_ends-example : stop_ends_in [] (λ n. true) ((pos 0, pos 0) ∷ (pos 0, pos 0) ∷ []) outer
    ≡ ((pos 1, pos 4) ∷ (negsuc 5, pos 4) ∷ []) ∷ []
stop_ends-example = refl
