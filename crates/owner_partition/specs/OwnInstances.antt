-- What own iterations ask of an anchor, and the values of a loop's own trips.
use Rattle.std.specs.Prelude.{ℕ, ◌==◌, ℤ, pos, negsuc, Bool, true, List, [], ◌∷◌, if◌then◌else◌, ◌≡◌, refl}
use Rattle.std.specs.List.{filter}
use Rattle.nest_tree.specs.Form.{Form, fixed, reach_within}
use Rattle.nest_tree.specs.Tree.{Head, Statement, do_loop, work, continue}
use Rattle.nest_model.specs.Instances.{head_trips, with_loop}
use Rattle.owner_partition.specs.declared.anchor.Anchor.{Anchor}
use Rattle.owner_partition.specs.declared.anchor.Dist.{Dist}
use Rattle.owner_partition.specs.declared.anchor.Dist.TheVariants.{Block, Cyclic}
use Rattle.owner_partition.specs.Owners.{anchor_owner}

-- a form names no loop inside that of a phase: those have greater numbers
abbrev pub names_no_inner : Statement → Form → Bool
names_no_inner (do_loop head body) f = reach_within head.number f.loops
names_no_inner (work w) f = true
names_no_inner (continue line) f = true

-- the coefficient of the loop with this number, 0 where it isn't named
abbrev pub coefficient_of : List (ℕ × ℤ) → ℕ → ℤ
coefficient_of [] n = pos 0
coefficient_of ((m, c) ∷ pairs) n = if m == n then c else coefficient_of pairs n

-- an anchor names processor p where the loops have these values
abbrev pub is_owned : List ℤ → Anchor → ℕ → ℕ → List ℤ → Bool
is_owned params a workers p loops = anchor_owner a workers loops params == p

-- the values of a loop's trips that processor p owns, trip by trip
abbrev pub own_values : List ℤ → Anchor → ℕ → ℕ → Head → List ℤ → List ℤ
own_values params a workers p head loops = filter
    (λ v. is_owned params a workers p (with_loop loops head.number v))
    (head_trips params head loops)

pub coefficient_of-example : coefficient_of ((1, pos 2) ∷ (3, pos 5) ∷ []) 3 ≡ pos 5
coefficient_of-example = refl

-- DO 10 I = 2, 9 and the place I - 2 among three workers: in blocks of 3 processor 2 has I = 8 and 9, in turn it has 4 and 7; DO 10 I = 5, 1 has no trip
abbrev behind_two : Dist → Anchor
behind_two dist = record {
  form = record {
    constant = negsuc 1;
    loops = (1, pos 1) ∷ [];
    params = [];
  };
  dist = dist;
}

abbrev from_to : ℤ → ℤ → Head
from_to m1 m2 = record { number = 1; m1 = fixed m1; m2 = fixed m2; step = pos 1; line = 1 }

pub own_values-block : own_values [] (behind_two (Block 3)) 3 2 (from_to (pos 2) (pos 9))
    (pos 0 ∷ []) ≡ pos 8 ∷ pos 9 ∷ []
own_values-block = refl

pub own_values-cyclic : own_values [] (behind_two Cyclic) 3 2 (from_to (pos 2) (pos 9)) (pos 0 ∷ [])
    ≡ pos 4 ∷ pos 7 ∷ []
own_values-cyclic = refl

pub own_values-none : own_values [] (behind_two Cyclic) 3 2 (from_to (pos 5) (pos 1)) (pos 0 ∷ [])
    ≡ []
own_values-none = refl
