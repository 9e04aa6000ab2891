-- Systems that have a whole solution wherever a subscript leaves a bound of its dimension.
use Rattle.std.specs.Prelude.{ℕ, ◌+◌, ◌-◌, ◌*◌, ◌/◌, min, ℤ, pos, ◌-ℤ◌, neg_ℤ, List, [], ◌∷◌, ◌++◌, length, map, slice_index_or, ◌≡◌, refl}
use Rattle.std.specs.List.{range_with_len}
use Rattle.nest_tree.specs.Form.{Form}
use Rattle.nest_tree.specs.Layout.{bounds_of}
use Rattle.nest_tree.specs.Tree.{Tree, param_values}
use Rattle.farkas_cert.specs.Inequalities.{Inequalities}
use Rattle.farkas_cert.specs.declared.certificate.Certificate.{Certificate}
use Rattle.farkas_cert.specs.Good.{IsGood}
use Rattle.fm_elim.specs.Answers.{IsKept}
use Rattle.fm_elim.specs.declared.answer.Answer.{Answer}
use Rattle.nest_rows.specs.declared.constraint.Constraint.{Constraint}
use Rattle.nest_rows.specs.declared.constraint.Sign.{Sign}
use Rattle.nest_rows.specs.declared.constraint.Sign.TheVariants.{Plus, Minus}
use Rattle.nest_rows.specs.Constraints.{system_of}
use Rattle.nest_rows.specs.Groups.{at_most, constants_have, guard_has, loops_have}
use Rattle.presolve.specs.Presolution.{IsPresolved, Presolution}
use Rattle.range_check.specs.Sites.{Site}

-- the unknowns: the named constants, then the value and the trip of each loop round the access
abbrev pub constant_count : Tree → ℕ
constant_count tree = length tree.params

abbrev pub unknowns : Tree → Site → ℕ
unknowns tree site = constant_count tree + 2 * length site.around

abbrev pub first_loop : Tree → ℕ
first_loop tree = constant_count tree + 1

-- what holds of each instance of the access: the constants' values, the loops round it, and its comparison
abbrev pub standing : Tree → Site → List Constraint
standing tree site =
    constants_have 1 (param_values tree) ++ loops_have (first_loop tree) site.around
    (first_loop tree) site.around ++ guard_has (first_loop tree) site.around site.guard

abbrev pub no_form : Form
no_form = record { constant = pos 0; loops = []; params = [] }

-- the bounds of a dimension, from 1
abbrev pub bounds_in : Tree → Site → ℕ → ℤ × ℤ
bounds_in tree site dimension =
    slice_index_or (bounds_of tree site.access.variable) (dimension - 1) (pos 0, pos 0)

-- the subscript in the dimension with this place, from 0, is at most a number, with a sign
abbrev pub side_system : Tree → Site → Sign → ℕ → ℤ → Inequalities
side_system tree site sign place most =
    system_of (unknowns tree site) (standing tree site
    ++ at_most sign (first_loop tree) site.around
    (slice_index_or site.access.subscripts place no_form) most ∷ [])

-- an instance's subscript is below the lower bound
abbrev pub below : Tree → Site → ℕ → Inequalities
below tree site dimension =
    side_system tree site Plus (dimension - 1) ((bounds_in tree site dimension).0 -ℤ pos 1)

-- an instance's subscript is above the upper bound
abbrev pub above : Tree → Site → ℕ → Inequalities
above tree site dimension =
    side_system tree site Minus (dimension - 1) (neg_ℤ (bounds_in tree site dimension).1 -ℤ pos 1)

-- so many numbers in equal steps
abbrev pub in_steps : ℕ → ℕ → ℕ → List ℕ
in_steps first step count = map (λ k. first + step * k) (range_with_len 0 count)

-- the order of elimination: the constants, then all values, then all trips
abbrev pub elimination_order : ℕ → ℕ → List ℕ
elimination_order constants loops =
    in_steps 1 1 constants ++ (in_steps (constants + 1) 2 loops ++ in_steps (constants + 2) 2 loops)

-- over so many unknowns, of which the last ones are the value and the trip of each of so many loops
abbrev pub order_over : ℕ → ℕ → List ℕ
order_over vars loops = elimination_order (vars - 2 * min loops (vars / 2)) (min loops (vars / 2))

-- two certificates show that no instance's subscript leaves its bounds
abbrev pub AreProof : Tree → Site → ℕ → Certificate × Certificate → Type 0
AreProof tree site dimension (low, high) =
    IsGood (below tree site dimension) low × IsGood (above tree site dimension) high

-- elimination keeps what is left of a system inside so many loops, without rows and columns that play no part: as Open, Wide, Many or Work
pub record IsKeptAs (system : Inequalities) (loops : ℕ) : Type 0 where
  pub left : Presolution
  pub presolved : IsPresolved system left
  pub answer : Answer
  pub kept : IsKept left.system (order_over left.system.vars loops) answer

-- there are two such certificates
abbrev pub HasProof : Tree → Site → ℕ → Type 0
HasProof tree site dimension =
    (proof : Certificate × Certificate) × AreProof tree site dimension proof

-- the order of elimination with two constants and two loops
pub elimination_order-example : elimination_order 2 2 ≡ 1 ∷ 2 ∷ 3 ∷ 5 ∷ 4 ∷ 6 ∷ []
elimination_order-example = refl

-- over five unknowns, of which four are those of two loops
pub order_over-example : order_over 5 2 ≡ 1 ∷ 2 ∷ 4 ∷ 3 ∷ 5 ∷ []
order_over-example = refl
