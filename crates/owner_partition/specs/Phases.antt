-- Phases: the loops that aren't Outer and the assignments and PRINTs outside them, at each value of the Outer loops round them.
use Rattle.std.specs.Prelude.{ℕ, suc, ℤ, pos, List, [], ◌∷◌, ◌++◌, Option, map, slice_get, ◌≡◌, refl}
use Rattle.std.specs.Option.{option_map}
use Rattle.nest_tree.specs.Tree.{Statement, print, work, do_loop, done, next, Tree, param_values}
use Rattle.nest_model.specs.Instances.{Instance}
use Rattle.nest_model.specs.Visits.{Visit, visits}
pub use Rattle.nest_model.specs.Visits.{visit_instances}
use Rattle.owner_partition.specs.declared.cut.Mark.{Mark}
use Rattle.owner_partition.specs.declared.cut.Mark.TheVariants.{Outer, Single}
use Rattle.owner_partition.specs.Marks.{enters_outer}

-- the phases in order of execution: the phase with number e, from 1, has the place e - 1 in the list, and `place` is the number of its static phase
abbrev pub phases : Tree → List Mark → List Visit
phases tree marks = visits tree (enters_outer marks)

-- an instance in its phase: the number of the phase, and of its static phase, both from 1
pub record Execution : Type 0 where
  pub phase : ℕ
  pub place : ℕ
  pub instance : Instance

-- what is executed in phases of which the first has this number
abbrev pub executions_from : List ℤ → ℕ → List Visit → List Execution
executions_from params e [] = []
executions_from params e (v ∷ rest) = map (λ i. record { phase = e; place = v.place; instance = i })
    (visit_instances params v) ++ executions_from params (suc e) rest

-- all instances of a program, each in its phase, in sequential order
abbrev pub executions : Tree → List Mark → List Execution
executions tree marks = executions_from (param_values tree) 1 (phases tree marks)

-- the number of the phase of the instance with this place, from 0
abbrev pub phase_of : Tree → List Mark → ℕ → Option ℕ
phase_of tree marks k =
    option_map (λ (x : Execution). x.phase) (slice_get (executions tree marks) k)

-- DO 10 I = 1, 2 with a PRINT, an Outer loop, and behind it DO 20 J = 3, 1 with a PRINT, a Single loop that makes no trip: three phases, and an instance in each of the first two
abbrev loop_with_print : ℕ → ℤ → ℤ → Statement
loop_with_print n m1 m2 = do_loop (record {
  number = n;
  m1 = record { constant = m1; loops = []; params = [] };
  m2 = record { constant = m2; loops = []; params = [] };
  step = pos 1;
  line = n;
})
    (next (work (print (record { items = []; line = n }))) done)

abbrev two_loops : Tree
two_loops = record {
  items = next (loop_with_print 1 (pos 1) (pos 2))
      (next (loop_with_print 2 (pos 3) (pos 1)) done);
  params = [];
  variables = [];
}

pub phases-example : map (λ (v : Visit). v.place) (phases two_loops (Outer ∷ Single ∷ []))
    ≡ 1 ∷ 1 ∷ 2 ∷ []
phases-example = refl

pub executions-example : map (λ (x : Execution). x.phase)
    (executions two_loops (Outer ∷ Single ∷ [])) ≡ 1 ∷ 2 ∷ []
executions-example = refl
