-- The own scalars of a phase: each processor has a cell of its own for each of them. A private scalar's last value is stored to the cell that all share, and what a processor added up for a sum scalar is added to that.
use Rattle.std.specs.Prelude.{ℕ, ◌+◌, ◌*◌, ◌-◌, ◌==◌, Bool, List, [], position, slice_get, Option, Some, None, if◌then◌else◌}
use Rattle.std.specs.List.{list_any}
use Rattle.std.specs.Option.{option_map, option_or}
use Rattle.nest_tree.specs.Layout.{cell_count, first_cell}
use Rattle.nest_tree.specs.Tree.{Statement, Statements, do_loop, work, continue, done, Tree}
use Rattle.nest_walk.specs.Texts.{Placed}
use Rattle.own_scalars.specs.OwnScalars.{sum_scalars}
use Rattle.owner_partition.specs.Cuts.{Cutting, privates_of}
use Rattle.owner_partition.specs.Marks.{is_sum_mark, mark_of}
use Rattle.sync_plan.specs.declared.plan.Plan.{Plan}
use Rattle.sync_plan.specs.Shape.{static_phases}

-- the own scalars of a static phase, by their variables' numbers in the order of their cells, and the body of its loop
pub record OwnLoop : Type 0 where
  pub privates : List ℕ
  pub sums : List ℕ
  pub body : Statements

abbrev pub own_loop_of : Cutting → Statement → OwnLoop
own_loop_of cut (do_loop head body) = record {
  privates = privates_of cut.privates head.number;
  sums = if is_sum_mark (mark_of cut.marks head.number) then sum_scalars body else [];
  body = body;
}
own_loop_of cut (work w) = record { privates = []; sums = []; body = done }
own_loop_of cut (continue line) = record { privates = []; sums = []; body = done }

abbrev pub own_loop_at : Cutting → Option Placed → OwnLoop
own_loop_at cut None = record { privates = []; sums = []; body = done }
own_loop_at cut (Some s) = own_loop_of cut s.what

-- those of the static phase with this number, from 1
abbrev pub own_loop : Tree → Plan → ℕ → OwnLoop
own_loop tree plan place =
    own_loop_at plan.cut (slice_get (static_phases tree plan.cut.marks) (place - 1))

-- a cell is that of one of these scalars
abbrev pub is_cell_of : Tree → List ℕ → ℕ → Bool
is_cell_of tree scalars c = list_any (λ v. first_cell tree v == c) scalars

-- the place of a cell among those of these scalars
abbrev pub place_in : Tree → List ℕ → ℕ → Option ℕ
place_in tree scalars c = position (λ v. first_cell tree v == c) scalars

-- for so many processors: how many cells all share, the place of a shared cell among the own scalars' if it is one's, whether it is a sum scalar's, and the cell that a processor has for a place
pub record Own : Type 0 where
  pub workers : ℕ
  pub shared : ℕ
  pub slot : ℕ → Option ℕ
  pub is_sum : ℕ → Bool
  pub cell : ℕ → ℕ → ℕ

-- private scalars have the places 0 to 15, sum scalars 16 to 31; processor p's cell for place k stands at 32 * p + k behind the shared ones
abbrev pub own_of : Tree → Plan → ℕ → Own
own_of tree plan place =
    let own = own_loop tree plan place in
    record {
      workers = plan.workers;
      shared = cell_count tree;
      slot = λ c. option_or (place_in tree own.privates c)
          (option_map (λ k. 16 + k) (place_in tree own.sums c));
      is_sum = is_cell_of tree own.sums;
      cell = λ p k. cell_count tree + (32 * p + k);
    }

abbrev pub at_slot : Own → ℕ → ℕ → Option ℕ → ℕ
at_slot o p c None = c
at_slot o p c (Some k) = o.cell p k

-- where processor p has a cell: an own scalar's is its own one
abbrev pub own_cell : Own → ℕ → ℕ → ℕ
own_cell o p c = at_slot o p c (o.slot c)
