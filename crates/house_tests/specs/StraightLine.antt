-- A straight line of one scalar, for two processors, with a barrier or a join in front of each phase.
use Rattle.std.specs.Prelude.{pos, ◌∷◌, [], List, replicate}
use Rattle.nest_tree.specs.Tree.{Expression, number, load, add, mul, text, value, assign, print, work, done, next, Tree}
use Rattle.nest_tree.specs.declared.tree.Spread.TheVariants.{Block}
use Rattle.owner_partition.specs.declared.anchor.Anchor.{Anchor}
use Rattle.owner_partition.specs.declared.anchor.Dist.TheVariants.{Cyclic}
use Rattle.owner_partition.specs.Cuts.{plain_cut}
use Rattle.sync_plan.specs.declared.plan.Kind.{Kind}
use Rattle.sync_plan.specs.declared.plan.Kind.TheVariants.{Barrier}
use Rattle.sync_plan.specs.declared.plan.Plan.{Plan}
use Rattle.sync_plan.specs.declared.plan.Conditions.TheVariants.{Values}
use Rattle.sync_plan.specs.declared.plan.Version.TheVariants.{Two}
use Rattle.std.specs.Prelude.{None}

abbrev pub doubled : Expression
doubled =
    add (mul (load (record { variable = 1; subscripts = [] })) (number (pos 2))) (number (pos 2))

abbrev pub line : Tree
line = record {
  items = next (work (assign (record {
    target = record { variable = 1; subscripts = [] };
    value = number (pos 20);
    guard = None;
    line = 1;
  })))
      (next (work (assign (record {
        target = record { variable = 1; subscripts = [] };
        value = doubled;
        guard = None;
        line = 1;
      })))
      (next (work (print (record {
        items = text (75 ∷ [])
            ∷ value (load (record { variable = 1; subscripts = [] })) ∷ [];
        line = 1;
      }))) done));
  params = [];
  variables = record { name = 75 ∷ []; bounds = []; axis = 0; spread = Block } ∷ [];
}

abbrev pub first_owns : Anchor
first_owns = record { form = record { constant = pos 0; loops = []; params = [] }; dist = Cyclic }

-- processor 0 of two does everything, with these kinds in front of the phases
abbrev pub plan_with : List Kind → Plan
plan_with kinds = record {
  version = Two;
  conditions = Values;
  workers = 2;
  cut = plain_cut [];
  anchors = replicate 3 first_owns;
  kinds = kinds;
  certificates = [];
}

abbrev pub barriers : List Kind
barriers = Barrier ∷ Barrier ∷ Barrier ∷ []
