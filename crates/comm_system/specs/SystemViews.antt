-- Where the unknowns of a pair of accesses stand, and the rows that all pieces of a pair have.
use Rattle.std.specs.Prelude.{ℕ, ◌<◌, ◌^◌, ◌≡◌, List, ◌++◌, map}
use Rattle.std.specs.List.{range_with_len}
use Rattle.farkas_cert.specs.Inequalities.{Inequalities}
use Rattle.nest_tree.specs.Tree.{Tree}
use Rattle.nest_rows.specs.declared.constraint.Constraint.{Constraint}
use Rattle.owner_partition.specs.declared.anchor.Anchor.{Anchor}
use Rattle.sync_plan.specs.declared.plan.Plan.{Plan}
use Rattle.conflict_rules.specs.Boundaries.{Side}
use Rattle.conflict_rules.specs.Slots.{Slot}
use Rattle.comm_system.specs.Obligations.{Task, last_of, numbered_from, owners_of, pieces_from, shared_system}
use Rattle.comm_system.specs.OwnerRows.{Piece, owner_numbers, owners_unknowns}
use Rattle.comm_system.specs.PairRows.{behind_pair, first_of, second_of}
use Rattle.comm_system.specs.Pairs.{Pair}
use Rattle.comm_system.specs.PieceViews.{piece_seen}
use Rattle.comm_system.specs.declared.obligation.Obligation.{Obligation}
use Rattle.comm_system.specs.declared.obligation.Topic.{Topic}
use Rattle.nest_systems.specs.Growing.{Growing, whole_of, with_constraints}
use Rattle.comm_system.specs.declared.in_place.PairSystems.{PairSystems}
use Rattle.comm_system.specs.declared.pair_systems.Unknowns.{Unknowns}
use Rattle.comm_system.specs.declared.pair_systems.Shared.{Shared}

pub record AreUnknowns (tree : Tree) (pair : Pair) (n : Unknowns) : Type 0 where
  pub first : n.first ≡ first_of tree
  pub second : n.second ≡ second_of tree pair
  pub behind : n.behind ≡ behind_pair tree pair
  pub few : n.behind < 2 ^ 31

-- further constraints behind a system that grows
abbrev pub grown : List Constraint → Growing → Growing
grown more g = record { shared = g.shared; last = g.last ++ more; columns = g.columns }

-- the system of a pair without its last rows, the owners' unknowns, and these with their rounds
pub record IsShared (tree : Tree) (plan : Plan) (slot : Slot) (producers : List (Anchor × Side))
    (pair : Pair) (shared : Shared) : Type 0 where
  pub system : shared.system ≡ shared_system tree plan slot producers pair
  pub owners : shared.owners.items ≡ owner_numbers (behind_pair tree pair)
      (owners_of tree plan slot producers pair)
  pub owned : shared.owned.items ≡ range_with_len (behind_pair tree pair)
      (owners_unknowns (owners_of tree plan slot producers pair))

-- an obligation, by what it speaks of and its system
abbrev pub about : Topic → Inequalities → Obligation
about t s = record {
  number = t.number;
  system = s;
  lines = t.lines;
  variable = t.variable;
  level = t.level;
  piece = t.piece;
  range = t.range;
}

-- of systems that are made one at a time, that of this piece: the rows that all share, then its last rows
abbrev pub task_at : PairSystems → ℕ → Piece → Task
task_at p number piece =
    record {
      system = with_constraints (last_of p.waits.now.left p.waits.now.right p.owners.items
          piece) p.system.shared;
      lines = p.topic.lines;
      variable = p.topic.variable;
      level = p.topic.level;
      piece = number;
      range = p.topic.range;
    }

abbrev pub obligations_seen : PairSystems → List Obligation
obligations_seen p =
    numbered_from p.number (pieces_from (task_at p) 1 (map piece_seen p.pieces.items))

abbrev pub last_made : PairSystems → Obligation
last_made p = about p.topic (whole_of p.system)

-- what stands there while none of them does: it has the number of the first, no piece, and the rows that all share
abbrev pub none_made : PairSystems → Obligation
none_made p = record {
  number = p.number;
  system = p.system.shared;
  lines = p.topic.lines;
  variable = p.topic.variable;
  level = p.topic.level;
  piece = 0;
  range = p.topic.range;
}

-- the columns that are kept of each of them
abbrev pub kept_columns : PairSystems → List ℕ
kept_columns p = p.system.columns
