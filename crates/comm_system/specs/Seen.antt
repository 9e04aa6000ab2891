-- Accesses and where they stand, as plain data.
use Rattle.std.specs.Prelude.{Bool}
use Rattle.std.specs.Option.{option_copied}
use Rattle.nest_walk.specs.Tables.{Loaded}
use Rattle.nest_rows.specs.Views.{heads_of}
pub use Rattle.conflict_rules.specs.Seen.{target_seen, reference_seen}
use Rattle.conflict_rules.specs.References.{Reference}
use Rattle.comm_system.specs.Pairs.{Pair}
use Rattle.conflict_rules.specs.declared.reference.Reference.{Reference as Held}
use Rattle.comm_system.specs.declared.place.Place.{Place}

-- what is accessed at a place
abbrev pub referred : Place → Bool → Loaded → Reference
referred place stores what = record {
  what = what;
  stores = stores;
  around = heads_of place.around.now;
  guard = option_copied place.guard;
  line = place.line;
}

abbrev pub pair_of : Held → Held → Pair
pair_of a b = record { first = reference_seen a; second = reference_seen b }
