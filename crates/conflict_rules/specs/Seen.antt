-- Accesses as plain data.
use Rattle.std.specs.Option.{option_copied}
use Rattle.nest_walk.specs.Tables.{Loaded, element, array}
use Rattle.nest_rows.specs.Views.{heads_of}
use Rattle.conflict_rules.specs.References.{Reference}
use Rattle.conflict_rules.specs.declared.reference.Reference.{Reference as Held}
use Rattle.conflict_rules.specs.declared.reference.Target.{Target}
use Rattle.conflict_rules.specs.declared.reference.Target.TheVariants.{Element, Whole}

abbrev pub target_seen : Target → Loaded
target_seen (Element access) = element access.now
target_seen (Whole variable) = array variable

abbrev pub reference_seen : Held → Reference
reference_seen r = record {
  what = target_seen r.target;
  stores = r.stores;
  around = heads_of r.around.items;
  guard = option_copied r.guard;
  line = r.line;
}
