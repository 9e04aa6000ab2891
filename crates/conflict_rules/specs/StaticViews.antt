-- Static phases in the text as plain data.
use Rattle.nest_tree.specs.View.{statement_of}
use Rattle.nest_rows.specs.Views.{heads_of}
use Rattle.owner_partition.specs.StaticPhases.{loops_of}
use Rattle.owner_partition.specs.declared.static_phase.StaticPhase.{StaticPhase as Held}
use Rattle.conflict_rules.specs.References.{StaticPhase}

abbrev pub static_phase_seen : Held → StaticPhase
static_phase_seen p = record { what = statement_of p.item.now; outer = heads_of (loops_of p.outer) }
