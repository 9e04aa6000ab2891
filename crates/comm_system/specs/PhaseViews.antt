-- Static phases with their accesses as plain data.
use Rattle.conflict_rules.specs.References.{StaticPhase}
use Rattle.conflict_rules.specs.StaticViews.{static_phase_seen}
use Rattle.comm_system.specs.declared.phase.Phase.{Phase}

abbrev pub phase_seen : Phase → StaticPhase
phase_seen p = static_phase_seen p.text
