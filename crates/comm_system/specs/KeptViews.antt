-- Accesses that are kept, as plain data.
use Rattle.conflict_rules.specs.References.{Reference}
use Rattle.conflict_rules.specs.Seen.{reference_seen}
use Rattle.comm_system.specs.declared.own.Kept.{Kept}

abbrev pub kept_seen : Kept → Reference
kept_seen k = reference_seen k.reference.now
