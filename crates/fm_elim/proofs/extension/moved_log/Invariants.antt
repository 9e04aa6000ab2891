use Rattle.std.proofs.Common.{◌≡◌, map, take}
use Rattle.fm_elim.specs.Lean.{renamed}
use Rattle.fm_elim.specs.Moved.{moved_by}
use Rattle.elim_level.specs.Logs.{step_of}
use Rattle.fm_elim.proofs.extension.moved_log.Given as goal

-- the derivations so far
abbrev pub invariant-loop-derivation : goal.invariant-loop-derivation
invariant-loop-derivation l = map step_of l.new.items ≡ map (renamed (moved_by l.given l.more)) (map step_of (take l.derivation-index l.log))
