use Rattle.std.proofs.Common.{◌≡◌, drop}
use Rattle.std.specs.List.{fold}
use Rattle.plan_text.specs.Loose.{next_digit, number_of}
use Rattle.plan_text.proofs.loose.number_of.Given as goal

abbrev pub invariant-loop-byte : goal.invariant-loop-byte
invariant-loop-byte l = fold next_digit l.number (drop l.byte-index l.word) ≡ number_of l.word
