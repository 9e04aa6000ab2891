use Rattle.std.proofs.Common.{◌≡◌, true, take}
use Rattle.std.specs.Prelude.{ℕ, ℤ, ◌&&◌}
use Rattle.std.specs.List.{list_all}
use Rattle.sync_plan.specs.Numbers.{is_64, is_128}
use Rattle.plan_maker.proofs.numbers.read_terms.Given as goal

abbrev pub invariant-loop-term : goal.invariant-loop-term
invariant-loop-term l = list_all (λ (t : ℕ × ℤ). is_64 t.0 && is_128 t.1) (take l.term-index l.terms) ≡ true
