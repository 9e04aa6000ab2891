use Rattle.std.proofs.Common.{◌≡◌, ◌++◌, ◌==◌, not, ℕ, ℤ, drop}
use Rattle.std.specs.List.{filter}
use Rattle.thread_code.proofs.making.rest.Given as goal

abbrev pub invariant-loop-named : goal.invariant-loop-named
invariant-loop-named l = l.loops ++ filter (λ (p : ℕ × ℤ). not (p.0 == l.number)) (drop l.named-index l.named-items) ≡ filter (λ (p : ℕ × ℤ). not (p.0 == l.number)) l.form.loops
