use Rattle.std.proofs.Common.{◌≡◌, ◌+◌, ◌<◌, ◌^◌, drop, unsigned_abs}
use Rattle.c_expressions.specs.Sums.{size_of_terms}
use Rattle.c_expressions.proofs.sum.Sum.size.Given as goal

abbrev pub invariant-loop-coefficient : goal.invariant-loop-coefficient
invariant-loop-coefficient l =
    let whole = unsigned_abs l.self.constant + size_of_terms l.coefficient-items in
    record {
      below : l.size < 2 ^ 62 → l.size + size_of_terms (drop l.coefficient-index l.coefficient-items) ≡ whole;
      exact : whole < 2 ^ 62 → l.size + size_of_terms (drop l.coefficient-index l.coefficient-items) ≡ whole;
    }
