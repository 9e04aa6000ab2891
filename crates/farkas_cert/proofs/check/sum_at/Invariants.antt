use Rattle.std.proofs.Common.{◌≡◌, ◌+◌, pos, ◌+ℤ◌, ◌++◌, drop}
use Rattle.farkas_cert.specs.Combination.{stays_narrow, total, products_at}
use Rattle.farkas_cert.proofs.check.sum_at.Given as goal

-- what is narrow, and the total, from the sum so far over the terms that are left; a unit for each term so far
abbrev pub invariant-loop-term : goal.invariant-loop-term
invariant-loop-term g l =
    let products = products_at l.system.vars (l.system.rows ++ l.made) l.terms l.k in
    let left = products_at l.system.vars (l.system.rows ++ l.made) (drop l.term-index l.terms) l.k in
    record {
      narrow : stays_narrow (pos 0) products ≡ stays_narrow l.sum left;
      sum : total products ≡ l.sum +ℤ total left;
      counted : l.steps ≡ l.fn.steps + l.term-index;
    }
