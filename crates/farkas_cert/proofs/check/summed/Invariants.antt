use Rattle.std.proofs.Common.{◌≡◌, ◌+◌, ◌-◌, ◌*◌, ◌++◌, map, length}
use Rattle.std.specs.List.{range_with_len}
use Rattle.farkas_cert.specs.Combination.{sum_at}
use Rattle.farkas_cert.specs.Fault.{first_wide}
use Rattle.farkas_cert.proofs.check.summed.Given as goal

-- the sums so far, and no entry so far is wide
abbrev pub invariant-loop-k : goal.invariant-loop-k
invariant-loop-k g l =
    let rows = l.system.rows ++ l.made in
    record {
      full : length l.coefs ≡ l.k;
      sums : l.coefs ≡ map (sum_at l.system.vars rows l.terms) (range_with_len 0 l.k);
      narrow : first_wide l.system.vars rows l.terms (range_with_len 0 (l.system.vars + 1)) ≡ first_wide l.system.vars rows l.terms (range_with_len l.k (l.system.vars + 1 - l.k));
      counted : l.steps ≡ l.fn.steps + length l.terms * l.k;
    }
