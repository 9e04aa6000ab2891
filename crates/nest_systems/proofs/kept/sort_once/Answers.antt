use Rattle.std.proofs.Common.{◌+◌}
use Rattle.std.proofs.lemmas.List.Filters.{dedup_is}
use Rattle.std.proofs.lemmas.List.Kept.{Contains-dedup_nat, Contains-from_dedup}
use Rattle.std.proofs.lemmas.List.Sorted.{All-permutation, Contains-permutation}
use Rattle.std.proofs.lemmas.Map.Keys.{IsStrictlyIncreasing-dedup}
use Rattle.nest_systems.specs.Kept.{IsConstant}
use Rattle.nest_systems.proofs.KeptConstants.{all-from-contained, contains-kept, kept-contains, rising-increasing}
use Rattle.nest_systems.proofs.kept.sort_once.Goals as goal

pub returns-clause-rising : goal.returns-clause-rising
returns-clause-rising c =
    let is = dedup_is _ _ _ c.dedup.ensures.filtered in
    let moved = c.sort_unstable.ensures.permutation in
    let all = All-permutation (IsConstant c.args.constants) c.args.kept.now.items c.sort_unstable.new.self.items moved c.requires in
    rw is (rising-increasing 1 (c.args.constants + 1) _ (IsStrictlyIncreasing-dedup _ c.sort_unstable.ensures.sorted)
    (all-from-contained c.args.constants c.sort_unstable.new.self.items _ (λ n h. Contains-from_dedup _ _ n h) all))

pub returns-clause-same : goal.returns-clause-same
returns-clause-same c = λ n h.
    let is = dedup_is _ _ _ c.dedup.ensures.filtered in
    let moved = c.sort_unstable.ensures.permutation in
    let (k, lt, at) = Contains-dedup_nat _ n (Contains-permutation _ _ n moved (kept-contains c.args.kept.now.items n h)) in
    rw is (contains-kept _ n k lt at)
