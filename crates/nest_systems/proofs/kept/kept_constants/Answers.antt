use Rattle.std.proofs.Common.{◌≡◌, [], rules, sym, subst}
use Rattle.std.specs.List.{All}
use Rattle.std.proofs.lemmas.List.Elements.{All-nil}
use Rattle.nest_systems.specs.Kept.{IsConstant}
use Rattle.nest_systems.proofs.kept.kept_constants.Goals as goal

pub sort_once-requires : goal.sort_once-requires
sort_once-requires c =
    let none : c.new-kept.result.items ≡ [] = search rules in
    let all = subst (All (IsConstant c.args.constants)) (sym none) (All-nil (IsConstant c.args.constants)) in
    c.in_ok-take_last.ensures.taken.within (c.in_ok-take_constants.ensures.within (c.in_ok-take_all_named.ensures.within all))
