use Rattle.std.proofs.Common.{◌≡◌, ◌++◌, IsTrue, map, take}
use Rattle.std.specs.List.{list_all}
use Rattle.nest_tree.specs.Form.{is_small}
use Rattle.nest_systems.specs.Kept.{number_among}
use Rattle.nest_systems.proofs.kept.push_numbered.Given as goal

abbrev pub invariant-loop-unknown : goal.invariant-loop-unknown
invariant-loop-unknown l = record {
  small : IsTrue (list_all (λ p. is_small p.1) l.terms);
  terms : l.terms ≡ l.initial.terms ++ map (λ p. (number_among 1 l.columns p.0, p.1)) (take l.unknown-index l.named);
}
