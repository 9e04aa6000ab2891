use Rattle.std.proofs.Common.{◌≡◌, ◌++◌, IsTrue, take}
use Rattle.std.specs.List.{list_all}
use Rattle.nest_tree.specs.Form.{is_small}
use Rattle.nest_rows.specs.Signs.{with_sign}
use Rattle.nest_rows.proofs.terms.push_constants.Given as goal

abbrev pub invariant-loop-number : goal.invariant-loop-number
invariant-loop-number l = record {
  small : IsTrue (list_all (λ p. is_small p.1) l.terms);
  terms : l.terms ≡ l.initial.terms ++ with_sign l.sign (take l.number-index l.pairs);
}
