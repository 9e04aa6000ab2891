use Rattle.std.proofs.Common.{◌≡◌, ◌++◌, take, IsTrue}
use Rattle.std.specs.List.{list_all}
use Rattle.nest_tree.specs.Form.{is_small}
use Rattle.nest_rows.specs.Signs.{with_sign}
use Rattle.comm_system.proofs.rows.push_signed.Given as goal

abbrev pub invariant-loop-unknown : goal.invariant-loop-unknown
invariant-loop-unknown l = record {
  small : IsTrue (list_all (λ p. is_small p.1) l.terms);
  terms : l.terms ≡ l.initial.terms ++ with_sign l.sign (take l.unknown-index l.more);
}
