use Rattle.std.proofs.Common.{◌≡◌, ◌+◌, ◌*◌, drop}
use Rattle.nest_rows.specs.Places.{place_of}
use Rattle.nest_rows.specs.Views.{heads_of}
use Rattle.nest_rows.proofs.terms.place_of.Given as goal

abbrev pub invariant-loop-one : goal.invariant-loop-one
invariant-loop-one l = record {
  place : l.place ≡ l.first + 2 * l.one-index;
  rest : place_of l.place (heads_of (drop l.one-index l.around)) l.number ≡ place_of l.first (heads_of l.around) l.number;
}
