use Rattle.std.proofs.Common.{◌-◌, sym, arith, inl, inr}
use Rattle.std.proofs.lemmas.Bool.{cases_lt}
use Rattle.std.specs.Prelude.{Err, Ok}
use Rattle.std.proofs.lemmas.List.Sorted.{searched}
use Rattle.presolve.proofs.Searching.{rising_sorted}
use Rattle.nest_systems.proofs.KeptPlaces.{number-at, number-none}
use Rattle.nest_systems.proofs.kept.number_among.Goals as goal

pub returns-then-unknown-eq0 : goal.returns-then-unknown-eq0
returns-then-unknown-eq0 c = sym (number-none 1 c.args.columns.now c.args.unknown (λ i lt e. omega (arith, e, c.if-unknown-eq0.true)))

pub returns-in-Ok : goal.returns-in-Ok
returns-in-Ok c =
    let columns = c.args.columns.now in
    let (vars, rising) = c.requires.rising in
    let found = searched columns (c.args.unknown - 1) (Ok c.in-Ok.place) c.in-Ok.ensures.position (rising_sorted 0 vars columns rising) in
    let at = number-at 1 0 vars columns c.args.unknown c.in-Ok.place rising found.0 (omega (arith, found.1, c.if-unknown-eq0.false)) in
    omega (arith, at)

pub returns-in-Err : goal.returns-in-Err
returns-in-Err c =
    let columns = c.args.columns.now in
    let (vars, rising) = c.requires.rising in
    let found = searched columns (c.args.unknown - 1) (Err c.in-Err.field-0) c.in-Err.ensures.position (rising_sorted 0 vars columns rising) in
    sym (number-none 1 columns c.args.unknown (λ i lt e. elim (cases_lt i c.in-Err.field-0) [
      | inl before ↦ omega (arith, e, found.1 i before)
      | inr behind ↦ omega (arith, e, found.2 i behind lt)
    ]))
