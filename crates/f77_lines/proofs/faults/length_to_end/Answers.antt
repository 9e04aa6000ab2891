use Rattle.std.proofs.Common.{◌≡◌, ◌<◌, None, length, arith, sym, ◌∙◌, false}
use Rattle.f77_lines.specs.Columns.{columns_of, kind_of}
use Rattle.f77_lines.specs.Statements.{is_end}
use Rattle.f77_lines.specs.Faults.{fault_with}
use Rattle.f77_lines.specs.Walk.{first_of}
use Rattle.f77_lines.proofs.Cuts.{fault_from-none, fault_from-on, size_to_end-on}
use Rattle.f77_lines.proofs.Entries.{none_from_not_some}
use Rattle.f77_lines.proofs.faults.length_to_end.Goals as goal

pub loop-rest-preserved : goal.loop-rest-preserved
loop-rest-preserved c =
    let rest = c.loop-rest.rest.now in
    let columns = c.columns_of-columns.result.now in
    let some : 0 < length rest = grind arith in
    let first : columns ≡ columns_of (first_of rest) = cc in
    let goes_on : is_end columns ≡ false = cc in
    let none : fault_with (kind_of columns) c.loop-rest.room c.loop-rest.number columns ≡ None = let n = none_from_not_some c.fault_of.result c.in_default.not-Some in cc in
    let on = fault_from-on rest columns some first goes_on c.loop-rest.room c.loop-rest.number none in
    let size = size_to_end-on rest columns some first goes_on in
    let last = c.loop-rest.invariant in
    record {
      faults = cc;
      size = (let part = c.first_line.ensures in grind arith);
      shorter = grind arith;
      within = grind arith;
    }

pub returns-clause-fault : goal.returns-clause-fault
returns-clause-fault c =
    let none : length c.loop-rest.rest.now ≡ 0 = grind arith in
    sym c.loop-rest.invariant.faults ∙ fault_from-none c.loop-rest.room c.loop-rest.number c.loop-rest.rest.now none
