use Rattle.std.proofs.Common.{◌+◌, Ok, Err, arith}
use Rattle.std.proofs.lemmas.List.Sorted.{searched}
use Rattle.presolve.proofs.Searching.{found, left_out, rising_sorted}
use Rattle.presolve.proofs.renumbering.kept_number.Goals as goal

pub returns-in-Ok-clause-kept : goal.returns-in-Ok-clause-kept
returns-in-Ok-clause-kept c = λ rising. found c.args.count c.args.numbers.now c.args.number c.in-Ok.place rising (omega arith) (omega arith) (searched c.args.numbers.now c.args.number (Ok c.in-Ok.place) c.in-Ok.ensures.position (rising_sorted 1 (c.args.count + 1) c.args.numbers.now rising))

pub returns-in-Err-clause-left : goal.returns-in-Err-clause-left
returns-in-Err-clause-left c = λ rising. left_out c.args.count c.args.numbers.now c.args.number c.in-Err.field-0 (omega arith) (omega arith) (searched c.args.numbers.now c.args.number (Err c.in-Err.field-0) c.in-Err.ensures.position (rising_sorted 1 (c.args.count + 1) c.args.numbers.now rising))
