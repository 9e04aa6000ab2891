use Rattle.std.proofs.Common.{inl, inr, sym, arith}
use Rattle.nest_tree.specs.View.{tree_of}
use Rattle.nest_tree.proofs.Good.{loops-few}
use Rattle.reason_witness.proofs.Questions.{no_loop}
use Rattle.reason_witness.proofs.account.prints.Goals as goal
use Rattle.reason_witness.proofs.account.prints.Goals.{then-number-eq0-via-then-number-eq0, then-number-eq0-via-else-number-eq0+then-number-loop_count}

pub loop_count-requires : goal.loop_count-requires
loop_count-requires c = omega (arith, loops-few (tree_of c.args.program.now) c.args.program.now.formed)

pub returns-then-number-eq0 : goal.returns-then-number-eq0
returns-then-number-eq0 c =
    sym (no_loop (tree_of c.args.program.now) c.args.number c.args.program.now.formed (elim c.then-number-eq0.branch [
      | then-number-eq0-via-then-number-eq0 w ↦ inl w.if-number-eq0.true
      | then-number-eq0-via-else-number-eq0+then-number-loop_count w ↦ inr (omega (arith, w.if-number-loop_count.true, w.loop_count.ensures))
    ]))
