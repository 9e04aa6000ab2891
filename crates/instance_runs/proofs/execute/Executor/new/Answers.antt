use Rattle.std.proofs.Common.{◌≡◌, ◌≤◌, ℕ, Option, Some, IfSome, length, pos, ap, ◌∙◌, subst, arith}
use Rattle.std.specs.Prelude.{slice_get}
use Rattle.std.proofs.lemmas.List.{length-replicate}
use Rattle.nest_tree.specs.View.{tree_of}
use Rattle.nest_tree.proofs.Good.{loops-few}
use Rattle.nest_walk.specs.Tables.{entries}
use Rattle.nest_walk.specs.declared.table.WorkCells.{WorkCells}
use Rattle.instance_runs.specs.Loads.{widths}
use Rattle.instance_runs.proofs.execute.Executor.new.Goals as goal

pub returns-clause-can : goal.returns-clause-can
returns-clause-can c =
    let tree = tree_of c.args.program.now in
    let table = c.args.table.now in
    let loops = ap (λ xs. length xs) (c.in_ok-vec.ensures.items_if_clones_equal (λ y e. e)) ∙ length-replicate 400 (pos 0) in
    let most = subst (λ (o : Option ℕ). IfSome o (λ n. (k : ℕ) (w : WorkCells) → slice_get (entries table) k ≡ Some w → widths w.loads.items ≤ n)) c.in_ok-loaded.ensures.ok_part c.most_loads.ensures.most in
    let lines = ap (λ xs. length xs) (c.in_ok-vec-2.ensures.items_if_clones_equal (λ y e. e)) ∙ length-replicate c.registers-most.result _ in
    let long = ap (λ xs. length xs) (c.in_ok-vec-3.ensures.items_if_clones_equal (λ y e. e)) ∙ length-replicate c.saturating_add-2.result (pos 0) in
    record {
      formed = c.args.program.now.formed;
      limits = c.args.program.now.limits;
      table = c.requires.table;
      params = c.requires.params;
      codes = c.in_ok-codes.ensures;
      loops = omega (arith, loops, loops-few tree c.args.program.now.formed);
      lines = omega (arith, lines, c.registers-most.ensures);
      registers = omega (arith, long, c.registers-most.ensures, c.saturating_add.ensures, c.saturating_add-2.ensures);
      room = λ n cells at. omega (arith, most n cells at, long, c.saturating_add.ensures, c.saturating_add-2.ensures);
    }
