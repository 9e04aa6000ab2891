-- What a piece of work does where the loops have these values by number: memory and the output behind it.
use Rattle.std.specs.Prelude.{ℕ, ◌≤◌, ℤ, List, [], ◌∷◌, map, length, ◌≡◌, IsTrue}
use Rattle.std.specs.List.{list_all}
use Rattle.nest_tree.specs.Layout.{cell_count}
use Rattle.nest_tree.specs.Tree.{Work, work, Statement, Tree, param_values}
use Rattle.nest_tree.specs.View.{tree_of}
use Rattle.nest_tree.specs.WellFormed.{is_number_of, loops_of}
use Rattle.nest_model.specs.Accesses.{work_loads, work_store}
use Rattle.nest_model.specs.Memory.{assigned, cell_value, printed_text, with_store}
use Rattle.nest_model.specs.Ranges.{accesses_of, is_access_inside}
use Rattle.nest_walk.specs.Cursors.{loops_in}
use Rattle.nest_walk.specs.ByNumber.{with_rounds}
use Rattle.nest_walk.specs.Paths.{Round}
use Rattle.nest_walk.specs.Places.{numbers_of}
use Rattle.nest_walk.specs.Tables.{IsCellTable}
use Rattle.nest_walk.specs.Texts.{StandFrom, works}
use Rattle.flat_code.specs.CodeTables.{IsCodeTable, most_registers}
use Rattle.seq_meaning.specs.declared.run.Run.{Run}

-- what its loads give in a memory
abbrev pub loaded_at : Tree → List ℤ → Work → List ℤ → List ℤ
loaded_at tree loops w memory = map (cell_value memory) (work_loads tree loops w)

-- memory behind it
abbrev pub memory_behind : Tree → List ℤ → Work → List ℤ → List ℤ
memory_behind tree loops w memory = with_store memory (work_store tree loops w)
    (assigned tree loops w (loaded_at tree loops w memory))

-- what it prints
abbrev pub printed_behind : Tree → List ℤ → Work → List ℤ → List ℕ
printed_behind tree loops w memory = printed_text tree loops w (loaded_at tree loops w memory)

-- a statement is a piece of work of the text, with this number and these loops round it, whose accesses are in range there
pub record IsPlacedWork (tree : Tree) (rounds : List Round) (number : ℕ) (s : Statement) :
    Type 0 where
  pub what : Work
  pub is : s ≡ work what
  pub text : StandFrom (works tree) number
      (record { what = work what; around = numbers_of rounds } ∷ [])
  pub numbered : IsTrue (list_all (λ (r : Round). is_number_of (loops_of tree.items) r.number)
      rounds)
  pub inside : IsTrue (list_all (is_access_inside tree (loops_in tree rounds)) (accesses_of what))

-- a run of a program is ready for an instance
pub record IsReady (run : Run) : Type 0 where
  pub table : IsCellTable (tree_of run.program.now) run.table
  pub params : run.params.items ≡ param_values (tree_of run.program.now)
  pub codes : IsCodeTable (tree_of run.program.now) run.codes
  pub loops : loops_of (tree_of run.program.now).items ≤ length run.loops.items
  pub lines : most_registers run.codes ≤ length run.lines.items
  pub registers : most_registers run.codes ≤ length run.registers.items
  pub memory : length run.memory.items ≡ cell_count (tree_of run.program.now)

-- its values of loops by number are those of these loops, and of others whatever they were
pub record IsWritten (run : Run) (rounds : List Round) : Type 0 where
  pub before : List ℤ
  pub long : loops_of (tree_of run.program.now).items ≤ length before
  pub is : run.loops.items ≡ with_rounds before rounds
