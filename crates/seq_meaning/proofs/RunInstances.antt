-- One instance after another of a run.
use Rattle.std.proofs.Common.{◌≡◌, ℕ, ℤ, true, List, [], ◌∷◌, ◌++◌, append_assoc, append-nil, ap, sym, ◌∙◌, subst, refl}
use Rattle.std.specs.List.{fold}
use Rattle.nest_tree.specs.Tree.{Assignment, Work, Statement, assign, work, Tree, param_values}
use Rattle.nest_tree.specs.View.{statement_of}
use Rattle.nest_model.specs.Instances.{Instance}
use Rattle.nest_model.specs.Memory.{line_of, loaded_in, memory_after, output_from}
use Rattle.nest_model.specs.Ranges.{is_instance_inside}
use Rattle.nest_model.specs.Visits.{every, executed_at}
use Rattle.nest_model.proofs.Outputs.{output_from-append}
use Rattle.nest_walk.specs.Cursors.{is_reached, loops_in}
use Rattle.nest_walk.specs.Paths.{Round}
use Rattle.nest_walk.specs.Places.{numbers_of}
use Rattle.nest_walk.specs.Texts.{StandFrom, placed_in, works}
use Rattle.nest_walk.specs.declared.cursor.Stop.{Stop}
use Rattle.nest_walk.proofs.PlacedWorks.{instance_at, reached_numbered}
use Rattle.seq_meaning.specs.Executions.{IsPlacedWork, memory_behind, printed_behind}

-- its statement is a piece of work of the text
pub placed_work : (tree : Tree) (rounds : List Round) (s : Stop) (i : Instance) → executed_at (param_values tree) s.first (statement_of s.item.now) (loops_in tree rounds) ≡ i ∷ [] → is_reached tree rounds s ≡ true →
    StandFrom (works tree) s.first (placed_in every (numbers_of rounds) (statement_of s.item.now)) → is_instance_inside tree i ≡ true → IsPlacedWork tree rounds s.first (statement_of s.item.now)
placed_work tree rounds s i executed reached text inside =
    let at = instance_at tree rounds s.first (statement_of s.item.now) i executed in
    record {
      what = at.what;
      is = at.is;
      text = subst (λ x. StandFrom (works tree) s.first (placed_in every (numbers_of rounds) x)) at.is text;
      numbered = reached_numbered tree rounds s reached;
      inside = sym (ap (is_instance_inside tree) at.instance_is) ∙ inside;
    }

-- memory and the output behind it, where the walk, the run and the program have the same tree
pub memory_step : (tree walked run : Tree) (rounds around : List Round) (first : ℕ) (s : Statement) (i : Instance) (old new : List ℤ) → walked ≡ tree → run ≡ tree → rounds ≡ around →
    executed_at (param_values walked) first s (loops_in walked around) ≡ i ∷ [] → ((w : Work) → s ≡ work w → new ≡ memory_behind run (loops_in run rounds) w old) → new ≡ memory_after tree old i
memory_step tree walked run rounds around first s i old new same same' paths executed behind =
    let at = instance_at walked around first s i executed in
    behind at.what at.is ∙ ap (λ t. memory_behind t (loops_in t rounds) at.what old) same' ∙ ap (λ rs. memory_behind tree (loops_in tree rs) at.what old) paths
    ∙ ap (λ t. memory_behind tree (loops_in t around) at.what old) (sym same) ∙ ap (memory_after tree old) (sym at.instance_is)

pub output_step : (tree walked run : Tree) (rounds around : List Round) (first : ℕ) (s : Statement) (i : Instance) (memory : List ℤ) (old new : List ℕ) → walked ≡ tree → run ≡ tree → rounds ≡ around →
    executed_at (param_values walked) first s (loops_in walked around) ≡ i ∷ [] → ((w : Work) → s ≡ work w → new ≡ old ++ printed_behind run (loops_in run rounds) w memory) → new ≡ old ++ line_of tree i (loaded_in tree memory i)
output_step tree walked run rounds around first s i memory old new same same' paths executed behind =
    let at = instance_at walked around first s i executed in
    behind at.what at.is ∙ ap (λ t. old ++ printed_behind t (loops_in t rounds) at.what memory) same' ∙ ap (λ rs. old ++ printed_behind tree (loops_in tree rs) at.what memory) paths
    ∙ ap (λ t. old ++ printed_behind tree (loops_in t around) at.what memory) (sym same) ∙ ap (λ j. old ++ line_of tree j (loaded_in tree memory j)) (sym at.instance_is)

-- the rest of the run behind it
pub memory_rest : (tree : Tree) (old new end : List ℤ) (left rest : List Instance) (i : Instance) → left ≡ i ∷ rest → new ≡ memory_after tree old i → fold (memory_after tree) old left ≡ end → fold (memory_after tree) new rest ≡ end
memory_rest tree old new end left rest i is step h = ap (λ m. fold (memory_after tree) m rest) step ∙ sym (ap (fold (memory_after tree) old) is) ∙ h

pub output_rest : (tree : Tree) (old new : List ℤ) (said saying end : List ℕ) (left rest : List Instance) (i : Instance) → left ≡ i ∷ rest → new ≡ memory_after tree old i → saying ≡ said ++ line_of tree i (loaded_in tree old i) →
    said ++ output_from tree old left ≡ end → saying ++ output_from tree new rest ≡ end
output_rest tree old new said saying end left rest i is step line h =
    ap (λ m. saying ++ output_from tree m rest) step ∙ ap (λ xs. xs ++ output_from tree (memory_after tree old i) rest) line
    ∙ append_assoc said (line_of tree i (loaded_in tree old i)) (output_from tree (memory_after tree old i) rest) ∙ sym (ap (λ xs. said ++ output_from tree old xs) is) ∙ h

-- some instances, and others behind them
pub ran_append : (tree : Tree) (memory : List ℤ) (xs ys : List Instance) → fold (memory_after tree) memory (xs ++ ys) ≡ fold (memory_after tree) (fold (memory_after tree) memory xs) ys
ran_append tree memory [] ys = refl
ran_append tree memory (x ∷ xs) ys = ran_append tree (memory_after tree memory x) xs ys

-- the rest of the run behind some instances
pub memory_behind_some : (tree : Tree) (old new end : List ℤ) (left here rest : List Instance) → left ≡ here ++ rest → new ≡ fold (memory_after tree) old here → fold (memory_after tree) old left ≡ end → fold (memory_after tree) new rest ≡ end
memory_behind_some tree old new end left here rest is ran h = ap (λ m. fold (memory_after tree) m rest) ran ∙ sym (ran_append tree old here rest) ∙ sym (ap (fold (memory_after tree) old) is) ∙ h

pub output_behind_some : (tree : Tree) (old new : List ℤ) (said saying end : List ℕ) (left here rest : List Instance) → left ≡ here ++ rest → new ≡ fold (memory_after tree) old here → saying ≡ said ++ output_from tree old here →
    said ++ output_from tree old left ≡ end → saying ++ output_from tree new rest ≡ end
output_behind_some tree old new said saying end left here rest is ran lines h =
    ap (λ m. saying ++ output_from tree m rest) ran ∙ ap (λ xs. xs ++ output_from tree (fold (memory_after tree) old here) rest) lines
    ∙ append_assoc said (output_from tree old here) (output_from tree (fold (memory_after tree) old here) rest) ∙ ap (λ o. said ++ o) (sym (output_from-append tree old here rest)) ∙ sym (ap (λ xs. said ++ output_from tree old xs) is) ∙ h

-- an assignment prints nothing
pub assigned_quiet : (tree : Tree) (rounds : List Round) (s : Statement) (a : Assignment) (old new : List ℕ) (memory : List ℤ) → s ≡ work (assign a) → new ≡ old → (w : Work) → s ≡ work w → new ≡ old ++ printed_behind tree (loops_in tree rounds) w memory
assigned_quiet tree rounds s a old new memory is same w w_is =
    let both : w ≡ assign a = cc in
    same ∙ sym (append-nil old) ∙ ap (λ x. old ++ printed_behind tree (loops_in tree rounds) x memory) (sym both)
