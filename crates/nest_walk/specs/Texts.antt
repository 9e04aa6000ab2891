-- The text of a program as a walk sees it: its stops in text order, each with the loops round it.
use Rattle.std.specs.Prelude.{ℕ, suc, ◌-◌, pos, Bool, not, ◌==◌, List, [], ◌∷◌, ◌++◌, map, length, slice_index_or, if◌then◌else◌, ◌≡◌, refl}
use Rattle.nest_tree.specs.Form.{Form}
use Rattle.nest_tree.specs.Tree.{Statement, Statements, print, do_loop, work, continue, done, next, Tree}
use Rattle.nest_model.specs.Visits.{every}

-- a statement, and the numbers of the loops round it, the innermost first
pub record Placed : Type 0 where
  pub what : Statement
  pub around : List ℕ

-- the stops in the text of a statement with these loops round it: the loops that a walk doesn't enter, and the pieces of work outside them
abbrev mutual
  pub placed_in : (ℕ → Bool) → List ℕ → Statement → List Placed
  placed_in enters around (do_loop head body) =
      if enters head.number
      then placed_of enters (head.number ∷ around) body
      else record { what = do_loop head body; around = around } ∷ []
  placed_in enters around (work w) = record { what = work w; around = around } ∷ []
  placed_in enters around (continue line) = []

  pub placed_of : (ℕ → Bool) → List ℕ → Statements → List Placed
  placed_of enters around done = []
  placed_of enters around (next s rest) = placed_in enters around s ++ placed_of enters around rest

-- the stops in a program's text: the one with number p, from 1, has the place p - 1 in the list
abbrev pub placed : Tree → (ℕ → Bool) → List Placed
placed tree enters = placed_of enters [] tree.items

-- the pieces of work in a program's text, numbered the same way
abbrev pub works : Tree → List Placed
works tree = placed tree every

-- the numbers of the loops round the piece of work with this number, the innermost first
abbrev pub loops_round : Tree → ℕ → List ℕ
loops_round tree n = slice_index_or (map (λ (p : Placed). p.around) (works tree)) (n - 1) []

-- these statements stand in a list one behind another, and the first of them has this number, from 1
pub record Standing (all : List Placed) (number : ℕ) (part : List Placed) : Type 0 where
  pub before : List Placed
  pub behind : List Placed
  pub all_is : all ≡ before ++ (part ++ behind)
  pub number_is : number ≡ suc (length before)

abbrev pub StandFrom : List Placed → ℕ → List Placed → Type 0
StandFrom all number part = ∥ Standing all number part ∥₁

-- a statement with these loops round it stands in the text: among the stops of a walk, and among the pieces of work, at these numbers
pub record IsInText (tree : Tree) (enters : ℕ → Bool) (around : List ℕ) (s : Statement)
    (place first : ℕ) : Type 0 where
  pub stops : StandFrom (placed tree enters) place (placed_in enters around s)
  pub works : StandFrom (works tree) first (placed_in every around s)

-- a PRINT, and behind it DO 20 I round DO 10 J with a PRINT: loop 2 and loop 1 are round the second; a walk that stops at loop 2 has loop 1 round that stop
abbrev fixed : Form
fixed = record { constant = pos 1; loops = []; params = [] }

abbrev blank_line : ℕ → Statement
blank_line line = work (print (record { items = []; line = line }))

abbrev inner : Statement
inner = do_loop (record { number = 2; m1 = fixed; m2 = fixed; step = pos 1; line = 3 })
    (next (blank_line 4) done)

abbrev three : Tree
three = record {
  items = next (blank_line 1)
      (next (do_loop (record { number = 1; m1 = fixed; m2 = fixed; step = pos 1; line = 2 })
      (next inner done)) done);
  params = [];
  variables = [];
}

pub loops_round-example : loops_round three 2 ≡ 2 ∷ 1 ∷ []
loops_round-example = refl

pub placed-example : placed three (λ n. not (n == 2))
    ≡ record { what = blank_line 1; around = [] } ∷ record { what = inner; around = 1 ∷ [] } ∷ []
placed-example = refl
