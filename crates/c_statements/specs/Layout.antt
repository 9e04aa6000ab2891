-- What is written for statements inside a phase.
use Rattle.std.specs.Prelude.{ℕ, suc, ◌+◌, ◌/◌, ◌%◌, ◌<◌, ◌==◌, ◌≡◌, ℤ, pos, negsuc, int_lt, nat_le, Bool, ◌&&◌, ◌||◌, not, List, [], ◌∷◌, ◌++◌, length, Option, Some, None, codes, if◌then◌else◌}
use Rattle.std.specs.Fmt.{decimal}
use Rattle.std.specs.List.{flat_map}
use Rattle.nest_tree.specs.Tree.{Assignment, Expression, add, sub, Head, Printed, value, whole, text, Statement, Statements, do_loop, work, continue, done, next, Tree, Work, assign, print}
use Rattle.nest_tree.specs.declared.tree.Access.{Access}
use Rattle.nest_tree.specs.declared.tree.Guard.{Guard}
use Rattle.own_scalars.specs.OwnScalars.{adds_once}
use Rattle.c_expressions.specs.Names.{loop_name, shared_cell}
use Rattle.c_expressions.specs.Told.{is_own}
use Rattle.c_statements.specs.Texts.{chosen, code, nothing, ◌⨾◌, each_of, indent, line}
use Rattle.c_statements.specs.Pieces.{IsCell, IsComparison, IsValue, flag_cell, form_text, total_cell}

-- ---- loops

-- for (number i3 = FIRST; i3 <= LAST; i3 += 2) {
abbrev pub compared : ℤ → List ℕ
compared step = if int_lt step (pos 0) then codes " >= " else codes " <= "

abbrev pub begun : ℕ → List ℕ
begun n = codes "for (number " ++ (loop_name n ++ codes " = ")

abbrev pub ended : ℕ → ℤ → List ℕ
ended n step = codes "; " ++ (loop_name n ++ compared step)

abbrev pub change : ℤ → List ℕ
change (pos s) = if s == 1 then codes "++" else codes " += " ++ decimal s
change (negsuc s) = if s == 0 then codes "--" else codes " -= " ++ decimal (suc s)

abbrev pub stepped : ℕ → ℤ → List ℕ
stepped n step = codes "; " ++ (loop_name n ++ (change step ++ codes ") {\n"))

-- it goes up, or down, as the step says, each time by so much
abbrev pub for_text : ℕ → ℤ → ℤ → (List ℕ → Type 0) → (List ℕ → Type 0) → List ℕ → Type 0
for_text n step by first last =
    indent ⨾ code (begun n) ⨾ first ⨾ code (ended n step) ⨾ last ⨾ code (stepped n by)

-- a loop all of whose trips are made
abbrev pub loop_text : Tree → Head → List ℕ → Type 0
loop_text tree head =
    for_text head.number head.step head.step (form_text tree head.m1) (form_text tree head.m2)

-- ---- assignments

abbrev pub guard_text : Tree → Option Guard → List ℕ → Type 0
guard_text tree None = nothing
guard_text tree (Some guard) = code (codes "if (") ⨾ IsComparison tree guard ⨾ code (codes ") ")

abbrev pub changed_text : Tree → List ℕ → ℕ → List ℕ → Expression → List ℕ → Type 0
changed_text tree privates n sign e =
    code (total_cell tree n ++ sign) ⨾ IsValue tree privates e ⨾ code (codes "; ")

-- what is added to a scalar that is summed up, wherever that stands in the sum, and what is subtracted
abbrev pub additions_text : Tree → List ℕ → ℕ → Expression → List ℕ → Type 0
additions_text tree privates n (add left right) =
    chosen (adds_once n left) (additions_text tree privates n left ⨾ changed_text tree privates n
    (codes " += ") right) (additions_text tree privates n right ⨾ changed_text tree privates n
    (codes " += ") left)
additions_text tree privates n (sub left right) =
    additions_text tree privates n left ⨾ changed_text tree privates n (codes " -= ") right
additions_text tree privates n e = nothing

-- a scalar is assigned that is summed up
abbrev pub is_summed : List ℕ → Access → Bool
is_summed sums target = length target.subscripts == 0 && is_own sums target.variable

abbrev pub summed_text : Tree → List ℕ → ℕ → Expression → List ℕ → Type 0
summed_text tree privates n e = code (codes "{ ") ⨾ additions_text tree privates n e ⨾ code
    (flag_cell tree n ++ codes " = 1; }\n")

abbrev pub stored_text : Tree → List ℕ → Access → Expression → List ℕ → Type 0
stored_text tree privates target e =
    IsCell tree privates target ⨾ code (codes " = ") ⨾ IsValue tree privates e ⨾ code (codes ";\n")

abbrev pub assigned_text : Tree → List ℕ → List ℕ → Access → Expression → List ℕ → Type 0
assigned_text tree privates sums target e = chosen (is_summed sums target)
    (summed_text tree privates target.variable e) (stored_text tree privates target e)

abbrev pub assignment_text : Tree → List ℕ → List ℕ → Assignment → List ℕ → Type 0
assignment_text tree privates sums a =
    indent ⨾ guard_text tree a.guard ⨾ assigned_text tree privates sums a.target a.value

-- ---- PRINTs

-- a byte of a character constant, in C's
abbrev pub is_plain : ℕ → Bool
is_plain b = nat_le 32 b && nat_le b 126 && not (b == 34 || b == 63 || b == 92)

abbrev pub escaped : ℕ → List ℕ
escaped b = if is_plain b then b ∷ [] else 92 ∷ (48 + b / 64) ∷ (48 + b / 8 % 8) ∷ (48 + b % 8) ∷ []

-- how many elements an array has: some number
abbrev pub CountText : List ℕ → Type 0
CountText bytes = (count : ℕ) × (bytes ≡ decimal count)

abbrev pub whole_text : Tree → ℕ → List ℕ → Type 0
whole_text tree n = code (codes "print_all(" ++ (shared_cell tree n ++ codes ", ")) ⨾ CountText ⨾
    code (codes ");\n")

abbrev pub item_text : Tree → List ℕ → Printed → List ℕ → Type 0
item_text tree privates (value e) =
    indent ⨾ code (codes "print(") ⨾ IsValue tree privates e ⨾ code (codes ");\n")
item_text tree privates (whole n) = indent ⨾ whole_text tree n
item_text tree privates (text characters) =
    indent ⨾ code (codes "fputs(\" " ++ (flat_map escaped characters ++ codes "\", stdout);\n"))

abbrev pub print_text : Tree → List ℕ → List Printed → List ℕ → Type 0
print_text tree privates items =
    each_of (item_text tree privates) items ⨾ line (codes "putchar('\\n');")

-- ---- statements, where a processor has cells of its own of these scalars and sums up those

abbrev pub work_text : Tree → List ℕ → List ℕ → Work → List ℕ → Type 0
work_text tree privates sums (assign a) = assignment_text tree privates sums a
work_text tree privates sums (print p) = print_text tree privates p.items

abbrev mutual
  pub statement_text : Tree → List ℕ → List ℕ → Statement → List ℕ → Type 0
  statement_text tree privates sums (do_loop head body) =
      loop_text tree head ⨾ statements_text tree privates sums body ⨾ line (codes "}")
  statement_text tree privates sums (work w) = work_text tree privates sums w
  statement_text tree privates sums (continue n) = nothing

  pub statements_text : Tree → List ℕ → List ℕ → Statements → List ℕ → Type 0
  statements_text tree privates sums done = nothing
  statements_text tree privates sums (next s rest) =
      statement_text tree privates sums s ⨾ statements_text tree privates sums rest
