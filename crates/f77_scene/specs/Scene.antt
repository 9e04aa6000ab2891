-- What is known at a statement, by the statements in front of it.
use Rattle.std.specs.Prelude.{ℕ, suc, ℤ, pos, Bool, false, ◌&&◌, ◌||◌, not, if◌then◌else◌, List, [], ◌∷◌, ◌++◌, map, codes, ◌≡◌, refl}
use Rattle.std.specs.List.{list_any}
use Rattle.std.specs.Str.{bytes_eq}
use Rattle.nest_tree.specs.Tree.{Constant}

abbrev pub Name : Type 0
Name = List ℕ

-- what holds of the whole source: the settings, and the names in its INTEGER statements
pub record Given : Type 0 where
  pub settings : List (Name × ℤ)
  pub integers : List Name

-- an array with the lower and the upper bound of each dimension
pub record Array : Type 0 where
  pub name : Name
  pub bounds : List (ℤ × ℤ)

-- a loop whose terminal statement is still to come, with its number
pub record Open : Type 0 where
  pub variable : Name
  pub label : ℕ
  pub number : ℕ

pub record Scene : Type 0 where
  -- how many statements stand in front
  pub count : ℕ
  -- an executable statement is among them
  pub executes : Bool
  -- the labels of statements
  pub labels : List ℕ
  -- all names, in the order of their first appearance
  pub names : List Name
  -- the names in INTEGER statements
  pub integers : List Name
  -- the names of PARAMETER statements with their values after settings
  pub constants : List Constant
  pub arrays : List Array
  -- the names that are used as scalars, and as DO variables
  pub scalars : List Name
  pub loop_variables : List Name
  -- how many loops have begun
  pub loops : ℕ
  -- the loops that are open, the innermost first
  pub opened : List Open

-- in front of the first statement
abbrev pub first_scene : Scene
first_scene =
    record {
      count = 0;
      executes = false;
      labels = [];
      names = [];
      integers = [];
      constants = [];
      arrays = [];
      scalars = [];
      loop_variables = [];
      loops = 0;
      opened = [];
    }

-- ---- lists of names

abbrev pub is_among : List Name → Name → Bool
is_among names n = list_any (λ m. bytes_eq m n) names

-- a name's place among names, from 1; one more than all where it is not among them
abbrev pub number_among : List Name → Name → ℕ
number_among [] n = 1
number_among (m ∷ names) n = if bytes_eq m n then 1 else suc (number_among names n)

-- known names and those of a statement, each where it first appears
abbrev pub with_names : List Name → List Name → List Name
with_names known [] = known
with_names known (n ∷ names) =
    with_names (if is_among known n then known else known ++ n ∷ []) names

-- a name of these stands among the known ones, or twice among these
abbrev pub comes_again : List Name → List Name → Bool
comes_again known [] = false
comes_again known (n ∷ names) = is_among known n || comes_again (known ++ n ∷ []) names

-- ---- what a name is

abbrev pub constant_names : Scene → List Name
constant_names s = map (λ (c : Constant). c.name) s.constants

abbrev pub is_constant_name : Scene → Name → Bool
is_constant_name s n = is_among (constant_names s) n

-- the value of a name of a PARAMETER statement, 0 for any other
abbrev pub value_named : List Constant → Name → ℤ
value_named [] n = pos 0
value_named (c ∷ constants) n = if bytes_eq c.name n then c.value else value_named constants n

abbrev pub array_names : Scene → List Name
array_names s = map (λ (a : Array). a.name) s.arrays

abbrev pub is_array : Scene → Name → Bool
is_array s n = is_among (array_names s) n

-- the bounds of the array with this name, none where there is no such array
abbrev pub bounds_named : List Array → Name → List (ℤ × ℤ)
bounds_named [] n = []
bounds_named (a ∷ arrays) n = if bytes_eq a.name n then a.bounds else bounds_named arrays n

-- MIN and MAX, where no array has that name
abbrev pub is_function : Scene → Name → Bool
is_function s n = is_among (codes "MIN" ∷ codes "MAX" ∷ []) n && not (is_array s n)

-- the variable of a loop round this place
abbrev pub is_open : Scene → Name → Bool
is_open s n = list_any (λ (o : Open). bytes_eq o.variable n) s.opened

-- the number of that loop, 0 where there is none
abbrev pub loop_named : List Open → Name → ℕ
loop_named [] n = 0
loop_named (o ∷ opened) n = if bytes_eq o.variable n then o.number else loop_named opened n

-- ---- examples

pub with_names-example : with_names (codes "I" ∷ []) (codes "K" ∷ codes "I" ∷ codes "K" ∷ [])
    ≡ codes "I" ∷ codes "K" ∷ []
with_names-example = refl

pub number_among-example : number_among (codes "I" ∷ codes "K" ∷ []) (codes "K") ≡ 2
number_among-example = refl
