-- The cells of variables one behind another, and the parts of a well-formed program.
use Rattle.std.proofs.Common.{◌≡◌, ℕ, zero, suc, ◌+◌, ◌-◌, ◌≤◌, ◌<◌, ◌&&◌, nat_lt, List, [], ◌∷◌, length, length-take, map, get_or, take, IsTrue, refl, ap, sym, ◌∙◌, arith}
use Rattle.std.specs.List.{list_all}
use Rattle.std.proofs.lemmas.Bool.{and_parts}
use Rattle.std.proofs.lemmas.Bool.Decides.{nat_tests}
use Rattle.std.proofs.Math.Seq.{get_or-take}
use Rattle.std.proofs.lemmas.List.{get_or-map, length-map}
use Rattle.std.proofs.lemmas.List.Sums.{AllPass-from_list_all}
use Rattle.nest_tree.specs.declared.program.Program.{Program}
use Rattle.nest_tree.specs.declared.tree.Variable.{Variable}
use Rattle.nest_tree.specs.Tree.{Declaration, Tree}
use Rattle.nest_tree.specs.Layout.{bounds_at, cells_in, element_count}
use Rattle.nest_tree.specs.View.{declaration_of, tree_of}
use Rattle.nest_tree.specs.WellFormed.{IsWellFormed, are_good_statements, is_good_constant, is_good_declaration, scope_of, statement_count}

pub record WellFormedParts (tree : Tree) : Type 0 where
  pub constants : IsTrue (list_all is_good_constant tree.params)
  pub variables : IsTrue (list_all is_good_declaration tree.variables)
  pub few : statement_count tree.items < 400
  pub statements : IsTrue (are_good_statements (scope_of tree) [] 1 tree.items)

pub well_formed_parts : (tree : Tree) → IsWellFormed tree → WellFormedParts tree
well_formed_parts tree w =
    let constants = list_all is_good_constant tree.params in
    let variables = list_all is_good_declaration tree.variables in
    let few = nat_lt (statement_count tree.items) 400 in
    let last = and_parts (constants && variables && few) (are_good_statements (scope_of tree) [] 1 tree.items) w in
    let third = and_parts (constants && variables) few last.0 in
    let first = and_parts constants variables third.0 in
    record { constants = first.0; variables = first.1; few = grind (arith, nat_tests, third.1); statements = last.1 }

pub cells-take : (vs : List Declaration) (i : ℕ) (d : Declaration) → i < length vs → cells_in (take (i + 1) vs) ≡ cells_in (take i vs) + element_count (get_or vs i d).bounds
cells-take [] i d h = absurd (omega arith)
cells-take (v ∷ vs) zero d h = omega arith
cells-take (v ∷ vs) (suc i) d h =
    let rest = cells-take vs i d (omega arith) in
    let at : suc i + 1 ≡ suc (i + 1) = omega arith in
    ap (λ n. cells_in (take n (v ∷ vs))) at ∙ omega (arith, rest)

pub cells-within : (vs : List Declaration) (i : ℕ) → cells_in (take i vs) ≤ cells_in vs
cells-within vs zero = omega arith
cells-within [] (suc i) = omega arith
cells-within (v ∷ vs) (suc i) = let rest = cells-within vs i in omega arith

pub bounds_at-is : (vs : List Declaration) (i : ℕ) (d : Declaration) → i < length vs → bounds_at vs i ≡ (get_or vs i d).bounds
bounds_at-is [] i d h = absurd (omega arith)
bounds_at-is (v ∷ vs) zero d h = refl
bounds_at-is (v ∷ vs) (suc i) d h = bounds_at-is vs i d (omega arith)

-- a variable among a program's: it is good, and its cells stand behind those before it
pub record Declared (vs : List Variable) (i : ℕ) (v : Variable) : Type 0 where
  pub good : IsTrue (is_good_declaration (declaration_of v))
  pub bounds : bounds_at (map declaration_of vs) i ≡ v.bounds.items
  pub next : cells_in (take (i + 1) (map declaration_of vs)) ≡ cells_in (take i (map declaration_of vs)) + element_count v.bounds.items
  pub within : cells_in (take i (map declaration_of vs)) + element_count v.bounds.items ≤ cells_in (map declaration_of vs)

pub declared-at : (vs : List Variable) (i : ℕ) (v : Variable) → IsTrue (list_all is_good_declaration (map declaration_of vs)) → i < length vs → v ≡ get_or vs i v → Declared vs i v
declared-at vs i v good h is =
    let ds = map declaration_of vs in
    let d = declaration_of v in
    let there : i < length ds = omega (arith, length-map {A = Variable} {B = Declaration}) in
    let at : get_or ds i d ≡ d = get_or-map declaration_of vs i v d h ∙ ap declaration_of (sym is) in
    let next = cells-take ds i d there ∙ ap (λ (x : Declaration). cells_in (take i ds) + element_count x.bounds) at in record {
      good = ap is_good_declaration (sym at) ∙ AllPass-from_list_all is_good_declaration ds good i d there;
      bounds = bounds_at-is ds i d there ∙ ap (λ (x : Declaration). x.bounds) at;
      next = next;
      within = omega (arith, next, cells-within ds (i + 1));
    }

-- the same of the first n, as the code reads them
pub declared-before : (vs read : List Variable) (n i : ℕ) (v : Variable) → IsTrue (list_all is_good_declaration (map declaration_of vs)) → read ≡ vs → i < length (take n read) → v ≡ get_or (take n read) i v → Declared vs i v
declared-before vs read n i v good same h is =
    let short : i < n = omega (arith, length-take {A = Variable}) in
    let there : i < length vs = omega (arith, length-take {A = Variable}, ap length same) in
    declared-at vs i v good there (is ∙ get_or-take n read i v short ∙ ap (λ xs. get_or xs i v) same)

-- the variable with this number
pub declared-numbered : (p : Program) (n : ℕ) (v : Variable) → IsWellFormed (tree_of p) → 1 ≤ n → n ≤ length (tree_of p).variables → v ≡ get_or p.variables.items (n - 1) v → Declared p.variables.items (n - 1) v
declared-numbered p n v w low high is =
    declared-at p.variables.items (n - 1) v (well_formed_parts (tree_of p) w).variables (omega (arith, length-map {A = Variable} {B = Declaration})) is
