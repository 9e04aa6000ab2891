-- The heads of the loops round a piece of work name only loops round it, and so do its accesses and its comparison.
use Rattle.std.proofs.Common.{◌≡◌, ℕ, ◌+◌, ◌&&◌, ◌||◌, ◌==◌, nat_lt, ℤ, true, false, unsigned_abs, List, [], ◌∷◌, ◌++◌, ⊎_elim, refl, ap, sym, ◌∙◌}
use Rattle.std.specs.List.{AllByRecursion, list_all, list_any}
use Rattle.std.proofs.lemmas.Bool.{and_from, and_parts, cases_Bool}
use Rattle.std.proofs.lemmas.List.{map-append}
use Rattle.nest_tree.specs.Form.{Form, is_form, is_small}
use Rattle.nest_tree.specs.Tree.{Head, Statement, Statements, do_loop, work, continue, done, next, Tree}
use Rattle.nest_tree.specs.WellFormed.{IsWellFormed, Scope, are_good_statements, is_good_statement, is_good_work, is_number_of, loops_in, names_only, scope_of}
use Rattle.nest_tree.proofs.Cells.{well_formed_parts}
use Rattle.nest_tree.proofs.Good.{good_loop}
use Rattle.nest_rows.specs.Nested.{Nested, nested_among, nested_in, nested_works}
use Rattle.nest_rows.proofs.Dots.{numbers}
use Rattle.nest_rows.proofs.GroupsMet.{is_head_among}
use Rattle.nest_rows.proofs.Nesting.{all-append, all-weaker}

-- each loop of these is among those
abbrev pub AreAmong : List ℕ → List ℕ → Type 0
AreAmong these those = (n : ℕ) → list_any (λ l. l == n) these ≡ true → list_any (λ l. l == n) those ≡ true

pub any-left : (xs ys : List ℕ) → AreAmong xs (xs ++ ys)
any-left [] ys n h = absurd (let no : false ≡ true = h in cc)
any-left (x ∷ xs) ys n h =
    ⊎_elim (λ e. ap (λ b. b || list_any (λ l. l == n) (xs ++ ys)) e)
    (λ e. ap (λ b. b || list_any (λ l. l == n) (xs ++ ys)) e ∙ any-left xs ys n (sym (ap (λ b. b || list_any (λ l. l == n) xs) e) ∙ h)) (cases_Bool (x == n))

pub any-right : (xs ys : List ℕ) → AreAmong ys (xs ++ ys)
any-right [] ys n h = h
any-right (x ∷ xs) ys n h =
    ⊎_elim (λ e. ap (λ b. b || list_any (λ l. l == n) (xs ++ ys)) e) (λ e. ap (λ b. b || list_any (λ l. l == n) (xs ++ ys)) e ∙ any-right xs ys n h) (cases_Bool (x == n))

-- one loop more, in front of the ones and behind the others
pub any-more : (xs ys : List ℕ) (k : ℕ) → AreAmong xs ys → AreAmong (k ∷ xs) (ys ++ k ∷ [])
any-more xs ys k h n named =
    ⊎_elim (λ e. any-right ys (k ∷ []) n (ap (λ b. b || false) e)) (λ e. any-left ys (k ∷ []) n (h n (sym (ap (λ b. b || list_any (λ l. l == n) xs) e) ∙ named))) (cases_Bool (k == n))

pairs-among : (these those : List ℕ) (pairs : List (ℕ × ℤ)) → AreAmong these those → list_all (λ p. list_any (λ l. l == p.0) these) pairs ≡ true → list_all (λ p. list_any (λ l. l == p.0) those) pairs ≡ true
pairs-among these those [] among h = refl
pairs-among these those (p ∷ pairs) among h =
    let parts = and_parts (list_any (λ l. l == p.0) these) (list_all (λ (p : ℕ × ℤ). list_any (λ l. l == p.0) these) pairs) h in
    and_from (list_any (λ l. l == p.0) those) (list_all (λ (p : ℕ × ℤ). list_any (λ l. l == p.0) those) pairs) (among p.0 parts.0) (pairs-among these those pairs among parts.1)

pub form-among : (constants : ℕ) (these those : List ℕ) (f : Form) → AreAmong these those → names_only constants these f ≡ true → names_only constants those f ≡ true
form-among constants these those f among h =
    let inside = list_all (λ (p : ℕ × ℤ). list_any (λ l. l == p.0) these) f.loops in
    let inside' = list_all (λ (p : ℕ × ℤ). list_any (λ l. l == p.0) those) f.loops in
    let numbered = list_all (λ (p : ℕ × ℤ). is_number_of constants p.0) f.params in
    let last = and_parts (is_form f && inside) numbered h in
    let first = and_parts (is_form f) inside last.0 in
    and_from (is_form f && inside') numbered (and_from (is_form f) inside' first.0 (pairs-among these those f.loops among first.1)) last.1

-- a head among more loops
head-among : (constants : ℕ) (these those : List ℕ) (h : Head) → AreAmong these those → is_head_among constants these h ≡ true → is_head_among constants those h ≡ true
head-among constants these those h among good =
    let moves = nat_lt 0 (unsigned_abs h.step) in
    let last = and_parts (names_only constants these h.m1 && names_only constants these h.m2) moves good in
    let two = and_parts (names_only constants these h.m1) (names_only constants these h.m2) last.0 in
    and_from (names_only constants those h.m1 && names_only constants those h.m2) moves
    (and_from (names_only constants those h.m1) (names_only constants those h.m2) (form-among constants these those h.m1 among two.0) (form-among constants these those h.m2 among two.1)) last.1

-- a good piece of work: its loops are among those round it
pub record IsGoodNested (scope : Scope) (n : Nested) : Type 0 where
  pub loops : List ℕ
  pub among : AreAmong loops (numbers n.around)
  pub good : is_good_work scope loops n.what ≡ true
  pub heads : AllByRecursion (λ h. is_head_among scope.constants (numbers n.around) h ≡ true) n.around
  pub steps : AllByRecursion (λ h. is_small h.step ≡ true) n.around

mutual
  in_good : (scope : Scope) (around : List ℕ) (first : ℕ) (heads : List Head) (s : Statement) → AreAmong around (numbers heads) → AllByRecursion (λ h. is_head_among scope.constants (numbers heads) h ≡ true) heads → AllByRecursion (λ h. is_small h.step ≡ true) heads →
      is_good_statement scope around first s ≡ true → AllByRecursion (IsGoodNested scope) (nested_in heads s)
  in_good scope around first heads (do_loop head body) among good small h =
      let g = good_loop scope around first head body h in
      let d = and_parts _ (is_small head.step) g.bounds in
      let e = and_parts _ (nat_lt 0 (unsigned_abs head.step)) d.0 in
      let same : numbers (heads ++ head ∷ []) ≡ numbers heads ++ head.number ∷ [] = map-append (λ (h : Head). h.number) heads (head ∷ []) in
      let more : AreAmong (numbers heads) (numbers (heads ++ head ∷ [])) = λ n k. ap (list_any (λ l. l == n)) same ∙ any-left (numbers heads) (head.number ∷ []) n k in
      let inner : AreAmong (head.number ∷ around) (numbers (heads ++ head ∷ [])) = λ n k. ap (list_any (λ l. l == n)) same ∙ any-more around (numbers heads) head.number among n k in
      let here : is_head_among scope.constants around head ≡ true = and_from (names_only scope.constants around head.m1 && names_only scope.constants around head.m2) (nat_lt 0 (unsigned_abs head.step)) e.0 e.1 in
      let now = head-among scope.constants around (numbers (heads ++ head ∷ [])) head (λ n k. more n (among n k)) here in
      let before = all-weaker (λ h. is_head_among scope.constants (numbers heads) h ≡ true) (λ h. is_head_among scope.constants (numbers (heads ++ head ∷ [])) h ≡ true) heads (λ h k. head-among scope.constants (numbers heads) (numbers (heads ++ head ∷ [])) h more k) good in
      among_good scope (head.number ∷ around) (first + 1) (heads ++ head ∷ []) body inner
      (all-append (λ h. is_head_among scope.constants (numbers (heads ++ head ∷ [])) h ≡ true) heads (head ∷ []) before (now, tt))
      (all-append (λ h. is_small h.step ≡ true) heads (head ∷ []) small (d.1, tt)) g.inside
  in_good scope around first heads (work w) among good small h = (record { loops = around; among = among; good = h; heads = good; steps = small }, tt)
  in_good scope around first heads (continue line) among good small h = tt

  among_good : (scope : Scope) (around : List ℕ) (first : ℕ) (heads : List Head) (ss : Statements) → AreAmong around (numbers heads) → AllByRecursion (λ h. is_head_among scope.constants (numbers heads) h ≡ true) heads → AllByRecursion (λ h. is_small h.step ≡ true) heads →
      are_good_statements scope around first ss ≡ true → AllByRecursion (IsGoodNested scope) (nested_among heads ss)
  among_good scope around first heads done among good small h = tt
  among_good scope around first heads (next s rest) among good small h =
      let both = and_parts (is_good_statement scope around first s) (are_good_statements scope around (first + loops_in s) rest) h in
      all-append (IsGoodNested scope) (nested_in heads s) (nested_among heads rest) (in_good scope around first heads s among good small both.0) (among_good scope around (first + loops_in s) heads rest among good small both.1)

pub works_good : (tree : Tree) → IsWellFormed tree → AllByRecursion (IsGoodNested (scope_of tree)) (nested_works tree)
works_good tree formed = among_good (scope_of tree) [] 1 [] tree.items (λ n h. h) tt tt (well_formed_parts tree formed).statements
