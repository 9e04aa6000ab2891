-- Each loop of a well-formed program is found by its number.
use Rattle.std.proofs.Common.{◌≡◌, ℕ, ◌+◌, ◌≤◌, ◌<◌, ◌==◌, Bool, true, false, List, [], ◌∷◌, Some, None, if◌then◌else◌, refl, ap, arith}
use Rattle.std.specs.Prelude.{Option, nat_lt}
use Rattle.std.specs.Option.{option_or}
use Rattle.std.proofs.lemmas.Bool.{and_parts, eqb-true}
use Rattle.std.proofs.lemmas.Bool.Decides.{nat_tests}
use Rattle.nest_tree.specs.Tree.{Head, Statement, Statements, do_loop, work, continue, done, next, Tree}
use Rattle.nest_tree.specs.WellFormed.{IsWellFormed, Scope, are_good_statements, is_good_head, is_good_statement, loops_in, loops_of, scope_of}
use Rattle.maker_marks.specs.Tries.{body_among, body_in}

-- the number of a loop is the first of its own and those inside
pub record IsLoopAt (scope : Scope) (around : List ℕ) (first : ℕ) (head : Head) (body : Statements) : Type 0 where
  pub number : head.number ≡ first
  pub inside : are_good_statements scope (head.number ∷ around) (first + 1) body ≡ true

pub loop_at : (scope : Scope) (around : List ℕ) (first : ℕ) (head : Head) (body : Statements) → is_good_statement scope around first (do_loop head body) ≡ true → IsLoopAt scope around first head body
loop_at scope around first head body good =
    let parts = and_parts _ (are_good_statements scope (head.number ∷ around) (first + 1) body) good in
    let headed = and_parts _ (is_good_head scope around head) parts.0 in
    let numbered = and_parts (head.number == first) _ headed.0 in
    record { number = eqb-true head.number first numbered.0; inside = parts.1 }

-- it stands in a text
abbrev Found : Option Statements → Type 0
Found o = (body : Statements) × (o ≡ Some body)

either-found : (a b : Option Statements) → Found b → Found (option_or a b)
either-found None b h = h
either-found (Some body) b h = (body, refl)

first-found : (a b : Option Statements) → Found a → Found (option_or a b)
first-found a b h = (h.0, ap (λ o. option_or o b) h.1)

here-or-inside : (b : Bool) (body : Statements) (inside : Option Statements) → (b ≡ false → Found inside) → Found (if b then Some body else inside)
here-or-inside true body inside h = (body, refl)
here-or-inside false body inside h = h refl

behind-first : (own first n : ℕ) → own ≡ first → (own == n) ≡ false → first ≤ n → first + 1 ≤ n
behind-first own first n same differs from = grind (arith, nat_tests)

mutual
  found-in : (scope : Scope) (around : List ℕ) (first n : ℕ) (s : Statement) → is_good_statement scope around first s ≡ true → first ≤ n → n < first + loops_in s → Found (body_in n s)
  found-in scope around first n (do_loop head body) good from to =
      let l = loop_at scope around first head body good in
      here-or-inside (head.number == n) body (body_among n body)
      (λ other. found-among scope (head.number ∷ around) (first + 1) n body l.inside (behind-first head.number first n l.number other from) (omega (arith, to)))
  found-in scope around first n (work w) good from to = absurd (omega (arith, from, to))
  found-in scope around first n (continue line) good from to = absurd (omega (arith, from, to))

  found-among : (scope : Scope) (around : List ℕ) (first n : ℕ) (ss : Statements) → are_good_statements scope around first ss ≡ true → first ≤ n → n < first + loops_of ss → Found (body_among n ss)
  found-among scope around first n done good from to = absurd (omega (arith, from, to))
  found-among scope around first n (next s rest) good from to =
      let parts = and_parts (is_good_statement scope around first s) _ good in
      by (nat_lt n (first + loops_in s)) refl
      (λ h. found-in scope around first n s parts.0 from h)
      (λ h. found-among scope around (first + loops_in s) n rest parts.1 h (omega (arith, to)))
    where
      by : (b : Bool) → nat_lt n (first + loops_in s) ≡ b → (n < first + loops_in s → Found (body_in n s)) → (first + loops_in s ≤ n → Found (body_among n rest)) → Found (option_or (body_in n s) (body_among n rest))
      by true e here behind = let lt : n < first + loops_in s = grind (arith, nat_tests) in first-found (body_in n s) (body_among n rest) (here lt)
      by false e here behind = let le : first + loops_in s ≤ n = grind (arith, nat_tests) in either-found (body_in n s) (body_among n rest) (behind le)

pub loop_there : (tree : Tree) (n : ℕ) → IsWellFormed tree → 1 ≤ n → n ≤ loops_of tree.items → Found (body_among n tree.items)
loop_there tree n formed from to =
    let good = and_parts _ (are_good_statements (scope_of tree) [] 1 tree.items) formed in
    found-among (scope_of tree) [] 1 n tree.items good.1 from (omega (arith, to))
