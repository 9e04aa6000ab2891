-- The marks of a program's loops: there is one for each, and a loop whose mark is Outer or Single may not be dealt out.
use Rattle.std.proofs.Common.{◌≡◌, ℕ, zero, suc, ◌+◌, ◌-◌, ◌≤◌, ◌++◌, ◌⊎◌, Bool, true, false, List, [], ◌∷◌, length, length-append, map, get_or, refl, ap, ap₂, sym, ◌∙◌, inl, inr, arith}
use Rattle.std.specs.Prelude.{Option, Some, None, slice_get, unwrap_or}
use Rattle.std.proofs.lemmas.Bool.{and_parts}
use Rattle.nest_tree.specs.Tree.{Statement, Statements, do_loop, work, continue, done, next, Tree}
use Rattle.nest_tree.specs.WellFormed.{IsWellFormed, Scope, are_good_statements, is_good_statement, loops_in, loops_of, scope_of}
use Rattle.owner_partition.specs.declared.cut.Mark.{Mark}
use Rattle.owner_partition.specs.declared.cut.Mark.TheVariants.{Inner}
use Rattle.maker_marks.specs.declared.tries.Tried.{Tried}
use Rattle.maker_marks.specs.declared.tries.Tried.TheVariants as tries
use Rattle.plan_maker.specs.Bars.{is_open}
use Rattle.plan_maker.specs.Loops.{AreOpenBarred, LoopVerdict, own_in, tried_in}
use Rattle.maker_marks.specs.Marks.{have_free, inner_in, inner_of, marks_by, marks_in, marks_of}
use Rattle.maker_marks.specs.Tries.{tried_at, tried_mark}
use Rattle.maker_marks.proofs.LoopsThere.{loop_at}

mutual
  pub inner-count_in : (s : Statement) → length (inner_in s) ≡ loops_in s
  inner-count_in (do_loop head body) = omega (arith, inner-count body)
  inner-count_in (work w) = refl
  inner-count_in (continue line) = refl

  inner-count : (ss : Statements) → length (inner_of ss) ≡ loops_of ss
  inner-count done = refl
  inner-count (next s rest) = length-append (inner_in s) (inner_of rest) ∙ ap₂ (λ m n. m + n) (inner-count_in s) (inner-count rest)

get-append : (xs ys : List Mark) (k : ℕ) (m : Mark) → slice_get (xs ++ ys) k ≡ Some m → (slice_get xs k ≡ Some m) ⊎ ((length xs ≤ k) × (slice_get ys (k - length xs) ≡ Some m))
get-append [] ys k m h = let e : k ≡ k - 0 = omega arith in inr (omega arith, ap (slice_get ys) (sym e) ∙ h)
get-append (x ∷ xs) ys zero m h = inl h
get-append (x ∷ xs) ys (suc k) m h =
    elim (get-append xs ys k m h) [
      | inl here ↦ inl here
      | inr there ↦ let e : suc k - suc (length xs) ≡ k - length xs = omega arith in inr (omega (arith, there.0), ap (slice_get ys) e ∙ there.1)
    ]

first-is : (x m : Mark) → Some x ≡ Some m → is_open x ≡ is_open m
first-is x m h = ap (λ o. is_open (unwrap_or o m)) h

mutual
  inner-closed_in : (s : Statement) (k : ℕ) (m : Mark) → slice_get (inner_in s) k ≡ Some m → is_open m ≡ false
  inner-closed_in (do_loop head body) zero m h = sym (first-is Inner m h)
  inner-closed_in (do_loop head body) (suc k) m h = inner-closed body k m h
  inner-closed_in (work w) k m h = absurd (cc)
  inner-closed_in (continue line) k m h = absurd (cc)

  inner-closed : (ss : Statements) (k : ℕ) (m : Mark) → slice_get (inner_of ss) k ≡ Some m → is_open m ≡ false
  inner-closed done k m h = absurd (cc)
  inner-closed (next s rest) k m h =
      elim (get-append (inner_in s) (inner_of rest) k m h) [
        | inl here ↦ inner-closed_in s k m here
        | inr there ↦ inner-closed rest (k - length (inner_in s)) m there.1
      ]

not-closed : (m : Mark) (P : Type 0) → is_open m ≡ false → is_open m ≡ true → P
not-closed m P closed opened = absurd (let no : false ≡ true = sym closed ∙ opened in cc)

-- a loop that is dealt out is neither
dealt-closed : (t : Tried) → is_open (tried_mark t) ≡ false
dealt-closed tries.Doall = refl
dealt-closed tries.Private = refl
dealt-closed tries.Sum = refl

module _ (dealt : ℕ → Option Tried) where
  loop-count : (o : Option Tried) (free : Bool) (body : Statements) → length (marks_of dealt body) ≡ loops_of body → length (marks_by o free body (marks_of dealt body)) ≡ 1 + loops_of body
  loop-count (Some t) free body h = omega (arith, inner-count body)
  loop-count None true body h = omega (arith, h)
  loop-count None false body h = omega (arith, inner-count body)

  -- of a loop, where its number is this one, and what is known of those inside
  open-loop : (n first : ℕ) (o : Option Tried) (free : Bool) (body : Statements) (k : ℕ) (m : Mark) → n ≡ first → dealt n ≡ o → ((j : ℕ) → slice_get (marks_of dealt body) j ≡ Some m → dealt (first + 1 + j) ≡ None) → slice_get (marks_by o free body (marks_of dealt body)) k ≡ Some m → is_open m ≡ true → dealt (first + k) ≡ None
  open-loop n first (Some t) free body zero m same e inside h opened = not-closed m (dealt (first + 0) ≡ None) (sym (first-is (tried_mark t) m h) ∙ dealt-closed t) opened
  open-loop n first (Some t) free body (suc k) m same e inside h opened = not-closed m (dealt (first + suc k) ≡ None) (inner-closed body k m h) opened
  open-loop n first None free body zero m same e inside h opened = let number : first + 0 ≡ n = omega (arith, same) in ap dealt number ∙ e
  open-loop n first None true body (suc k) m same e inside h opened = let number : first + suc k ≡ first + 1 + k = omega arith in ap dealt number ∙ inside k h
  open-loop n first None false body (suc k) m same e inside h opened = not-closed m (dealt (first + suc k) ≡ None) (inner-closed body k m h) opened

  mutual
    pub marks_count_in : (s : Statement) → length (marks_in dealt s) ≡ loops_in s
    marks_count_in (do_loop head body) = loop-count (dealt head.number) (have_free dealt body) body (marks_count body)
    marks_count_in (work w) = refl
    marks_count_in (continue line) = refl

    pub marks_count : (ss : Statements) → length (marks_of dealt ss) ≡ loops_of ss
    marks_count done = refl
    marks_count (next s rest) = length-append (marks_in dealt s) (marks_of dealt rest) ∙ ap₂ (λ m n. m + n) (marks_count_in s) (marks_count rest)

  mutual
    open_in : (scope : Scope) (around : List ℕ) (first : ℕ) (s : Statement) (k : ℕ) (m : Mark) → is_good_statement scope around first s ≡ true → slice_get (marks_in dealt s) k ≡ Some m → is_open m ≡ true → dealt (first + k) ≡ None
    open_in scope around first (do_loop head body) k m good at opened =
        let l = loop_at scope around first head body good in
        open-loop head.number first (dealt head.number) (have_free dealt body) body k m l.number refl
        (λ j h. open_of scope (head.number ∷ around) (first + 1) body j m l.inside h opened) at opened
    open_in scope around first (work w) k m good at opened = absurd (cc)
    open_in scope around first (continue line) k m good at opened = absurd (cc)

    open_of : (scope : Scope) (around : List ℕ) (first : ℕ) (ss : Statements) (k : ℕ) (m : Mark) → are_good_statements scope around first ss ≡ true → slice_get (marks_of dealt ss) k ≡ Some m → is_open m ≡ true → dealt (first + k) ≡ None
    open_of scope around first done k m good at opened = absurd (cc)
    open_of scope around first (next s rest) k m good at opened =
        let parts = and_parts (is_good_statement scope around first s) _ good in
        let count = marks_count_in s in
        elim (get-append (marks_in dealt s) (marks_of dealt rest) k m at) [
          | inl here ↦ open_in scope around first s k m parts.0 here opened
          | inr there ↦
              let n : first + k ≡ first + loops_in s + (k - length (marks_in dealt s)) = omega (arith, count, there.0) in
              ap dealt n ∙ open_of scope around (first + loops_in s) rest (k - length (marks_in dealt s)) m parts.1 there.1 opened
        ]

pub tried_is : (vs : List LoopVerdict) (k : ℕ) (v : LoopVerdict) → slice_get vs k ≡ Some v → tried_in v ≡ get_or (map tried_in vs) k None
tried_is [] k v h = absurd (cc)
tried_is (w ∷ vs) zero v h = ap (λ o. tried_in (unwrap_or o v)) (sym h)
tried_is (w ∷ vs) (suc k) v h = tried_is vs k v h

pub own_is : (vs : List LoopVerdict) (k : ℕ) (v : LoopVerdict) → slice_get vs k ≡ Some v → own_in v ≡ get_or (map own_in vs) k []
own_is [] k v h = absurd (cc)
own_is (w ∷ vs) zero v h = ap (λ o. own_in (unwrap_or o v)) (sym h)
own_is (w ∷ vs) (suc k) v h = own_is vs k v h

pub open_are_barred : (tree : Tree) (vs : List LoopVerdict) (marks : List Mark) → IsWellFormed tree → marks ≡ marks_of (tried_at (map tried_in vs)) tree.items → AreOpenBarred marks vs
open_are_barred tree vs marks formed is k m v at there opened =
    let f = tried_at (map tried_in vs) in
    let good = and_parts _ (are_good_statements (scope_of tree) [] 1 tree.items) formed in
    let none = open_of f (scope_of tree) [] 1 tree.items k m good.1 (ap (λ ms. slice_get ms k) (sym is) ∙ at) opened in
    let n : k ≡ 1 + k - 1 = omega arith in
    tried_is vs k v there ∙ ap (λ j. get_or (map tried_in vs) j None) n ∙ none
