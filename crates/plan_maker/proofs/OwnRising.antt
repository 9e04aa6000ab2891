-- The private scalars that a plan may name of a loop are numbered from 1, rise, and may be so.
use Rattle.std.proofs.Common.{◌≡◌, ℕ, zero, suc, ◌+◌, ◌<◌, ◌≤◌, Bool, true, false, ◌&&◌, ◌||◌, ◌==◌, not, nat_le, nat_lt, List, [], ◌∷◌, length, take, refl, ap, ◌∙◌, arith}
use Rattle.std.specs.Prelude.{if◌then◌else◌, is_none}
use Rattle.std.specs.List.{filter, list_all, range_with_len}
use Rattle.std.proofs.lemmas.Bool.{and_from, and_parts, le-leb, leb-true, lt-ltb, ltb-true, ne_eqb}
use Rattle.std.proofs.lemmas.List.{length-take}
use Rattle.nest_tree.specs.declared.tree.Access.{Access}
use Rattle.nest_tree.specs.Tree.{Statement, Statements, assign, print, do_loop, work, continue, done, next}
use Rattle.nest_tree.specs.WellFormed.{Scope, are_good_statements, is_good_access, is_good_expression, is_good_guard, is_good_statement, is_number_of, loops_in, names_only, rank_of}
use Rattle.nest_tree.proofs.Good.{good_loop}
use Rattle.own_scalars.specs.OwnScalars.{has_access, is_private, is_stored_first, last_stored, loads, private_scalars, some_in}
use Rattle.owner_partition.specs.declared.cut.Mark.{Mark}
use Rattle.owner_partition.specs.Marks.{is_doall}
use Rattle.sync_plan.specs.declared.plan.Version.{Version}
use Rattle.sync_plan.specs.Shape.{are_good_privates, do_rise, has_privates}
use Rattle.maker_marks.specs.Tries.{first_privates}

-- no variable has the number 0
access-numbered : (scope : Scope) (around : List ℕ) (a : Access) → is_good_access scope around a ≡ true → (a.variable == 0) ≡ false
access-numbered scope around a good =
    let number = (and_parts (is_number_of (length scope.ranks) a.variable) (length a.subscripts == rank_of scope a.variable) (and_parts (is_number_of (length scope.ranks) a.variable && length a.subscripts == rank_of scope a.variable) (list_all (names_only scope.constants around) a.subscripts) good).0).0 in
    let some = leb-true 1 a.variable (and_parts (nat_le 1 a.variable) (nat_le a.variable (length scope.ranks)) number).0 in
    ne_eqb a.variable 0 (λ e. omega (arith, e, some))

either-way : (b here later : Bool) → here ≡ false → later ≡ false → (if b then here else later) ≡ false
either-way true here later h l = h
either-way false here later h l = l

mutual
  none-stored : (scope : Scope) (around : List ℕ) (first : ℕ) (s : Statement) → is_good_statement scope around first s ≡ true → is_stored_first 0 s ≡ false
  none-stored scope around first (do_loop head body) good = none-private scope (head.number ∷ around) (first + 1) body (good_loop scope around first head body good).inside
  none-stored scope around first (work (assign a)) good =
      let target = (and_parts (is_good_access scope around a.target) (is_good_expression scope around a.value) (and_parts (is_good_access scope around a.target && is_good_expression scope around a.value) (is_good_guard scope around a.guard) good).0).0 in
      ap (λ b. b && length a.target.subscripts == 0 && not (loads 0 a.value) && is_none a.guard) (access-numbered scope around a.target target)
  none-stored scope around first (work (print p)) good = refl
  none-stored scope around first (continue line) good = refl

  pub none-private : (scope : Scope) (around : List ℕ) (first : ℕ) (ss : Statements) → are_good_statements scope around first ss ≡ true → is_private 0 ss ≡ false
  none-private scope around first done good = refl
  none-private scope around first (next s rest) good =
      let parts = and_parts (is_good_statement scope around first s) (are_good_statements scope around (first + loops_in s) rest) good in
      either-way (some_in (has_access 0) s) (is_stored_first 0 s) (is_private 0 rest) (none-stored scope around first s parts.0) (none-private scope around (first + loops_in s) rest parts.1)

-- what passes a test does
pub pass-filter : {X : Type 0} (p : X → Bool) (xs : List X) → list_all p (filter p xs) ≡ true
pass-filter p [] = refl
pass-filter p (x ∷ xs) =
    elim (p x) as (λ b. p x ≡ b → list_all p (if b then x ∷ filter p xs else filter p xs) ≡ true) [
      | true ↦ λ e. and_from (p x) (list_all p (filter p xs)) e (pass-filter p xs)
      | false ↦ λ e. pass-filter p xs
    ] refl

-- what passes a test of numbers that rise
module _ (p : ℕ → Bool) where
  rise-filter : (least a n : ℕ) → least < a → do_rise least (filter p (range_with_len a n)) ≡ true
  rise-filter least a zero above = refl
  rise-filter least a (suc n) above =
      elim (p a) as (λ b. do_rise least (if b then a ∷ filter p (range_with_len (a + 1) n) else filter p (range_with_len (a + 1) n)) ≡ true) [
        | true ↦ and_from (nat_lt least a) (do_rise a (filter p (range_with_len (a + 1) n))) (lt-ltb least a above) (rise-filter a (a + 1) n (omega arith))
        | false ↦ rise-filter least (a + 1) n (omega (arith, above))
      ]

  pass-take : (k : ℕ) (xs : List ℕ) → list_all p xs ≡ true → list_all p (take k xs) ≡ true
  pass-take zero xs h = refl
  pass-take (suc k) [] h = refl
  pass-take (suc k) (x ∷ xs) h = let parts = and_parts (p x) (list_all p xs) h in and_from (p x) (list_all p (take k xs)) parts.0 (pass-take k xs parts.1)

rise-take : (least k : ℕ) (xs : List ℕ) → do_rise least xs ≡ true → do_rise least (take k xs) ≡ true
rise-take least zero xs h = refl
rise-take least (suc k) [] h = refl
rise-take least (suc k) (x ∷ xs) h = let parts = and_parts (nat_lt least x) (do_rise x xs) h in and_from (nat_lt least x) (do_rise x (take k xs)) parts.0 (rise-take x k xs parts.1)

rise-lower : (a b : ℕ) (xs : List ℕ) → a ≤ b → do_rise b xs ≡ true → do_rise a xs ≡ true
rise-lower a b [] le h = refl
rise-lower a b (x ∷ xs) le h =
    let parts = and_parts (nat_lt b x) (do_rise x xs) h in
    and_from (nat_lt a x) (do_rise x xs) (lt-ltb a x (omega (arith, le, ltb-true b x parts.0))) parts.1

rise-any : (p : ℕ → Bool) (least : ℕ) (xs : List ℕ) → do_rise least xs ≡ true → do_rise least (filter p xs) ≡ true
rise-any p least [] h = refl
rise-any p least (x ∷ xs) h =
    let parts = and_parts (nat_lt least x) (do_rise x xs) h in
    elim (p x) as (λ b. do_rise least (if b then x ∷ filter p xs else filter p xs) ≡ true) [
      | true ↦ and_from (nat_lt least x) (do_rise x (filter p xs)) parts.0 (rise-any p x xs parts.1)
      | false ↦ rise-lower least x (filter p xs) (omega (arith, ltb-true least x parts.0)) (rise-any p x xs parts.1)
    ]

pass-any : (p q : ℕ → Bool) (xs : List ℕ) → list_all p xs ≡ true → list_all p (filter q xs) ≡ true
pass-any p q [] h = refl
pass-any p q (x ∷ xs) h =
    let parts = and_parts (p x) (list_all p xs) h in
    elim (q x) as (λ b. list_all p (if b then x ∷ filter q xs else filter q xs) ≡ true) [
      | true ↦ and_from (p x) (list_all p (filter q xs)) parts.0 (pass-any p q xs parts.1)
      | false ↦ pass-any p q xs parts.1
    ]

-- scalars of a loop with this body that a plan may name
pub record AreNamed (body : Statements) (vs : List ℕ) : Type 0 where
  pub few : length vs ≤ 16
  pub rising : do_rise 0 vs ≡ true
  pub private : list_all (λ v. is_private v body) vs ≡ true

pub none_named : (body : Statements) → AreNamed body []
none_named body = record { few = omega arith; rising = refl; private = refl }

first-named : (body : Statements) (xs : List ℕ) → do_rise 0 xs ≡ true → list_all (λ v. is_private v body) xs ≡ true → AreNamed body (take 16 xs)
first-named body xs rise all =
    let n = length-take 16 xs in
    record { few = omega (arith, n); rising = rise-take 0 16 xs rise; private = pass-take (λ v. is_private v body) 16 xs all }

module _ (scope : Scope) (around : List ℕ) (first : ℕ) (body : Statements) (good : are_good_statements scope around first body ≡ true) where
  scalars-rise : do_rise 0 (private_scalars body) ≡ true
  scalars-rise =
      let later = filter (λ v. is_private v body) (range_with_len 1 (last_stored body)) in
      ap (λ b. do_rise 0 (if b then 0 ∷ later else later)) (none-private scope around first body good) ∙ rise-filter (λ v. is_private v body) 0 1 (last_stored body) (omega arith)

  scalars-pass : list_all (λ v. is_private v body) (private_scalars body) ≡ true
  scalars-pass = pass-filter (λ v. is_private v body) (range_with_len 0 (suc (last_stored body)))

  -- the first that may be private, and the first of those that pass a test
  pub first_named : AreNamed body (first_privates body)
  first_named = first-named body (private_scalars body) scalars-rise scalars-pass

  pub passing_named : (p : ℕ → Bool) → AreNamed body (take 16 (filter p (private_scalars body)))
  passing_named p = first-named body (filter p (private_scalars body)) (rise-any p 0 (private_scalars body) scalars-rise) (pass-any (λ v. is_private v body) p (private_scalars body) scalars-pass)

pub privates_good : (body : Statements) (version : Version) (mark : Mark) (vs : List ℕ) → is_doall mark ≡ true → length vs ≤ 16 → do_rise 0 vs ≡ true → list_all (λ v. is_private v body) vs ≡ true → ((length vs == 0) ≡ false → has_privates version ≡ true) →
    are_good_privates version mark body vs ≡ true
privates_good body version mark vs dealt few rising all has = by (length vs == 0) has
  where
    by : (b : Bool) → (b ≡ false → has_privates version ≡ true) →
        (b || (has_privates version && is_doall mark && nat_le (length vs) 16 && do_rise 0 vs && list_all (λ v. is_private v body) vs)) ≡ true
    by true h = refl
    by false h =
        let passes = list_all (λ v. is_private v body) vs in
        let rises = do_rise 0 vs in
        let fits = nat_le (length vs) 16 in
        and_from (has_privates version && is_doall mark && fits && rises) passes
        (and_from (has_privates version && is_doall mark && fits) rises
        (and_from (has_privates version && is_doall mark) fits (and_from (has_privates version) (is_doall mark) (h refl) dealt) (le-leb (length vs) 16 few))
        rising)
        all
