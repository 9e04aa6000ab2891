-- The lists have all sum scalars and all private ones, and no scalar is both.
use Rattle.std.proofs.Common.{◌≡◌, ℕ, suc, ◌≤◌, Bool, true, false, true≢false, ◌&&◌, ◌||◌, ◌==◌, not, ◌++◌, length, refl, ap, sym, ◌∙◌, inl, inr, arith}
use Rattle.std.specs.Prelude.{Contains, if◌then◌else◌, is_none}
use Rattle.std.specs.List.{filter, list_any, range_with_len}
use Rattle.std.proofs.lemmas.Bool.{and_from, and_parts, cases_Bool, eqb-true, or_cases}
use Rattle.std.proofs.lemmas.List.Folds.{list_any-append}
use Rattle.nest_tree.specs.Loads.{loads_in}
use Rattle.nest_tree.specs.Tree.{Expression, number, loop_value, param, load, neg, add, sub, mul, div, least_of, greatest_of, Work, assign, print, Statement, Statements, do_loop, work, continue, done, next}
use Rattle.own_scalars.specs.OwnScalars.{adds_once, adds_to, has_access, is_addition, is_of, is_other, is_plain_store, is_private, is_stored_first, is_sum, is_sum_or_difference, last_stored, last_stored_in, loads, private_scalars, some_in, some_of, stores, sum_scalars}
use Rattle.own_scalars.proofs.Ranges.{there}
use Rattle.own_scalars.proofs.Stored.{neither, unstored_private}

-- ---- what is stored has no greater number than the last

mutual
  stored_in : (v : ℕ) (s : Statement) → some_in (stores v) s ≡ true → v ≤ last_stored_in s
  stored_in v (do_loop head body) e = stored_below v body e
  stored_in v (work (assign a)) e =
      let both = and_parts (a.target.variable == v) (length a.target.subscripts == 0) e in
      let last = ap (λ b. if b then a.target.variable else 0) both.1 in
      omega (arith, last, eqb-true a.target.variable v both.0)
  stored_in v (work (print p)) e = absurd (cc)
  stored_in v (continue line) e = absurd (cc)

  stored_below : (v : ℕ) (ss : Statements) → some_of (stores v) ss ≡ true → v ≤ last_stored ss
  stored_below v done e = absurd (cc)
  stored_below v (next s rest) e = elim (or_cases (some_in (stores v) s) (some_of (stores v) rest) e) [
    | inl here ↦ let low = stored_in v s here in omega (arith, low)
    | inr later ↦ let low = stored_below v rest later in omega (arith, low)
  ]

stored_there : (p : ℕ → Bool) (body : Statements) (v : ℕ) → some_of (stores v) body ≡ true → p v ≡ true → Contains (filter p (range_with_len 0 (suc (last_stored body)))) v
stored_there p body v stored passes = let low = stored_below v body stored in there p v (suc (last_stored body)) (omega (arith, low)) passes

pub sums_there : (body : Statements) (v : ℕ) → is_sum v body ≡ true → Contains (sum_scalars body) v
sums_there body v is = stored_there (λ u. is_sum u body) body v (and_parts (some_of (stores v) body) (not (some_of (is_other v) body)) is).0 is

pub privates_there : (body : Statements) (v : ℕ) → is_private v body ≡ true → Contains (private_scalars body) v
privates_there body v is = stored_there (λ u. is_private u body) body v stored is
  where
    stored : some_of (stores v) body ≡ true
    stored = elim (cases_Bool (some_of (stores v) body)) [
      | inl stores_it ↦ stores_it
      | inr leaves_it ↦ absurd (true≢false (sym is ∙ unstored_private v body leaves_it))
    ]

-- ---- a plain store is no addition

left_loads : (v : ℕ) (a b : Expression) → loads v a ≡ true → list_any (is_of v) (loads_in a ++ loads_in b) ≡ true
left_loads v a b e = list_any-append (is_of v) (loads_in a) (loads_in b) ∙ ap (λ x. x || loads v b) e

right_loads : (v : ℕ) (a b : Expression) → loads v b ≡ true → list_any (is_of v) (loads_in a ++ loads_in b) ≡ true
right_loads v a b e = list_any-append (is_of v) (loads_in a) (loads_in b) ∙ or_true (loads v a) e
  where
    or_true : {y : Bool} (x : Bool) → y ≡ true → (x || y) ≡ true
    or_true true h = refl
    or_true false h = h

added_loads : (v : ℕ) (e : Expression) → adds_once v e ≡ true → loads v e ≡ true
added_loads v (number n) h = absurd (cc)
added_loads v (loop_value l) h = absurd (cc)
added_loads v (param p) h = absurd (cc)
added_loads v (load a) h = ap (λ b. b || false) h
added_loads v (neg a) h = absurd (cc)
added_loads v (add a b) h = elim (or_cases (adds_once v a && not (loads v b)) (adds_once v b && not (loads v a)) h) [
  | inl left ↦ left_loads v a b (added_loads v a (and_parts (adds_once v a) (not (loads v b)) left).0)
  | inr right ↦ right_loads v a b (added_loads v b (and_parts (adds_once v b) (not (loads v a)) right).0)
]
added_loads v (sub a b) h = left_loads v a b (added_loads v a (and_parts (adds_once v a) (not (loads v b)) h).0)
added_loads v (mul a b) h = absurd (cc)
added_loads v (div a divisor) h = absurd (cc)
added_loads v (least_of arguments) h = absurd (cc)
added_loads v (greatest_of arguments) h = absurd (cc)

adds_load : (v : ℕ) (e : Expression) → adds_to v e ≡ true → loads v e ≡ true
adds_load v e h = added_loads v e (and_parts (is_sum_or_difference e) (adds_once v e) h).1

plain_other : (v : ℕ) (w : Work) → is_plain_store v w ≡ true → is_other v w ≡ true
plain_other v (print p) e = absurd (cc)
plain_other v (assign a) e =
    let q = and_parts (is_of v a.target && not (loads v a.value)) (is_none a.guard) e in
    let p = and_parts (is_of v a.target) (not (loads v a.value)) q.0 in
    and_from (has_access v (assign a)) (not (is_addition v (assign a))) (touched (loads v a.value) (is_of v a.target) p.0) (unadded (is_of v a.target) (adds_to v a.value) (loads v a.value) (adds_load v a.value) p.1)
  where
    touched : (a b : Bool) → b ≡ true → (a || b) ≡ true
    touched true b e = refl
    touched false b e = e

    unadded : (t a l : Bool) → (a ≡ true → l ≡ true) → not l ≡ true → not (t && a) ≡ true
    unadded t true true f h = absurd (cc)
    unadded t true false f h = absurd (true≢false (sym (f refl)))
    unadded true false l f h = refl
    unadded false false l f h = refl

mutual
  plain_not : (v : ℕ) (s : Statement) → some_in (is_other v) s ≡ false → is_stored_first v s ≡ false
  plain_not v (do_loop head body) e = others_none v body e
  plain_not v (continue line) e = refl
  plain_not v (work w) e = elim (cases_Bool (is_plain_store v w)) [
    | inl plain ↦ absurd (true≢false (sym (plain_other v w plain) ∙ e))
    | inr other ↦ other
  ]

  others_none : (v : ℕ) (ss : Statements) → some_of (is_other v) ss ≡ false → is_private v ss ≡ false
  others_none v done e = refl
  others_none v (next s rest) e =
      let parts = neither (some_in (is_other v) s) (some_of (is_other v) rest) e in
      elim (some_in (has_access v) s) as (λ b. (if b then is_stored_first v s else is_private v rest) ≡ false)
      [ true ↦ plain_not v s parts.0 | false ↦ others_none v rest parts.1 ]

pub sum_private : (body : Statements) (v : ℕ) → is_sum v body ≡ true → is_private v body ≡ false
sum_private body v is = others_none v body (none (some_of (is_other v) body) (and_parts (some_of (stores v) body) (not (some_of (is_other v) body)) is).1)
  where
    none : (b : Bool) → not b ≡ true → b ≡ false
    none true e = absurd (cc)
    none false e = refl
