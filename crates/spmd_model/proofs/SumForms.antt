-- What an addition to a scalar adds doesn't depend on the scalar, wherever in the expression that is loaded.
use Rattle.std.proofs.Common.{◌≡◌, ℕ, zero, suc, ◌<◌, ◌≤◌, ℤ, pos, ◌+ℤ◌, ◌-ℤ◌, neg_ℤ, Bool, true, false, true≢false, ◌&&◌, ◌||◌, not, List, [], ◌∷◌, ◌++◌, drop, take, length, refl, ap, ap₂, sym, ◌∙◌, inl, inr, arith, append_assoc, length-append, length-drop, slice_index_or}
use Rattle.std.specs.Int.{int_wrap, w64}
use Rattle.std.specs.List.{list_any}
use Rattle.std.proofs.lemmas.Bool.{and_parts, or_cases}
use Rattle.std.proofs.lemmas.Int.{ints, int_wrap-add_right, int_wrap-add_same}
use Rattle.std.proofs.lemmas.List.Folds.{list_any-append}
use Rattle.nest_tree.specs.declared.tree.Access.{Access}
use Rattle.nest_tree.specs.Loads.{loads_in}
use Rattle.nest_tree.specs.Tree.{Expression, number, loop_value, param, load, neg, add, sub, mul, div, least_of, greatest_of}
use Rattle.nest_tree.specs.Values.{wrapped}
use Rattle.nest_model.specs.Meaning.{value_of}
use Rattle.nest_walk.proofs.CellSums.{int_wrap-again}
use Rattle.flat_code.proofs.Loaded.{value_taken}
use Rattle.own_scalars.specs.OwnScalars.{adds_once, is_of, is_sum_or_difference, loads}
use Rattle.spmd_model.specs.Cells.{plus}

-- one load is of the scalar, and where that gave x, the value is x and what it is where that gave 0, but for what is reduced
pub record AddsOnce (v : ℕ) (e : Expression) : Type 0 where
  pub front : List Access
  pub own : Access
  pub rest : List Access
  pub is : loads_in e ≡ front ++ own ∷ rest
  pub of : is_of v own ≡ true
  pub others : list_any (is_of v) (front ++ rest) ≡ false
  pub adds : (loops params us : List ℤ) (x : ℤ) (vs : List ℤ) → length us ≡ length front → wrapped (value_of e loops params (us ++ x ∷ vs)) ≡ plus x (value_of e loops params (us ++ pos 0 ∷ vs))

unloaded : (b : Bool) → not b ≡ true → b ≡ false
unloaded true h = absurd (true≢false (sym h))
unloaded false h = refl

-- ---- the values of loads

drop_past : (us : List ℤ) (x y : ℤ) (vs : List ℤ) (n : ℕ) → length us < n → drop n (us ++ x ∷ vs) ≡ drop n (us ++ y ∷ vs)
drop_past us x y vs zero lt = absurd (omega (arith, lt))
drop_past [] x y vs (suc n) lt = refl
drop_past (u ∷ us) x y vs (suc n) lt = drop_past us x y vs n (omega (arith, lt))

drop_front : (us ws : List ℤ) (n : ℕ) → n ≤ length us → drop n (us ++ ws) ≡ drop n us ++ ws
drop_front us ws zero le = refl
drop_front [] ws (suc n) le = absurd (omega (arith, le))
drop_front (u ∷ us) ws (suc n) le = drop_front us ws n (omega (arith, le))

take_front : (us ws : List ℤ) → take (length us) (us ++ ws) ≡ us
take_front [] ws = refl
take_front (u ∷ us) ws = ap (λ l. u ∷ l) (take_front us ws)

-- an expression whose loads have their values in front gives the same whatever stands behind
same_front : (e : Expression) (loops params us ws ws' : List ℤ) → length (loads_in e) ≤ length us → value_of e loops params (us ++ ws) ≡ value_of e loops params (us ++ ws')
same_front e loops params us ws ws' le = sym (of_front ws) ∙ of_front ws'
  where
    of_front : (zs : List ℤ) → value_of e loops params us ≡ value_of e loops params (us ++ zs)
    of_front zs = ap (value_of e loops params) (sym (take_front us zs)) ∙ value_taken e loops params (us ++ zs) (length us) le

-- ---- sums and differences of which one side has x more

left_more : (x a a0 t : ℤ) → wrapped a ≡ plus x a0 → wrapped (wrapped (a +ℤ t)) ≡ plus x (wrapped (a0 +ℤ t))
left_more x a a0 t more = int_wrap-again (a +ℤ t) ∙ int_wrap-add_same w64 a (x +ℤ a0) t more ∙ ap (int_wrap w64) moved ∙ sym (int_wrap-add_right w64 x (a0 +ℤ t))
  where
    moved : (x +ℤ a0) +ℤ t ≡ x +ℤ (a0 +ℤ t)
    moved = omega (arith, ints)

right_more : (x a a0 t : ℤ) → wrapped a ≡ plus x a0 → wrapped (wrapped (t +ℤ a)) ≡ plus x (wrapped (t +ℤ a0))
right_more x a a0 t more = ap (λ y. wrapped (wrapped y)) (turned a) ∙ left_more x a a0 t more ∙ ap (λ y. plus x (wrapped y)) (sym (turned a0))
  where
    turned : (y : ℤ) → t +ℤ y ≡ y +ℤ t
    turned y = omega (arith, ints)

alone_more : (us : List ℤ) (x : ℤ) (vs : List ℤ) → length us ≡ 0 → wrapped (slice_index_or (us ++ x ∷ vs) 0 (pos 0)) ≡ plus x (slice_index_or (us ++ pos 0 ∷ vs) 0 (pos 0))
alone_more [] x vs none = ap (int_wrap w64) nothing_more
  where
    nothing_more : x ≡ x +ℤ pos 0
    nothing_more = omega (arith, ints)
alone_more (u ∷ us) x vs none = absurd (omega (arith, none))

-- ---- the forms

-- the value of a sum or a difference, from those of its sides
abbrev IsMadeOf : (ℤ → ℤ → ℤ) → Expression → Expression → Expression → Type 0
IsMadeOf f a b e = (loops params vs : List ℤ) → value_of e loops params vs ≡ wrapped (f (value_of a loops params vs) (value_of b loops params (drop (length (loads_in a)) vs)))

module _ (v : ℕ) (a b e : Expression) (same : loads_in e ≡ loads_in a ++ loads_in b) (f : ℤ → ℤ → ℤ) (made : IsMadeOf f a b e) where
  -- its left side adds the scalar once
  from_left : AddsOnce v a → not (loads v b) ≡ true → ((x y y0 t : ℤ) → wrapped y ≡ plus x y0 → wrapped (wrapped (f y t)) ≡ plus x (wrapped (f y0 t))) → AddsOnce v e
  from_left l none more = record {
    front = l.front;
    own = l.own;
    rest = l.rest ++ loads_in b;
    is = same ∙ ap (λ xs. xs ++ loads_in b) l.is ∙ append_assoc l.front (l.own ∷ l.rest) (loads_in b);
    of = l.of;
    others = ap (list_any (is_of v)) (sym (append_assoc l.front l.rest (loads_in b))) ∙ list_any-append (is_of v) (l.front ++ l.rest) (loads_in b) ∙ ap (λ x. x || loads v b) l.others ∙ unloaded (loads v b) none;
    adds = λ loops params us x vs long.
        let behind = drop_past us x (pos 0) vs (length (loads_in a)) (past us long) in
        ap wrapped (made loops params (us ++ x ∷ vs) ∙ ap (λ ws. wrapped (f (value_of a loops params (us ++ x ∷ vs)) (value_of b loops params ws))) behind)
        ∙ more x (value_of a loops params (us ++ x ∷ vs)) (value_of a loops params (us ++ pos 0 ∷ vs)) (value_of b loops params (drop (length (loads_in a)) (us ++ pos 0 ∷ vs))) (l.adds loops params us x vs long)
        ∙ ap (plus x) (sym (made loops params (us ++ pos 0 ∷ vs)));
  }
    where
      past : (us : List ℤ) → length us ≡ length l.front → length us < length (loads_in a)
      past us long = let all = ap (λ xs. length xs) l.is in let parts = length-append l.front (l.own ∷ l.rest) in omega (arith, long, all, parts)

  -- its right side does
  from_right : AddsOnce v b → not (loads v a) ≡ true → ((x y y0 t : ℤ) → wrapped y ≡ plus x y0 → wrapped (wrapped (f t y)) ≡ plus x (wrapped (f t y0))) → AddsOnce v e
  from_right r none more = record {
    front = loads_in a ++ r.front;
    own = r.own;
    rest = r.rest;
    is = same ∙ ap (λ xs. loads_in a ++ xs) r.is ∙ sym (append_assoc (loads_in a) r.front (r.own ∷ r.rest));
    of = r.of;
    others = ap (list_any (is_of v)) (append_assoc (loads_in a) r.front r.rest) ∙ list_any-append (is_of v) (loads_in a) (r.front ++ r.rest) ∙ ap (λ x. x || list_any (is_of v) (r.front ++ r.rest)) (unloaded (loads v a) none) ∙ r.others;
    adds = λ loops params us x vs long.
        let sizes = length-append (loads_in a) r.front in
        let n = length (loads_in a) in
        let within : n ≤ length us = omega (arith, long, sizes) in
        let left_over : length (drop n us) ≡ length r.front = let dropped = length-drop n us in omega (arith, long, sizes, dropped) in
        let first = same_front a loops params us (x ∷ vs) (pos 0 ∷ vs) within in
        ap wrapped (made loops params (us ++ x ∷ vs) ∙ ap₂ (λ y ws. wrapped (f y (value_of b loops params ws))) first (drop_front us (x ∷ vs) n within))
        ∙ more x (value_of b loops params (drop n us ++ x ∷ vs)) (value_of b loops params (drop n us ++ pos 0 ∷ vs)) (value_of a loops params (us ++ pos 0 ∷ vs)) (r.adds loops params (drop n us) x vs left_over)
        ∙ ap (plus x) (sym (made loops params (us ++ pos 0 ∷ vs) ∙ ap (λ ws. wrapped (f (value_of a loops params (us ++ pos 0 ∷ vs)) (value_of b loops params ws))) (drop_front us (pos 0 ∷ vs) n within)));
  }

pub once : (v : ℕ) (e : Expression) → adds_once v e ≡ true → AddsOnce v e
once v (number n) h = absurd (true≢false (sym h))
once v (loop_value l) h = absurd (true≢false (sym h))
once v (param p) h = absurd (true≢false (sym h))
once v (load a) h = record { front = []; own = a; rest = []; is = refl; of = h; others = refl; adds = λ loops params us x vs none. alone_more us x vs none }
once v (neg a) h = absurd (true≢false (sym h))
once v (add a b) h = elim (or_cases (adds_once v a && not (loads v b)) (adds_once v b && not (loads v a)) h) [
  | inl left ↦
      let both = and_parts (adds_once v a) (not (loads v b)) left in
      from_left v a b (add a b) refl (λ x y. x +ℤ y) (λ loops params vs. refl) (once v a both.0) both.1 left_more
  | inr right ↦
      let both = and_parts (adds_once v b) (not (loads v a)) right in
      from_right v a b (add a b) refl (λ x y. x +ℤ y) (λ loops params vs. refl) (once v b both.0) both.1 right_more
]
once v (sub a b) h =
    let both = and_parts (adds_once v a) (not (loads v b)) h in
    from_left v a b (sub a b) refl (λ x y. x -ℤ y) (λ loops params vs. refl) (once v a both.0) both.1 (λ x y y0 t. left_more x y y0 (neg_ℤ t))
once v (mul a b) h = absurd (true≢false (sym h))
once v (div a d) h = absurd (true≢false (sym h))
once v (least_of es) h = absurd (true≢false (sym h))
once v (greatest_of es) h = absurd (true≢false (sym h))

-- a sum or a difference is reduced
reduced : (e : Expression) (loops params vs : List ℤ) → is_sum_or_difference e ≡ true → wrapped (value_of e loops params vs) ≡ value_of e loops params vs
reduced (number n) loops params vs h = absurd (true≢false (sym h))
reduced (loop_value l) loops params vs h = absurd (true≢false (sym h))
reduced (param p) loops params vs h = absurd (true≢false (sym h))
reduced (load a) loops params vs h = absurd (true≢false (sym h))
reduced (neg a) loops params vs h = absurd (true≢false (sym h))
reduced (add a b) loops params vs h = int_wrap-again (value_of a loops params vs +ℤ value_of b loops params (drop (length (loads_in a)) vs))
reduced (sub a b) loops params vs h = int_wrap-again (value_of a loops params vs -ℤ value_of b loops params (drop (length (loads_in a)) vs))
reduced (mul a b) loops params vs h = absurd (true≢false (sym h))
reduced (div a d) loops params vs h = absurd (true≢false (sym h))
reduced (least_of es) loops params vs h = absurd (true≢false (sym h))
reduced (greatest_of es) loops params vs h = absurd (true≢false (sym h))

-- where each load gave its value, an addition's is the scalar's and what the expression gives with 0 for it
pub adds_its_terms : (v : ℕ) (e : Expression) (f : AddsOnce v e) → is_sum_or_difference e ≡ true → (loops params us : List ℤ) (x : ℤ) (vs : List ℤ) → length us ≡ length f.front →
    value_of e loops params (us ++ x ∷ vs) ≡ plus x (value_of e loops params (us ++ pos 0 ∷ vs))
adds_its_terms v e f is loops params us x vs long = sym (reduced e loops params (us ++ x ∷ vs) is) ∙ f.adds loops params us x vs long
