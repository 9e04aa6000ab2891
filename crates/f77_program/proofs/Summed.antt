-- Sums and multiples of coefficients.
use Rattle.std.proofs.Common.{◌≡◌, ℕ, zero, suc, ◌+◌, ◌<◌, ◌≤◌, ◌==◌, nat_lt, ℤ, pos, negsuc, ◌+ℤ◌, ◌*ℤ◌, unsigned_abs, Bool, true, false, ◌&&◌, List, [], ◌∷◌, ◌++◌, length, get_or, drop, IsTrue, refl, sym, ap, ◌∙◌, arith, rules, add-one, append_assoc}
use Rattle.std.proofs.Math.Seq.{drop-cons}
use Rattle.std.proofs.lemmas.Bool.{and_parts, and_from}
use Rattle.std.proofs.lemmas.Bool.Decides.{nat_tests, Decides-int_eq}
use Rattle.std.specs.Ordering.{int_eq}
use Rattle.nest_tree.specs.Form.{rises_above, is_small}
use Rattle.f77_scene.specs.Affine.{kept, with_pair, pairs_plus, pairs_times}
use Rattle.f77_program.specs.Sums.{Ascends, IsNextPair}

-- ---- pairs whose numbers rise and whose coefficients are not 0

pub nonzero : (c : ℤ) → nat_lt 0 (unsigned_abs c) ≡ true → int_eq c (pos 0) ≡ false
nonzero (pos zero) h = absurd cc
nonzero (pos (suc n)) h = search (rules, Decides-int_eq (pos (suc n)) (pos 0))
nonzero (negsuc n) h = refl

less : (k n : ℕ) (pairs : List (ℕ × ℤ)) → k ≤ n → Ascends n pairs → Ascends k pairs
less k n [] le h = tt
less k n (p ∷ pairs) le h = (omega (arith, h.0), h.1, h.2)

pub ascends : (least : ℕ) (pairs : List (ℕ × ℤ)) → IsTrue (rises_above least pairs) → Ascends least pairs
ascends least [] h = tt
ascends least (p ∷ pairs) h =
    let a = and_parts (nat_lt least p.0 && nat_lt 0 (unsigned_abs p.1) && is_small p.1) (rises_above p.0 pairs) h in
    let b = and_parts (nat_lt least p.0 && nat_lt 0 (unsigned_abs p.1)) (is_small p.1) a.0 in
    let c = and_parts (nat_lt least p.0) (nat_lt 0 (unsigned_abs p.1)) b.0 in
    (grind (arith, nat_tests, c.0), nonzero p.1 c.1, ascends p.0 pairs a.1)

pub rises-less : (k n : ℕ) (pairs : List (ℕ × ℤ)) → k ≤ n → IsTrue (rises_above n pairs) → IsTrue (rises_above k pairs)
rises-less k n [] le h = refl
rises-less k n (p ∷ pairs) le h =
    let a = and_parts (nat_lt n p.0 && nat_lt 0 (unsigned_abs p.1) && is_small p.1) (rises_above p.0 pairs) h in
    let b = and_parts (nat_lt n p.0 && nat_lt 0 (unsigned_abs p.1)) (is_small p.1) a.0 in
    let c = and_parts (nat_lt n p.0) (nat_lt 0 (unsigned_abs p.1)) b.0 in
    let above : nat_lt k p.0 ≡ true = grind (arith, nat_tests, c.0) in
    and_from (nat_lt k p.0 && nat_lt 0 (unsigned_abs p.1) && is_small p.1) (rises_above p.0 pairs)
    (and_from (nat_lt k p.0 && nat_lt 0 (unsigned_abs p.1)) (is_small p.1) (and_from (nat_lt k p.0) (nat_lt 0 (unsigned_abs p.1)) above c.1) b.1) a.1

pub rises-rest : (least : ℕ) (p : ℕ × ℤ) (pairs : List (ℕ × ℤ)) → IsTrue (rises_above least (p ∷ pairs)) → IsTrue (rises_above 0 pairs)
rises-rest least p pairs h = rises-less 0 p.0 pairs (omega arith) (and_parts (nat_lt least p.0 && nat_lt 0 (unsigned_abs p.1) && is_small p.1) (rises_above p.0 pairs) h).1

pub rises-small : (least : ℕ) (pairs : List (ℕ × ℤ)) (i : ℕ) (d : ℕ × ℤ) → IsTrue (rises_above least pairs) → i < length pairs → IsTrue (is_small (get_or pairs i d).1)
rises-small least [] i d h lt = absurd (omega arith)
rises-small least (p ∷ pairs) zero d h lt = (and_parts (nat_lt least p.0 && nat_lt 0 (unsigned_abs p.1)) (is_small p.1) (and_parts (nat_lt least p.0 && nat_lt 0 (unsigned_abs p.1) && is_small p.1) (rises_above p.0 pairs) h).0).1
rises-small least (p ∷ pairs) (suc i) d h lt = rises-small p.0 pairs i d (and_parts (nat_lt least p.0 && nat_lt 0 (unsigned_abs p.1) && is_small p.1) (rises_above p.0 pairs) h).1 (omega arith)

-- ---- one pair more

not_less : (n m : ℕ) → m < n → (nat_lt n m ≡ false) × ((n == m) ≡ false)
not_less n m h = (grind (arith, nat_tests), grind (arith, nat_tests))

in_front : (n : ℕ) (c : ℤ) (pairs : List (ℕ × ℤ)) → Ascends n pairs → with_pair n c pairs ≡ kept n c pairs
in_front n c [] h = refl
in_front n c (p ∷ pairs) h = let first : nat_lt n p.0 ≡ true = grind (arith, nat_tests, h.0) in rw first refl

behind : (n : ℕ) (c : ℤ) (m : ℕ) (d : ℤ) (pairs : List (ℕ × ℤ)) → m < n → with_pair n c ((m, d) ∷ pairs) ≡ (m, d) ∷ with_pair n c pairs
behind n c m d pairs h = let t = not_less n m h in rw t.0 (rw t.1 refl)

Ascends-kept : (least n : ℕ) (c : ℤ) (pairs : List (ℕ × ℤ)) → least < n → Ascends n pairs → Ascends least (kept n c pairs)
Ascends-kept least n c pairs lt h = by_zero (int_eq c (pos 0)) refl
  where
    by_zero : (b : Bool) → int_eq c (pos 0) ≡ b → Ascends least (kept n c pairs)
    by_zero true e = rw e (less least n pairs (omega arith) h)
    by_zero false e = rw e (lt, e, h)

Ascends-with_pair : (least n : ℕ) (c : ℤ) (pairs : List (ℕ × ℤ)) → least < n → Ascends least pairs → Ascends least (with_pair n c pairs)
Ascends-with_pair least n c [] lt h = Ascends-kept least n c [] lt tt
Ascends-with_pair least n c (p ∷ pairs) lt h = by_first (nat_lt n p.0) (n == p.0) refl refl (λ below. Ascends-with_pair p.0 n c pairs below h.2)
  where
    by_first : (b t : Bool) → nat_lt n p.0 ≡ b → (n == p.0) ≡ t → (p.0 < n → Ascends p.0 (with_pair n c pairs)) → Ascends least (with_pair n c (p ∷ pairs))
    by_first true t e s rest = rw e (Ascends-kept least n c (p ∷ pairs) lt (grind (arith, nat_tests, e), h.1, h.2))
    by_first false true e s rest =
        let same : n ≡ p.0 = grind (arith, nat_tests, s) in
        rw e (rw s (Ascends-kept least n (c +ℤ p.1) pairs lt (less n p.0 pairs (omega arith) h.2)))
    by_first false false e s rest =
        let below : p.0 < n = grind (arith, nat_tests, e, s) in
        rw e (rw s (h.0, h.1, rest below))

pub Ascends-plus : (least : ℕ) (a b : List (ℕ × ℤ)) → Ascends least a → Ascends least b → Ascends least (pairs_plus a b)
Ascends-plus least [] b h k = k
Ascends-plus least (p ∷ a) b h k = Ascends-with_pair least p.0 p.1 (pairs_plus a b) h.0 (Ascends-plus least a b (less least p.0 a (omega (arith, h.0)) h.2) k)

-- ---- the sum of two lists, from the front

second_first : (m : ℕ) (d : ℤ) (a b : List (ℕ × ℤ)) → Ascends m a → pairs_plus a ((m, d) ∷ b) ≡ (m, d) ∷ pairs_plus a b
second_first m d [] b h = refl
second_first m d (p ∷ a) b h = ap (with_pair p.0 p.1) (second_first m d a b (less m p.0 a (omega (arith, h.0)) h.2)) ∙ behind p.0 p.1 m d (pairs_plus a b) h.0

one_alone : (least : ℕ) (a : List (ℕ × ℤ)) → Ascends least a → pairs_plus a [] ≡ a
one_alone least [] h = refl
one_alone least (p ∷ a) h = ap (with_pair p.0 p.1) (one_alone p.0 a h.2) ∙ in_front p.0 p.1 a h.2 ∙ rw h.1 refl

kept-nonzero : (p : ℕ × ℤ) (pairs : List (ℕ × ℤ)) → int_eq p.1 (pos 0) ≡ false → p ∷ pairs ≡ kept p.0 p.1 pairs
kept-nonzero p pairs h = rw h refl

pub next-left : (left right a b : List (ℕ × ℤ)) (p q : ℕ × ℤ) → left ≡ p ∷ a → right ≡ q ∷ b → IsTrue (rises_above 0 left) → IsTrue (rises_above 0 right) → p.0 < q.0 → IsNextPair left right p a right
next-left left right a b p q l r h k lt =
    let rises : IsTrue (rises_above 0 (p ∷ a)) = rw l at h in
    let x = ascends 0 (p ∷ a) rises in
    let y = ascends 0 (q ∷ b) (rw r at k) in
    record {
      sum = rw l (rw r (in_front p.0 p.1 (pairs_plus a (q ∷ b)) (Ascends-plus p.0 a (q ∷ b) x.2 (lt, y.1, y.2))));
      left_rises = rises-rest 0 p a rises;
      right_rises = k;
      fewer = rw l (omega arith);
    }

pub next-right : (left right a b : List (ℕ × ℤ)) (p q : ℕ × ℤ) → left ≡ p ∷ a → right ≡ q ∷ b → IsTrue (rises_above 0 left) → IsTrue (rises_above 0 right) → q.0 < p.0 → IsNextPair left right q left b
next-right left right a b p q l r h k lt =
    let rises : IsTrue (rises_above 0 (q ∷ b)) = rw r at k in
    let x = ascends 0 (p ∷ a) (rw l at h) in
    let y = ascends 0 (q ∷ b) rises in
    record {
      sum = rw l (rw r (second_first q.0 q.1 (p ∷ a) b (lt, x.1, x.2) ∙ kept-nonzero q (pairs_plus (p ∷ a) b) y.1));
      left_rises = h;
      right_rises = rises-rest 0 q b rises;
      fewer = rw r (omega arith);
    }

pub next-both : (left right a b : List (ℕ × ℤ)) (p q : ℕ × ℤ) → left ≡ p ∷ a → right ≡ q ∷ b → IsTrue (rises_above 0 left) → IsTrue (rises_above 0 right) → p.0 ≡ q.0 → IsNextPair left right (p.0, p.1 +ℤ q.1) a b
next-both left right a b p q l r h k same =
    let l_rises : IsTrue (rises_above 0 (p ∷ a)) = rw l at h in
    let r_rises : IsTrue (rises_above 0 (q ∷ b)) = rw r at k in
    let x = ascends 0 (p ∷ a) l_rises in
    let not_below : nat_lt p.0 q.0 ≡ false = grind (arith, nat_tests) in
    let equal : (p.0 == q.0) ≡ true = grind (arith, nat_tests) in
    record {
      sum = rw l (rw r (ap (with_pair p.0 p.1) (second_first q.0 q.1 a b (less q.0 p.0 a (omega arith) x.2)) ∙ rw not_below (rw equal refl)));
      left_rises = rises-rest 0 p a l_rises;
      right_rises = rises-rest 0 q b r_rises;
      fewer = rw l (rw r (omega arith));
    }

pub next-left_alone : (left right a : List (ℕ × ℤ)) (p : ℕ × ℤ) → left ≡ p ∷ a → right ≡ [] → IsTrue (rises_above 0 left) → IsNextPair left right p a right
next-left_alone left right a p l r h =
    let rises : IsTrue (rises_above 0 (p ∷ a)) = rw l at h in
    let x = ascends 0 (p ∷ a) rises in
    record {
      sum = rw l (rw r (one_alone 0 (p ∷ a) x ∙ kept-nonzero p a x.1 ∙ ap (kept p.0 p.1) (sym (one_alone p.0 a x.2))));
      left_rises = rises-rest 0 p a rises;
      right_rises = rw r refl;
      fewer = rw l (omega arith);
    }

pub next-right_alone : (left right b : List (ℕ × ℤ)) (q : ℕ × ℤ) → left ≡ [] → right ≡ q ∷ b → IsTrue (rises_above 0 right) → IsNextPair left right q left b
next-right_alone left right b q l r k =
    let rises : IsTrue (rises_above 0 (q ∷ b)) = rw r at k in
    record {
      sum = rw l (rw r (kept-nonzero q b (ascends 0 (q ∷ b) rises).1));
      left_rises = rw l refl;
      right_rises = rises-rest 0 q b rises;
      fewer = rw r (omega arith);
    }

-- ---- at the end of what is there

pub kept-append : (n : ℕ) (c : ℤ) (pairs : List (ℕ × ℤ)) → kept n c [] ++ pairs ≡ kept n c pairs
kept-append n c pairs = by_zero (int_eq c (pos 0)) refl
  where
    by_zero : (b : Bool) → int_eq c (pos 0) ≡ b → kept n c [] ++ pairs ≡ kept n c pairs
    by_zero true e = rw e refl
    by_zero false e = rw e refl

pub times-drop : (z : ℤ) (pairs : List (ℕ × ℤ)) (i : ℕ) (d : ℕ × ℤ) → i < length pairs →
    pairs_times z (drop i pairs) ≡ kept (get_or pairs i d).0 (z *ℤ (get_or pairs i d).1) [] ++ pairs_times z (drop (i + 1) pairs)
times-drop z pairs i d h =
    let p = get_or pairs i d in
    rw (add-one) (ap (pairs_times z) (drop-cons pairs i d h) ∙ sym (kept-append p.0 (z *ℤ p.1) (pairs_times z (drop (suc i) pairs))))

pub multiple_step : (z : ℤ) (pairs front front' : List (ℕ × ℤ)) (i : ℕ) (d : ℕ × ℤ) (v : ℤ) → i < length pairs → front ++ pairs_times z (drop i pairs) ≡ pairs_times z pairs → v ≡ z *ℤ (get_or pairs i d).1
    → front' ≡ front ++ kept (get_or pairs i d).0 v [] → front' ++ pairs_times z (drop (i + 1) pairs) ≡ pairs_times z pairs
multiple_step z pairs front front' i d v lt so_far product more =
    let p = get_or pairs i d in
    let rest = pairs_times z (drop (i + 1) pairs) in
    ap (λ xs. xs ++ rest) (more ∙ ap (λ y. front ++ kept p.0 y []) product) ∙ append_assoc front (kept p.0 (z *ℤ p.1) []) rest ∙ ap (λ xs. front ++ xs) (sym (times-drop z pairs i d lt)) ∙ so_far

-- a multiple of pairs that ascend ascends
pub Ascends-times : (least : ℕ) (z : ℤ) (pairs : List (ℕ × ℤ)) → Ascends least pairs → Ascends least (pairs_times z pairs)
Ascends-times least z [] h = tt
Ascends-times least z (p ∷ pairs) h = Ascends-kept least p.0 (z *ℤ p.1) (pairs_times z pairs) h.0 (Ascends-times p.0 z pairs h.2)
