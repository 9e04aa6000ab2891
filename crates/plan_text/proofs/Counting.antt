-- Stops within numbered items, and in front of them.
use Rattle.std.proofs.Common.{◌≡◌, ℕ, zero, suc, ◌+◌, ◌-◌, ◌<◌, Bool, true, ◌&&◌, List, [], ◌∷◌, ◌++◌, length, refl, sym, ap, ◌∙◌, append_assoc, length-append, arith}
use Rattle.std.specs.List.{list_all}
use Rattle.std.specs.Prelude.{replicate}
use Rattle.std.proofs.lemmas.Bool.{and_from, and_parts}
use Rattle.std.proofs.lemmas.List.{append_cancel_left, length-replicate}
use Rattle.std.proofs.lemmas.List.Concat.{flat_map-append}
use Rattle.std.proofs.lemmas.List.Folds.{list_all-append}
use Rattle.plan_text.specs.PlanText.{numbered, text_of}
use Rattle.plan_text.specs.Stops.{AreItems, Stops}
use Rattle.plan_text.proofs.Stopping.{IsFree, alien_front}

all-replicate : {X : Type 0} (shown : X → Bool) (n : ℕ) (x : X) → shown x ≡ true → list_all shown (replicate n x) ≡ true
all-replicate shown zero x h = refl
all-replicate shown (suc n) x h = and_from (shown x) (list_all shown (replicate n x)) h (all-replicate shown n x h)

module _ {X : Type 0} (lines : ℕ → X → List (List ℕ)) (shown : X → Bool) where
  pub numbered-append : (k : ℕ) (xs ys : List X) → numbered lines k (xs ++ ys) ≡ numbered lines k xs ++ numbered lines (k + length xs) ys
  numbered-append k [] ys = let none : k ≡ k + 0 = omega arith in ap (λ n. numbered lines n ys) none
  numbered-append k (x ∷ xs) ys =
      let next : suc k + length xs ≡ k + suc (length xs) = omega arith in
      ap (λ r. lines k x ++ r) (numbered-append (suc k) xs ys ∙ ap (λ n. numbered lines (suc k) xs ++ numbered lines n ys) next)
      ∙ sym (append_assoc (lines k x) (numbered lines (suc k) xs) (numbered lines (k + length (x ∷ xs)) ys))

  module _ (free : (k : ℕ) → IsFree (lines k) (λ x. shown x ≡ true)) where
    -- so many items have lines of their own
    pub items-free : (k : ℕ) (xs ys : List X) (r s : List (List ℕ)) → length xs ≡ length ys → list_all shown xs ≡ true → list_all shown ys ≡ true → numbered lines k xs ++ r ≡ numbered lines k ys ++ s → xs ≡ ys
    items-free k [] [] r s long h h' e = refl
    items-free k [] (y ∷ ys) r s long h h' e = absurd (omega arith)
    items-free k (x ∷ xs) [] r s long h h' e = absurd (omega arith)
    items-free k (x ∷ xs) (y ∷ ys) r s long h h' e =
        let good = and_parts (shown x) (list_all shown xs) h in
        let good' = and_parts (shown y) (list_all shown ys) h' in
        let both = sym (append_assoc (lines k x) (numbered lines (suc k) xs) r) ∙ e ∙ append_assoc (lines k y) (numbered lines (suc k) ys) s in
        let first = free k x y (numbered lines (suc k) xs ++ r) (numbered lines (suc k) ys ++ s) good.0 good'.0 both in
        let rest = append_cancel_left (lines k y) (numbered lines (suc k) xs ++ r) (numbered lines (suc k) ys ++ s) (ap (λ z. lines k z ++ (numbered lines (suc k) xs ++ r)) (sym first) ∙ both) in
        ap (λ z. z ∷ xs) first ∙ ap (λ zs. y ∷ zs) (items-free (suc k) xs ys r s (omega arith) good.1 good'.1 rest)

    -- longer items whose lines begin with those of these have one more behind these
    peeled : (k : ℕ) (xs ys : List X) (tail : List (List ℕ)) → length xs < length ys → list_all shown xs ≡ true → list_all shown ys ≡ true → numbered lines k ys ≡ numbered lines k xs ++ tail →
        (y : X) × (shown y ≡ true) × ((zs : List X) × (lines (k + length xs) y ++ numbered lines (suc (k + length xs)) zs ≡ tail))
    peeled k xs [] tail short h h' e = absurd (omega arith)
    peeled k [] (y ∷ ys) tail short h h' e =
        let good = and_parts (shown y) (list_all shown ys) h' in
        let none : k + 0 ≡ k = omega arith in
        (y, good.0, (ys, ap (λ n. lines n y ++ numbered lines (suc n) ys) none ∙ e))
    peeled k (x ∷ xs) (y ∷ ys) tail short h h' e =
        let good = and_parts (shown x) (list_all shown xs) h in
        let good' = and_parts (shown y) (list_all shown ys) h' in
        let both = e ∙ append_assoc (lines k x) (numbered lines (suc k) xs) tail in
        let first = free k y x (numbered lines (suc k) ys) (numbered lines (suc k) xs ++ tail) good'.0 good.0 both in
        let rest = append_cancel_left (lines k x) (numbered lines (suc k) ys) (numbered lines (suc k) xs ++ tail) (ap (λ z. lines k z ++ numbered lines (suc k) ys) (sym first) ∙ both) in
        let found = peeled (suc k) xs ys tail (omega arith) good.1 good'.1 rest in
        let next : suc k + length xs ≡ k + suc (length xs) = omega arith in
        (found.0, found.1, (found.2.0, ap (λ n. lines n found.0 ++ numbered lines (suc n) found.2.0) (sym next) ∙ found.2.1))

    -- a stop in the next item
    pub stops_item : (d : X) → shown d ≡ true → (count : ℕ) (xs : List X) (rest later : List ℕ) (taken n : ℕ) → length xs < count → list_all shown xs ≡ true → rest ≡ text_of (numbered lines 1 xs) ++ later →
        Stops (lines (1 + length xs)) (λ x. shown x ≡ true) later (taken + length (numbered lines 1 xs)) n → Stops (numbered lines 1) (AreItems shown count) rest taken n
    stops_item d good count xs rest later taken n short h is s =
        let left = count - suc (length xs) in
        let all = xs ++ s.whole ∷ replicate left d in
        let long : length all ≡ count = omega (arith, length-append xs (s.whole ∷ replicate left d), length-replicate left d) in
        let fine = list_all-append shown xs (s.whole ∷ replicate left d) ∙ and_from (list_all shown xs) (shown s.whole && list_all shown (replicate left d)) h (and_from (shown s.whole) (list_all shown (replicate left d)) s.shown (all-replicate shown left d good)) in
        record {
          front = numbered lines 1 xs ++ s.front;
          behind = s.behind;
          cut = is ∙ ap (λ b. text_of (numbered lines 1 xs) ++ b) s.cut ∙ sym (append_assoc (text_of (numbered lines 1 xs)) (text_of s.front) s.behind) ∙ ap (λ t. t ++ s.behind) (sym (flat_map-append (λ l. l ++ 10 ∷ []) (numbered lines 1 xs) s.front));
          count = omega (arith, length-append (numbered lines 1 xs) s.front, s.count);
          whole = all;
          shown = (long, fine);
          next = s.next;
          more = s.more ++ numbered lines (suc (1 + length xs)) (replicate left d);
          opened = numbered-append 1 xs (s.whole ∷ replicate left d)
              ∙ ap (λ ls. numbered lines 1 xs ++ (ls ++ numbered lines (suc (1 + length xs)) (replicate left d))) s.opened
              ∙ ap (λ ls. numbered lines 1 xs ++ ls) (append_assoc s.front (s.next ∷ s.more) (numbered lines (suc (1 + length xs)) (replicate left d)))
              ∙ sym (append_assoc (numbered lines 1 xs) s.front (s.next ∷ (s.more ++ numbered lines (suc (1 + length xs)) (replicate left d))));
          alien = λ ys line later' after good' e cut.
              let found = peeled 1 xs ys (s.front ++ line ∷ later') (omega (arith, good'.0)) h good'.1 (e ∙ append_assoc (numbered lines 1 xs) s.front (line ∷ later')) in
              alien_front (lines (1 + length xs)) (λ x. shown x ≡ true) (free (1 + length xs)) later (taken + length (numbered lines 1 xs)) n s found.0 (numbered lines (suc (1 + length xs)) found.2.0) line later' after found.1 found.2.1 cut;
        }
