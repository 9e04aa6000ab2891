-- Where each processor has its own cells for privates and sum scalars, a phase comes to the same.
use Rattle.std.proofs.Common.{◌≡◌, ◌≢◌, ◌==◌, ℕ, zero, suc, ◌<◌, ◌≤◌, ◌⊎◌, ℤ, pos, ◌+ℤ◌, Bool, true, false, true≢false, List, [], ◌∷◌, ◌++◌, map, Option, Some, None, refl, ap, sym, subst, ◌∙◌, inl, inr, arith, if◌then◌else◌}
use Rattle.std.specs.Int.{int_wrap, w64}
use Rattle.std.specs.List.{AllByRecursion}
use Rattle.std.specs.Option.{option_map}
use Rattle.std.proofs.lemmas.Bool.{cases_Bool, cases_eq, eq-eqb, eqb-true}
use Rattle.std.proofs.lemmas.Int.{ints, int_wrap-add_left, int_wrap-add_right}
use Rattle.std.proofs.lemmas.List.{length-map, map-append}
use Rattle.list_lemmas.proofs.Each.{all_split}
use Rattle.spmd_model.specs.Cells.{changed, plus}
use Rattle.spmd_model.specs.Timelines.{Job}
use Rattle.spmd_model.specs.OwnPhases.{AreApart, Come, IsGoodLoad, IsSumJob, Own, adds_total, at_slot, behind_job, behind_store, clears, keeps_private, own_cell, own_job, put, sum_up, without}
use Rattle.spmd_model.proofs.LastValues.{plus-swap}

pub put_here : {X : Type 0} (f : ℕ → X) (c : ℕ) (v : X) → put f c v c ≡ v
put_here f c v = ap (λ b. if b then v else f c) (eq-eqb c c refl)

pub put_other : {X : Type 0} (f : ℕ → X) (c x : ℕ) (v : X) → c ≢ x → put f c v x ≡ f x
put_other f c x v apart = elim (cases_Bool (c == x)) [
  | inl same ↦ absurd (apart (eqb-true c x same))
  | inr other ↦ ap (λ b. if b then v else f x) other
]

-- a sum of sums
plus_behind : (x a : ℤ) → plus x (plus (pos 0) a) ≡ plus x a
plus_behind x a = int_wrap-add_right w64 x (pos 0 +ℤ a) ∙ ap (λ y. int_wrap w64 (x +ℤ y)) zero_first
  where
    zero_first : pos 0 +ℤ a ≡ a
    zero_first = omega (arith, ints)

plus_nested : (x y a : ℤ) → plus x (plus y a) ≡ plus (plus x y) a
plus_nested x y a = int_wrap-add_right w64 x (y +ℤ a) ∙ ap (int_wrap w64) moved ∙ sym (int_wrap-add_left w64 (x +ℤ y) a)
  where
    moved : x +ℤ (y +ℤ a) ≡ (x +ℤ y) +ℤ a
    moved = omega (arith, ints)

-- a sum over processors, of which none has changed
sum_same : (o : Own) (f g : ℕ → ℤ) (k : ℕ) (b : ℕ → Bool) (x : ℤ) (n : ℕ) → ((p : ℕ) → p < n → f (o.cell p k) ≡ g (o.cell p k)) → sum_up o f k b x n ≡ sum_up o g k b x n
sum_same o f g k b x zero same = refl
sum_same o f g k b x (suc n) same =
    ap (λ y. if b n then plus y (f (o.cell n k)) else y) (sum_same o f g k b x n (λ p lt. same p (omega (arith, lt)))) ∙ ap (λ y. if b n then plus (sum_up o g k b x n) y else sum_up o g k b x n) (same n (omega arith))

-- in front of a processor that has changed, nothing has
sum_before : (o : Own) (f g : ℕ → ℤ) (k : ℕ) (b c : ℕ → Bool) (x : ℤ) (p n : ℕ) → n ≤ p → ((q : ℕ) → q ≢ p → (c q ≡ b q) × (g (o.cell q k) ≡ f (o.cell q k))) → sum_up o g k c x n ≡ sum_up o f k b x n
sum_before o f g k b c x p zero le others = refl
sum_before o f g k b c x p (suc n) le others =
    let other = others n (λ e. omega (arith, e, le)) in
    ap (λ y. if y then plus (sum_up o g k c x n) (g (o.cell n k)) else sum_up o g k c x n) other.0
    ∙ ap (λ y. if b n then plus (sum_up o g k c x n) y else sum_up o g k c x n) other.1
    ∙ ap (λ y. if b n then plus y (f (o.cell n k)) else y) (sum_before o f g k b c x p n (omega (arith, le)) others)

-- one processor adds an amount to what it has, of which there was none before it assigned
sum_more : (o : Own) (f g : ℕ → ℤ) (k : ℕ) (b c : ℕ → Bool) (x a : ℤ) (p n : ℕ) → p < n → c p ≡ true → g (o.cell p k) ≡ plus (f (o.cell p k)) a → (b p ≡ false → f (o.cell p k) ≡ pos 0) →
    ((q : ℕ) → q ≢ p → (c q ≡ b q) × (g (o.cell q k) ≡ f (o.cell q k))) → sum_up o g k c x n ≡ plus (sum_up o f k b x n) a
sum_more o f g k b c x a p zero lt now here none others = absurd (omega (arith, lt))
sum_more o f g k b c x a p (suc n) lt now here none others = elim (cases_eq p n) [
  | inl is ↦ subst (λ m. sum_up o g k c x (suc m) ≡ plus (sum_up o f k b x (suc m)) a) is at_last
  | inr ne ↦
      let before = sum_more o f g k b c x a p n (omega (arith, lt, ne)) now here none others in
      let other = others n (λ e. ne (sym e)) in
      ap (λ y. if y then plus (sum_up o g k c x n) (g (o.cell n k)) else sum_up o g k c x n) other.0
      ∙ ap (λ y. if b n then plus (sum_up o g k c x n) y else sum_up o g k c x n) other.1
      ∙ ap (λ y. if b n then plus y (f (o.cell n k)) else y) before
      ∙ by (b n)
]
  where
    by : (d : Bool) → (if d then plus (plus (sum_up o f k b x n) a) (f (o.cell n k)) else plus (sum_up o f k b x n) a) ≡ plus (if d then plus (sum_up o f k b x n) (f (o.cell n k)) else sum_up o f k b x n) a
    by true = plus-swap (sum_up o f k b x n) a (f (o.cell n k))
    by false = refl

    at_last : sum_up o g k c x (suc p) ≡ plus (sum_up o f k b x (suc p)) a
    at_last =
        ap (λ y. if y then plus (sum_up o g k c x p) (g (o.cell p k)) else sum_up o g k c x p) now
        ∙ ap (λ y. plus (sum_up o g k c x p) y) here
        ∙ ap (λ y. plus y (plus (f (o.cell p k)) a)) (sum_before o f g k b c x p p (omega arith) others)
        ∙ had (b p) refl
      where
        had : (d : Bool) → b p ≡ d → plus (sum_up o f k b x p) (plus (f (o.cell p k)) a) ≡ plus (if b p then plus (sum_up o f k b x p) (f (o.cell p k)) else sum_up o f k b x p) a
        had true is = plus_nested (sum_up o f k b x p) (f (o.cell p k)) a ∙ ap (λ y. plus (if y then plus (sum_up o f k b x p) (f (o.cell p k)) else sum_up o f k b x p) a) (sym is)
        had false is = ap (λ y. plus (sum_up o f k b x p) (plus y a)) (none is) ∙ plus_behind (sum_up o f k b x p) a ∙ ap (λ y. plus (if y then plus (sum_up o f k b x p) (f (o.cell p k)) else sum_up o f k b x p) a) (sym is)

-- ---- what loads give

module _ (o : Own) (apart : AreApart o) (m f : ℕ → ℤ) (last : ℕ → Option ℕ) (assigned : ℕ → ℕ → Bool) (come : Come o m f last assigned) where
  pub load_gives : (p c : ℕ) → IsGoodLoad o last p c → f (own_cell o p c) ≡ m c
  load_gives p c good = by (o.slot c) refl good.1
    where
      by : (s : Option ℕ) → o.slot c ≡ s → (o.slot c ≡ None) ⊎ ((o.is_sum c ≡ false) × (last c ≡ Some p)) → f (own_cell o p c) ≡ m c
      by None is h = ap (λ s. f (at_slot o p c s)) is ∙ come.plain c good.0 is
      by (Some k) is (inl none) = let clash : None ≡ Some k = sym none ∙ is in absurd cc
      by (Some k) is (inr h) = ap (λ s. f (at_slot o p c s)) is ∙ come.kept c k p is h.0 h.1

  pub loads_give : (p : ℕ) (cs : List ℕ) → AllByRecursion (IsGoodLoad o last p) cs → map f (map (own_cell o p) cs) ≡ map m cs
  loads_give p [] good = refl
  loads_give p (c ∷ cs) good = ap (λ v. v ∷ map f (map (own_cell o p) cs)) (load_gives p c good.0) ∙ ap (λ vs. m c ∷ vs) (loads_give p cs good.1)

  -- ---- a store to a shared cell that is no own scalar

  module _ (j : Job) (good : AllByRecursion (IsGoodLoad o last j.owner) j.loads) (plain : j.adds ≡ false) (c : ℕ) (store : j.store ≡ Some c) (inside : c < o.shared) where
    abbrev value : ℤ
    value = j.assigned (map m j.loads)

    memory_is : behind_job m j ≡ put m c (j.assigned (map m j.loads))
    memory_is = ap (λ s. behind_store m s j.adds (j.assigned (map m j.loads))) store ∙ ap (λ b. put m c (changed b (m c) (j.assigned (map m j.loads)))) plain

    own_is : behind_job f (own_job o j) ≡ put f (own_cell o j.owner c) (j.assigned (map m j.loads))
    own_is =
        ap (λ s. behind_store f (option_map (own_cell o j.owner) s) j.adds (j.assigned (map f (map (own_cell o j.owner) j.loads)))) store
        ∙ ap (λ b. put f (own_cell o j.owner c) (changed b (f (own_cell o j.owner c)) (j.assigned (map f (map (own_cell o j.owner) j.loads))))) plain
        ∙ ap (λ vs. put f (own_cell o j.owner c) (j.assigned vs)) (loads_give j.owner j.loads good)

    pub by_shared_store : o.slot c ≡ None → Come o (behind_job m j) (behind_job f (own_job o j)) last assigned
    by_shared_store none =
        subst (λ g. Come o g (behind_job f (own_job o j)) last assigned) (sym memory_is)
        (subst (λ g. Come o (put m c (j.assigned (map m j.loads))) g last assigned) (sym (own_is ∙ ap (λ s. put f (at_slot o j.owner c s) (j.assigned (map m j.loads))) none)) (stored (j.assigned (map m j.loads))))
      where
        no_own : (p k : ℕ) → c ≢ o.cell p k
        no_own p k e = apart.behind p k c inside (sym e)

        no_slot : (d k : ℕ) → o.slot d ≡ Some k → c ≢ d
        no_slot d k is e = let clash : None ≡ Some k = sym none ∙ ap o.slot e ∙ is in cc

        stored : (v : ℤ) → Come o (put m c v) (put f c v) last assigned
        stored v = record {
          plain = λ d lt is. elim (cases_Bool (c == d)) [
            | inl same ↦ ap (λ b. if b then v else f d) same ∙ sym (ap (λ b. if b then v else m d) same)
            | inr other ↦ ap (λ b. if b then v else f d) other ∙ come.plain d lt is ∙ sym (ap (λ b. if b then v else m d) other)
          ];
          kept = λ d k p is sum l. put_other f c (o.cell p k) v (no_own p k) ∙ come.kept d k p is sum l ∙ sym (put_other m c d v (no_slot d k is));
          summed = λ d k is sum. put_other m c d v (no_slot d k is) ∙ come.summed d k is sum ∙ ap (λ x. sum_up o f k (assigned d) x o.workers) (sym (put_other f c d v (no_slot d k is)))
              ∙ sum_same o f (put f c v) k (assigned d) (put f c v d) o.workers (λ p lt. sym (put_other f c (o.cell p k) v (no_own p k)));
          empty = λ d k p is sum not_yet. put_other f c (o.cell p k) v (no_own p k) ∙ come.empty d k p is sum not_yet;
        }

    -- a store to a private
    pub by_private_store : (k : ℕ) → o.slot c ≡ Some k → o.is_sum c ≡ false → Come o (behind_job m j) (behind_job f (own_job o j)) (put last c (Some j.owner)) assigned
    by_private_store k slot private =
        subst (λ g. Come o g (behind_job f (own_job o j)) (put last c (Some j.owner)) assigned) (sym memory_is)
        (subst (λ g. Come o (put m c (j.assigned (map m j.loads))) g (put last c (Some j.owner)) assigned) (sym (own_is ∙ ap (λ s. put f (at_slot o j.owner c s) (j.assigned (map m j.loads))) slot)) (stored (j.assigned (map m j.loads))))
      where
        shared_apart : (d : ℕ) → d < o.shared → o.cell j.owner k ≢ d
        shared_apart d lt e = apart.behind j.owner k d lt e

        other_slot : (d l : ℕ) → o.slot d ≡ Some l → c ≢ d → (p : ℕ) → o.cell j.owner k ≢ o.cell p l
        other_slot d l is ne p e = ne (apart.place c d k slot (is ∙ ap Some (sym (apart.one c d k l slot is j.owner p e).1)))

        no_sum : (d l : ℕ) → o.slot d ≡ Some l → o.is_sum d ≡ true → c ≢ d
        no_sum d l is sum e = true≢false (sym sum ∙ ap o.is_sum (sym e) ∙ private)

        stored : (v : ℤ) → Come o (put m c v) (put f (o.cell j.owner k) v) (put last c (Some j.owner)) assigned
        stored v = record {
          plain = λ d lt is. put_other f (o.cell j.owner k) d v (shared_apart d lt) ∙ come.plain d lt is ∙ sym (put_other m c d v (λ e. absurd (clash d is e)));
          kept = λ d l p is sum h. elim (cases_eq c d) [
            | inl same ↦ mine d l p is (sym same) h
            | inr ne ↦ put_other f (o.cell j.owner k) (o.cell p l) v (other_slot d l is ne p) ∙ come.kept d l p is sum (sym (put_other last c d (Some j.owner) ne) ∙ h) ∙ sym (put_other m c d v ne)
          ];
          summed = λ d l is sum. put_other m c d v (no_sum d l is sum) ∙ come.summed d l is sum ∙ ap (λ x. sum_up o f l (assigned d) x o.workers) (sym (put_other f (o.cell j.owner k) d v (shared_apart d (apart.there d l is))))
              ∙ sum_same o f (put f (o.cell j.owner k) v) l (assigned d) (put f (o.cell j.owner k) v d) o.workers (λ p lt. sym (put_other f (o.cell j.owner k) (o.cell p l) v (other_slot d l is (no_sum d l is sum) p)));
          empty = λ d l p is sum not_yet. put_other f (o.cell j.owner k) (o.cell p l) v (other_slot d l is (no_sum d l is sum) p) ∙ come.empty d l p is sum not_yet;
        }
          where
            clash : (d : ℕ) → o.slot d ≡ None → c ≡ d → ⊥
            clash d is e = let none : None ≡ Some k = sym is ∙ ap o.slot (sym e) ∙ slot in cc

            mine : (d l p : ℕ) → o.slot d ≡ Some l → d ≡ c → put last c (Some j.owner) d ≡ Some p → put f (o.cell j.owner k) v (o.cell p l) ≡ put m c v d
            mine d l p is same h =
                let owner : Some j.owner ≡ Some p = sym (put_here last c (Some j.owner)) ∙ ap (put last c (Some j.owner)) (sym same) ∙ h in
                let own : j.owner ≡ p = cc in
                let places : Some k ≡ Some l = sym slot ∙ ap o.slot (sym same) ∙ is in
                let place : k ≡ l = cc in
                ap (λ q. put f (o.cell j.owner k) v (o.cell q l)) (sym own) ∙ ap (λ n. put f (o.cell j.owner k) v (o.cell j.owner n)) (sym place) ∙ put_here f (o.cell j.owner k) v ∙ sym (ap (put m c v) same ∙ put_here m c v)

  -- ---- an assignment to a sum scalar

  pub by_sum : (j : Job) (c k : ℕ) → (s : IsSumJob o j c k) → j.adds ≡ false → j.owner < o.workers → AllByRecursion (IsGoodLoad o last j.owner) (s.front ++ s.rest) →
      Come o (behind_job m j) (behind_job f (own_job o j)) last (put assigned c (put (assigned c) j.owner true))
  by_sum j c k s plain worker good =
      subst (λ g. Come o g (behind_job f (own_job o j)) last (put assigned c (put (assigned c) j.owner true))) (sym memory_is)
      (subst (λ g. Come o (put m c (plus (m c) a)) g last (put assigned c (put (assigned c) j.owner true))) (sym own_is) stored)
    where
      a : ℤ
      a = s.amount (map m s.front) (map m s.rest)

      own : ℕ
      own = o.cell j.owner k

      memory_is : behind_job m j ≡ put m c (plus (m c) (s.amount (map m s.front) (map m s.rest)))
      memory_is = ap (λ x. behind_store m x j.adds (j.assigned (map m j.loads))) s.store ∙ ap (λ b. put m c (changed b (m c) (j.assigned (map m j.loads)))) plain ∙ ap (λ ls. put m c (j.assigned (map m ls))) s.loads ∙ ap (λ vs. put m c (j.assigned vs)) (map-append m s.front (c ∷ s.rest)) ∙ ap (put m c) (s.adds (map m s.front) (m c) (map m s.rest) (length-map s.front m))

      split_good : AllByRecursion (IsGoodLoad o last j.owner) s.front × AllByRecursion (IsGoodLoad o last j.owner) s.rest
      split_good = all_split (IsGoodLoad o last j.owner) s.front s.rest good

      loaded : map f (map (own_cell o j.owner) j.loads) ≡ map m s.front ++ f (own_cell o j.owner c) ∷ map m s.rest
      loaded =
          ap (λ ls. map f (map (own_cell o j.owner) ls)) s.loads
          ∙ ap (map f) (map-append (own_cell o j.owner) s.front (c ∷ s.rest))
          ∙ map-append f (map (own_cell o j.owner) s.front) (map (own_cell o j.owner) (c ∷ s.rest))
          ∙ ap (λ us. us ++ f (own_cell o j.owner c) ∷ map f (map (own_cell o j.owner) s.rest)) (loads_give j.owner s.front split_good.0)
          ∙ ap (λ vs. map m s.front ++ f (own_cell o j.owner c) ∷ vs) (loads_give j.owner s.rest split_good.1)

      own_is : behind_job f (own_job o j) ≡ put f (o.cell j.owner k) (plus (f (o.cell j.owner k)) (s.amount (map m s.front) (map m s.rest)))
      own_is =
          ap (λ x. behind_store f (option_map (own_cell o j.owner) x) j.adds (j.assigned (map f (map (own_cell o j.owner) j.loads)))) s.store
          ∙ ap (λ b. put f (own_cell o j.owner c) (changed b (f (own_cell o j.owner c)) (j.assigned (map f (map (own_cell o j.owner) j.loads))))) plain
          ∙ ap (λ vs. put f (own_cell o j.owner c) (j.assigned vs)) loaded
          ∙ ap (λ x. put f (own_cell o j.owner c) x) (s.adds (map m s.front) (f (own_cell o j.owner c)) (map m s.rest) (length-map s.front m))
          ∙ ap (λ x. put f (at_slot o j.owner c x) (plus (f (at_slot o j.owner c x)) (s.amount (map m s.front) (map m s.rest)))) s.slot

      shared_apart : (d : ℕ) → d < o.shared → o.cell j.owner k ≢ d
      shared_apart d lt e = apart.behind j.owner k d lt e

      other_slot : (d l : ℕ) → o.slot d ≡ Some l → c ≢ d → (p : ℕ) → o.cell j.owner k ≢ o.cell p l
      other_slot d l is ne p e = ne (apart.place c d k s.slot (is ∙ ap Some (sym (apart.one c d k l s.slot is j.owner p e).1)))

      clash : (d : ℕ) → o.slot d ≡ None → c ≡ d → ⊥
      clash d is e = let none : None ≡ Some k = sym is ∙ ap o.slot (sym e) ∙ s.slot in cc

      no_private : (d : ℕ) → o.is_sum d ≡ false → c ≡ d → ⊥
      no_private d private e = true≢false (sym s.sum ∙ ap o.is_sum e ∙ private)

      same_place : (d l : ℕ) → o.slot d ≡ Some l → c ≡ d → k ≡ l
      same_place d l is e = let places : Some k ≡ Some l = sym s.slot ∙ ap o.slot e ∙ is in cc

      stored : Come o (put m c (plus (m c) (s.amount (map m s.front) (map m s.rest)))) (put f (o.cell j.owner k) (plus (f (o.cell j.owner k)) (s.amount (map m s.front) (map m s.rest)))) last (put assigned c (put (assigned c) j.owner true))
      stored =
          let v = plus (f (o.cell j.owner k)) (s.amount (map m s.front) (map m s.rest)) in
          let w = plus (m c) (s.amount (map m s.front) (map m s.rest)) in
          record {
            plain = λ d lt is. put_other f (o.cell j.owner k) d v (shared_apart d lt) ∙ come.plain d lt is ∙ sym (put_other m c d w (λ e. absurd (clash d is e)));
            kept = λ d l p is sum h. put_other f (o.cell j.owner k) (o.cell p l) v (other_slot d l is (λ e. absurd (no_private d sum e)) p) ∙ come.kept d l p is sum h ∙ sym (put_other m c d w (λ e. absurd (no_private d sum e)));
            summed = λ d l is sum. elim (cases_eq c d) [
              | inl same ↦ mine d l is same
              | inr ne ↦
                  put_other m c d w ne ∙ come.summed d l is sum ∙ ap (λ x. sum_up o f l (assigned d) x o.workers) (sym (put_other f (o.cell j.owner k) d v (shared_apart d (apart.there d l is))))
                  ∙ ap (λ b. sum_up o f l b (put f (o.cell j.owner k) v d) o.workers) (sym (put_other assigned c d (put (assigned c) j.owner true) ne))
                  ∙ sum_same o f (put f (o.cell j.owner k) v) l (put assigned c (put (assigned c) j.owner true) d) (put f (o.cell j.owner k) v d) o.workers (λ p lt. sym (put_other f (o.cell j.owner k) (o.cell p l) v (other_slot d l is ne p)))
            ];
            empty = λ d l p is sum not_yet. elim (cases_eq c d) [
              | inl same ↦ still d l p is sum same not_yet
              | inr ne ↦ put_other f (o.cell j.owner k) (o.cell p l) v (other_slot d l is ne p) ∙ come.empty d l p is sum (sym (ap (λ b. b p) (put_other assigned c d (put (assigned c) j.owner true) ne)) ∙ not_yet)
            ];
          }
        where
          now : (d : ℕ) → c ≡ d → put assigned c (put (assigned c) j.owner true) d ≡ put (assigned c) j.owner true
          now d same = ap (put assigned c (put (assigned c) j.owner true)) (sym same) ∙ put_here assigned c (put (assigned c) j.owner true)

          other_owner : (p : ℕ) → p ≢ j.owner → o.cell j.owner k ≢ o.cell p k
          other_owner p ne e = ne (sym (apart.one c c k k s.slot s.slot j.owner p e).0)

          mine : (d l : ℕ) → o.slot d ≡ Some l → c ≡ d → put m c (plus (m c) (s.amount (map m s.front) (map m s.rest))) d ≡ sum_up o (put f (o.cell j.owner k) (plus (f (o.cell j.owner k)) (s.amount (map m s.front) (map m s.rest)))) l (put assigned c (put (assigned c) j.owner true) d) (put f (o.cell j.owner k) (plus (f (o.cell j.owner k)) (s.amount (map m s.front) (map m s.rest))) d) o.workers
          mine d l is same =
              let amount = s.amount (map m s.front) (map m s.rest) in
              let v = plus (f (o.cell j.owner k)) amount in
              let g = put f (o.cell j.owner k) v in
              let place : k ≡ l = same_place d l is same in
              let more : sum_up o g k (put (assigned c) j.owner true) (f c) o.workers ≡ plus (sum_up o f k (assigned c) (f c) o.workers) amount =
              sum_more o f g k (assigned c) (put (assigned c) j.owner true) (f c) amount j.owner o.workers worker (put_here (assigned c) j.owner true) (put_here f (o.cell j.owner k) v) (λ none. come.empty c k j.owner s.slot s.sum none)
              (λ q ne. (put_other (assigned c) j.owner q true (λ e. ne (sym e)), put_other f (o.cell j.owner k) (o.cell q k) v (other_owner q ne))) in
              ap (put m c (plus (m c) amount)) (sym same) ∙ put_here m c (plus (m c) amount)
              ∙ ap (λ x. plus x amount) (come.summed c k s.slot s.sum) ∙ sym more
              ∙ ap (λ x. sum_up o g k (put (assigned c) j.owner true) x o.workers) (sym (put_other f (o.cell j.owner k) c v (shared_apart c (apart.there c k s.slot))) ∙ ap g same)
              ∙ ap (λ n. sum_up o g n (put (assigned c) j.owner true) (g d) o.workers) place
              ∙ ap (λ b. sum_up o g l b (g d) o.workers) (sym (now d same))

          still : (d l p : ℕ) → o.slot d ≡ Some l → o.is_sum d ≡ true → c ≡ d → put assigned c (put (assigned c) j.owner true) d p ≡ false → put f (o.cell j.owner k) (plus (f (o.cell j.owner k)) (s.amount (map m s.front) (map m s.rest))) (o.cell p l) ≡ pos 0
          still d l p is sum same not_yet =
              let v = plus (f (o.cell j.owner k)) (s.amount (map m s.front) (map m s.rest)) in
              let unassigned : put (assigned c) j.owner true p ≡ false = sym (ap (λ b. b p) (now d same)) ∙ not_yet in
              let ne : j.owner ≢ p = λ e. true≢false (sym (put_here (assigned c) j.owner true) ∙ ap (put (assigned c) j.owner true) e ∙ unassigned) in
              let place : k ≡ l = same_place d l is same in
              ap (λ n. put f (o.cell j.owner k) v (o.cell p n)) (sym place) ∙ put_other f (o.cell j.owner k) (o.cell p k) v (other_owner p (λ e. ne (sym e)))
              ∙ come.empty c k p s.slot s.sum (sym (put_other (assigned c) j.owner p true ne) ∙ unassigned)

-- ---- closings

sum_from : (o : Own) (f : ℕ → ℤ) (k : ℕ) (b : ℕ → Bool) (x a : ℤ) (n : ℕ) → sum_up o f k b (plus x a) n ≡ plus (sum_up o f k b x n) a
sum_from o f k b x a zero = refl
sum_from o f k b x a (suc n) = ap (λ y. if b n then plus y (f (o.cell n k)) else y) (sum_from o f k b x a n) ∙ by (b n)
  where
    by : (d : Bool) → (if d then plus (plus (sum_up o f k b x n) a) (f (o.cell n k)) else plus (sum_up o f k b x n) a) ≡ plus (if d then plus (sum_up o f k b x n) (f (o.cell n k)) else sum_up o f k b x n) a
    by true = plus-swap (sum_up o f k b x n) a (f (o.cell n k))
    by false = refl

-- one processor's share is taken out of the sum and stands in front of it
sum_moved : (o : Own) (f g : ℕ → ℤ) (k : ℕ) (b c : ℕ → Bool) (x : ℤ) (p n : ℕ) → p < n → b p ≡ true → c p ≡ false → ((q : ℕ) → q ≢ p → (c q ≡ b q) × (g (o.cell q k) ≡ f (o.cell q k))) →
    sum_up o g k c (plus x (f (o.cell p k))) n ≡ sum_up o f k b x n
sum_moved o f g k b c x p zero lt had now others = absurd (omega (arith, lt))
sum_moved o f g k b c x p (suc n) lt had now others = elim (cases_eq p n) [
  | inl is ↦ subst (λ m. sum_up o g k c (plus x (f (o.cell p k))) (suc m) ≡ sum_up o f k b x (suc m)) is at_last
  | inr ne ↦
      let other = others n (λ e. ne (sym e)) in
      ap (λ y. if y then plus (sum_up o g k c (plus x (f (o.cell p k))) n) (g (o.cell n k)) else sum_up o g k c (plus x (f (o.cell p k))) n) other.0
      ∙ ap (λ y. if b n then plus (sum_up o g k c (plus x (f (o.cell p k))) n) y else sum_up o g k c (plus x (f (o.cell p k))) n) other.1
      ∙ ap (λ y. if b n then plus y (f (o.cell n k)) else y) (sum_moved o f g k b c x p n (omega (arith, lt, ne)) had now others)
]
  where
    at_last : sum_up o g k c (plus x (f (o.cell p k))) (suc p) ≡ sum_up o f k b x (suc p)
    at_last =
        ap (λ y. if y then plus (sum_up o g k c (plus x (f (o.cell p k))) p) (g (o.cell p k)) else sum_up o g k c (plus x (f (o.cell p k))) p) now
        ∙ sum_before o f g k b c (plus x (f (o.cell p k))) p p (omega arith) others
        ∙ sum_from o f k b x (f (o.cell p k)) p
        ∙ sym (ap (λ y. if y then plus (sum_up o f k b x p) (f (o.cell p k)) else sum_up o f k b x p) had)

pub sum_none : (o : Own) (f : ℕ → ℤ) (k : ℕ) (b : ℕ → Bool) (x : ℤ) (n : ℕ) → ((p : ℕ) → p < n → b p ≡ false) → sum_up o f k b x n ≡ x
sum_none o f k b x zero none = refl
sum_none o f k b x (suc n) none = ap (λ y. if y then plus (sum_up o f k b x n) (f (o.cell n k)) else sum_up o f k b x n) (none n (omega arith)) ∙ sum_none o f k b x n (λ p lt. none p (omega (arith, lt)))

pub apart_without : (o : Own) (c : ℕ) → AreApart o → AreApart (without o c)
apart_without o c apart = record {
  behind = apart.behind;
  one = λ d e k l is is'. apart.one d e k l (had d k is) (had e l is');
  place = λ d e k is is'. apart.place d e k (had d k is) (had e k is');
  there = λ d k is. apart.there d k (had d k is);
}
  where
    had : (d k : ℕ) → put o.slot c None d ≡ Some k → o.slot d ≡ Some k
    had d k is = elim (cases_Bool (c == d)) [
      | inl same ↦ let clash : None ≡ Some k = sym (ap (λ b. if b then None else o.slot d) same) ∙ is in absurd cc
      | inr other ↦ sym (ap (λ b. if b then None else o.slot d) other) ∙ is
    ]

module _ (o : Own) (apart : AreApart o) (m f : ℕ → ℤ) (last : ℕ → Option ℕ) (assigned : ℕ → ℕ → Bool) (come : Come o m f last assigned) (c k : ℕ) (slot : o.slot c ≡ Some k) where
  had_slot : (d l : ℕ) → put o.slot c None d ≡ Some l → (c ≢ d) × (o.slot d ≡ Some l)
  had_slot d l is = elim (cases_eq c d) [
    | inl same ↦ let clash : None ≡ Some l = sym (put_here o.slot c None) ∙ ap (put o.slot c None) same ∙ is in absurd cc
    | inr ne ↦ (ne, sym (put_other o.slot c d None ne) ∙ is)
  ]

  no_own_here : (p l : ℕ) → c ≢ o.cell p l
  no_own_here p l e = apart.behind p l c (apart.there c k slot) (sym e)

  -- behind the store of a private's last trip it is no own scalar any more
  pub by_keep : (p : ℕ) (j : Job) → o.is_sum c ≡ false → last c ≡ Some p → keeps_private o c k p j → Come (without o c) m (behind_job f j) last assigned
  by_keep p j private by_p (owner, loads, store, plain, is_value) =
      subst (λ g. Come (without o c) m g last assigned) (sym job_is) stored
    where
      job_is : behind_job f j ≡ put f c (f (o.cell p k))
      job_is = ap (λ s. behind_store f s j.adds (j.assigned (map f j.loads))) store ∙ ap (λ b. put f c (changed b (f c) (j.assigned (map f j.loads)))) plain ∙ ap (λ ls. put f c (j.assigned (map f ls))) loads ∙ ap (put f c) (is_value (f (o.cell p k)))

      stored : Come (without o c) m (put f c (f (o.cell p k))) last assigned
      stored = record {
        plain = λ d lt is. elim (cases_eq c d) [
          | inl same ↦ ap (put f c (f (o.cell p k))) (sym same) ∙ put_here f c (f (o.cell p k)) ∙ come.kept c k p slot private by_p ∙ ap m same
          | inr ne ↦ put_other f c d (f (o.cell p k)) ne ∙ come.plain d lt (sym (put_other o.slot c d None ne) ∙ is)
        ];
        kept = λ d l q is sum h. put_other f c (o.cell q l) (f (o.cell p k)) (no_own_here q l) ∙ come.kept d l q (had_slot d l is).1 sum h;
        summed = λ d l is sum. come.summed d l (had_slot d l is).1 sum ∙ ap (λ x. sum_up o f l (assigned d) x o.workers) (sym (put_other f c d (f (o.cell p k)) (had_slot d l is).0))
            ∙ sum_same o f (put f c (f (o.cell p k))) l (assigned d) (put f c (f (o.cell p k)) d) o.workers (λ q lt. sym (put_other f c (o.cell q l) (f (o.cell p k)) (no_own_here q l)))
            ∙ unchanged (put f c (f (o.cell p k))) l (assigned d) (put f c (f (o.cell p k)) d) o.workers;
        empty = λ d l q is sum not_yet. put_other f c (o.cell q l) (f (o.cell p k)) (no_own_here q l) ∙ come.empty d l q (had_slot d l is).1 sum not_yet;
      }
        where
          unchanged : (g : ℕ → ℤ) (l : ℕ) (b : ℕ → Bool) (x : ℤ) (n : ℕ) → sum_up o g l b x n ≡ sum_up (without o c) g l b x n
          unchanged g l b x zero = refl
          unchanged g l b x (suc n) = ap (λ y. if b n then plus y (g (o.cell n l)) else y) (unchanged g l b x n)

  -- a processor that assigned a sum scalar adds its total, which is 0 from then on
  pub by_total : (p : ℕ) (i j : Job) → o.is_sum c ≡ true → p < o.workers → assigned c p ≡ true → adds_total o c k p i → clears o k p j → Come o m (behind_job (behind_job f i) j) last (put assigned c (put (assigned c) p false))
  by_total p i j sum worker by_p (owner, loads, store, adding, is_value) (owner', loads', store', plain, zero_is) =
      subst (λ g. Come o m g last (put assigned c (put (assigned c) p false))) (sym (ap (λ g. behind_job g j) first_is ∙ second_is)) added
    where
      first_is : behind_job f i ≡ put f c (plus (f c) (f (o.cell p k)))
      first_is = ap (λ s. behind_store f s i.adds (i.assigned (map f i.loads))) store ∙ ap (λ b. put f c (changed b (f c) (i.assigned (map f i.loads)))) adding ∙ ap (λ ls. put f c (plus (f c) (i.assigned (map f ls)))) loads ∙ ap (λ v. put f c (plus (f c) v)) (is_value (f (o.cell p k)))

      g : ℕ → ℤ
      g = put f c (plus (f c) (f (o.cell p k)))

      second_is : behind_job (put f c (plus (f c) (f (o.cell p k)))) j ≡ put (put f c (plus (f c) (f (o.cell p k)))) (o.cell p k) (pos 0)
      second_is =
          let h = put f c (plus (f c) (f (o.cell p k))) in
          ap (λ s. behind_store h s j.adds (j.assigned (map h j.loads))) store' ∙ ap (λ b. put h (o.cell p k) (changed b (h (o.cell p k)) (j.assigned (map h j.loads)))) plain ∙ ap (λ ls. put h (o.cell p k) (j.assigned (map h ls))) loads' ∙ ap (put h (o.cell p k)) zero_is

      added : Come o m (put (put f c (plus (f c) (f (o.cell p k)))) (o.cell p k) (pos 0)) last (put assigned c (put (assigned c) p false))
      added =
          let h = put f c (plus (f c) (f (o.cell p k))) in
          record {
            plain = λ d lt is. elim (cases_eq c d) [
              | inl same ↦ let clash : None ≡ Some k = sym is ∙ ap o.slot (sym same) ∙ slot in absurd cc
              | inr ne ↦ put_other h (o.cell p k) d (pos 0) (apart.behind p k d lt) ∙ put_other f c d (plus (f c) (f (o.cell p k))) ne ∙ come.plain d lt is
            ];
            kept = λ d l q is private last_is. put_other h (o.cell p k) (o.cell q l) (pos 0) (λ e. apart_from d l q is (λ same. true≢false (sym sum ∙ ap o.is_sum same ∙ private)) e) ∙ put_other f c (o.cell q l) (plus (f c) (f (o.cell p k))) (no_own_here q l) ∙ come.kept d l q is private last_is;
            summed = λ d l is sum_d. elim (cases_eq c d) [
              | inl same ↦ mine d l is same
              | inr ne ↦
                  come.summed d l is sum_d ∙ ap (λ x. sum_up o f l (assigned d) x o.workers) (sym (put_other h (o.cell p k) d (pos 0) (apart.behind p k d (apart.there d l is)) ∙ put_other f c d (plus (f c) (f (o.cell p k))) ne))
                  ∙ ap (λ b. sum_up o f l b (put h (o.cell p k) (pos 0) d) o.workers) (sym (put_other assigned c d (put (assigned c) p false) ne))
                  ∙ sum_same o f (put h (o.cell p k) (pos 0)) l (put assigned c (put (assigned c) p false) d) (put h (o.cell p k) (pos 0) d) o.workers
                  (λ q lt. sym (put_other h (o.cell p k) (o.cell q l) (pos 0) (apart_from d l q is ne) ∙ put_other f c (o.cell q l) (plus (f c) (f (o.cell p k))) (no_own_here q l)))
            ];
            empty = λ d l q is sum_d not_yet. elim (cases_eq c d) [
              | inl same ↦ none_left d l q is same not_yet
              | inr ne ↦ put_other h (o.cell p k) (o.cell q l) (pos 0) (apart_from d l q is ne) ∙ put_other f c (o.cell q l) (plus (f c) (f (o.cell p k))) (no_own_here q l) ∙ come.empty d l q is sum_d (sym (ap (λ b. b q) (put_other assigned c d (put (assigned c) p false) ne)) ∙ not_yet)
            ];
          }
        where
          apart_from : (d l q : ℕ) → o.slot d ≡ Some l → c ≢ d → o.cell p k ≢ o.cell q l
          apart_from d l q is ne e = ne (apart.place c d k slot (is ∙ ap Some (sym (apart.one c d k l slot is p q e).1)))

          place_is : (d l : ℕ) → o.slot d ≡ Some l → c ≡ d → k ≡ l
          place_is d l is same = let places : Some k ≡ Some l = sym slot ∙ ap o.slot same ∙ is in cc

          now : (d : ℕ) → c ≡ d → put assigned c (put (assigned c) p false) d ≡ put (assigned c) p false
          now d same = ap (put assigned c (put (assigned c) p false)) (sym same) ∙ put_here assigned c (put (assigned c) p false)

          others : (q : ℕ) → q ≢ p → (put (assigned c) p false q ≡ assigned c q) × (put (put f c (plus (f c) (f (o.cell p k)))) (o.cell p k) (pos 0) (o.cell q k) ≡ f (o.cell q k))
          others q ne = (
            put_other (assigned c) p q false (λ e. ne (sym e)),
            put_other (put f c (plus (f c) (f (o.cell p k)))) (o.cell p k) (o.cell q k) (pos 0) (λ e. ne (sym (apart.one c c k k slot slot p q e).0)) ∙ put_other f c (o.cell q k) (plus (f c) (f (o.cell p k))) (no_own_here q k),
          )

          mine : (d l : ℕ) → o.slot d ≡ Some l → c ≡ d → m d ≡ sum_up o (put (put f c (plus (f c) (f (o.cell p k)))) (o.cell p k) (pos 0)) l (put assigned c (put (assigned c) p false) d) (put (put f c (plus (f c) (f (o.cell p k)))) (o.cell p k) (pos 0) d) o.workers
          mine d l is same =
              let h = put (put f c (plus (f c) (f (o.cell p k)))) (o.cell p k) (pos 0) in
              let here : h c ≡ plus (f c) (f (o.cell p k)) = put_other (put f c (plus (f c) (f (o.cell p k)))) (o.cell p k) c (pos 0) (λ e. no_own_here p k (sym e)) ∙ put_here f c (plus (f c) (f (o.cell p k))) in
              ap m (sym same) ∙ come.summed c k slot sum
              ∙ sym (sum_moved o f h k (assigned c) (put (assigned c) p false) (f c) p o.workers worker by_p (put_here (assigned c) p false) others)
              ∙ ap (λ x. sum_up o h k (put (assigned c) p false) x o.workers) (sym here ∙ ap h same)
              ∙ ap (λ n. sum_up o h n (put (assigned c) p false) (h d) o.workers) (place_is d l is same)
              ∙ ap (λ b. sum_up o h l b (h d) o.workers) (sym (now d same))

          none_left : (d l q : ℕ) → o.slot d ≡ Some l → c ≡ d → put assigned c (put (assigned c) p false) d q ≡ false → put (put f c (plus (f c) (f (o.cell p k)))) (o.cell p k) (pos 0) (o.cell q l) ≡ pos 0
          none_left d l q is same not_yet =
              let h = put f c (plus (f c) (f (o.cell p k))) in
              ap (λ n. put h (o.cell p k) (pos 0) (o.cell q n)) (sym (place_is d l is same))
              ∙ elim (cases_eq q p) [
                | inl e ↦ ap (λ n. put h (o.cell p k) (pos 0) (o.cell n k)) e ∙ put_here h (o.cell p k) (pos 0)
                | inr ne ↦ (others q ne).1 ∙ come.empty c k q slot sum (sym (others q ne).0 ∙ sym (ap (λ b. b q) (now d same)) ∙ not_yet)
              ]

  -- where nobody's total is left, it is no own scalar any more
  pub by_none_left : o.is_sum c ≡ true → ((p : ℕ) → p < o.workers → assigned c p ≡ false) → Come (without o c) m f last assigned
  by_none_left sum none = record {
    plain = λ d lt is. elim (cases_eq c d) [
      | inl same ↦ ap f (sym same) ∙ sym (come.summed c k slot sum ∙ sum_none o f k (assigned c) (f c) o.workers none) ∙ ap m same
      | inr ne ↦ come.plain d lt (sym (put_other o.slot c d None ne) ∙ is)
    ];
    kept = λ d l q is private h. come.kept d l q (had_slot d l is).1 private h;
    summed = λ d l is sum_d. come.summed d l (had_slot d l is).1 sum_d ∙ unchanged f l (assigned d) (f d) o.workers;
    empty = λ d l q is sum_d not_yet. come.empty d l q (had_slot d l is).1 sum_d not_yet;
  }
    where
      unchanged : (g : ℕ → ℤ) (l : ℕ) (b : ℕ → Bool) (x : ℤ) (n : ℕ) → sum_up o g l b x n ≡ sum_up (without o c) g l b x n
      unchanged g l b x zero = refl
      unchanged g l b x (suc n) = ap (λ y. if b n then plus y (g (o.cell n l)) else y) (unchanged g l b x n)
