-- The closings of a phase: behind them the shared cells have what the program's memory has, and each processor's totals are 0 again.
use Rattle.std.proofs.Common.{◌≡◌, ◌≢◌, ◌==◌, ℕ, zero, suc, ◌+◌, ◌*◌, ◌<◌, ◌≤◌, ℤ, Bool, true, false, ◌&&◌, ◌||◌, List, [], ◌∷◌, fold, get_or, map, Option, Some, None, if◌then◌else◌, refl, ap, sym, subst, ◌∙◌, inl, inr, arith}
use Rattle.std.specs.Prelude.{Contains, is_some}
use Rattle.std.specs.List.{flat_map, list_any, range_with_len}
use Rattle.std.proofs.lemmas.Bool.{cases_Bool, cases_eq, eq-eqb, eqb-true}
use Rattle.std.proofs.lemmas.List.Quantifiers.{position-Some}
use Rattle.std.proofs.lemmas.List.Sums.{fold-append}
use Rattle.std.proofs.Math.Bool.{or_assoc}
use Rattle.nest_tree.specs.Layout.{cell_count, first_cell}
use Rattle.nest_tree.specs.Tree.{Tree}
use Rattle.nest_model.specs.Instances.{Instance}
use Rattle.nest_model.specs.Visits.{Visit}
use Rattle.sync_plan.specs.declared.plan.Plan.{Plan}
use Rattle.sync_plan.specs.Own.{Own, at_slot, own_cell, own_loop, own_of, place_in}
use Rattle.spmd_model.specs.Closings.{keeping, moves_to, sets_to_zero, totalling}
use Rattle.spmd_model.specs.Lawful.{stores_to}
use Rattle.spmd_model.specs.OwnPhases.{AreApart, Come, behind_job, put}
use Rattle.spmd_model.specs.Timelines.{Job}
use Rattle.spmd_model.proofs.OwnPhases.{apart_without, by_keep, by_none_left, by_total, put_here, put_other}
use Rattle.spmd_model.proofs.OwnRuns.{assigned_behind, assigned_from}
use Rattle.spmd_model.proofs.OwnTexts.{AreOwnIn, Slots, private_slot, sum_slot, private_is, slots, some_scalar, sum_is}
use Rattle.spmd_model.proofs.Stands.{scalar_below, slot_below}

-- ---- the own cells of a phase are apart

place_is : (tree : Tree) (us : List ℕ) (c k : ℕ) → place_in tree us c ≡ Some k → first_cell tree (get_or us k 0) ≡ c
place_is tree us c k at = eqb-true (first_cell tree (get_or us k 0)) c (position-Some (λ u. first_cell tree u == c) us k 0 at).1

pub own_apart : (tree : Tree) (plan : Plan) (v : Visit) → AreOwnIn tree plan v → AreApart (own_of tree plan v.place)
own_apart tree plan v o = record {
  behind = λ p k c lt e. omega (arith, lt, e);
  one = λ c d k l is is_too p q e. apart_ones p q k l (slot_below tree plan v o c k is) (slot_below tree plan v o d l is_too) e;
  place = λ c d k is is_too. same_place c d k (slots tree plan v o c k is) (slots tree plan v o d k is_too);
  there = λ c k is. below c k (slots tree plan v o c k is);
}
  where
    apart_ones : (p q k l : ℕ) → k < 32 → l < 32 → cell_count tree + (32 * p + k) ≡ cell_count tree + (32 * q + l) → (p ≡ q) × (k ≡ l)
    apart_ones p q k l lt lt' e = let same : p ≡ q = omega (arith, lt, lt', e) in (same, omega (arith, same, e))

    same_place : (c d k : ℕ) → Slots tree plan v o c k → Slots tree plan v o d k → c ≡ d
    same_place c d k (private_slot lt is at) (private_slot lt' is' at') = sym (place_is tree (own_loop tree plan v.place).privates c k at) ∙ place_is tree (own_loop tree plan v.place).privates d k at'
    same_place c d k (private_slot lt is at) (sum_slot n same lt' is' at') = absurd (omega (arith, lt, same))
    same_place c d k (sum_slot n same lt is at) (private_slot lt' is' at') = absurd (omega (arith, lt', same))
    same_place c d k (sum_slot n same lt is at) (sum_slot m same' lt' is' at') =
        let one : n ≡ m = omega (arith, same, same') in
        sym (place_is tree (own_loop tree plan v.place).sums c n at) ∙ ap (λ x. first_cell tree (get_or (own_loop tree plan v.place).sums x 0)) one ∙ place_is tree (own_loop tree plan v.place).sums d m at'

    below : (c k : ℕ) → Slots tree plan v o c k → c < cell_count tree
    below c k (private_slot lt is at) = let u = some_scalar tree (own_loop tree plan v.place).privates c is in let low = scalar_below tree u.0 (private_is tree plan v o u.0 u.1).1 in omega (arith, low, u.2)
    below c k (sum_slot n same lt is at) = let u = some_scalar tree (own_loop tree plan v.place).sums c is in let low = scalar_below tree u.0 (sum_is tree plan v o u.0 u.1).1 in omega (arith, low, u.2)

-- ---- who has assigned a sum scalar

or_false : (b : Bool) → b ≡ (b || false)
or_false true = refl
or_false false = refl

and_false : (b : Bool) → (b && false) ≡ false
and_false true = refl
and_false false = refl

module _ (o : Own) (c k : ℕ) (slot : o.slot c ≡ Some k) (sum : o.is_sum c ≡ true) where
  pub assigned_more : (a : ℕ → ℕ → Bool) (s : Option ℕ) (q p : ℕ) → assigned_from o a s q c p ≡ (a c p || (q == p && stores_to s c))
  assigned_more a None q p = or_false (a c p) ∙ ap (λ b. a c p || b) (sym (and_false (q == p)))
  assigned_more a (Some d) q p = elim (cases_eq d c) [
    | inl same ↦
        ap (λ e. assigned_from o a (Some e) q c p) same
        ∙ ap (λ x. (if is_some x && o.is_sum c then put a c (put (a c) q true) else a) c p) slot ∙ ap (λ b. (if b then put a c (put (a c) q true) else a) c p) sum
        ∙ ap (λ f. f p) (put_here a c (put (a c) q true)) ∙ here (q == p)
        ∙ ap (λ b. a c p || (q == p && b)) (sym (eq-eqb d c same))
    | inr ne ↦
        other (is_some (o.slot d) && o.is_sum d) ne ∙ or_false (a c p) ∙ ap (λ b. a c p || b) (sym (and_false (q == p))) ∙ ap (λ b. a c p || (q == p && b)) (sym (unequal d c ne))
  ]
    where
      here : (b : Bool) → (if b then true else a c p) ≡ (a c p || (b && true))
      here true = both (a c p)
        where
          both : (x : Bool) → true ≡ (x || true)
          both true = refl
          both false = refl
      here false = or_false (a c p)

      other : (b : Bool) → d ≢ c → (if b then put a d (put (a d) q true) else a) c p ≡ a c p
      other true ne = ap (λ f. f p) (put_other a d c (put (a d) q true) ne)
      other false ne = refl

      unequal : (x y : ℕ) → x ≢ y → (x == y) ≡ false
      unequal x y ne = elim (cases_Bool (x == y)) [
        | inl e ↦ absurd (ne (eqb-true x y e))
        | inr e ↦ e
      ]

  -- behind jobs, each of an instance
  pub assigned_by : (job : Instance → Job) (owner : Instance → ℕ) (stored : Instance → Option ℕ) → ((i : Instance) → (job i).owner ≡ owner i) → ((i : Instance) → (job i).store ≡ stored i) → (a : ℕ → ℕ → Bool) (is : List Instance) (p : ℕ) →
      fold (assigned_behind o) a (map job is) c p ≡ (a c p || list_any (λ i. owner i == p && stores_to (stored i) c) is)
  assigned_by job owner stored owners stores a [] p = or_false (a c p)
  assigned_by job owner stored owners stores a (i ∷ is) p =
      assigned_by job owner stored owners stores (assigned_behind o a (job i)) is p
      ∙ ap (λ b. b || list_any (λ x. owner x == p && stores_to (stored x) c) is)
      (assigned_more a (job i).store (job i).owner p ∙ ap (λ q. a c p || (q == p && stores_to (job i).store c)) (owners i) ∙ ap (λ s. a c p || (owner i == p && stores_to s c)) (stores i))
      ∙ or_assoc (a c p) (owner i == p && stores_to (stored i) c) (list_any (λ x. owner x == p && stores_to (stored x) c) is)

-- ---- own scalars with fewer places

abbrev pub with_slot : Own → (ℕ → Option ℕ) → Own
with_slot o s = record o { slot = s }

-- without the places of these cells
abbrev pub wiped : (ℕ → Option ℕ) → List ℕ → ℕ → Option ℕ
wiped s [] = s
wiped s (c ∷ cs) = wiped (put s c None) cs

-- each cell stands there once
abbrev pub AreDistinct : List ℕ → Type 0
AreDistinct [] = Unit {0}
AreDistinct (c ∷ cs) = ((d : ℕ) → Contains cs d → c ≢ d) × AreDistinct cs

in_rest : (c d : ℕ) (cs : List ℕ) → Contains cs d → Contains (c ∷ cs) d
in_rest c d cs (k, lt, e) = (suc k, omega (arith, lt), e)

first_in : (c : ℕ) (cs : List ℕ) → Contains (c ∷ cs) c
first_in c cs = (0, omega arith, refl)

pub wiped_there : (s : ℕ → Option ℕ) (cs : List ℕ) (c k : ℕ) → wiped s cs c ≡ Some k → (s c ≡ Some k) × (Contains cs c → ⊥)
wiped_there s [] c k at = (at, λ among. omega (arith, among.1))
wiped_there s (d ∷ cs) c k at =
    let rest = wiped_there (put s d None) cs c k at in
    elim (cases_eq d c) [
      | inl same ↦ let clash : None ≡ Some k = sym (ap (put s d None) (sym same) ∙ put_here s d None) ∙ rest.0 in absurd (cc)
      | inr ne ↦ (sym (put_other s d c None ne) ∙ rest.0, λ among. not_there ne rest.1 among)
    ]
  where
    not_there : d ≢ c → (Contains cs c → ⊥) → Contains (d ∷ cs) c → ⊥
    not_there ne none (zero, lt, e) = ne e
    not_there ne none (suc n, lt, e) = none (n, omega (arith, lt), e)

-- ---- private scalars: the owner of the last trip stores its own cell

-- what is known of a private scalar in front of its closing
pub record IsKept (o : Own) (s : ℕ → Option ℕ) (last : ℕ → Option ℕ) (q c : ℕ) : Type 0 where
  pub place : ℕ
  pub slot : s c ≡ Some place
  pub own : o.slot c ≡ Some place
  pub private : o.is_sum c ≡ false
  pub last_is : last c ≡ Some q

module _ (o : Own) (m : ℕ → ℤ) (last : ℕ → Option ℕ) (q : ℕ) where
  pub keep_all : (cs : List ℕ) (s : ℕ → Option ℕ) (f : ℕ → ℤ) (assigned : ℕ → ℕ → Bool) → AreApart (with_slot o s) → Come (with_slot o s) m f last assigned → AreDistinct cs → ((c : ℕ) → Contains cs c → IsKept o s last q c) →
      AreApart (with_slot o (wiped s cs)) × Come (with_slot o (wiped s cs)) m (fold behind_job f (flat_map (λ c. keeping o c (Some q)) cs)) last assigned
  keep_all [] s f assigned apart come distinct kept = (apart, come)
  keep_all (c ∷ cs) s f assigned apart come distinct kept =
      let k = kept c (first_in c cs) in
      let j = moves_to false q (own_cell o q c) c in
      let loads : own_cell o q c ∷ [] ≡ o.cell q k.place ∷ [] = ap (λ x. at_slot o q c x ∷ []) k.own in
      let next = by_keep (with_slot o s) apart m f last assigned come c k.place k.slot q j k.private k.last_is (refl, loads, refl, refl, λ v. refl) in
      keep_all cs (put s c None) (behind_job f j) assigned (apart_without (with_slot o s) c apart) next distinct.1 (λ d among. later d (kept d (in_rest c d cs among)) (distinct.0 d among))
    where
      later : (d : ℕ) → IsKept o s last q d → c ≢ d → IsKept o (put s c None) last q d
      later d k ne = record { place = k.place; slot = put_other s c d None ne ∙ k.slot; own = k.own; private = k.private; last_is = k.last_is }

-- ---- sum scalars: each processor that assigned one adds its total, and sets it to 0

-- nobody among these processors has anything left of it, and all else is as it was
pub record IsAdded (o : Own) (s : ℕ → Option ℕ) (m : ℕ → ℤ) (last : ℕ → Option ℕ) (c a n : ℕ) (before : ℕ → ℕ → Bool) (g : ℕ → ℤ) : Type 0 where
  pub assigned : ℕ → ℕ → Bool
  pub come : Come (with_slot o s) m g last assigned
  pub cleared : (p : ℕ) → a ≤ p → p < a + n → assigned c p ≡ false
  pub below : (p : ℕ) → p < a → assigned c p ≡ before c p
  pub above : (p : ℕ) → a + n ≤ p → assigned c p ≡ before c p
  pub others : (d : ℕ) → c ≢ d → (p : ℕ) → assigned d p ≡ before d p

module _ (o : Own) (s : ℕ → Option ℕ) (apart : AreApart (with_slot o s)) (m : ℕ → ℤ) (last : ℕ → Option ℕ) (c k : ℕ) (slot : s c ≡ Some k) (own : o.slot c ≡ Some k) (sum : o.is_sum c ≡ true) where
  one_total : (p : ℕ) (has : Bool) (f : ℕ → ℤ) (before : ℕ → ℕ → Bool) → p < o.workers → before c p ≡ has → Come (with_slot o s) m f last before → IsAdded o s m last c p 1 before (fold behind_job f (totalling o c p has))
  one_total p false f before worker has come = record {
    assigned = before;
    come = come;
    cleared = λ q le lt. let same : q ≡ p = omega (arith, le, lt) in ap (before c) same ∙ has;
    below = λ q lt. refl;
    above = λ q le. refl;
    others = λ d ne q. refl;
  }
  one_total p true f before worker has come =
      let i = moves_to true p (own_cell o p c) c in
      let j = sets_to_zero p (own_cell o p c) in
      let loads : own_cell o p c ∷ [] ≡ o.cell p k ∷ [] = ap (λ x. at_slot o p c x ∷ []) own in
      let store : Some (own_cell o p c) ≡ Some (o.cell p k) = ap (λ x. Some (at_slot o p c x)) own in
      record {
        assigned = put before c (put (before c) p false);
        come = by_total (with_slot o s) apart m f last before come c k slot p i j sum worker has (refl, loads, refl, refl, λ v. refl) (refl, refl, store, refl, refl);
        cleared = λ q le lt. let same : q ≡ p = omega (arith, le, lt) in ap (λ g. g q) (put_here before c (put (before c) p false)) ∙ ap (put (before c) p false) same ∙ put_here (before c) p false;
        below = λ q lt. ap (λ g. g q) (put_here before c (put (before c) p false)) ∙ put_other (before c) p q false (λ e. omega (arith, e, lt));
        above = λ q le. ap (λ g. g q) (put_here before c (put (before c) p false)) ∙ put_other (before c) p q false (λ e. omega (arith, e, le));
        others = λ d ne q. ap (λ g. g q) (put_other before c d (put (before c) p false) ne);
      }

  pub add_all : (a n : ℕ) (has : ℕ → Bool) (f : ℕ → ℤ) (before : ℕ → ℕ → Bool) → a + n ≤ o.workers → ((p : ℕ) → a ≤ p → p < a + n → before c p ≡ has p) → Come (with_slot o s) m f last before →
      IsAdded o s m last c a n before (fold behind_job f (flat_map (λ p. totalling o c p (has p)) (range_with_len a n)))
  add_all a zero has f before few is come = record { assigned = before; come = come; cleared = λ p le lt. absurd (omega (arith, le, lt)); below = λ p lt. refl; above = λ p le. refl; others = λ d ne p. refl }
  add_all a (suc n) has f before few is come =
      let one = one_total a (has a) f before (omega (arith, few)) (is a (omega arith) (omega arith)) come in
      let g = fold behind_job f (totalling o c a (has a)) in
      let rest = add_all (a + 1) n has g one.assigned (omega (arith, few)) (λ p le lt. one.above p le ∙ is p (omega (arith, le)) (omega (arith, lt))) one.come in
      subst (IsAdded o s m last c a (suc n) before) (sym (fold-append behind_job f (totalling o c a (has a)) (flat_map (λ p. totalling o c p (has p)) (range_with_len (a + 1) n)))) (record {
        assigned = rest.assigned;
        come = rest.come;
        cleared = λ p le lt. elim (cases_eq a p) [
          | inl same ↦ rest.below p (omega (arith, same)) ∙ one.cleared p le (omega (arith, same))
          | inr ne ↦ rest.cleared p (omega (arith, le, ne)) (omega (arith, lt))
        ];
        below = λ p lt. rest.below p (omega (arith, lt)) ∙ one.below p lt;
        above = λ p le. rest.above p (omega (arith, le)) ∙ one.above p (omega (arith, le));
        others = λ d ne p. rest.others d ne p ∙ one.others d ne p;
      })

-- all sum scalars, one behind another
pub record IsSummed (o : Own) (s : ℕ → Option ℕ) (assigned : ℕ → ℕ → Bool) (has : ℕ → ℕ → Bool) (c : ℕ) : Type 0 where
  pub place : ℕ
  pub slot : s c ≡ Some place
  pub own : o.slot c ≡ Some place
  pub sum : o.is_sum c ≡ true
  pub assigned_is : (p : ℕ) → p < o.workers → assigned c p ≡ has c p

module _ (o : Own) (m : ℕ → ℤ) (last : ℕ → Option ℕ) (has : ℕ → ℕ → Bool) where
  pub sum_all : (cs : List ℕ) (s : ℕ → Option ℕ) (f : ℕ → ℤ) (assigned : ℕ → ℕ → Bool) → AreApart (with_slot o s) → Come (with_slot o s) m f last assigned → AreDistinct cs → ((c : ℕ) → Contains cs c → IsSummed o s assigned has c) →
      (after : ℕ → ℕ → Bool) × Come (with_slot o (wiped s cs)) m (fold behind_job f (flat_map (λ c. flat_map (λ p. totalling o c p (has c p)) (range_with_len 0 o.workers)) cs)) last after
  sum_all [] s f assigned apart come distinct summed = (assigned, come)
  sum_all (c ∷ cs) s f assigned apart come distinct summed =
      let k = summed c (first_in c cs) in
      let here = flat_map (λ p. totalling o c p (has c p)) (range_with_len 0 o.workers) in
      let later = flat_map (λ d. flat_map (λ p. totalling o d p (has d p)) (range_with_len 0 o.workers)) cs in
      let a = add_all o s apart m last c k.place k.slot k.own k.sum 0 o.workers (has c) f assigned (omega arith) (λ p le lt. k.assigned_is p (omega (arith, lt))) come in
      let next = by_none_left (with_slot o s) apart m (fold behind_job f here) last a.assigned a.come c k.place k.slot k.sum (λ p lt. a.cleared p (omega arith) (omega (arith, lt))) in
      let rest = sum_all cs (put s c None) (fold behind_job f here) a.assigned (apart_without (with_slot o s) c apart) next distinct.1 (λ d among. moved d (summed d (in_rest c d cs among)) (distinct.0 d among) a.assigned (a.others d (distinct.0 d among))) in
      (rest.0, subst (λ g. Come (with_slot o (wiped (put s c None) cs)) m g last rest.0) (sym (fold-append behind_job f here later)) rest.1)
    where
      moved : (d : ℕ) → IsSummed o s assigned has d → c ≢ d → (b : ℕ → ℕ → Bool) → ((p : ℕ) → b d p ≡ assigned d p) → IsSummed o (put s c None) b has d
      moved d k ne b same = record { place = k.place; slot = put_other s c d None ne ∙ k.slot; own = k.own; sum = k.sum; assigned_is = λ p lt. same p ∙ k.assigned_is p lt }
