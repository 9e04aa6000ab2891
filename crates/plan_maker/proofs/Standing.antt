-- The marks and the private scalars of loops, in a cut by their numbers.
use Rattle.std.proofs.Common.{◌≡◌, ℕ, suc, ◌+◌, ◌-◌, false, not, List, ◌∷◌, ◌++◌, length, length-append, map, Some, None, refl, ap, ap₂, ◌∙◌, arith}
use Rattle.std.specs.Prelude.{Option, option_map, slice_get}
use Rattle.std.proofs.lemmas.Option.{get_or_from_slice_get, slice_get-map, slice_get_within}
use Rattle.list_lemmas.proofs.Gets.{get-front, get-behind}
use Rattle.nest_tree.specs.Tree.{Statement, Statements, do_loop, work, continue, done, next}
use Rattle.nest_tree.specs.WellFormed.{loops_in, loops_of}
use Rattle.owner_partition.specs.declared.cut.Mark.{Mark}
use Rattle.owner_partition.specs.Marks.{enters_outer, is_closed, mark_of, marked}
use Rattle.maker_marks.specs.declared.tries.Tried.{Tried}
use Rattle.maker_marks.specs.Privates.{none_in, none_of, privates_by, privates_in, privates_of}

-- the items of one list stand in another, the first of them as that with this number, from 1
pub record StandsAt {X : Type 0} (xs : List X) (first : ℕ) (ys : List X) : Type 0 where
  pub at : (k : ℕ) (x : X) → slice_get ys k ≡ Some x → slice_get xs (first + k - 1) ≡ Some x

pub all_stand : {X : Type 0} (xs : List X) → StandsAt xs 1 xs
all_stand xs = record { at = λ k x here. let e : 1 + k - 1 ≡ k = omega arith in ap (slice_get xs) e ∙ here }

pub front_stands : {X : Type 0} (xs : List X) (first : ℕ) (ys zs : List X) → StandsAt xs first (ys ++ zs) → StandsAt xs first ys
front_stands xs first ys zs h = record { at = λ k x here. h.at k x (get-front ys zs k (slice_get_within ys k x here) ∙ here) }

pub rest_stands : {X : Type 0} (xs : List X) (first n : ℕ) (ys zs : List X) → length ys ≡ n → StandsAt xs first (ys ++ zs) → StandsAt xs (first + n) zs
rest_stands xs first n ys zs long h = record {
  at = λ k x here.
      let e : first + n + k - 1 ≡ first + (length ys + k) - 1 = omega (arith, long) in
      ap (slice_get xs) e ∙ h.at (length ys + k) x (get-behind ys zs k ∙ here);
}

pub one_stands : {X : Type 0} (xs : List X) (first : ℕ) (x : X) (ys : List X) → StandsAt xs first (x ∷ ys) → slice_get xs (first - 1) ≡ Some x
one_stands xs first x ys h = let e : first - 1 ≡ first + 0 - 1 = omega arith in ap (slice_get xs) e ∙ h.at 0 x refl

pub more_stand : {X : Type 0} (xs : List X) (first : ℕ) (x : X) (ys : List X) → StandsAt xs first (x ∷ ys) → StandsAt xs (first + 1) ys
more_stand xs first x ys h = record { at = λ k y here. let e : first + 1 + k - 1 ≡ first + suc k - 1 = omega arith in ap (slice_get xs) e ∙ h.at (suc k) y here }

-- the mark that stands there is read
pub mark_at : (marks : List Mark) (n : ℕ) (m : Mark) → slice_get marks (n - 1) ≡ Some m → mark_of marks n ≡ m
mark_at marks n m here = ap marked here

pub enters_at : (marks : List Mark) (n : ℕ) (m : Mark) → slice_get marks (n - 1) ≡ Some m → enters_outer marks n ≡ not (is_closed m)
enters_at marks n m here = ap not (get_or_from_slice_get (map is_closed marks) (n - 1) (is_closed m) false (slice_get-map is_closed marks (n - 1) ∙ ap (option_map is_closed) here))

-- there are as many lists as loops
mutual
  pub none-count_in : (s : Statement) → length (none_in s) ≡ loops_in s
  none-count_in (do_loop head body) = omega (arith, none-count body)
  none-count_in (work w) = refl
  none-count_in (continue line) = refl

  none-count : (ss : Statements) → length (none_of ss) ≡ loops_of ss
  none-count done = refl
  none-count (next s rest) = length-append (none_in s) (none_of rest) ∙ ap₂ (λ m n. m + n) (none-count_in s) (none-count rest)

module _ (dealt : ℕ → Option Tried) (owned : ℕ → List ℕ) where
  loop-count : (o : Option Tried) (vs : List ℕ) (body : Statements) → length (privates_of dealt owned body) ≡ loops_of body → length (privates_by o vs body (privates_of dealt owned body)) ≡ 1 + loops_of body
  loop-count (Some t) vs body h = omega (arith, none-count body)
  loop-count None vs body h = omega (arith, h)

  mutual
    pub privates_count_in : (s : Statement) → length (privates_in dealt owned s) ≡ loops_in s
    privates_count_in (do_loop head body) = loop-count (dealt head.number) (owned head.number) body (privates_count body)
    privates_count_in (work w) = refl
    privates_count_in (continue line) = refl

    pub privates_count : (ss : Statements) → length (privates_of dealt owned ss) ≡ loops_of ss
    privates_count done = refl
    privates_count (next s rest) = length-append (privates_in dealt owned s) (privates_of dealt owned rest) ∙ ap₂ (λ m n. m + n) (privates_count_in s) (privates_count rest)
