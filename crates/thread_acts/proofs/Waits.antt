-- What is written in front of a phase is whom a processor waits for, and whether it posts.
use Rattle.std.proofs.Common.{◌≡◌, ◌≢◌, ◌↔◌, ℕ, zero, suc, ◌+◌, ◌-◌, ◌<◌, ◌≤◌, ◌==◌, ◌||◌, ◌&&◌, ◌⊎◌, not, nat_lt, Bool, true, false, true≢false, List, [], ◌∷◌, ◌++◌, map, length, if◌then◌else◌, ⊎_elim, inl, inr, refl, ap, ap₂, sym, ◌∙◌, append-nil, arith}
use Rattle.std.specs.List.{filter, list_any, range_with_len}
use Rattle.std.proofs.lemmas.Bool.{and_from, and_parts, cases_Bool, eqb-true, eqb-false, eq-eqb, lt-ltb, ltb-true, ltb-false}
use Rattle.owner_partition.specs.declared.anchor.Anchor.{Anchor}
use Rattle.sync_plan.specs.declared.plan.Kind.{Kind}
use Rattle.sync_plan.specs.declared.plan.Kind.TheVariants.{Nothing, Producer, Left, Right, Both}
use Rattle.sync_plan.specs.Waits.{awaited_at, does_wait_at, is_awaited_at, waits_at}
use Rattle.sync_plan.proofs.ProcessorSets.{filter_none}
use Rattle.spmd_model.specs.Deeds.{Deed, awaiting, boundary_deeds, posting}
use Rattle.spmd_model.specs.Timelines.{counter}
use Rattle.thread_acts.specs.ThreadDeeds.{await_if, barrier_deeds, both_deeds, left_deeds, post_if, producer_deeds, right_deeds}

-- ---- tests on the numbers from one on

strictly : (a c : ℕ) → a ≤ c → (a ≡ c → ⊥) → a < c
strictly a c low apart = ⊎_elim (λ (h : nat_lt a c ≡ true). ltb-true a c h) (λ (h : nat_lt a c ≡ false). absurd (let le = ltb-false a c h in apart (omega (arith, le, low)))) (cases_Bool (nat_lt a c))

-- the first that passes, if it is among so many, and what passes behind it
next_in : (f : ℕ → Bool) (c : ℕ) (rest : List ℕ) (a n : ℕ) → a ≤ c → c < a + n → f c ≡ true → ((q : ℕ) → a ≤ q → q < c → f q ≡ false) → filter f (range_with_len (c + 1) (a + n - (c + 1))) ≡ rest → filter f (range_with_len a n) ≡ c ∷ rest
next_in f c rest a zero low high here before behind = absurd (omega (arith, low, high))
next_in f c rest a (suc n) low high here before behind =
    ⊎_elim (λ at. now (eqb-true a c at))
    (λ other.
    let lt = strictly a c low (eqb-false a c other) in
    let count : a + 1 + n - (c + 1) ≡ a + suc n - (c + 1) = omega arith in
    ap (λ (b : Bool). if b then a ∷ filter f (range_with_len (a + 1) n) else filter f (range_with_len (a + 1) n)) (before a (omega arith) lt)
    ∙ next_in f c rest (a + 1) n (omega (arith, lt)) (omega (arith, high)) here (λ q le less. before q (omega (arith, le)) less) (ap (λ k. filter f (range_with_len (c + 1) k)) count ∙ behind))
    (cases_Bool (a == c))
  where
    now : a ≡ c → filter f (range_with_len a (suc n)) ≡ c ∷ rest
    now e =
        let count : n ≡ a + suc n - (c + 1) = omega (arith, e) in
        let step : a + 1 ≡ c + 1 = omega (arith, e) in
        ap (λ (b : Bool). if b then a ∷ filter f (range_with_len (a + 1) n) else filter f (range_with_len (a + 1) n)) (ap f e ∙ here)
        ∙ ap (λ x. x ∷ filter f (range_with_len (a + 1) n)) e ∙ ap (λ x. c ∷ filter f (range_with_len x n)) step ∙ ap (λ k. c ∷ filter f (range_with_len (c + 1) k)) count ∙ ap (λ qs. c ∷ qs) behind

-- where one number alone passes
only : (f : ℕ → Bool) (c n : ℕ) → ((q : ℕ) → (f q ≡ true) ↔ (q ≡ c)) → filter f (range_with_len 0 n) ≡ (if nat_lt c n then c ∷ [] else [])
only f c n each =
    ⊎_elim (λ (h : nat_lt c n ≡ true).
    let lt = ltb-true c n h in
    next_in f c [] 0 n (omega arith) (omega (arith, lt)) ((each c).1 refl) (λ q le less. other q (λ e. omega (arith, e, less))) (filter_none f (c + 1) (0 + n - (c + 1)) (λ q le less. other q (λ e. omega (arith, e, le))))
    ∙ ap (λ (b : Bool). if b then c ∷ [] else []) (sym h))
    (λ (h : nat_lt c n ≡ false). let past = ltb-false c n h in filter_none f 0 n (λ q le less. other q (λ e. omega (arith, e, less, past))) ∙ ap (λ (b : Bool). if b then c ∷ [] else []) (sym h)) (cases_Bool (nat_lt c n))
  where
    other : (q : ℕ) → (q ≡ c → ⊥) → f q ≡ false
    other q apart = ⊎_elim (λ (h : f q ≡ true). absurd (apart ((each q).0 h))) (λ (h : f q ≡ false). h) (cases_Bool (f q))

-- the same by whether some one passes
any_is : (f : ℕ → Bool) (qs : List ℕ) → list_any f qs ≡ nat_lt 0 (length (filter f qs))
any_is f [] = refl
any_is f (q ∷ qs) = with_first (any_is f qs) (f q) refl
  where
    with_first : list_any f qs ≡ nat_lt 0 (length (filter f qs)) → (b : Bool) → f q ≡ b → list_any f (q ∷ qs) ≡ nat_lt 0 (length (filter f (q ∷ qs)))
    with_first later true e = ap (λ (b : Bool). b || list_any f qs) e ∙ sym (ap (λ (b : Bool). nat_lt 0 (length (if b then q ∷ filter f qs else filter f qs))) e ∙ lt-ltb 0 (suc (length (filter f qs))) (omega arith))
    with_first later false e = ap (λ (b : Bool). b || list_any f qs) e ∙ later ∙ sym (ap (λ (b : Bool). nat_lt 0 (length (if b then q ∷ filter f qs else filter f qs))) e)

any_only : (f : ℕ → Bool) (c n : ℕ) → ((q : ℕ) → (f q ≡ true) ↔ (q ≡ c)) → list_any f (range_with_len 0 n) ≡ nat_lt c n
any_only f c n each = any_is f (range_with_len 0 n) ∙ ap (λ qs. nat_lt 0 (length qs)) (only f c n each) ∙ (elim (nat_lt c n) as (λ b. nat_lt 0 (length (if b then c ∷ [] else [])) ≡ b) [ true ↦ refl | false ↦ refl ])

any_none : (f : ℕ → Bool) (n : ℕ) → ((q : ℕ) → f q ≡ false) → list_any f (range_with_len 0 n) ≡ false
any_none f n each = any_is f (range_with_len 0 n) ∙ ap (λ qs. nat_lt 0 (length qs)) (filter_none f 0 n (λ q le less. each q))

-- one that passes is among the first so many
any_some : (f : ℕ → Bool) (c n : ℕ) → c < n → f c ≡ true → list_any f (range_with_len 0 n) ≡ true
any_some f c n lt here = from 0 n (omega arith) (omega (arith, lt))
  where
    from : (a k : ℕ) → a ≤ c → c < a + k → list_any f (range_with_len a k) ≡ true
    from a zero low high = absurd (omega (arith, low, high))
    from a (suc k) low high = ⊎_elim (λ (h : f a ≡ true). ap (λ b. b || list_any f (range_with_len (a + 1) k)) h)
        (λ (h : f a ≡ false). let above = strictly a c low (λ e. true≢false (sym here ∙ ap f (sym e) ∙ h)) in ap (λ b. b || list_any f (range_with_len (a + 1) k)) h ∙ from (a + 1) k (omega (arith, above)) (omega (arith, high))) (cases_Bool (f a))

same_test : (f g : ℕ → Bool) → ((q : ℕ) → f q ≡ g q) → (qs : List ℕ) → filter f qs ≡ filter g qs
same_test f g same [] = refl
same_test f g same (q ∷ qs) = ap (λ xs. if f q then q ∷ xs else xs) (same_test f g same qs) ∙ ap (λ (b : Bool). if b then q ∷ filter g qs else filter g qs) (same q)

apart : (a b : ℕ) → a ≢ b → not (a == b) ≡ true
apart a b ne = ⊎_elim (λ (h : (a == b) ≡ true). absurd (ne (eqb-true a b h))) (λ (h : (a == b) ≡ false). ap not h) (cases_Bool (a == b))

-- ---- kind by kind

left_is : (owner p q : ℕ) → (does_wait_at Left owner p q ≡ true) ↔ (p ≡ q + 1)
left_is owner p q = (
  (λ h. let e = eqb-true (q + 1) p (and_parts (not (p == q)) (q + 1 == p) h).1 in sym e),
  λ e. and_from (not (p == q)) (q + 1 == p) (apart p q (λ same. absurd (omega (arith, e, same)))) (eq-eqb (q + 1) p (sym e)),
)

right_is : (owner p q : ℕ) → (does_wait_at Right owner p q ≡ true) ↔ (p + 1 ≡ q)
right_is owner p q = (
  (λ h. eqb-true (p + 1) q (and_parts (not (p == q)) (p + 1 == q) h).1),
  λ e. and_from (not (p == q)) (p + 1 == q) (apart p q (λ same. absurd (omega (arith, e, same)))) (eq-eqb (p + 1) q e),
)

false_of : (b : Bool) → (b ≡ true → ⊥) → b ≡ false
false_of b never = ⊎_elim (λ (h : b ≡ true). absurd (never h)) (λ (h : b ≡ false). h) (cases_Bool b)

front_if : (f : Bool) (n : ℕ) (b : Bool) → f ≡ b → (if f then posting counter n ∷ [] else []) ≡ post_if b n
front_if f n b e = ap (λ (x : Bool). if x then posting counter n ∷ [] else []) e

-- one that is awaited, or none
awaited_one : (b : Bool) (q n : ℕ) → map (λ q. awaiting counter q n) (if b then q ∷ [] else []) ≡ await_if b q n
awaited_one true q n = refl
awaited_one false q n = refl

pub left_written : (owner workers p n : ℕ) → p < workers → boundary_deeds counter n (is_awaited_at Left owner workers p) (awaited_at Left owner workers p) ≡ left_deeds workers p n
left_written owner workers p n below = ap₂ (λ (a b : List Deed). a ++ b) (front_if (is_awaited_at Left owner workers p) n (nat_lt (p + 1) workers) (any_only (λ r. does_wait_at Left owner r p) (p + 1) workers (λ r. left_is owner r p))) (back p below)
  where
    back : (p : ℕ) → p < workers → map (λ q. awaiting counter q n) (awaited_at Left owner workers p) ≡ await_if (nat_lt 0 p) (p - 1) n
    back zero below = ap (map (λ q. awaiting counter q n)) (filter_none (does_wait_at Left owner 0) 0 workers (λ q le less. false_of (does_wait_at Left owner 0 q) (λ h. absurd (let e = (left_is owner 0 q).0 h in omega (arith, e)))))
    back (suc p) below =
        let one : (q : ℕ) → (does_wait_at Left owner (suc p) q ≡ true) ↔ (q ≡ p) = λ q. ((λ h. let e = (left_is owner (suc p) q).0 h in omega (arith, e)), λ e. (left_is owner (suc p) q).1 (omega (arith, e))) in
        let before : p ≡ suc p - 1 = omega arith in
        ap (map (λ q. awaiting counter q n)) (only (does_wait_at Left owner (suc p)) p workers one ∙ ap (λ (b : Bool). if b then p ∷ [] else []) (lt-ltb p workers (omega (arith, below))))
        ∙ ap (λ q. awaiting counter q n ∷ []) before ∙ sym (ap (λ (b : Bool). await_if b (suc p - 1) n) (lt-ltb 0 (suc p) (omega arith)))

pub right_written : (owner workers p n : ℕ) → p < workers → boundary_deeds counter n (is_awaited_at Right owner workers p) (awaited_at Right owner workers p) ≡ right_deeds workers p n
right_written owner workers p n below = ap₂ (λ (a b : List Deed). a ++ b) (front_if (is_awaited_at Right owner workers p) n (nat_lt 0 p) (front p below)) back
  where
    front : (p : ℕ) → p < workers → is_awaited_at Right owner workers p ≡ nat_lt 0 p
    front zero below = any_none (λ r. does_wait_at Right owner r 0) workers (λ r. false_of (does_wait_at Right owner r 0) (λ h. absurd (let e = (right_is owner r 0).0 h in omega (arith, e))))
    front (suc p) below =
        let one : (r : ℕ) → (does_wait_at Right owner r (suc p) ≡ true) ↔ (r ≡ p) = λ r. ((λ h. let e = (right_is owner r (suc p)).0 h in omega (arith, e)), λ e. (right_is owner r (suc p)).1 (omega (arith, e))) in
        any_only (λ r. does_wait_at Right owner r (suc p)) p workers one ∙ lt-ltb p workers (omega (arith, below)) ∙ sym (lt-ltb 0 (suc p) (omega arith))

    back : map (λ q. awaiting counter q n) (awaited_at Right owner workers p) ≡ await_if (nat_lt (p + 1) workers) (p + 1) n
    back = ap (map (λ q. awaiting counter q n)) (only (does_wait_at Right owner p) (p + 1) workers (λ q. ((λ h. sym ((right_is owner p q).0 h)), λ e. (right_is owner p q).1 (sym e)))) ∙ awaited_one (nat_lt (p + 1) workers) (p + 1) n

-- where each other processor awaits, a processor posts if there is another one
all_post : (f : ℕ → Bool) (workers p c : ℕ) → p < workers → (1 < workers → (c < workers) × (f c ≡ true)) → f 0 ≡ false ⊎ (1 < workers) → list_any f (range_with_len 0 workers) ≡ nat_lt 1 workers
all_post f workers p c below some alone =
    ⊎_elim (λ (h : nat_lt 1 workers ≡ true). let one = some (ltb-true 1 workers h) in any_some f c workers one.0 one.1 ∙ sym h)
    (λ (h : nat_lt 1 workers ≡ false). let le = ltb-false 1 workers h in single (omega (arith, le, below)) alone ∙ sym h) (cases_Bool (nat_lt 1 workers))
  where
    single : workers ≡ 1 → f 0 ≡ false ⊎ (1 < workers) → list_any f (range_with_len 0 workers) ≡ false
    single e (inl none) = ap (λ k. list_any f (range_with_len 0 k)) e ∙ ap (λ b. b || false) none
    single e (inr more) = absurd (omega (arith, e, more))

-- a neighbour of a processor, where there is another one
abbrev neighbour : ℕ → ℕ
neighbour zero = 1
neighbour (suc p) = p

next_to : (p workers : ℕ) → p < workers → 1 < workers → neighbour p < workers
next_to zero workers below more = more
next_to (suc p) workers below more = omega (arith, below)

beside : (p : ℕ) → (neighbour p + 1 ≡ p) ⊎ (p + 1 ≡ neighbour p)
beside zero = inr refl
beside (suc p) = inl (omega arith)

differs : (p : ℕ) → neighbour p ≢ p
differs zero e = omega (arith, e)
differs (suc p) e = omega (arith, e)

-- processor 0 is alone, or there is another one
alone_or : (p workers : ℕ) → p < workers → (p ≡ 0) ⊎ (1 < workers)
alone_or zero workers below = inl refl
alone_or (suc p) workers below = inr (omega (arith, below))

both_waits : (owner p q : ℕ) → (q + 1 ≡ p) ⊎ (p + 1 ≡ q) → does_wait_at Both owner p q ≡ true
both_waits owner p q (inl e) = and_from (not (p == q)) (q + 1 == p || p + 1 == q) (apart p q (λ same. absurd (omega (arith, e, same)))) (ap (λ b. b || p + 1 == q) (eq-eqb (q + 1) p e))
both_waits owner p q (inr e) = and_from (not (p == q)) (q + 1 == p || p + 1 == q) (apart p q (λ same. absurd (omega (arith, e, same)))) (either (q + 1 == p) (eq-eqb (p + 1) q e))
  where
    either : (b : Bool) → (p + 1 == q) ≡ true → (b || p + 1 == q) ≡ true
    either true h = refl
    either false h = h

both_apart : (owner p q : ℕ) → (q + 1 ≡ p → ⊥) → (p + 1 ≡ q → ⊥) → does_wait_at Both owner p q ≡ false
both_apart owner p q one two = false_of (does_wait_at Both owner p q) (λ h. never (q + 1 == p) refl (and_parts (not (p == q)) (q + 1 == p || p + 1 == q) h).1)
  where
    never : (b : Bool) → (q + 1 == p) ≡ b → (b || p + 1 == q) ≡ true → ⊥
    never true e h = one (eqb-true (q + 1) p e)
    never false e h = two (eqb-true (p + 1) q h)

turned : {A B : Type 0} → A ⊎ B → B ⊎ A
turned (inl a) = inr a
turned (inr b) = inl b

pub both_written : (owner workers p n : ℕ) → p < workers → boundary_deeds counter n (is_awaited_at Both owner workers p) (awaited_at Both owner workers p) ≡ both_deeds workers p n
both_written owner workers p n below = ap₂ (λ (a b : List Deed). a ++ b) (front_if (is_awaited_at Both owner workers p) n (nat_lt 1 workers) front) (back p below)
  where
    lone : (p ≡ 0) ⊎ (1 < workers) → (does_wait_at Both owner 0 p ≡ false) ⊎ (1 < workers)
    lone (inl e) = inl (both_apart owner 0 p (λ h. omega (arith, h)) (λ h. omega (arith, h, e)))
    lone (inr more) = inr more

    front : is_awaited_at Both owner workers p ≡ nat_lt 1 workers
    front = all_post (λ r. does_wait_at Both owner r p) workers p (neighbour p) below (λ more. (next_to p workers below more, both_waits owner (neighbour p) p (turned (beside p)))) (lone (alone_or p workers below))

    behind : (p c : ℕ) → p ≤ c → c ≤ p + 1 → filter (does_wait_at Both owner p) (range_with_len c (workers - c)) ≡ (if nat_lt (p + 1) workers then (p + 1) ∷ [] else [])
    behind p c low high =
        ⊎_elim (λ (h : nat_lt (p + 1) workers ≡ true).
        let lt = ltb-true (p + 1) workers h in
        next_in (does_wait_at Both owner p) (p + 1) [] c (workers - c) high (omega (arith, high, lt)) (both_waits owner p (p + 1) (inr refl)) (λ q le less. both_apart owner p q (λ e. omega (arith, e, le, low)) (λ e. omega (arith, e, less)))
        (filter_none (does_wait_at Both owner p) (p + 1 + 1) (c + (workers - c) - (p + 1 + 1)) (λ q le less. both_apart owner p q (λ e. omega (arith, e, le)) (λ e. omega (arith, e, le))))
        ∙ ap (λ (b : Bool). if b then (p + 1) ∷ [] else []) (sym h))
        (λ (h : nat_lt (p + 1) workers ≡ false).
        let past = ltb-false (p + 1) workers h in
        filter_none (does_wait_at Both owner p) c (workers - c) (λ q le less. both_apart owner p q (λ e. omega (arith, e, le, low)) (λ e. omega (arith, e, less, past, high))) ∙ ap (λ (b : Bool). if b then (p + 1) ∷ [] else []) (sym h))
        (cases_Bool (nat_lt (p + 1) workers))

    back : (p : ℕ) → p < workers → map (λ q. awaiting counter q n) (awaited_at Both owner workers p) ≡ await_if (nat_lt 0 p) (p - 1) n ++ await_if (nat_lt (p + 1) workers) (p + 1) n
    back zero below =
        let count : workers ≡ workers - 0 = omega arith in
        ap (λ k. map (λ q. awaiting counter q n) (filter (does_wait_at Both owner 0) (range_with_len 0 k))) count
        ∙ ap (map (λ q. awaiting counter q n)) (behind 0 0 (omega arith) (omega arith)) ∙ awaited_one (nat_lt (0 + 1) workers) (0 + 1) n
    back (suc p) below =
        let rest = if nat_lt (suc p + 1) workers then (suc p + 1) ∷ [] else [] in
        let count : 0 + workers - (p + 1) ≡ workers - (p + 1) = omega arith in
        let before : p ≡ suc p - 1 = omega arith in
        ap (map (λ q. awaiting counter q n)) (next_in (does_wait_at Both owner (suc p)) p rest 0 workers (omega arith) (omega (arith, below)) (both_waits owner (suc p) p (inl (omega arith)))
        (λ q le less. both_apart owner (suc p) q (λ e. omega (arith, e, less)) (λ e. omega (arith, e, less)))
        (ap (λ k. filter (does_wait_at Both owner (suc p)) (range_with_len (p + 1) k)) count ∙ behind (suc p) (p + 1) (omega arith) (omega arith)))
        ∙ ap₂ (λ (x : ℕ) (ds : List Deed). awaiting counter x n ∷ ds) before (awaited_one (nat_lt (suc p + 1) workers) (suc p + 1) n)
        ∙ sym (ap (λ (b : Bool). await_if b (suc p - 1) n ++ await_if (nat_lt (suc p + 1) workers) (suc p + 1) n) (lt-ltb 0 (suc p) (omega arith)))

-- a barrier or a join: all wait for all
module _ (kind : Kind) (all : (owner p q : ℕ) → waits_at kind owner p q ≡ true) where
  all_wait : (owner p q : ℕ) → does_wait_at kind owner p q ≡ not (p == q)
  all_wait owner p q = ap (λ b. not (p == q) && b) (all owner p q) ∙ with_true (not (p == q))
    where
      with_true : (b : Bool) → (b && true) ≡ b
      with_true true = refl
      with_true false = refl

  pub all_written : (owner workers p n : ℕ) → p < workers → boundary_deeds counter n (is_awaited_at kind owner workers p) (awaited_at kind owner workers p) ≡ barrier_deeds workers p n
  all_written owner workers p n below =
      ap₂ (λ (a b : List Deed). a ++ b) (front_if (is_awaited_at kind owner workers p) n (nat_lt 1 workers) front)
      (ap (map (λ q. awaiting counter q n)) (same_test (does_wait_at kind owner p) (λ q. not (p == q)) (all_wait owner p) (range_with_len 0 workers)))
    where
      lone : (p ≡ 0) ⊎ (1 < workers) → (does_wait_at kind owner 0 p ≡ false) ⊎ (1 < workers)
      lone (inl e) = inl (all_wait owner 0 p ∙ ap (λ x. not (0 == x)) e)
      lone (inr more) = inr more

      front : is_awaited_at kind owner workers p ≡ nat_lt 1 workers
      front = all_post (λ r. does_wait_at kind owner r p) workers p (neighbour p) below (λ more. (next_to p workers below more, all_wait owner (neighbour p) p ∙ apart (neighbour p) p (differs p))) (lone (alone_or p workers below))

-- a producer that is one of the processors: all wait for it
producer_is : (a : Anchor) (owner p q : ℕ) → p ≢ owner → (does_wait_at (Producer a) owner p q ≡ true) ↔ (q ≡ owner)
producer_is a owner p q other = (
  (λ h. sym (eqb-true owner q (and_parts (not (p == q)) (owner == q) h).1)),
  λ e. and_from (not (p == q)) (owner == q) (apart p q (λ same. other (same ∙ e))) (eq-eqb owner q (sym e)),
)

pub producer_written : (a : Anchor) (owner workers p n : ℕ) → p < workers → owner < workers → boundary_deeds counter n (is_awaited_at (Producer a) owner workers p) (awaited_at (Producer a) owner workers p) ≡ producer_deeds workers p owner n
producer_written a owner workers p n below named = by (owner == p) refl
  where
    own : owner ≡ p → boundary_deeds counter n (is_awaited_at (Producer a) owner workers p) (awaited_at (Producer a) owner workers p) ≡ post_if (nat_lt 1 workers) n
    own e = ap₂ (λ (x y : List Deed). x ++ y) (front_if (is_awaited_at (Producer a) owner workers p) n (nat_lt 1 workers) front) (ap (map (λ q. awaiting counter q n)) nobody) ∙ append-nil (post_if (nat_lt 1 workers) n)
      where
        nobody : awaited_at (Producer a) owner workers p ≡ []
        nobody = filter_none (does_wait_at (Producer a) owner p) 0 workers (λ q le less. false_of (does_wait_at (Producer a) owner p q) (λ h. other q (and_parts (not (p == q)) (owner == q) h)))
          where
            other : (q : ℕ) → (not (p == q) ≡ true) × ((owner == q) ≡ true) → ⊥
            other q parts = true≢false (sym parts.0 ∙ ap not (eq-eqb p q (sym e ∙ eqb-true owner q parts.1)))

        lone : (p ≡ 0) ⊎ (1 < workers) → (does_wait_at (Producer a) owner 0 p ≡ false) ⊎ (1 < workers)
        lone (inl z) = inl (ap (λ x. not (0 == x) && (owner == x)) z)
        lone (inr more) = inr more

        front : is_awaited_at (Producer a) owner workers p ≡ nat_lt 1 workers
        front = all_post (λ r. does_wait_at (Producer a) owner r p) workers p (neighbour p) below
            (λ more. (next_to p workers below more, and_from (not (neighbour p == p)) (owner == p) (apart (neighbour p) p (differs p)) (eq-eqb owner p e))) (lone (alone_or p workers below))

    by : (b : Bool) → (owner == p) ≡ b → boundary_deeds counter n (is_awaited_at (Producer a) owner workers p) (awaited_at (Producer a) owner workers p) ≡ producer_deeds workers p owner n
    by true e = own (eqb-true owner p e) ∙ sym (ap (λ (b : Bool). if b then post_if (nat_lt 1 workers) n else awaiting counter owner n ∷ []) e)
    by false e =
        let other : p ≢ owner = λ same. eqb-false owner p e (sym same) in
        let silent : is_awaited_at (Producer a) owner workers p ≡ false =
        any_none (λ r. does_wait_at (Producer a) owner r p) workers (λ r. false_of (does_wait_at (Producer a) owner r p) (λ h. eqb-false owner p e (eqb-true owner p (and_parts (not (r == p)) (owner == p) h).1))) in
        ap₂ (λ (x y : List Deed). x ++ y) (front_if (is_awaited_at (Producer a) owner workers p) n false silent)
        (ap (map (λ q. awaiting counter q n)) (only (does_wait_at (Producer a) owner p) owner workers (λ q. producer_is a owner p q other) ∙ ap (λ (b : Bool). if b then owner ∷ [] else []) (lt-ltb owner workers named)))
        ∙ sym (ap (λ (b : Bool). if b then post_if (nat_lt 1 workers) n else awaiting counter owner n ∷ []) e)

-- nobody waits
pub nothing_written : (owner workers p n : ℕ) → boundary_deeds counter n (is_awaited_at Nothing owner workers p) (awaited_at Nothing owner workers p) ≡ []
nothing_written owner workers p n =
    ap₂ (λ (x y : List Deed). x ++ y) (front_if (is_awaited_at Nothing owner workers p) n false (any_none (λ r. does_wait_at Nothing owner r p) workers (λ r. never (not (r == p)))))
    (ap (map (λ q. awaiting counter q n)) (filter_none (does_wait_at Nothing owner p) 0 workers (λ q le less. never (not (p == q)))))
  where
    never : (b : Bool) → (b && false) ≡ false
    never true = refl
    never false = refl
