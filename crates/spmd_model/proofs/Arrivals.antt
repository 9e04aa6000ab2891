-- Arrivals at barriers: along a timeline every processor arrives at each one, and then awaits others there.
use Rattle.std.proofs.Common.{◌≡◌, ◌==◌, ℕ, zero, suc, ◌+◌, ◌-◌, ◌<◌, ◌≤◌, Bool, true, false, List, [], ◌∷◌, ◌++◌, length, map, take, drop, fold, Option, Some, None, refl, ap, sym, ◌∙◌, inl, inr, arith, if◌then◌else◌, zero-add}
use Rattle.std.specs.Prelude.{slice_get}
use Rattle.std.specs.List.{All}
use Rattle.std.proofs.Math.Seq.{take-append-add}
use Rattle.std.proofs.lemmas.Bool.{cases_Bool, cases_lt}
use Rattle.std.proofs.lemmas.List.{take-append-drop, take-append-le}
use Rattle.std.proofs.lemmas.List.Elements.{All-append, All-cons, All-head, All-map, All-nil, All-tail}
use Rattle.std.proofs.lemmas.List.Sums.{fold-append}
use Rattle.std.proofs.lemmas.Option.{slice_get_within}
use Rattle.list_lemmas.proofs.Gets.{get-front, get-behind}
use Rattle.spmd_model.specs.Timelines.{Job, Moment, Word, counter, signal, boundary, job}
use Rattle.spmd_model.specs.Acts.{Act, post, await, load, store, add, print, acts_from, boundary_acts, job_acts, last_act, moment_acts}
use Rattle.owner_partition.proofs.Sites.{all_at}
use Rattle.spmd_model.specs.Protocols.{arrived, is_arrival}
use Rattle.spmd_model.proofs.CellsThere.{every}

-- ---- a job's acts

abbrev IsWork : Act → Type 0
IsWork (post w n) = ⊥
IsWork (await w q n) = ⊥
IsWork (load t c) = Unit {0}
IsWork (store t c) = Unit {0}
IsWork (add t c) = Unit {0}
IsWork (print t) = Unit {0}

last_works : (t : ℕ) (o : Option ℕ) (adds : Bool) → IsWork (last_act t o adds)
last_works t (Some c) false = tt
last_works t (Some c) true = tt
last_works t None adds = tt

job_works : (t : ℕ) (j : Job) → All IsWork (job_acts t j)
job_works t j =
    All-append IsWork (map (load t) j.loads) (last_act t j.store j.adds ∷ []) (All-map IsWork (load t) j.loads (every (λ c. Unit {0}) (λ c. tt) j.loads)) (All-cons IsWork (last_act t j.store j.adds) [] (last_works t j.store j.adds) (All-nil IsWork))

owned_works : (p t : ℕ) (j : Job) → All IsWork (moment_acts p t (job j))
owned_works p t j = elim (j.owner == p) as (λ b. All IsWork (if b then job_acts t j else [])) [ true ↦ job_works t j | false ↦ All-nil IsWork ]

-- how many boundaries on counters there are among moments
abbrev pub boundaries : List Moment → ℕ
boundaries [] = 0
boundaries (boundary counter n posts awaits ∷ xs) = 1 + boundaries xs
boundaries (boundary signal n posts awaits ∷ xs) = boundaries xs
boundaries (job j ∷ xs) = boundaries xs

module _ (gathers : ℕ → Bool) where
  -- ---- arrivals by some acts

  abbrev pub arrivals : List Act → ℕ
  arrivals acts = fold (arrived gathers) 0 acts

  one : (c : ℕ) (a : Act) → arrived gathers c a ≡ c + arrived gathers 0 a
  one c (post w n) = elim (is_arrival gathers w n) as (λ b. (if b then c + 1 else c) ≡ c + (if b then 0 + 1 else 0)) [ true ↦ omega arith | false ↦ omega arith ]
  one c (await w q n) = omega arith
  one c (load t d) = omega arith
  one c (store t d) = omega arith
  one c (add t d) = omega arith
  one c (print t) = omega arith

  shift : (c : ℕ) (xs : List Act) → fold (arrived gathers) c xs ≡ c + arrivals xs
  shift c [] = omega arith
  shift c (a ∷ xs) =
      let there = shift (arrived gathers 0 a) xs in
      let first = one c a in
      shift (arrived gathers c a) xs ∙ omega (arith, there, first)

  both : (xs ys : List Act) → arrivals (xs ++ ys) ≡ arrivals xs + arrivals ys
  both xs ys = fold-append (arrived gathers) 0 xs ys ∙ shift (arrivals xs) ys

  pub front : (xs : List Act) (k : ℕ) → arrivals (take k xs) ≤ arrivals xs
  front xs k = let parts : arrivals xs ≡ arrivals (take k xs) + arrivals (drop k xs) = ap arrivals (sym (take-append-drop k xs)) ∙ both (take k xs) (drop k xs) in omega (arith, parts)

  awaits_none : (w : Word) (n : ℕ) (qs : List ℕ) → arrivals (map (λ q. await w q n) qs) ≡ 0
  awaits_none w n [] = refl
  awaits_none w n (q ∷ qs) = awaits_none w n qs

  works_none : (xs : List Act) → All IsWork xs → arrivals xs ≡ 0
  works_none [] all = refl
  works_none (post w n ∷ xs) all = absurd (All-head IsWork (post w n) xs all)
  works_none (await w q n ∷ xs) all = absurd (All-head IsWork (await w q n) xs all)
  works_none (load t c ∷ xs) all = works_none xs (All-tail IsWork (load t c) xs all)
  works_none (store t c ∷ xs) all = works_none xs (All-tail IsWork (store t c) xs all)
  works_none (add t c ∷ xs) all = works_none xs (All-tail IsWork (add t c) xs all)
  works_none (print t ∷ xs) all = works_none xs (All-tail IsWork (print t) xs all)

  -- ---- at a moment

  abbrev pub weight : Moment → ℕ
  weight (boundary w n posts awaits) = if is_arrival gathers w n then 1 else 0
  weight (job j) = 0

  -- where a boundary's number is gathered, the processor posts there, and awaits others
  abbrev pub Joins : ℕ → Moment → Type 0
  Joins p (boundary w n posts awaits) = is_arrival gathers w n ≡ true → (posts p ≡ true) × ((o : ℕ) × (rest : List ℕ) × (awaits p ≡ o ∷ rest))
  Joins p (job j) = Unit {0}

  with_post : (w : Word) (n : ℕ) (qs : List ℕ) → arrivals (post w n ∷ map (λ q. await w q n) qs) ≡ (if is_arrival gathers w n then 1 else 0)
  with_post w n qs = let none = awaits_none w n qs in shift (arrived gathers 0 (post w n)) (map (λ q. await w q n) qs) ∙ omega (arith, none)

  pub moment_arrivals : (p t : ℕ) (x : Moment) → Joins p x → arrivals (moment_acts p t x) ≡ weight x
  moment_arrivals p t (boundary w n posts awaits) joins = elim (cases_Bool (is_arrival gathers w n)) [
    | inl g ↦ ap (λ b. arrivals (boundary_acts p w n b (awaits p))) (joins g).0 ∙ with_post w n (awaits p)
    | inr none ↦ by none (posts p)
  ]
    where
      by : is_arrival gathers w n ≡ false → (b : Bool) → arrivals (boundary_acts p w n b (awaits p)) ≡ (if is_arrival gathers w n then 1 else 0)
      by none true = with_post w n (awaits p)
      by none false = awaits_none w n (awaits p) ∙ sym (ap (λ b. if b then 1 else 0) none)
  moment_arrivals p t (job j) joins = works_none (moment_acts p t (job j)) (owned_works p t j)

  number_awaited : (v w : Word) (k o n : ℕ) (qs : List ℕ) (i : ℕ) → slice_get (map (λ q. await v q k) qs) i ≡ Some (await w o n) → (v ≡ w) × (k ≡ n)
  number_awaited v w k o n [] i e = let clash : None ≡ Some (await w o n) = e in absurd (cc)
  number_awaited v w k o n (q ∷ qs) zero e = let same : Some (await v q k) ≡ Some (await w o n) = e in (cc, cc)
  number_awaited v w k o n (q ∷ qs) (suc i) e = number_awaited v w k o n qs i e

  pub number_there : (p : ℕ) (v w : Word) (k o n : ℕ) (qs : List ℕ) (b : Bool) (i : ℕ) → slice_get (boundary_acts p v k b qs) i ≡ Some (await w o n) → (v ≡ w) × (k ≡ n)
  number_there p v w k o n qs true zero e = let clash : Some (post v k) ≡ Some (await w o n) = e in absurd (cc)
  number_there p v w k o n qs true (suc i) e = number_awaited v w k o n qs i e
  number_there p v w k o n qs false i e = number_awaited v w k o n qs i e

  -- in front of an await at a barrier its processor has arrived, and whoever joins posts first
  pub await_in : (p q t i : ℕ) (w : Word) (o n : ℕ) (x : Moment) → Joins p x → Joins q x → slice_get (moment_acts p t x) i ≡ Some (await w o n) → is_arrival gathers w n ≡ true → (arrivals (take i (moment_acts p t x)) ≡ 1) × (slice_get (moment_acts q t x) 0 ≡ Some (post w n))
  await_in p q t i w o n (boundary v k posts awaits) mine theirs e g =
      let same = number_there p v w k o n (awaits p) (posts p) i e in
      let here : is_arrival gathers v k ≡ true = ap (λ z. is_arrival gathers z k) same.0 ∙ ap (is_arrival gathers w) same.1 ∙ g in
      let does = (mine here).0 in (
        ap (λ b. arrivals (take i (boundary_acts p v k b (awaits p)))) does ∙ first here i (sym (ap (λ b. slice_get (boundary_acts p v k b (awaits p)) i) does) ∙ e),
        ap (λ b. slice_get (boundary_acts q v k b (awaits q)) 0) (theirs here).0 ∙ ap (λ z. Some (post z k)) same.0 ∙ ap (λ z. Some (post w z)) same.1,
      )
    where
      first : is_arrival gathers v k ≡ true → (l : ℕ) → slice_get (post v k ∷ map (λ r. await v r k) (awaits p)) l ≡ Some (await w o n) → arrivals (take l (post v k ∷ map (λ r. await v r k) (awaits p))) ≡ 1
      first here zero h = let clash : Some (post v k) ≡ Some (await w o n) = h in absurd (cc)
      first here (suc l) h =
          let waits = map (λ r. await v r k) (awaits p) in
          let none = awaits_none v k (awaits p) in
          let less = front waits l in
          let one_here : arrived gathers 0 (post v k) ≡ 1 = ap (λ b. if b then 0 + 1 else 0) here in
          shift (arrived gathers 0 (post v k)) (take l waits) ∙ omega (arith, none, less, one_here)
  await_in p q t i w o n (job j) mine theirs e g = absurd (all_at IsWork (moment_acts p t (job j)) i (await w o n) (owned_works p t j) e)

  none_posted : (v w : Word) (k n : ℕ) (qs : List ℕ) (i : ℕ) → slice_get (map (λ q. await v q k) qs) i ≡ Some (post w n) → ⊥
  none_posted v w k n [] i e = let clash : None ≡ Some (post w n) = e in cc
  none_posted v w k n (q ∷ qs) zero e = let clash : Some (await v q k) ≡ Some (post w n) = e in cc
  none_posted v w k n (q ∷ qs) (suc i) e = none_posted v w k n qs i e

  posted_there : (p : ℕ) (v w : Word) (k n : ℕ) (qs : List ℕ) (b : Bool) (i : ℕ) → slice_get (boundary_acts p v k b qs) i ≡ Some (post w n) → (i ≡ 0) × (v ≡ w) × (k ≡ n)
  posted_there p v w k n qs true zero e = let same : Some (post v k) ≡ Some (post w n) = e in (refl, cc, cc)
  posted_there p v w k n qs true (suc i) e = absurd (none_posted v w k n qs i e)
  posted_there p v w k n qs false i e = absurd (none_posted v w k n qs i e)

  post_in : (p t i : ℕ) (w : Word) (n : ℕ) (x : Moment) → Joins p x → slice_get (moment_acts p t x) i ≡ Some (post w n) → is_arrival gathers w n ≡ true → (o : ℕ) × (slice_get (moment_acts p t x) (i + 1) ≡ Some (await w o n))
  post_in p t i w n (boundary v k posts awaits) joins e g =
      let there = posted_there p v w k n (awaits p) (posts p) i e in
      let j = joins (ap (λ z. is_arrival gathers z k) there.1 ∙ ap (is_arrival gathers w) there.2 ∙ g) in
      let next : i + 1 ≡ 1 = omega (arith, there.0) in
      (j.1.0, ap (slice_get (moment_acts p t (boundary v k posts awaits))) next ∙ ap (λ b. slice_get (boundary_acts p v k b (awaits p)) 1) j.0 ∙ ap (λ qs. slice_get (boundary_acts p v k true qs) 1) j.1.2 ∙ ap (λ z. Some (await z j.1.0 k)) there.1 ∙ ap (λ z. Some (await w j.1.0 z)) there.2)
  post_in p t i w n (job j) joins e g = absurd (all_at IsWork (moment_acts p t (job j)) i (post w n) (owned_works p t j) e)

  -- ---- along moments

  pub await_behind : (p place : ℕ) (xs : List Moment) → All (Joins p) xs → (i : ℕ) (w : Word) (n : ℕ) → slice_get (acts_from p place xs) i ≡ Some (post w n) → is_arrival gathers w n ≡ true → (o : ℕ) × (slice_get (acts_from p place xs) (i + 1) ≡ Some (await w o n))
  await_behind p place [] all i w n e g = let clash : None ≡ Some (post w n) = e in absurd (cc)
  await_behind p place (x ∷ xs) all i w n e g =
      let A = moment_acts p place x in
      let R = acts_from p (suc place) xs in
      elim (cases_lt i (length A)) [
        | inl inside ↦
            let a = post_in p place i w n x (All-head (Joins p) x xs all) (sym (get-front A R i inside) ∙ e) g in
            (a.0, get-front A R (i + 1) (slice_get_within A (i + 1) (await w a.0 n) a.1) ∙ a.1)
        | inr past ↦
            let more : length A + (i - length A) ≡ i = omega (arith, past) in
            let a = await_behind p (suc place) xs (All-tail (Joins p) x xs all) (i - length A) w n (sym (ap (slice_get (A ++ R)) (sym more) ∙ get-behind A R (i - length A)) ∙ e) g in
            let next : i + 1 ≡ length A + (i - length A + 1) = omega (arith, more) in
            (a.0, ap (slice_get (A ++ R)) next ∙ get-behind A R (i - length A + 1) ∙ a.1)
      ]

  positive : (k : ℕ) (xs : List Act) → 1 ≤ arrivals (take k xs) → 0 < k
  positive zero xs some = absurd (omega (arith, some))
  positive (suc k) xs some = omega arith

  -- who has arrived as often as one who awaits there has done the post
  pub seen : (p q place : ℕ) (xs : List Moment) → All (Joins p) xs → All (Joins q) xs → (i k : ℕ) (w : Word) (o n : ℕ) → slice_get (acts_from p place xs) i ≡ Some (await w o n) → is_arrival gathers w n ≡ true → arrivals (take i (acts_from p place xs)) ≤ arrivals (take k (acts_from q place xs)) →
      (j : ℕ) × (j < k) × (slice_get (acts_from q place xs) j ≡ Some (post w n))
  seen p q place [] mine theirs i k w o n e g le = let clash : None ≡ Some (await w o n) = e in absurd (cc)
  seen p q place (x ∷ xs) mine theirs i k w o n e g le =
      let A = moment_acts p place x in
      let R = acts_from p (suc place) xs in
      let B = moment_acts q place x in
      let S = acts_from q (suc place) xs in
      let first = All-head (Joins p) x xs mine in
      let other = All-head (Joins q) x xs theirs in
      let all = moment_arrivals q place x other in
      elim (cases_lt i (length A)) [
        | inl inside ↦
            let a = await_in p q place i w o n x first other (sym (get-front A R i inside) ∙ e) g in
            let here : arrivals (take i (A ++ R)) ≡ 1 = ap arrivals (take-append-le i A R (omega (arith, inside))) ∙ a.0 in
            (0, positive k (B ++ S) (omega (arith, le, here)), get-front B S 0 (slice_get_within B 0 (post w n) a.1) ∙ a.1)
        | inr past ↦
            let more : length A + (i - length A) ≡ i = omega (arith, past) in
            let later : slice_get R (i - length A) ≡ Some (await w o n) = sym (ap (slice_get (A ++ R)) (sym more) ∙ get-behind A R (i - length A)) ∙ e in
            let here : arrivals (take i (A ++ R)) ≡ weight x + arrivals (take (i - length A) R) =
            ap (λ z. arrivals (take z (A ++ R))) (sym more) ∙ ap arrivals (take-append-add A R (i - length A)) ∙ both A (take (i - length A) R) ∙ ap (λ z. z + arrivals (take (i - length A) R)) (moment_arrivals p place x first) in
            elim (cases_lt k (length B)) [
              | inl short ↦
                  let there : arrivals (take k (B ++ S)) ≡ arrivals (take k B) = ap arrivals (take-append-le k B S (omega (arith, short))) in
                  let less = front B k in
                  let none = seen p q (suc place) xs (All-tail (Joins p) x xs mine) (All-tail (Joins q) x xs theirs) (i - length A) 0 w o n later g (omega (arith, le, here, there, less, all)) in
                  absurd (omega (arith, none.1))
              | inr long ↦
                  let rest : length B + (k - length B) ≡ k = omega (arith, long) in
                  let there : arrivals (take k (B ++ S)) ≡ weight x + arrivals (take (k - length B) S) =
                  ap (λ z. arrivals (take z (B ++ S))) (sym rest) ∙ ap arrivals (take-append-add B S (k - length B)) ∙ both B (take (k - length B) S) ∙ ap (λ z. z + arrivals (take (k - length B) S)) all in
                  let found = seen p q (suc place) xs (All-tail (Joins p) x xs mine) (All-tail (Joins q) x xs theirs) (i - length A) (k - length B) w o n later g (omega (arith, le, here, there)) in
                  (length B + found.0, omega (arith, found.1, rest), get-behind B S found.0 ∙ found.2)
            ]
      ]

  -- ---- which they are

  abbrev pub weights : List Moment → ℕ
  weights [] = 0
  weights (x ∷ xs) = weight x + weights xs

  pub weights-append : (xs ys : List Moment) → weights (xs ++ ys) ≡ weights xs + weights ys
  weights-append [] ys = omega arith
  weights-append (x ∷ xs) ys = let rest = weights-append xs ys in omega (arith, rest)

  -- an act's moment, with as many arrivals in front of the act as stand in front of the moment, and so many more
  pub record IsReachedBy (p place : ℕ) (xs : List Moment) (i : ℕ) (a : Act) (more : ℕ) : Type 0 where
    pub at : ℕ
    pub moment : Moment
    pub index : ℕ
    pub there : slice_get xs at ≡ Some moment
    pub is : slice_get (moment_acts p (place + at) moment) index ≡ Some a
    pub count : arrivals (take i (acts_from p place xs)) ≡ weights (take at xs) + more

  reached_by : (p place : ℕ) (xs : List Moment) → All (Joins p) xs → (i : ℕ) (a : Act) (more : ℕ) → ((t k : ℕ) (x : Moment) → Joins p x → slice_get (moment_acts p t x) k ≡ Some a → arrivals (take k (moment_acts p t x)) ≡ more) → slice_get (acts_from p place xs) i ≡ Some a →
      IsReachedBy p place xs i a more
  reached_by p place [] all i a more here e = let clash : None ≡ Some a = e in absurd (cc)
  reached_by p place (x ∷ xs) all i a more here e =
      let A = moment_acts p place x in
      let R = acts_from p (suc place) xs in
      let joins = All-head (Joins p) x xs all in
      elim (cases_lt i (length A)) [
        | inl inside ↦
            let mine = sym (get-front A R i inside) ∙ e in
            let same : place ≡ place + 0 = omega arith in
            record {
              at = 0;
              moment = x;
              index = i;
              there = refl;
              is = ap (λ t. slice_get (moment_acts p t x) i) (sym same) ∙ mine;
              count = ap arrivals (take-append-le i A R (omega (arith, inside))) ∙ here place i x joins mine ∙ sym (zero-add more);
            }
        | inr past ↦
            let on : length A + (i - length A) ≡ i = omega (arith, past) in
            let rest = reached_by p (suc place) xs (All-tail (Joins p) x xs all) (i - length A) a more here (sym (ap (slice_get (A ++ R)) (sym on) ∙ get-behind A R (i - length A)) ∙ e) in
            let next : suc place + rest.at ≡ place + suc rest.at = omega arith in
            let front_is : arrivals (take i (A ++ R)) ≡ weight x + arrivals (take (i - length A) R) =
            ap (λ z. arrivals (take z (A ++ R))) (sym on) ∙ ap arrivals (take-append-add A R (i - length A)) ∙ both A (take (i - length A) R) ∙ ap (λ z. z + arrivals (take (i - length A) R)) (moment_arrivals p place x joins) in
            record {
              at = suc rest.at;
              moment = rest.moment;
              index = rest.index;
              there = rest.there;
              is = ap (λ t. slice_get (moment_acts p t rest.moment) rest.index) (sym next) ∙ rest.is;
              count = omega (arith, front_is, rest.count);
            }
      ]

  -- in front of an await at a barrier stands one arrival more than in front of the barrier, in front of an arrival there none
  pub await_reached : (p place : ℕ) (xs : List Moment) → All (Joins p) xs → (i : ℕ) (w : Word) (o n : ℕ) → slice_get (acts_from p place xs) i ≡ Some (await w o n) → is_arrival gathers w n ≡ true → IsReachedBy p place xs i (await w o n) 1
  await_reached p place xs all i w o n e g = reached_by p place xs all i (await w o n) 1 (λ t k x joins h. (await_in p p t k w o n x joins joins h g).0) e

  pub post_reached : (p place : ℕ) (xs : List Moment) → All (Joins p) xs → (i : ℕ) (w : Word) (n : ℕ) → slice_get (acts_from p place xs) i ≡ Some (post w n) → IsReachedBy p place xs i (post w n) 0
  post_reached p place xs all i w n e = reached_by p place xs all i (post w n) 0 (λ t k x joins h. first_there t k x h) e
    where
      first_there : (t k : ℕ) (x : Moment) → slice_get (moment_acts p t x) k ≡ Some (post w n) → arrivals (take k (moment_acts p t x)) ≡ 0
      first_there t k (boundary v m posts awaits) h = let there = posted_there p v w m n (awaits p) (posts p) k h in ap (λ z. arrivals (take z (boundary_acts p v m (posts p) (awaits p)))) there.0
      first_there t k (job j) h = absurd (all_at IsWork (moment_acts p t (job j)) k (post w n) (owned_works p t j) h)

  -- ---- how many there are

  at_most_one : (p t n : ℕ) (posts : ℕ → Bool) (awaits : ℕ → List ℕ) → arrivals (moment_acts p t (boundary counter n posts awaits)) ≤ 1
  at_most_one p t n posts awaits = by (posts p)
    where
      few : (b : Bool) → (if b then 1 else 0) ≤ 1
      few true = omega arith
      few false = omega arith

      by : (b : Bool) → arrivals (boundary_acts p counter n b (awaits p)) ≤ 1
      by true = let all = with_post counter n (awaits p) in omega (arith, all, few (gathers n))
      by false = let none = awaits_none counter n (awaits p) in omega (arith, none)

  -- signals are no arrivals
  none_by_signals : (p t n : ℕ) (posts : ℕ → Bool) (awaits : ℕ → List ℕ) → arrivals (moment_acts p t (boundary signal n posts awaits)) ≡ 0
  none_by_signals p t n posts awaits = by (posts p)
    where
      by : (b : Bool) → arrivals (boundary_acts p signal n b (awaits p)) ≡ 0
      by true = with_post signal n (awaits p)
      by false = awaits_none signal n (awaits p)

  pub few_arrivals : (p place : ℕ) (xs : List Moment) → arrivals (acts_from p place xs) ≤ boundaries xs
  few_arrivals p place [] = omega arith
  few_arrivals p place (boundary counter n posts awaits ∷ xs) =
      let parts = both (moment_acts p place (boundary counter n posts awaits)) (acts_from p (suc place) xs) in
      omega (arith, parts, at_most_one p place n posts awaits, few_arrivals p (suc place) xs)
  few_arrivals p place (boundary signal n posts awaits ∷ xs) =
      let parts = both (moment_acts p place (boundary signal n posts awaits)) (acts_from p (suc place) xs) in
      omega (arith, parts, none_by_signals p place n posts awaits, few_arrivals p (suc place) xs)
  few_arrivals p place (job j ∷ xs) =
      let parts = both (moment_acts p place (job j)) (acts_from p (suc place) xs) in
      let none = works_none (moment_acts p place (job j)) (owned_works p place j) in
      omega (arith, parts, none, few_arrivals p (suc place) xs)
