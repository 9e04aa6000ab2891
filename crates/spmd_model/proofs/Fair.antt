-- A fair run ends: a block of steps that names every processor comes nearer to the end, or nobody can go on.
use Rattle.std.proofs.Common.{◌≡◌, ◌≢◌, ℕ, zero, suc, ◌+◌, ◌-◌, ◌<◌, ◌≤◌, ◌⊎◌, true, false, cond, List, [], ◌∷◌, ◌++◌, length, map, set, fold, Option, Some, None, refl, sym, subst, ◌∙◌, ap, inl, inr, arith}
use Rattle.std.specs.Prelude.{All, Contains, slice_index, sum_by}
use Rattle.std.specs.List.{range_with_len}
use Rattle.std.proofs.lemmas.Bool.{cases_Bool, cases_eq}
use Rattle.std.proofs.lemmas.List.{get_or-set_other, get_or-set_same, map-append}
use Rattle.std.proofs.lemmas.List.Elements.{All-cons, All-contains, All-head, All-nil, All-tail}
use Rattle.std.proofs.lemmas.List.Sums.{fold-append, sum_by-cons}
use Rattle.list_lemmas.proofs.Ranges.{range_split}
use Rattle.spmd_model.specs.Fair.{IsBlock, IsFair, acts_to_go, blocks_in, can_go, can_step, first_of}
use Rattle.spmd_model.specs.Ordered.{IsSound}
use Rattle.spmd_model.specs.Reached.{HasCome}
use Rattle.spmd_model.specs.States.{State, acted, first_state, moved, next_act}
use Rattle.spmd_model.specs.Runs.{IsEnded, run_of, stepped, stepped_by}
use Rattle.spmd_model.specs.Timelines.{Machine, counter, signal}
use Rattle.spmd_model.specs.Acts.{Act, post, await, load, store, add, print, acts_of}
use Rattle.spmd_model.proofs.Keeps.{within_acts}
use Rattle.spmd_model.proofs.Runs.{come_first, come_folded, come_stepped}
use Rattle.spmd_model.proofs.Unstuck.{ended_or_goes}

-- a sum over a range in which one term is one less
same_sums : (f g : ℕ → ℕ) (a n : ℕ) → ((q : ℕ) → a ≤ q → q < a + n → g q ≡ f q) → sum_by g (range_with_len a n) ≡ sum_by f (range_with_len a n)
same_sums f g a zero h = refl
same_sums f g a (suc n) h =
    omega (arith, sum_by-cons f a (range_with_len (a + 1) n), sum_by-cons g a (range_with_len (a + 1) n), h a (omega arith) (omega arith), same_sums f g (a + 1) n (λ q low high. h q (omega arith) (omega arith)))

one_less : (f g : ℕ → ℕ) (a n p : ℕ) → a ≤ p → p < a + n → g p + 1 ≡ f p → ((q : ℕ) → q ≢ p → g q ≡ f q) → sum_by g (range_with_len a n) + 1 ≡ sum_by f (range_with_len a n)
one_less f g a zero p low high here others = absurd (omega arith)
one_less f g a (suc n) p low high here others =
    let left = sum_by-cons f a (range_with_len (a + 1) n) in
    let right = sum_by-cons g a (range_with_len (a + 1) n) in
    elim (cases_eq a p) [
      | inl e ↦ let rest = same_sums f g (a + 1) n (λ q low' high'. others q (λ (x : q ≡ p). omega arith)) in
          let mine : g a + 1 ≡ f a = subst (λ k. g k + 1 ≡ f k) (sym e) here in omega (arith, left, right, rest, mine)
      | inr ne ↦ let rest = one_less f g (a + 1) n p (omega arith) (omega arith) here others in omega (arith, left, right, rest, others a ne)
    ]

-- ---- a step

-- how many acts a processor has left
go_length : Machine → State → ℕ → ℕ
go_length m s q = length (acts_of m q) - slice_index s.positions q

moved_positions : (m : Machine) (s : State) (p : ℕ) (act : Act) → (moved (acted m s p act) p).positions ≡ set s.positions p (slice_index s.positions p + 1)
moved_positions m s p (post counter number) = refl
moved_positions m s p (post signal number) = refl
moved_positions m s p (await w on wanted) = refl
moved_positions m s p (load t cell) = refl
moved_positions m s p (store t cell) = refl
moved_positions m s p (add t cell) = refl
moved_positions m s p (print t) = refl

moved_less : (m : Machine) (s : State) (p : ℕ) (act : Act) → p < m.workers → HasCome m s → next_act m s p ≡ Some act → acts_to_go m (moved (acted m s p act) p) + 1 ≡ acts_to_go m s
unfolding acts_to_go go_length
moved_less m s p act lt law due =
    let after = moved (acted m s p act) p in
    let inside_acts = within_acts m p (slice_index s.positions p) act due in
    let inside : p < length s.positions = omega (arith, law.count, lt) in
    let moves = moved_positions m s p act in
    let mine : slice_index after.positions p ≡ slice_index s.positions p + 1 = ap (λ l. slice_index l p) moves ∙ get_or-set_same s.positions p (slice_index s.positions p + 1) 0 inside in
    one_less (go_length m s) (go_length m after) 0 m.workers p (omega arith) (omega arith) (omega (arith, mine, inside_acts))
    (λ q ne. ap (λ k. length (acts_of m q) - k) (ap (λ l. slice_index l q) moves ∙ get_or-set_other s.positions p q (slice_index s.positions p + 1) 0 ne))

-- a step that is possible comes nearer, and another changes nothing
goes_by : (m : Machine) (s : State) (p : ℕ) (o : Option Act) → p < m.workers → HasCome m s → next_act m s p ≡ o → can_go s o ≡ true → acts_to_go m (stepped_by m s p o) + 1 ≡ acts_to_go m s
goes_by m s p None lt law due can = absurd (cc)
goes_by m s p (Some act) lt law due can =
    ap (λ b. acts_to_go m (cond b (moved (acted m s p act) p) s) + 1) can ∙ moved_less m s p act lt law due

pub step_goes : (m : Machine) (s : State) (p : ℕ) → p < m.workers → HasCome m s → can_step m s p ≡ true → acts_to_go m (stepped m s p) + 1 ≡ acts_to_go m s
step_goes m s p lt law can = goes_by m s p (next_act m s p) lt law refl can

stays_by : (m : Machine) (s : State) (p : ℕ) (o : Option Act) → can_go s o ≡ false → stepped_by m s p o ≡ s
stays_by m s p None can = refl
stays_by m s p (Some act) can = ap (λ b. cond b (moved (acted m s p act) p) s) can

pub step_stays : (m : Machine) (s : State) (p : ℕ) → can_step m s p ≡ false → stepped m s p ≡ s
step_stays m s p can = stays_by m s p (next_act m s p) can

-- where nobody can go on, all have ended
pub ended_still : (m : Machine) (s : State) → IsSound m → HasCome m s → ((p : ℕ) → p < m.workers → can_step m s p ≡ false) → IsEnded m s
ended_still m s sound come still = elim (ended_or_goes m s sound come) [
  | inl ended ↦ ended
  | inr go ↦ let can : can_step m s go.processor ≡ true = ap (can_go s) go.next ∙ go.possible in let clash : true ≡ false = sym can ∙ still go.processor go.below in absurd (cc)
]

-- ---- blocks

nearer_block : (m : Machine) (s : State) (block : List ℕ) → HasCome m s → All (λ q. q < m.workers) block → acts_to_go m (fold (stepped m) s block) ≤ acts_to_go m s
nearer_block m s [] come below = omega arith
nearer_block m s (p ∷ rest) come below =
    let lt = All-head (λ q. q < m.workers) p rest below in
    let after = nearer_block m (stepped m s p) rest (come_stepped m s p lt come) (All-tail (λ q. q < m.workers) p rest below) in
    elim (cases_Bool (can_step m s p)) [
      | inl can ↦ omega (arith, after, step_goes m s p lt come can)
      | inr cannot ↦ omega (arith, after, ap (acts_to_go m) (step_stays m s p cannot))
    ]

-- a block comes nearer, or none of its steps was possible
abbrev Goes : Machine → State → List ℕ → Type 0
Goes m s block = (acts_to_go m (fold (stepped m) s block) < acts_to_go m s) ⊎ ((fold (stepped m) s block ≡ s) × All (λ q. can_step m s q ≡ false) block)

goes_block : (m : Machine) (s : State) (block : List ℕ) → HasCome m s → All (λ q. q < m.workers) block → Goes m s block
goes_block m s [] come below = inr (refl, All-nil (λ q. can_step m s q ≡ false))
goes_block m s (p ∷ rest) come below =
    let lt = All-head (λ q. q < m.workers) p rest below in
    let tail = All-tail (λ q. q < m.workers) p rest below in
    elim (cases_Bool (can_step m s p)) [
      | inl can ↦ inl (omega (arith, nearer_block m (stepped m s p) rest (come_stepped m s p lt come) tail, step_goes m s p lt come can))
      | inr cannot ↦ let folded : fold (stepped m) (stepped m s p) rest ≡ fold (stepped m) s rest = ap (λ t. fold (stepped m) t rest) (step_stays m s p cannot) in
          elim (goes_block m s rest come tail) [
            | inl less ↦ inl (omega (arith, less, ap (acts_to_go m) folded))
            | inr still ↦ inr (folded ∙ still.0, All-cons (λ q. can_step m s q ≡ false) p rest cannot still.1)
          ]
    ]

-- where nobody can go, nothing changes
stays_block : (m : Machine) (s : State) (block : List ℕ) → ((q : ℕ) → q < m.workers → can_step m s q ≡ false) → All (λ q. q < m.workers) block → fold (stepped m) s block ≡ s
stays_block m s [] still below = refl
stays_block m s (p ∷ rest) still below =
    ap (λ t. fold (stepped m) t rest) (step_stays m s p (still p (All-head (λ q. q < m.workers) p rest below))) ∙ stays_block m s rest still (All-tail (λ q. q < m.workers) p rest below)

stays_all : (m : Machine) (s : State) (blocks : List (List ℕ)) → ((q : ℕ) → q < m.workers → can_step m s q ≡ false) → All (IsBlock m.workers) blocks → fold (stepped m) s (blocks_in blocks) ≡ s
stays_all m s [] still all = refl
stays_all m s (block ∷ rest) still all =
    fold-append (stepped m) s block (blocks_in rest) ∙ ap (λ t. fold (stepped m) t (blocks_in rest)) (stays_block m s block still (All-head (IsBlock m.workers) block rest all).below)
    ∙ stays_all m s rest still (All-tail (IsBlock m.workers) block rest all)

ends : (m : Machine) (s : State) (blocks : List (List ℕ)) → IsSound m → HasCome m s → All (IsBlock m.workers) blocks → acts_to_go m s ≤ length blocks → IsEnded m (fold (stepped m) s (blocks_in blocks))
ends m s [] sound come all few = elim (ended_or_goes m s sound come) [
  | inl ended ↦ ended
  | inr go ↦ let goes = step_goes m s go.processor go.below come (ap (can_go s) go.next ∙ go.possible) in absurd (omega (arith, goes, few))
]
ends m s (block ∷ rest) sound come all few =
    let here = All-head (IsBlock m.workers) block rest all in
    let tail = All-tail (IsBlock m.workers) block rest all in
    subst (IsEnded m) (sym (fold-append (stepped m) s block (blocks_in rest))) (elim (goes_block m s block come here.below) [
      | inl less ↦ ends m (fold (stepped m) s block) rest sound (come_folded m s block come here.below) tail (omega (arith, less, few))
      | inr still ↦ let none : (q : ℕ) → q < m.workers → can_step m s q ≡ false = λ q lt. All-contains (λ k. can_step m s k ≡ false) block q still.1 (here.each q lt) in
          subst (IsEnded m) (sym (ap (λ t. fold (stepped m) t (blocks_in rest)) still.0 ∙ stays_all m s rest none tail)) (ended_still m s sound come none)
    ])

pub blocks_end : (m : Machine) (blocks : List (List ℕ)) → IsSound m → All (IsBlock m.workers) blocks → acts_to_go m (first_state m) ≤ length blocks → IsEnded m (run_of m (blocks_in blocks))
blocks_end m blocks sound all few = ends m (first_state m) blocks sound (come_first m) all few

-- ---- an order in which each processor comes again and again is made of blocks

range_below : (workers : ℕ) (order : ℕ → ℕ) → ((n : ℕ) → order n < workers) → (from n : ℕ) → All (λ p. p < workers) (map order (range_with_len from n))
range_below workers order below from zero = All-nil (λ p. p < workers)
range_below workers order below from (suc n) = All-cons (λ p. p < workers) (order from) (map order (range_with_len (from + 1) n)) (below from) (range_below workers order below (from + 1) n)

in_range : (order : ℕ → ℕ) (from n k : ℕ) → from ≤ k → k < from + n → Contains (map order (range_with_len from n)) (order k)
in_range order from zero k low high = absurd (omega (arith, low, high))
in_range order from (suc n) k low high = elim (cases_eq from k) [
  | inl here ↦ (0, omega arith, ap order here)
  | inr later ↦ let rest = in_range order (from + 1) n k (omega (arith, low, later)) (omega (arith, high)) in (suc rest.0, omega (arith, rest.1), rest.2)
]

-- behind some number all processors below n have come
abbrev HaveAllCome : (ℕ → ℕ) → ℕ → ℕ → ℕ → Type 0
HaveAllCome order from n to = (p : ℕ) → p < n → (k : ℕ) × (from ≤ k) × (k < to) × (order k ≡ p)

all_come : (workers : ℕ) (order : ℕ → ℕ) → IsFair workers order → (from n : ℕ) → n ≤ workers → (to : ℕ) × (from ≤ to) × HaveAllCome order from n to
all_come workers order fair from zero le = (from, omega arith, λ p none. absurd (omega (arith, none)))
all_come workers order fair from (suc n) le =
    let before = all_come workers order fair from n (omega (arith, le)) in
    let here = fair.again n before.0 (omega (arith, le)) in (
      here.0 + 1,
      omega (arith, before.1, here.1),
      λ p lt. elim (cases_eq p n) [
        | inl e ↦ (here.0, omega (arith, before.1, here.1), omega arith, here.2 ∙ sym e)
        | inr other ↦ let k = before.2 p (omega (arith, lt, other)) in (k.0, k.1, omega (arith, k.2, here.1), k.3)
      ],
    )

-- so many blocks from a number on
record AreBlocks (workers : ℕ) (order : ℕ → ℕ) (from count : ℕ) : Type 0 where
  blocks : List (List ℕ)
  all : All (IsBlock workers) blocks
  as_many : length blocks ≡ count
  steps : ℕ
  are : blocks_in blocks ≡ map order (range_with_len from steps)

in_blocks : (workers : ℕ) (order : ℕ → ℕ) → IsFair workers order → (from count : ℕ) → AreBlocks workers order from count
in_blocks workers order fair from zero = record { blocks = []; all = All-nil (IsBlock workers); as_many = refl; steps = 0; are = refl }
in_blocks workers order fair from (suc count) =
    let come = all_come workers order fair from workers (omega arith) in
    let n = come.0 - from in
    let to : from + n ≡ come.0 = omega (arith, come.1) in
    let rest = in_blocks workers order fair (from + n) count in
    let block = map order (range_with_len from n) in
    let is : IsBlock workers block = record {
      below = range_below workers order fair.below from n;
      each = λ p lt. let k = come.2 p lt in subst (Contains block) k.3 (in_range order from n k.0 k.1 (omega (arith, k.2, to)));
    } in
    record {
      blocks = block ∷ rest.blocks;
      all = All-cons (IsBlock workers) block rest.blocks is rest.all;
      as_many = ap suc rest.as_many;
      steps = n + rest.steps;
      are =
          ap (λ l. block ++ l) rest.are
          ∙ sym (map-append order (range_with_len from n) (range_with_len (from + n) rest.steps))
          ∙ ap (map order) (sym (range_split from n rest.steps));
    }

pub fair_ends : (m : Machine) (order : ℕ → ℕ) → IsSound m → IsFair m.workers order → (n : ℕ) × IsEnded m (run_of m (first_of order n))
fair_ends m order sound fair =
    let b = in_blocks m.workers order fair 0 (acts_to_go m (first_state m)) in
    (b.steps, subst (λ l. IsEnded m (run_of m l)) b.are (blocks_end m b.blocks sound b.all (omega (arith, b.as_many))))
