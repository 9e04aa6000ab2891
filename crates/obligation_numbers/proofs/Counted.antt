-- The obligations of a plan are as many as are counted over its static phases.
use Rattle.std.proofs.Common.{◌≡◌, ℕ, suc, ◌+◌, ◌*◌, ◌||◌, not, Bool, true, false, cond, List, [], ◌∷◌, ◌++◌, length, map, if◌then◌else◌, refl, ap, sym, ◌∙◌, arith, length-append}
use Rattle.std.specs.Prelude.{sum_by}
use Rattle.std.specs.List.{AllByRecursion, filter, flat_map}
use Rattle.std.proofs.Math.Nat.{mul-zero, suc-mul, zero-mul}
use Rattle.std.proofs.lemmas.Grind.{flat_map-append}
use Rattle.std.proofs.lemmas.List.{length-map}
use Rattle.std.proofs.lemmas.List.Concat.{length-flat_map}
use Rattle.std.proofs.lemmas.List.Sums.{sum_by-append, sum_by-cons}
use Rattle.nest_tree.specs.Tree.{Head, Statement, Statements, do_loop, work, continue, done, next, Tree}
use Rattle.nest_walk.specs.Tables.{element, loaded_in_work, stores_in}
use Rattle.nest_rows.specs.Nested.{Nested, nested_among, nested_in}
use Rattle.owner_partition.specs.Cuts.{Cutting}
use Rattle.sync_plan.specs.declared.plan.Plan.{Plan}
use Rattle.sync_plan.specs.Fit.{is_dealt}
use Rattle.sync_plan.specs.Shape.{do_rise}
use Rattle.comm_system.specs.Levels.{common, levels}
use Rattle.comm_system.specs.Obligations.{Slot, Task, obligations_of, pair_tasks, paths_tasks, piece_task, slot_signature, slot_tasks, slots_before, slots_between, slots_from, slots_of, tasks_of, trips_task, trips_tasks}
use Rattle.comm_system.specs.OwnerRows.{pieces}
use Rattle.comm_system.specs.Pairs.{Pair, conflict, pairs_among, pairs_of, pairs_within}
use Rattle.comm_system.specs.References.{Reference, StaticPhase, phases_of, reference_of, references_in, references_of, variable_of}
use Rattle.comm_system.specs.Shown.{is_among, is_own_in, is_summed, privates_in, shared_of, shown_of}
use Rattle.comm_system.specs.Signatures.{Signature, blocked, waits}
use Rattle.comm_system.proofs.GroupLists.{numbered_length, pieces_length}
use Rattle.obligation_numbers.specs.Sums.{access_sum, access_sums, shown_sum, sum_from, without, work_sum}
use Rattle.obligation_numbers.specs.Counts.{conflict_count, count_before, count_between, count_of, pair_count, path_count, paths_count, piece_count, slot_count, trips_count, within_count}
use Rattle.obligation_numbers.proofs.SeenSums.{by_key, first_stores, seen_sum}

-- sums of equal terms, of what is mapped, and of what is flattened
pub sum_same : {X : Type 0} (f g : X → ℕ) → ((x : X) → f x ≡ g x) → (xs : List X) → sum_by f xs ≡ sum_by g xs
sum_same f g each [] = refl
sum_same f g each (x ∷ xs) = omega (arith, sum_by-cons f x xs, sum_by-cons g x xs, each x, sum_same f g each xs)

pub sum_mapped : {X Y : Type 0} (f : Y → ℕ) (g : X → Y) (xs : List X) → sum_by f (map g xs) ≡ sum_by (λ x. f (g x)) xs
sum_mapped f g [] = refl
sum_mapped {X} f g (x ∷ xs) = omega (arith, sum_by-cons f (g x) (map g xs), sum_by-cons (λ (y : X). f (g y)) x xs, sum_mapped f g xs)

-- ---- the pairs of two phases

work_keys : (f : ℕ → Bool → ℕ) (n : Nested) → sum_by (by_key f) (references_in n) ≡ work_sum f n.what
work_keys f n =
    sum_by-append (by_key f) (map (reference_of n false) (loaded_in_work n.what)) (map (λ a. reference_of n true (element a)) (stores_in n.what))
    ∙ ap (λ k. k + sum_by (by_key f) (map (λ a. reference_of n true (element a)) (stores_in n.what))) (sum_mapped (by_key f) (reference_of n false) (loaded_in_work n.what))
    ∙ ap (λ k. sum_by (λ l. f (variable_of l) false) (loaded_in_work n.what) + k) (sum_mapped (by_key f) (λ a. reference_of n true (element a)) (stores_in n.what))

mutual
  keys_in : (f : ℕ → Bool → ℕ) (around : List Head) (s : Statement) → sum_by (by_key f) (flat_map references_in (nested_in around s)) ≡ access_sum f s
  keys_in f around (do_loop head body) = keys_among f (around ++ head ∷ []) body
  keys_in f around (work w) =
      let n : Nested = record { what = w; around = around } in
      sum_by-append (by_key f) (references_in n) [] ∙ ap (λ k. k + 0) (work_keys f n) ∙ (let z : work_sum f w + 0 ≡ work_sum f w = omega arith in z)
  keys_in f around (continue line) = refl

  keys_among : (f : ℕ → Bool → ℕ) (around : List Head) (ss : Statements) → sum_by (by_key f) (flat_map references_in (nested_among around ss)) ≡ access_sums f ss
  keys_among f around done = refl
  keys_among f around (next s rest) =
      ap (sum_by (by_key f)) (flat_map-append references_in (nested_in around s) (nested_among around rest))
      ∙ sum_by-append (by_key f) (flat_map references_in (nested_in around s)) (flat_map references_in (nested_among around rest))
      ∙ ap (λ k. k + sum_by (by_key f) (flat_map references_in (nested_among around rest))) (keys_in f around s)
      ∙ ap (λ k. access_sum f s + k) (keys_among f around rest)

passing : {X : Type 0} (p : X → Bool) (xs : List X) → length (filter p xs) ≡ sum_by (λ x. if p x then 1 else 0) xs
passing p [] = refl
passing {X} p (x ∷ xs) = by (p x) (passing p xs) ∙ sym (sum_by-cons (λ (y : X). if p y then 1 else 0) x xs)
  where
    by : (b : Bool) → length (filter p xs) ≡ sum_by (λ x. if p x then 1 else 0) xs → length (cond b (x ∷ filter p xs) (filter p xs)) ≡ (if b then 1 else 0) + sum_by (λ x. if p x then 1 else 0) xs
    by true later = omega (arith, later)
    by false later = omega (arith, later)

abbrev partners : List Reference → Reference → List Pair
partners seconds a = map (λ b. record { first = a; second = b }) (filter (conflict a) seconds)

partners_counted : (seconds : List Reference) (a : Reference) → length (partners seconds a) ≡ sum_by (by_key (conflict_count (variable_of a.what) a.stores)) seconds
partners_counted seconds a = length-map (filter (conflict a) seconds) (λ b. record { first = a; second = b }) ∙ passing (conflict a) seconds

among_counted : (firsts seconds : List Reference) (f : ℕ → Bool → ℕ) → ((v : ℕ) (stores : Bool) → sum_by (by_key (conflict_count v stores)) seconds ≡ f v stores) →
    length (pairs_among firsts seconds) ≡ sum_by (by_key f) firsts
among_counted firsts seconds f each =
    length-flat_map (partners seconds) firsts ∙ sum_same (λ a. length (partners seconds a)) (by_key f) (λ a. partners_counted seconds a ∙ each (variable_of a.what) a.stores) firsts

-- ---- those that others see

-- the private scalars of a phase rise, and the first access of each is a store
abbrev pub AreStoredFirst : Cutting → StaticPhase → Type 0
AreStoredFirst cut s = (do_rise 0 (privates_in cut s.what) ≡ true) × AllByRecursion (λ v. first_stores v (references_of s) ≡ true) (privates_in cut s.what)

shown_keys : (f : ℕ → Bool → ℕ) (cut : Cutting) (s : StaticPhase) → AreStoredFirst cut s → sum_by (by_key f) (shown_of cut s) ≡ shown_sum cut f s.what
shown_keys f cut s stored =
    let privates = privates_in cut s.what in
    seen_sum f privates 0 stored.0 [] (references_of s) stored.1 ∙ ap (λ k. k + sum_by (λ v. f v true) privates) (keys_in (without privates f) s.outer s.what)

pairs_counted : (cut : Cutting) (s t : StaticPhase) → AreStoredFirst cut s → AreStoredFirst cut t → length (pairs_of cut s t) ≡ pair_count cut s.what t.what
pairs_counted cut s t first second =
    let f = λ (v : ℕ) (stores : Bool). shown_sum cut (conflict_count v stores) t.what in
    among_counted (shown_of cut s) (shown_of cut t) f (λ v stores. shown_keys (conflict_count v stores) cut t second) ∙ shown_keys f cut s first

-- ---- those of two trips

kept_sum : {X : Type 0} (out : X → Bool) (f : X → ℕ) (xs : List X) → sum_by f (filter (λ x. not (out x)) xs) ≡ sum_by (λ x. if out x then 0 else f x) xs
kept_sum out f [] = refl
kept_sum {X} out f (x ∷ xs) = by (out x) (kept_sum out f xs) ∙ sym (sum_by-cons (λ (y : X). if out y then 0 else f y) x xs)
  where
    by : (b : Bool) → sum_by f (filter (λ x. not (out x)) xs) ≡ sum_by (λ x. if out x then 0 else f x) xs →
        sum_by f (cond (not b) (x ∷ filter (λ x. not (out x)) xs) (filter (λ x. not (out x)) xs)) ≡ (if b then 0 else f x) + sum_by (λ x. if out x then 0 else f x) xs
    by true later = omega (arith, later)
    by false later = omega (arith, later, sum_by-cons f x (filter (λ x. not (out x)) xs))

within_counted : (cut : Cutting) (s : StaticPhase) → length (pairs_within cut s) ≡ within_count cut s.what
within_counted cut s =
    let f = λ (v : ℕ) (stores : Bool). access_sum (conflict_count v stores) s.what in
    let out = λ (v : ℕ) (stores : Bool). if is_among (privates_in cut s.what) v || is_summed cut s.what v then 0 else f v stores in
    among_counted (shared_of cut s) (references_of s) f (λ v stores. keys_in (conflict_count v stores) s.outer s.what)
    ∙ kept_sum (is_own_in cut s) (by_key f) (references_of s) ∙ keys_in out s.outer s.what

-- ---- the systems of a phase, and of a slot

trips_counted : (tree : Tree) (plan : Plan) (n : ℕ) (s : StaticPhase) → length (trips_tasks tree plan s) ≡ trips_count plan n s
trips_counted tree plan n s = by (is_dealt plan.cut.marks s.what)
  where
    by : (b : Bool) → length (if b then map (trips_task tree plan s) (pairs_within plan.cut s) else []) ≡ (if b then within_count plan.cut s.what else 0)
    by true = length-map (pairs_within plan.cut s) (trips_task tree plan s) ∙ within_counted plan.cut s
    by false = refl

all_trips : (tree : Tree) (plan : Plan) (n : ℕ) (ps : List StaticPhase) → length (flat_map (trips_tasks tree plan) ps) ≡ sum_from (trips_count plan) n ps
all_trips tree plan n [] = refl
all_trips tree plan n (p ∷ ps) =
    length-append (trips_tasks tree plan p) (flat_map (trips_tasks tree plan) ps)
    ∙ ap (λ k. k + length (flat_map (trips_tasks tree plan) ps)) (trips_counted tree plan n p) ∙ ap (λ k. trips_count plan n p + k) (all_trips tree plan (suc n) ps)

alike : {X Y : Type 0} (f : X → List Y) (n : ℕ) → ((x : X) → length (f x) ≡ n) → (xs : List X) → length (flat_map f xs) ≡ length xs * n
alike f n each [] = sym (zero-mul n)
alike f n each (x ∷ xs) = length-append (f x) (flat_map f xs) ∙ ap (λ k. k + length (flat_map f xs)) (each x) ∙ ap (λ k. n + k) (alike f n each xs)
    ∙ (let swap : n + length xs * n ≡ length xs * n + n = omega arith in swap) ∙ sym (suc-mul (length xs) n)

slot_counted : (tree : Tree) (plan : Plan) (x : Slot) → AreStoredFirst plan.cut x.first → AreStoredFirst plan.cut x.second → (signature : Signature) →
    length (slot_tasks tree plan x signature) ≡ pair_count plan.cut x.first.what x.second.what * piece_count signature
slot_counted tree plan x first second blocked = sym (mul-zero (pair_count plan.cut x.first.what x.second.what))
slot_counted tree plan x first second (waits left right producers) =
    alike (pair_tasks tree plan x left right producers) (length (pieces (length producers))) (λ pair. pieces_length (piece_task tree plan x left right producers pair) 1 (pieces (length producers))) (pairs_of plan.cut x.first x.second)
    ∙ ap (λ k. k * length (pieces (length producers))) (pairs_counted plan.cut x.first x.second first second)

-- ---- the systems of all slots

module _ (tree : Tree) (plan : Plan) (phases : List StaticPhase) where
  abbrev tasks_at : Slot → List Task
  tasks_at x = slot_tasks tree plan x (slot_signature plan.version plan.kinds phases x)

  abbrev at_level : ℕ → StaticPhase → ℕ → StaticPhase → ℕ → Slot
  at_level s first t second level = record { s = s; first = first; t = t; second = second; level = level }

  level_counted : (s : ℕ) (first : StaticPhase) (t : ℕ) (second : StaticPhase) → AreStoredFirst plan.cut first → AreStoredFirst plan.cut second → (ls : List ℕ) →
      sum_by (λ x. length (tasks_at x)) (map (at_level s first t second) ls) ≡ sum_by (λ level. slot_count plan phases (at_level s first t second level)) ls
  level_counted s first t second stored stored' ls =
      sum_mapped (λ x. length (tasks_at x)) (at_level s first t second) ls
      ∙ sum_same (λ level. length (tasks_at (at_level s first t second level))) (λ level. slot_count plan phases (at_level s first t second level))
      (λ level. let x = at_level s first t second level in slot_counted tree plan x stored stored' (slot_signature plan.version plan.kinds phases x)) ls

  between : (s : ℕ) (first : StaticPhase) (t : ℕ) (second : StaticPhase) → AreStoredFirst plan.cut first → AreStoredFirst plan.cut second → length (flat_map tasks_at (slots_between s first t second)) ≡ count_between plan phases t second s first
  between s first t second stored stored' =
      let ls = levels (common first.outer second.outer) s t in
      length-flat_map tasks_at (map (at_level s first t second) ls) ∙ level_counted s first t second stored stored' ls

  before : (s : ℕ) (firsts : List StaticPhase) (t : ℕ) (second : StaticPhase) → AllByRecursion (AreStoredFirst plan.cut) firsts → AreStoredFirst plan.cut second →
      length (flat_map tasks_at (slots_before s firsts t second)) ≡ sum_from (count_between plan phases t second) s firsts
  before s [] t second stored stored' = refl
  before s (first ∷ rest) t second stored stored' =
      ap length (flat_map-append tasks_at (slots_between s first t second) (slots_before (suc s) rest t second))
      ∙ length-append (flat_map tasks_at (slots_between s first t second)) (flat_map tasks_at (slots_before (suc s) rest t second))
      ∙ ap (λ k. k + length (flat_map tasks_at (slots_before (suc s) rest t second))) (between s first t second stored.0 stored')
      ∙ ap (λ k. count_between plan phases t second s first + k) (before (suc s) rest t second stored.1 stored')

  all_slots : (t : ℕ) (seconds : List StaticPhase) → AllByRecursion (AreStoredFirst plan.cut) phases → AllByRecursion (AreStoredFirst plan.cut) seconds →
      length (flat_map tasks_at (slots_from phases t seconds)) ≡ sum_from (count_before plan phases) t seconds
  all_slots t [] stored stored' = refl
  all_slots t (second ∷ rest) stored stored' =
      ap length (flat_map-append tasks_at (slots_before 1 phases t second) (slots_from phases (suc t) rest))
      ∙ length-append (flat_map tasks_at (slots_before 1 phases t second)) (flat_map tasks_at (slots_from phases (suc t) rest))
      ∙ ap (λ k. k + length (flat_map tasks_at (slots_from phases (suc t) rest))) (before 1 phases t second stored stored'.0)
      ∙ ap (λ k. count_before plan phases t second + k) (all_slots (suc t) rest stored stored'.1)

-- ---- those of the paths

abbrev pub ArePathsCounted : Tree → Plan → StaticPhase → Type 0
ArePathsCounted tree plan s = length (paths_tasks tree plan s) ≡ path_count plan.cut s.what

all_paths : (tree : Tree) (plan : Plan) (n : ℕ) (ps : List StaticPhase) → AllByRecursion (ArePathsCounted tree plan) ps → length (flat_map (paths_tasks tree plan) ps) ≡ sum_from (paths_count plan) n ps
all_paths tree plan n [] counted = refl
all_paths tree plan n (p ∷ ps) counted =
    length-append (paths_tasks tree plan p) (flat_map (paths_tasks tree plan) ps)
    ∙ ap (λ k. k + length (flat_map (paths_tasks tree plan) ps)) counted.0 ∙ ap (λ k. path_count plan.cut p.what + k) (all_paths tree plan (suc n) ps counted.1)

pub all_counted : (tree : Tree) (plan : Plan) → AllByRecursion (AreStoredFirst plan.cut) (phases_of tree plan.cut.marks) → AllByRecursion (ArePathsCounted tree plan) (phases_of tree plan.cut.marks) → length (obligations_of tree plan) ≡ count_of tree plan
all_counted tree plan stored counted =
    let phases = phases_of tree plan.cut.marks in
    let trips = flat_map (trips_tasks tree plan) phases in
    let slots = flat_map (tasks_at tree plan phases) (slots_of phases) in
    let paths = flat_map (paths_tasks tree plan) phases in
    numbered_length 1 (tasks_of tree plan) ∙ length-append (trips ++ slots) paths ∙ ap (λ k. k + length paths) (length-append trips slots)
    ∙ ap (λ k. k + length slots + length paths) (all_trips tree plan 1 phases) ∙ ap (λ k. sum_from (trips_count plan) 1 phases + k + length paths) (all_slots tree plan phases 1 phases stored stored)
    ∙ ap (λ k. sum_from (trips_count plan) 1 phases + sum_from (count_before plan phases) 1 phases + k) (all_paths tree plan 1 phases counted)
