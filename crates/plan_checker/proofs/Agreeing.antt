-- Programs that agree have the same obligations, where the conditions on their named constants are the same.
use Rattle.std.proofs.Common.{◌≡◌, ℕ, suc, ◌+◌, ◌-◌, ◌*◌, ℤ, pos, neg_ℤ, Bool, true, false, not, cond, Option, None, List, [], ◌∷◌, ◌++◌, length, map, if◌then◌else◌, refl, sym, ap, subst, ◌∙◌}
use Rattle.std.specs.List.{AllByRecursion, filter, flat_map}
use Rattle.std.proofs.lemmas.List.{length-map, map-append}
use Rattle.nest_tree.specs.declared.tree.Access.{Access}
use Rattle.nest_tree.specs.Loads.{loads_in}
use Rattle.nest_tree.specs.Tree.{Constant, Printed, value, whole, text, Work, assign, print, Head, Statement, Statements, do_loop, work, continue, done, next, Tree, param_values}
use Rattle.nest_agree.specs.Agree.{Agree, HaveSameBounds, printed_in, printed_whole, whole_in, wholes_of}
use Rattle.nest_walk.specs.Tables.{Loaded, element, array, loaded_in_item}
use Rattle.nest_rows.specs.declared.constraint.Constraint.{Constraint}
use Rattle.nest_rows.specs.Constraints.{system_of}
use Rattle.nest_rows.specs.Groups.{guard_has, loops_have}
use Rattle.nest_rows.specs.Nested.{Nested, nested_among, nested_in}
use Rattle.nest_rows.proofs.Nesting.{all-append, all-weaker}
use Rattle.owner_partition.specs.declared.anchor.Anchor.{Anchor}
use Rattle.owner_partition.specs.Cuts.{Cutting}
use Rattle.owner_partition.specs.Marks.{enters_outer}
use Rattle.sync_plan.specs.declared.plan.Plan.{Plan}
use Rattle.sync_plan.specs.Fit.{is_dealt}
use Rattle.sync_plan.specs.Shape.{wrong_field}
use Rattle.comm_system.specs.Boundaries.{Side, of_first, of_second}
use Rattle.comm_system.specs.Levels.{Order, common, levels, order_at, two_trips}
use Rattle.comm_system.specs.Obligations.{Slot, Task, anchor_at, last_of, lasts_at, numbered_from, obligations_of, owners_of, pair_tasks, paths_tasks, piece_task, pieces_from, placed_at, slot_signature, slot_tasks, slots_before, slots_between, slots_from, slots_of, trips_task, trips_tasks, zero_trip_task}
use Rattle.comm_system.specs.OwnerRows.{Piece, Placed, below, above, distance, owner_numbers, owners_have, owners_unknowns, pieces}
use Rattle.comm_system.specs.PairRows.{Sum, behind_pair, conditions_have, first_of, free_bounds, free_have, free_sums, instance_has, last_has, ordered_so, pair_rows, same_element, second_of, subscripts_of, unknowns_of}
use Rattle.comm_system.specs.Pairs.{Pair, conflict, pairs_of, pairs_within}
use Rattle.comm_system.specs.Paths.{PathLoop, line_of, loops_from, loops_outside, paths_of, zero_trip_has}
use Rattle.comm_system.specs.References.{Reference, StaticPhase, phases_among, reference_of, references_in, references_of, variable_of}
use Rattle.comm_system.specs.Shown.{is_own_in, privates_in, shared_of, shown_of}
use Rattle.comm_system.specs.Signatures.{Signature, blocked, waits}
use Rattle.comm_laws.proofs.GoodReferences.{AllIn, among_phases}
use Rattle.comm_laws.proofs.PairLists.{shown_good}

-- ---- lists

each_mapped : {X Y : Type 0} (F G : X → Y) (Q : X → Type 0) → ((x : X) → Q x → F x ≡ G x) → (xs : List X) → AllByRecursion Q xs → map F xs ≡ map G xs
each_mapped F G Q same [] h = refl
each_mapped F G Q same (x ∷ xs) h = ap (λ y. y ∷ map F xs) (same x h.0) ∙ ap (λ ys. G x ∷ ys) (each_mapped F G Q same xs h.1)

each_joined : {X Y : Type 0} (F G : X → List Y) (Q : X → Type 0) → ((x : X) → Q x → F x ≡ G x) → (xs : List X) → AllByRecursion Q xs → flat_map F xs ≡ flat_map G xs
each_joined F G Q same [] h = refl
each_joined F G Q same (x ∷ xs) h = ap (λ ys. ys ++ flat_map F xs) (same x h.0) ∙ ap (λ ys. G x ++ ys) (each_joined F G Q same xs h.1)

all_mapped : {X Y : Type 0} (F G : X → Y) → ((x : X) → F x ≡ G x) → (xs : List X) → map F xs ≡ map G xs
all_mapped F G same [] = refl
all_mapped F G same (x ∷ xs) = ap (λ y. y ∷ map F xs) (same x) ∙ ap (λ ys. G x ∷ ys) (all_mapped F G same xs)

pub all_kept : {X : Type 0} (P : X → Type 0) (p : X → Bool) (xs : List X) → AllByRecursion P xs → AllByRecursion P (filter p xs)
all_kept P p [] h = tt
all_kept P p (x ∷ xs) h = elim (p x) as (λ b. AllByRecursion P (cond b (x ∷ filter p xs) (filter p xs))) [ true ↦ (h.0, all_kept P p xs h.1) | false ↦ all_kept P p xs h.1 ]

-- ---- arrays that are printed whole have the same bounds in both

module _ (f g : Tree) where
  bounds_split : (us vs : List ℕ) → HaveSameBounds f g (us ++ vs) → HaveSameBounds f g us × HaveSameBounds f g vs
  bounds_split [] vs h = (tt, h)
  bounds_split (u ∷ us) vs h = (let rest = bounds_split us vs h.1 in ((h.0, rest.0), rest.1))

  abbrev HasSame : Reference → Type 0
  HasSame a = free_bounds f a.what ≡ free_bounds g a.what

  loads_same : (n : Nested) (xs : List Access) → AllByRecursion HasSame (map (reference_of n false) (map element xs))
  loads_same n [] = tt
  loads_same n (x ∷ xs) = (refl, loads_same n xs)

  printed_same : (n : Nested) (ps : List Printed) → HaveSameBounds f g (flat_map whole_in ps) → AllByRecursion HasSame (map (reference_of n false) (flat_map loaded_in_item ps))
  printed_same n [] h = tt
  printed_same n (value e ∷ ps) h =
      subst (AllByRecursion HasSame) (sym (map-append (reference_of n false) (map element (loads_in e)) (flat_map loaded_in_item ps)))
      (all-append HasSame (map (reference_of n false) (map element (loads_in e))) (map (reference_of n false) (flat_map loaded_in_item ps)) (loads_same n (loads_in e)) (printed_same n ps h))
  printed_same n (whole v ∷ ps) h = (h.0, printed_same n ps h.1)
  printed_same n (text c ∷ ps) h = printed_same n ps h

  work_same : (around : List Head) (w : Work) → HaveSameBounds f g (wholes_of w) → AllByRecursion HasSame (references_in (record { what = w; around = around }))
  work_same around (assign a) h =
      let n : Nested = record { what = assign a; around = around } in
      all-append HasSame (map (reference_of n false) (map element (loads_in a.value))) (map (λ x. reference_of n true (element x)) (a.target ∷ [])) (loads_same n (loads_in a.value)) (refl, tt)
  work_same around (print p) h =
      let n : Nested = record { what = print p; around = around } in
      all-append HasSame (map (reference_of n false) (flat_map loaded_in_item p.items)) [] (printed_same n p.items h) tt

  abbrev HaveSame : Nested → Type 0
  HaveSame n = AllByRecursion HasSame (references_in n)

  mutual
    nested_same : (around : List Head) (s : Statement) → HaveSameBounds f g (printed_in s) → AllByRecursion HaveSame (nested_in around s)
    nested_same around (do_loop head body) h = nesteds_same (around ++ head ∷ []) body h
    nested_same around (work w) h = (work_same around w h, tt)
    nested_same around (continue line) h = tt

    nesteds_same : (around : List Head) (ss : Statements) → HaveSameBounds f g (printed_whole ss) → AllByRecursion HaveSame (nested_among around ss)
    nesteds_same around done h = tt
    nesteds_same around (next s rest) h =
        let parts = bounds_split (printed_in s) (printed_whole rest) h in
        all-append HaveSame (nested_in around s) (nested_among around rest) (nested_same around s parts.0) (nesteds_same around rest parts.1)

  flat_same : (ns : List Nested) → AllByRecursion HaveSame ns → AllByRecursion HasSame (flat_map references_in ns)
  flat_same [] h = tt
  flat_same (n ∷ ns) h = all-append HasSame (references_in n) (flat_map references_in ns) h.0 (flat_same ns h.1)

  abbrev PhaseSame : StaticPhase → Type 0
  PhaseSame s = AllByRecursion HasSame (references_of s)

  phases_same : (enters : ℕ → Bool) (ss : Statements) → HaveSameBounds f g (printed_whole ss) → AllByRecursion PhaseSame (phases_among enters [] ss)
  phases_same enters ss h =
      all-weaker (AllIn HaveSame) PhaseSame (phases_among enters [] ss) (λ s all. flat_same (nested_in s.outer s.what) all) (among_phases HaveSame enters [] ss (nesteds_same [] ss h))

  -- pairs, and slots
  abbrev PairSame : Pair → Type 0
  PairSame pair = HasSame pair.first × HasSame pair.second

  seconds_same : (a : Reference) (p : Reference → Bool) (bs : List Reference) → HasSame a → AllByRecursion HasSame bs → AllByRecursion PairSame (map (λ b. record { first = a; second = b }) (filter p bs))
  seconds_same a p [] h all = tt
  seconds_same a p (b ∷ bs) h all = by (p b) (seconds_same a p bs h all.1)
    where
      by : (t : Bool) → AllByRecursion PairSame (map (λ b. record { first = a; second = b }) (filter p bs)) → AllByRecursion PairSame (map (λ b. record { first = a; second = b }) (cond t (b ∷ filter p bs) (filter p bs)))
      by true rest = ((h, all.0), rest)
      by false rest = rest

  firsts_same : (xs bs : List Reference) → AllByRecursion HasSame xs → AllByRecursion HasSame bs → AllByRecursion PairSame (flat_map (λ a. map (λ b. record { first = a; second = b }) (filter (conflict a) bs)) xs)
  firsts_same [] bs h k = tt
  firsts_same (a ∷ xs) bs h k =
      let here : List Pair = map (λ b. record { first = a; second = b }) (filter (conflict a) bs) in
      let later : List Pair = flat_map (λ a. map (λ b. record { first = a; second = b }) (filter (conflict a) bs)) xs in
      all-append PairSame here later (seconds_same a (conflict a) bs h.0 k) (firsts_same xs bs h.1 k)

  pairs_same : (cut : Cutting) (s t : StaticPhase) → PhaseSame s → PhaseSame t → AllByRecursion PairSame (pairs_of cut s t)
  pairs_same cut s t h k =
      firsts_same (shown_of cut s) (shown_of cut t) (shown_good HasSame (privates_in cut s.what) [] (references_of s) h) (shown_good HasSame (privates_in cut t.what) [] (references_of t) k)

  within_same : (cut : Cutting) (s : StaticPhase) → PhaseSame s → AllByRecursion PairSame (pairs_within cut s)
  within_same cut s h = firsts_same (shared_of cut s) (references_of s) (all_kept HasSame (λ r. not (is_own_in cut s r)) (references_of s) h) h

  abbrev SlotSame : Slot → Type 0
  SlotSame x = PhaseSame x.first × PhaseSame x.second

  levels_same : (s : ℕ) (first : StaticPhase) (t : ℕ) (second : StaticPhase) → PhaseSame first → PhaseSame second → (ls : List ℕ) → AllByRecursion SlotSame (map (λ level. record { s = s; first = first; t = t; second = second; level = level }) ls)
  levels_same s first t second h k [] = tt
  levels_same s first t second h k (l ∷ ls) = ((h, k), levels_same s first t second h k ls)

  before_same : (s : ℕ) (firsts : List StaticPhase) (t : ℕ) (second : StaticPhase) → AllByRecursion PhaseSame firsts → PhaseSame second → AllByRecursion SlotSame (slots_before s firsts t second)
  before_same s [] t second h k = tt
  before_same s (first ∷ rest) t second h k =
      all-append SlotSame (slots_between s first t second) (slots_before (suc s) rest t second) (levels_same s first t second h.0 k (levels (common first.outer second.outer) s t)) (before_same (suc s) rest t second h.1 k)

  from_same : (all : List StaticPhase) (t : ℕ) (rest : List StaticPhase) → AllByRecursion PhaseSame all → AllByRecursion PhaseSame rest → AllByRecursion SlotSame (slots_from all t rest)
  from_same all t [] h k = tt
  from_same all t (second ∷ rest) h k = all-append SlotSame (slots_before 1 all t second) (slots_from all (suc t) rest) (before_same 1 all t second h k.0) (from_same all (suc t) rest h k.1)

-- ---- the systems

module _ (f g : Tree) (plan : Plan) (long : length f.params ≡ length g.params) (conds : conditions_have (param_values f) plan.conditions ≡ conditions_have (param_values g) plan.conditions) where
  first : first_of f ≡ first_of g
  first = ap (λ n. n + 1) long

  unknowns : (a : Reference) → HasSame f g a → unknowns_of f a ≡ unknowns_of g a
  unknowns a h = ap (λ (bs : List (ℤ × ℤ)). 2 * length a.around + length bs) h

  second : (pair : Pair) → PairSame f g pair → second_of f pair ≡ second_of g pair
  second pair h = ap (λ n. n + unknowns_of f pair.first) first ∙ ap (λ n. first_of g + n) (unknowns pair.first h.0)

  behind : (pair : Pair) → PairSame f g pair → behind_pair f pair ≡ behind_pair g pair
  behind pair h = ap (λ n. n + unknowns_of f pair.second) (second pair h) ∙ ap (λ n. second_of g pair + n) (unknowns pair.second h.1)

  instance : (n : ℕ) (last : Option ℕ) (a : Reference) → HasSame f g a → instance_has f n last a ≡ instance_has g n last a
  instance n last a h = ap (λ bs. loops_have n a.around n a.around ++ free_have (n + 2 * length a.around) bs ++ guard_has n a.around a.guard ++ last_has last n a.around) h

  subscripts : (n : ℕ) (heads : List Head) (l : Loaded) → free_bounds f l ≡ free_bounds g l → subscripts_of f n heads l ≡ subscripts_of g n heads l
  subscripts n heads (element a) h = refl
  subscripts n heads (array v) h = ap (free_sums (n + 2 * length heads)) h

  rows : (order : Order) (lasts : Option ℕ × Option ℕ) (pair : Pair) → PairSame f g pair → pair_rows f plan.conditions order lasts pair ≡ pair_rows g plan.conditions order lasts pair
  rows order lasts pair h =
      let a = pair.first in
      let b = pair.second in
      let m = first_of f in
      let n = second_of f pair in
      let K : List Constraint → List Constraint → List Constraint → List Sum → List Sum → List Constraint = λ cs is js xs ys. cs ++ is ++ js ++ same_element xs ys ++ ordered_so m n order in
      let R : ℕ → ℕ → List Constraint = λ k l.
      conditions_have (param_values g) plan.conditions ++ instance_has g k lasts.0 a ++ instance_has g l lasts.1 b ++ same_element (subscripts_of g k a.around a.what) (subscripts_of g l b.around b.what) ++ ordered_so k l order in
      let cf = conditions_have (param_values f) plan.conditions in
      let cg = conditions_have (param_values g) plan.conditions in
      ap (λ z. K z (instance_has f m lasts.0 a) (instance_has f n lasts.1 b) (subscripts_of f m a.around a.what) (subscripts_of f n b.around b.what)) conds
      ∙ ap (λ z. K cg z (instance_has f n lasts.1 b) (subscripts_of f m a.around a.what) (subscripts_of f n b.around b.what)) (instance m lasts.0 a h.0)
      ∙ ap (λ z. K cg (instance_has g m lasts.0 a) z (subscripts_of f m a.around a.what) (subscripts_of f n b.around b.what)) (instance n lasts.1 b h.1)
      ∙ ap (λ z. K cg (instance_has g m lasts.0 a) (instance_has g n lasts.1 b) z (subscripts_of f n b.around b.what)) (subscripts m a.around a.what h.0)
      ∙ ap (λ z. K cg (instance_has g m lasts.0 a) (instance_has g n lasts.1 b) (subscripts_of g m a.around a.what) z) (subscripts n b.around b.what h.1)
      ∙ ap (λ k. R k n) first ∙ ap (R (first_of g)) (second pair h)

  trips : (s : StaticPhase) (pair : Pair) → PairSame f g pair → trips_task f plan s pair ≡ trips_task g plan s pair
  trips s pair h =
      let order = two_trips (length s.outer) in
      let K : ℕ → List Constraint → Task = λ q rs. record { system = system_of (q - 1) rs; lines = (pair.first.line, pair.second.line); variable = variable_of pair.first.what; level = 0; piece = 0; range = (pos 0, pos 0) } in
      ap (λ q. K q (pair_rows f plan.conditions order (None, None) pair)) (behind pair h) ∙ ap (K (behind_pair g pair)) (rows order (None, None) pair h)

  all_trips : (s : StaticPhase) → PhaseSame f g s → trips_tasks f plan s ≡ trips_tasks g plan s
  all_trips s h = ap (λ ts. if is_dealt plan.cut.marks s.what then ts else []) (each_mapped (trips_task f plan s) (trips_task g plan s) (PairSame f g) (trips s) (pairs_within plan.cut s) (within_same f g plan.cut s h))

  module _ (slot : Slot) (left right : ℕ) (producers : List (Anchor × Side)) (pair : Pair) (h : PairSame f g pair) where
    placed : (u : Anchor × Side) → placed_at f pair u ≡ placed_at g pair u
    placed (a, of_first) = ap (λ n. record { anchor = a; first = n; around = pair.first.around }) first
    placed (a, of_second) = ap (λ n. record { anchor = a; first = n; around = pair.second.around }) (second pair h)

    owners : owners_of f plan slot producers pair ≡ owners_of g plan slot producers pair
    owners =
        let q : Anchor × Side = (anchor_at plan slot.s, of_first) in
        let p : Anchor × Side = (anchor_at plan slot.t, of_second) in
        ap (λ o. o ∷ placed_at f pair p ∷ map (placed_at f pair) producers) (placed q)
        ∙ ap (λ o. placed_at g pair q ∷ o ∷ map (placed_at f pair) producers) (placed p)
        ∙ ap (λ os. placed_at g pair q ∷ placed_at g pair p ∷ os) (all_mapped (placed_at f pair) (placed_at g pair) placed producers)

    piece : (n : ℕ) (p : Piece) → piece_task f plan slot left right producers pair n p ≡ piece_task g plan slot left right producers pair n p
    piece n p =
        let order = order_at (common slot.first.outer slot.second.outer) slot.level in
        let lasts = lasts_at plan.cut slot pair in
        let K : ℕ → List Constraint → List Placed → Task = λ q rs os. record {
          system = system_of (q + owners_unknowns os - 1) (rs ++ owners_have plan.workers q os ++ last_of left right (owner_numbers q os) p);
          lines = (pair.first.line, pair.second.line);
          variable = variable_of pair.first.what;
          level = slot.level;
          piece = n;
          range = (neg_ℤ (pos (distance below left right)), pos (distance above left right));
        } in
        ap (λ q. K q (pair_rows f plan.conditions order lasts pair) (owners_of f plan slot producers pair)) (behind pair h)
        ∙ ap (λ rs. K (behind_pair g pair) rs (owners_of f plan slot producers pair)) (rows order lasts pair h)
        ∙ ap (K (behind_pair g pair) (pair_rows g plan.conditions order lasts pair)) owners

    all_pieces : (n : ℕ) (ps : List Piece) → pieces_from (piece_task f plan slot left right producers pair) n ps ≡ pieces_from (piece_task g plan slot left right producers pair) n ps
    all_pieces n [] = refl
    all_pieces n (p ∷ ps) =
        ap (λ t. t ∷ pieces_from (piece_task f plan slot left right producers pair) (suc n) ps) (piece n p) ∙ ap (λ ts. piece_task g plan slot left right producers pair n p ∷ ts) (all_pieces (suc n) ps)

  slot_same : (slot : Slot) (signature : Signature) → SlotSame f g slot → slot_tasks f plan slot signature ≡ slot_tasks g plan slot signature
  slot_same slot blocked h = refl
  slot_same slot (waits left right producers) h =
      each_joined (pair_tasks f plan slot left right producers) (pair_tasks g plan slot left right producers) (PairSame f g) (λ pair k. all_pieces slot left right producers pair k 1 (pieces (length producers)))
      (pairs_of plan.cut slot.first slot.second) (pairs_same f g plan.cut slot.first slot.second h.0 h.1)

  path_same : (p : PathLoop) → zero_trip_task f plan p ≡ zero_trip_task g plan p
  path_same p =
      let K : ℕ → List Constraint → Task = λ m cs. record { system = system_of (m + 2 * length (loops_outside p) - 1) (cs ++ zero_trip_has m p); lines = (line_of (loops_from p), p.store.line); variable = variable_of p.store.what; level = 0; piece = 0; range = (pos 0, pos 0) } in
      ap (λ m. K m (conditions_have (param_values f) plan.conditions)) first ∙ ap (K (first_of g)) conds

  paths_same : (s : StaticPhase) → paths_tasks f plan s ≡ paths_tasks g plan s
  paths_same s = all_mapped (zero_trip_task f plan) (zero_trip_task g plan) path_same (paths_of plan.cut s)

  abbrev tasks_among : Tree → List StaticPhase → List Task
  tasks_among tree phases =
      flat_map (trips_tasks tree plan) phases ++ flat_map (λ slot. slot_tasks tree plan slot (slot_signature plan.version plan.kinds phases slot)) (slots_of phases) ++ flat_map (paths_tasks tree plan) phases

  among_same : (phases : List StaticPhase) → AllByRecursion (PhaseSame f g) phases → tasks_among f phases ≡ tasks_among g phases
  among_same phases h =
      let slots = λ (tree : Tree). flat_map (λ (slot : Slot). slot_tasks tree plan slot (slot_signature plan.version plan.kinds phases slot)) (slots_of phases) in
      let paths = λ (tree : Tree). flat_map (paths_tasks tree plan) phases in
      ap (λ ts. (ts ++ slots f) ++ paths f) (each_joined (trips_tasks f plan) (trips_tasks g plan) (PhaseSame f g) all_trips phases h)
      ∙ ap (λ ts. (flat_map (trips_tasks g plan) phases ++ ts) ++ paths f)
      (each_joined (λ slot. slot_tasks f plan slot (slot_signature plan.version plan.kinds phases slot)) (λ slot. slot_tasks g plan slot (slot_signature plan.version plan.kinds phases slot)) (SlotSame f g)
      (λ slot k. slot_same slot (slot_signature plan.version plan.kinds phases slot) k) (slots_of phases) (from_same f g phases 1 phases h h))
      ∙ ap (λ ts. (flat_map (trips_tasks g plan) phases ++ slots g) ++ ts) (each_joined (paths_tasks f plan) (paths_tasks g plan) (PhaseSame f g) (λ s k. paths_same s) phases h)

  by_parts : f.items ≡ g.items → HaveSameBounds f g (printed_whole f.items) → obligations_of f plan ≡ obligations_of g plan
  by_parts items bounds =
      let enters = enters_outer plan.cut.marks in
      ap (numbered_from 1) (among_same (phases_among enters [] f.items) (phases_same f g enters f.items bounds) ∙ ap (λ ss. tasks_among g (phases_among enters [] ss)) items)

-- ---- programs that agree

pub same_long : (f g : Tree) → Agree f g → length f.params ≡ length g.params
same_long f g agree = sym (length-map f.params (λ (c : Constant). c.name)) ∙ ap (λ ns. length ns) agree.names ∙ length-map g.params (λ (c : Constant). c.name)

pub agreeing_obligations : (f g : Tree) (plan : Plan) → Agree f g → conditions_have (param_values f) plan.conditions ≡ conditions_have (param_values g) plan.conditions → obligations_of f plan ≡ obligations_of g plan
agreeing_obligations f g plan agree conds = by_parts f g plan (same_long f g agree) conds agree.items agree.bounds

pub agreeing_shapes : (f g : Tree) (plan : Plan) → Agree f g → wrong_field f plan ≡ wrong_field g plan
agreeing_shapes f g plan agree = rw (agree.items, same_long f g agree) refl
