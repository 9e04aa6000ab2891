-- The obligations of groups, one behind another, are those of the plan.
use Rattle.std.proofs.Common.{◌≡◌, ℕ, suc, ◌+◌, ◌-◌, ◌≤◌, nat_le, Bool, true, false, None, List, [], ◌∷◌, ◌++◌, append_assoc, length, map, take, drop, if◌then◌else◌, refl, ap, sym, ◌∙◌, subst, inl, inr, arith, length-append, length-take-le, take-append-drop}
use Rattle.std.specs.List.{flat_map, slice_get}
use Rattle.std.proofs.Math.Seq.{take-append-add}
use Rattle.std.proofs.lemmas.Bool.{cases_Bool, leb-false, leb-true}
use Rattle.std.proofs.lemmas.Grind.{flat_map-append}
use Rattle.std.proofs.lemmas.List.{append-nil, same_from_push, take_all}
use Rattle.std.proofs.lemmas.Option.{slice_get_past}
use Rattle.list_lemmas.proofs.Gets.{get-front, get-behind}
use Rattle.nest_tree.specs.Tree.{Tree}
use Rattle.owner_partition.specs.declared.anchor.Anchor.{Anchor}
use Rattle.sync_plan.specs.declared.plan.Plan.{Plan}
use Rattle.sync_plan.specs.Fit.{is_dealt}
use Rattle.conflict_rules.specs.Boundaries.{Side}
use Rattle.conflict_rules.specs.Slots.{Slot}
use Rattle.comm_system.specs.Obligations.{Task, numbered_from, obligations_of, pair_tasks, paths_tasks, piece_task, pieces_from, slot_signature, slot_tasks, slots_of, tasks_of, trips_task, trips_tasks, zero_trip_task}
use Rattle.comm_system.specs.OwnerRows.{Piece, pieces}
use Rattle.comm_system.specs.Pairs.{Pair, pairs_of, pairs_within}
use Rattle.comm_system.specs.Paths.{PathLoop, paths_of}
use Rattle.conflict_rules.specs.References.{StaticPhase, phases_of}
use Rattle.comm_system.specs.Signatures.{Signature, blocked, waits}
use Rattle.comm_system.specs.Subjects.{Group, Listed, Subject, count_about, groups_of, obligations_in, of_path, of_slot, of_trips, paths_subjects, slot_subjects, subjects_of, tasks_about, trips_subjects, with_subject, with_subjects}
use Rattle.comm_system.specs.declared.obligation.Obligation.{Obligation}

-- ---- numbers

pub numbered_behind : (n : ℕ) (xs ys : List Task) → numbered_from n (xs ++ ys) ≡ numbered_from n xs ++ numbered_from (n + length xs) ys
numbered_behind n [] ys = let same : n + 0 ≡ n = omega arith in ap (λ m. numbered_from m ys) (sym same)
numbered_behind n (x ∷ xs) ys =
    let same : suc n + length xs ≡ n + suc (length xs) = omega arith in
    ap (λ os. record { number = n; system = x.system; lines = x.lines; variable = x.variable; level = x.level; piece = x.piece; range = x.range } ∷ os) (numbered_behind (suc n) xs ys ∙ ap (λ m. numbered_from (suc n) xs ++ numbered_from m ys) same)

pub numbered_length : (n : ℕ) (xs : List Task) → length (numbered_from n xs) ≡ length xs
numbered_length n [] = refl
numbered_length n (x ∷ xs) = ap suc (numbered_length (suc n) xs)

pub pieces_length : (f : ℕ → Piece → Task) (n : ℕ) (ps : List Piece) → length (pieces_from f n ps) ≡ length ps
pieces_length f n [] = refl
pieces_length f n (p ∷ ps) = ap suc (pieces_length f (suc n) ps)

pub count_is : (tree : Tree) (plan : Plan) (s : Subject) → length (tasks_about tree plan s) ≡ count_about s
count_is tree plan (of_trips s pair) = refl
count_is tree plan (of_path p) = refl
count_is tree plan (of_slot slot left right producers pair) = pieces_length (piece_task tree plan slot left right producers pair) 1 (pieces (length producers))

-- ---- the systems of all subjects are those of the plan

trips_systems : (tree : Tree) (plan : Plan) (s : StaticPhase) (ps : List Pair) → flat_map (tasks_about tree plan) (map (of_trips s) ps) ≡ map (trips_task tree plan s) ps
trips_systems tree plan s [] = refl
trips_systems tree plan s (p ∷ ps) = ap (λ ts. trips_task tree plan s p ∷ ts) (trips_systems tree plan s ps)

phase_systems : (tree : Tree) (plan : Plan) (s : StaticPhase) → flat_map (tasks_about tree plan) (trips_subjects plan s) ≡ trips_tasks tree plan s
phase_systems tree plan s = by (is_dealt plan.cut.marks s.what)
  where
    by : (b : Bool) → flat_map (tasks_about tree plan) (if b then map (of_trips s) (pairs_within plan.cut s) else []) ≡ (if b then map (trips_task tree plan s) (pairs_within plan.cut s) else [])
    by true = trips_systems tree plan s (pairs_within plan.cut s)
    by false = refl

pub pairs_systems : (tree : Tree) (plan : Plan) (slot : Slot) (left right : ℕ) (producers : List (Anchor × Side)) (ps : List Pair) →
    flat_map (tasks_about tree plan) (map (of_slot slot left right producers) ps) ≡ flat_map (pair_tasks tree plan slot left right producers) ps
pairs_systems tree plan slot left right producers [] = refl
pairs_systems tree plan slot left right producers (p ∷ ps) = ap (λ ts. pair_tasks tree plan slot left right producers p ++ ts) (pairs_systems tree plan slot left right producers ps)

slot_systems : (tree : Tree) (plan : Plan) (slot : Slot) (signature : Signature) → flat_map (tasks_about tree plan) (slot_subjects plan.cut slot signature) ≡ slot_tasks tree plan slot signature
slot_systems tree plan slot blocked = refl
slot_systems tree plan slot (waits left right producers) = pairs_systems tree plan slot left right producers (pairs_of plan.cut slot.first slot.second)

loops_systems : (tree : Tree) (plan : Plan) (ps : List PathLoop) → flat_map (tasks_about tree plan) (map of_path ps) ≡ map (zero_trip_task tree plan) ps
loops_systems tree plan [] = refl
loops_systems tree plan (p ∷ ps) = ap (λ ts. zero_trip_task tree plan p ∷ ts) (loops_systems tree plan ps)

pub path_systems : (tree : Tree) (plan : Plan) (s : StaticPhase) → flat_map (tasks_about tree plan) (paths_subjects plan.cut s) ≡ paths_tasks tree plan s
path_systems tree plan s = loops_systems tree plan (paths_of plan.cut s)

flat_twice : {A : Type 0} (tree : Tree) (plan : Plan) (subjects : A → List Subject) (tasks : A → List Task) → ((x : A) → flat_map (tasks_about tree plan) (subjects x) ≡ tasks x) → (xs : List A) →
    flat_map (tasks_about tree plan) (flat_map subjects xs) ≡ flat_map tasks xs
flat_twice tree plan subjects tasks each [] = refl
flat_twice tree plan subjects tasks each (x ∷ xs) =
    flat_map-append (tasks_about tree plan) (subjects x) (flat_map subjects xs) ∙ ap (λ ts. ts ++ flat_map (tasks_about tree plan) (flat_map subjects xs)) (each x) ∙ ap (λ ts. tasks x ++ ts) (flat_twice tree plan subjects tasks each xs)

pub all_systems : (tree : Tree) (plan : Plan) → flat_map (tasks_about tree plan) (subjects_of tree plan) ≡ tasks_of tree plan
all_systems tree plan =
    let phases = phases_of tree plan.cut.marks in
    let signature = λ (slot : Slot). slot_signature plan.version plan.kinds phases slot in
    let first = flat_map (trips_subjects plan) phases in
    let second = flat_map (λ (slot : Slot). slot_subjects plan.cut slot (slot_signature plan.version plan.kinds phases slot)) (slots_of phases) in
    let third = flat_map (paths_subjects plan.cut) phases in
    let slots = flat_map (λ (slot : Slot). slot_tasks tree plan slot (slot_signature plan.version plan.kinds phases slot)) (slots_of phases) in
    let trips = flat_map (trips_tasks tree plan) phases in
    flat_map-append (tasks_about tree plan) (first ++ second) third
    ∙ ap (λ ts. ts ++ flat_map (tasks_about tree plan) third) (flat_map-append (tasks_about tree plan) first second
    ∙ ap (λ ts. ts ++ flat_map (tasks_about tree plan) second) (flat_twice tree plan (trips_subjects plan) (trips_tasks tree plan) (phase_systems tree plan) phases)
    ∙ ap (λ ts. trips ++ ts) (flat_twice tree plan (λ slot. slot_subjects plan.cut slot (slot_signature plan.version plan.kinds phases slot)) (λ slot. slot_tasks tree plan slot (slot_signature plan.version plan.kinds phases slot)) (λ slot. slot_systems tree plan slot (slot_signature plan.version plan.kinds phases slot)) (slots_of phases)))
    ∙ ap (λ ts. (trips ++ slots) ++ ts) (flat_twice tree plan (paths_subjects plan.cut) (paths_tasks tree plan) (path_systems tree plan) phases)

-- ---- what is listed

-- a list that has passed the number stays
stays : (most : ℕ) (l : Listed) (ss : List Subject) → nat_le l.next most ≡ false → with_subjects most l ss ≡ l
stays most l [] past = refl
stays most l (s ∷ ss) past =
    let here : with_subject most l s ≡ l = ap (λ b. if b then record { groups = l.groups ++ record { number = l.next; subject = s } ∷ []; next = l.next + count_about s } else l) past in
    ap (λ m. with_subjects most m ss) here ∙ stays most l ss past

abbrev one_more : Listed → Subject → Listed
one_more l s = record { groups = l.groups ++ record { number = l.next; subject = s } ∷ []; next = l.next + count_about s }

grows : (most : ℕ) (l : Listed) (s : Subject) → nat_le l.next most ≡ true → with_subject most l s ≡ one_more l s
grows most l s within = ap (λ b. if b then one_more l s else l) within

pub rises : (most : ℕ) (l : Listed) (ss : List Subject) → l.next ≤ (with_subjects most l ss).next
rises most l [] = omega arith
rises most l (s ∷ ss) = elim (cases_Bool (nat_le l.next most)) [
  | inl within ↦
      let rest = rises most (one_more l s) ss in
      let same = ap (λ m. (with_subjects most m ss).next) (grows most l s within) in
      omega (arith, rest, same)
  | inr past ↦ let same = ap (λ (m : Listed). m.next) (stays most l (s ∷ ss) past) in omega (arith, same)
]

-- the systems of some subjects, from a number on
abbrev made : Tree → Plan → ℕ → List Subject → List Obligation
made tree plan n ss = numbered_from n (flat_map (tasks_about tree plan) ss)

-- those of one subject more
made_more : (tree : Tree) (plan : Plan) (n : ℕ) (s : Subject) (ss : List Subject) → made tree plan n (s ∷ ss) ≡ numbered_from n (tasks_about tree plan s) ++ made tree plan (n + count_about s) ss
made_more tree plan n s ss =
    numbered_behind n (tasks_about tree plan s) (flat_map (tasks_about tree plan) ss)
    ∙ ap (λ k. numbered_from n (tasks_about tree plan s) ++ made tree plan (n + k) ss) (count_is tree plan s)

abbrev listed_obligations : Tree → Plan → Listed → List Obligation
listed_obligations tree plan l = flat_map (obligations_in tree plan) l.groups

one_behind : (tree : Tree) (plan : Plan) (l : Listed) (s : Subject) → listed_obligations tree plan (one_more l s) ≡ listed_obligations tree plan l ++ numbered_from l.next (tasks_about tree plan s)
one_behind tree plan l s =
    flat_map-append (obligations_in tree plan) l.groups (record { number = l.next; subject = s } ∷ [])
    ∙ ap (λ os. listed_obligations tree plan l ++ os) (append-nil (numbered_from l.next (tasks_about tree plan s)))

taken_behind : (xs ys : List Obligation) (k m n : ℕ) → length xs ≡ k → n ≡ k + m → take n (xs ++ ys) ≡ xs ++ take m ys
taken_behind xs ys k m n long is = ap (λ j. take j (xs ++ ys)) (is ∙ ap (λ j. j + m) (sym long)) ∙ take-append-add xs ys m

-- the obligations of the groups listed are the first of all
pub listed_are : (tree : Tree) (plan : Plan) (most : ℕ) (l : Listed) (ss : List Subject) →
    listed_obligations tree plan (with_subjects most l ss) ≡ listed_obligations tree plan l ++ take ((with_subjects most l ss).next - l.next) (made tree plan l.next ss)
listed_are tree plan most l [] =
    let none : l.next - l.next ≡ 0 = omega arith in
    sym (ap (λ n. listed_obligations tree plan l ++ take n (made tree plan l.next [])) none ∙ append-nil (listed_obligations tree plan l))
listed_are tree plan most l (s ∷ ss) = elim (cases_Bool (nat_le l.next most)) [
  | inl within ↦
      let same = ap (λ m. with_subjects most m ss) (grows most l s within) in
      let end = with_subjects most (one_more l s) ss in
      let here = numbered_from l.next (tasks_about tree plan s) in
      let later = made tree plan (l.next + count_about s) ss in
      let low : l.next + count_about s ≤ end.next = rises most (one_more l s) ss in
      let m = end.next - (l.next + count_about s) in
      let split : end.next - l.next ≡ count_about s + m = omega (arith, low) in
      let long : length here ≡ count_about s = numbered_length l.next (tasks_about tree plan s) ∙ count_is tree plan s in
      ap (listed_obligations tree plan) same
      ∙ listed_are tree plan most (one_more l s) ss
      ∙ ap (λ os. os ++ take m later) (one_behind tree plan l s)
      ∙ append_assoc (listed_obligations tree plan l) here (take m later)
      ∙ ap (λ os. listed_obligations tree plan l ++ os) (sym (ap (take (end.next - l.next)) (made_more tree plan l.next s ss) ∙ taken_behind here later (count_about s) m (end.next - l.next) long split))
      ∙ ap (λ (e : Listed). listed_obligations tree plan l ++ take (e.next - l.next) (made tree plan l.next (s ∷ ss))) (sym same)
  | inr past ↦
      let same = stays most l (s ∷ ss) past in
      let none : l.next - l.next ≡ 0 = omega arith in
      ap (listed_obligations tree plan) same
      ∙ sym (ap (λ (e : Listed). listed_obligations tree plan l ++ take (e.next - l.next) (made tree plan l.next (s ∷ ss))) same
      ∙ ap (λ n. listed_obligations tree plan l ++ take n (made tree plan l.next (s ∷ ss))) none ∙ append-nil (listed_obligations tree plan l))
]

-- how many systems there are: so many as are listed, where the number isn't passed
pub listed_all : (tree : Tree) (plan : Plan) (most : ℕ) (l : Listed) (ss : List Subject) → (with_subjects most l ss).next ≤ most → l.next + length (flat_map (tasks_about tree plan) ss) ≡ (with_subjects most l ss).next
listed_all tree plan most l [] within = omega arith
listed_all tree plan most l (s ∷ ss) within = elim (cases_Bool (nat_le l.next most)) [
  | inl here ↦
      let same = ap (λ m. (with_subjects most m ss).next) (grows most l s here) in
      let rest = listed_all tree plan most (one_more l s) ss (omega (arith, same, within)) in
      let both = length-append (tasks_about tree plan s) (flat_map (tasks_about tree plan) ss) in
      let count = count_is tree plan s in
      omega (arith, same, rest, both, count)
  | inr past ↦ let same = ap (λ (m : Listed). m.next) (stays most l (s ∷ ss) past) in let over = leb-false l.next most past in absurd (omega (arith, same, over, within))
]

-- and at least so many in any case
pub listed_some : (tree : Tree) (plan : Plan) (most : ℕ) (l : Listed) (ss : List Subject) → (with_subjects most l ss).next ≤ l.next + length (flat_map (tasks_about tree plan) ss)
listed_some tree plan most l [] = omega arith
listed_some tree plan most l (s ∷ ss) = elim (cases_Bool (nat_le l.next most)) [
  | inl here ↦
      let same = ap (λ m. (with_subjects most m ss).next) (grows most l s here) in
      let rest = listed_some tree plan most (one_more l s) ss in
      let both = length-append (tasks_about tree plan s) (flat_map (tasks_about tree plan) ss) in
      let count = count_is tree plan s in
      omega (arith, same, rest, both, count)
  | inr past ↦ let same = ap (λ (m : Listed). m.next) (stays most l (s ∷ ss) past) in omega (arith, same)
]

-- where the number isn't passed, they are all
pub listed_whole : (tree : Tree) (plan : Plan) (most n : ℕ) (ss : List Subject) → (with_subjects most (record { groups = []; next = n }) ss).next ≤ most →
    flat_map (obligations_in tree plan) (with_subjects most (record { groups = []; next = n }) ss).groups ≡ numbered_from n (flat_map (tasks_about tree plan) ss)
listed_whole tree plan most n ss within =
    let from : Listed = record { groups = []; next = n } in
    let count = listed_all tree plan most from ss within in
    let all = made tree plan n ss in
    let long = numbered_length n (flat_map (tasks_about tree plan) ss) in
    let reach : length all ≤ (with_subjects most from ss).next - n = omega (arith, count, long) in
    listed_are tree plan most from ss ∙ take_all ((with_subjects most from ss).next - n) all reach

-- the systems of two trips of a phase, and of a slot
pub of_phase : (tree : Tree) (plan : Plan) (most n : ℕ) (s : StaticPhase) (l : Listed) → l ≡ with_subjects most (record { groups = []; next = n }) (map (of_trips s) (pairs_within plan.cut s)) → l.next ≤ most →
    flat_map (obligations_in tree plan) l.groups ≡ numbered_from n (map (trips_task tree plan s) (pairs_within plan.cut s))
of_phase tree plan most n s l is within =
    let ss = map (of_trips s) (pairs_within plan.cut s) in
    let next = ap (λ (m : Listed). m.next) is in
    ap (λ (m : Listed). flat_map (obligations_in tree plan) m.groups) is ∙ listed_whole tree plan most n ss (omega (arith, next, within)) ∙ ap (numbered_from n) (trips_systems tree plan s (pairs_within plan.cut s))

pub of_waits : (tree : Tree) (plan : Plan) (most n : ℕ) (slot : Slot) (signature : Signature) (l : Listed) → l ≡ with_subjects most (record { groups = []; next = n }) (slot_subjects plan.cut slot signature) → l.next ≤ most →
    flat_map (obligations_in tree plan) l.groups ≡ numbered_from n (slot_tasks tree plan slot signature)
of_waits tree plan most n slot signature l is within =
    let next = ap (λ (m : Listed). m.next) is in
    ap (λ (m : Listed). flat_map (obligations_in tree plan) m.groups) is ∙ listed_whole tree plan most n (slot_subjects plan.cut slot signature) (omega (arith, next, within)) ∙ ap (numbered_from n) (slot_systems tree plan slot signature)

-- ---- of a plan

pub of_plan : (tree : Tree) (plan : Plan) (most : ℕ) (l : Listed) → l ≡ groups_of tree plan most → l.next ≤ most → flat_map (obligations_in tree plan) l.groups ≡ obligations_of tree plan
of_plan tree plan most l is within =
    let next = ap (λ (m : Listed). m.next) is in
    ap (λ (m : Listed). flat_map (obligations_in tree plan) m.groups) is ∙ listed_whole tree plan most 1 (subjects_of tree plan) (omega (arith, next, within)) ∙ ap (numbered_from 1) (all_systems tree plan)

abbrev start : Listed
start = record { groups = []; next = 1 }

pub groups_first : (tree : Tree) (plan : Plan) (most : ℕ) → flat_map (obligations_in tree plan) (groups_of tree plan most).groups ≡ take ((groups_of tree plan most).next - 1) (obligations_of tree plan)
groups_first tree plan most =
    listed_are tree plan most start (subjects_of tree plan) ∙ ap (λ ts. take ((groups_of tree plan most).next - 1) (numbered_from 1 ts)) (all_systems tree plan)

obligations_length : (tree : Tree) (plan : Plan) → length (flat_map (tasks_about tree plan) (subjects_of tree plan)) ≡ length (obligations_of tree plan)
obligations_length tree plan = ap length (all_systems tree plan) ∙ sym (numbered_length 1 (tasks_of tree plan))

pub groups_all : (tree : Tree) (plan : Plan) (most : ℕ) → (groups_of tree plan most).next ≤ most → length (obligations_of tree plan) + 1 ≡ (groups_of tree plan most).next
groups_all tree plan most within =
    let all = listed_all tree plan most start (subjects_of tree plan) within in
    let long = obligations_length tree plan in
    omega (arith, all, long)

pub groups_some : (tree : Tree) (plan : Plan) (most : ℕ) → (groups_of tree plan most).next ≤ length (obligations_of tree plan) + 1
groups_some tree plan most =
    let some = listed_some tree plan most start (subjects_of tree plan) in
    let long = obligations_length tree plan in
    omega (arith, some, long)

-- ---- where an obligation stands

-- the systems of the groups listed are counted, and so are those before the last group
record AreCounted (tree : Tree) (plan : Plan) (most : ℕ) (l : Listed) : Type 0 where
  pub next : length (listed_obligations tree plan l) + 1 ≡ l.next
  pub last : (gs : List Group) (g : Group) → l.groups ≡ gs ++ g ∷ [] → (length (flat_map (obligations_in tree plan) gs) + 1 ≡ g.number) × (g.number ≤ most)

counted_one : (tree : Tree) (plan : Plan) (most : ℕ) (l : Listed) (s : Subject) → l.next ≤ most → AreCounted tree plan most l → AreCounted tree plan most (one_more l s)
counted_one tree plan most l s low h =
    let more = ap length (one_behind tree plan l s) ∙ length-append (listed_obligations tree plan l) (numbered_from l.next (tasks_about tree plan s)) in
    let long = numbered_length l.next (tasks_about tree plan s) ∙ count_is tree plan s in
    record {
      next = omega (arith, h.next, more, long);
      last = λ gs g is.
          let same = same_from_push l.groups gs (record { number = l.next; subject = s }) g is in
          let number : l.next ≡ g.number = ap (λ (g : Group). g.number) same.1 in
          let before = ap (λ gs. length (flat_map (obligations_in tree plan) gs)) same.0 in
          (omega (arith, h.next, number, before), omega (arith, number, low));
    }

counted : (tree : Tree) (plan : Plan) (most : ℕ) (l : Listed) (ss : List Subject) → AreCounted tree plan most l → AreCounted tree plan most (with_subjects most l ss)
counted tree plan most l [] h = h
counted tree plan most l (s ∷ ss) h = elim (cases_Bool (nat_le l.next most)) [
  | inl within ↦
      let low : l.next ≤ most = leb-true l.next most within in
      subst (λ m. AreCounted tree plan most (with_subjects most m ss)) (sym (grows most l s within)) (counted tree plan most (one_more l s) ss (counted_one tree plan most l s low h))
  | inr past ↦ subst (AreCounted tree plan most) (sym (stays most l (s ∷ ss) past)) h
]

groups_counted : (tree : Tree) (plan : Plan) (most : ℕ) → AreCounted tree plan most (groups_of tree plan most)
groups_counted tree plan most =
    counted tree plan most start (subjects_of tree plan) (record { next = omega arith; last = λ gs g is. let long = ap length is ∙ length-append gs (g ∷ []) in absurd (omega (arith, long)) })

-- the number is that of a group listed, or past all
taken_at : (tree : Tree) (plan : Plan) (most : ℕ) → 1 ≤ most → slice_get (take ((groups_of tree plan most).next - 1) (obligations_of tree plan)) (most - 1) ≡ slice_get (obligations_of tree plan) (most - 1)
taken_at tree plan most low =
    let all = obligations_of tree plan in
    let n = (groups_of tree plan most).next - 1 in
    elim (cases_Bool (nat_le (groups_of tree plan most).next most)) [
      | inl within ↦ let long = groups_all tree plan most (leb-true (groups_of tree plan most).next most within) in ap (λ os. slice_get os (most - 1)) (take_all n all (omega (arith, long)))
      | inr past ↦
          let beyond = leb-false (groups_of tree plan most).next most past in
          let some = groups_some tree plan most in
          let long : length (take n all) ≡ n = length-take-le n all (omega (arith, some)) in
          sym (get-front (take n all) (drop n all) (most - 1) (omega (arith, long, beyond, low))) ∙ ap (λ os. slice_get os (most - 1)) (take-append-drop n all)
    ]

-- the last group listed has the obligation with this number, if there is one
pub at_last : (tree : Tree) (plan : Plan) (most : ℕ) (gs : List Group) (g : Group) → (groups_of tree plan most).groups ≡ gs ++ g ∷ [] →
    (g.number ≤ most) × (slice_get (obligations_in tree plan g) (most - g.number) ≡ slice_get (obligations_of tree plan) (most - 1))
at_last tree plan most gs g is =
    let made = obligations_in tree plan in
    let before = flat_map made gs in
    let counts = (groups_counted tree plan most).last gs g is in
    let split : before ++ made g ≡ take ((groups_of tree plan most).next - 1) (obligations_of tree plan) =
    sym (flat_map-append made gs (g ∷ []) ∙ ap (λ os. before ++ os) (append-nil (made g))) ∙ sym (ap (flat_map made) is) ∙ groups_first tree plan most in
    let place : length before + (most - g.number) ≡ most - 1 = omega (arith, counts.0, counts.1) in
    (counts.1, sym (get-behind before (made g) (most - g.number)) ∙ ap (slice_get (before ++ made g)) place ∙ ap (λ os. slice_get os (most - 1)) split ∙ taken_at tree plan most (omega (arith, counts.0, counts.1)))

-- where no group is listed, there is none
pub at_none : (tree : Tree) (plan : Plan) (most : ℕ) → 1 ≤ most → (groups_of tree plan most).groups ≡ [] → None ≡ slice_get (obligations_of tree plan) (most - 1)
at_none tree plan most low none =
    let next = (groups_counted tree plan most).next in
    let empty = ap (λ gs. length (flat_map (obligations_in tree plan) gs)) none in
    let long = groups_all tree plan most (omega (arith, next, empty, low)) in
    sym (slice_get_past (obligations_of tree plan) (most - 1) (omega (arith, long, next, empty)))
