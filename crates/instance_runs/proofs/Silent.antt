-- Loops without a PRINT, and how many bytes the PRINTs where a walk stops can write.
use Rattle.std.proofs.Common.{◌≡◌, ℕ, ◌+◌, ℤ, Bool, true, false, not, true≢false, if◌then◌else◌, List, [], ◌∷◌, sum_by, refl, sym, ◌∙◌, ap, inl, inr, arith}
use Rattle.std.specs.List.{flat_map}
use Rattle.std.proofs.lemmas.Bool.{cases_Bool, or_parts}
use Rattle.std.proofs.lemmas.List.Sums.{sum_by-append, sum_by-cons}
use Rattle.nest_tree.specs.Tree.{assign, print, Statement, Statements, do_loop, work, continue, done, next, Tree, param_values}
use Rattle.nest_model.specs.Instances.{Instance, head_trips, instances_in, instances_of, is_executed, no_values, with_loop, works_in}
use Rattle.nest_model.specs.Visits.{Visit, stops_in, visits, visits_in, visits_of}
use Rattle.nest_walk.specs.Walks.{enters_but}
use Rattle.seq_meaning.specs.Room.{longest_line}
use Rattle.sync_plan.specs.Fit.{has_print, have_print}
use Rattle.instance_runs.specs.Rooms.{AreSilent, IsSilent, StayOpen, instance_room, is_closed, longest_output, visit_room}

-- fewer marks
mutual
  pub silent_stays : (old new : List Bool) → StayOpen old new → (s : Statement) → IsSilent old s → IsSilent new s
  silent_stays old new stay (do_loop head body) h = (
    λ closed. elim (cases_Bool (is_closed old head.number)) [
      | inl was ↦ h.0 was
      | inr not_marked ↦ absurd (true≢false (sym closed ∙ stay head.number not_marked))
    ],
    silent_all_stay old new stay body h.1,
  )
  silent_stays old new stay (work w) h = tt
  silent_stays old new stay (continue line) h = tt

  pub silent_all_stay : (old new : List Bool) → StayOpen old new → (ss : Statements) → AreSilent old ss → AreSilent new ss
  silent_all_stay old new stay done h = tt
  silent_all_stay old new stay (next s rest) h = (silent_stays old new stay s h.0, silent_all_stay old new stay rest h.1)

-- no PRINT, no line
module _ (tree : Tree) where
  room_one : (b : Bool) (i : Instance) → longest_line tree i.what ≡ 0 → sum_by (instance_room tree) (if b then i ∷ [] else []) ≡ 0
  room_one true i none = sum_by-cons (instance_room tree) i [] ∙ omega (arith, none)
  room_one false i none = refl

  none_along : (f : ℤ → List Instance) (vs : List ℤ) → ((v : ℤ) → sum_by (instance_room tree) (f v) ≡ 0) → sum_by (instance_room tree) (flat_map f vs) ≡ 0
  none_along f [] none = refl
  none_along f (v ∷ vs) none = sum_by-append (instance_room tree) (f v) (flat_map f vs) ∙ omega (arith, none v, none_along f vs none)

  mutual
    none_in : (s : Statement) (first : ℕ) (loops : List ℤ) → has_print s ≡ false → sum_by (instance_room tree) (instances_of (param_values tree) s first loops) ≡ 0
    none_in (do_loop head body) first loops quiet =
        none_along (λ v. instances_in (param_values tree) body first (with_loop loops head.number v)) (head_trips (param_values tree) head loops) (λ v. none_among body first (with_loop loops head.number v) quiet)
    none_in (work (assign a)) first loops quiet = room_one (is_executed (assign a) loops (param_values tree)) (record { statement = first; what = assign a; loops = loops }) refl
    none_in (work (print p)) first loops quiet = absurd (true≢false quiet)
    none_in (continue line) first loops quiet = refl

    none_among : (ss : Statements) (first : ℕ) (loops : List ℤ) → have_print ss ≡ false → sum_by (instance_room tree) (instances_in (param_values tree) ss first loops) ≡ 0
    none_among done first loops quiet = refl
    none_among (next s rest) first loops quiet =
        let parts = or_parts (has_print s) (have_print rest) quiet in
        sum_by-append (instance_room tree) (instances_of (param_values tree) s first loops) (instances_in (param_values tree) rest (first + works_in s) loops)
        ∙ omega (arith, none_in s first loops parts.0, none_among rest (first + works_in s) loops parts.1)

  -- where a walk stops, and all instances
  module _ (marks : List Bool) where
    same_along : (f : ℤ → List Visit) (g : ℤ → List Instance) (vs : List ℤ) → ((v : ℤ) → sum_by (visit_room tree) (f v) ≡ sum_by (instance_room tree) (g v)) → sum_by (visit_room tree) (flat_map f vs) ≡ sum_by (instance_room tree) (flat_map g vs)
    same_along f g [] same = refl
    same_along f g (v ∷ vs) same = sum_by-append (visit_room tree) (f v) (flat_map f vs) ∙ omega (arith, same v, same_along f g vs same, sum_by-append (instance_room tree) (g v) (flat_map g vs))

    mutual
      rooms_in : (s : Statement) (place first : ℕ) (loops : List ℤ) → IsSilent marks s → sum_by (visit_room tree) (visits_of (param_values tree) (enters_but marks) s place first loops) ≡ sum_by (instance_room tree) (instances_of (param_values tree) s first loops)
      rooms_in (do_loop head body) place first loops h =
          let inside = flat_map (λ v. visits_in (param_values tree) (enters_but marks) body place first (with_loop loops head.number v)) (head_trips (param_values tree) head loops) in
          let stop : Visit = record { place = place; first = first; what = do_loop head body; loops = loops } in
          let all = sum_by (instance_room tree) (instances_of (param_values tree) (do_loop head body) first loops) in
          elim (cases_Bool (is_closed marks head.number)) [
            | inl closed ↦ ap (λ b. sum_by (visit_room tree) (if not b then inside else stop ∷ [])) closed ∙ sum_by-cons (visit_room tree) stop [] ∙ sym (none_in (do_loop head body) first loops (h.0 closed))
            | inr entered ↦ ap (λ b. sum_by (visit_room tree) (if not b then inside else stop ∷ [])) entered
                ∙ same_along (λ v. visits_in (param_values tree) (enters_but marks) body place first (with_loop loops head.number v)) (λ v. instances_in (param_values tree) body first (with_loop loops head.number v)) (head_trips (param_values tree) head loops)
                (λ v. rooms_among body place first (with_loop loops head.number v) h.1)
          ]
      rooms_in (work (assign a)) place first loops h =
          let stop : Visit = record { place = place; first = first; what = work (assign a); loops = loops } in
          sum_by-cons (visit_room tree) stop [] ∙ sym (none_in (work (assign a)) first loops refl)
      rooms_in (work (print p)) place first loops h =
          let stop : Visit = record { place = place; first = first; what = work (print p); loops = loops } in
          sum_by-cons (visit_room tree) stop [] ∙ sym (sum_by-cons (instance_room tree) (record { statement = first; what = print p; loops = loops }) [])
      rooms_in (continue line) place first loops h = refl

      rooms_among : (ss : Statements) (place first : ℕ) (loops : List ℤ) → AreSilent marks ss → sum_by (visit_room tree) (visits_in (param_values tree) (enters_but marks) ss place first loops) ≡ sum_by (instance_room tree) (instances_in (param_values tree) ss first loops)
      rooms_among done place first loops h = refl
      rooms_among (next s rest) place first loops h =
          sum_by-append (visit_room tree) (visits_of (param_values tree) (enters_but marks) s place first loops) (visits_in (param_values tree) (enters_but marks) rest (place + stops_in (enters_but marks) s) (first + works_in s) loops)
          ∙ omega (
            arith,
            rooms_in s place first loops h.0,
            rooms_among rest (place + stops_in (enters_but marks) s) (first + works_in s) loops h.1,
            sum_by-append (instance_room tree) (instances_of (param_values tree) s first loops) (instances_in (param_values tree) rest (first + works_in s) loops),
          )

    pub room_of_walk : AreSilent marks tree.items → sum_by (visit_room tree) (visits tree (enters_but marks)) ≡ longest_output tree
    room_of_walk silent = rooms_among tree.items 1 1 (no_values tree) silent
