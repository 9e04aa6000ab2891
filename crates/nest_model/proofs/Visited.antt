-- The instances at the visits of a walk, whatever loops it enters, are those of the program.
use Rattle.std.proofs.Common.{◌≡◌, ℕ, ◌+◌, ℤ, Bool, true, false, List, [], ◌∷◌, ◌++◌, if◌then◌else◌, refl, ap, ◌∙◌}
use Rattle.std.specs.List.{flat_map}
use Rattle.std.proofs.lemmas.Grind.{flat_map-append}
use Rattle.std.proofs.lemmas.List.{append-nil}
use Rattle.nest_tree.specs.Tree.{Statement, Statements, do_loop, work, continue, done, next}
use Rattle.nest_model.specs.Instances.{Instance, head_trips, instances_in, instances_of, with_loop, works_in}
use Rattle.nest_model.specs.Visits.{Visit, stops_in, visits_in, visits_of}

module _ (params : List ℤ) (enters : ℕ → Bool) where
  abbrev instances_at : Visit → List Instance
  instances_at v = instances_of params v.what v.first v.loops

  abbrev all_in : List Visit → List Instance
  all_in vs = flat_map instances_at vs

  trips_same : (body : Statements) (place first n : ℕ) (loops : List ℤ) (same : (l : List ℤ) → all_in (visits_in params enters body place first l) ≡ instances_in params body first l) (vs : List ℤ) →
      all_in (flat_map (λ v. visits_in params enters body place first (with_loop loops n v)) vs) ≡ flat_map (λ v. instances_in params body first (with_loop loops n v)) vs
  trips_same body place first n loops same [] = refl
  trips_same body place first n loops same (v ∷ vs) =
      let later = flat_map (λ u. visits_in params enters body place first (with_loop loops n u)) vs in
      flat_map-append instances_at (visits_in params enters body place first (with_loop loops n v)) later
      ∙ ap (λ a. a ++ all_in later) (same (with_loop loops n v))
      ∙ ap (λ b. instances_in params body first (with_loop loops n v) ++ b) (trips_same body place first n loops same vs)

  mutual
    one_same : (s : Statement) (place first : ℕ) (loops : List ℤ) → all_in (visits_of params enters s place first loops) ≡ instances_of params s first loops
    one_same (do_loop head body) place first loops =
        let entered = trips_same body place first head.number loops (λ l. all_visited body place first l) (head_trips params head loops) in
        let whole = instances_of params (do_loop head body) first loops in
        let inside = flat_map (λ v. visits_in params enters body place first (with_loop loops head.number v)) (head_trips params head loops) in
        let stop : Visit = record { place = place; first = first; what = do_loop head body; loops = loops } in
        elim (enters head.number) as (λ b. all_in (if b then inside else stop ∷ []) ≡ whole) [
          | true ↦ entered
          | false ↦ append-nil whole
        ]
    one_same (work w) place first loops = append-nil (instances_of params (work w) first loops)
    one_same (continue line) place first loops = refl

    pub all_visited : (ss : Statements) (place first : ℕ) (loops : List ℤ) → all_in (visits_in params enters ss place first loops) ≡ instances_in params ss first loops
    all_visited done place first loops = refl
    all_visited (next s rest) place first loops =
        let behind = visits_in params enters rest (place + stops_in enters s) (first + works_in s) loops in
        flat_map-append instances_at (visits_of params enters s place first loops) behind
        ∙ ap (λ a. a ++ all_in behind) (one_same s place first loops)
        ∙ ap (λ b. instances_of params s first loops ++ b) (all_visited rest (place + stops_in enters s) (first + works_in s) loops)
