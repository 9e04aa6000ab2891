-- A processor's acts, one behind another, by what they do.
use Rattle.std.proofs.Common.{◌≡◌, ◌==◌, ℕ, suc, ◌-◌, Bool, true, false, List, [], ◌∷◌, ◌++◌, map, Option, Some, None, refl, ap, ◌∙◌, inl, inr, arith, if◌then◌else◌}
use Rattle.std.specs.Prelude.{slice_get}
use Rattle.std.specs.List.{flat_map}
use Rattle.std.proofs.lemmas.List.{map-append}
use Rattle.nest_tree.specs.Tree.{Tree, param_values}
use Rattle.nest_model.specs.Visits.{Visit}
use Rattle.owner_partition.specs.declared.anchor.Anchor.{Anchor}
use Rattle.owner_partition.specs.Phases.{phases}
use Rattle.sync_plan.specs.declared.plan.Plan.{Plan}
use Rattle.spmd_model.specs.Timelines.{Job, Machine, Moment, Word, boundary, job}
use Rattle.spmd_model.specs.Acts.{Act, post, await, load, store, add, print, acts_from, boundary_acts, job_acts, last_act, moment_acts}
use Rattle.spmd_model.specs.States.{State, acted, assigned_by, is_possible, line_by}
use Rattle.spmd_model.specs.Deeds.{posting, awaiting, loading, storing, adding, printing, boundary_deeds, can_do, deed_of, did, job_deeds, last_deed, moment_deeds}
use Rattle.std.proofs.lemmas.Option.{slice_get_cases, slice_get_within}
use Rattle.nest_tree.specs.Limits.{no_ends}
use Rattle.nest_tree.specs.WellFormed.{IsWellFormed, scope_of}
use Rattle.nest_model.specs.Visits.{stops_of}
use Rattle.nest_walk.specs.Texts.{placed}
use Rattle.owner_partition.specs.Marks.{enters_outer}
use Rattle.owner_partition.specs.Placement.{ends_among}
use Rattle.sync_plan.specs.Fit.{IsFit}
use Rattle.sync_plan.proofs.Fits.{fit_parts}
use Rattle.sync_plan.proofs.PhasePlaces.{IsThereFrom, all_there}
use Rattle.owner_partition.proofs.Sites.{all_at}
use Rattle.spmd_model.proofs.LastValues.{StandsFrom, stands_here, stands_later}

-- ---- the deeds of acts

awaits_deeds : (m : Machine) (w : Word) (n : ℕ) (awaited : List ℕ) → map (deed_of m) (map (λ q. await w q n) awaited) ≡ map (λ q. awaiting w q n) awaited
awaits_deeds m w n [] = refl
awaits_deeds m w n (q ∷ rest) = ap (λ l. awaiting w q n ∷ l) (awaits_deeds m w n rest)

boundary_is : (m : Machine) (w : Word) (p n : ℕ) (posts : Bool) (awaited : List ℕ) → map (deed_of m) (boundary_acts p w n posts awaited) ≡ boundary_deeds w n posts awaited
boundary_is m w p n true awaited = ap (λ l. posting w n ∷ l) (awaits_deeds m w n awaited)
boundary_is m w p n false awaited = awaits_deeds m w n awaited

loads_deeds : (m : Machine) (t : ℕ) (loads : List ℕ) → map (deed_of m) (map (load t) loads) ≡ map loading loads
loads_deeds m t [] = refl
loads_deeds m t (c ∷ rest) = ap (λ l. loading c ∷ l) (loads_deeds m t rest)

last_is : (m : Machine) (t : ℕ) (j : Job) (o : Option ℕ) (adds : Bool) → slice_get m.timeline t ≡ Some (job j) → deed_of m (last_act t o adds) ≡ last_deed o adds j.assigned j.line
last_is m t j (Some cell) false at = ap (λ x. storing cell (assigned_by x)) at
last_is m t j (Some cell) true at = ap (λ x. adding cell (assigned_by x)) at
last_is m t j None adds at = ap (λ x. printing (line_by x)) at

job_is : (m : Machine) (t : ℕ) (j : Job) → slice_get m.timeline t ≡ Some (job j) → map (deed_of m) (job_acts t j) ≡ job_deeds j
job_is m t j at =
    map-append (deed_of m) (map (load t) j.loads) (last_act t j.store j.adds ∷ [])
    ∙ ap (λ l. l ++ deed_of m (last_act t j.store j.adds) ∷ []) (loads_deeds m t j.loads)
    ∙ ap (λ d. map loading j.loads ++ d ∷ []) (last_is m t j j.store j.adds at)

moment_is : (m : Machine) (p t : ℕ) (x : Moment) → slice_get m.timeline t ≡ Some x → map (deed_of m) (moment_acts p t x) ≡ moment_deeds p x
moment_is m p t (boundary w n posts awaits) at = boundary_is m w p n (posts p) (awaits p)
moment_is m p t (job j) at = by (j.owner == p)
  where
    by : (b : Bool) → map (deed_of m) (if b then job_acts t j else []) ≡ (if b then job_deeds j else [])
    by true = job_is m t j at
    by false = refl

pub deeds_along : (m : Machine) (p place : ℕ) (xs : List Moment) → StandsFrom m place xs → map (deed_of m) (acts_from p place xs) ≡ flat_map (moment_deeds p) xs
deeds_along m p place [] stands = refl
deeds_along m p place (x ∷ xs) stands =
    map-append (deed_of m) (moment_acts p place x) (acts_from p (suc place) xs)
    ∙ ap (λ l. l ++ map (deed_of m) (acts_from p (suc place) xs)) (moment_is m p place x (stands_here m place x xs stands))
    ∙ ap (λ l. moment_deeds p x ++ l) (deeds_along m p (suc place) xs (stands_later m place x xs stands))

-- ---- a step by its deed

pub acted_is : (m : Machine) (s : State) (p : ℕ) (a : Act) → acted m s p a ≡ did s p (deed_of m a)
acted_is m s p (post w n) = refl
acted_is m s p (await w q n) = refl
acted_is m s p (load t c) = refl
acted_is m s p (store t c) = refl
acted_is m s p (add t c) = refl
acted_is m s p (print t) = refl

pub possible_is : (m : Machine) (s : State) (a : Act) → is_possible s a ≡ can_do s (deed_of m a)
possible_is m s (post w n) = refl
possible_is m s (await w q n) = refl
possible_is m s (load t c) = refl
possible_is m s (store t c) = refl
possible_is m s (add t c) = refl
possible_is m s (print t) = refl

-- each phase of a plan that fits has an anchor
pub anchored : (tree : Tree) (plan : Plan) → IsWellFormed tree → IsFit tree plan → (k : ℕ) (v : Visit) → slice_get (phases tree plan.cut.marks) k ≡ Some v → (a : Anchor) × (slice_get plan.anchors (v.place - 1) ≡ Some a)
anchored tree plan formed fits k v at =
    let parts = fit_parts tree plan fits in
    let f = all_at (IsThereFrom (param_values tree) (scope_of tree) 1 (stops_of (enters_outer plan.cut.marks) tree.items) (placed tree (enters_outer plan.cut.marks)) (ends_among (param_values tree) (enters_outer plan.cut.marks) no_ends tree.items)) (phases tree plan.cut.marks) k v (all_there tree (enters_outer plan.cut.marks) formed) at in
    let within = slice_get_within (placed tree (enters_outer plan.cut.marks)) f.k (record { what = v.what; around = f.there.around }) f.there.at in
    elim ((slice_get_cases plan.anchors (v.place - 1)).1) [
      | inl h ↦ (h.0, h.2)
      | inr h ↦ absurd (omega (arith, h.0, f.place_is, within, parts.anchors))
    ]

-- an act that awaits
pub await_is : (m : Machine) (a : Act) (word : Word) (on wanted : ℕ) → deed_of m a ≡ awaiting word on wanted → a ≡ await word on wanted
await_is m (post w k) word on wanted h = absurd (cc)
await_is m (await w q k) word on wanted h = let of : w ≡ word = cc in let same : q ≡ on = cc in let wants : k ≡ wanted = cc in cc
await_is m (load t c) word on wanted h = absurd (cc)
await_is m (store t c) word on wanted h = absurd (cc)
await_is m (add t c) word on wanted h = absurd (cc)
await_is m (print t) word on wanted h = absurd (cc)
