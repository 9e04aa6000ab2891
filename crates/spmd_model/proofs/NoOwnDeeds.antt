-- Where no loop has own scalars, and barriers are waited for by counters, a processor's acts do what they do along the plain timeline.
use Rattle.std.proofs.Common.{◌≡◌, ℕ, suc, ◌+◌, ◌-◌, ◌++◌, false, List, [], ◌∷◌, map, Option, Some, None, refl, ap, ◌∙◌}
use Rattle.std.specs.Prelude.{slice_get}
use Rattle.std.specs.List.{flat_map}
use Rattle.std.specs.Option.{option_map, option_or}
use Rattle.std.proofs.lemmas.List.{append-nil}
use Rattle.nest_tree.specs.Layout.{first_cell}
use Rattle.nest_tree.specs.Tree.{Tree}
use Rattle.nest_model.specs.Accesses.{loads_of, store_of}
use Rattle.nest_model.specs.Instances.{Instance}
use Rattle.nest_model.specs.Memory.{assigned_value, line_of}
use Rattle.nest_model.specs.Visits.{Visit}
use Rattle.sync_plan.specs.Own.{at_slot, own_cell, own_loop, own_of, place_in}
use Rattle.sync_plan.specs.declared.plan.Plan.{Plan}
use Rattle.spmd_model.specs.Closings.{has_stored, last_owner}
use Rattle.spmd_model.specs.Deeds.{deeds_from, instance_deeds, last_deed, loading, owned_by, phase_deeds}
use Rattle.spmd_model.specs.Machines.{signal_barriers}
use Rattle.spmd_model.specs.MachineDeeds.{HasNoOwn, closing_deeds, deeds_by, front_deeds, kept_by, own_deeds, part_deeds, totalled_by}
use Rattle.spmd_model.specs.declared.style.Style.TheVariants.{Arrive}

-- ---- each cell is the one that all share

pub no_slot : (tree : Tree) (plan : Plan) (place c : ℕ) → HasNoOwn tree plan place → (own_of tree plan place).slot c ≡ None
no_slot tree plan place c none =
    ap (λ vs. option_or (place_in tree vs c) (option_map (λ k. 16 + k) (place_in tree (own_loop tree plan place).sums c))) none.privates
    ∙ ap (λ vs. option_map (λ k. 16 + k) (place_in tree vs c)) none.sums

pub same_cell : (tree : Tree) (plan : Plan) (place p c : ℕ) → HasNoOwn tree plan place → own_cell (own_of tree plan place) p c ≡ c
same_cell tree plan place p c none = ap (at_slot (own_of tree plan place) p c) (no_slot tree plan place c none)

same_cells : (f : ℕ → ℕ) (cells : List ℕ) → ((c : ℕ) → f c ≡ c) → map f cells ≡ cells
same_cells f [] same = refl
same_cells f (c ∷ cells) same = ap (λ d. d ∷ map f cells) (same c) ∙ ap (λ cs. c ∷ cs) (same_cells f cells same)

same_store : (f : ℕ → ℕ) (o : Option ℕ) → ((c : ℕ) → f c ≡ c) → option_map f o ≡ o
same_store f None same = refl
same_store f (Some c) same = ap Some (same c)

pub same_deeds : (tree : Tree) (plan : Plan) (place p : ℕ) (i : Instance) → HasNoOwn tree plan place → own_deeds tree (own_of tree plan place) p i ≡ instance_deeds tree i
same_deeds tree plan place p i none =
    let f = own_cell (own_of tree plan place) p in
    ap (λ cs. map loading cs ++ last_deed (option_map f (store_of tree i)) false (assigned_value tree i) (line_of tree i) ∷ []) (same_cells f (loads_of tree i) (λ c. same_cell tree plan place p c none))
    ∙ ap (λ o. map loading (loads_of tree i) ++ last_deed o false (assigned_value tree i) (line_of tree i) ∷ []) (same_store f (store_of tree i) (λ c. same_cell tree plan place p c none))

all_same : (tree : Tree) (plan : Plan) (place p : ℕ) (is : List Instance) → HasNoOwn tree plan place → flat_map (own_deeds tree (own_of tree plan place) p) is ≡ flat_map (instance_deeds tree) is
all_same tree plan place p [] none = refl
all_same tree plan place p (i ∷ is) none =
    ap (λ l. l ++ flat_map (own_deeds tree (own_of tree plan place) p) is) (same_deeds tree plan place p i none)
    ∙ ap (λ l. instance_deeds tree i ++ l) (all_same tree plan place p is none)

-- ---- nothing is behind a phase

no_closings : (tree : Tree) (plan : Plan) (p : ℕ) (v : Visit) → HasNoOwn tree plan v.place → closing_deeds tree plan p v ≡ []
no_closings tree plan p v none =
    ap (λ vs. flat_map (λ s. kept_by (own_of tree plan v.place) (first_cell tree s) p (last_owner tree plan v)) vs
    ++ flat_map (λ s. totalled_by (own_of tree plan v.place) (first_cell tree s) p (has_stored tree plan v (first_cell tree s) p)) (own_loop tree plan v.place).sums) none.privates
    ∙ ap (flat_map (λ s. totalled_by (own_of tree plan v.place) (first_cell tree s) p (has_stored tree plan v (first_cell tree s) p))) none.sums

same_part : (tree : Tree) (plan : Plan) (p e passed : ℕ) (v : Visit) → HasNoOwn tree plan v.place → part_deeds Arrive tree plan p e passed v ≡ phase_deeds tree plan p e v
same_part tree plan p e passed v none =
    let mine = owned_by tree (slice_get plan.anchors (v.place - 1)) plan.workers p v in
    let front = front_deeds Arrive tree plan p e passed v in
    ap (λ l. front ++ (flat_map (own_deeds tree (own_of tree plan v.place) p) mine ++ l)) (no_closings tree plan p v none)
    ∙ ap (λ l. front ++ l) (append-nil (flat_map (own_deeds tree (own_of tree plan v.place) p) mine))
    ∙ ap (λ l. front ++ l) (all_same tree plan v.place p mine none)

pub plain_deeds : (tree : Tree) (plan : Plan) (p e passed : ℕ) (vs : List Visit) → ((place : ℕ) → HasNoOwn tree plan place) → deeds_by Arrive tree plan p e passed vs ≡ deeds_from tree plan p e vs
plain_deeds tree plan p e passed [] none = refl
plain_deeds tree plan p e passed (v ∷ rest) none =
    ap (λ l. l ++ deeds_by Arrive tree plan p (suc e) (passed + signal_barriers Arrive plan v) rest) (same_part tree plan p e passed v (none v.place))
    ∙ ap (λ l. phase_deeds tree plan p e v ++ l) (plain_deeds tree plan p (suc e) (passed + signal_barriers Arrive plan v) rest none)
