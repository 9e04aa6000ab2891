-- All instances of a trip of a phase's loop have one owner.
use Rattle.std.proofs.Common.{◌≡◌, ℕ, ◌+◌, ◌-◌, ◌<◌, ◌≤◌, ℤ, Bool, true, false, List, ◌∷◌, length, Some, if◌then◌else◌, ap, sym, ◌∙◌, arith}
use Rattle.std.specs.Prelude.{slice_get}
use Rattle.std.specs.List.{All}
use Rattle.std.proofs.lemmas.Bool.{and_parts}
use Rattle.std.proofs.lemmas.List.Elements.{All-cons, All-weaker}
use Rattle.nest_tree.specs.Layout.{count_of}
use Rattle.nest_tree.specs.Tree.{Head, Statements, do_loop, Tree, param_values}
use Rattle.nest_tree.specs.WellFormed.{IsWellFormed, is_good_statement, names_only, scope_of}
use Rattle.nest_tree.proofs.Good.{good_loop}
use Rattle.nest_model.specs.Instances.{Instance, instances_in, with_loop}
use Rattle.nest_model.specs.Visits.{Visit}
use Rattle.owner_partition.specs.Owners.{dealt, has_places, owner_by}
use Rattle.owner_partition.specs.Phases.{phases}
use Rattle.sync_plan.specs.declared.plan.Plan.{Plan}
use Rattle.sync_plan.specs.Fit.{IsFit}
use Rattle.sync_plan.specs.Shape.{is_doall, mark_of, own_loops, static_phases}
use Rattle.sync_plan.proofs.FitOwners.{AgreeBelow, agree_among, form_agrees, good_each}
use Rattle.sync_plan.proofs.Fits.{fit_parts}
use Rattle.sync_plan.proofs.PhasePlaces.{visit_there}
use Rattle.spmd_model.specs.Closings.{phase_owner}
use Rattle.spmd_model.proofs.Deeds.{anchored}

-- the loops that an anchor may name have numbers up to the loop's own
own_low : (number : ℕ) (around : List ℕ) (b : Bool) (n : ℕ) → n ≡ number → All (λ k. k < number) around → All (λ k. k ≤ number) (if b then n ∷ around else around)
own_low number around true n is below = All-cons (λ k. k ≤ number) n around (omega (arith, is)) (All-weaker (λ k. k < number) (λ k. k ≤ number) (λ k lt. omega (arith, lt)) around below)
own_low number around false n is below = All-weaker (λ k. k < number) (λ k. k ≤ number) (λ k lt. omega (arith, lt)) around below

pub one_owner : (tree : Tree) (plan : Plan) (k : ℕ) (v : Visit) (head : Head) (body : Statements) (x : ℤ) → IsWellFormed tree → IsFit tree plan → slice_get (phases tree plan.cut.marks) k ≡ Some v → v.what ≡ do_loop head body →
    All (λ (i : Instance). phase_owner tree plan v i.loops ≡ phase_owner tree plan v (with_loop v.loops head.number x)) (instances_in (param_values tree) body v.first (with_loop v.loops head.number x))
one_owner tree plan k v head body x formed fits at what =
    let params = param_values tree in
    let f = visit_there tree plan.cut.marks k v formed at in
    let parts = fit_parts tree plan fits in
    let a = anchored tree plan formed fits k v at in
    let index : v.place - 1 ≡ f.k = omega (arith, f.place_is) in
    let number = f.there.number in
    let around = f.there.around in
    let static : slice_get (static_phases tree plan.cut.marks) f.k ≡ Some (record { what = do_loop head body; around = around }) = f.there.at ∙ ap (λ y. Some (record { what = y; around = around })) what in
    let good = good_loop (scope_of tree) around number head body (ap (is_good_statement (scope_of tree) around number) (sym what) ∙ f.there.good) in
    let good_anchor = good_each (length tree.params) plan.cut.marks (static_phases tree plan.cut.marks) plan.anchors f.k (record { what = do_loop head body; around = around }) a.0 parts.good_anchors static (ap (slice_get plan.anchors) (sym index) ∙ a.1) in
    let names = (and_parts (names_only (length tree.params) (own_loops plan.cut.marks (do_loop head body) around) a.0.form) (has_places a.0.dist) good_anchor).0 in
    let low = own_low number around (is_doall (mark_of plan.cut.marks head.number)) head.number good.number f.there.below in
    let loops = with_loop v.loops head.number x in
    All-weaker (λ (i : Instance). AgreeBelow (number + 1 - 1) i.loops loops) (λ (i : Instance). phase_owner tree plan v i.loops ≡ phase_owner tree plan v loops)
    (λ i agree.
    let value = form_agrees (length tree.params) number (own_loops plan.cut.marks (do_loop head body) around) a.0.form params i.loops loops f.there.low low names (λ j lt. agree j (omega (arith, lt))) in
    ap (λ o. owner_by o plan.workers i.loops params) a.1 ∙ ap (λ z. count_of (dealt a.0.dist plan.workers z)) value ∙ sym (ap (λ o. owner_by o plan.workers loops params) a.1))
    (instances_in params body v.first loops) (agree_among params (scope_of tree) (head.number ∷ around) (number + 1) body v.first loops good.inside (omega arith))
