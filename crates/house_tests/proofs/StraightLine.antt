-- The straight line's acts under two plans, and that it may be run.
use Rattle.std.proofs.Common.{◌≡◌, ℕ, zero, suc, ◌<◌, List, [], ◌∷◌, Some, refl, sym, ◌∙◌, ap, subst, true, false, arith}
use Rattle.std.specs.Prelude.{slice_get}
use Rattle.std.specs.List.{AllByRecursion}
use Rattle.nest_tree.specs.Limits.{IsWithinLimits}
use Rattle.nest_tree.specs.WellFormed.{IsWellFormed}
use Rattle.nest_model.specs.Ranges.{IsInRange}
use Rattle.owner_partition.specs.Phases.{Execution, executions}
use Rattle.sync_plan.specs.Fit.{IsFit}
use Rattle.sync_plan.specs.Ordered.{IsOrdered, owner_under}
use Rattle.sync_plan.proofs.OwnLoops.{nothing_in}
use Rattle.sync_plan.specs.declared.plan.Kind.{Kind}
use Rattle.sync_plan.specs.declared.plan.Kind.TheVariants.{Join}
use Rattle.spmd_model.specs.Timelines.{counter}
use Rattle.spmd_model.specs.Acts.{post, await}
use Rattle.spmd_model.specs.Protocols.{Protocol, act_at}
use Rattle.spmd_model.specs.PlanProtocols.{acts_by, protocol_by}
use Rattle.spmd_model.specs.declared.style.Style.TheVariants.{Arrive}
use Rattle.nest_tree.specs.View.{tree_of}
use Rattle.nest_tree.specs.declared.program.Program.{Program}
use Rattle.sync_plan.specs.declared.plan.Plan.{Plan}
use Rattle.shared_words.specs.Calls.{ArrivesNext, GathersNext, first_seat}
use Rattle.shared_words.specs.Homes.{Home, gone, protocol_at, protocol_given}
use Rattle.shared_words.specs.Places.{behind, settled_at}
use Rattle.house_tests.specs.StraightLine.{barriers, line, plan_with}

abbrev pub joins : List Kind
joins = Join ∷ Join ∷ Join ∷ []

pub formed : IsWellFormed line
formed = refl

pub limits : IsWithinLimits line
limits = refl

pub ranges : IsInRange line
ranges = refl

pub barriers_fit : IsFit line (plan_with barriers)
barriers_fit = refl

pub joins_fit : IsFit line (plan_with joins)
joins_fit = refl

all_at : (P : Execution → Type 0) (xs : List Execution) (j : ℕ) (x : Execution) → AllByRecursion P xs → slice_get xs j ≡ Some x → P x
all_at P [] j x all e = absurd (cc)
all_at P (y ∷ ys) zero x all e = let same : y ≡ x = cc in subst P same all.0
all_at P (y ∷ ys) (suc j) x all e = all_at P ys j x all.1 e

one_owner : (kinds : List Kind) → AllByRecursion (λ x. owner_under line (plan_with kinds) x ≡ 0) (executions line [])
one_owner kinds = (refl, (refl, (refl, tt)))

pub ordered : (kinds : List Kind) → IsOrdered line (plan_with kinds)
ordered kinds = record {
  chained = λ j k x y less first second clash apart.
      absurd (apart (all_at (λ x. owner_under line (plan_with kinds) x ≡ 0) (executions line []) j x (one_owner kinds) first ∙ sym (all_at (λ x. owner_under line (plan_with kinds) x ≡ 0) (executions line []) k y (one_owner kinds) second)));
  stored = λ k v head body x u at what trip private. absurd (nothing_in u private);
}

-- ---- the acts of processor 1

abbrev pub barrier_line : Protocol
barrier_line = protocol_by Arrive line (plan_with barriers)

abbrev pub join_line : Protocol
join_line = protocol_by Arrive line (plan_with joins)

-- its places behind its first acts
abbrev pub place : Protocol → ℕ → ℕ → ℕ
place m p zero = settled_at m p 0
place m p (suc k) = behind m p (place m p k)

pub posts_first : (act_at join_line 1 (place join_line 1 0) ≡ Some (post counter 0)) × (join_line.gathers 0 ≡ false)
unfolding acts_by
posts_first = (refl, refl)

pub awaits_first : (act_at join_line 1 (place join_line 1 1) ≡ Some (await counter 0 0)) × (join_line.gathers 0 ≡ false)
unfolding acts_by
awaits_first = (refl, refl)

pub posts_next : (act_at join_line 1 (place join_line 1 2) ≡ Some (post counter 1)) × (join_line.gathers 1 ≡ false)
unfolding acts_by
posts_next = (refl, refl)

pub awaits_next : (act_at join_line 1 (place join_line 1 3) ≡ Some (await counter 0 1)) × (join_line.gathers 1 ≡ false)
unfolding acts_by
awaits_next = (refl, refl)

-- ---- and of both at a barrier

pub arrives : (p : ℕ) → p < 2 → (act_at barrier_line p (place barrier_line p 0) ≡ Some (post counter 0)) × (barrier_line.gathers 0 ≡ true)
unfolding acts_by
arrives zero lt = (refl, refl)
arrives (suc zero) lt = (refl, refl)
arrives (suc (suc p)) lt = absurd (omega (arith, lt))

pub gathers : (act_at barrier_line 1 (place barrier_line 1 1) ≡ Some (await counter 0 0)) × (barrier_line.gathers 0 ≡ true)
unfolding acts_by
gathers = (refl, refl)

pub gathers_of_first : (act_at barrier_line 0 (place barrier_line 0 1) ≡ Some (await counter 1 0)) × (barrier_line.gathers 0 ≡ true)
unfolding acts_by
gathers_of_first = (refl, refl)

-- what holds of the line's protocol holds of the table's
pub of_table : (P : Protocol → Type 0) (kinds : List Kind) (h : Home) (program : Program) (plan : Plan) → h.given ≡ Some (program, (plan, Arrive)) → tree_of program ≡ line → plan ≡ plan_with kinds → P (protocol_by Arrive line (plan_with kinds)) → P (protocol_at h)
of_table P kinds h program plan given tree is held = subst P (sym (ap protocol_given given ∙ (λ i. protocol_by Arrive (tree i) (is i)))) held

-- both processors' seats at their first acts, at a barrier
pub meets : (h : Home) (program : Program) (plan : Plan) → h.given ≡ Some (program, (plan, Arrive)) → tree_of program ≡ line → plan ≡ plan_with barriers → (p : ℕ) → p < 2 → ArrivesNext (first_seat h p) 0 × GathersNext (gone (first_seat h p)) 0
meets h program plan given tree is zero lt =
    let comes = of_table (λ m. (act_at m 0 (place m 0 0) ≡ Some (post counter 0)) × (m.gathers 0 ≡ true)) barriers h program plan given tree is (arrives 0 lt) in
    let awaits = of_table (λ m. (act_at m 0 (place m 0 1) ≡ Some (await counter 1 0)) × (m.gathers 0 ≡ true)) barriers h program plan given tree is gathers_of_first in
    (comes, (1, awaits.0, awaits.1))
meets h program plan given tree is (suc zero) lt =
    let comes = of_table (λ m. (act_at m 1 (place m 1 0) ≡ Some (post counter 0)) × (m.gathers 0 ≡ true)) barriers h program plan given tree is (arrives 1 lt) in
    let awaits = of_table (λ m. (act_at m 1 (place m 1 1) ≡ Some (await counter 0 0)) × (m.gathers 0 ≡ true)) barriers h program plan given tree is gathers in
    (comes, (0, awaits.0, awaits.1))
meets h program plan given tree is (suc (suc p)) lt = absurd (omega (arith, lt))
