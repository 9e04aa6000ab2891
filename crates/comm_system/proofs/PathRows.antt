-- The system of a loop that makes no trip, where those outside it are at trips of theirs.
use Rattle.std.proofs.Common.{◌≡◌, ℕ, zero, suc, ◌+◌, ◌*◌, ◌-◌, true, negsuc, Some, None, List, [], ◌∷◌, ◌++◌, append_assoc, drop, length, take, refl, ap, sym, ◌∙◌}
use Rattle.std.specs.List.{slice_get}
use Rattle.std.proofs.lemmas.Bool.{and_from, and_parts}
use Rattle.farkas_cert.specs.Inequalities.{Inequalities}
use Rattle.nest_tree.specs.Form.{is_small}
use Rattle.nest_tree.specs.Tree.{Head, Tree, param_values}
use Rattle.nest_rows.specs.Constraints.{system_of}
use Rattle.nest_rows.specs.Groups.{differ, loops_have, sign_of}
use Rattle.nest_rows.specs.More.{HasMore}
use Rattle.sync_plan.specs.declared.plan.Conditions.{Conditions}
use Rattle.conflict_rules.specs.SmallSteps.{are_small_steps}
use Rattle.comm_system.specs.PairRows.{conditions_have, first_of}
use Rattle.comm_system.specs.Paths.{PathLoop, loops_from, loops_outside, no_trip, zero_trip_has}
use Rattle.comm_system.proofs.SystemParts.{system_first, system_more}

-- a loop and those inside it
pub loops_behind : (heads : List Head) (k : ℕ) (h : Head) → slice_get heads k ≡ Some h → drop k heads ≡ h ∷ drop (suc k) heads
loops_behind [] k h at = absurd (let no : None ≡ Some h = at in cc)
loops_behind (g ∷ heads) zero h at = let same : g ≡ h = cc in ap (λ x. x ∷ heads) same
loops_behind (g ∷ heads) (suc k) h at = loops_behind heads k h at

-- the steps of the first of some loops
pub small_in_front : (k : ℕ) (heads : List Head) → are_small_steps heads ≡ true → are_small_steps (take k heads) ≡ true
small_in_front zero heads all = refl
small_in_front (suc k) [] all = refl
small_in_front (suc k) (h ∷ heads) all =
    let parts = and_parts (is_small h.step) (are_small_steps heads) all in
    and_from (is_small h.step) (are_small_steps (take k heads)) parts.0 (small_in_front k heads parts.1)

pub path_system : (tree : Tree) (conditions : Conditions) (p : PathLoop) (h : Head) (rest : List Head) (vars : ℕ) (s0 s1 s2 s3 : Inequalities) → loops_from p ≡ h ∷ rest → vars ≡ first_of tree + 2 * length (loops_outside p) - 1 → s0 ≡ record { vars = vars; rows = [] } →
    HasMore (conditions_have (param_values tree) conditions) s0 s1 → HasMore (loops_have (first_of tree) (loops_outside p) (first_of tree) (loops_outside p)) s1 s2 → HasMore (differ (sign_of h.step) (first_of tree) (loops_outside p) h.m2 h.m1 (negsuc 0) ∷ []) s2 s3 →
    s3 ≡ system_of (first_of tree + 2 * length (loops_outside p) - 1) (conditions_have (param_values tree) conditions ++ zero_trip_has (first_of tree) p)
path_system tree conditions p h rest vars s0 s1 s2 s3 is many none first second third =
    let outside = loops_outside p in
    let C = conditions_have (param_values tree) conditions in
    let L = loops_have (first_of tree) outside (first_of tree) outside in
    let D = differ (sign_of h.step) (first_of tree) outside h.m2 h.m1 (negsuc 0) ∷ [] in
    let made = system_more vars (C ++ L) D s2 s3 (system_more vars C L s1 s2 (system_first vars C s0 s1 none first) second) third in
    made ∙ ap (system_of vars) (append_assoc C L D) ∙ ap (λ hs. system_of vars (C ++ (L ++ no_trip (first_of tree) outside hs))) (sym is)
    ∙ ap (λ n. system_of n (C ++ zero_trip_has (first_of tree) p)) many
