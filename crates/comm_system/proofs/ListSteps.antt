-- Some things more of a list that is gone through.
use Rattle.std.proofs.Common.{◌≡◌, ℕ, suc, ◌+◌, ◌<◌, List, ◌++◌, append_assoc, length, map, drop, get_or, ap, sym, ◌∙◌, arith}
use Rattle.comm_system.specs.Obligations.{slots_before, slots_between, slots_from}
use Rattle.comm_system.specs.PhaseViews.{phase_seen}
use Rattle.conflict_rules.specs.References.{StaticPhase}
use Rattle.comm_system.specs.declared.phase.Phase.{Phase}
use Rattle.comm_system.proofs.RowSteps.{left_more}

-- what stands before and what is left, after some things more
pub lists_more : {B : Type 0} (whole before after left rest xs : List B) → before ++ left ≡ whole → left ≡ xs ++ rest → after ≡ before ++ xs → after ++ rest ≡ whole
lists_more whole before after left rest xs h e a = ap (λ ys. ys ++ rest) a ∙ append_assoc before xs rest ∙ ap (λ ys. before ++ ys) (sym e) ∙ h

-- the slots of one phase more
pub before_more : (phases : List Phase) (k : ℕ) (p : Phase) (t : ℕ) (second : StaticPhase) → k < length phases → p ≡ get_or phases k p →
    slots_before (k + 1) (map phase_seen (drop k phases)) t second ≡ slots_between (k + 1) (phase_seen p) t second ++ slots_before (k + 1 + 1) (map phase_seen (drop (k + 1) phases)) t second
before_more phases k p t second lt is =
    let next : suc (k + 1) ≡ k + 1 + 1 = omega arith in
    ap (λ ps. slots_before (k + 1) ps t second) (left_more phase_seen phases k p lt is)
    ∙ ap (λ n. slots_between (k + 1) (phase_seen p) t second ++ slots_before n (map phase_seen (drop (k + 1) phases)) t second) next

pub from_more : (all : List StaticPhase) (phases : List Phase) (k : ℕ) (p : Phase) → k < length phases → p ≡ get_or phases k p →
    slots_from all (k + 1) (map phase_seen (drop k phases)) ≡ slots_before 1 all (k + 1) (phase_seen p) ++ slots_from all (k + 1 + 1) (map phase_seen (drop (k + 1) phases))
from_more all phases k p lt is =
    let next : suc (k + 1) ≡ k + 1 + 1 = omega arith in
    ap (slots_from all (k + 1)) (left_more phase_seen phases k p lt is)
    ∙ ap (λ n. slots_before 1 all (k + 1) (phase_seen p) ++ slots_from all n (map phase_seen (drop (k + 1) phases))) next
