-- Of which systems elimination is asked.
use Rattle.std.proofs.Common.{◌≡◌, ℕ, ◌+◌, ◌-◌, ◌≤◌, Bool, List, [], ◌∷◌, ◌++◌, length, map, inl, inr, if◌then◌else◌, refl, ap, sym, ◌∙◌, subst, arith}
use Rattle.std.specs.Prelude.{nat_le}
use Rattle.std.specs.List.{All}
use Rattle.std.proofs.lemmas.Bool.{cases_Bool}
use Rattle.std.proofs.lemmas.List.Elements.{All-cons, All-head, All-nil, All-push, All-tail}
use Rattle.farkas_cert.specs.Inequalities.{Inequalities}
use Rattle.presolve.specs.Presolution.{IsPresolved, Presolution}
use Rattle.nest_systems.proofs.GrowingParts.{columns-left}
use Rattle.nest_tree.specs.Tree.{Tree}
use Rattle.owner_partition.specs.declared.anchor.Anchor.{Anchor}
use Rattle.owner_partition.specs.declared.anchor.Dist.{Dist}
use Rattle.sync_plan.specs.declared.plan.Plan.{Plan}
use Rattle.comm_system.specs.Boundaries.{Side, of_first, of_second}
use Rattle.comm_system.specs.GroupViews.{group_seen}
use Rattle.comm_system.specs.Obligations.{Slot, anchor_at, owners_of, placed_at}
use Rattle.comm_system.specs.OwnerRows.{owner_unknowns, owners_unknowns}
use Rattle.comm_system.specs.Pairs.{Pair}
use Rattle.comm_system.specs.Subjects.{Group, Listed, Subject, count_about, with_subject, with_subjects}
use Rattle.comm_system.specs.SubjectViews.{subject_seen}
use Rattle.comm_system.specs.SystemViews.{kept_columns}
use Rattle.comm_system.specs.declared.group.Group.{Group as HeldGroup}
use Rattle.comm_system.specs.declared.in_place.PairSystems.{PairSystems}
use Rattle.plan_maker.specs.Askable.{HasOwners, IsDealtSo}
use Rattle.plan_maker.specs.Asked.{owners_dealt}
use Rattle.plan_maker.specs.Orders.{unknowns_of}

-- the owners of a pair have as many unknowns as those that are dealt so
placed_unknowns : (tree : Tree) (pair : Pair) (ps : List (Anchor × Side)) → owners_unknowns (map (placed_at tree pair) ps) ≡ unknowns_of (map (λ (p : Anchor × Side). p.0.dist) ps)
placed_unknowns tree pair [] = refl
placed_unknowns tree pair ((a, of_first) ∷ ps) = ap (λ n. owner_unknowns a.dist + n) (placed_unknowns tree pair ps)
placed_unknowns tree pair ((a, of_second) ∷ ps) = ap (λ n. owner_unknowns a.dist + n) (placed_unknowns tree pair ps)

pub owners_counted : (tree : Tree) (plan : Plan) (slot : Slot) (producers : List (Anchor × Side)) (pair : Pair) → owners_unknowns (owners_of tree plan slot producers pair) ≡ unknowns_of (owners_dealt plan slot producers)
owners_counted tree plan slot producers pair = ap (λ n. owner_unknowns (anchor_at plan slot.s).dist + (owner_unknowns (anchor_at plan slot.t).dist + n)) (placed_unknowns tree pair producers)

-- they are among the unknowns of what is left, where its columns are those that a pair's systems keep
pub left_has : (dists : List Dist) (p : PairSystems) (whole : Inequalities) (left : Presolution) → IsPresolved whole left → left.columns ≡ kept_columns p → HasOwners dists p → unknowns_of dists ≤ left.system.vars
left_has dists p whole left is columns has =
    let long = columns-left whole left is in
    let same = ap length columns in
    omega (arith, long, same, has)

-- the groups of subjects have theirs
module _ (P : Subject → Type 0) where
  one_listed : (most : ℕ) (l : Listed) (s : Subject) → All (λ (g : Group). P g.subject) l.groups → P s → All (λ (g : Group). P g.subject) (with_subject most l s).groups
  one_listed most l s all here =
      let more : Listed = record { groups = l.groups ++ record { number = l.next; subject = s } ∷ []; next = l.next + count_about s } in
      elim (cases_Bool (nat_le l.next most)) [
        | inl within ↦ subst (λ (b : Bool). All (λ (g : Group). P g.subject) (if b then more else l).groups) (sym within) (All-push (λ (g : Group). P g.subject) l.groups (record { number = l.next; subject = s }) all here)
        | inr past ↦ subst (λ (b : Bool). All (λ (g : Group). P g.subject) (if b then more else l).groups) (sym past) all
      ]

  all_listed : {X : Type 0} (f : X → Subject) → ((x : X) → P (f x)) → (most : ℕ) (l : Listed) (xs : List X) → All (λ (g : Group). P g.subject) l.groups → All (λ (g : Group). P g.subject) (with_subjects most l (map f xs)).groups
  all_listed f h most l [] all = all
  all_listed f h most l (x ∷ xs) all = all_listed f h most (with_subject most l (f x)) xs (one_listed most l (f x) all (h x))

seen_all : (P : Subject → Type 0) (gs : List HeldGroup) → All (λ (g : Group). P g.subject) (map group_seen gs) → All (λ (g : HeldGroup). P (subject_seen g.subject)) gs
seen_all P [] all = All-nil (λ (g : HeldGroup). P (subject_seen g.subject))
seen_all P (g ∷ gs) all =
    All-cons (λ (h : HeldGroup). P (subject_seen h.subject)) g gs (All-head (λ (h : Group). P h.subject) (group_seen g) (map group_seen gs) all)
    (seen_all P gs (All-tail (λ (h : Group). P h.subject) (group_seen g) (map group_seen gs) all))

pub groups_dealt : (plan : Plan) (dists : List Dist) {X : Type 0} (f : X → Subject) → ((x : X) → IsDealtSo plan dists (f x)) → (most next : ℕ) (xs : List X) (gs : List HeldGroup) (listed : Listed) →
    listed.groups ≡ map group_seen gs → listed ≡ with_subjects most (record { groups = []; next = next }) (map f xs) → All (λ (g : HeldGroup). IsDealtSo plan dists (subject_seen g.subject)) gs
groups_dealt plan dists f h most next xs gs listed groups is =
    let all = all_listed (IsDealtSo plan dists) f h most (record { groups = []; next = next }) xs (All-nil (λ (g : Group). IsDealtSo plan dists g.subject)) in
    seen_all (IsDealtSo plan dists) gs (subst (λ zs. All (λ (g : Group). IsDealtSo plan dists g.subject) zs) (ap (λ (l : Listed). l.groups) (sym is) ∙ groups) all)
