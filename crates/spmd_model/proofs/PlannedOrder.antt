-- Whoever is awaited under a plan is one of the workers and posts, and whoever a chain of it leads from is a worker.
use Rattle.std.proofs.Common.{◌≡◌, ℕ, zero, suc, ◌+◌, ◌-◌, ◌<◌, Bool, true, false, cond, List, [], ◌∷◌, Option, Some, None, refl, ap, sym, subst, ◌∙◌, arith}
use Rattle.std.specs.Prelude.{slice_get}
use Rattle.std.specs.List.{Contains, filter, range_with_len}
use Rattle.nest_tree.specs.Tree.{Tree, param_values}
use Rattle.nest_model.specs.Visits.{Visit}
use Rattle.owner_partition.specs.Phases.{phases}
use Rattle.sync_plan.specs.declared.plan.Kind.{Kind}
use Rattle.sync_plan.specs.declared.plan.Plan.{Plan}
use Rattle.sync_plan.specs.Ordered.{IsChain as IsPlanChain, Hop as PlanHop, awaited_in as awaited_in_plan, awaited_in_front}
use Rattle.sync_plan.specs.Waits.{awaited_behind, does_wait_at, is_awaited_behind, kind_owner, posts_at, waits_for}
use Rattle.sync_plan.proofs.ProcessorSets.{any_from}

-- ---- an awaited processor is one of the workers

-- what is among the filtered numbers of a range
pub filtered : (test : ℕ → Bool) (a n q : ℕ) → Contains (filter test (range_with_len a n)) q → (test q ≡ true) × (q < a + n)
filtered test a zero q (k, lt, e) = absurd (omega (arith, lt))
filtered test a (suc n) q among = by (filtered test (a + 1) n q) (test a) refl among
  where
    later : List ℕ
    later = filter test (range_with_len (a + 1) n)

    by : (Contains later q → (test q ≡ true) × (q < a + 1 + n)) → (b : Bool) → test a ≡ b → Contains (filter test (range_with_len a (suc n))) q → (test q ≡ true) × (q < a + suc n)
    by rest false h found = let r = rest (subst (λ xs. Contains xs q) (ap (λ b. cond b (a ∷ later) later) h) found) in (r.0, omega (arith, r.1))
    by rest true h found = in_first (subst (λ xs. Contains xs q) (ap (λ b. cond b (a ∷ later) later) h) found)
      where
        in_first : Contains (a ∷ later) q → (test q ≡ true) × (q < a + suc n)
        in_first (zero, lt, e) = (ap test (sym e) ∙ h, omega (arith, e))
        in_first (suc k, lt, e) = let r = rest (k, omega (arith, lt), e) in (r.0, omega (arith, r.1))

pub awaited_below : (tree : Tree) (plan : Plan) (p e q : ℕ) → Contains (awaited_in_front tree plan p e) q → q < plan.workers
awaited_below tree plan p e q among = by_phase (slice_get (phases tree plan.cut.marks) (e - 1)) among
  where
    by_kind : (o : Option Kind) (v : Visit) → Contains (awaited_behind o plan.workers v.loops (param_values tree) p) q → q < plan.workers
    by_kind None v (k, lt, h) = absurd (omega (arith, lt))
    by_kind (Some kind) v found = let f = filtered (does_wait_at kind (kind_owner kind plan.workers v.loops (param_values tree)) p) 0 plan.workers q found in omega (arith, f.1)

    by_phase : (o : Option Visit) → Contains (awaited_in_plan tree plan p o) q → q < plan.workers
    by_phase None (k, lt, h) = absurd (omega (arith, lt))
    by_phase (Some v) found = by_kind (slice_get plan.kinds (v.place - 1)) v found

-- and it posts there
pub awaited_posts : (tree : Tree) (plan : Plan) (v : Visit) (p q : ℕ) → p < plan.workers → Contains (waits_for tree plan p v.place v.loops) q → (q < plan.workers) × (posts_at tree plan q v.place v.loops ≡ true)
awaited_posts tree plan v p q inside among = by (slice_get plan.kinds (v.place - 1)) among
  where
    by : (o : Option Kind) → Contains (awaited_behind o plan.workers v.loops (param_values tree) p) q → (q < plan.workers) × (is_awaited_behind o plan.workers v.loops (param_values tree) q ≡ true)
    by None (k, lt, e) = absurd (omega (arith, lt))
    by (Some kind) found =
        let owner = kind_owner kind plan.workers v.loops (param_values tree) in
        let f = filtered (does_wait_at kind owner p) 0 plan.workers q found in
        (omega (arith, f.1), any_from (λ o. does_wait_at kind owner o q) 0 plan.workers p (omega arith) (omega (arith, inside)) f.0)

-- ---- chains

-- a phase at which somebody is awaited is there
pub phase_there : (tree : Tree) (plan : Plan) (p e q : ℕ) → Contains (awaited_in_front tree plan p e) q → (v : Visit) × (slice_get (phases tree plan.cut.marks) (e - 1) ≡ Some v)
phase_there tree plan p e q among = by (slice_get (phases tree plan.cut.marks) (e - 1)) refl among
  where
    by : (o : Option Visit) → slice_get (phases tree plan.cut.marks) (e - 1) ≡ o → Contains (awaited_in_plan tree plan p o) q → (v : Visit) × (slice_get (phases tree plan.cut.marks) (e - 1) ≡ Some v)
    by None h (k, lt, x) = absurd (omega (arith, lt))
    by (Some v) h found = (v, h)

-- whoever a chain leads from is a worker, where its end is one
pub from_worker : (tree : Tree) (plan : Plan) (q e : ℕ) (hops : List PlanHop) (p t : ℕ) → p < plan.workers → IsPlanChain tree plan q e hops p t → q < plan.workers
from_worker tree plan q e [] p t inside (same, le) = omega (arith, same, inside)
from_worker tree plan q e (h ∷ hops) p t inside (lt, among, rest) = awaited_below tree plan h.processor h.phase q among
