use Rattle.std.proofs.Common.{rules, ◌≡◌, ◌<◌, ◌≤◌, ◌+◌, ℕ, suc, length, length-set, sym, ◌∙◌, subst, arith}
use Rattle.std.specs.Prelude.{slice_index_or}
use Rattle.nest_tree.specs.Tree.{Tree}
use Rattle.nest_tree.specs.View.{tree_of}
use Rattle.sync_plan.specs.declared.plan.Plan.{Plan}
use Rattle.crossbeam_utils.specs.Padded.{padded_value, padded_with_value}
use Rattle.fork_join.specs.Joins.{IsSafe, joined, protocol}
use Rattle.fork_join.specs.Workers.{HasWorked, IsAt}
use Rattle.fork_join.specs.declared.worker.Worker.{Worker}
use Rattle.fork_join.proofs.Running.{Laid, laid_all, laid_up, still_up}
use Rattle.fork_join.proofs.run.lay_in.Goals as goal

abbrev Key : Type 0
Key = Tree × (Plan × ℕ)

same_key : (tree : Tree) (plan : Plan) (p : ℕ) (w : Worker) → (tree_of w.program.now ≡ tree) → (w.plan.now ≡ plan) → (w.processor ≡ p) → ◌≡◌ {A = Key} (tree, (plan, p)) (tree_of w.program.now, (w.plan.now, w.processor))
same_key tree plan p w t q k = λ i. (sym t i, (sym q i, sym k i))

-- the worker that is looked at has worked
looks : (tree : Tree) (plan : Plan) (n j : ℕ) (w v : Worker) → HasWorked tree plan n j v → w ≡ v → HasWorked tree plan n j w
looks tree plan n j w v h is = subst (HasWorked tree plan n j) (sym is) h

pub lay_in-requires-clause-safe : goal.lay_in-requires-clause-safe
lay_in-requires-clause-safe c =
    let tree = tree_of c.args.lent.program.now in
    let plan = c.args.lent.plan.now in
    let j = c.loop-p.p in
    let w = c.deref_mut.result.now in
    let inside : j < length c.loop-p.workers = search rules in
    let s = (looks tree plan c.args.behind j w _ (c.loop-p.invariant.worked j c.index-workers-p.result (omega arith) inside) c.deref_mut.ensures.value).stands in
    subst (λ (k : Key). IsSafe k.0 k.1.0) (same_key tree plan j w s.program s.plan_is s.processor) c.requires.safe

pub lay_in-requires-clause-below : goal.lay_in-requires-clause-below
lay_in-requires-clause-below c =
    let tree = tree_of c.args.lent.program.now in
    let plan = c.args.lent.plan.now in
    let j = c.loop-p.p in
    let w = c.deref_mut.result.now in
    let inside : j < length c.loop-p.workers = search rules in
    let s = (looks tree plan c.args.behind j w _ (c.loop-p.invariant.worked j c.index-workers-p.result (omega arith) inside) c.deref_mut.ensures.value).stands in
    let below : j < plan.workers = search (rules, c.requires.count) in
    subst (λ (k : Key). k.1.1 < k.1.0.workers) (same_key tree plan j w s.program s.plan_is s.processor) below

pub lay_in-requires-clause-worked : goal.lay_in-requires-clause-worked
lay_in-requires-clause-worked c =
    let tree = tree_of c.args.lent.program.now in
    let plan = c.args.lent.plan.now in
    let j = c.loop-p.p in
    let w = c.deref_mut.result.now in
    let inside : j < length c.loop-p.workers = search rules in
    let h = looks tree plan c.args.behind j w _ (c.loop-p.invariant.worked j c.index-workers-p.result (omega arith) inside) c.deref_mut.ensures.value in
    let s = h.stands in
    subst (λ (k : Key). HasWorked k.0 k.1.0 c.args.behind k.1.1 w) (same_key tree plan j w s.program s.plan_is s.processor) h

pub lay_in-requires-clause-lawful : goal.lay_in-requires-clause-lawful
lay_in-requires-clause-lawful c =
    let tree = tree_of c.args.lent.program.now in
    let plan = c.args.lent.plan.now in
    let j = c.loop-p.p in
    let w = c.deref_mut.result.now in
    let inside : j < length c.loop-p.workers = search rules in
    let s = (looks tree plan c.args.behind j w _ (c.loop-p.invariant.worked j c.index-workers-p.result (omega arith) inside) c.deref_mut.ensures.value).stands in
    subst (λ (k : Key). ∥ (protocol k.0 k.1.0).lawful c.loop-p.memory (joined k.0 k.1.0 c.args.behind k.1.1) ∥₁) (same_key tree plan j w s.program s.plan_is s.processor) c.loop-p.invariant.lawful

pub loop-p-preserved : goal.loop-p-preserved
loop-p-preserved c =
    let tree = tree_of c.args.lent.program.now in
    let plan = c.args.lent.plan.now in
    let n = c.args.behind in
    let j = c.loop-p.p in
    let ws = c.loop-p.workers in
    let inv = c.loop-p.invariant in
    let w = c.deref_mut.result.now in
    let inside : j < length ws = search rules in
    let s = (looks tree plan n j w _ (inv.worked j c.index-workers-p.result (omega arith) inside) c.deref_mut.ensures.value).stands in
    let key = sym (same_key tree plan j w s.program s.plan_is s.processor) in
    let new = padded_with_value (slice_index_or ws j c.index-workers-p.result) c.lay_in.new.self in
    let next : suc j ≡ j + 1 = omega arith in
    record {
      count = length-set ws j new ∙ inv.count;
      laid = laid_up (λ q w. IsAt tree plan (suc n) q (padded_value w)) (λ q w. HasWorked tree plan n q (padded_value w)) ws j new inside inv.laid (subst (λ (k : Key). IsAt k.0 k.1.0 (suc n) k.1.1 c.lay_in.new.self) key c.lay_in.ensures.at);
      worked = still_up (λ q w. IsAt tree plan (suc n) q (padded_value w)) (λ q w. HasWorked tree plan n q (padded_value w)) ws j new inside inv.worked;
      lawful = subst (λ k. Laid tree plan c.requires.safe n k c.lay_in.new.memory) next (subst (λ (k : Key). ∥ (protocol k.0 k.1.0).lawful c.lay_in.new.memory (joined k.0 k.1.0 n (suc k.1.1)) ∥₁) key c.lay_in.ensures.lawful);
    }

pub returns-clause-lawful : goal.returns-clause-lawful
returns-clause-lawful c =
    let tree = tree_of c.args.lent.program.now in
    let plan = c.args.lent.plan.now in
    let all : plan.workers ≤ c.loop-p.p = search (rules, c.requires.count) in
    laid_all tree plan c.requires.safe c.args.behind c.loop-p.p c.loop-p.memory all c.loop-p.invariant.lawful
