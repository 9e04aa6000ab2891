use Rattle.nest_tree.specs.Tree.{Tree}
use Rattle.sync_plan.specs.declared.plan.Plan.{Plan}
use Rattle.spmd_model.specs.declared.style.Style.{Style}
use Rattle.spmd_model.specs.Laws.{Laws}
use Rattle.spmd_model.specs.PlanProtocols.{protocol_by}
use Rattle.shared_words.specs.Runs.{IsRunnable}
use Rattle.shared_words.proofs.Runs.{Steps, load_steps, store_steps, add_steps, post_steps, poll_steps, arrival_steps, row_steps}
use Rattle.shared_words.proofs.laws.steps_are_the_machines.Goals as goal

its_laws : (c : goal.After-shared_cells_in_styles) (style : Style) (tree : Tree) (plan : Plan) → IsRunnable tree plan → Laws (protocol_by style tree plan)
its_laws c style tree plan r = c.laws_in_styles.ensures style tree plan r.formed r.limits r.ranges r.fits r.ordered

its_steps : (c : goal.After-shared_cells_in_styles) (style : Style) (tree : Tree) (plan : Plan) → IsRunnable tree plan → Steps style tree plan
its_steps c style tree plan r cells at after p a s lt is next possible moves = c.shared_cells_in_styles.ensures.step style tree plan cells at after p a s r.formed r.fits r.ranges r.ordered lt is next possible moves

pub returns : goal.returns
returns c = let passes = c.shared_cells_in_styles.ensures.passed in record {
  load = λ style tree plan r. load_steps style tree plan (its_laws c style tree plan r) (its_steps c style tree plan r) passes;
  store = λ style tree plan r. store_steps style tree plan (its_laws c style tree plan r) (its_steps c style tree plan r) passes;
  add = λ style tree plan r. add_steps style tree plan (its_laws c style tree plan r) (its_steps c style tree plan r) passes;
  post = λ style tree plan r. post_steps style tree plan (its_laws c style tree plan r) (its_steps c style tree plan r) passes;
  poll = λ style tree plan r. poll_steps style tree plan (its_laws c style tree plan r) (its_steps c style tree plan r) passes;
  arrive = λ style tree plan r. arrival_steps style tree plan (its_laws c style tree plan r) (its_steps c style tree plan r) passes;
  gather = λ style tree plan r. row_steps style tree plan (its_laws c style tree plan r) (its_steps c style tree plan r) passes;
}
