-- What the words show has a schedule.
use Rattle.std.proofs.Common.{◌≡◌, ℕ, zero, suc, ◌+◌, ◌<◌, ◌++◌, List, fold, length, map, replicate, refl, ap, sym, subst, ◌∙◌, arith}
use Rattle.std.specs.Prelude.{slice_index}
use Rattle.std.specs.List.{range_with_len}
use Rattle.std.proofs.lemmas.List.Sums.{fold-append}
use Rattle.nest_tree.specs.Tree.{Tree}
use Rattle.sync_plan.specs.declared.plan.Plan.{Plan}
use Rattle.sync_plan.proofs.Fits.{fit_parts}
use Rattle.spmd_model.specs.Lawful.{Moves}
use Rattle.spmd_model.specs.States.{State, first_state}
use Rattle.spmd_model.specs.Runs.{IsEnded, run_of, stepped}
use Rattle.spmd_model.specs.Machines.{machine_by}
use Rattle.spmd_model.specs.Timelines.{Machine}
use Rattle.spmd_model.specs.declared.style.Style.{Style}
use Rattle.spmd_model.proofs.MachineOrder.{ordered_by, sound_by}
use Rattle.spmd_model.specs.PlanProtocols.{AreLawfulBy, acts_by, protocol_by}
use Rattle.shared_words.specs.Runs.{AreStepsOf, AreWordsOf, IsRunnable, behind_steps}
use Rattle.shared_words.specs.Shown.{AreOne}
use Rattle.shared_words.specs.Words.{cells_in}
use Rattle.shared_words.specs.declared.roles.Role.{Role}
use Rattle.shared_words.specs.Schedules.{HasSchedule, gone_on}
use Rattle.shared_words.proofs.Reached.{reached}

pub scheduled : (style : Style) (tree : Tree) (plan : Plan) → IsRunnable tree plan → (words : List ℕ) (roles : List Role) (one : AreOne (protocol_by style tree plan) words roles) → HasSchedule style tree plan words one.at
unfolding AreLawfulBy
scheduled style tree plan r words roles one =
    let m = machine_by style tree plan in
    let l = one.shown.cells in
    let some : 0 < plan.workers = omega (arith, (fit_parts tree plan r.fits).some) in
    let run = reached m (sound_by style tree plan r.formed r.fits) one.at (cells_in (protocol_by style tree plan) words ++ l.own) l.lawful (ordered_by style tree plan r.formed r.fits r.ranges r.ordered) some in
    record {
      schedule = run.0;
      workers = run.1;
      shows = record { own = l.own; count = l.count; lawful = l.lawful; is = run.2 };
    }

-- steps of one processor behind a schedule
steps_behind : (m : Machine) (s : State) (p k : ℕ) → fold (stepped m) s (replicate k p) ≡ behind_steps m s p k
steps_behind m s p zero = refl
steps_behind m s p (suc k) = steps_behind m (stepped m s p) p k ∙ turned_round k
  where
    turned_round : (k : ℕ) → behind_steps m (stepped m s p) p k ≡ stepped m (behind_steps m s p k) p
    turned_round zero = refl
    turned_round (suc k) = ap (λ x. stepped m x p) (turned_round k)

pub extended : (style : Style) (tree : Tree) (plan : Plan) (words after : List ℕ) (at to : ℕ → ℕ) (p n : ℕ) → AreStepsOf style tree plan words after at p n → Moves at to p n → (run : HasSchedule style tree plan words at)
    → (k : ℕ) × (at p + k ≡ n) × AreWordsOf style tree plan after to (run_of (machine_by style tree plan) (gone_on run.schedule p k))
extended style tree plan words after at to p n steps moves run =
    let m = machine_by style tree plan in
    let s = run_of m run.schedule in
    let goes = steps s run.shows in
    let same : run_of m (gone_on run.schedule p goes.0) ≡ behind_steps m s p goes.0 = fold-append (stepped m) (first_state m) run.schedule (replicate goes.0 p) ∙ steps_behind m s p goes.0 in
    (goes.0, goes.1, subst (AreWordsOf style tree plan after to) (sym same) (goes.2 to moves))

mapped_at : (f : ℕ → ℕ) (a n p : ℕ) → p < n → slice_index (map f (range_with_len a n)) p ≡ f (a + p)
mapped_at f a zero p lt = absurd (omega (arith, lt))
mapped_at f a (suc n) zero lt = let here : a ≡ a + 0 = omega arith in ap f here
mapped_at f a (suc n) (suc p) lt = let next : a + 1 + p ≡ a + suc p = omega arith in mapped_at f (a + 1) n p (omega (arith, lt)) ∙ ap f next

pub at_ends : (style : Style) (tree : Tree) (plan : Plan) (words : List ℕ) (at : ℕ → ℕ) → (run : HasSchedule style tree plan words at) → ((p : ℕ) → p < plan.workers → at p ≡ length ((protocol_by style tree plan).acts p)) → IsEnded (machine_by style tree plan) (run_of (machine_by style tree plan) run.schedule)
unfolding acts_by
at_ends style tree plan words at run ends = λ p lt.
    let first : 0 + p ≡ p = omega arith in
    ap (λ (s : State). slice_index s.positions p) run.shows.is ∙ mapped_at at 0 plan.workers p lt ∙ ap at first ∙ ends p lt
