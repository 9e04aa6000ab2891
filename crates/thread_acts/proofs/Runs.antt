-- A run of threads that do what the machine's acts do is the machine's.
use Rattle.std.proofs.Common.{◌≡◌, ℕ, ◌<◌, List, [], ◌∷◌, length, map, fold, Option, Some, None, if◌then◌else◌, refl, ap, ap₂, sym, ◌∙◌}
use Rattle.std.specs.Prelude.{slice_get, slice_index}
use Rattle.std.specs.List.{All, range_with_len}
use Rattle.std.specs.Option.{option_map}
use Rattle.std.proofs.lemmas.List.{length-map}
use Rattle.std.proofs.lemmas.Option.{slice_get-map}
use Rattle.std.proofs.lemmas.List.Elements.{All-cons, All-head, All-nil, All-tail}
use Rattle.spmd_model.specs.Deeds.{Deed, can_do, deed_of}
use Rattle.spmd_model.specs.States.{State, next_act, first_state, moved}
use Rattle.spmd_model.specs.Runs.{IsEnded, run_of, stepped, stepped_by}
use Rattle.spmd_model.specs.Timelines.{Machine}
use Rattle.spmd_model.specs.Acts.{Act, acts_of}
use Rattle.spmd_model.proofs.Deeds.{acted_is, possible_is}
use Rattle.spmd_model.specs.Fair.{IsFair, first_of}
use Rattle.spmd_model.specs.Reached.{CanGo}
use Rattle.spmd_model.specs.Machines.{machine_by}
use Rattle.spmd_model.specs.declared.style.Style.TheVariants.{Arrive}
use Rattle.nest_tree.specs.Tree.{Tree}
use Rattle.nest_tree.specs.WellFormed.{IsWellFormed}
use Rattle.sync_plan.specs.Fit.{IsFit}
use Rattle.sync_plan.specs.Stored.{AreStoredFirst}
use Rattle.sync_plan.specs.declared.plan.Plan.{Plan}
use Rattle.thread_code.specs.Closed.{AreTurnings}
use Rattle.thread_code.specs.Code.{Table, codes_of}
use Rattle.thread_acts.specs.ThreadDeeds.{code_deeds}
use Rattle.thread_acts.proofs.Acts.{code_acts}
use Rattle.thread_acts.specs.ThreadRuns.{AreDone, CanGoOn, Threads, next_deed, threads_of, threads_run, went, went_by}

module _ (m : Machine) (threads : Threads) (same : (p : ℕ) → p < m.workers → threads p ≡ map (deed_of m) (acts_of m p)) where
  step_by : (s : State) (p : ℕ) (o : Option Act) → went_by s p (option_map (deed_of m) o) ≡ stepped_by m s p o
  step_by s p None = refl
  step_by s p (Some a) =
      ap₂ (λ b (t : State). if b then moved t p else s) (sym (possible_is m s a)) (sym (acted_is m s p a))

  step_is : (s : State) (p : ℕ) → p < m.workers → went threads s p ≡ stepped m s p
  step_is s p below =
      let k = slice_index s.positions p in
      ap (λ ds. went_by s p (slice_get ds k)) (same p below) ∙ ap (went_by s p) (slice_get-map (deed_of m) (acts_of m p) k) ∙ step_by s p (slice_get (acts_of m p) k)

  -- the next deed is the next act's
  pub next_is : (s : State) (p : ℕ) → p < m.workers → next_deed threads s p ≡ option_map (deed_of m) (next_act m s p)
  next_is s p below = ap (λ ds. slice_get ds (slice_index s.positions p)) (same p below) ∙ slice_get-map (deed_of m) (acts_of m p) (slice_index s.positions p)

  pub run_is : (schedule : List ℕ) (s : State) → All (λ p. p < m.workers) schedule → fold (went threads) s schedule ≡ fold (stepped m) s schedule
  run_is [] s all = refl
  run_is (p ∷ schedule) s all =
      ap (λ t. fold (went threads) t schedule) (step_is s p (All-head (λ q. q < m.workers) p schedule all)) ∙ run_is schedule (stepped m s p) (All-tail (λ q. q < m.workers) p schedule all)

  pub long : (p : ℕ) → p < m.workers → length (threads p) ≡ length (acts_of m p)
  long p below = ap (λ (ds : List Deed). length ds) (same p below) ∙ length-map (acts_of m p) (deed_of m)

-- an order of processors alone
all_below : (workers : ℕ) (order : ℕ → ℕ) → ((n : ℕ) → order n < workers) → (ns : List ℕ) → All (λ p. p < workers) (map order ns)
all_below workers order below [] = All-nil (λ p. p < workers)
all_below workers order below (n ∷ ns) = All-cons (λ p. p < workers) (order n) (map order ns) (below n) (all_below workers order below ns)

pub order_below : (workers n : ℕ) (order : ℕ → ℕ) → IsFair workers order → All (λ p. p < workers) (first_of order n)
order_below workers n order fair = all_below workers order fair.below (range_with_len 0 n)

module _ (table : Table) (tree : Tree) (plan : Plan) (turnings : AreTurnings plan.workers table) (formed : IsWellFormed tree) (fits : IsFit tree plan) (stored : AreStoredFirst tree plan) where
  abbrev m : Machine
  m = machine_by Arrive tree plan

  pub same_run : (schedule : List ℕ) → All (λ p. p < plan.workers) schedule → threads_run tree plan (codes_of table tree plan) schedule ≡ run_of m schedule
  same_run schedule all = run_is m (threads_of tree plan (codes_of table tree plan)) (λ p below. code_acts table tree plan p turnings formed fits stored below) schedule (first_state m) all

  same_length : (p : ℕ) → p < plan.workers → length (code_deeds tree plan p (codes_of table tree plan)) ≡ length (acts_of m p)
  same_length p below = long m (threads_of tree plan (codes_of table tree plan)) (λ p below. code_acts table tree plan p turnings formed fits stored below) p below

  -- all are done where the machine has ended
  pub ended_of : (schedule : List ℕ) → All (λ p. p < plan.workers) schedule → AreDone tree plan (codes_of table tree plan) (threads_run tree plan (codes_of table tree plan) schedule) → IsEnded m (run_of m schedule)
  ended_of schedule all done = λ p below. ap (λ (s : State). slice_index s.positions p) (sym (same_run schedule all)) ∙ done p below ∙ same_length p below

  pub done_of : (schedule : List ℕ) → All (λ p. p < plan.workers) schedule → IsEnded m (run_of m schedule) → AreDone tree plan (codes_of table tree plan) (threads_run tree plan (codes_of table tree plan) schedule)
  done_of schedule all ended = λ p below. ap (λ (s : State). slice_index s.positions p) (same_run schedule all) ∙ ended p below ∙ sym (same_length p below)

  pub same_next : (schedule : List ℕ) (p : ℕ) → All (λ q. q < plan.workers) schedule → p < plan.workers →
      next_deed (threads_of tree plan (codes_of table tree plan)) (threads_run tree plan (codes_of table tree plan) schedule) p ≡ option_map (deed_of m) (next_act m (run_of m schedule) p)
  same_next schedule p all below =
      ap (λ s. next_deed (threads_of tree plan (codes_of table tree plan)) s p) (same_run schedule all)
      ∙ next_is m (threads_of tree plan (codes_of table tree plan)) (λ p below. code_acts table tree plan p turnings formed fits stored below) (run_of m schedule) p below

  -- where the machine can go on, so can they
  pub goes_of : (schedule : List ℕ) → All (λ p. p < plan.workers) schedule → CanGo m (run_of m schedule) → CanGoOn tree plan (codes_of table tree plan) (threads_run tree plan (codes_of table tree plan) schedule)
  goes_of schedule all can = record {
    processor = can.processor;
    below = can.below;
    deed = deed_of m can.act;
    next = same_next schedule can.processor all can.below ∙ ap (option_map (deed_of m)) can.next;
    possible = ap (λ s. can_do s (deed_of m can.act)) (same_run schedule all) ∙ sym (possible_is m (run_of m schedule) can.act) ∙ can.possible;
  }
