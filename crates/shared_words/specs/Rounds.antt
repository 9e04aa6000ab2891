-- Rounds of legs: what a leg of each worker did, and how much all have left.
use Rattle.std.specs.Prelude.{ℕ, ◌+◌, ◌-◌, ◌≡◌, ◌≤◌, ◌<◌, ◌⊎◌, Bool, true, false, List, length, if◌then◌else◌}
use Rattle.nest_tree.specs.Tree.{Tree}
use Rattle.sync_plan.specs.declared.plan.Plan.{Plan}
use Rattle.spmd_model.specs.Free.{IsInVain}
use Rattle.spmd_model.specs.Acts.{Act}
use Rattle.spmd_model.specs.declared.style.Style.{Style}
use Rattle.spmd_model.specs.PlanProtocols.{protocol_by}
use Rattle.shared_words.specs.Places.{total}

-- the acts that a worker has left of so many, and one more where no leg has answered that it ended
abbrev pub left_of : (acts at : ℕ) → (ended : Bool) → ℕ
left_of acts at ended = (acts - at) + (if ended then 0 else 1)

abbrev pub left_of_all : (ℕ → List Act) → (ℕ → ℕ) → (ℕ → Bool) → (workers : ℕ) → ℕ
left_of_all acts at ended workers = total (λ p. left_of (length (acts p)) (at p) (ended p)) workers

-- what a leg did, or that there was none for one that has ended: one that stays where it was has come to its end, or stands in vain
pub record Went (vain : Type 0) (at new : ℕ) (ended over : Bool) : Type 0 where
  pub further : at ≤ new
  pub stays : ended ≡ true → over ≡ true
  pub tells : ended ≡ false → new ≡ at → (over ≡ true) ⊎ vain

-- where one worker hasn't ended, less is left behind a leg of each: who stood in vain did so at the places in front of the legs
abbrev pub LeaveLess : Style → Tree → Plan → Type 0
LeaveLess style tree plan = let m = protocol_by style tree plan in
    (at new : ℕ → ℕ) (ended over : ℕ → Bool) (one : ℕ)
    → ((p : ℕ) → p < m.workers → Went (IsInVain m.acts at p (at p)) (at p) (new p) (ended p)
    (over p)) → ((p : ℕ) → p < m.workers → ended p ≡ true → at p ≡ length (m.acts p))
    → ((p : ℕ) → p < m.workers → new p ≤ length (m.acts p)) → one < m.workers → ended one ≡ false
    → left_of_all m.acts new over m.workers < left_of_all m.acts at ended m.workers
