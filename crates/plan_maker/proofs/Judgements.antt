-- What is said of a system that is kept.
use Rattle.std.proofs.Common.{◌≡◌, ℕ, ℤ, List, inl, inr, refl, sym, subst}
use Rattle.farkas_cert.specs.declared.system.Row.{Row}
use Rattle.farkas_cert.specs.declared.certificate.Certificate.{Certificate}
use Rattle.farkas_cert.specs.Good.{IsGood}
use Rattle.presolve.specs.Presolution.{IsPresolved, Presolution}
use Rattle.farkas_cert.specs.Inequalities.{Inequalities, IsWholeSolution}
use Rattle.fm_elim.specs.declared.answer.Answer.{Answer}
use Rattle.fm_elim.specs.declared.answer.Answer.TheVariants as answers
use Rattle.fm_elim.specs.declared.elimination.Level.{Level}
use Rattle.fm_elim.specs.Advances.{order_of, system_of}
use Rattle.fm_elim.specs.Answers.{IsDecided, IsKept}
use Rattle.owner_partition.specs.declared.anchor.Dist.{Dist}
use Rattle.comm_system.specs.SystemViews.{about}
use Rattle.comm_system.specs.declared.obligation.Topic.{Topic}
use Rattle.plan_maker.specs.declared.cause.Cause.{Cause}
use Rattle.plan_maker.specs.declared.cause.Word.{Word}
use Rattle.plan_maker.specs.declared.cause.Word.TheVariants.{Open, Wide, Many, Work, Spent}
use Rattle.plan_maker.specs.declared.verdict.Verdict.{Verdict}
use Rattle.plan_maker.specs.declared.verdict.Verdict.TheVariants.{Kept, Refuted}
use Rattle.nest_systems.specs.Widened.{Widens}
use Rattle.plan_maker.specs.Asked.{IsKeptAs, IsKeptOf}
use Rattle.plan_maker.specs.Beginnings.{IsLevelOf}
use Rattle.plan_maker.specs.Found.{IsFound}
use Rattle.plan_maker.specs.Judged.{IsJudgement, asked_about, cause_for}
use Rattle.plan_maker.specs.Orders.{elimination_order}
use Rattle.plan_maker.specs.PlanWork.{IsUsedUp}

module _ (system : Inequalities) (order : List ℕ) where
  pub found_open : IsKept system order answers.Open → IsFound system order (Kept Open)
  found_open h = inl (answers.Open, h, refl)

  pub found_wide : (k : ℕ) (upper lower : Row) → IsKept system order (answers.Wide k upper lower) → IsFound system order (Kept Wide)
  found_wide k upper lower h = inl (answers.Wide k upper lower, h, refl)

  pub found_many : (k count : ℕ) → IsKept system order (answers.Many k count) → IsFound system order (Kept Many)
  found_many k count h = inl (answers.Many k count, h, refl)

  pub found_work : (k pairs : ℕ) → IsKept system order (answers.Work k pairs) → IsFound system order (Kept Work)
  found_work k pairs h = inl (answers.Work k pairs, h, refl)

  pub found_witness : (x : List ℤ) → IsWholeSolution system x → IsFound system order (Kept Open)
  found_witness x h = inr (inl (x, h, refl))

  pub found_spent : IsUsedUp → IsFound system order (Kept Spent)
  found_spent h = inr (inr (h, refl))

-- what is decided of a level's system in its order is decided of the same ones
pub level_decided : (s : Inequalities) (o : List ℕ) (l : Level) (answer : Answer) → IsLevelOf s o l → IsDecided (system_of l) (order_of l) answer → IsDecided s o answer
level_decided s o l answer level h = subst (λ x. IsDecided x o answer) level.system (subst (λ x. IsDecided (system_of l) x answer) level.order h)

-- what keeps what is left of a system keeps it
kept_of : (dists : List Dist) (whole : Inequalities) (left : Presolution) (word : Word) → IsPresolved whole left → Widens whole left → IsKeptAs left.system (elimination_order left.system.vars dists) word → IsKeptOf whole dists word
kept_of dists whole left word is widens (inl by) = inl (record { left = left; presolved = is; kept = by })
kept_of dists whole left word is widens (inr (inl witness)) =
    let (x, solution, said) = witness in
    let (ys, back, solved) = widens x solution in
    inr (inl (ys, solved, said))
kept_of dists whole left word is widens (inr (inr left_out)) = inr (inr left_out)

pub kept_so : (dists : List Dist) (topic : Topic) (whole : Inequalities) (left : Presolution) (word : Word) (cause : Cause) → IsPresolved whole left → Widens whole left → IsFound left.system (elimination_order left.system.vars dists) (Kept word) → cause ≡ cause_for (about topic whole) word →
    IsJudgement (asked_about dists (about topic whole)) (Kept cause)
kept_so dists topic whole left word cause is widens h e =
    let said : IsJudgement (asked_about dists (about topic whole)) (Kept (cause_for (about topic whole) word)) = record { kept = kept_of dists whole left word is widens h; lines = refl; variable = refl; level = refl; piece = refl } in
    subst (λ c. IsJudgement (asked_about dists (about topic whole)) (Kept c)) (sym e) said

-- a certificate that is found is good for what is asked
pub refuted_so : (whole : Inequalities) (left : Presolution) (system : Inequalities) (order : List ℕ) (found : Verdict Certificate Word) (certificate : Certificate) → system ≡ left.system → found ≡ Refuted certificate → IsFound system order found → IsGood left.system certificate
refuted_so whole left system order found certificate same is h = subst (λ s. IsGood s certificate) same (subst (IsFound system order) is h)
