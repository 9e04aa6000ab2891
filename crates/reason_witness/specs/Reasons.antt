-- Why loops aren't dealt out, and why no weaker wait stands in a plan.
use Rattle.std.specs.Prelude.{ℕ, suc, ◌≡◌, nat_lt, MatchBool, List, [], ◌∷◌, ◌++◌, map, Option, Some, None}
use Rattle.std.specs.List.{AllZip, filter}
use Rattle.farkas_cert.specs.declared.certificate.CertRefusal.{CertRefusal}
use Rattle.nest_tree.specs.Tree.{Tree}
use Rattle.sync_plan.specs.Kinds.{strength}
use Rattle.sync_plan.specs.declared.plan.Kind.{Kind}
use Rattle.sync_plan.specs.declared.plan.Plan.{Plan}
use Rattle.comm_system.specs.Obligations.{obligations_of, tasks_of}
use Rattle.maker_candidates.specs.Candidates.{candidates_in}
use Rattle.maker_marks.specs.declared.tries.Tried.{Tried}
use Rattle.plan_checker.specs.Accepted.{IsAccepted}
use Rattle.plan_checker.specs.Failures.{first_failure}
use Rattle.plan_checker.specs.Refusals.{first_refusal}
use Rattle.plan_checker.specs.declared.refusal.PlanRefusal.TheVariants.{Bad, Missing}
use Rattle.plan_maker.specs.Bars.{Attempt, all_attempts, loop_prints, open_loops}
use Rattle.plan_maker.specs.Made.{IsMade}
use Rattle.plan_maker.specs.declared.reasons.Bar.{Bar}
use Rattle.plan_maker.specs.declared.reasons.Bar.TheVariants as bars
use Rattle.plan_maker.specs.declared.reasons.LoopReason.{LoopReason}
use Rattle.plan_maker.specs.declared.reasons.PhaseReason.{PhaseReason}
use Rattle.plan_maker.specs.declared.reasons.Reasons.{Reasons}
use Rattle.reason_witness.specs.Findings.{AreCertified, AreCertifiedUnder, IsFoundIn, IsFoundUnder}
use Rattle.reason_witness.specs.Plans.{alone_plan, with_kind}
use Rattle.reason_witness.specs.declared.account.About.{About}
use Rattle.reason_witness.specs.declared.account.About.TheVariants.{Loop, Refused, Weaker}
use Rattle.reason_witness.specs.declared.account.Account.{Account}
use Rattle.reason_witness.specs.declared.account.Reason.{Reason}
use Rattle.reason_witness.specs.declared.account.Why.{Why}
use Rattle.reason_witness.specs.declared.account.Why.TheVariants.{Certified, Found, Print, Unfit}
use Rattle.reason_witness.specs.declared.found.Found.{Found as FoundOne}
use Rattle.reason_witness.specs.declared.found.Wanted.{Wanted}
use Rattle.reason_witness.specs.declared.found.Wanted.TheVariants.{First, Named, Number}

-- an obligation is the reason where one is found
abbrev pub why_of : Option FoundOne → Why
why_of (Some f) = Found f
why_of None = Certified

-- why a loop without PRINT isn't dealt out, by the plan in which it alone is: the first reason why that plan doesn't fit; or it fits, and this obligation of it is looked for and told, or each that is looked for has a good certificate
abbrev pub IsWhySilent : Tree → Plan → Wanted → Why → Type 0
IsWhySilent tree alone wanted Print = ⊥
IsWhySilent tree alone wanted (Unfit refusal) = first_refusal tree alone ≡ Some refusal
IsWhySilent tree alone wanted (Found f) =
    (first_refusal tree alone ≡ None) × IsFoundIn (obligations_of tree alone) wanted f
IsWhySilent tree alone wanted Certified =
    (first_refusal tree alone ≡ None) × AreCertified (obligations_of tree alone) wanted

-- why a loop isn't dealt out by a try: that a PRINT stands in it, exactly where one does
abbrev pub IsWhySerial : Tree → ℕ → Tried → Wanted → Why → Type 0
IsWhySerial tree n t wanted why =
    MatchBool (loop_prints tree n) (why ≡ Print) (IsWhySilent tree (alone_plan tree n t) wanted why)

-- why a plan with a weaker kind isn't there: this obligation of it is looked for and told, or each that is looked for has a good certificate
abbrev pub IsWhyUnder : Tree → Plan → Wanted → Why → Type 0
IsWhyUnder tree weaker wanted Print = ⊥
IsWhyUnder tree weaker wanted (Unfit refusal) = ⊥
IsWhyUnder tree weaker wanted (Found f) = IsFoundUnder (tasks_of tree weaker) wanted f
IsWhyUnder tree weaker wanted Certified = AreCertifiedUnder (tasks_of tree weaker) wanted

-- why a plan is refused for its obligation with a number: what is found of that
abbrev pub IsWhyRefused : Tree → Plan → Wanted → Why → Type 0
IsWhyRefused tree plan wanted Print = ⊥
IsWhyRefused tree plan wanted (Unfit refusal) = ⊥
IsWhyRefused tree plan wanted (Found f) = IsFoundIn (obligations_of tree plan) wanted f
IsWhyRefused tree plan wanted Certified = ⊥

abbrev pub IsWhy : Tree → Plan → About → Wanted → Why → Type 0
IsWhy tree plan (Loop n t) wanted why = IsWhySerial tree n t wanted why
IsWhy tree plan (Weaker t kind) wanted why = IsWhyUnder tree (with_kind plan t kind) wanted why
IsWhy tree plan (Refused n) wanted why = IsWhyRefused tree plan wanted why

-- of what a reason is looked for, and among which obligations
pub record Question : Type 0 where
  pub about : About
  pub wanted : Wanted

abbrev pub question : About → Wanted → Question
question about wanted = record { about = about; wanted = wanted }

-- a question's reason, which is true
pub record IsAnswer (tree : Tree) (plan : Plan) (q : Question) (r : Reason) : Type 0 where
  pub about : r.about ≡ q.about
  pub wanted : r.wanted ≡ q.wanted
  pub why : IsWhy tree plan q.about q.wanted r.why

-- one true reason for each of these questions, in order
abbrev pub AreAnswers : Tree → Account → List Question → Type 0
AreAnswers tree a questions = AllZip (IsAnswer tree a.plan) questions a.reasons.items

-- what a reason of the maker asks: which obligation is in the way of a loop's try, or of a weaker kind
abbrev pub wanted_of : Bar → Wanted
wanted_of bars.Print = First
wanted_of (bars.Meeting cause) = Named cause

abbrev pub loop_question : LoopReason → Question
loop_question r = question (Loop r.number r.tried) (wanted_of r.bar)

abbrev pub phase_question : PhaseReason → Question
phase_question r = question (Weaker r.phase r.kind) (Named r.cause)

abbrev pub made_questions : Reasons → List Question
made_questions rs = map loop_question rs.loops.items ++ map phase_question rs.phases.items

-- what is told of a plan that is made for so many workers: one true reason for each of the maker's
pub record IsMadeAccount (tree : Tree) (workers : ℕ) (a : Account) : Type 0 where
  pub reasons : Reasons
  pub made : IsMade tree workers a.plan reasons
  pub told : AreAnswers tree a (made_questions reasons)

-- what is asked of a plan that is given and accepted: of each loop that is Outer or Single each try, and in front of each phase each candidate that is weaker than what stands there
abbrev pub weaker_than : Kind → List Kind → List Kind
weaker_than kind candidates = filter (λ k. nat_lt (strength k) (strength kind)) candidates

abbrev pub try_question : Attempt → Question
try_question a = question (Loop a.number a.tried) First

abbrev pub kind_question : ℕ → Kind → Question
kind_question t kind = question (Weaker t kind) First

abbrev pub weaker_questions : ℕ → List (List Kind) → List Kind → List Question
weaker_questions t [] kinds = []
weaker_questions t (ks ∷ candidates) [] = []
weaker_questions t (ks ∷ candidates) (kind ∷ kinds) =
    map (kind_question t) (weaker_than kind ks) ++ weaker_questions (suc t) candidates kinds

abbrev pub given_questions : Tree → Plan → List Question
given_questions tree plan = map try_question (all_attempts tree (open_loops 1 plan.cut.marks))
    ++ weaker_questions 1 (candidates_in tree plan) plan.kinds

-- a plan is refused for its obligation with this number, whose certificate is missing or bad
pub data IsRefusedFor (tree : Tree) (plan : Plan) (n : ℕ) : Type 0 where
  missing : (is : first_failure tree plan ≡ Some (Missing n)) → IsRefusedFor tree plan n
  bad : (fault : CertRefusal) (is : first_failure tree plan ≡ Some (Bad n fault))
      → IsRefusedFor tree plan n

abbrev pub refusal_question : ℕ → Question
refusal_question n = question (Refused n) (Number n)

-- one true reason for each question that a plan raises: for each of its maker's reasons where it is made; where it is given and accepted; for the obligation where it is refused for one
pub data AreReasons (tree : Tree) (a : Account) : Type 0 where
  made : (workers : ℕ) (is : IsMadeAccount tree workers a) → AreReasons tree a
  given : (accepted : IsAccepted tree a.plan)
      (told : AreAnswers tree a (given_questions tree a.plan)) → AreReasons tree a
  refused : (n : ℕ) (why : IsRefusedFor tree a.plan n)
      (told : AreAnswers tree a (refusal_question n ∷ [])) → AreReasons tree a

-- a plan that is made for so many workers
abbrev pub IsMadePlan : Tree → ℕ → Plan → Type 0
IsMadePlan tree workers plan = (reasons : Reasons) × IsMade tree workers plan reasons
