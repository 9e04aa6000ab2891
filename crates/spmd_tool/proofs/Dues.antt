-- What is due, by its cases.
use Rattle.std.proofs.Common.{◌≡◌, ◌≢◌, ◌≤◌, ◌<◌, ◌==◌, ◌-◌, ℕ, ℤ, Bool, true, false, List, [], ◌∷◌, length, Option, Some, None, IfSome, nat_lt, if◌then◌else◌, option_map, ◌⊎◌, inl, inr, ⊎_elim, refl, sym, ap, subst, ◌∙◌, arith, ltb-false, ltb-true}
use Rattle.std.specs.Option.{option_or}
use Rattle.std.proofs.lemmas.Bool.{cases_Bool}
use Rattle.std.proofs.lemmas.Bool.Decides.{nat_tests}
use Rattle.std.specs.List.{list_any}
use Rattle.nest_tree.specs.Tree.{Tree}
use Rattle.nest_model.specs.Memory.{output_of}
use Rattle.f77_lines.specs.Listing.{entries_of}
use Rattle.f77_program.specs.declared.refusal.Refusal.TheVariants.{BadSetting}
use Rattle.f77_scene.specs.Fault.{Fault, Refusal, bad_line, bad_setting, bad_statement}
use Rattle.f77_scene.specs.Reading.{SourceStatement, at_line, fault_from, fault_with, first_fault_in, given_with, scene_with, statements_in}
use Rattle.f77_scene.specs.Scene.{Given as SceneGiven, Name, Scene, first_scene}
use Rattle.plan_input.proofs.Firsts.{first_some}
use Rattle.plan_input.specs.Sources.{behind_end}
use Rattle.plan_input.specs.Statuses.{status_of}
use Rattle.plan_input.specs.Errors.{first_error, error_of_fault}
use Rattle.plan_input.specs.declared.error.InputError.{InputError}
use Rattle.plan_input.specs.declared.error.InputError.TheVariants as errors
use Rattle.clap.specs.Words.{Text, fault_of, subcommand_of}
use Rattle.clap.specs.declared.error.kind.ErrorKind.{ErrorKind}
use Rattle.command_words.specs.Rule.{tool_app}
use Rattle.command_words.specs.Settings.{settings_in}
use Rattle.command_words.specs.Wanted.{Wanted, sequential, verify, swept, planned, run, bench, Takes, AreFaulty, asks_to_show, has_wrong_sweep, is_shown, wanted_by}
use Rattle.command_words.specs.declared.request.PlanChoice.TheVariants.{Made, Barrier, Given}
use Rattle.spmd_answer.specs.Due as answer
use Rattle.spmd_answer.specs.Due.{Due, IsDueOn, IsFirstOr, IsRefusalFor, IsTextFor, Readings, behind_of, done, due_for, due_of_refusal, due_of_error, is_alone, line, makes_plan, setting_error, plan_refused, unaccepted, written, wrong_setting}
use Rattle.spmd_answer.specs.declared.source.Behind.{Behind}
use Rattle.spmd_answer.specs.declared.source.Behind.TheVariants.{Comments, PlanText, SweptPlan}
use Rattle.plan_input.specs.declared.status.Status.{Status}
use Rattle.plan_input.specs.declared.status.Status.TheVariants.{Done, SourceRefused, BadWords, ReadFault, WriteFault, NoMemory, PlanRefused, TooLong}
use Rattle.spmd_answer.proofs.Existence.{first_never, never_none}
use Rattle.spmd_answer.proofs.Unique.{first_one, one_is_due, one_refused, refused_or_proved, refused_or_taken}
use Rattle.spmd_answer.proofs.Unique as unique
use Rattle.spmd_tool.specs.Due.{AreWrong, AskFor, HasPlan, IsDue, IsDueFor, IsRunnable, IsUnplanned, MakeNoPlan, all_settings, readings_for, asked, due_of_form, faulty, first_wrong, ReadFor, is_said, most_bytes, program_for, reads, settings_of, shown, source_for, too_long, wrong_words}

-- ---- what words stand for

-- words stand for one request
pub one_request : (words : List Text) (v w : Wanted) → Takes words v → Takes words w → v ≡ w
one_request words v w p q = let e : Some v ≡ Some w = sym p.1 ∙ q.1 in cc

-- and ask for nothing to be shown
taken-unshown : (words : List Text) (w : Wanted) → Takes words w → asks_to_show words ≡ false
taken-unshown words w p = ap (list_any is_shown) p.0

pub taken_or_shown : (words : List Text) (w : Wanted) → Takes words w → asks_to_show words ≡ true → ⊥
taken_or_shown words w p e = let h : true ≡ false = sym e ∙ taken-unshown words w p in cc

pub taken_or_faulty : (words : List Text) (w : Wanted) → Takes words w → AreFaulty words → ⊥
taken_or_faulty words w p f =
    ⊎_elim (λ some. some p.0) (λ (none : wanted_by (subcommand_of tool_app words) ≡ None). let e : Some w ≡ None = sym p.1 ∙ none in cc) f.1

shown_or_faulty : (words : List Text) → asks_to_show words ≡ true → AreFaulty words → ⊥
shown_or_faulty words e f = let h : true ≡ false = sym e ∙ f.0 in cc

-- ---- the statuses of what is due for a source

map_some : (P : Due → Type 0) (behind : Behind) (o : Option InputError) → IfSome o (λ s. P (due_of_error behind s)) → IfSome (option_map (due_of_error behind) o) P
map_some P behind None p = tt
map_some P behind (Some s) p = p

-- what holds of each refusal of a source, by the statuses that it may have
refusal_some : (P : Due → Type 0) (behind : Behind) (bytes : List ℕ) (settings : List (Name × ℤ)) → ((text : List ℕ) → P (record { status = SourceRefused; text = text })) → IfSome (first_fault_in (entries_of bytes) settings) (λ r. P (due_of_error behind (error_of_fault r))) → IfSome (due_of_refusal behind bytes settings) P
refusal_some P behind bytes settings p faults =
    map_some P behind (first_error (is_alone behind) bytes settings)
    (first_some (λ s. P (due_of_error behind s)) (is_alone behind) bytes settings (λ r. p (due_of_error behind (errors.Line r)).text) faults (λ l. p (due_of_error behind (errors.Limit l)).text) (λ o. p (due_of_error behind (errors.Range o)).text))

refuses : Status → Bool
refuses Done = false
refuses SourceRefused = true
refuses BadWords = true
refuses ReadFault = false
refuses WriteFault = false
refuses NoMemory = false
refuses PlanRefused = false
refuses TooLong = false

either_status : (P : Status → Type 0) (b : Bool) (s t : InputError) → P (status_of s) → P (status_of t) → P (status_of (if b then s else t))
either_status P true s t p q = p
either_status P false s t p q = q

setting_refuses : (behind : Behind) (index : ℕ) → refuses (due_for (setting_error behind index)).status ≡ true
unfolding refuses
setting_refuses Comments index = refl
setting_refuses PlanText index = refl
setting_refuses SweptPlan index = either_status (λ s. refuses s ≡ true) (index == 1) errors.BadSweep (errors.Statement (BadSetting (index - 1))) refl refl

fault_refuses : (behind : Behind) (r : Refusal) → refuses (due_of_error behind (error_of_fault r)).status ≡ true
unfolding refuses
fault_refuses behind (bad_line refusal) = refl
fault_refuses behind (bad_statement fault n) = refl
fault_refuses behind (bad_setting index) = setting_refuses behind index

faults_refuse : (behind : Behind) (o : Option Refusal) → IfSome o (λ r. refuses (due_of_error behind (error_of_fault r)).status ≡ true)
faults_refuse behind None = tt
faults_refuse behind (Some r) = fault_refuses behind r

refusal_refuses : (behind : Behind) (bytes : List ℕ) (settings : List (Name × ℤ)) → IfSome (due_of_refusal behind bytes settings) (λ d. refuses d.status ≡ true)
unfolding refuses
refusal_refuses behind bytes settings = refusal_some (λ d. refuses d.status ≡ true) behind bytes settings (λ text. refl) (faults_refuse behind (first_fault_in (entries_of bytes) settings))

refuses-said : (s : Status) → refuses s ≡ true → is_said s ≡ true
unfolding refuses
refuses-said Done e = refl
refuses-said SourceRefused e = refl
refuses-said BadWords e = refl
refuses-said TooLong e = refl
refuses-said ReadFault e = cc
refuses-said WriteFault e = cc
refuses-said NoMemory e = cc
refuses-said PlanRefused e = cc

at_some : (P : Due → Type 0) (o : Option Due) (d : Due) → IfSome o P → o ≡ Some d → P d
at_some P None d p e = absurd (cc)
at_some P (Some r) d p e = subst P (let same : r ≡ d = cc in same) p

-- ---- without settings no status 2 is due

abbrev IsSourceFault : Behind → Refusal → Type 0
IsSourceFault behind r = (due_of_error behind (error_of_fault r)).status ≡ SourceRefused

at_line-source : (behind : Behind) (line : ℕ) (o : Option Fault) → IfSome (at_line line o) (IsSourceFault behind)
at_line-source behind line None = tt
at_line-source behind line (Some fault) = refl

either_source : (behind : Behind) (a b : Option Refusal) → IfSome a (IsSourceFault behind) → IfSome b (IsSourceFault behind) → IfSome (option_or a b) (IsSourceFault behind)
either_source behind None b p q = q
either_source behind (Some r) b p q = p

faults-source : (behind : Behind) (given : SceneGiven) (s : Scene) (ps : List SourceStatement) → IfSome (fault_from given s ps) (IsSourceFault behind)
unfolding fault_from
faults-source behind given s [] = tt
faults-source behind given s (p ∷ ps) =
    either_source behind _ _ (at_line-source behind p.line (fault_with given s (length ps) p.label p.reading)) (faults-source behind given (scene_with given s p.label p.reading) ps)

source-unnamed : (behind : Behind) (bytes : List ℕ) → IfSome (due_of_refusal behind bytes []) (λ d. d.status ≡ SourceRefused)
source-unnamed behind bytes =
    let statements : List SourceStatement = statements_in (entries_of bytes) in
    refusal_some (λ d. d.status ≡ SourceRefused) behind bytes [] (λ text. refl) (either_source behind _ None (faults-source behind (given_with statements []) first_scene statements) tt)

-- ---- due for a request

abbrev refusal_for : Wanted → List ℕ → Option Due
refusal_for w bytes = due_of_refusal (behind_of w) bytes (all_settings w)

-- what is due for a request, by its cases: a wrong setting, too long a source, a refusal of the source, one of the plan, or the text that is asked for
data Case (w : Wanted) (bytes : List ℕ) (d : Due) : Type 0 where
  case_wrong : (index : ℕ) (first : first_wrong w ≡ Some index) (is : d ≡ wrong_setting index) → Case w bytes d
  case_long : (right : first_wrong w ≡ None) (more : most_bytes < length bytes) (is : d ≡ too_long) → Case w bytes d
  case_refused : (right : first_wrong w ≡ None) (short : length bytes ≤ most_bytes) (r : Due) (first : refusal_for w bytes ≡ Some r) (is : d ≡ r) → Case w bytes d
  case_unfit : (right : first_wrong w ≡ None) (short : length bytes ≤ most_bytes) (none : refusal_for w bytes ≡ None) (reason : List ℕ) (refusing : IsRefusalFor w (program_for w bytes) (behind_end bytes) reason) (is : d ≡ plan_refused reason) → Case w bytes d
  case_runs : (right : first_wrong w ≡ None) (short : length bytes ≤ most_bytes) (none : refusal_for w bytes ≡ None) (text : List ℕ) (writes : IsTextFor w (program_for w bytes) (readings_for w bytes) (behind_end bytes) text) (is : d ≡ done text) → Case w bytes d

case_of : (w : Wanted) (bytes : List ℕ) (d : Due) → IsDueFor w bytes d → Case w bytes d
unfolding IsDueFor
case_of w bytes d h = by_form (first_wrong w) (nat_lt most_bytes (length bytes)) refl refl h
  where
    on_program : first_wrong w ≡ None → length bytes ≤ most_bytes → refusal_for w bytes ≡ None → IsDueOn w (program_for w bytes) (readings_for w bytes) (behind_end bytes) d → Case w bytes d
    on_program right short none (unaccepted reason is e) = case_unfit right short none reason is e
    on_program right short none (written text is e) = case_runs right short none text is e

    by_source : (o : Option Due) → first_wrong w ≡ None → length bytes ≤ most_bytes → refusal_for w bytes ≡ o → IsFirstOr o (IsDueOn w (program_for w bytes) (readings_for w bytes) (behind_end bytes)) d → Case w bytes d
    by_source (Some r) right short e h = case_refused right short r e h
    by_source None right short e h = on_program right short e h

    by_form : (o : Option ℕ) (b : Bool) → first_wrong w ≡ o → nat_lt most_bytes (length bytes) ≡ b
        → IsFirstOr (option_or (option_map wrong_setting o) (if b then Some too_long else None)) (answer.IsDueOf w (settings_in (settings_of w)) bytes) d → Case w bytes d
    by_form (Some index) b p q h = case_wrong index p h
    by_form None true p q h = case_long p (ltb-true most_bytes (length bytes) q) h
    by_form None false p q h = by_source (refusal_for w bytes) p (ltb-false most_bytes (length bytes) q) refl h

pub request-said : (w : Wanted) (bytes : List ℕ) (d : Due) → IsDueFor w bytes d → is_said d.status ≡ true
request-said w bytes d h = by_case (case_of w bytes d h)
  where
    by_case : Case w bytes d → is_said d.status ≡ true
    by_case (case_wrong index first is) = ap (λ x. is_said x.status) is
    by_case (case_long right more is) = ap (λ x. is_said x.status) is
    by_case (case_refused right short r first is) =
        ap (λ x. is_said x.status) is ∙ refuses-said r.status (at_some (λ x. refuses x.status ≡ true) (refusal_for w bytes) r (refusal_refuses (behind_of w) bytes (all_settings w)) first)
    by_case (case_unfit right short none reason refusing is) = ap (λ x. is_said x.status) is
    by_case (case_runs right short none text writes is) = ap (λ x. is_said x.status) is

-- a plan stands behind END, where one is needed, exactly where a text is due
plan_of_text : (w : Wanted) (tree : Tree) (at : Readings) (bytes text : List ℕ) → IsTextFor w tree at bytes text → HasPlan w tree bytes
plan_of_text (sequential settings) tree at bytes text is = tt
plan_of_text (verify settings) tree at bytes text (plan, is, e) = (plan, is)
plan_of_text (swept s settings) tree at bytes text (plan, is, e) = (plan, is)
plan_of_text (planned workers settings) tree at bytes text is = tt
plan_of_text (run workers Made by settings) tree at bytes text is = tt
plan_of_text (run workers Barrier by settings) tree at bytes text is = tt
plan_of_text (run workers Given by settings) tree at bytes text (plan, (is, e)) = (plan, is)
plan_of_text (bench workers points sweeps) tree at bytes text is = tt

plan_or_refusal : (w : Wanted) (tree : Tree) (bytes reason : List ℕ) → HasPlan w tree bytes → IsRefusalFor w tree bytes reason → ⊥
plan_or_refusal (sequential settings) tree bytes reason has is = is
plan_or_refusal (verify settings) tree bytes reason (plan, taken) is = refused_or_taken None tree bytes reason plan is taken
plan_or_refusal (swept s settings) tree bytes reason (plan, proved) is = refused_or_proved tree bytes reason plan is proved
plan_or_refusal (planned workers settings) tree bytes reason has is = is
plan_or_refusal (run workers Made by settings) tree bytes reason has is = is
plan_or_refusal (run workers Barrier by settings) tree bytes reason has is = is
plan_or_refusal (bench workers points sweeps) tree bytes reason has is = is
plan_or_refusal (run workers Given by settings) tree bytes reason (plan, taken) is = refused_or_taken (Some workers) tree bytes reason plan is taken

-- with status 0 the source may be run, and the text is what is asked for
pub record IsRunOf (w : Wanted) (bytes : List ℕ) (d : Due) : Type 0 where
  pub settings_are : first_wrong w ≡ None
  pub runnable : IsRunnable w bytes
  pub is_text : IsTextFor w (program_for w bytes) (readings_for w bytes) (behind_end bytes) d.text

refuses-done : (d r : Due) → d ≡ r → d.status ≡ Done → refuses r.status ≡ true → ⊥
unfolding refuses
refuses-done d r is e h = let f : refuses Done ≡ true = ap refuses (sym e ∙ ap (λ x. x.status) is) ∙ h in cc

pub request-done : (w : Wanted) (bytes : List ℕ) (d : Due) → IsDueFor w bytes d → d.status ≡ Done → IsRunOf w bytes d
request-done w bytes d h e = by_case (case_of w bytes d h)
  where
    by_case : Case w bytes d → IsRunOf w bytes d
    by_case (case_wrong index first is) = absurd (let f : BadWords ≡ Done = ap (λ x. x.status) (sym is) ∙ e in cc)
    by_case (case_long right more is) = absurd (let f : TooLong ≡ Done = ap (λ x. x.status) (sym is) ∙ e in cc)
    by_case (case_refused right short r first is) =
        absurd (refuses-done d r is e (at_some (λ x. refuses x.status ≡ true) (refusal_for w bytes) r (refusal_refuses (behind_of w) bytes (all_settings w)) first))
    by_case (case_unfit right short none reason refusing is) = absurd (let f : PlanRefused ≡ Done = ap (λ x. x.status) (sym is) ∙ e in cc)
    by_case (case_runs right short none text writes is) = record {
      settings_are = right;
      runnable = record { short = short; unrefused = none; planned = plan_of_text w (program_for w bytes) (readings_for w bytes) (behind_end bytes) text writes };
      is_text = subst (IsTextFor w (program_for w bytes) (readings_for w bytes) (behind_end bytes)) (ap (λ x. x.text) (sym is)) writes;
    }

-- with status 6 the plan is refused, and nothing before it
pub record IsUnfitOf (w : Wanted) (bytes : List ℕ) (d : Due) : Type 0 where
  pub settings_are : first_wrong w ≡ None
  pub unplanned : IsUnplanned w bytes
  pub reason : List ℕ
  pub is_reason : IsRefusalFor w (program_for w bytes) (behind_end bytes) reason
  pub text_is : d.text ≡ line reason

refuses-plan : (d r : Due) → d ≡ r → d.status ≡ PlanRefused → refuses r.status ≡ true → ⊥
unfolding refuses
refuses-plan d r is e h = let f : refuses PlanRefused ≡ true = ap refuses (sym e ∙ ap (λ x. x.status) is) ∙ h in cc

pub request-unfit : (w : Wanted) (bytes : List ℕ) (d : Due) → IsDueFor w bytes d → d.status ≡ PlanRefused → IsUnfitOf w bytes d
request-unfit w bytes d h e = by_case (case_of w bytes d h)
  where
    by_case : Case w bytes d → IsUnfitOf w bytes d
    by_case (case_wrong index first is) = absurd (let f : BadWords ≡ PlanRefused = ap (λ x. x.status) (sym is) ∙ e in cc)
    by_case (case_long right more is) = absurd (let f : TooLong ≡ PlanRefused = ap (λ x. x.status) (sym is) ∙ e in cc)
    by_case (case_refused right short r first is) =
        absurd (refuses-plan d r is e (at_some (λ x. refuses x.status ≡ true) (refusal_for w bytes) r (refusal_refuses (behind_of w) bytes (all_settings w)) first))
    by_case (case_unfit right short none reason is_reason is) = record {
      settings_are = right;
      unplanned = record { short = short; unrefused = none; unplanned = λ has. plan_or_refusal w (program_for w bytes) (behind_end bytes) reason has is_reason };
      reason = reason;
      is_reason = is_reason;
      text_is = ap (λ x. x.text) is;
    }
    by_case (case_runs right short none text writes is) = absurd (let f : Done ≡ PlanRefused = ap (λ x. x.status) (sym is) ∙ e in cc)

-- with status 1 it was read
pub request-refused : (w : Wanted) (bytes : List ℕ) (d : Due) → IsDueFor w bytes d → d.status ≡ SourceRefused → first_wrong w ≡ None
request-refused w bytes d h e = by_case (case_of w bytes d h)
  where
    by_case : Case w bytes d → first_wrong w ≡ None
    by_case (case_wrong index first is) = absurd (let f : BadWords ≡ SourceRefused = ap (λ x. x.status) (sym is) ∙ e in cc)
    by_case (case_long right more is) = right
    by_case (case_refused right short r first is) = right
    by_case (case_unfit right short none reason refusing is) = right
    by_case (case_runs right short none text writes is) = right

-- a word that should be a setting and is none
pub request-wrong : (w : Wanted) (bytes : List ℕ) (d : Due) (n : ℕ) → IsDueFor w bytes d → first_wrong w ≡ Some n → d ≡ wrong_setting n
request-wrong w bytes d n h e = by_case (case_of w bytes d h)
  where
    wrong_or_right : first_wrong w ≡ None → d ≡ wrong_setting n
    wrong_or_right right = absurd (let f : Some n ≡ None = sym e ∙ right in cc)

    by_case : Case w bytes d → d ≡ wrong_setting n
    by_case (case_wrong index first is) = is ∙ ap wrong_setting (let f : Some index ≡ Some n = sym first ∙ e in let same : index ≡ n = cc in same)
    by_case (case_long right more is) = wrong_or_right right
    by_case (case_refused right short r first is) = wrong_or_right right
    by_case (case_unfit right short none reason refusing is) = wrong_or_right right
    by_case (case_runs right short none text writes is) = wrong_or_right right

-- a source that may be run is
pub request-runs : (w : Wanted) (bytes : List ℕ) (d : Due) → IsDueFor w bytes d → first_wrong w ≡ None → IsRunnable w bytes → d.status ≡ Done
request-runs w bytes d h e r = by_case (case_of w bytes d h)
  where
    by_case : Case w bytes d → d.status ≡ Done
    by_case (case_wrong index first is) = absurd (let f : Some index ≡ None = sym first ∙ e in cc)
    by_case (case_long right more is) = absurd (let short = r.short in omega arith)
    by_case (case_refused right short x first is) = absurd (let f : Some x ≡ None = sym first ∙ r.unrefused in cc)
    by_case (case_unfit right short none reason refusing is) = absurd (plan_or_refusal w (program_for w bytes) (behind_end bytes) reason r.planned refusing)
    by_case (case_runs right short none text writes is) = ap (λ x. x.status) is

-- and one without its plan has status 6
pub request-unplanned : (w : Wanted) (bytes : List ℕ) (d : Due) → IsDueFor w bytes d → first_wrong w ≡ None → IsUnplanned w bytes → d.status ≡ PlanRefused
request-unplanned w bytes d h e r = by_case (case_of w bytes d h)
  where
    by_case : Case w bytes d → d.status ≡ PlanRefused
    by_case (case_wrong index first is) = absurd (let f : Some index ≡ None = sym first ∙ e in cc)
    by_case (case_long right more is) = absurd (let short = r.short in omega arith)
    by_case (case_refused right short x first is) = absurd (let f : Some x ≡ None = sym first ∙ r.unrefused in cc)
    by_case (case_unfit right short none reason refusing is) = ap (λ x. x.status) is
    by_case (case_runs right short none text writes is) = absurd (r.unplanned (plan_of_text w (program_for w bytes) (readings_for w bytes) (behind_end bytes) text writes))

pub request-unnamed : (w : Wanted) (bytes : List ℕ) (d : Due) → IsDueFor w bytes d → first_wrong w ≡ None → all_settings w ≡ [] → d.status ≢ BadWords
request-unnamed w bytes d h right none b = by_case (case_of w bytes d h)
  where
    by_case : Case w bytes d → ⊥
    by_case (case_wrong index first is) = let f : None ≡ Some index = sym right ∙ first in cc
    by_case (case_long fine more is) = let f : TooLong ≡ BadWords = ap (λ x. x.status) (sym is) ∙ b in cc
    by_case (case_refused fine short r first is) =
        let source : r.status ≡ SourceRefused = at_some (λ x. x.status ≡ SourceRefused) (due_of_refusal (behind_of w) bytes []) r (source-unnamed (behind_of w) bytes) (subst (λ all. due_of_refusal (behind_of w) bytes all ≡ Some r) none first) in
        let f : SourceRefused ≡ BadWords = sym source ∙ (ap (λ x. x.status) (sym is) ∙ b) in cc
    by_case (case_unfit fine short nothing reason refusing is) = let f : PlanRefused ≡ BadWords = ap (λ x. x.status) (sym is) ∙ b in cc
    by_case (case_runs fine short nothing text writes is) = let f : Done ≡ BadWords = ap (λ x. x.status) (sym is) ∙ b in cc

-- what holds of two that are due for a request, where it holds of equal ones and of those that the source's bytes give
related_for : (P : Due → Due → Type 0) (w : Wanted) (bytes : List ℕ) (a b : Due) → ((d : Due) → P d d) → (answer.IsDueOf w (settings_in (settings_of w)) bytes a → answer.IsDueOf w (settings_in (settings_of w)) bytes b → P a b)
    → IsDueFor w bytes a → IsDueFor w bytes b → P a b
unfolding IsDueFor
related_for P w bytes a b same rest = first_one P (due_of_form w bytes) (answer.IsDueOf w (settings_in (settings_of w)) bytes) a b same rest

-- one status is due for a request
status_for : (w : Wanted) (bytes : List ℕ) (a b : Due) → IsDueFor w bytes a → IsDueFor w bytes b → a.status ≡ b.status
status_for w bytes a b = related_for (λ x y. x.status ≡ y.status) w bytes a b (λ d. refl) (unique.one_status w (settings_in (settings_of w)) bytes a b)

-- and one text with it, where that isn't 0 or no plan is made
refused_for : (w : Wanted) (bytes : List ℕ) (a b : Due) → IsDueFor w bytes a → IsDueFor w bytes b → a.status ≢ Done → a ≡ b
refused_for w bytes a b = related_for (λ x y. x.status ≢ Done → x ≡ y) w bytes a b (λ d other. refl) (one_refused w (settings_in (settings_of w)) bytes a b)

one_for : (w : Wanted) (bytes : List ℕ) (a b : Due) → makes_plan w ≡ false → IsDueFor w bytes a → IsDueFor w bytes b → a ≡ b
one_for w bytes a b fixed = related_for (λ x y. x ≡ y) w bytes a b (λ d. refl) (one_is_due w (settings_in (settings_of w)) bytes a b fixed)

-- ---- what was found is due

pub for_wrong : (w : Wanted) (bytes : List ℕ) (d : Due) (n : ℕ) → first_wrong w ≡ Some n → d ≡ wrong_setting n → IsDueFor w bytes d
unfolding IsDueFor
for_wrong w bytes d n e is = by_form (first_wrong w) e
  where
    by_form : (o : Option ℕ) → o ≡ Some n → IsFirstOr (option_or (option_map wrong_setting o) (if nat_lt most_bytes (length bytes) then Some too_long else None)) (answer.IsDueOf w (settings_in (settings_of w)) bytes) d
    by_form (Some index) p = is ∙ ap wrong_setting (let same : n ≡ index = cc in same)
    by_form None p = absurd (cc)

pub for_form : (w : Wanted) (bytes : List ℕ) (d : Due) (b : Bool) → first_wrong w ≡ None → nat_lt most_bytes (length bytes) ≡ b
    → IsFirstOr (if b then Some too_long else None) (answer.IsDueOf w (settings_in (settings_of w)) bytes) d → IsDueFor w bytes d
unfolding IsDueFor
for_form w bytes d b e q h = by_form (first_wrong w) (nat_lt most_bytes (length bytes)) e q
  where
    by_form : (o : Option ℕ) (c : Bool) → o ≡ None → c ≡ b → IsFirstOr (option_or (option_map wrong_setting o) (if c then Some too_long else None)) (answer.IsDueOf w (settings_in (settings_of w)) bytes) d
    by_form (Some index) c p s = absurd (cc)
    by_form None c p s = subst (λ (x : Bool). IsFirstOr (if x then Some too_long else None) (answer.IsDueOf w (settings_in (settings_of w)) bytes) d) (sym s) h

pub for_long : (w : Wanted) (bytes : List ℕ) (d : Due) → first_wrong w ≡ None → most_bytes < length bytes → d ≡ too_long → IsDueFor w bytes d
for_long w bytes d e more is = for_form w bytes d true e (grind (arith, nat_tests)) is

pub for_source : (w : Wanted) (bytes : List ℕ) (d : Due) → first_wrong w ≡ None → length bytes ≤ most_bytes → answer.IsDueOf w (settings_in (settings_of w)) bytes d → IsDueFor w bytes d
for_source w bytes d e short is = for_form w bytes d false e (grind (arith, nat_tests)) is

-- ---- due for words

-- words are due one status
pub one_status : (words : List Text) (bytes : List ℕ) (a b : Due) → IsDue words bytes a → IsDue words bytes b → a.status ≡ b.status
one_status words bytes a b (shown asks s) (shown asks' s') = s ∙ sym s'
one_status words bytes a b (shown asks s) (faulty are e) = absurd (shown_or_faulty words asks are)
one_status words bytes a b (shown asks s) (asked w takes e) = absurd (taken_or_shown words w takes asks)
one_status words bytes a b (faulty are e) (shown asks s) = absurd (shown_or_faulty words asks are)
one_status words bytes a b (faulty are e) (faulty are' e') = ap (λ d. d.status) (e ∙ sym e')
one_status words bytes a b (faulty are e) (asked w takes e') = absurd (taken_or_faulty words w takes are)
one_status words bytes a b (asked w takes e) (shown asks s) = absurd (taken_or_shown words w takes asks)
one_status words bytes a b (asked w takes e) (faulty are e') = absurd (taken_or_faulty words w takes are)
one_status words bytes a b (asked v takes e) (asked w takes' e') =
    status_for w (source_for w bytes) a b (subst (λ u. IsDueFor u (source_for u bytes) a) (one_request words v w takes takes') e) e'

-- and one text, where it isn't 0
pub refused_due : (words : List Text) (bytes : List ℕ) (a b : Due) → IsDue words bytes a → IsDue words bytes b → a.status ≢ Done → a ≡ b
refused_due words bytes a b (shown asks s) q other = absurd (other s)
refused_due words bytes a b (faulty are e) (shown asks s) other = absurd (shown_or_faulty words asks are)
refused_due words bytes a b (faulty are e) (faulty are' e') other = e ∙ sym e'
refused_due words bytes a b (faulty are e) (asked w takes e') other = absurd (taken_or_faulty words w takes are)
refused_due words bytes a b (asked w takes e) (shown asks s) other = absurd (taken_or_shown words w takes asks)
refused_due words bytes a b (asked w takes e) (faulty are e') other = absurd (taken_or_faulty words w takes are)
refused_due words bytes a b (asked v takes e) (asked w takes' e') other = refused_for w (source_for w bytes) a b (subst (λ u. IsDueFor u (source_for u bytes) a) (one_request words v w takes takes') e) e' other

-- and where they ask for nothing to be shown and no plan is made
pub one_due : (words : List Text) (bytes : List ℕ) (a b : Due) → asks_to_show words ≡ false → MakeNoPlan words → IsDue words bytes a → IsDue words bytes b → a ≡ b
one_due words bytes a b quiet fixed (shown asks s) q = absurd (let h : true ≡ false = sym asks ∙ quiet in cc)
one_due words bytes a b quiet fixed (faulty are e) (shown asks s) = absurd (shown_or_faulty words asks are)
one_due words bytes a b quiet fixed (faulty are e) (faulty are' e') = e ∙ sym e'
one_due words bytes a b quiet fixed (faulty are e) (asked w takes e') = absurd (taken_or_faulty words w takes are)
one_due words bytes a b quiet fixed (asked w takes e) (shown asks s) = absurd (taken_or_shown words w takes asks)
one_due words bytes a b quiet fixed (asked w takes e) (faulty are e') = absurd (taken_or_faulty words w takes are)
one_due words bytes a b quiet fixed (asked v takes e) (asked w takes' e') = one_for w (source_for w bytes) a b (fixed w takes') (subst (λ u. IsDueFor u (source_for u bytes) a) (one_request words v w takes takes') e) e'

-- for words that stand for a request what is due for it
pub asked-due : (words : List Text) (bytes : List ℕ) (w : Wanted) (d : Due) → Takes words w → IsDue words bytes d → IsDueFor w (source_for w bytes) d
asked-due words bytes w d takes (shown asks s) = absurd (taken_or_shown words w takes asks)
asked-due words bytes w d takes (faulty are e) = absurd (taken_or_faulty words w takes are)
asked-due words bytes w d takes (asked v takes' e) = subst (λ u. IsDueFor u (source_for u bytes) d) (one_request words v w takes' takes) e

-- for words that ask for it help or the version
pub shown-due : (words : List Text) (bytes : List ℕ) (d : Due) → asks_to_show words ≡ true → IsDue words bytes d → d.status ≡ Done
shown-due words bytes d asks due = one_status words bytes d (record { status = Done; text = [] }) due (shown asks refl)

-- wrong words have status 2
wrong-status : (words : List Text) → (wrong_words words).status ≡ BadWords
wrong-status words = either_status (λ s. s ≡ BadWords) (has_wrong_sweep words) errors.BadSweep errors.BadWords refl refl

-- for wrong words status 2
pub wrong-due : (words : List Text) (bytes : List ℕ) (d : Due) → AreWrong words → IsDue words bytes d → d.status ≡ BadWords
wrong-due words bytes d wrong due =
    ⊎_elim (λ are. one_status words bytes d (wrong_words words) due (faulty are refl) ∙ wrong-status words)
    (λ (some : (w : Wanted) × (index : ℕ) × Takes words w × (first_wrong w ≡ Some index)).
    ap (λ e. e.status) (request-wrong some.0 (source_for some.0 bytes) d some.1 (asked-due words bytes some.0 d some.2 due) some.3)) wrong

-- wrong words stand for no request with right settings
pub wrong_or_asked : (words : List Text) (w : Wanted) → AreWrong words → AskFor words w → ⊥
wrong_or_asked words w wrong ask =
    ⊎_elim (λ are. taken_or_faulty words w ask.takes are)
    (λ (some : (v : Wanted) × (index : ℕ) × Takes words v × (first_wrong v ≡ Some index)).
    let e : Some some.1 ≡ None = sym some.3 ∙ ap first_wrong (one_request words some.0 w some.2 ask.takes) ∙ ask.settings_are in cc) wrong

-- status 1 comes only for a request with right settings
pub refused-asks : (words : List Text) (bytes : List ℕ) (d : Due) → IsDue words bytes d → d.status ≡ SourceRefused → (w : Wanted) × AskFor words w
refused-asks words bytes d (shown asks s) e = absurd (let h : Done ≡ SourceRefused = sym s ∙ e in cc)
refused-asks words bytes d (faulty are f) e = absurd (let h : BadWords ≡ SourceRefused = sym (ap (λ x. x.status) f ∙ wrong-status words) ∙ e in cc)
refused-asks words bytes d (asked w takes f) e =
    (w, record { takes = takes; settings_are = request-refused w (source_for w bytes) d f e })

-- a plan is refused only for a request that reads the source
refusal-reads : (w : Wanted) (tree : Tree) (bytes reason : List ℕ) → IsRefusalFor w tree bytes reason → reads w ≡ true
refusal-reads (sequential settings) tree bytes reason is = refl
refusal-reads (verify settings) tree bytes reason is = refl
refusal-reads (swept s settings) tree bytes reason is = refl
refusal-reads (planned workers settings) tree bytes reason is = refl
refusal-reads (run workers choice by settings) tree bytes reason is = refl
refusal-reads (bench workers points sweeps) tree bytes reason is = absurd is

-- and status 6, for one that reads the source
pub unfit-asks : (words : List Text) (bytes : List ℕ) (d : Due) → IsDue words bytes d → d.status ≡ PlanRefused → (w : Wanted) × ReadFor words w
unfit-asks words bytes d (shown asks s) e = absurd (let h : Done ≡ PlanRefused = sym s ∙ e in cc)
unfit-asks words bytes d (faulty are f) e = absurd (let h : BadWords ≡ PlanRefused = sym (ap (λ x. x.status) f ∙ wrong-status words) ∙ e in cc)
unfit-asks words bytes d (asked w takes f) e =
    let unfit = request-unfit w (source_for w bytes) d f e in
    (w, record { asked = record { takes = takes; settings_are = unfit.settings_are }; reads_are = refusal-reads w (program_for w (source_for w bytes)) (behind_end (source_for w bytes)) unfit.reason unfit.is_reason })

-- a text is due with each status that is due
pub due-said : (words : List Text) (bytes : List ℕ) (d : Due) → IsDue words bytes d → is_said d.status ≡ true
due-said words bytes d (shown asks s) = ap is_said s
due-said words bytes d (faulty are e) = ap is_said (ap (λ x. x.status) e ∙ wrong-status words)
due-said words bytes d (asked w takes e) = request-said w (source_for w bytes) d e

-- ---- at least one

list_cases : (l : List ErrorKind) → (l ≡ []) ⊎ (l ≢ [])
list_cases [] = inl refl
list_cases (x ∷ xs) = inr (λ e. absurd (cc))

option_cases : (o : Option Wanted) → (o ≡ None) ⊎ ((w : Wanted) × (o ≡ Some w))
option_cases None = inl refl
option_cases (Some w) = inr (w, refl)

-- a refusal, or else something that is due without
due_or : (o : Option Due) (IsElse : Due → Type 0) → (d : Due) × IsElse d → (d : Due) × IsFirstOr o IsElse d
due_or None IsElse some = some
due_or (Some r) IsElse some = (r, refl)

on_program : (w : Wanted) (tree : Tree) (at : Readings) (bytes : List ℕ) → behind_of w ≡ Comments → makes_plan w ≡ false → (d : Due) × IsDueOn w tree at bytes d
on_program (sequential settings) tree at bytes e fixed = (done (output_of tree), written (output_of tree) refl refl)
on_program (verify settings) tree at bytes e fixed = absurd (cc)
on_program (swept s settings) tree at bytes e fixed = absurd (cc)
on_program (planned workers settings) tree at bytes e fixed = absurd (cc)
on_program (run workers Made by settings) tree at bytes e fixed = absurd (cc)
on_program (run workers Barrier by settings) tree at bytes e fixed = absurd (cc)
on_program (run workers Given by settings) tree at bytes e fixed = absurd (cc)
on_program (bench workers points sweeps) tree at bytes e fixed = absurd (cc)

some_for : (w : Wanted) (bytes : List ℕ) → behind_of w ≡ Comments → makes_plan w ≡ false → (d : Due) × IsDueFor w bytes d
unfolding IsDueFor
some_for w bytes e fixed =
    due_or (due_of_form w bytes) (answer.IsDueOf w (settings_in (settings_of w)) bytes)
    (due_or (refusal_for w bytes) (IsDueOn w (program_for w bytes) (readings_for w bytes) (behind_end bytes)) (on_program w (program_for w bytes) (readings_for w bytes) (behind_end bytes) e fixed))

-- some status and text are due, where no plan may stand behind END and none is made
pub some_due : (words : List Text) (bytes : List ℕ) → ((w : Wanted) → Takes words w → behind_of w ≡ Comments) → MakeNoPlan words → (due : Due) × IsDue words bytes due
some_due words bytes bare fixed =
    ⊎_elim (λ (asks : asks_to_show words ≡ true). (record { status = Done; text = [] }, shown asks refl))
    (λ (quiet : asks_to_show words ≡ false).
    ⊎_elim
    (λ (fine : fault_of tool_app words ≡ []).
    ⊎_elim (λ (none : wanted_by (subcommand_of tool_app words) ≡ None). (wrong_words words, faulty (quiet, inr none) refl))
    (λ (some : (w : Wanted) × (wanted_by (subcommand_of tool_app words) ≡ Some w)).
    let found = some_for some.0 (source_for some.0 bytes) (bare some.0 (fine, some.1)) (fixed some.0 (fine, some.1)) in
    (found.0, asked some.0 (fine, some.1) found.1))
    (option_cases (wanted_by (subcommand_of tool_app words))))
    (λ (fault : fault_of tool_app words ≢ []). (wrong_words words, faulty (quiet, inl fault) refl))
    (list_cases (fault_of tool_app words)))
    (cases_Bool (asks_to_show words))

never_for : (w : Wanted) (bytes : List ℕ) → makes_plan w ≡ false → ((d : Due) → IsDueFor w bytes d → ⊥) → ⊥
unfolding IsDueFor
never_for w bytes fixed = first_never (due_of_form w bytes) (answer.IsDueOf w (settings_in (settings_of w)) bytes) (never_none w (settings_in (settings_of w)) bytes fixed)

-- for no words and bytes nothing is due, where no plan is made
pub never_due : (words : List Text) (bytes : List ℕ) → MakeNoPlan words → ((due : Due) → IsDue words bytes due → ⊥) → ⊥
never_due words bytes fixed none =
    ⊎_elim (λ (asks : asks_to_show words ≡ true). none (record { status = Done; text = [] }) (shown asks refl))
    (λ (quiet : asks_to_show words ≡ false).
    ⊎_elim
    (λ (fine : fault_of tool_app words ≡ []).
    ⊎_elim (λ (no : wanted_by (subcommand_of tool_app words) ≡ None). none (wrong_words words) (faulty (quiet, inr no) refl))
    (λ (some : (w : Wanted) × (wanted_by (subcommand_of tool_app words) ≡ Some w)). never_for some.0 (source_for some.0 bytes) (fixed some.0 (fine, some.1)) (λ d is. none d (asked some.0 (fine, some.1) is)))
    (option_cases (wanted_by (subcommand_of tool_app words))))
    (λ (fault : fault_of tool_app words ≢ []). none (wrong_words words) (faulty (quiet, inl fault) refl))
    (list_cases (fault_of tool_app words)))
    (cases_Bool (asks_to_show words))
