-- What was found is due.
use Rattle.std.proofs.Common.{◌≡◌, ◌≢◌, ◌∙◌, ℕ, ℤ, Bool, false, true, ap, ap₂, sym, subst, refl, List, Option, None, Some}
use Rattle.std.specs.Option.{option_map}
use Rattle.std.specs.Prelude.{drop}
use Rattle.asked_plan.specs.Plans.{IsPlanErrorFor, IsRefused, first_reason}
use Rattle.clap.specs.Words.{Text}
use Rattle.nest_tree.specs.Tree.{Tree}
use Rattle.f77_lines.specs.Columns.{lines_of}
use Rattle.f77_lines.specs.Listing.{entries_of, size_to_end}
use Rattle.f77_program.specs.declared.refusal.Refusal.{Refusal}
use Rattle.f77_scene.specs.Reading.{program_in}
use Rattle.f77_scene.specs.Scene.{Name}
use Rattle.command_words.specs.Sweeps.{Sweep}
use Rattle.command_words.specs.Wanted.{Wanted, verify, swept, run}
use Rattle.command_words.specs.declared.request.Engine.{Engine}
use Rattle.command_words.specs.declared.request.PlanChoice.{PlanChoice}
use Rattle.command_words.specs.declared.request.PlanChoice.TheVariants.{Barrier, Given, Made}
use Rattle.plan_checker.specs.Proved.{first_unfit, first_unproved}
use Rattle.plan_checker.specs.declared.refusal.PlanRefusal.{PlanRefusal}
use Rattle.plan_input.specs.Sources.{behind_end}
use Rattle.plan_input.specs.ErrorText.{text_of_error}
use Rattle.plan_input.specs.Errors.{IsFirst, IsPlanErrorBy, IsRefusedBy, first_error, no_text, unfit}
use Rattle.plan_input.specs.declared.status.Status.TheVariants.{Done, PlanRefused}
use Rattle.plan_input.specs.declared.error.InputError.{InputError}
use Rattle.plan_input.specs.declared.error.InputError.TheVariants as errors
use Rattle.sync_plan.specs.declared.plan.Plan.{Plan}
use Rattle.spmd_answer.specs.Answers.{due_in}
use Rattle.spmd_answer.specs.Due.{Due, IsDueOf, IsDueOn, IsFirstOr, Readings, readings, settings_for, behind_of, done, due_for, due_of_refusal, due_of_error, fit_text, is_alone, is_run, plan_refused, reading_text, told_as, unaccepted}
use Rattle.spmd_answer.specs.Given.{IsRefusedWith}
use Rattle.spmd_answer.specs.declared.receipt.Receipt.{Receipt}
use Rattle.spmd_answer.specs.Receipts.{HasReceipt, HasReceiptOf, IsReceiptOf}
use Rattle.spmd_answer.specs.declared.due.Answer.{Answer}
use Rattle.spmd_answer.specs.declared.source.Behind.{Behind}
use Rattle.spmd_answer.specs.declared.source.Behind.TheVariants.{SweptPlan}
use Rattle.spmd_answer.proofs.Statuses.{refused_or_done}

first_is : (o : Option Due) (IsElse : Due → Type 0) (d : Due) → o ≡ Some d → IsFirstOr o IsElse d
first_is None IsElse d e = absurd (cc)
first_is (Some r) IsElse d e = let same : d ≡ r = cc in same

else_is : (o : Option Due) (IsElse : Due → Type 0) (d : Due) → o ≡ None → IsElse d → IsFirstOr o IsElse d
else_is None IsElse d e p = p
else_is (Some r) IsElse d e p = absurd (cc)

-- an error that is no statement's is told as it is
pub told_same : (behind : Behind) (error : InputError) → ((r : Refusal) → error ≡ errors.Statement r → ⊥) → told_as behind error ≡ error
told_same behind (errors.Statement r) other = absurd (other r refl)
told_same behind _ other = refl

-- an error that is told is what is due with the source
error_due : (behind : Behind) (bytes : List ℕ) (all : List (Name × ℤ)) (s : InputError) (d : Due) → IsFirst (first_error (is_alone behind) bytes all) s → (told_as behind s ≢ errors.NoMemory) × (d ≡ due_of_error behind s) → due_of_refusal behind bytes all ≡ Some d
error_due behind bytes all s d is told = ap (option_map (due_of_error behind)) (is (λ none. told.0 (ap (told_as behind) none))) ∙ ap Some (sym told.1)

-- the same by what calls said
pub refusal_due : (behind : Behind) (bytes : List ℕ) (all : List (Name × ℤ)) (alone : Bool) (s t : InputError) (d : Due) → alone ≡ is_alone behind → IsFirst (first_error alone bytes all) s → t ≡ told_as behind s → (t ≢ errors.NoMemory) × (d ≡ due_for t)
    → due_of_refusal behind bytes all ≡ Some d
refusal_due behind bytes all alone s t d a is retold told =
    error_due behind bytes all s d (subst (λ (x : Bool). IsFirst (first_error x bytes all) s) a is) (subst (λ (x : InputError). (x ≢ errors.NoMemory) × (d ≡ due_for x)) retold told)

-- where there is no error no refusal is due
pub none_due : (behind : Behind) (bytes : List ℕ) (all : List (Name × ℤ)) (alone : Bool) → alone ≡ is_alone behind → first_error alone bytes all ≡ None → due_of_refusal behind bytes all ≡ None
none_due behind bytes all alone a none = ap (option_map (due_of_error behind)) (ap (λ x. first_error x bytes all) (sym a) ∙ none)

-- a refusal of the source
pub of_error : (wanted : Wanted) (settings all : List (Name × ℤ)) (bytes : List ℕ) (behind : Behind) (d : Due) → all ≡ settings_for wanted settings → behind ≡ behind_of wanted → due_of_refusal behind bytes all ≡ Some d → IsDueOf wanted settings bytes d
of_error wanted settings all bytes behind d those b refusal =
    let tree = program_in (entries_of bytes) (settings_for wanted settings) in
    first_is (due_of_refusal (behind_of wanted) bytes (settings_for wanted settings)) (IsDueOn wanted tree (readings settings bytes) (behind_end bytes)) d
    (ap₂ (λ x ss. due_of_refusal x bytes ss) (sym b) (sym those) ∙ refusal)

-- what is due on its program
pub of_program : (wanted : Wanted) (settings all : List (Name × ℤ)) (bytes : List ℕ) (behind : Behind) (tree : Tree) (place : ℕ) (rest : List ℕ) (d : Due) → all ≡ settings_for wanted settings → behind ≡ behind_of wanted
    → due_of_refusal behind bytes all ≡ None → tree ≡ program_in (entries_of bytes) all → place ≡ size_to_end (lines_of bytes) → rest ≡ drop place bytes → IsDueOn wanted tree (readings settings bytes) rest d → IsDueOf wanted settings bytes d
of_program wanted settings all bytes behind tree place rest d those b none tree_is place_is rest_is h =
    let at = readings settings bytes in
    else_is (due_of_refusal (behind_of wanted) bytes (settings_for wanted settings)) (IsDueOn wanted (program_in (entries_of bytes) (settings_for wanted settings)) at (behind_end bytes)) d
    (ap₂ (λ x ss. due_of_refusal x bytes ss) (sym b) (sym those) ∙ none)
    (subst (λ (t : Tree). IsDueOn wanted t at (behind_end bytes) d) (tree_is ∙ ap (program_in (entries_of bytes)) those) (subst (λ (xs : List ℕ). IsDueOn wanted tree at xs d) (rest_is ∙ ap (λ n. drop n bytes) place_is) h))

-- a plan that is refused has status 6
refused_due : (reason_of : Plan → Option PlanRefusal) (bytes : List ℕ) (s : InputError) → IsRefusedBy reason_of bytes s → due_for s ≡ plan_refused (text_of_error s)
refused_due reason_of bytes s (no_text n first is) = subst (λ (t : InputError). due_for t ≡ plan_refused (text_of_error t)) (sym is) refl
refused_due reason_of bytes s (unfit plan text reason first is) = subst (λ (t : InputError). due_for t ≡ plan_refused (text_of_error t)) (sym is) refl

-- the line with which it is
refused_with : (reason_of : Plan → Option PlanRefusal) (bytes : List ℕ) (s : InputError) (d : Due) → IsPlanErrorBy reason_of bytes s → (s ≢ errors.NoMemory) × (d ≡ due_for s) → (reason : List ℕ) × IsRefusedWith reason_of bytes reason × (d ≡ plan_refused reason)
refused_with reason_of bytes s d is told = (text_of_error s, record { error = s; is = is told.0; text_is = refl }, told.1 ∙ refused_due reason_of bytes s (is told.0))

-- a refusal of the plan that is given
pub of_verify : (settings : List Text) (tree : Tree) (at : Readings) (bytes : List ℕ) (s : InputError) (d : Due) → IsRefused None tree bytes s → (s ≢ errors.NoMemory) × (d ≡ due_for s) → IsDueOn (verify settings) tree at bytes d
of_verify settings tree at bytes s d is told = let r = refused_with (first_reason None tree) bytes s d is told in unaccepted r.0 r.1 r.2

-- of one that is to be proved for a sweep
pub of_sweep : (over : Sweep) (settings : List Text) (tree : Tree) (at : Readings) (bytes : List ℕ) (s : InputError) (d : Due) → IsPlanErrorBy (first_unproved tree) bytes s → (s ≢ errors.NoMemory) × (d ≡ due_for s) → IsDueOn (swept over settings) tree at bytes d
of_sweep over settings tree at bytes s d is told = let r = refused_with (first_unproved tree) bytes s d is told in unaccepted r.0 r.1 r.2

-- of one that is asked for: one that is made isn't refused
pub of_run : (workers : ℕ) (choice : PlanChoice) (by : Engine) (settings : List Text) (tree : Tree) (at : Readings) (bytes : List ℕ) (s : InputError) (d : Due) → IsPlanErrorFor choice workers tree bytes s → (s ≢ errors.NoMemory) × (d ≡ due_for s) → IsDueOn (run workers choice by settings) tree at bytes d
of_run workers Made by settings tree at bytes s d is told = absurd (told.0 is)
of_run workers Barrier by settings tree at bytes s d is told = absurd (told.0 is)
of_run workers Given by settings tree at bytes s d is told = let r = refused_with (first_reason (Some workers) tree) bytes s d is told in unaccepted r.0 r.1 r.2

-- ---- what the lines of a sweep say

pub reading_fits : (proved : Tree) (plan : Plan) (bytes : List ℕ) (all : List (Name × ℤ)) (tree : Tree) (text : List ℕ) → first_error false bytes all ≡ None → tree ≡ program_in (entries_of bytes) all → text ≡ fit_text (first_unfit proved plan tree)
    → text ≡ reading_text proved plan (due_of_refusal SweptPlan bytes all, program_in (entries_of bytes) all)
reading_fits proved plan bytes all tree text none tree_is e =
    e ∙ ap (λ t. fit_text (first_unfit proved plan t)) tree_is ∙ sym (ap (λ o. reading_text proved plan (o, program_in (entries_of bytes) all)) (none_due SweptPlan bytes all false refl none))

pub reading_refused : (proved : Tree) (plan : Plan) (bytes : List ℕ) (all : List (Name × ℤ)) (d : Due) → due_of_refusal SweptPlan bytes all ≡ Some d → d.text ≡ reading_text proved plan (due_of_refusal SweptPlan bytes all, program_in (entries_of bytes) all)
reading_refused proved plan bytes all d refusal = sym (ap (λ o. reading_text proved plan (o, program_in (entries_of bytes) all)) refusal)

-- ---- receipts

refused_undone : (wanted : Wanted) (tree : Tree) (bytes : List ℕ) (d : Due) (reason : List ℕ) → d ≡ plan_refused reason → HasReceipt wanted tree bytes d None
refused_undone wanted tree bytes d reason e = λ shared done. let f : PlanRefused ≡ Done = sym (ap (λ x. x.status) e) ∙ done in cc

-- a plan that is refused leaves no receipt
pub none_of_run : (workers : ℕ) (choice : PlanChoice) (by : Engine) (settings : List Text) (tree : Tree) (bytes : List ℕ) (s : InputError) (d : Due) → IsPlanErrorFor choice workers tree bytes s → (s ≢ errors.NoMemory) × (d ≡ due_for s) → HasReceipt (run workers choice by settings) tree bytes d None
none_of_run workers Made by settings tree bytes s d is told = absurd (told.0 is)
none_of_run workers Barrier by settings tree bytes s d is told = absurd (told.0 is)
none_of_run workers Given by settings tree bytes s d is told = let r = refused_with (first_reason (Some workers) tree) bytes s d is told in refused_undone (run workers Given by settings) tree bytes d r.0 r.2

-- nor does a source that is
pub none_of_error : (wanted : Wanted) (settings all : List (Name × ℤ)) (bytes : List ℕ) (behind : Behind) (d : Due) → due_of_refusal behind bytes all ≡ Some d → HasReceiptOf wanted settings bytes d None
none_of_error wanted settings all bytes behind d refusal = λ shared. refused_or_done behind bytes all d refusal

-- what a run by a plan leaves is the receipt of its text
pub run_left : (wanted : Wanted) (tree : Tree) (bytes text : List ℕ) (r : Receipt) (a : Answer) → is_run wanted ≡ true → IsReceiptOf wanted tree bytes text r → due_in a ≡ done text → HasReceipt wanted tree bytes (due_in a) (Some r)
run_left wanted tree bytes text r a ran is e = (ran, ap (λ d. d.status) e, subst (λ (t : List ℕ). IsReceiptOf wanted tree bytes t r) (ap (λ d. d.text) (sym e)) is)

-- the receipt on a source's program is the one of the source
pub receipt_of_program : (wanted : Wanted) (settings all : List (Name × ℤ)) (bytes : List ℕ) (tree : Tree) (place : ℕ) (rest : List ℕ) (d : Due) (receipt : Option Receipt)
    → all ≡ settings_for wanted settings → tree ≡ program_in (entries_of bytes) all → place ≡ size_to_end (lines_of bytes) → rest ≡ drop place bytes → HasReceipt wanted tree rest d receipt → HasReceiptOf wanted settings bytes d receipt
receipt_of_program wanted settings all bytes tree place rest d receipt those tree_is place_is rest_is h =
    subst (λ (t : Tree). HasReceipt wanted t (behind_end bytes) d receipt) (tree_is ∙ ap (program_in (entries_of bytes)) those) (subst (λ (xs : List ℕ). HasReceipt wanted tree xs d receipt) (rest_is ∙ ap (λ n. drop n bytes) place_is) h)
