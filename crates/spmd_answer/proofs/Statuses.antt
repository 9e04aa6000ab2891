-- What is due for a request has one of four statuses.
use Rattle.std.proofs.Common.{◌≡◌, ◌∙◌, ◌==◌, ◌-◌, if◌then◌else◌, ℕ, Bool, true, false, ap, sym, refl, List, Option, None, Some}
use Rattle.std.specs.Prelude.{ℤ, IfSome}
use Rattle.std.specs.Option.{option_map}
use Rattle.nest_tree.specs.Tree.{Tree}
use Rattle.f77_lines.specs.Listing.{entries_of}
use Rattle.f77_program.specs.declared.refusal.Refusal.TheVariants.{BadSetting}
use Rattle.f77_scene.specs.Fault.{Refusal, bad_line, bad_setting, bad_statement}
use Rattle.f77_scene.specs.Reading.{first_fault_in, program_in}
use Rattle.f77_scene.specs.Scene.{Name}
use Rattle.command_words.specs.Wanted.{Wanted}
use Rattle.plan_input.proofs.Firsts.{first_some}
use Rattle.plan_input.specs.Sources.{behind_end}
use Rattle.plan_input.specs.Errors.{first_error, error_of_fault}
use Rattle.plan_input.specs.declared.status.Status.{Status}
use Rattle.plan_input.specs.declared.status.Status.TheVariants.{Done, SourceRefused, BadWords, ReadFault, WriteFault, NoMemory, PlanRefused, TooLong}
use Rattle.plan_input.specs.declared.error.InputError.{InputError}
use Rattle.plan_input.specs.declared.error.InputError.TheVariants.{BadSweep, Statement}
use Rattle.spmd_answer.specs.declared.source.Behind.{Behind}
use Rattle.spmd_answer.specs.declared.source.Behind.TheVariants.{Comments, PlanText, SweptPlan}
use Rattle.spmd_answer.specs.Due.{Due, IsDueOf, IsDueOn, IsFirstOr, behind_of, Readings, due_for, due_of_refusal, due_of_error, is_alone, readings, setting_error, settings_for, unaccepted, written}
use Rattle.spmd_answer.specs.Statuses.{is_due}

-- 1 and 2
refuses : Status → Bool
refuses SourceRefused = true
refuses BadWords = true
refuses _ = false

abbrev IsRefusal : Due → Type 0
IsRefusal due = refuses due.status ≡ true

abbrev IsDue : Due → Type 0
IsDue due = is_due due.status ≡ true

refuses-due : (s : Status) → refuses s ≡ true → is_due s ≡ true
unfolding refuses
refuses-due SourceRefused h = refl
refuses-due BadWords h = refl
refuses-due Done h = absurd (cc)
refuses-due ReadFault h = absurd (cc)
refuses-due WriteFault h = absurd (cc)
refuses-due NoMemory h = absurd (cc)
refuses-due PlanRefused h = absurd (cc)
refuses-due TooLong h = absurd (cc)

refuses-done : refuses Done ≡ true → ⊥
unfolding refuses
refuses-done h = cc

either_error : (b : Bool) (s t : InputError) → IsRefusal (due_for s) → IsRefusal (due_for t) → IsRefusal (due_for (if b then s else t))
either_error true s t one other = one
either_error false s t one other = other

of_setting : (behind : Behind) (index : ℕ) → IsRefusal (due_for (setting_error behind index))
unfolding refuses
of_setting Comments index = refl
of_setting PlanText index = refl
of_setting SweptPlan index = either_error (index == 1) BadSweep (Statement (BadSetting (index - 1))) refl refl

of_fault : (behind : Behind) (r : Refusal) → IsRefusal (due_of_error behind (error_of_fault r))
unfolding refuses
of_fault behind (bad_line refusal) = refl
of_fault behind (bad_statement fault n) = refl
of_fault behind (bad_setting index) = of_setting behind index

of_faults : (behind : Behind) (o : Option Refusal) → IfSome o (λ r. IsRefusal (due_of_error behind (error_of_fault r)))
of_faults behind None = tt
of_faults behind (Some r) = of_fault behind r

mapped_some : (behind : Behind) (o : Option InputError) → IfSome o (λ s. IsRefusal (due_of_error behind s)) → IfSome (option_map (due_of_error behind) o) IsRefusal
mapped_some behind None h = tt
mapped_some behind (Some s) h = h

of_refusal : (behind : Behind) (bytes : List ℕ) (settings : List (Name × ℤ)) → IfSome (due_of_refusal behind bytes settings) IsRefusal
unfolding refuses
of_refusal behind bytes settings =
    mapped_some behind (first_error (is_alone behind) bytes settings)
    (first_some (λ s. IsRefusal (due_of_error behind s)) (is_alone behind) bytes settings (λ r. refl) (of_faults behind (first_fault_in (entries_of bytes) settings)) (λ l. refl) (λ o. refl))

-- a source that is refused isn't done
pub refused_or_done : (behind : Behind) (bytes : List ℕ) (settings : List (Name × ℤ)) (d : Due) → due_of_refusal behind bytes settings ≡ Some d → d.status ≡ Done → ⊥
refused_or_done behind bytes settings d e done = go (due_of_refusal behind bytes settings) (of_refusal behind bytes settings) e
  where
    go : (o : Option Due) → IfSome o IsRefusal → o ≡ Some d → ⊥
    go None h e = cc
    go (Some r) h e = let same : r ≡ d = cc in refuses-done (sym (ap refuses (ap (λ x. x.status) same ∙ done)) ∙ h)

on_program : (wanted : Wanted) (tree : Tree) (at : Readings) (bytes : List ℕ) (due : Due) → IsDueOn wanted tree at bytes due → IsDue due
on_program wanted tree at bytes due (unaccepted reason is e) = ap (λ d. is_due d.status) e
on_program wanted tree at bytes due (written text is e) = ap (λ d. is_due d.status) e

first : (o : Option Due) (IsElse : Due → Type 0) (due : Due) → IfSome o IsRefusal → (IsElse due → IsDue due) → IsFirstOr o IsElse due → IsDue due
first None IsElse due one other h = other h
first (Some d) IsElse due one other e = ap (λ d. is_due d.status) e ∙ refuses-due d.status one

pub is_due-status : (wanted : Wanted) (settings : List (Name × ℤ)) (bytes : List ℕ) (due : Due) → IsDueOf wanted settings bytes due → is_due due.status ≡ true
is_due-status wanted settings bytes due =
    let all = settings_for wanted settings in
    let tree = program_in (entries_of bytes) all in
    first (due_of_refusal (behind_of wanted) bytes all) (IsDueOn wanted tree (readings settings bytes) (behind_end bytes)) due
    (of_refusal (behind_of wanted) bytes all) (on_program wanted tree (readings settings bytes) (behind_end bytes) due)
