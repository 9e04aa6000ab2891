-- It is not so that nothing is due for a request.
use Rattle.std.proofs.Common.{◌≡◌, ◌∙◌, ◌==◌, ◌≤◌, ◌+◌, ℕ, suc, zero, ℤ, Bool, true, false, true≢false, ap, sym, refl, List, [], ◌∷◌, ◌++◌, append_assoc, append-nil, length, Option, None, Some, codes, if◌then◌else◌, arith, eqb-true}
use Rattle.std.proofs.lemmas.List.{length-append}
use Rattle.asked_plan.specs.Plans.{IsTaken, first_reason}
use Rattle.nest_tree.specs.Tree.{Tree}
use Rattle.nest_model.specs.Memory.{output_of}
use Rattle.f77_lines.specs.Listing.{entries_of}
use Rattle.f77_scene.specs.Reading.{program_in}
use Rattle.f77_scene.specs.Scene.{Name}
use Rattle.owner_partition.specs.Cuts.{plain_cut}
use Rattle.sync_plan.specs.declared.plan.Conditions.TheVariants.{Values}
use Rattle.sync_plan.specs.declared.plan.Plan.{Plan}
use Rattle.sync_plan.specs.declared.plan.Version.TheVariants.{One}
use Rattle.plan_text.specs.PlanText.{HasText, IsPlanText, plan_lines, plan_text, text_of}
use Rattle.plan_text.specs.Refused.{IsFirstAlien, Opens}
use Rattle.plan_text.specs.declared.syntax.PlanSyntax.TheVariants as syntaxes
use Rattle.plan_checker.specs.Failures.{first_failure}
use Rattle.plan_checker.specs.declared.refusal.PlanRefusal.{PlanRefusal}
use Rattle.plan_checker.specs.declared.refusal.PlanRefusal.TheVariants.{Shape}
use Rattle.plan_checker.specs.Proved.{first_unproved}
use Rattle.plan_checker.proofs.Certified.{accepted_where_none, proved_where_none}
use Rattle.plan_input.specs.Sources.{behind_end}
use Rattle.plan_input.specs.ErrorText.{text_of_error}
use Rattle.plan_input.specs.Errors.{IsTextOf, no_text, unfit}
use Rattle.plan_input.specs.declared.error.InputError.TheVariants.{Misfit, Syntax}
use Rattle.command_words.specs.Wanted.{Wanted, sequential, verify, swept, planned, run, bench}
use Rattle.command_words.specs.declared.request.PlanChoice.TheVariants.{Made, Barrier, Given}
use Rattle.spmd_answer.specs.Due.{Due, IsDueOf, IsDueOn, IsFirstOr, Readings, readings, settings_for, swept_text, behind_of, done, due_of_refusal, line, makes_plan, plan_refused, unaccepted, written}
use Rattle.spmd_answer.specs.Given.{IsProvedPlan, IsRefusedPlan, IsRefusedWith, IsUnprovedPlan}

-- ---- bytes are a plan's text or have a first line that no plan's text has

text-append : (front : List (List ℕ)) (l : List ℕ) → text_of (front ++ l ∷ []) ≡ text_of front ++ (l ++ 10 ∷ [])
text-append [] l = append-nil (l ++ 10 ∷ [])
text-append (x ∷ front) l = ap (λ t. (x ++ 10 ∷ []) ++ t) (text-append front l) ∙ sym (append_assoc (x ++ 10 ∷ []) (text_of front) (l ++ 10 ∷ []))

cut_further : (front : List (List ℕ)) (behind l rest : List ℕ) → behind ≡ l ++ 10 ∷ rest → text_of front ++ behind ≡ text_of (front ++ l ∷ []) ++ rest
cut_further front behind l rest is =
    ap (λ t. text_of front ++ t) (is ∙ sym (append_assoc l (10 ∷ []) rest)) ∙ (sym (append_assoc (text_of front) (l ++ 10 ∷ []) rest) ∙ ap (λ t. t ++ rest) (sym (text-append front l)))

shorter : (behind l rest : List ℕ) → behind ≡ l ++ 10 ∷ rest → length rest + 1 ≤ length behind
shorter behind l rest is = omega (arith, ap length is, length-append l (10 ∷ rest))

module _ (bytes : List ℕ) (unread : IsPlanText bytes → ⊥) (unrefused : (n : ℕ) → IsFirstAlien bytes n → ⊥) where
  never_open : (fuel : ℕ) (front : List (List ℕ)) (behind : List ℕ) → length behind ≤ fuel → bytes ≡ text_of front ++ behind → Opens front → ⊥
  never_open zero front behind few cut opens = unrefused (length front + 1) (record {
    front = front;
    behind = behind;
    cut = cut;
    count = refl;
    opens = opens;
    alien = λ l rest is opened. omega (arith, few, shorter behind l rest is);
    no_text = unread;
  })
  never_open (suc fuel) front behind few cut opens = unrefused (length front + 1) (record {
    front = front;
    behind = behind;
    cut = cut;
    count = refl;
    opens = opens;
    alien = λ l rest is opened. never_open fuel (front ++ l ∷ []) rest (omega (arith, few, shorter behind l rest is)) (cut ∙ cut_further front behind l rest is) opened;
    no_text = unread;
  })

empty_plan : Plan
empty_plan = record { version = One; conditions = Values; workers = 1; cut = plain_cut []; anchors = []; kinds = []; certificates = [] }

empty_text : HasText empty_plan
unfolding empty_plan
empty_text = record { workers = refl; conditions = refl; lists = refl; loops = refl; pairs = refl; phases = refl; certificates = refl }

pub read_or_alien : (bytes : List ℕ) → (IsPlanText bytes → ⊥) → ((n : ℕ) → IsFirstAlien bytes n → ⊥) → ⊥
read_or_alien bytes unread unrefused = never_open bytes unread unrefused (length bytes) [] bytes (omega arith) refl (empty_plan, empty_text, (plan_lines empty_plan, refl))

-- ---- a plan is taken or has a first reason against it

same_workers : (b : Bool) (plan : Plan) (workers : ℕ) (o : Option PlanRefusal) → (plan.workers == workers) ≡ b → (if b then o else Some (Shape 1)) ≡ None → (plan.workers ≡ workers) × (o ≡ None)
same_workers true plan workers o is none = (eqb-true plan.workers workers is, none)
same_workers false plan workers o is none = absurd (cc)

taken_where_none : (asked : Option ℕ) (tree : Tree) (bytes : List ℕ) (plan : Plan) → IsTextOf plan bytes → first_reason asked tree plan ≡ None → IsTaken asked tree bytes plan
taken_where_none None tree bytes plan text none = record { text = text; workers_are = tt; accepted = accepted_where_none tree plan none }
taken_where_none (Some workers) tree bytes plan text none =
    let both = same_workers (plan.workers == workers) plan workers (first_failure tree plan) refl none in
    record { text = text; workers_are = both.0; accepted = accepted_where_none tree plan both.1 }

-- bytes are refused as a plan, or are the text of one against which there is no reason
refused_or_fine : (reason_of : Plan → Option PlanRefusal) (bytes : List ℕ) → ((text : List ℕ) → IsRefusedWith reason_of bytes text → ⊥) → ((plan : Plan) → IsTextOf plan bytes → reason_of plan ≡ None → ⊥) → ⊥
refused_or_fine reason_of bytes unrefused unfine =
    read_or_alien bytes (λ text. by_reason text.0 (record { shown = text.1; bytes_are = text.2 }) (reason_of text.0) refl)
    (λ n alien. unrefused (text_of_error (Syntax (syntaxes.Line n))) (record { error = Syntax (syntaxes.Line n); is = no_text n alien refl; text_is = refl }))
  where
    by_reason : (plan : Plan) → IsTextOf plan bytes → (o : Option PlanRefusal) → reason_of plan ≡ o → ⊥
    by_reason plan text None first = unfine plan text first
    by_reason plan text (Some reason) first = unrefused (text_of_error (Misfit reason)) (record { error = Misfit reason; is = unfit plan text reason first refl; text_is = refl })

refused_or_taken : (asked : Option ℕ) (tree : Tree) (bytes : List ℕ) → ((text : List ℕ) → IsRefusedPlan asked tree bytes text → ⊥) → ((plan : Plan) → IsTaken asked tree bytes plan → ⊥) → ⊥
refused_or_taken asked tree bytes unrefused untaken =
    refused_or_fine (first_reason asked tree) bytes unrefused (λ plan text none. untaken plan (taken_where_none asked tree bytes plan text none))

refused_or_proved : (tree : Tree) (bytes : List ℕ) → ((text : List ℕ) → IsUnprovedPlan tree bytes text → ⊥) → ((plan : Plan) → IsProvedPlan tree bytes plan → ⊥) → ⊥
refused_or_proved tree bytes unrefused unproved =
    refused_or_fine (first_unproved tree) bytes unrefused (λ plan text none. unproved plan (record { text = text; proved = proved_where_none tree plan none }))

-- ---- due for a request

on_program : (wanted : Wanted) (tree : Tree) (at : Readings) (bytes : List ℕ) → makes_plan wanted ≡ false → ((due : Due) → IsDueOn wanted tree at bytes due → ⊥) → ⊥
on_program (sequential settings) tree at bytes fixed none = none (done (output_of tree)) (written (output_of tree) refl refl)
on_program (verify settings) tree at bytes fixed none =
    refused_or_taken None tree bytes (λ text is. none (plan_refused text) (unaccepted text is refl))
    (λ plan is. none (done (line (codes "ACCEPTED"))) (written (line (codes "ACCEPTED")) (plan, is, refl) refl))
on_program (swept s settings) tree at bytes fixed none =
    refused_or_proved tree bytes (λ text is. none (plan_refused text) (unaccepted text is refl))
    (λ plan is. none (done (swept_text tree plan (at s) s)) (written (swept_text tree plan (at s) s) (plan, is, refl) refl))
on_program (planned workers settings) tree at bytes fixed none = absurd (true≢false fixed)
on_program (run workers Made by settings) tree at bytes fixed none = absurd (true≢false fixed)
on_program (run workers Barrier by settings) tree at bytes fixed none = absurd (true≢false fixed)
on_program (bench workers points sweeps) tree at bytes fixed none = absurd (true≢false fixed)
on_program (run workers Given by settings) tree at bytes fixed none =
    refused_or_taken (Some workers) tree bytes (λ text is. none (plan_refused text) (unaccepted text is refl))
    (λ plan is. none (done (plan_text plan ++ output_of tree)) (written (plan_text plan ++ output_of tree) (plan, (is, refl)) refl))

-- a refusal, or else what is due without
pub first_never : (o : Option Due) (IsElse : Due → Type 0) → (((due : Due) → IsElse due → ⊥) → ⊥) → ((due : Due) → IsFirstOr o IsElse due → ⊥) → ⊥
first_never None IsElse never none = never none
first_never (Some d) IsElse never none = none d refl

pub never_none : (wanted : Wanted) (settings : List (Name × ℤ)) (bytes : List ℕ) → makes_plan wanted ≡ false → ((due : Due) → IsDueOf wanted settings bytes due → ⊥) → ⊥
never_none wanted settings bytes fixed =
    let all = settings_for wanted settings in
    let tree = program_in (entries_of bytes) all in
    first_never (due_of_refusal (behind_of wanted) bytes all) (IsDueOn wanted tree (readings settings bytes) (behind_end bytes)) (on_program wanted tree (readings settings bytes) (behind_end bytes) fixed)
