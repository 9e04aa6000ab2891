-- One status with one text is due for a request.
use Rattle.std.proofs.Common.{◌≡◌, ◌≢◌, ◌∙◌, ◌==◌, ℕ, ℤ, true, false, true≢false, ap, sym, subst, refl, List, [], ◌++◌, append-nil, Option, None, Some}
use Rattle.std.proofs.lemmas.Bool.Decides.{nat_tests}
use Rattle.std.proofs.Common.{arith}
use Rattle.asked_plan.specs.Plans.{HasWorkers, IsTaken, first_reason}
use Rattle.list_lemmas.proofs.Gets.{one_element}
use Rattle.nest_tree.specs.Tree.{Tree}
use Rattle.nest_model.specs.Memory.{output_of}
use Rattle.f77_lines.specs.Listing.{entries_of}
use Rattle.f77_scene.specs.Reading.{program_in}
use Rattle.f77_scene.specs.Scene.{Name}
use Rattle.sync_plan.specs.declared.plan.Plan.{Plan}
use Rattle.plan_text.specs.PlanText.{plan_text}
use Rattle.plan_text.specs.declared.syntax.PlanSyntax.TheVariants as syntaxes
use Rattle.plan_text.proofs.PlanLaws.{one_alien, text_front}
use Rattle.plan_checker.specs.Accepted.{IsAccepted}
use Rattle.plan_checker.specs.declared.refusal.PlanRefusal.{PlanRefusal}
use Rattle.plan_checker.specs.Proved.{first_unproved}
use Rattle.plan_checker.proofs.Certified.{none_where_accepted, none_where_proved}
use Rattle.plan_input.specs.Sources.{behind_end}
use Rattle.plan_input.specs.ErrorText.{text_of_error}
use Rattle.plan_input.specs.Errors.{IsRefusedBy, IsTextOf, no_text, unfit}
use Rattle.plan_input.specs.declared.status.Status.TheVariants.{Done}
use Rattle.plan_input.specs.declared.error.InputError.{InputError}
use Rattle.plan_input.specs.declared.error.InputError.TheVariants.{Misfit, Syntax}
use Rattle.command_words.specs.Wanted.{Wanted, sequential, verify, swept, planned, run, bench}
use Rattle.command_words.specs.declared.request.PlanChoice.TheVariants.{Made, Barrier, Given}
use Rattle.spmd_answer.specs.Due.{Due, IsDueOf, IsDueOn, IsFirstOr, IsRefusalFor, IsTextFor, Readings, readings, settings_for, swept_text, behind_of, done, due_of_refusal, makes_plan, plan_refused, unaccepted, written}
use Rattle.spmd_answer.specs.Given.{IsProvedPlan, IsRefusedPlan, IsRefusedWith, IsUnprovedPlan}

-- two plans with one text are one
one_plan : (x y : Plan) (bytes : List ℕ) → IsTextOf x bytes → IsTextOf y bytes → x ≡ y
one_plan x y bytes p q = text_front x y [] p.shown q.shown (sym p.bytes_are ∙ q.bytes_are ∙ sym (append-nil (plan_text y)))

eqb-refl : (n m : ℕ) → m ≡ n → (m == n) ≡ true
eqb-refl n m h = grind (arith, nat_tests)

-- there is no reason against a plan that is taken
no_reason : (asked : Option ℕ) (tree : Tree) (plan : Plan) → HasWorkers asked plan → IsAccepted tree plan → first_reason asked tree plan ≡ None
no_reason None tree plan workers accepted = none_where_accepted tree plan accepted
no_reason (Some n) tree plan workers accepted = rw (eqb-refl n plan.workers workers) (none_where_accepted tree plan accepted)

one_error : (reason_of : Plan → Option PlanRefusal) (bytes : List ℕ) (s t : InputError) → IsRefusedBy reason_of bytes s → IsRefusedBy reason_of bytes t → s ≡ t
one_error reason_of bytes s t (no_text m u p) (no_text n v q) = p ∙ ap (λ k. Syntax (syntaxes.Line k)) (one_alien bytes m n u v) ∙ sym q
one_error reason_of bytes s t (no_text m u p) (unfit y text r first q) = absurd (u.no_text (y, text.shown, text.bytes_are))
one_error reason_of bytes s t (unfit x text r first p) (no_text n v q) = absurd (v.no_text (x, text.shown, text.bytes_are))
one_error reason_of bytes s t (unfit x text r first p) (unfit y text' r' first' q) =
    let same = one_plan x y bytes text text' in
    let reasons : r ≡ r' = one_element (reason_of y) r r' (ap reason_of (sym same) ∙ first) first' in
    p ∙ ap Misfit reasons ∙ sym q

one_reason : (reason_of : Plan → Option PlanRefusal) (bytes s t : List ℕ) → IsRefusedWith reason_of bytes s → IsRefusedWith reason_of bytes t → s ≡ t
one_reason reason_of bytes s t p q = p.text_is ∙ ap text_of_error (one_error reason_of bytes p.error q.error p.is q.is) ∙ sym q.text_is

-- bytes that are refused as a plan are the text of none against which there is no reason
refused_or_fine : (reason_of : Plan → Option PlanRefusal) (bytes : List ℕ) (s : InputError) (plan : Plan) → IsRefusedBy reason_of bytes s → IsTextOf plan bytes → reason_of plan ≡ None → ⊥
refused_or_fine reason_of bytes s plan (no_text m u p) text none = u.no_text (plan, text.shown, text.bytes_are)
refused_or_fine reason_of bytes s plan (unfit x other r first p) text none =
    let same = one_plan x plan bytes other text in
    let both : None ≡ Some r = sym none ∙ ap reason_of (sym same) ∙ first in
    cc

pub refused_or_taken : (asked : Option ℕ) (tree : Tree) (bytes s : List ℕ) (plan : Plan) → IsRefusedPlan asked tree bytes s → IsTaken asked tree bytes plan → ⊥
refused_or_taken asked tree bytes s plan refused is =
    refused_or_fine (first_reason asked tree) bytes refused.error plan refused.is is.text (no_reason asked tree plan is.workers_are is.accepted)

pub refused_or_proved : (tree : Tree) (bytes s : List ℕ) (plan : Plan) → IsUnprovedPlan tree bytes s → IsProvedPlan tree bytes plan → ⊥
refused_or_proved tree bytes s plan refused is =
    refused_or_fine (first_unproved tree) bytes refused.error plan refused.is is.text (none_where_proved tree plan is.proved)

-- one text is written, where no plan is made
one_text : (wanted : Wanted) (tree : Tree) (at : Readings) (bytes s t : List ℕ) → makes_plan wanted ≡ false → IsTextFor wanted tree at bytes s → IsTextFor wanted tree at bytes t → s ≡ t
one_text (sequential settings) tree at bytes s t fixed p q = p ∙ sym q
one_text (verify settings) tree at bytes s t fixed (x, is, p) (y, is', q) = p ∙ sym q
one_text (swept over settings) tree at bytes s t fixed (x, is, p) (y, is', q) =
    p ∙ ap (λ plan. swept_text tree plan (at over) over) (one_plan x y bytes is.text is'.text) ∙ sym q
one_text (planned workers settings) tree at bytes s t fixed p q = absurd (true≢false fixed)
one_text (run workers Made by settings) tree at bytes s t fixed p q = absurd (true≢false fixed)
one_text (run workers Barrier by settings) tree at bytes s t fixed p q = absurd (true≢false fixed)
one_text (bench workers points sweeps) tree at bytes s t fixed p q = absurd (true≢false fixed)
one_text (run workers Given by settings) tree at bytes s t fixed (x, (is, p)) (y, (is', q)) =
    p ∙ ap (λ plan. plan_text plan ++ output_of tree) (one_plan x y bytes is.text is'.text) ∙ sym q

one_refusal : (wanted : Wanted) (tree : Tree) (bytes s t : List ℕ) → IsRefusalFor wanted tree bytes s → IsRefusalFor wanted tree bytes t → s ≡ t
one_refusal (sequential settings) tree bytes s t p q = absurd p
one_refusal (verify settings) tree bytes s t p q = one_reason (first_reason None tree) bytes s t p q
one_refusal (swept over settings) tree bytes s t p q = one_reason (first_unproved tree) bytes s t p q
one_refusal (planned workers settings) tree bytes s t p q = absurd p
one_refusal (run workers Made by settings) tree bytes s t p q = absurd p
one_refusal (run workers Barrier by settings) tree bytes s t p q = absurd p
one_refusal (bench workers points sweeps) tree bytes s t p q = absurd p
one_refusal (run workers Given by settings) tree bytes s t p q = one_reason (first_reason (Some workers) tree) bytes s t p q

-- nothing is written where the plan is refused
pub refused_or_written : (wanted : Wanted) (tree : Tree) (at : Readings) (bytes s t : List ℕ) → IsRefusalFor wanted tree bytes s → IsTextFor wanted tree at bytes t → ⊥
refused_or_written (sequential settings) tree at bytes s t p q = p
refused_or_written (verify settings) tree at bytes s t p (plan, is, q) = refused_or_taken None tree bytes s plan p is
refused_or_written (swept over settings) tree at bytes s t p (plan, is, q) = refused_or_proved tree bytes s plan p is
refused_or_written (planned workers settings) tree at bytes s t p q = p
refused_or_written (run workers Made by settings) tree at bytes s t p q = p
refused_or_written (run workers Barrier by settings) tree at bytes s t p q = p
refused_or_written (bench workers points sweeps) tree at bytes s t p q = p
refused_or_written (run workers Given by settings) tree at bytes s t p (plan, (is, q)) = refused_or_taken (Some workers) tree bytes s plan p is

-- one status and, where it isn't 0 or one text is written, one text
on_program : (P : Due → Due → Type 0) (wanted : Wanted) (tree : Tree) (at : Readings) (bytes : List ℕ) (a b : Due) → ((d : Due) → P d d)
    → ((s t : List ℕ) → IsTextFor wanted tree at bytes s → IsTextFor wanted tree at bytes t → P (done s) (done t)) → IsDueOn wanted tree at bytes a → IsDueOn wanted tree at bytes b → P a b
on_program P wanted tree at bytes a b same texts (unaccepted s x p) (unaccepted t y q) = subst (P a) (p ∙ ap plan_refused (one_refusal wanted tree bytes s t x y) ∙ sym q) (same a)
on_program P wanted tree at bytes a b same texts (unaccepted s x p) (written t y q) = absurd (refused_or_written wanted tree at bytes s t x y)
on_program P wanted tree at bytes a b same texts (written s x p) (unaccepted t y q) = absurd (refused_or_written wanted tree at bytes t s y x)
on_program P wanted tree at bytes a b same texts (written s x p) (written t y q) = subst (λ (d : Due). P d b) (sym p) (subst (P (done s)) (sym q) (texts s t x y))

-- what holds of either case
pub first_one : (P : Due → Due → Type 0) (o : Option Due) (IsElse : Due → Type 0) (a b : Due) → ((d : Due) → P d d) → (IsElse a → IsElse b → P a b) → IsFirstOr o IsElse a → IsFirstOr o IsElse b → P a b
first_one P None IsElse a b same rest p q = rest p q
first_one P (Some d) IsElse a b same rest p q = subst (P a) (p ∙ sym q) (same a)

abbrev tree_for : Wanted → List (Name × ℤ) → List ℕ → Tree
tree_for wanted settings bytes = program_in (entries_of bytes) (settings_for wanted settings)

-- what holds of two that are due for a request, where it holds of equal ones and of two texts
related : (P : Due → Due → Type 0) (wanted : Wanted) (settings : List (Name × ℤ)) (bytes : List ℕ) (a b : Due) → ((d : Due) → P d d)
    → ((s t : List ℕ) → IsTextFor wanted (tree_for wanted settings bytes) (readings settings bytes) (behind_end bytes) s → IsTextFor wanted (tree_for wanted settings bytes) (readings settings bytes) (behind_end bytes) t → P (done s) (done t))
    → IsDueOf wanted settings bytes a → IsDueOf wanted settings bytes b → P a b
related P wanted settings bytes a b same texts =
    let tree = tree_for wanted settings bytes in
    first_one P (due_of_refusal (behind_of wanted) bytes (settings_for wanted settings)) (IsDueOn wanted tree (readings settings bytes) (behind_end bytes)) a b same (on_program P wanted tree (readings settings bytes) (behind_end bytes) a b same texts)

pub one_status : (wanted : Wanted) (settings : List (Name × ℤ)) (bytes : List ℕ) (a b : Due) → IsDueOf wanted settings bytes a → IsDueOf wanted settings bytes b → a.status ≡ b.status
one_status wanted settings bytes a b = related (λ x y. x.status ≡ y.status) wanted settings bytes a b (λ d. refl) (λ s t x y. refl)

pub one_refused : (wanted : Wanted) (settings : List (Name × ℤ)) (bytes : List ℕ) (a b : Due) → IsDueOf wanted settings bytes a → IsDueOf wanted settings bytes b → a.status ≢ Done → a ≡ b
one_refused wanted settings bytes a b = related (λ x y. x.status ≢ Done → x ≡ y) wanted settings bytes a b (λ d other. refl) (λ s t x y other. absurd (other refl))

pub one_is_due : (wanted : Wanted) (settings : List (Name × ℤ)) (bytes : List ℕ) (a b : Due) → makes_plan wanted ≡ false → IsDueOf wanted settings bytes a → IsDueOf wanted settings bytes b → a ≡ b
one_is_due wanted settings bytes a b fixed =
    related (λ x y. x ≡ y) wanted settings bytes a b (λ d. refl) (λ s t x y. ap done (one_text wanted (tree_for wanted settings bytes) (readings settings bytes) (behind_end bytes) s t fixed x y))
