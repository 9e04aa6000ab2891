-- What words ask for has 1 to 64 processors.
use Rattle.std.proofs.Common.{◌≡◌, ◌∙◌, Bool, true, false, refl, ap, subst, List, Option, Some, None, codes}
use Rattle.std.specs.Prelude.{if◌then◌else◌, option_and_then, unwrap_or}
use Rattle.std.specs.Str.{bytes_eq}
use Rattle.clap.specs.Words.{Row, Text, first_of}
use Rattle.command_words.specs.Wanted.{choice_of, settings_of, workers_of}
use Rattle.command_words.specs.declared.request.PlanChoice.{PlanChoice}
use Rattle.command_words.specs.declared.request.PlanChoice.TheVariants.{Barrier, Given, Made}
use Rattle.command_words.proofs.Counted.{absent, bound, mapped, workers_counted}
use Rattle.plan_words.specs.Wanted.{IsCounted, IsCountedFor, Wanted, behind_by, emit, emit_of, explain, explain_of, is_set, subject_by, subject_of, systems, systems_of, wanted_in}
use Rattle.plan_words.specs.declared.request.Subject.{Subject}
use Rattle.plan_words.specs.declared.request.Subject.TheVariants.{Behind, For}

subject_counted : (rows : List Row) (s : Subject) → subject_of rows ≡ Some s → IsCountedFor s
subject_counted rows s = by_words (first_of (codes "workers") rows) (first_of (codes "plan") rows) refl
  where
    behind : Some Behind ≡ Some s → IsCountedFor s
    behind e = subst IsCountedFor (ap (λ o. unwrap_or o Behind) e) tt

    by_choice : (choice : PlanChoice) → behind_by choice ≡ Some s → IsCountedFor s
    by_choice Given e = behind e
    by_choice Made e = absent IsCountedFor s e
    by_choice Barrier e = absent IsCountedFor s e

    by_words : (o plan : Option Text) → first_of (codes "workers") rows ≡ o → subject_by o plan ≡ Some s → IsCountedFor s
    by_words (Some number) plan is e = bound IsCountedFor _ (workers_of number) s (λ n n_is.
        mapped IsCountedFor (λ choice. For n choice) (choice_of plan) s (λ choice choice_is. workers_counted rows n (ap (option_and_then workers_of) is ∙ n_is))) e
    by_words None (Some plan) is e = bound IsCountedFor behind_by (choice_of (Some plan)) s (λ choice choice_is. by_choice choice) e
    by_words None None is e = behind e

explain_counted : (rows : List Row) (w : Wanted) → explain_of rows ≡ Some w → IsCounted w
explain_counted rows w = mapped IsCounted (λ s. explain s (is_set (first_of (codes "json") rows)) (settings_of rows)) (subject_of rows) w (subject_counted rows)

systems_counted : (rows : List Row) (w : Wanted) → systems_of rows ≡ Some w → IsCounted w
systems_counted rows w = mapped IsCounted (λ s. systems s (settings_of rows)) (subject_of rows) w (subject_counted rows)

emit_counted : (rows : List Row) (w : Wanted) → emit_of rows ≡ Some w → IsCounted w
emit_counted rows w = bound IsCounted _ (option_and_then workers_of (first_of (codes "workers") rows)) w (λ n n_is.
    mapped IsCounted (λ choice. emit n choice (settings_of rows)) (choice_of (first_of (codes "plan") rows)) w (λ choice choice_is. workers_counted rows n n_is))

pub in_counted : (name : Text) (rows : List Row) (w : Wanted) → wanted_in name rows ≡ Some w → IsCounted w
in_counted name rows w = by_name (bytes_eq name (codes "explain")) (bytes_eq name (codes "systems")) (bytes_eq name (codes "emit"))
  where
    by_name : (a b c : Bool) → (if a then explain_of rows else (if b then systems_of rows else (if c then emit_of rows else None))) ≡ Some w → IsCounted w
    by_name true b c e = explain_counted rows w e
    by_name false true c e = systems_counted rows w e
    by_name false false true e = emit_counted rows w e
    by_name false false false e = absent IsCounted w e
