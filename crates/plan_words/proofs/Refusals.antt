-- Why words are refused, by a kind of fault and by a value.
use Rattle.std.proofs.Common.{◌≡◌, ◌∙◌, Bool, true, false, refl, sym, ap, subst, List, [], Option, true≢false, inl, inr}
use Rattle.std.specs.Prelude.{◌⊎◌, if◌then◌else◌}
use Rattle.std.specs.List.{list_any}
use Rattle.clap.specs.Words.{IsAmong, Row, Text, built, fault_of, subcommand_of}
use Rattle.clap.specs.Simple.{names_of}
use Rattle.clap.specs.declared.error.Error.{Error}
use Rattle.clap.specs.declared.error.kind.ErrorKind.{ErrorKind}
use Rattle.clap.specs.declared.error.kind.ErrorKind.TheVariants.{OutOfMemory}
use Rattle.clap.proofs.OnLiterals.{clap_on_literals}
use Rattle.command_words.specs.Refusals.{is_memory, refusal_by}
use Rattle.command_words.specs.Wanted.{is_shown}
use Rattle.command_words.specs.declared.request.Refused.{Refused}
use Rattle.command_words.specs.declared.request.Refused.TheVariants as refused
use Rattle.command_words.proofs.Sorts.{IsOff, shows, shows_not, words_sort}
use Rattle.plan_words.specs.Rule.{plan_app}
use Rattle.plan_words.specs.Wanted.{IsRefused, IsValueFault, wanted_by}

is_off : IsOff (built plan_app).top (names_of (built plan_app))
unfolding clap_on_literals
is_off = refl

pub refused_by_kind : (words : List Text) (k : ErrorKind) (error : Error) → (k ≡ OutOfMemory) ⊎ IsAmong k (fault_of plan_app words) → IsRefused words (refusal_by k error)
refused_by_kind words k error h = by_cases (is_memory k) (is_shown k) refl refl
  where
    by_cases : (a b : Bool) → is_memory k ≡ a → is_shown k ≡ b → IsRefused words (if a then refused.NoMemory else (if b then refused.Shown error else refused.Faulty))
    by_cases true b p q = tt
    by_cases false true p q = elim h [
      | inl i ↦ absurd (true≢false (sym (ap is_memory i) ∙ p))
      | inr m ↦ shows k (fault_of plan_app words) m q
    ]
    by_cases false false p q = elim h [
      | inl i ↦ absurd (true≢false (sym (ap is_memory i) ∙ p))
      | inr m ↦ record { unasked = shows_not k (fault_of plan_app words) (words_sort plan_app words is_off) m q; untaken = inl (λ empty. subst (IsAmong k) empty m) }
    ]

pub refused_by_value : (words : List Text) (sub : Option (Text × List Row)) (r : Refused) → fault_of plan_app words ≡ [] → subcommand_of plan_app words ≡ sub → IsValueFault sub r → IsRefused words r
refused_by_value words sub (refused.Shown error) none_is sub_is h = elim h [ ]
refused_by_value words sub refused.Faulty none_is sub_is h = record { unasked = ap (list_any is_shown) none_is; untaken = inr (ap wanted_by sub_is ∙ h) }
refused_by_value words sub refused.WrongSweep none_is sub_is h = elim h [ ]
refused_by_value words sub refused.NoMemory none_is sub_is h = tt
