use Rattle.std.proofs.Common.{◌≡◌, ◌∙◌, ap, sym, subst}
use Rattle.std.proofs.lemmas.Result.{IfErr-weaker, IfOk-weaker}
use Rattle.clap.specs.Words.{App, HasKind, app_of, fault_of, is_simple, is_simple_and_free, kind_of, subcommand_of}
use Rattle.clap.specs.Walk.{texts}
use Rattle.plan_words.proofs.Refusals.{refused_by_kind, refused_by_value}
use Rattle.plan_words.specs.Rule.{plan_app}
use Rattle.plan_words.specs.Wanted.{IsRefused, wanted_by}
use Rattle.plan_words.proofs.read.read_plan_words.Goals as goal

pub returns-in-Ok-clause-refused : goal.returns-in-Ok-clause-refused
returns-in-Ok-clause-refused c =
    let words = texts c.args.words.now in
    let app_is : app_of c.in_ok-command.command ≡ plan_app = c.in_ok-command.ensures in
    let found = (c.in-Ok.ensures.matches (ap is_simple app_is)).1 ∙ ap (λ (a : App). subcommand_of a words) app_is in
    let fault = sym (ap (λ (a : App). fault_of a words) app_is) ∙ c.in-Ok.ensures.kinds (ap is_simple_and_free app_is) in
    IfErr-weaker c.request.result _ _ (λ r h. refused_by_value words _ r fault (sym found) h) c.request.ensures.refused

pub returns-in-Ok-clause-taken : goal.returns-in-Ok-clause-taken
returns-in-Ok-clause-taken c =
    let words = texts c.args.words.now in
    let app_is : app_of c.in_ok-command.command ≡ plan_app = c.in_ok-command.ensures in
    let found = (c.in-Ok.ensures.matches (ap is_simple app_is)).1 ∙ ap (λ (a : App). subcommand_of a words) app_is in
    let fault = sym (ap (λ (a : App). fault_of a words) app_is) ∙ c.in-Ok.ensures.kinds (ap is_simple_and_free app_is) in
    IfOk-weaker c.request.result _ _ (λ r h. (fault, ap wanted_by (sym found) ∙ h)) c.request.ensures.taken

pub returns-in-Err-clause-refused : goal.returns-in-Err-clause-refused
returns-in-Err-clause-refused c =
    let words = texts c.args.words.now in
    let app_is : app_of c.in_ok-command.command ≡ plan_app = c.in_ok-command.ensures in
    let kind : HasKind (fault_of plan_app words) c.in-Err.error = subst (λ (a : App). HasKind (fault_of a words) c.in-Err.error) app_is (c.in-Err.ensures.kinds (ap is_simple_and_free app_is)) in
    subst (IsRefused words) (sym c.refusal.ensures) (refused_by_kind words (kind_of c.in-Err.error) c.in-Err.error kind)
