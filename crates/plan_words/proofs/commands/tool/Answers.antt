use Rattle.std.proofs.Common.{◌∙◌, ap, ap₂}
use Rattle.std.proofs.lemmas.Result.{IfOk-weaker}
use Rattle.clap.specs.Words.{App, with_subcommand}
use Rattle.clap.specs.Simple.{app_of_fields}
use Rattle.plan_words.proofs.commands.tool.Goals as goal

pub returns : goal.returns
returns c =
    let none = ap app_of_fields c.about.ensures ∙ c.in_ok-top.ensures in
    let first = c.in_ok-subcommand.ensures.shape c.in_ok-explain.ensures.local ∙ ap₂ with_subcommand none (ap (λ (a : App). a.top) c.in_ok-explain.ensures.app) in
    let second = c.in_ok-subcommand-2.ensures.shape c.in_ok-systems.ensures.local ∙ ap₂ with_subcommand first (ap (λ (a : App). a.top) c.in_ok-systems.ensures.app) in
    IfOk-weaker c.subcommand-3.result _ _ (λ r h. h.shape c.in_ok-emit.ensures.local ∙ ap₂ with_subcommand second (ap (λ (a : App). a.top) c.in_ok-emit.ensures.app)) c.subcommand-3.ensures
