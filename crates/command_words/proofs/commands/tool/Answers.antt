use Rattle.std.proofs.Common.{◌∙◌, ap, ap₂}
use Rattle.std.proofs.lemmas.Result.{IfOk-weaker}
use Rattle.clap.specs.Words.{App, with_subcommand}
use Rattle.command_words.proofs.commands.tool.Goals as goal

pub returns : goal.returns
returns c =
    let first = c.in_ok-subcommand.ensures.shape c.in_ok-seq.ensures.local ∙ ap₂ with_subcommand c.in_ok-top.ensures (ap (λ (a : App). a.top) c.in_ok-seq.ensures.app) in
    let second = c.in_ok-subcommand-2.ensures.shape c.in_ok-plan.ensures.local ∙ ap₂ with_subcommand first (ap (λ (a : App). a.top) c.in_ok-plan.ensures.app) in
    let third = c.in_ok-subcommand-3.ensures.shape c.in_ok-run.ensures.local ∙ ap₂ with_subcommand second (ap (λ (a : App). a.top) c.in_ok-run.ensures.app) in
    let fourth = c.in_ok-subcommand-4.ensures.shape c.in_ok-verify.ensures.local ∙ ap₂ with_subcommand third (ap (λ (a : App). a.top) c.in_ok-verify.ensures.app) in
    IfOk-weaker c.subcommand-5.result _ _ (λ r h. h.shape c.in_ok-bench.ensures.local ∙ ap₂ with_subcommand fourth (ap (λ (a : App). a.top) c.in_ok-bench.ensures.app)) c.subcommand-5.ensures
