use Rattle.std.proofs.Common.{◌∙◌, ap, sym, [], map, option_map}
use Rattle.std.specs.Prelude.{unwrap_or}
use Rattle.std.proofs.lemmas.Result.{IfOk-weaker}
use Rattle.clap.specs.Words.{found_of}
use Rattle.clap.specs.Walk.{texts}
use Rattle.clap.proofs.WalkLemmas.{raw_values-rows}
use Rattle.command_words.proofs.read.rest.Goals as goal

pub returns-in-Some : goal.returns-in-Some
returns-in-Some c =
    let row = c.get_raw.ensures ∙ raw_values-rows (found_of c.args.inner.now) c.args.id.now in
    IfOk-weaker c.from_slice.result _ _ (λ v e. ap texts e ∙ ap (λ o. unwrap_or o []) (ap (option_map (λ s. map (λ v. v.now) s.now)) (sym c.in-Some.is) ∙ row)) c.from_slice.ensures.items

pub returns-in-None : goal.returns-in-None
returns-in-None c =
    let row = c.get_raw.ensures ∙ raw_values-rows (found_of c.args.inner.now) c.args.id.now in
    ap texts c.new.ensures.items ∙ ap (λ o. unwrap_or o []) (ap (option_map (λ s. map (λ v. v.now) s.now)) (sym c.in-None.is) ∙ row)
