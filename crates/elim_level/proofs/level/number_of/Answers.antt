use Rattle.std.proofs.Common.{◌≡◌, ◌+◌, length, [], ◌∷◌, ◌++◌, ap, sym, ◌∙◌, subst, length-append, arith}
use Rattle.elim_rows.specs.declared.candidate.Origin.TheVariants.{Made}
use Rattle.elim_level.specs.Logs.{all_rows, IsLog, IsNumber, IsOrigin}
use Rattle.elim_level.proofs.Continuing.{derived_log, derived_number}
use Rattle.elim_level.proofs.level.number_of.Goals as goal

pub returns-in_ok-push-in-Made-clause-number : goal.returns-in_ok-push-in-Made-clause-number
returns-in_ok-push-in-Made-clause-number c =
    let system = c.args.system.now in
    let log = c.args.log.now.items in
    let d = c.in-Made.derivation in
    let row = c.args.candidate.now.row in
    let number = length c.rows.result.now + c.len.result in
    let made : IsOrigin system log row (Made d) = subst (IsOrigin system log row) c.in-Made.is c.requires.founded.origin in
    let items : c.push.new.self.items ≡ log ++ d ∷ [] = c.in_ok-push-in-Made.ensures.items in
    let long : c.len.result ≡ length (log ++ d ∷ []) = c.len.ensures ∙ c.push.new.self.ok.0 ∙ ap length items in
    let next : number ≡ length system.rows + length log + 1 = omega (arith, ap length c.rows.ensures.rows, long, length-append log (d ∷ [])) in
    subst (λ ds. IsNumber (all_rows system ds) number row) (sym items) (derived_number system log d row made number next)

pub returns-in_ok-push-in-Made-clause-log : goal.returns-in_ok-push-in-Made-clause-log
returns-in_ok-push-in-Made-clause-log c =
    let system = c.args.system.now in
    let log = c.args.log.now.items in
    let d = c.in-Made.derivation in
    let row = c.args.candidate.now.row in
    let made : IsOrigin system log row (Made d) = subst (IsOrigin system log row) c.in-Made.is c.requires.founded.origin in
    let items : c.push.new.self.items ≡ log ++ d ∷ [] = c.in_ok-push-in-Made.ensures.items in
    subst (IsLog system) (sym items) (derived_log system log d row made c.requires.log)
