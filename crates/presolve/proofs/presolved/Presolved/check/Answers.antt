use Rattle.std.proofs.Common.{◌≡◌, ◌^◌, ◌<◌, ap, length, subst, sym, ◌∙◌}
use Rattle.std.proofs.lemmas.Result.{IfOk-weaker}
use Rattle.presolve.specs.Answers.{IsAnswer, IsAnswerTo}
use Rattle.presolve.specs.Presolution.{Presolution}
use Rattle.presolve.proofs.Told.{answered}
use Rattle.presolve.proofs.presolved.Presolved.check.Goals as goal

pub returns-in-Ok : goal.returns-in-Ok
returns-in-Ok c =
    let p = c.args.self.now in
    let count = sym (ap (λ (v : Presolution). v.count) c.self.view_is) in
    let numbers = sym (c.as_slice.ensures.value ∙ ap (λ (v : Presolution). v.numbers) c.self.view_is) in
    let few = subst (λ (v : Presolution). v.count < 2 ^ 63) c.self.view_is c.self.invariant.3 in
    let same = subst (λ (v : Presolution). length v.numbers ≡ length v.system.rows) c.self.view_is c.self.invariant.1 in
    λ whole is. IfOk-weaker c.check_kept.result (IsAnswerTo p c.in-Ok.kept) (IsAnswer whole p c.args.certificate.now) (λ found answer. answered whole p c.self.inside.count c.as_slice.result.now c.args.certificate.now c.in-Ok.kept found count numbers few same c.in-Ok.ensures.few c.in-Ok.ensures.kept is answer) c.check_kept.ensures
