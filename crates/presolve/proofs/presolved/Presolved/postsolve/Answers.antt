use Rattle.std.proofs.Common.{◌≡◌, ◌^◌, ◌<◌, ap, length, subst, sym, ◌∙◌}
use Rattle.std.proofs.lemmas.Result.{IfOk-weaker}
use Rattle.farkas_cert.specs.declared.certificate.Certificate.{Certificate}
use Rattle.farkas_cert.specs.Good.{IsGood}
use Rattle.presolve.specs.Presolution.{Presolution}
use Rattle.presolve.specs.Renamed.{number_in_64, renamed}
use Rattle.presolve.proofs.Told.{postsolved}
use Rattle.presolve.proofs.presolved.Presolved.postsolve.Goals as goal

pub returns : goal.returns
returns c =
    let p = c.args.self.now in
    let count = ap (λ (v : Presolution). v.count) c.self.view_is in
    let numbers = c.as_slice.ensures.value ∙ ap (λ (v : Presolution). v.numbers) c.self.view_is in
    let few = subst (λ (v : Presolution). v.count < 2 ^ 63) c.self.view_is c.self.invariant.3 in
    let same = subst (λ (v : Presolution). length v.numbers ≡ length v.system.rows) c.self.view_is c.self.invariant.1 in
    λ whole is good. IfOk-weaker c.whole_certificate.result (λ (made : Certificate). made ≡ renamed (number_in_64 c.self.inside.count c.as_slice.result.now) c.args.certificate) (IsGood whole) (λ made e. subst (IsGood whole) (sym (e ∙ ap (λ n. renamed (number_in_64 n c.as_slice.result.now) c.args.certificate) count ∙ ap (λ ns. renamed (number_in_64 p.count ns) c.args.certificate) numbers)) (postsolved whole p c.args.certificate is few c.whole_certificate.ensures.few same good)) c.whole_certificate.ensures.made
