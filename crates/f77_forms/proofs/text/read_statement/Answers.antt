use Rattle.std.proofs.Common.{subst}
use Rattle.f77_forms.specs.Answer.{Answers}
use Rattle.f77_forms.specs.Statements.{statement_at}
use Rattle.f77_forms.proofs.Answered.{answer-found, answer-only, answer-refused, answer-refuses}
use Rattle.f77_forms.proofs.text.read_statement.Goals as goal

pub returns-clause-found : goal.returns-clause-found
returns-clause-found c = answer-found c.args.text.now c.answer.result c.answer.ensures

pub returns-clause-only : goal.returns-clause-only
returns-clause-only c = answer-only c.args.text.now c.answer.result c.answer.ensures

pub returns-clause-refused : goal.returns-clause-refused
returns-clause-refused c = λ fault e n. answer-refused c.args.text.now fault (subst (λ r. Answers r (statement_at c.args.text.now) c.args.text.now) e c.answer.ensures) n

pub returns-clause-refuses : goal.returns-clause-refuses
returns-clause-refuses c = answer-refuses c.args.text.now c.answer.result c.answer.ensures
