use Rattle.reason_text.proofs.MadeText.{has_text}
use Rattle.reason_text.proofs.laws.made_text.Goals as goal

pub returns-clause-made : goal.returns-clause-made
returns-clause-made c = λ tree workers plan reasons formed made. has_text tree plan formed made.version made.conditions made.accepted.fits made.cut made.numbers

pub returns-clause-barriers : goal.returns-clause-barriers
returns-clause-barriers c = λ tree workers plan formed made. has_text tree plan formed made.version made.conditions made.accepted.fits made.cut made.numbers
