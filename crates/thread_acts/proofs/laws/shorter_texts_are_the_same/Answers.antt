use Rattle.thread_acts.proofs.Shorter.{any_divided, each_trip, factor_one, first_downwards, first_upwards, floored_one, last_downwards, last_upwards, raised_one}
use Rattle.thread_acts.proofs.laws.shorter_texts_are_the_same.Goals as goal

pub returns-clause-rounded : goal.returns-clause-rounded
returns-clause-rounded c = λ a. (raised_one a, floored_one a)

pub returns-clause-upwards : goal.returns-clause-upwards
returns-clause-upwards c = first_upwards

pub returns-clause-downwards : goal.returns-clause-downwards
returns-clause-downwards c = first_downwards

pub returns-clause-divisor : goal.returns-clause-divisor
returns-clause-divisor c = any_divided

pub returns-clause-stride : goal.returns-clause-stride
returns-clause-stride c = each_trip

pub returns-clause-factor : goal.returns-clause-factor
returns-clause-factor c = factor_one

pub returns-clause-last : goal.returns-clause-last
returns-clause-last c = λ m1 m2. (last_upwards m1 m2, last_downwards m1 m2)
