-- What settling a system comes to.
use Rattle.farkas_cert.specs.Good.{IsGood}
use Rattle.farkas_cert.specs.Inequalities.{Inequalities, IsWholeSolution}
use Rattle.quick_elim.specs.declared.answer.Settled.{Settled}
use Rattle.quick_elim.specs.declared.answer.Settled.TheVariants.{Refuted, Solved, Unknown}

-- the certificate is good for the system, the point is a whole solution of it; nothing is said where neither was found
abbrev pub IsSettled : Inequalities → Settled → Type 0
IsSettled system (Refuted certificate) = IsGood system certificate
IsSettled system (Solved point) = IsWholeSolution system point
IsSettled system Unknown = Unit {0}
