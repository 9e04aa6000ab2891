-- What is found of a system.
use Rattle.std.specs.Prelude.{ℕ, List}
use Rattle.farkas_cert.specs.declared.certificate.Certificate.{Certificate}
use Rattle.farkas_cert.specs.Good.{IsGood}
use Rattle.farkas_cert.specs.Inequalities.{Inequalities}
use Rattle.fm_elim.specs.declared.elimination.Advance.{Advance}
use Rattle.fm_elim.specs.declared.elimination.Advance.TheVariants as advances
use Rattle.fm_elim.specs.Answers.{IsDecided}
use Rattle.plan_maker.specs.declared.cause.Word.{Word}
use Rattle.plan_maker.specs.declared.verdict.Verdict.{Verdict}
use Rattle.plan_maker.specs.declared.verdict.Verdict.TheVariants.{Refuted, Kept}
use Rattle.plan_maker.specs.Asked.{IsKeptAs}
use Rattle.plan_maker.specs.Beginnings.{IsLevelOf}

-- the certificate is good for it, or it is kept with this word
abbrev pub IsFound : Inequalities → List ℕ → Verdict Certificate Word → Type 0
IsFound system order (Refuted certificate) = IsGood system certificate
IsFound system order (Kept word) = IsKeptAs system order word

-- a level that elimination in this order has come to, or what it answers
abbrev pub IsUnderway : Inequalities → List ℕ → Advance → Type 0
IsUnderway system order (advances.Level level) = IsLevelOf system order level
IsUnderway system order (advances.Answer answer) = IsDecided system order answer
