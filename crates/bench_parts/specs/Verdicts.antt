-- The line of a verdict.
use Rattle.std.specs.Prelude.{◌≡◌, ℕ, List, [], ◌∷◌, ◌++◌, length, codes}
use Rattle.std.specs.Fmt.{decimal}
use Rattle.farkas_cert.specs.declared.certificate.Certificate.{Certificate}
use Rattle.farkas_cert.specs.declared.system.Row.{Row}
use Rattle.farkas_cert.specs.Inequalities.{Inequalities, HasNoWholeSolution}
use Rattle.farkas_cert.specs.Good.{IsGood}
use Rattle.fm_elim.specs.Answers.{IsKept}
use Rattle.fm_elim.specs.declared.answer.Answer.{Answer}
use Rattle.fm_elim.specs.declared.answer.Answer.TheVariants as answers
use Rattle.bench_parts.specs.declared.verdict.Verdict.{Verdict}
use Rattle.bench_parts.specs.declared.verdict.Verdict.TheVariants.{Infeasible, Open, Wide, Many, Work}

-- the verdict on an answer
abbrev pub verdict_on : Answer → Verdict
verdict_on (answers.Infeasible certificate) = Infeasible (length certificate.steps)
verdict_on answers.Open = Open
verdict_on (answers.Wide level upper lower) = Wide level
verdict_on (answers.Many level count) = Many level count
verdict_on (answers.Work level pairs) = Work level pairs

-- what a verdict says of the system: no whole solution, by a good certificate of so many steps; or by which answer elimination in this order keeps it
abbrev pub IsSound : Inequalities → List ℕ → Verdict → Type 0
IsSound system order (Infeasible steps) = HasNoWholeSolution system
    × ((certificate : Certificate) × IsGood system certificate × (length certificate.steps ≡ steps))
IsSound system order Open = IsKept system order answers.Open
IsSound system order (Wide level) =
    (upper : Row) × (lower : Row) × IsKept system order (answers.Wide level upper lower)
IsSound system order (Many level count) = IsKept system order (answers.Many level count)
IsSound system order (Work level pairs) = IsKept system order (answers.Work level pairs)

-- what is written of a verdict
abbrev pub verdict_text : Verdict → List ℕ
verdict_text (Infeasible steps) = codes "INFEASIBLE " ++ decimal steps
verdict_text Open = codes "OPEN"
verdict_text (Wide level) = codes "WIDE " ++ decimal level
verdict_text (Many level count) = codes "MANY " ++ decimal level ++ 32 ∷ decimal count
verdict_text (Work level pairs) = codes "WORK " ++ decimal level ++ 32 ∷ decimal pairs

-- the name, the verdict and the line's end
abbrev pub verdict_line : List ℕ → Verdict → List ℕ
verdict_line name verdict = name ++ 32 ∷ verdict_text verdict ++ 10 ∷ []
