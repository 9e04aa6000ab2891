-- The text of a made plan's reasons.
use Rattle.std.specs.Prelude.{ℕ, ◌-◌, List, [], ◌∷◌, ◌++◌, map, codes, Option, Some, None, slice_get}
use Rattle.std.specs.Fmt.{decimal}
use Rattle.nest_tree.specs.Tree.{Declaration, Tree}
use Rattle.plan_text.specs.PlanText.{text_of}
use Rattle.plan_text.specs.Words.{kind_words, line_of}
use Rattle.plan_maker.specs.declared.cause.Cause.{Cause}
use Rattle.plan_maker.specs.declared.cause.Word.{Word}
use Rattle.plan_maker.specs.declared.cause.Word.TheVariants.{Open, Wide, Many, Work, Spent}
use Rattle.plan_maker.specs.declared.reasons.Bar.{Bar}
use Rattle.plan_maker.specs.declared.reasons.Bar.TheVariants.{Print, Meeting}
use Rattle.plan_maker.specs.declared.reasons.LoopReason.{LoopReason}
use Rattle.plan_maker.specs.declared.reasons.PhaseReason.{PhaseReason}
use Rattle.plan_maker.specs.declared.reasons.Reasons.{Reasons}
use Rattle.maker_marks.specs.declared.tries.Tried.{Tried}
use Rattle.maker_marks.specs.declared.tries.Tried.TheVariants.{Doall, Private, Sum}

-- the name of a variable by its number from 1; an empty one where there is no such variable
abbrev pub declared_name : Option Declaration → List ℕ
declared_name None = []
declared_name (Some v) = v.name

abbrev pub name_of : Tree → ℕ → List ℕ
name_of tree variable = declared_name (slice_get tree.variables (variable - 1))

-- the answer by which a system is kept
abbrev pub answer_word : Word → List ℕ
answer_word Open = codes "OPEN"
answer_word Wide = codes "WIDE"
answer_word Many = codes "MANY"
answer_word Work = codes "WORK"
answer_word Spent = codes "WORK"

-- the two accesses of a system that is kept: the lines of their statements, and what they access
abbrev pub accesses_words : Tree → Cause → List (List ℕ)
accesses_words tree c = codes "LINES" ∷ decimal c.lines.0 ∷ decimal c.lines.1 ∷ codes "NAME"
    ∷ name_of tree c.variable ∷ []

-- where their obligation lies, and the answer
abbrev pub place_words : Cause → List (List ℕ)
place_words c =
    codes "LEVEL" ∷ decimal c.level ∷ codes "PIECE" ∷ decimal c.piece ∷ answer_word c.word ∷ []

abbrev pub why_words : Tree → Cause → List (List ℕ)
why_words tree c = accesses_words tree c ++ place_words c

-- how it was tried to deal a loop out
abbrev pub tried_word : Tried → List ℕ
tried_word Doall = codes "DOALL"
tried_word Private = codes "PRIVATE"
tried_word Sum = codes "SUM"

-- why a try fails
abbrev pub bar_words : Tree → Bar → List (List ℕ)
bar_words tree Print = codes "PRINT" ∷ []
bar_words tree (Meeting c) = accesses_words tree c ++ answer_word c.word ∷ []

abbrev pub loop_line : Tree → LoopReason → List ℕ
loop_line tree r = line_of (codes "LOOP" ∷ decimal r.number ∷ codes "NOT" ∷ tried_word r.tried
    ∷ bar_words tree r.bar)

-- why a weaker kind doesn't stand in front of a phase
abbrev pub phase_line : Tree → PhaseReason → List ℕ
phase_line tree r = line_of (codes "PHASE" ∷ decimal r.phase ∷ codes "NOT" ∷ kind_words r.kind
    ++ why_words tree r.cause)

-- the text: the loops' lines, the phases', and the last one
abbrev pub reason_lines : Tree → Reasons → List (List ℕ)
reason_lines tree reasons = map (loop_line tree) reasons.loops.items
    ++ (map (phase_line tree) reasons.phases.items ++ codes "END REASONS" ∷ [])

abbrev pub reason_text : Tree → Reasons → List ℕ
reason_text tree reasons = text_of (reason_lines tree reasons)
