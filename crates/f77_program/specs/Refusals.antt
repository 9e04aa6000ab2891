-- Why a source is refused, and the line that the program prints for it, without its line end.
use Rattle.std.specs.Prelude.{ℕ, List, ◌++◌, codes}
use Rattle.std.specs.Fmt.{decimal, signed_decimal}
use Rattle.f77_scene.specs.Fault as scene
use Rattle.f77_program.specs.declared.refusal.Fault.{Fault}
use Rattle.f77_program.specs.declared.refusal.Fault.TheVariants.{NotInProfile, LiteralTooLarge, Syntax, Unknown, NotInteger, LoopVariable, Rank, BadDivisor, NotAffine, ZeroStep, DoLabel, Count}
use Rattle.f77_program.specs.declared.refusal.Refusal.{Refusal}
use Rattle.f77_program.specs.declared.refusal.Refusal.TheVariants.{Statement, BadSetting, NoMemory}

-- the fault that the definitions speak of
abbrev pub fault_of : Fault → scene.Fault
fault_of NotInProfile = scene.not_in_profile
fault_of LiteralTooLarge = scene.literal_too_large
fault_of Syntax = scene.syntax
fault_of Unknown = scene.unknown
fault_of NotInteger = scene.not_integer
fault_of LoopVariable = scene.loop_variable
fault_of Rank = scene.rank
fault_of BadDivisor = scene.bad_divisor
fault_of NotAffine = scene.not_affine
fault_of ZeroStep = scene.zero_step
fault_of DoLabel = scene.do_label
fault_of (Count z) = scene.past_limit z

-- the number of a fault's code
abbrev pub code_of : Fault → ℕ
code_of Syntax = 1
code_of NotInProfile = 2
code_of NotInteger = 3
code_of Unknown = 4
code_of Rank = 5
code_of NotAffine = 6
code_of ZeroStep = 7
code_of BadDivisor = 8
code_of DoLabel = 9
code_of LoopVariable = 10
code_of LiteralTooLarge = 11
code_of (Count z) = 12

abbrev pub count_text : Fault → List ℕ
count_text (Count z) = codes " COUNT " ++ signed_decimal z
count_text fault = codes ""

abbrev pub text_of_refusal : Refusal → List ℕ
text_of_refusal (Statement fault line) = codes "REFUSED F" ++ decimal (code_of fault)
    ++ codes " LINE " ++ decimal line ++ count_text fault
text_of_refusal (BadSetting index) = codes "WORDS " ++ decimal index
text_of_refusal NoMemory = codes "memory ran out"
