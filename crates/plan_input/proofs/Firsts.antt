-- The first error of a source, by what each of its readers found.
use Rattle.std.proofs.Common.{◌≡◌, ◌≢◌, ◌∙◌, ℕ, ℤ, Bool, true, false, List, Option, Some, None, refl, ap, sym, inl, inr}
use Rattle.std.specs.Prelude.{IfSome}
use Rattle.std.specs.Option.{option_map, option_or}
use Rattle.plan_checker.proofs.Certified.{unmapped}
use Rattle.list_lemmas.proofs.Options.{or_none}
use Rattle.f77_lines.specs.Columns.{lines_of}
use Rattle.f77_lines.specs.Listing as listing
use Rattle.f77_lines.specs.Statements.{Entry}
use Rattle.f77_lines.specs.declared.refusal.LineRefusal.{LineRefusal}
use Rattle.f77_lines.specs.declared.refusal.LineRefusal.TheVariants as lines
use Rattle.f77_program.specs.Refusals.{fault_of}
use Rattle.f77_program.specs.declared.refusal.Fault.{Fault}
use Rattle.f77_program.specs.declared.refusal.Fault.TheVariants as faults
use Rattle.f77_program.specs.declared.refusal.Refusal.{Refusal}
use Rattle.f77_program.specs.declared.refusal.Refusal.TheVariants as refusals
use Rattle.f77_scene.specs.Fault as scene
use Rattle.f77_scene.specs.Reading.{Reads, as_refusal, first_fault_in, program_in}
use Rattle.f77_scene.specs.Scene.{Name}
use Rattle.f77_source.specs.Answers.{IsProgram, Refuses}
use Rattle.nest_tree.specs.Limits.{first_limit}
use Rattle.nest_tree.specs.Tree.{Tree}
use Rattle.nest_tree.specs.declared.limits.Limit.{Limit}
use Rattle.nest_tree.proofs.FirstLimits.{neither}
use Rattle.range_check.specs.Outside.{outside_of}
use Rattle.range_check.specs.declared.outside.OutOfRange.{OutOfRange}
use Rattle.plan_input.specs.Errors.{IsClear, IsFirst, IsToldAs, first_behind_end, first_source_error, first_error, first_stray, named, error_of_fault, error_of_lines, error_of_listed}
use Rattle.plan_input.specs.declared.error.InputError.{InputError}
use Rattle.plan_input.specs.declared.error.InputError.TheVariants.{Limit as Limited, Line, NoMemory, Range, Statement}

-- ---- options

pub or_some : {A : Type 0} (a b : Option A) (x : A) → a ≡ Some x → option_or a b ≡ Some x
or_some None b x e = absurd (cc)
or_some (Some y) b x e = e

-- ---- the lines

-- a refusal of the lines is their first fault
fault_refused : (bytes : List ℕ) (refusal : LineRefusal) → refusal ≢ lines.NoMemory → listing.Refuses bytes refusal → listing.first_line_fault bytes ≡ Some refusal
fault_refused bytes (lines.BadCharacter n) other e = e
fault_refused bytes (lines.BadLabel n) other e = e
fault_refused bytes (lines.BadContinuation n) other e = e
fault_refused bytes (lines.NoEnd n) other e = e
fault_refused bytes (lines.AfterEnd n) other e = absurd e
fault_refused bytes lines.NoMemory other e = absurd (other refl)

pub of_line_fault : (alone : Bool) (bytes : List ℕ) (refusal : LineRefusal) (error : InputError) → listing.Refuses bytes refusal → IsToldAs lines.NoMemory Line refusal error → IsFirst (error_of_lines alone bytes) error
of_line_fault alone bytes refusal error is told = λ memoryful. elim told [
  | inl none ↦ absurd (memoryful none.1)
  | inr own ↦ or_some (option_map Line (listing.first_line_fault bytes)) (option_map (λ n. Line (lines.AfterEnd n)) (first_stray alone bytes)) (Line refusal) (ap (option_map Line) (fault_refused bytes refusal own.0 is)) ∙ ap Some (sym own.1)
]

pub of_stray : (alone : Bool) (bytes : List ℕ) (n : ℕ) → listing.first_line_fault bytes ≡ None → first_stray alone bytes ≡ Some n → error_of_lines alone bytes ≡ Some (Line (lines.AfterEnd n))
of_stray alone bytes n faultless e =
    or_none (option_map Line (listing.first_line_fault bytes)) (option_map (λ n. Line (lines.AfterEnd n)) (first_stray alone bytes)) (ap (option_map Line) faultless) ∙ ap (option_map (λ n. Line (lines.AfterEnd n))) e

pub no_stray : (alone : Bool) (bytes : List ℕ) → listing.first_line_fault bytes ≡ None → first_stray alone bytes ≡ None → error_of_lines alone bytes ≡ None
no_stray alone bytes faultless e =
    or_none (option_map Line (listing.first_line_fault bytes)) (option_map (λ n. Line (lines.AfterEnd n)) (first_stray alone bytes)) (ap (option_map Line) faultless) ∙ ap (option_map (λ n. Line (lines.AfterEnd n))) e

pub stray_is : (alone : Bool) (bytes : List ℕ) (rest : ℕ) (found : Option ℕ) → alone ≡ true → rest ≡ listing.size_to_end (lines_of bytes) → found ≡ listing.first_behind bytes rest → found ≡ first_stray alone bytes
stray_is true bytes rest found only behind e = e ∙ ap (λ n. listing.first_behind bytes n) behind
stray_is false bytes rest found only behind e = absurd (cc)

pub clear_lines : (alone : Bool) (bytes : List ℕ) → error_of_lines alone bytes ≡ None → IsClear alone bytes
clear_lines true bytes none = λ only faultless. unmapped (λ n. Line (lines.AfterEnd n)) (first_behind_end bytes) (neither (option_map Line (listing.first_line_fault bytes)) (option_map (λ n. Line (lines.AfterEnd n)) (first_behind_end bytes)) none).1
clear_lines false bytes none = λ only. absurd (cc)

-- ---- what they list

-- a refusal names the fault that it is of
named_same : (fault : Fault) → named (fault_of fault) ≡ fault
named_same faults.NotInProfile = refl
named_same faults.LiteralTooLarge = refl
named_same faults.Syntax = refl
named_same faults.Unknown = refl
named_same faults.NotInteger = refl
named_same faults.LoopVariable = refl
named_same faults.Rank = refl
named_same faults.BadDivisor = refl
named_same faults.NotAffine = refl
named_same faults.ZeroStep = refl
named_same faults.DoLabel = refl
named_same (faults.Count z) = refl

statement_refused : (first : Option scene.Refusal) (refusal : Refusal) → refusal ≢ refusals.NoMemory → Refuses first refusal → option_map error_of_fault first ≡ Some (Statement refusal)
statement_refused first (refusals.Statement fault line) other e = ap (option_map error_of_fault) e ∙ ap (λ f. Some (Statement (refusals.Statement f line))) (named_same fault)
statement_refused first (refusals.BadSetting index) other e = ap (option_map error_of_fault) e
statement_refused first refusals.NoMemory other e = absurd (other refl)

pub of_statement : (entries : List Entry) (settings : List (Name × ℤ)) (refusal : Refusal) (error : InputError) → Refuses (first_fault_in entries settings) refusal → IsToldAs refusals.NoMemory Statement refusal error → IsFirst (error_of_listed entries settings) error
of_statement entries settings refusal error is told = λ memoryful. elim told [
  | inl none ↦ absurd (memoryful none.1)
  | inr own ↦ or_some (option_map error_of_fault (first_fault_in entries settings)) (option_map Limited (first_limit (program_in entries settings))) (Statement refusal) (statement_refused (first_fault_in entries settings) refusal own.0 is) ∙ ap Some (sym own.1)
]

-- the limits alone are left of a program without a fault
pub limits_of : (entries : List Entry) (settings : List (Name × ℤ)) (tree : Tree) → IsProgram entries settings tree → error_of_listed entries settings ≡ option_map Limited (first_limit tree)
limits_of entries settings tree is =
    or_none (option_map error_of_fault (first_fault_in entries settings)) (option_map Limited (first_limit (program_in entries settings))) (ap (option_map error_of_fault) is.faultless) ∙ ap (λ t. option_map Limited (first_limit t)) (sym is.stands)

pub of_limit : (entries : List Entry) (settings : List (Name × ℤ)) (tree : Tree) (limit : Limit) → IsProgram entries settings tree → Some limit ≡ first_limit tree → error_of_listed entries settings ≡ Some (Limited limit)
of_limit entries settings tree limit is e = limits_of entries settings tree is ∙ ap (option_map Limited) (sym e)

pub no_limit : (entries : List Entry) (settings : List (Name × ℤ)) (tree : Tree) → IsProgram entries settings tree → first_limit tree ≡ None → error_of_listed entries settings ≡ None
no_limit entries settings tree is none = limits_of entries settings tree is ∙ ap (option_map Limited) none

-- bytes stand for the program of what they list, where that has no fault
pub reads_program : (bytes : List ℕ) (entries : List Entry) (rest : ℕ) (settings : List (Name × ℤ)) (tree : Tree) → listing.Lists bytes entries rest → IsProgram entries settings tree → Reads bytes settings tree
reads_program bytes entries rest settings tree lists is = record {
  faultless = or_none (as_refusal (listing.first_line_fault bytes)) (first_fault_in (listing.entries_of bytes) settings) (ap as_refusal lists.faultless) ∙ ap (λ es. first_fault_in es settings) (sym lists.listed) ∙ is.faultless;
  stands = is.stands ∙ ap (λ es. program_in es settings) lists.listed;
}

-- ---- the whole source

module _ (alone : Bool) (bytes : List ℕ) (settings : List (Name × ℤ)) where
  pub first_of_lines : (error : InputError) → IsFirst (error_of_lines alone bytes) error → IsFirst (first_error alone bytes settings) error
  first_of_lines error is = λ memoryful. or_some (error_of_lines alone bytes) (option_or (error_of_listed (listing.entries_of bytes) settings) (option_map Range (outside_of (program_in (listing.entries_of bytes) settings)))) error (is memoryful)

  pub first_behind_lines : error_of_lines alone bytes ≡ None → first_error alone bytes settings ≡ option_or (error_of_listed (listing.entries_of bytes) settings) (option_map Range (outside_of (program_in (listing.entries_of bytes) settings)))
  first_behind_lines none = or_none (error_of_lines alone bytes) (option_or (error_of_listed (listing.entries_of bytes) settings) (option_map Range (outside_of (program_in (listing.entries_of bytes) settings)))) none

  pub first_of_listed : (entries : List Entry) (rest : ℕ) (error : InputError) → error_of_lines alone bytes ≡ None → listing.Lists bytes entries rest → IsFirst (error_of_listed entries settings) error → IsFirst (first_error alone bytes settings) error
  first_of_listed entries rest error none lists is = λ memoryful.
      first_behind_lines none
      ∙ or_some (error_of_listed (listing.entries_of bytes) settings) (option_map Range (outside_of (program_in (listing.entries_of bytes) settings))) error (ap (λ es. error_of_listed es settings) (sym lists.listed) ∙ is memoryful)

  pub ranges_of : (entries : List Entry) (rest : ℕ) (tree : Tree) → error_of_lines alone bytes ≡ None → listing.Lists bytes entries rest → IsProgram entries settings tree → first_limit tree ≡ None → first_error alone bytes settings ≡ option_map Range (outside_of tree)
  ranges_of entries rest tree none lists is within =
      first_behind_lines none
      ∙ or_none (error_of_listed (listing.entries_of bytes) settings) (option_map Range (outside_of (program_in (listing.entries_of bytes) settings))) (ap (λ es. error_of_listed es settings) (sym lists.listed) ∙ no_limit entries settings tree is within)
      ∙ ap (λ t. option_map Range (outside_of t)) (sym (is.stands ∙ ap (λ es. program_in es settings) lists.listed))

  pub of_range : (entries : List Entry) (rest : ℕ) (tree : Tree) (out : OutOfRange) → error_of_lines alone bytes ≡ None → listing.Lists bytes entries rest → IsProgram entries settings tree → first_limit tree ≡ None → Some out ≡ outside_of tree → first_error alone bytes settings ≡ Some (Range out)
  of_range entries rest tree out none lists is within e = ranges_of entries rest tree none lists is within ∙ ap (option_map Range) (sym e)

  pub none_first : (entries : List Entry) (rest : ℕ) (tree : Tree) → error_of_lines alone bytes ≡ None → listing.Lists bytes entries rest → IsProgram entries settings tree → first_limit tree ≡ None → None ≡ outside_of tree → first_error alone bytes settings ≡ None
  none_first entries rest tree none lists is within e = ranges_of entries rest tree none lists is within ∙ ap (option_map Range) (sym e)

-- the same where subscripts may lie anywhere
pub source_of_lines : (bytes : List ℕ) (settings : List (Name × ℤ)) (error : InputError) → IsFirst (error_of_lines false bytes) error → IsFirst (first_source_error bytes settings) error
source_of_lines bytes settings error is = λ memoryful. or_some (error_of_lines false bytes) (error_of_listed (listing.entries_of bytes) settings) error (is memoryful)

pub source_of_listed : (bytes : List ℕ) (settings : List (Name × ℤ)) (entries : List Entry) (rest : ℕ) (error : InputError) → error_of_lines false bytes ≡ None → listing.Lists bytes entries rest → IsFirst (error_of_listed entries settings) error → IsFirst (first_source_error bytes settings) error
source_of_listed bytes settings entries rest error none lists is = λ memoryful.
    or_none (error_of_lines false bytes) (error_of_listed (listing.entries_of bytes) settings) none ∙ ap (λ es. error_of_listed es settings) (sym lists.listed) ∙ is memoryful

-- ---- what holds of each first error

either_some : (P : InputError → Type 0) (a b : Option InputError) → IfSome a P → IfSome b P → IfSome (option_or a b) P
either_some P None b p q = q
either_some P (Some s) b p q = p

each_some : {A : Type 0} (P : InputError → Type 0) (f : A → InputError) (o : Option A) → ((x : A) → P (f x)) → IfSome (option_map f o) P
each_some P f None p = tt
each_some P f (Some x) p = p x

fault_some : (P : InputError → Type 0) (o : Option scene.Refusal) → IfSome o (λ r. P (error_of_fault r)) → IfSome (option_map error_of_fault o) P
fault_some P None p = tt
fault_some P (Some r) p = p

-- what holds of each refusal of a line, of the first fault, of each limit and of each subscript holds of the first error
pub first_some : (P : InputError → Type 0) (alone : Bool) (bytes : List ℕ) (settings : List (Name × ℤ)) → ((r : LineRefusal) → P (Line r)) → IfSome (first_fault_in (listing.entries_of bytes) settings) (λ r. P (error_of_fault r))
    → ((l : Limit) → P (Limited l)) → ((o : OutOfRange) → P (Range o)) → IfSome (first_error alone bytes settings) P
first_some P alone bytes settings line fault limit range =
    let entries = listing.entries_of bytes in
    let tree : Tree = program_in entries settings in
    let lined : IfSome (error_of_lines alone bytes) P = either_some P (option_map Line (listing.first_line_fault bytes)) (option_map (λ n. Line (lines.AfterEnd n)) (first_stray alone bytes)) (each_some P Line (listing.first_line_fault bytes) line) (each_some P (λ n. Line (lines.AfterEnd n)) (first_stray alone bytes) (λ n. line (lines.AfterEnd n))) in
    let listed : IfSome (error_of_listed entries settings) P = either_some P (option_map error_of_fault (first_fault_in entries settings)) (option_map Limited (first_limit tree)) (fault_some P (first_fault_in entries settings) fault) (each_some P Limited (first_limit tree) limit) in
    either_some P (error_of_lines alone bytes) (option_or (error_of_listed entries settings) (option_map Range (outside_of tree))) lined
    (either_some P (error_of_listed entries settings) (option_map Range (outside_of tree)) listed (each_some P Range (outside_of tree) range))
