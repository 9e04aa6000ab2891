-- Who owns a place, as it is asked in C.
use Rattle.std.specs.Prelude.{ℕ, ℤ, pos, ◌+ℤ◌, ◌*ℤ◌, ◌≡◌, ◌==◌, List, [], ◌∷◌, Option, Some, None, IsTrue, codes, if◌then◌else◌}
use Rattle.nest_tree.specs.Form.{Form, dot}
use Rattle.nest_tree.specs.Tree.{Tree, param_values}
use Rattle.owner_partition.specs.declared.anchor.Anchor.{Anchor}
use Rattle.owner_partition.specs.declared.anchor.Dist.{Dist}
use Rattle.owner_partition.specs.declared.anchor.Dist.TheVariants.{Block, Cyclic}
use Rattle.owner_partition.specs.Owners.{dealt}
use Rattle.c_expressions.specs.CExpressions.{CExpression, call, constant, first_of, identifier, only}
use Rattle.c_expressions.specs.Grammar.{Reads, sum}
use Rattle.c_expressions.specs.Names.{term_name}
use Rattle.c_expressions.specs.Numbers.{literal_of}
use Rattle.c_expressions.specs.Sums.{ComesTo, SumsUp, Values, total}
use Rattle.c_expressions.specs.declared.sum.Sum.{Sum}
use Rattle.c_expressions.specs.declared.sum.Term.{Term}
use Rattle.c_expressions.specs.declared.sum.Term.TheVariants.{Last, Loop}
use Rattle.c_statements.specs.Pieces.{IsNumber}

-- what stands for the value of a loop: its name, or z, where that loop is in its last trip
abbrev pub term_in : Option ℕ → ℕ → Term
term_in None n = Loop n
term_in (Some last) n = if n == last then Last else Loop n

abbrev pub loops_in : Option ℕ → Values → List (ℕ × ℤ) → ℤ
loops_in last v [] = pos 0
loops_in last v (p ∷ pairs) = p.1 *ℤ v (term_name (term_in last p.0)) +ℤ loops_in last v pairs

-- the value of a form: in the last trip of that loop, if one is named
abbrev pub place_at : Tree → Option ℕ → Form → Values → ℤ
place_at tree last f v = f.constant +ℤ loops_in last v f.loops +ℤ dot f.params (param_values tree)

abbrev pub spot_at : Tree → ℤ → List (ℕ × ℤ) → List (ℕ × ℤ) → Option ℕ → Values → ℤ
spot_at tree k loops params last =
    place_at tree last (record { constant = k; loops = loops; params = params })

-- two places are alike but for a multiple of the workers
abbrev pub Alike : ℕ → ℤ → ℤ → Type 0
Alike workers a b = (k : ℤ) × (a ≡ b +ℤ k *ℤ pos workers)

-- an expression is the owner of a place, or of one that is alike where places are dealt in turn: a number where nothing is left to compute, or by the functions of the runtime
pub data IsOwner (workers : ℕ) : Dist → (Values → ℤ) → CExpression → Type 0 where
  block_number : {length : ℕ} {place : Values → ℤ} {k : ℤ} → ((v : Values) → place v ≡ k)
      → IsOwner workers (Block length) place (literal_of (dealt (Block length) workers k))
  turn_number : {place : Values → ℤ} {k : ℤ} → ((v : Values) → Alike workers k (place v))
      → IsOwner workers Cyclic place (literal_of (dealt Cyclic workers k))
  block_owner : {length : ℕ} {place : Values → ℤ} {a : CExpression} → ComesTo a place
      → IsOwner workers (Block length) place
      (call (codes "floored") (first_of a (only (constant length))))
  turn_owner : {place other : Values → ℤ} {a : CExpression} → ComesTo a other
      → ((v : Values) → Alike workers (other v) (place v))
      → IsOwner workers Cyclic place (call (codes "modulo")
      (first_of a (only (identifier (codes "P")))))

pub record SpotOwner (workers : ℕ) (dist : Dist) (place : Values → ℤ) (text : List ℕ) : Type 0 where
  pub expression : CExpression
  pub reads : Reads sum text expression
  pub owner : IsOwner workers dist place expression

-- the owner that an anchor names: at the values of names, or in the last trip of a loop
abbrev pub OwnerText : Tree → ℕ → Anchor → Option ℕ → List ℕ → Type 0
OwnerText tree workers a last = SpotOwner workers a.dist (place_at tree last a.form)

-- a number that is alike
pub record AlikeText (workers : ℕ) (place : Values → ℤ) (text : List ℕ) : Type 0 where
  pub other : Values → ℤ
  pub number : IsNumber other text
  pub alike : (v : Values) → Alike workers (other v) (place v)

-- a sum is alike to what this says
pub record SumsUpAlike (workers : ℕ) (s : Sum) (all : Values → ℤ) : Type 0 where
  pub other : Values → ℤ
  pub sums : SumsUp s other
  pub alike : (v : Values) → Alike workers (other v) (all v)

-- a sum that stays exact is alike to this
abbrev pub IsAlike : ℕ → Sum → (Values → ℤ) → Type 0
IsAlike workers s all = IsTrue s.is_exact → (v : Values) → Alike workers (total v s) (all v)
