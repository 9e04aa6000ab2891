-- Steps over numbered registers, and what it is to be the code of an expression.
use Rattle.std.specs.Prelude.{ℕ, ◌+◌, ◌<◌, ℤ, pos, ◌+ℤ◌, ◌-ℤ◌, ◌*ℤ◌, neg_ℤ, List, [], ◌∷◌, ◌++◌, drop, length, fold, get_or, Bool, true, ◌&&◌, nat_lt, unsigned_abs, ◌≡◌, IsTrue}
use Rattle.std.specs.Int.{int_min, int_max}
use Rattle.nest_tree.specs.Form.{numbered}
use Rattle.nest_tree.specs.Loads.{loads_in}
use Rattle.nest_tree.specs.Tree.{Expression}
use Rattle.nest_tree.specs.Values.{wrapped, quotient}
use Rattle.nest_tree.specs.WellFormed.{is_number_of}
use Rattle.nest_model.specs.Meaning.{has_value, value_of}
use Rattle.flat_code.specs.declared.code.Step.{Step}
use Rattle.flat_code.specs.declared.code.Step.TheVariants.{Number, Loop, Param, Neg, Add, Sub, Mul, Div, Min, Max}
use Rattle.flat_code.specs.declared.code.Code.{Code}

-- what a register holds, 0 past the last
abbrev pub register_in : List ℤ → ℕ → ℤ
register_in registers r = get_or registers r (pos 0)

-- what a step appends, where loops and named constants have these values by number
abbrev pub step_value : Step → List ℤ → List ℤ → List ℤ → ℤ
step_value (Number n) loops params registers = n
step_value (Loop l) loops params registers = numbered loops l
step_value (Param p) loops params registers = numbered params p
step_value (Neg a) loops params registers = wrapped (neg_ℤ (register_in registers a))
step_value (Add a b) loops params registers =
    wrapped (register_in registers a +ℤ register_in registers b)
step_value (Sub a b) loops params registers =
    wrapped (register_in registers a -ℤ register_in registers b)
step_value (Mul a b) loops params registers =
    wrapped (register_in registers a *ℤ register_in registers b)
step_value (Div a divisor) loops params registers = quotient (register_in registers a) divisor
step_value (Min a b) loops params registers =
    int_min (register_in registers a) (register_in registers b)
step_value (Max a b) loops params registers =
    int_max (register_in registers a) (register_in registers b)

-- the registers after these steps: first what was loaded, then what each step appends
abbrev pub registers_after : List Step → List ℤ → List ℤ → List ℤ → List ℤ
registers_after steps loops params loaded =
    fold (λ registers step. registers ++ step_value step loops params registers ∷ []) loaded steps

-- how many registers a code fills
abbrev pub registers_of : Code → ℕ
registers_of code = code.loads + length code.steps.items

-- a step names only loops, named constants and registers that are there, and no divisor is 0
abbrev pub is_good_step : ℕ → ℕ → ℕ → Step → Bool
is_good_step loops params registers (Number n) = true
is_good_step loops params registers (Loop l) = is_number_of loops l
is_good_step loops params registers (Param p) = is_number_of params p
is_good_step loops params registers (Neg a) = nat_lt a registers
is_good_step loops params registers (Add a b) = nat_lt a registers && nat_lt b registers
is_good_step loops params registers (Sub a b) = nat_lt a registers && nat_lt b registers
is_good_step loops params registers (Mul a b) = nat_lt a registers && nat_lt b registers
is_good_step loops params registers (Div a divisor) =
    nat_lt a registers && nat_lt 0 (unsigned_abs divisor)
is_good_step loops params registers (Min a b) = nat_lt a registers && nat_lt b registers
is_good_step loops params registers (Max a b) = nat_lt a registers && nat_lt b registers

-- so does each of these, where so many registers are there before the first
abbrev pub are_good_steps : ℕ → ℕ → ℕ → List Step → Bool
are_good_steps loops params registers [] = true
are_good_steps loops params registers (s ∷ rest) =
    is_good_step loops params registers s && are_good_steps loops params (registers + 1) rest

-- the register has the value of an expression whose loads are those from `at` on, of so many that were loaded
pub record HasValueOf (e : Expression) (at loads : ℕ) (steps : List Step) (register : ℕ) :
    Type 0 where
  pub inside : register < loads + length steps
  pub value : (loops params loaded : List ℤ) → length loaded ≡ loads
      → register_in (registers_after steps loops params loaded) register
      ≡ value_of e loops params (drop at loaded)

-- the steps grew to have the value of an expression in this register too
pub record Compiled (e : Expression) (at loads : ℕ) (old new : List Step) (register : ℕ) :
    Type 0 where
  pub added : List Step
  pub grew : new ≡ old ++ added
  pub has : HasValueOf e at loads new register
  pub good : (loops params : ℕ) → IsTrue (has_value loops params e)
      → IsTrue (are_good_steps loops params loads old)
      → IsTrue (are_good_steps loops params loads new)

-- the code of an expression: it is given as many loads, names nothing that isn't there where the expression has a value, and its result is that value
pub record IsCodeOf (e : Expression) (code : Code) : Type 0 where
  pub loads : code.loads ≡ length (loads_in e)
  pub inside : code.result < registers_of code
  pub good : (loops params : ℕ) → IsTrue (has_value loops params e)
      → IsTrue (are_good_steps loops params code.loads code.steps.items)
  pub value : (loops params loaded : List ℤ) → length loaded ≡ code.loads
      → register_in (registers_after code.steps.items loops params loaded) code.result
      ≡ value_of e loops params loaded
