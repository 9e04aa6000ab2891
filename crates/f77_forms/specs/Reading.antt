-- Reading a text from left to right, character by character, as the private functions do it: one fold, over a state that holds the enclosing parentheses. The laws of proofs/ tie this to the texts of forms.
use Rattle.std.specs.Prelude.{ℕ, ◌+◌, ◌-◌, ◌*◌, ◌==◌, Bool, true, false, ◌&&◌, ◌||◌, not, nat_lt, nat_le, if◌then◌else◌, List, [], ◌∷◌, ◌++◌, length, Option, Some, None, option_and_then, is_some, Result, Ok, Err, ◌≡◌}
use Rattle.f77_forms.specs.declared.fault.Fault.{Fault}
use Rattle.f77_forms.specs.declared.fault.Fault.TheVariants.{Memory, NoForm}
use Rattle.f77_forms.specs.declared.form.Sign.{Sign}
use Rattle.f77_forms.specs.declared.form.Sign.TheVariants.{Plus, Minus}
use Rattle.f77_forms.specs.declared.form.Operator.{Operator}
use Rattle.f77_forms.specs.declared.form.Operator.TheVariants.{Add, Subtract, Multiply, Divide}
use Rattle.f77_forms.specs.Characters.{is_digit, is_capital_or_digit, is_name, is_number}
use Rattle.f77_forms.specs.Form.{ExpressionForm, number, name, call, parenthesized, signed, binary, arguments_in, BoundForm, DeclaratorForm, PrintedForm, value, constant}

infixl 10 ◌>>=◌
abbrev pub ◌>>=◌ : {A B : Type 0} → Option A → (A → Option B) → Option B
o >>= f = option_and_then f o

-- a fault comes where reading gives nothing, or memory ran out
abbrev pub Fails : {Y : Type 0} → Fault → Option Y → Type 0
Fails Memory read = Unit {0}
Fails NoForm read = read ≡ None

-- What a function returned, seen by view, is what reading gives, unless memory ran out.
abbrev pub Gives : {X Y : Type 0} → (X → Y) → Result X Fault → Option Y → Type 0
Gives view (Ok x) read = read ≡ Some (view x)
Gives view (Err e) read = Fails e read

-- what failed did so for want of memory
abbrev pub FailsForMemory : {X : Type 0} → Result X Fault → Type 0
FailsForMemory (Ok x) = Unit {0}
FailsForMemory (Err Memory) = Unit {0}
FailsForMemory (Err NoForm) = ⊥

-- ---- words

-- digits that stand for at most 9223372036854775807, behind digits that stand for `front`
unfoldable pub number_from : ℕ → List ℕ → Bool
number_from front [] = true
number_from front (d ∷ ds) = is_digit d && nat_le (10 * front + (d - 48)) 9223372036854775807
    && number_from (10 * front + (d - 48)) ds

-- the number that a word is
abbrev pub number_at : List ℕ → Option (List ℕ)
number_at word = if is_number word then Some word else None

-- the name or the number that a word is
unfoldable pub word_value : List ℕ → Option ExpressionForm
word_value word =
    if is_name word then Some (name word) else (if is_number word then Some (number word) else None)

-- ---- the state

-- what waits in front of an operand: nothing, a leading sign, or a left operand and its operator
pub data PendingForm : Type 0 where
  nothing : PendingForm
  lead : (sign : Sign) → PendingForm
  left : (e : ExpressionForm) (op : Operator) → PendingForm

-- a piece of a statement: an expression or a constant, or a declarator with bounds
pub data ItemForm : Type 0 where
  printed : (p : PrintedForm) → ItemForm
  declared : (d : DeclaratorForm) → ItemForm

-- a piece behind its separator
pub record PieceForm : Type 0 where
  pub separator : ℕ
  pub item : ItemForm

-- where an expression stands: among the pieces of a statement, in parentheses, among arguments, or among bounds
pub data OpenerForm : Type 0 where
  pieces : (declares : Bool) (front : List PieceForm) (separator : ℕ) → OpenerForm
  group : OpenerForm
  arguments : (n : List ℕ) (front : List ExpressionForm) → OpenerForm
  bounds : (n : List ℕ) (front : List BoundForm) (lower : Option ExpressionForm) → OpenerForm

-- where an expression stands, and what waits for a term and for a factor
pub record LevelForm : Type 0 where
  pub opener : OpenerForm
  pub sum : PendingForm
  pub product : PendingForm

-- what was read behind the last operator or separator
pub data OperandForm : Type 0 where
  missing : OperandForm
  word : (w : List ℕ) → OperandForm
  whole : (e : ExpressionForm) → OperandForm
  declarator : (d : DeclaratorForm) → OperandForm
  quoted : (characters : List ℕ) → OperandForm
  closed : (characters : List ℕ) → OperandForm

-- the levels round the innermost, from the inside, the innermost level, and the operand
pub record StateForm : Type 0 where
  pub outer : List LevelForm
  pub level : LevelForm
  pub operand : OperandForm

-- ---- its parts

-- an operand behind what waits for it
unfoldable pub combined : PendingForm → ExpressionForm → ExpressionForm
combined nothing e = e
combined (lead sign) e = signed sign e
combined (left l op) e = binary op l e

-- the expression that an operand is
unfoldable pub operand_value : OperandForm → Option ExpressionForm
operand_value missing = None
operand_value (word w) = word_value w
operand_value (whole e) = Some e
operand_value (declarator d) = None
operand_value (quoted cs) = None
operand_value (closed cs) = None

-- the term that an operand ends
unfoldable pub term_value : PendingForm → OperandForm → Option ExpressionForm
term_value product operand = operand_value operand >>= λ e. Some (combined product e)

-- the expression that an operand ends
unfoldable pub sum_value : PendingForm → PendingForm → OperandForm → Option ExpressionForm
sum_value sum product operand = term_value product operand >>= λ e. Some (combined sum e)

abbrev pub is_nothing : PendingForm → Bool
is_nothing nothing = true
is_nothing (lead sign) = false
is_nothing (left e op) = false

abbrev pub is_missing : OperandForm → Bool
is_missing missing = true
is_missing (word w) = false
is_missing (whole e) = false
is_missing (declarator d) = false
is_missing (quoted cs) = false
is_missing (closed cs) = false

-- a level in which nothing waits
abbrev pub bare : OpenerForm → LevelForm
bare opener = record { opener = opener; sum = nothing; product = nothing }

-- the item that an operand ends
unfoldable pub item_value : PendingForm → PendingForm → OperandForm → Option ItemForm
item_value sum product missing = None
item_value sum product (word w) = sum_value sum product (word w) >>= λ e. Some (printed (value e))
item_value sum product (whole e) = sum_value sum product (whole e) >>= λ e. Some (printed (value e))
item_value sum product (declarator d) =
    if is_nothing sum && is_nothing product then Some (declared d) else None
item_value sum product (quoted cs) = None
item_value sum product (closed cs) = if is_nothing sum && is_nothing product && nat_lt 0 (length cs)
    then Some (printed (constant cs))
    else None

abbrev pub additive : Sign → Operator
additive Plus = Add
additive Minus = Subtract

-- ---- steps: what a character makes of a state

-- a sign: a leading one, or one behind a left operand
unfoldable pub pending_sum : PendingForm → PendingForm → OperandForm → Sign → Option PendingForm
pending_sum sum product operand sign =
    if is_missing operand
    then (if is_nothing sum && is_nothing product then Some (lead sign) else None)
    else (sum_value sum product operand >>= λ e. Some (left e (additive sign)))

unfoldable pub add_step : StateForm → Sign → Option StateForm
add_step s sign = pending_sum s.level.sum s.level.product s.operand sign >>= λ p.
    Some (record {
      outer = s.outer;
      level = record {
        opener = s.level.opener;
        sum = p;
        product = nothing;
      };
      operand = missing;
    })

unfoldable pub multiply_step : StateForm → Operator → Option StateForm
multiply_step s op = term_value s.level.product s.operand >>= λ e.
    Some (record {
      outer = s.outer;
      level = record {
        opener = s.level.opener;
        sum = s.level.sum;
        product = left e op;
      };
      operand = missing;
    })

-- what a parenthesis behind a name opens
unfoldable pub opened : OpenerForm → List ℕ → OpenerForm
opened (pieces true front separator) n = bounds n [] None
opened (pieces false front separator) n = arguments n []
opened group n = arguments n []
opened (arguments m front) n = arguments n []
opened (bounds m front lower) n = arguments n []

-- what a parenthesis behind an operand opens
unfoldable pub opener_at : OpenerForm → OperandForm → Option OpenerForm
opener_at outside missing = Some group
opener_at outside (word w) = if is_name w then Some (opened outside w) else None
opener_at outside (whole e) = None
opener_at outside (declarator d) = None
opener_at outside (quoted cs) = None
opener_at outside (closed cs) = None

unfoldable pub open_step : StateForm → Option StateForm
open_step s = opener_at s.level.opener s.operand >>= λ opener.
    Some (record { outer = s.level ∷ s.outer; level = bare opener; operand = missing })

-- `,`, `=`, `.` and `)`
unfoldable pub is_separator : ℕ → Bool
is_separator c = (c == 44) || (c == 61) || (c == 46) || (c == 41)

-- bounds behind one whose last expression this is, and behind its separator
unfoldable pub bounds_behind : List ℕ → List BoundForm → Option ExpressionForm → ExpressionForm → ℕ
    → Option OpenerForm
bounds_behind n front lower e c =
    if c == 44 then Some (bounds n (front ++ record { lower = lower; upper = e } ∷ []) None)
    else (if (c == 58) && not (is_some lower) then Some (bounds n front (Some e)) else None)

-- where what follows a separator stands
unfoldable pub opener_behind : OpenerForm → PendingForm → PendingForm → OperandForm → ℕ
    → Option OpenerForm
opener_behind (pieces declares front separator) sum product operand c =
    if is_separator c
    then (item_value sum product operand >>= λ i.
    Some (pieces declares (front ++ record { separator = separator; item = i } ∷ []) c))
    else None
opener_behind group sum product operand c = None
opener_behind (arguments n front) sum product operand c =
    if c == 44
    then (sum_value sum product operand >>= λ e. Some (arguments n (front ++ e ∷ [])))
    else None
opener_behind (bounds n front lower) sum product operand c =
    sum_value sum product operand >>= λ e. bounds_behind n front lower e c

unfoldable pub separate_step : StateForm → ℕ → Option StateForm
separate_step s c = opener_behind s.level.opener s.level.sum s.level.product s.operand c
    >>= λ opener. Some (record { outer = s.outer; level = bare opener; operand = missing })

-- the operand behind the parenthesis that ends a level
unfoldable pub enclosed : OpenerForm → ExpressionForm → OperandForm
enclosed (pieces declares front separator) e = missing
enclosed group e = whole (parenthesized e)
enclosed (arguments n front) e = whole (call n (arguments_in (front ++ e ∷ [])))
enclosed (bounds n front lower) e =
    declarator (record { name = n; bounds = front ++ record { lower = lower; upper = e } ∷ [] })

-- the state in the next outer level
unfoldable pub left_to : List LevelForm → OperandForm → Option StateForm
left_to [] operand = None
left_to (level ∷ outer) operand = Some (record { outer = outer; level = level; operand = operand })

abbrev pub is_outermost : OpenerForm → Bool
is_outermost (pieces declares front separator) = true
is_outermost group = false
is_outermost (arguments n front) = false
is_outermost (bounds n front lower) = false

unfoldable pub close_step : StateForm → Option StateForm
close_step s =
    if is_outermost s.level.opener then separate_step s 41
    else (sum_value s.level.sum s.level.product s.operand >>= λ e.
    left_to s.outer (enclosed s.level.opener e))

-- an apostrophe in front of a constant
unfoldable pub quote_step : StateForm → Option StateForm
quote_step s =
    if is_outermost s.level.opener && is_missing s.operand && is_nothing s.level.sum
    && is_nothing s.level.product
    then Some (record { outer = s.outer; level = s.level; operand = quoted [] }) else None

unfoldable pub symbol_step : StateForm → ℕ → Option StateForm
symbol_step s c =
    if c == 43 then add_step s Plus
    else (if c == 45 then add_step s Minus
    else (if c == 42 then multiply_step s Multiply
    else (if c == 47 then multiply_step s Divide
    else (if c == 40 then open_step s
    else (if c == 41 then close_step s
    else (if c == 39 then quote_step s
    else separate_step s c))))))

-- a capital or a digit
unfoldable pub letter_at : OperandForm → ℕ → Option OperandForm
letter_at missing c = Some (word (c ∷ []))
letter_at (word w) c = Some (word (w ++ c ∷ []))
letter_at (whole e) c = None
letter_at (declarator d) c = None
letter_at (quoted cs) c = None
letter_at (closed cs) c = None

unfoldable pub plain_step : StateForm → ℕ → Option StateForm
plain_step s c =
    if is_capital_or_digit c
    then (letter_at s.operand c >>= λ operand.
    Some (record { outer = s.outer; level = s.level; operand = operand }))
    else symbol_step s c

-- a character behind those of a constant, whose apostrophe may have ended it
abbrev pub quoted_at : List ℕ → ℕ → OperandForm
quoted_at cs c = if c == 39 then closed cs else quoted (cs ++ c ∷ [])

-- a character behind an operand that may be a constant
unfoldable pub step_at : OperandForm → StateForm → ℕ → Option StateForm
step_at (quoted cs) s c =
    Some (record { outer = s.outer; level = s.level; operand = quoted_at cs c })
step_at (closed cs) s c = if c == 39
    then Some (record { outer = s.outer; level = s.level; operand = quoted (cs ++ 39 ∷ []) })
    else plain_step s c
step_at missing s c = plain_step s c
step_at (word w) s c = plain_step s c
step_at (whole e) s c = plain_step s c
step_at (declarator d) s c = plain_step s c

unfoldable pub step : StateForm → ℕ → Option StateForm
step s c = step_at s.operand s c

-- ---- the fold

-- the pieces at the end of a text
unfoldable pub ended : List LevelForm → OpenerForm → Option ItemForm → Option (List PieceForm)
ended [] (pieces declares front separator) item =
    item >>= λ i. Some (front ++ record { separator = separator; item = i } ∷ [])
ended [] group item = None
ended [] (arguments n front) item = None
ended [] (bounds n front lower) item = None
ended (level ∷ outer) opener item = None

unfoldable pub finished : StateForm → Option (List PieceForm)
finished s = ended s.outer s.level.opener (item_value s.level.sum s.level.product s.operand)

-- the pieces that a text makes of a state
unfoldable pub run : StateForm → List ℕ → Option (List PieceForm)
run s [] = finished s
run s (c ∷ cs) = step s c >>= λ t. run t cs

-- the state in front of a text, where a comma is thought in front of the first piece
abbrev pub start : Bool → StateForm
start declares = record { outer = []; level = bare (pieces declares [] 44); operand = missing }

-- the pieces of a text
unfoldable pub pieces_at : Bool → List ℕ → Option (List PieceForm)
pieces_at declares text = run (start declares) text
