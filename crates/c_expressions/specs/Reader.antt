-- A reader of expressions, byte by byte: what is still open stands on a stack, and each operator first closes what binds tighter.
use Rattle.std.specs.Prelude.{ℕ, ◌==◌, Bool, true, false, List, [], ◌∷◌, ◌++◌, Option, Some, None, if◌then◌else◌, codes}
use Rattle.std.specs.Str.{bytes_eq}
use Rattle.std.specs.Str.Parse.{digits_value}
use Rattle.c_expressions.specs.CExpressions.{CExpression, constant, identifier, element, call, as_number, minus, times, plus, less, CArguments, only, first_of}
use Rattle.c_expressions.specs.Grammar.{is_letter, is_name_byte}

-- what stands in front of an operand: a minus, or a cast to a number
pub data Prefix : Type 0 where
  sign : Prefix
  taken_back : Prefix

-- within one pair of brackets: what a sum or a difference has on its left, a product on its left, and what stands in front, the last first
pub record Level : Type 0 where
  pub sums : Option (CExpression × Bool)
  pub product : Option CExpression
  pub prefixes : List Prefix

-- what is open around: parentheses, a call with its arguments so far, or a subscript
pub data Bracket : Type 0 where
  round : Bracket
  called : List ℕ → List CExpression → Bracket
  at : List ℕ → Bracket

-- the operand at hand: none, a word so far, or a whole one
pub data Current : Type 0 where
  nothing : Current
  word : List ℕ → Current
  whole : CExpression → Current

-- where the next byte stands: anywhere, behind a blank, behind the sign of a sum or a difference, or behind a comma
pub data Mode : Type 0 where
  plain : Mode
  blank : Mode
  signed : Bool → Mode
  comma : Mode

pub record State : Type 0 where
  pub outer : List (Bracket × Level)
  pub level : Level
  pub current : Current
  pub mode : Mode

abbrev pub fresh : Level
fresh = record { sums = None; product = None; prefixes = [] }

abbrev pub atom : List ℕ → CExpression
atom [] = constant 0
atom (b ∷ bytes) =
    if is_letter b then identifier (b ∷ bytes) else constant (digits_value 10 (b ∷ bytes))

abbrev pub value_of : Current → CExpression
value_of nothing = constant 0
value_of (word bytes) = atom bytes
value_of (whole a) = a

abbrev pub prefixed : List Prefix → CExpression → CExpression
prefixed [] a = a
prefixed (sign ∷ prefixes) a = prefixed prefixes (minus a)
prefixed (taken_back ∷ prefixes) a = prefixed prefixes (as_number a)

abbrev pub product_with : Option CExpression → CExpression → CExpression
product_with None b = b
product_with (Some a) b = times a b

abbrev pub sum_with : Option (CExpression × Bool) → CExpression → CExpression
sum_with None b = b
sum_with (Some (a, true)) b = plus a b
sum_with (Some (a, false)) b = less a b

abbrev pub product_of : Level → Current → CExpression
product_of level c = product_with level.product (prefixed level.prefixes (value_of c))

abbrev pub sum_of : Level → Current → CExpression
sum_of level c = sum_with level.sums (product_of level c)

abbrev pub arguments_of : List CExpression → CExpression → CArguments
arguments_of [] last = only last
arguments_of (a ∷ more) last = first_of a (arguments_of more last)

abbrev pub extended : Current → ℕ → Current
extended nothing b = word (b ∷ [])
extended (word bytes) b = word (bytes ++ b ∷ [])
extended (whole a) b = whole a

-- a bracket is opened, behind a word or not
abbrev pub opened : List (Bracket × Level) → Level → Current → State
opened outer level nothing =
    record { outer = (round, level) ∷ outer; level = fresh; current = nothing; mode = plain }
opened outer level (word bytes) = record {
  outer = (called bytes [], level) ∷ outer;
  level = fresh;
  current = nothing;
  mode = plain;
}
opened outer level (whole a) =
    record { outer = outer; level = level; current = whole a; mode = plain }

abbrev pub word_in : Current → List ℕ
word_in nothing = []
word_in (word bytes) = bytes
word_in (whole a) = []

-- the name of the type that a cast has
abbrev pub is_type : CExpression → Bool
is_type (identifier name) = bytes_eq name (codes "number")
is_type a = false

abbrev pub closed : List (Bracket × Level) → CExpression → State
closed [] a = record { outer = []; level = fresh; current = whole a; mode = plain }
closed ((round, level) ∷ outer) a =
    if is_type a
    then record {
      outer = outer;
      level = record level
          { prefixes = taken_back ∷ level.prefixes };
      current = nothing;
      mode = plain;
    }
    else record { outer = outer; level = level; current = whole a; mode = plain }
closed ((called function arguments, level) ∷ outer) a = record {
  outer = outer;
  level = level;
  current = whole (call function (arguments_of arguments a));
  mode = plain;
}
closed ((at array, level) ∷ outer) a =
    record { outer = outer; level = level; current = whole (element array a); mode = plain }

abbrev pub with_argument : List (Bracket × Level) → CExpression → List (Bracket × Level)
with_argument [] a = []
with_argument ((called function arguments, level) ∷ outer) a =
    (called function (arguments ++ a ∷ []), level) ∷ outer
with_argument ((round, level) ∷ outer) a = (round, level) ∷ outer
with_argument ((at array, level) ∷ outer) a = (at array, level) ∷ outer

-- what a byte is: one of a name or a number, or one of the others
pub data Class : Type 0 where
  of_word : Class
  opening : Class
  closing : Class
  bracket : Class
  star : Class
  dash : Class
  separator : Class
  space : Class

abbrev pub other_class : ℕ → Class
other_class b =
    if b == 40
    then opening
    else if b == 41
    then closing
    else if b == 91
    then bracket
    else if b == 93
    then closing
    else if b == 42 then star else if b == 45 then dash else if b == 44 then separator else space

abbrev pub class_of : ℕ → Class
class_of b = if is_name_byte b then of_word else other_class b

abbrev pub anywhere : Class → State → ℕ → State
anywhere of_word s b = record s { current = extended s.current b }
anywhere opening s b = opened s.outer s.level s.current
anywhere closing s b = closed s.outer (sum_of s.level s.current)
anywhere bracket s b = record {
  outer = (at (word_in s.current), s.level) ∷ s.outer;
  level = fresh;
  current = nothing;
  mode = plain;
}
anywhere star s b = record {
  outer = s.outer;
  level = record {
    sums = s.level.sums;
    product = Some (product_of s.level s.current);
    prefixes = [];
  };
  current = nothing;
  mode = plain;
}
anywhere dash s b = record {
  outer = s.outer;
  level = record {
    sums = s.level.sums;
    product = s.level.product;
    prefixes = sign ∷ s.level.prefixes;
  };
  current = s.current;
  mode = plain;
}
anywhere separator s b = record {
  outer = with_argument s.outer (sum_of s.level s.current);
  level = fresh;
  current = nothing;
  mode = comma;
}
anywhere space s b = record s { mode = blank }

abbrev pub step_in : Mode → State → ℕ → State
step_in plain s b = anywhere (class_of b) s b
step_in blank s b = record s { mode = signed (b == 43) }
step_in (signed is_sum) s b = record {
  outer = s.outer;
  level = record {
    sums = Some (sum_of s.level s.current, is_sum);
    product = None;
    prefixes = [];
  };
  current = nothing;
  mode = plain;
}
step_in comma s b = record s { mode = plain }

abbrev pub run : List ℕ → State → State
run [] s = s
run (b ∷ bytes) s = run bytes (step_in s.mode s b)

-- what bytes read as
abbrev pub read : List ℕ → CExpression
read bytes =
    let s = run bytes (record { outer = []; level = fresh; current = nothing; mode = plain }) in
    sum_of s.level s.current
