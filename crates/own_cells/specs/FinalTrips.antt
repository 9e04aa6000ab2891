-- The last trip of a loop, by the value that would come behind it.
use Rattle.std.specs.Prelude.{ℤ, pos, negsuc, ◌+ℤ◌, Bool, int_lt, List, if◌then◌else◌, ◌≡◌, true, false, refl}
use Rattle.nest_tree.specs.Form.{form_value, numbered}
use Rattle.nest_tree.specs.Tree.{Head}
use Rattle.nest_tree.specs.Values.{wrapped}

-- a value with one step more is past the last one
abbrev pub is_past : ℤ → ℤ → ℤ → Bool
is_past value step last =
    if int_lt (pos 0) step then int_lt last (value +ℤ step) else int_lt (value +ℤ step) last

-- a loop that is in a trip, where the loops have these values, has no trip behind that one
abbrev pub is_final : List ℤ → Head → List ℤ → Bool
is_final params head loops =
    is_past (numbered loops head.number) head.step (wrapped (form_value head.m2 loops params))

-- DO 10 I = 1, 6, 2: only 5 is the last trip's value
pub is_past-last : is_past (pos 5) (pos 2) (pos 6) ≡ true
is_past-last = refl

pub is_past-earlier : is_past (pos 3) (pos 2) (pos 6) ≡ false
is_past-earlier = refl

pub is_past-down : is_past (pos 2) (negsuc 1) (pos 1) ≡ true
is_past-down = refl
