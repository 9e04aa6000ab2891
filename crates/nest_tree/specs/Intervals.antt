-- Intervals: from the least to the greatest value that a form or a DO variable can have.
use Rattle.std.specs.Prelude.{ℕ, ◌-◌, ℤ, pos, negsuc, ◌+ℤ◌, ◌*ℤ◌, int_le, List, [], ◌∷◌, slice_index_or, slice_set, if◌then◌else◌, ◌≡◌, refl}
use Rattle.nest_tree.specs.Form.{Form, dot}
use Rattle.nest_tree.specs.Tree.{Head}

-- the interval of the loop with this number, from 1
abbrev pub ends_of : List (ℤ × ℤ) → ℕ → ℤ × ℤ
ends_of ends n = slice_index_or ends (n - 1) (pos 0, pos 0)

-- the sums of the ends
abbrev pub plus : ℤ × ℤ → ℤ × ℤ → ℤ × ℤ
plus (low, high) (low', high') = (low +ℤ low', high +ℤ high')

-- a multiple of an interval: a negative coefficient turns it round
abbrev pub multiple : ℤ → ℤ × ℤ → ℤ × ℤ
multiple c (low, high) = if int_le (pos 0) c then (c *ℤ low, c *ℤ high) else (c *ℤ high, c *ℤ low)

-- coefficients times intervals
abbrev pub dot_ends : List (ℕ × ℤ) → List (ℤ × ℤ) → ℤ × ℤ
dot_ends [] ends = (pos 0, pos 0)
dot_ends ((n, c) ∷ pairs) ends = plus (multiple c (ends_of ends n)) (dot_ends pairs ends)

-- the interval of a form, where the loops have these intervals and the named constants these values, by number
abbrev pub form_interval : Form → List (ℤ × ℤ) → List ℤ → ℤ × ℤ
form_interval f ends params =
    let fixed = f.constant +ℤ dot f.params params in
    plus (fixed, fixed) (dot_ends f.loops ends)

-- the interval of a loop: from the least first value to the greatest last one, by the sign of the step
abbrev pub head_interval : List ℤ → List (ℤ × ℤ) → Head → ℤ × ℤ
head_interval params ends head =
    let first = form_interval head.m1 ends params in
    let last = form_interval head.m2 ends params in
    if int_le (pos 0) head.step then (first.0, last.1) else (last.0, first.1)

-- the intervals of the loops, where the loop with this number now has this one
abbrev pub with_ends : List (ℤ × ℤ) → ℕ → ℤ × ℤ → List (ℤ × ℤ)
with_ends ends n interval = slice_set ends (n - 1) interval

-- 10 - 2 * L1 with L1 from 1 to 4 lies from 2 to 8
pub form_interval-example : form_interval
    (record { constant = pos 10; loops = (1, negsuc 1) ∷ []; params = [] }) ((pos 1, pos 4) ∷ []) []
    ≡ (pos 2, pos 8)
form_interval-example = refl
