-- The value of one loop, from the loops round a place.
use Rattle.std.proofs.Common.{◌≡◌, ℕ, pos, ◌+ℤ◌, ◌*ℤ◌, true, nat_lt, List, [], ◌∷◌, refl, arith}
use Rattle.std.specs.List.{list_all}
use Rattle.std.proofs.lemmas.Int.{ints}
use Rattle.nest_tree.specs.Form.{Form, is_form, numbered}
use Rattle.nest_tree.specs.WellFormed.{is_number_of}
use Rattle.nest_walk.specs.Paths.{Round, by_number, value_among}
use Rattle.nest_walk.proofs.FormValues.{form_same}

-- the form that is a loop's value
one_loop : ℕ → Form
one_loop n = record { constant = pos 0; loops = (n, pos 1) ∷ []; params = [] }

one_is_form : (n : ℕ) → nat_lt 0 n ≡ true → is_form (one_loop n) ≡ true
unfolding one_loop
one_is_form n low = rw low refl

pub value_is : (count : ℕ) (rounds : List Round) (n : ℕ) → nat_lt 0 n ≡ true → list_all (λ (r : Round). is_number_of count r.number) rounds ≡ true → value_among rounds n ≡ numbered (by_number count rounds) n
unfolding one_loop
value_is count rounds n low all =
    let e : pos 0 +ℤ (pos 1 *ℤ value_among rounds n +ℤ pos 0) +ℤ pos 0 ≡ pos 0 +ℤ (pos 1 *ℤ numbered (by_number count rounds) n +ℤ pos 0) +ℤ pos 0 = form_same count rounds (one_loop n) [] all (one_is_form n low) in
    omega (arith, ints, e)
