-- Values that an assignment to a scalar K may have in a loop that sums K up, and others. They are judged on the tree: parentheses that change nothing in it don't count.
use Rattle.std.specs.Prelude.{pos, [], ◌∷◌}
use Rattle.nest_tree.specs.Tree.{Expression, number, loop_value, load, neg, add, sub, mul}

-- the loop's value I, the element A(I) and the scalar K, variables 1 and 2
abbrev pub i : Expression
i = loop_value 1

abbrev pub element : Expression
element = load (record {
  variable = 1;
  subscripts = record {
    constant = pos 0;
    loops = (1, pos 1) ∷ [];
    params = [];
  } ∷ [];
})

abbrev pub k : Expression
k = load (record { variable = 2; subscripts = [] })

-- A(I) + K - 1
abbrev pub inside : Expression
inside = sub (add element k) (number (pos 1))

-- -A(I) + K
abbrev pub behind_sign : Expression
behind_sign = add (neg element) k

-- A(I) + (K - I)
abbrev pub at_right : Expression
at_right = add element (sub k i)

-- A(I) - K
abbrev pub subtracted : Expression
subtracted = sub element k

-- A(I) - (I - K)
abbrev pub subtracted_twice : Expression
subtracted_twice = sub element (sub i k)

-- A(I) + K + K
abbrev pub twice : Expression
twice = add (add element k) k

-- A(I) + K*1
abbrev pub multiplied : Expression
multiplied = add element (mul k (number (pos 1)))

-- -K + A(I)
abbrev pub with_sign : Expression
with_sign = add (neg k) element
