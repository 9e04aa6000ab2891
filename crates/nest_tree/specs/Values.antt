-- Value arithmetic: whole numbers of 64 bits in two's complement.
use Rattle.std.specs.Prelude.{ℤ, ◌≡◌, pos, negsuc, ◌+ℤ◌, int_div, refl}
use Rattle.std.specs.Int.{int_wrap, w64}

-- the value that a whole number has in 64 bits: it, reduced modulo 2 ^ 64 to the range from - 2 ^ 63 to 2 ^ 63 - 1
abbrev pub wrapped : ℤ → ℤ
wrapped z = int_wrap w64 z

-- a quotient, truncated toward zero (ANSI X3.9-1978, 6.1.5), so that - 2 ^ 63 divided by - 1 is itself
abbrev pub quotient : ℤ → ℤ → ℤ
quotient a b = wrapped (int_div a b)

-- 9223372036854775807 + 1 is the least value, which is its own negative
pub wrapped-past_the_end : wrapped (pos 9223372036854775807 +ℤ pos 1) ≡ negsuc 9223372036854775807
unfolding int_wrap
wrapped-past_the_end = refl

pub quotient-least : quotient (negsuc 9223372036854775807) (negsuc 0) ≡ negsuc 9223372036854775807
unfolding int_wrap
quotient-least = refl

-- -7 / 2 is -3
pub quotient-toward_zero : quotient (negsuc 6) (pos 2) ≡ negsuc 2
unfolding int_wrap
quotient-toward_zero = refl
