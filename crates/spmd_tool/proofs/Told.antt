-- What is told of the bytes of a source.
use Rattle.std.proofs.Common.{◌≡◌, ℕ, ◌≤◌, List, [], ◌++◌, Option, Some, None, length, sym, ap, subst, ◌∙◌, refl, append-nil, arith}
use Rattle.std.proofs.lemmas.List.{length-append}
use Rattle.std.specs.Io.KnownBytes.{Consumes, IsAtEnd}
use Rattle.whole_streams.specs.Streams.{WhereTold, AreTold, TakesBytes}

-- some bytes are those of a source
pub some_told : (told : Option (List ℕ)) → (bytes : List ℕ) × AreTold told bytes
some_told None = ([], tt)
some_told (Some those) = (those, refl)

-- what was read up to the end is what was there
all_told : (old new : Option (List ℕ)) (bytes : List ℕ) → Consumes old new bytes → IsAtEnd new → AreTold old bytes
all_told None new bytes p q = tt
all_told (Some xs) None bytes p q = absurd p
all_told (Some xs) (Some ys) bytes p q = sym (p ∙ ap (λ l. bytes ++ l) q ∙ append-nil bytes)

-- the same for equal bytes
pub read_told : (old new : Option (List ℕ)) (bytes those : List ℕ) → Consumes old new bytes → IsAtEnd new → those ≡ bytes → AreTold old those
read_told old new bytes those p q e = subst (AreTold old) (sym e) (all_told old new bytes p q)

-- where so many bytes were taken, at least so many were there
pub taken_told : (old new : Option (List ℕ)) (n : ℕ) → TakesBytes old new n → (all : List ℕ) × AreTold old all × (n ≤ length all)
taken_told None new n h = (h.0, tt, omega (arith, h.2))
taken_told (Some xs) None n h = absurd h.1
taken_told (Some xs) (Some ys) n h =
    let long : n ≤ length xs = omega (arith, ap length h.1, length-append h.0 ys, h.2) in
    (xs, refl, long)

-- what holds of these bytes holds where they are told
pub at_told : (told : Option (List ℕ)) (bytes : List ℕ) (P : List ℕ → Type 0) → AreTold told bytes → P bytes → WhereTold told P
at_told None bytes P e p = tt
at_told (Some those) bytes P e p = subst P e p
