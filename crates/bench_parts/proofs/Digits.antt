-- Numbers read digit by digit.
use Rattle.std.proofs.Common.{◌≡◌, ℕ, ◌+◌, ◌-◌, ◌*◌, ◌<◌, true, false, List, [], ◌∷◌, length, Some, None, refl, ◌∙◌, ap, arith}
use Rattle.std.specs.Char.{is_ascii_digit}
use Rattle.std.specs.Prelude.{if◌then◌else◌}
use Rattle.std.proofs.Math.ListN.{get_or, drop}
use Rattle.std.proofs.lemmas.List.{drop_more}
use Rattle.std.proofs.lemmas.Bool.{lt-leb}
use Rattle.bench_parts.specs.Numbers.{digits_from, natural_of, within}

-- a word of one byte or more is read from 0 on
pub natural_of-some : (word : List ℕ) → 0 < length word → natural_of word ≡ digits_from 0 word
natural_of-some [] h = absurd (omega (arith, h))
natural_of-some (c ∷ cs) h = refl

-- no number behind one past the limit is within it
pub within-past : (limit n : ℕ) (cs : List ℕ) → limit < n → within limit (digits_from n cs) ≡ None
within-past limit n [] h = ap (λ b. if b then Some n else None) (lt-leb n limit h)
within-past limit n (c ∷ cs) h =
    elim (is_ascii_digit c) as (λ b. within limit (if b then digits_from (n * 10 + (c - 48)) cs else None) ≡ None)
    [ true ↦ within-past limit (n * 10 + (c - 48)) cs (omega (arith, h)) | false ↦ refl ]

-- nor where the next digit passes it
pub within-digit : (limit n : ℕ) (word : List ℕ) (i : ℕ) → i < length word → limit < n * 10 + (get_or word i 0 - 48) → natural_of word ≡ digits_from n (drop i word) → within limit (natural_of word) ≡ None
within-digit limit n word i below past e =
    let next : natural_of word ≡ digits_from n (get_or word i 0 ∷ drop (i + 1) word) = e ∙ ap (digits_from n) (drop_more word i 0 below) in
    ap (within limit) next ∙ (elim (is_ascii_digit (get_or word i 0)) as (λ b. within limit (if b then digits_from (n * 10 + (get_or word i 0 - 48)) (drop (i + 1) word) else None) ≡ None)
    [ true ↦ within-past limit (n * 10 + (get_or word i 0 - 48)) (drop (i + 1) word) past | false ↦ refl ])
