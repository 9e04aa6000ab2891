-- Labels, digit by digit.
use Rattle.std.proofs.Common.{◌≡◌, ℕ, ◌+◌, ◌-◌, ◌*◌, ◌^◌, ◌<◌, ◌≤◌, ◌≢◌, get_or, drop, length, drop-cons, add-one, Bool, true, false, not, List, [], ◌∷◌, Some, None, refl, arith, cond, ◌||◌, ap, sym, ◌∙◌, Option, ltb}
use Rattle.std.specs.Prelude.{filter}
use Rattle.std.specs.Bool.{then_some}
use Rattle.std.specs.Char.{is_ascii_digit}
use Rattle.std.proofs.Math.Nat.{pow-succ'}
use Rattle.std.proofs.lemmas.List.{drop_all}
use Rattle.f77_lines.specs.Columns.{is_blank}
use Rattle.f77_lines.specs.Texts.{label_with}
use Rattle.f77_lines.specs.Walk.{label_behind}

-- the digits of a field
abbrev pub digits_of : List ℕ → List ℕ
digits_of field = filter (λ c. not (is_blank c)) field

pub digits_of-blank : (field : List ℕ) (i : ℕ) → i < length field → get_or field i 0 ≡ 32 → digits_of (drop i field) ≡ digits_of (drop (i + 1) field)
digits_of-blank field i h e = rw (add-one, drop-cons field i 0 h, e) refl

pub digits_of-other : (field : List ℕ) (i : ℕ) → i < length field → get_or field i 0 ≢ 32 → digits_of (drop i field) ≡ get_or field i 0 ∷ digits_of (drop (i + 1) field)
digits_of-other field i h e =
    let other : is_blank (get_or field i 0) ≡ false = grind arith in
    rw (add-one, drop-cons field i 0 h, other) refl

pub label_behind-start : (digits : List ℕ) → label_behind 0 true digits ≡ label_with digits
unfolding label_behind
label_behind-start [] = refl
label_behind-start (d ∷ ds) = refl

pub label_behind-end : (front : ℕ) (blank : Bool) → label_behind front blank [] ≡ then_some (blank || ltb 0 front) front
unfolding label_behind
label_behind-end front true = refl
label_behind-end front false = by_case (ltb 0 front)
  where
    by_case : (t : Bool) → cond t (Some front) None ≡ then_some t front
    by_case true = refl
    by_case false = refl

pub label_behind-digit : (front : ℕ) (blank : Bool) (d : ℕ) (ds : List ℕ) → is_ascii_digit d ≡ true → label_behind front blank (d ∷ ds) ≡ label_behind (10 * front + (d - 48)) false ds
unfolding label_behind
label_behind-digit front blank d [] h = rw h refl
label_behind-digit front blank d (e ∷ ds) h = rw h refl

pub label_behind-other : (front : ℕ) (blank : Bool) (d : ℕ) (ds : List ℕ) → is_ascii_digit d ≡ false → label_behind front blank (d ∷ ds) ≡ None
unfolding label_behind
label_behind-other front blank d ds h = rw h refl

-- one more character of a field
module _ (field : List ℕ) (i front : ℕ) (blank : Bool) (all : Option ℕ) (here : i < length field) (so_far : label_behind front blank (digits_of (drop i field)) ≡ all) where
  pub label-blank : get_or field i 0 ≡ 32 → label_behind front blank (digits_of (drop (i + 1) field)) ≡ all
  label-blank e = ap (label_behind front blank) (sym (digits_of-blank field i here e)) ∙ so_far

  pub label-digit : get_or field i 0 ≢ 32 → is_ascii_digit (get_or field i 0) ≡ true → label_behind (10 * front + (get_or field i 0 - 48)) false (digits_of (drop (i + 1) field)) ≡ all
  label-digit e digit = sym (label_behind-digit front blank (get_or field i 0) (digits_of (drop (i + 1) field)) digit) ∙ ap (label_behind front blank) (sym (digits_of-other field i here e)) ∙ so_far

  pub label-other : get_or field i 0 ≢ 32 → is_ascii_digit (get_or field i 0) ≡ false → None ≡ all
  label-other e digit = sym (label_behind-other front blank (get_or field i 0) (digits_of (drop (i + 1) field)) digit) ∙ ap (label_behind front blank) (sym (digits_of-other field i here e)) ∙ so_far

-- at the end of a field
pub label-ended : (field : List ℕ) (i front : ℕ) (blank : Bool) (all : Option ℕ) (some : Bool) → length field ≤ i → label_behind front blank (digits_of (drop i field)) ≡ all → some ≡ (blank || ltb 0 front) → then_some some front ≡ all
label-ended field i front blank all some end so_far e =
    ap (λ (b : Bool). then_some b front) e ∙ sym (label_behind-end front blank) ∙ ap (λ (ds : List ℕ). label_behind front blank (digits_of ds)) (sym (drop_all i field end)) ∙ so_far

-- one more digit is one more power of ten
pub ten_to-next : (i label next : ℕ) → label + 1 ≤ 10 ^ i → next ≤ 10 * label + 9 → next + 1 ≤ 10 ^ (i + 1)
ten_to-next i label next h k =
    let power : 10 ^ (i + 1) ≡ 10 * 10 ^ i = ap (λ n. 10 ^ n) (add-one i) ∙ pow-succ' 10 i in
    omega arith
