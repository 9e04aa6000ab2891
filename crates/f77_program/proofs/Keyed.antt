-- Short names by their keys.
use Rattle.std.proofs.Common.{◌≡◌, ◌≢◌, ℕ, zero, suc, ◌*◌, ◌≤◌, ◌<◌, nat_lt, nat_le, Bool, true, false, [], ◌∷◌, length, drop, if◌then◌else◌, Option, Some, None, refl, sym, ap, ◌∙◌, arith}
use Rattle.std.proofs.lemmas.Bool.{and_parts}
use Rattle.std.proofs.lemmas.Bool.Decides.{nat_tests}
use Rattle.std.proofs.lemmas.Map.Lookups.{exact_unsigned}
use Rattle.std.specs.BTreeMap.{BTreeMap, get}
use Rattle.std.specs.Global.{Vec}
use Rattle.std.specs.List.{list_all}
use Rattle.std.specs.Option.{option_or}
use Rattle.std.specs.Ordering.{nat_cmp, is_eq}
use Rattle.std.specs.Str.{bytes_eq}
use Rattle.std.specs.declared.cmp.Ordering.{Ordering}
use Rattle.std.specs.declared.cmp.Ordering.TheVariants.{Less, Equal, Greater}
use Rattle.f77_forms.proofs.Told.{same_bytes}
use Rattle.f77_scene.specs.Scene.{Name}
use Rattle.f77_program.specs.Numbered.{is_short, key_of, number_apart}
use Rattle.f77_program.proofs.Mapped.{differ, without}

-- ---- keys

abbrev pub are_low : Name → Bool
are_low n = list_all (λ c. nat_lt c 128) n

below : (a b : ℕ) → nat_lt a b ≡ true → a < b
below a b h = grind (arith, nat_tests)

key_positive : (n : Name) → 1 ≤ key_of n
key_positive [] = omega arith
key_positive (c ∷ n) = omega (arith, key_positive n)

-- two names with one key are one
same_from_key : (m n : Name) → are_low m ≡ true → are_low n ≡ true → key_of m ≡ key_of n → m ≡ n
same_from_key [] [] g h e = refl
same_from_key [] (d ∷ n) g h e = absurd (omega (arith, e, key_positive n))
same_from_key (c ∷ m) [] g h e = absurd (omega (arith, e, key_positive m))
same_from_key (c ∷ m) (d ∷ n) g h e =
    let f = and_parts (nat_lt c 128) (are_low m) g in
    let k = and_parts (nat_lt d 128) (are_low n) h in
    let first : c ≡ d = omega (arith, e, below c 128 f.0, below d 128 k.0) in
    let rest : key_of m ≡ key_of n = omega (arith, e, below c 128 f.0, below d 128 k.0) in
    ap (λ x. x ∷ m) first ∙ ap (λ xs. d ∷ xs) (same_from_key m n f.1 k.1 rest)

pub low_drop : (k : ℕ) (n : Name) → are_low n ≡ true → are_low (drop k n) ≡ true
low_drop zero n h = h
low_drop (suc k) [] h = h
low_drop (suc k) (c ∷ n) h = low_drop k n (and_parts (nat_lt c 128) (are_low n) h).1

-- the keys of names of so many characters are below this
abbrev pub room : ℕ → ℕ
room zero = 2
room (suc k) = room k * 128

pub key_below : (k : ℕ) (n : Name) → are_low n ≡ true → length n ≤ k → key_of n < room k
key_below zero [] h l = omega arith
key_below zero (c ∷ n) h l = absurd (omega (arith, l))
key_below (suc k) [] h l = (let rest = key_below k [] refl (omega arith) in omega (arith, rest))
key_below (suc k) (c ∷ n) h l =
    let f = and_parts (nat_lt c 128) (are_low n) h in
    let rest = key_below k n f.1 (omega (arith, l)) in
    omega (arith, rest, below c 128 f.0)

key_test : (n q : Name) → are_low n ≡ true → are_low q ≡ true → is_eq (nat_cmp (key_of n) (key_of q)) ≡ bytes_eq q n
key_test n q g h = by_test (bytes_eq q n) refl
  where
    itself : (k : ℕ) → is_eq (nat_cmp k k) ≡ true
    itself k = grind (arith, nat_tests)

    by_order : (o : Ordering) → nat_cmp (key_of n) (key_of q) ≡ o → bytes_eq q n ≡ false → is_eq o ≡ false
    by_order Less c e = refl
    by_order Equal c e = absurd (differ q n e (sym (same_from_key n q g h (exact_unsigned (key_of n) (key_of q) c))))
    by_order Greater c e = refl

    by_test : (b : Bool) → bytes_eq q n ≡ b → is_eq (nat_cmp (key_of n) (key_of q)) ≡ b
    by_test true e = ap (λ m. is_eq (nat_cmp (key_of n) (key_of m))) (same_bytes q n e) ∙ itself (key_of n)
    by_test false e = by_order (nat_cmp (key_of n) (key_of q)) refl e

-- ---- one more number

abbrev under : BTreeMap ℕ ℕ → BTreeMap (Vec ℕ) ℕ → Name → Option ℕ
under short others n = if is_short n then get nat_cmp short (key_of n) else number_apart others n

pub low_short : (n : Name) → is_short n ≡ true → are_low n ≡ true
low_short n h = (and_parts (nat_le (length n) 18) (are_low n) h).1

pub few_short : (n : Name) → is_short n ≡ true → length n ≤ 18
few_short n h = (let few : nat_le (length n) 18 ≡ true = (and_parts (nat_le (length n) 18) (are_low n) h).0 in grind (arith, nat_tests))

-- a short name is no other
apart : (q n : Name) (s t : Bool) → is_short q ≡ s → is_short n ≡ t → s ≢ t → bytes_eq q n ≡ false
apart q n s t f g ne = by_test (bytes_eq q n) refl
  where
    by_test : (b : Bool) → bytes_eq q n ≡ b → b ≡ false
    by_test true e = absurd (ne (sym f ∙ ap is_short (same_bytes q n e) ∙ g))
    by_test false e = refl

pub short_more : (old new : BTreeMap ℕ ℕ) (others : BTreeMap (Vec ℕ) ℕ) (n : Name) (k : ℕ) → is_short n ≡ true
    → ((key : ℕ) → get nat_cmp new key ≡ option_or (get nat_cmp old key) (if is_eq (nat_cmp (key_of n) key) then Some k else None))
    → (q : Name) → under new others q ≡ option_or (under old others q) (if bytes_eq q n then Some k else None)
short_more old new others n k h made q = by_short (is_short q) refl
  where
    by_short : (s : Bool) → is_short q ≡ s → under new others q ≡ option_or (under old others q) (if bytes_eq q n then Some k else None)
    by_short true e =
        rw e (made (key_of q) ∙ ap (λ b. option_or (get nat_cmp old (key_of q)) (if b then Some k else None)) (key_test n q (low_short n h) (low_short q e)))
    by_short false e = rw e (rw (apart q n false true e h (λ z. cc)) (without (number_apart others q)))
