-- Words of 64 bits as sets of processors.
use Rattle.std.proofs.Common.{◌≡◌, ◌≢◌, ℕ, zero, suc, ◌+◌, ◌-◌, ◌*◌, ◌/◌, ◌%◌, ◌^◌, ◌<◌, ◌≤◌, min, max, Bool, true, false, ◌&&◌, ◌||◌, ◌==◌, not, cond, List, [], ◌∷◌, ◌++◌, length, refl, sym, ◌∙◌, ap, append-nil, inl, inr, w64, bit_and, arith}
use Rattle.std.specs.List.{filter, list_any, range_with_len}
use Rattle.std.specs.Int.{bit_at, trailing_zeros}
use Rattle.std.proofs.lemmas.Bool.{eq-eqb, ne_eqb, cases_eq, cases_lt}
use Rattle.std.proofs.lemmas.List.Elements.{filter-append}
use Rattle.std.proofs.lemmas.Nat.Bits.{bit_at-suc, bit_at-zero, bit_at_and, bit_at-pow_same, bit_at-pow_other, bit_at_ones, bit_at_not, bit_at_ones_above, bit_at_cat_low, bit_at_cat_high, bit_at_above, ones_shr, bit_at-trailing_zeros, bit_at_clear_same, bit_at_clear_other}
use Rattle.list_lemmas.proofs.Ranges.{range_split}
use Rattle.sync_plan.specs.ProcessorSets.{is_member, members}

-- two tests that agree on a range
pub filter_range : (f g : ℕ → Bool) (a n : ℕ) → ((q : ℕ) → a ≤ q → q < a + n → f q ≡ g q) → filter f (range_with_len a n) ≡ filter g (range_with_len a n)
filter_range f g a zero h = refl
filter_range f g a (suc n) h =
    let rest = filter_range f g (a + 1) n (λ q low high. h q (omega arith) (omega arith)) in
    let here : f a ≡ g a = h a (omega arith) (omega arith) in
    ap (λ b. cond b (a ∷ filter f (range_with_len (a + 1) n)) (filter f (range_with_len (a + 1) n))) here
    ∙ ap (λ xs. cond (g a) (a ∷ xs) xs) rest

pub filter_none : (f : ℕ → Bool) (a n : ℕ) → ((q : ℕ) → a ≤ q → q < a + n → f q ≡ false) → filter f (range_with_len a n) ≡ []
filter_none f a zero h = refl
filter_none f a (suc n) h =
    let rest = filter_none f (a + 1) n (λ q low high. h q (omega arith) (omega arith)) in
    let here : f a ≡ false = h a (omega arith) (omega arith) in
    ap (λ b. cond b (a ∷ filter f (range_with_len (a + 1) n)) (filter f (range_with_len (a + 1) n))) here ∙ rest

-- some number below n passes, or none does
pub any_from : (f : ℕ → Bool) (a n k : ℕ) → a ≤ k → k < a + n → f k ≡ true → list_any f (range_with_len a n) ≡ true
any_from f a zero k low high h = absurd (omega arith)
any_from f a (suc n) k low high h =
    elim (cases_eq a k) [
      | inl e ↦ ap (λ b. b || list_any f (range_with_len (a + 1) n)) (ap f e ∙ h)
      | inr ne ↦ or_true (f a) (list_any f (range_with_len (a + 1) n)) (any_from f (a + 1) n k (omega arith) (omega arith) h)
    ]
  where
    or_true : (x y : Bool) → y ≡ true → (x || y) ≡ true
    or_true true y e = refl
    or_true false y e = e

pub any_none : (f : ℕ → Bool) (a n : ℕ) → ((q : ℕ) → a ≤ q → q < a + n → f q ≡ false) → list_any f (range_with_len a n) ≡ false
any_none f a zero h = refl
any_none f a (suc n) h =
    ap (λ b. b || list_any f (range_with_len (a + 1) n)) (h a (omega arith) (omega arith))
    ∙ any_none f (a + 1) n (λ q low high. h q (omega arith) (omega arith))

-- the members of a word that has a test's bits below n, and none from n on
pub members_by : (word n : ℕ) (f : ℕ → Bool) → n ≤ 64 → ((q : ℕ) → q < n → is_member word q ≡ f q) → ((q : ℕ) → n ≤ q → q < 64 → is_member word q ≡ false) → members word ≡ filter f (range_with_len 0 n)
unfolding members
members_by word n f le inside outside =
    let all : 64 ≡ n + (64 - n) = omega arith in
    let from : 0 + n ≡ n = omega arith in
    let low = filter_range (is_member word) f 0 n (λ q a b. inside q (omega arith)) in
    let high = filter_none (is_member word) n (64 - n) (λ q a b. outside q a (omega arith)) in
    ap (λ k. filter (is_member word) (range_with_len 0 k)) all
    ∙ ap (filter (is_member word)) (range_split 0 n (64 - n) ∙ ap (λ k. range_with_len 0 n ++ range_with_len k (64 - n)) from)
    ∙ filter-append (is_member word) (range_with_len 0 n) (range_with_len n (64 - n))
    ∙ ap (λ rest. filter (is_member word) (range_with_len 0 n) ++ rest) high
    ∙ append-nil _
    ∙ low

eqb_sym : (a b : ℕ) → (a == b) ≡ (b == a)
eqb_sym a b = elim (cases_eq a b) [
  | inl e ↦ eq-eqb a b e ∙ sym (eq-eqb b a (sym e))
  | inr ne ↦ ne_eqb a b ne ∙ sym (ne_eqb b a (λ (e : b ≡ a). ne (sym e)))
]

-- a bit as a number
unfoldable pub digit : Bool → ℕ
digit b = cond b 1 0

pub bit_of_power : (k q : ℕ) → bit_at (2 ^ k) q ≡ digit (k == q)
unfolding digit
bit_of_power k q =
    elim (cases_eq k q) [
      | inl e ↦ ap (λ n. bit_at (2 ^ k) n) (sym e) ∙ bit_at-pow_same k ∙ ap (λ b. cond b 1 0) (sym (eq-eqb k q e))
      | inr ne ↦ bit_at-pow_other k q (λ e. ne (sym e)) ∙ ap (λ b. cond b 1 0) (sym (ne_eqb k q ne))
    ]

-- the low 64 bits of a number
pub bit_of_low : (x q : ℕ) → q < 64 → bit_at (x % 2 ^ 64) q ≡ bit_at x q
bit_of_low x q lt =
    let whole : x / 2 ^ 64 * 2 ^ 64 + x % 2 ^ 64 ≡ x = omega arith in
    sym (bit_at_cat_low (x / 2 ^ 64) 64 (x % 2 ^ 64) q lt) ∙ ap (λ y. bit_at y q) whole

-- the words that `waits` makes: 1 << k, and that shifted by one
pub bit_of_one : (k q : ℕ) → k < 64 → bit_at (1 * 2 ^ k % 2 ^ 64) q ≡ digit (k == q)
unfolding digit
bit_of_one k q within =
    let one : 1 * 2 ^ k ≡ 2 ^ k = omega arith in
    elim (cases_lt q 64) [
      | inl lt ↦ bit_of_low (1 * 2 ^ k) q lt ∙ ap (λ x. bit_at x q) one ∙ bit_of_power k q
      | inr ge ↦ let small : 1 * 2 ^ k % 2 ^ 64 < 2 ^ 64 = omega arith in let ne : k ≡ q → ⊥ = λ (e : k ≡ q). omega arith in
          bit_at_above (1 * 2 ^ k % 2 ^ 64) 64 q small ge ∙ ap (λ b. cond b 1 0) (sym (ne_eqb k q ne))
    ]

pub bit_of_lower : (k q : ℕ) → k < 64 → bit_at (1 * 2 ^ k % 2 ^ 64 / 2) q ≡ digit (q + 1 == k)
unfolding digit
bit_of_lower k q within =
    let next : suc q ≡ q + 1 = omega arith in
    sym (bit_at-suc (1 * 2 ^ k % 2 ^ 64) q) ∙ ap (bit_at (1 * 2 ^ k % 2 ^ 64)) next ∙ bit_of_one k (q + 1) within ∙ ap digit (eqb_sym k (q + 1))

pub bit_of_higher : (k q : ℕ) → q < 64 → k < 64 → bit_at (1 * 2 ^ k % 2 ^ 64 * 2 % 2 ^ 64) q ≡ digit (k + 1 == q)
unfolding digit
bit_of_higher k zero lt within =
    let y = 1 * 2 ^ k % 2 ^ 64 in
    let none : k + 1 ≡ 0 → ⊥ = λ (e : k + 1 ≡ 0). omega arith in
    let even : y * 2 ≡ y * 2 ^ 1 + 0 = omega arith in
    bit_of_low (y * 2) 0 lt ∙ ap (λ x. bit_at x 0) even ∙ bit_at_cat_low y 1 0 0 (omega arith) ∙ bit_at-zero 0 ∙ ap (λ b. cond b 1 0) (sym (ne_eqb (k + 1) 0 none))
bit_of_higher k (suc q) lt within =
    let y = 1 * 2 ^ k % 2 ^ 64 in
    let even : y * 2 ≡ y * 2 ^ 1 + 0 = omega arith in
    let less : suc q - 1 ≡ q = omega arith in
    bit_of_low (y * 2) (suc q) lt ∙ ap (λ x. bit_at x (suc q)) even ∙ bit_at_cat_high y 1 0 (suc q) (omega arith) (omega arith)
    ∙ ap (bit_at y) less ∙ bit_of_one k q within ∙ ap digit (same q)
  where
    same : (q : ℕ) → (k == q) ≡ (k + 1 == suc q)
    same q = elim (cases_eq k q) [
      | inl e ↦ eq-eqb k q e ∙ sym (eq-eqb (k + 1) (suc q) (omega arith))
      | inr ne ↦ ne_eqb k q ne ∙ sym (ne_eqb (k + 1) (suc q) (λ (e : k + 1 ≡ suc q). ne (omega arith)))
    ]

-- bits of truth values, together
pub max_digits : (a b : Bool) → max (digit a) (digit b) ≡ digit (a || b)
unfolding digit
max_digits true true = refl
max_digits true false = refl
max_digits false true = refl
max_digits false false = refl

masked : (a own : Bool) → (min (min (digit a) 1) (1 - digit own) == 1) ≡ (not own && a)
unfolding digit
masked true true = refl
masked true false = refl
masked false true = refl
masked false false = refl

outside : (n : ℕ) (own : Bool) → (min (min n 0) (1 - digit own) == 1) ≡ false
unfolding digit
outside n true = let e : min (min n 0) 0 ≡ 0 = omega arith in ap (λ k. k == 1) e
outside n false = let e : min (min n 0) 1 ≡ 0 = omega arith in ap (λ k. k == 1) e

-- the word of those below n that pass the test, but for p itself
pub members_masked : (awaited n p : ℕ) (f : ℕ → Bool) → n ≤ 64 → p < n → ((q : ℕ) → q < n → bit_at awaited q ≡ digit (f q)) →
    members (bit_and (bit_and awaited (18446744073709551615 / 2 ^ (64 - n))) (18446744073709551615 - 1 * 2 ^ p % 18446744073709551616))
    ≡ filter (λ q. not (p == q) && f q) (range_with_len 0 n)
members_masked awaited n p f le lt bits =
    let rest : 64 - (64 - n) ≡ n = omega arith in
    let ones : 18446744073709551615 / 2 ^ (64 - n) ≡ 2 ^ n - 1 = ones_shr 64 (64 - n) (omega arith) ∙ ap (λ k. 2 ^ k - 1) rest in
    let word = bit_and (bit_and awaited (18446744073709551615 / 2 ^ (64 - n))) (18446744073709551615 - 1 * 2 ^ p % 18446744073709551616) in
    let small : 1 * 2 ^ p % 2 ^ 64 < 2 ^ 64 = omega arith in
    let bit = λ (q : ℕ) (below : q < 64).
    bit_at_and (bit_and awaited (18446744073709551615 / 2 ^ (64 - n))) (18446744073709551615 - 1 * 2 ^ p % 18446744073709551616) q
    ∙ ap (λ b. min b (bit_at (18446744073709551615 - 1 * 2 ^ p % 18446744073709551616) q)) (bit_at_and awaited (18446744073709551615 / 2 ^ (64 - n)) q)
    ∙ ap (λ b. min (min (bit_at awaited q) (bit_at (18446744073709551615 / 2 ^ (64 - n)) q)) b) (bit_at_not w64 (1 * 2 ^ p % 2 ^ 64) q small below ∙ ap (λ b. 1 - b) (bit_of_one p q (omega arith)))
    ∙ ap (λ m. min (min (bit_at awaited q) (bit_at m q)) (1 - digit (p == q))) ones in
    members_by word n (λ q. not (p == q) && f q) le
    (λ q below. ap (λ b. b == 1) (bit q (omega arith)
    ∙ ap (λ b. min (min b (bit_at (2 ^ n - 1) q)) (1 - digit (p == q))) (bits q below)
    ∙ ap (λ b. min (min (digit (f q)) b) (1 - digit (p == q))) (bit_at_ones n q below)) ∙ masked (f q) (p == q))
    (λ q above below. ap (λ b. b == 1) (bit q below
    ∙ ap (λ b. min (min (bit_at awaited q) b) (1 - digit (p == q))) (bit_at_ones_above n q above)) ∙ outside (bit_at awaited q) (p == q))

pub members-zero : members 0 ≡ []
unfolding members
members-zero = filter_none (is_member 0) 0 64 (λ q low high. ap (λ b. b == 1) (bit_at-zero q))

-- the least member of a word, and the word without it
pub members_first : (word : ℕ) → 0 < word → word < 2 ^ 64 →
    members word ≡ trailing_zeros w64 word ∷ members (bit_and word (18446744073709551615 - 1 * 2 ^ trailing_zeros w64 word % 18446744073709551616))
unfolding members
members_first word some small =
    let first = trailing_zeros w64 word in
    let facts = bit_at-trailing_zeros w64 word some small in
    let rest = bit_and word (18446744073709551615 - 1 * 2 ^ first % 18446744073709551616) in
    let lt : first < 64 = facts.0 in
    let upper = 64 - (first + 1) in
    let all : 64 ≡ first + (1 + upper) = omega arith in
    let zero_first : 0 + first ≡ first = omega arith in
    let one_more : 1 + upper ≡ suc upper = omega arith in
    let split : range_with_len 0 64 ≡ range_with_len 0 first ++ (first ∷ range_with_len (first + 1) upper) =
    ap (range_with_len 0) all ∙ range_split 0 first (1 + upper) ∙ ap (λ k. range_with_len 0 first ++ range_with_len k (1 + upper)) zero_first ∙ ap (λ k. range_with_len 0 first ++ range_with_len first k) one_more in
    let below = filter_none (is_member word) 0 first (λ q low high. ap (λ b. b == 1) (facts.2 q (omega arith))) in
    let kept = λ (q : ℕ) (within : q < 64) (ne : q ≢ first). ap (λ b. b == 1) (bit_at_clear_other w64 word first lt q within ne) in
    let below_rest = filter_none (is_member rest) 0 first (λ q low high. kept q (omega arith) (λ (e : q ≡ first). omega arith) ∙ ap (λ b. b == 1) (facts.2 q (omega arith))) in
    let above = filter_range (is_member word) (is_member rest) (first + 1) upper (λ q low high. sym (kept q (omega arith) (λ (e : q ≡ first). omega arith))) in
    let here : is_member word first ≡ true = ap (λ b. b == 1) facts.1 in
    let gone : is_member rest first ≡ false = ap (λ b. b == 1) (bit_at_clear_same w64 word first lt) in
    let left : filter (is_member word) (range_with_len 0 64) ≡ first ∷ filter (is_member word) (range_with_len (first + 1) upper) =
    ap (filter (is_member word)) split ∙ filter-append (is_member word) (range_with_len 0 first) (first ∷ range_with_len (first + 1) upper)
    ∙ ap (λ xs. xs ++ filter (is_member word) (first ∷ range_with_len (first + 1) upper)) below
    ∙ ap (λ b. cond b (first ∷ filter (is_member word) (range_with_len (first + 1) upper)) (filter (is_member word) (range_with_len (first + 1) upper))) here in
    let right : filter (is_member rest) (range_with_len 0 64) ≡ filter (is_member rest) (range_with_len (first + 1) upper) =
    ap (filter (is_member rest)) split ∙ filter-append (is_member rest) (range_with_len 0 first) (first ∷ range_with_len (first + 1) upper)
    ∙ ap (λ xs. xs ++ filter (is_member rest) (first ∷ range_with_len (first + 1) upper)) below_rest
    ∙ ap (λ b. cond b (first ∷ filter (is_member rest) (range_with_len (first + 1) upper)) (filter (is_member rest) (range_with_len (first + 1) upper))) gone in
    left ∙ ap (λ xs. first ∷ xs) (above ∙ sym right)

-- a word with a first member: it is not 0, and this is its lowest bit
pub record First (word first : ℕ) (later : List ℕ) : Type 0 where
  pub some : 0 < word
  pub below : first < 64
  pub lowest : trailing_zeros w64 word ≡ first
  pub rest : members (bit_and word (18446744073709551615 - 1 * 2 ^ first % 18446744073709551616)) ≡ later

pub first_of_members : (word first : ℕ) (later : List ℕ) → word < 2 ^ 64 → members word ≡ first ∷ later → First word first later
first_of_members word first later small is =
    let some : 0 < word = elim (cases_eq word 0) [
      | inl e ↦ let no : [] ≡ first ∷ later = sym members-zero ∙ sym (ap members e) ∙ is in absurd (cc)
      | inr ne ↦ omega arith
    ] in
    let whole = sym (members_first word some small) ∙ is in
    let lowest : trailing_zeros w64 word ≡ first = cc in
    let behind : members (bit_and word (18446744073709551615 - 1 * 2 ^ trailing_zeros w64 word % 18446744073709551616)) ≡ later = cc in
    let facts = bit_at-trailing_zeros w64 word some small in
    let below : trailing_zeros w64 word < 64 = facts.0 in
    record {
      some = some;
      below = omega (arith, below, lowest);
      lowest = lowest;
      rest = ap (λ k. members (bit_and word (18446744073709551615 - 1 * 2 ^ k % 18446744073709551616))) (sym lowest) ∙ behind;
    }

pub some_members : (word : ℕ) → word ≢ 0 → word < 2 ^ 64 → length (members word) ≡ 0 → ⊥
some_members word ne small empty =
    let some : 0 < word = omega arith in
    let longer = ap length (members_first word some small) in
    omega (arith, longer)

pub empty_members : (word : ℕ) → word < 2 ^ 64 → (length (members word) == 0) ≡ (word == 0)
empty_members word small = elim (cases_eq word 0) [
  | inl e ↦ ap (λ w. length (members w) == 0) e ∙ ap (λ (xs : List ℕ). length xs == 0) members-zero ∙ sym (eq-eqb word 0 e)
  | inr ne ↦ ne_eqb (length (members word)) 0 (some_members word ne small) ∙ sym (ne_eqb word 0 ne)
]
