-- Who posts at a kind, and the bits of those whom a processor awaits there, kind by kind.
use Rattle.std.proofs.Common.{◌≡◌, ℕ, zero, suc, min, ◌+◌, ◌-◌, ◌*◌, ◌/◌, ◌%◌, ◌^◌, ◌<◌, ◌≤◌, Bool, true, false, ◌&&◌, ◌||◌, ◌==◌, not, nat_lt, List, [], ◌∷◌, refl, sym, ◌∙◌, ap, inl, inr, bit_and, bit_or, max, arith}
use Rattle.std.specs.List.{list_any, range_with_len}
use Rattle.std.specs.Int.{bit_at}
use Rattle.std.proofs.lemmas.Bool.{eq-eqb, ne_eqb, cases_lt, lt-ltb, le-ltb, and_right}
use Rattle.std.proofs.lemmas.Nat.Bits.{bit_at_or, bit_at-zero, bit_at_ones}
use Rattle.list_lemmas.proofs.Tests.{or_left_true, or_right_true}
use Rattle.owner_partition.specs.declared.anchor.Anchor.{Anchor}
use Rattle.sync_plan.specs.declared.plan.Kind.{Kind}
use Rattle.sync_plan.specs.declared.plan.Kind.TheVariants.{Nothing, Producer, Left, Right, Both, Barrier, Join}
use Rattle.sync_plan.specs.Waits.{waits_at, does_wait_at, is_awaited_at, awaited_at}
use Rattle.sync_plan.specs.ProcessorSets.{members}
use Rattle.sync_plan.proofs.ProcessorSets.{any_from, any_none, filter_range, members_masked, digit, bit_of_lower, bit_of_higher, max_digits}

passes : (p q : ℕ) (b : Bool) → (p ≡ q → ⊥) → b ≡ true → (not (p == q) && b) ≡ true
passes p q b ne h = ap (λ x. not x && b) (ne_eqb p q ne) ∙ h

pub awaited-nothing : (owner workers q : ℕ) → is_awaited_at Nothing owner workers q ≡ false
awaited-nothing owner workers q = any_none _ 0 workers (λ p low high. and_right (not (p == q)) false refl)

pub awaited-left : (owner workers q : ℕ) → is_awaited_at Left owner workers q ≡ nat_lt (q + 1) workers
awaited-left owner workers q = elim (cases_lt (q + 1) workers) [
  | inl lt ↦ any_from _ 0 workers (q + 1) (omega arith) (omega arith) (passes (q + 1) q (q + 1 == q + 1) (λ (e : q + 1 ≡ q). omega arith) (eq-eqb (q + 1) (q + 1) refl)) ∙ sym (lt-ltb (q + 1) workers lt)
  | inr ge ↦ any_none _ 0 workers (λ p low high. and_right (not (p == q)) (q + 1 == p) (ne_eqb (q + 1) p (λ (e : q + 1 ≡ p). omega arith))) ∙ sym (le-ltb (q + 1) workers ge)
]

pub awaited-right : (owner workers q : ℕ) → q < workers → is_awaited_at Right owner workers q ≡ nat_lt 0 q
awaited-right owner workers zero lt = any_none _ 0 workers (λ p low high. and_right (not (p == 0)) (p + 1 == 0) (ne_eqb (p + 1) 0 (λ (e : p + 1 ≡ 0). omega arith))) ∙ sym (le-ltb 0 0 (omega arith))
awaited-right owner workers (suc q) lt =
    any_from _ 0 workers q (omega arith) (omega arith) (passes q (suc q) (q + 1 == suc q) (λ (e : q ≡ suc q). omega arith) (eq-eqb (q + 1) (suc q) (omega arith))) ∙ sym (lt-ltb 0 (suc q) (omega arith))

-- all await q where there is another processor
one_other : (f : ℕ → ℕ → Bool) (workers q : ℕ) → q < workers → ((p : ℕ) → p ≡ q + 1 → f p q ≡ true) → ((p : ℕ) → q ≡ p + 1 → f p q ≡ true) →
    list_any (λ p. not (p == q) && f p q) (range_with_len 0 workers) ≡ nat_lt 1 workers
one_other f workers zero lt above below = elim (cases_lt 1 workers) [
  | inl more ↦ any_from _ 0 workers 1 (omega arith) (omega arith) (passes 1 0 (f 1 0) (λ (e : 1 ≡ 0). omega arith) (above 1 (omega arith))) ∙ sym (lt-ltb 1 workers more)
  | inr one ↦ any_none _ 0 workers (λ p low high. ap (λ x. not x && f p 0) (eq-eqb p 0 (omega arith))) ∙ sym (le-ltb 1 workers one)
]
one_other f workers (suc q) lt above below =
    any_from _ 0 workers q (omega arith) (omega arith) (passes q (suc q) (f q (suc q)) (λ (e : q ≡ suc q). omega arith) (below q (omega arith))) ∙ sym (lt-ltb 1 workers (omega arith))

pub awaited-both : (owner workers q : ℕ) → q < workers → is_awaited_at Both owner workers q ≡ nat_lt 1 workers
awaited-both owner workers q lt =
    one_other (λ p q. q + 1 == p || p + 1 == q) workers q lt
    (λ p e. or_left_true (q + 1 == p) (p + 1 == q) (eq-eqb (q + 1) p (sym e)))
    (λ p e. or_right_true (q + 1 == p) (p + 1 == q) (eq-eqb (p + 1) q (sym e)))

pub awaited-barrier : (owner workers q : ℕ) → q < workers → is_awaited_at Barrier owner workers q ≡ nat_lt 1 workers
awaited-barrier owner workers q lt = one_other (λ p q. true) workers q lt (λ p e. refl) (λ p e. refl)

pub awaited-join : (owner workers q : ℕ) → q < workers → is_awaited_at Join owner workers q ≡ nat_lt 1 workers
awaited-join owner workers q lt = one_other (λ p q. true) workers q lt (λ p e. refl) (λ p e. refl)

pub awaited-owner : (a : Anchor) (owner workers q : ℕ) → q < workers → owner ≡ q → is_awaited_at (Producer a) owner workers q ≡ nat_lt 1 workers
awaited-owner a owner workers q lt is = one_other (λ p q. owner == q) workers q lt (λ p e. eq-eqb _ q is) (λ p e. eq-eqb _ q is)

pub awaited-other : (a : Anchor) (owner workers q : ℕ) → (owner ≡ q → ⊥) → is_awaited_at (Producer a) owner workers q ≡ false
awaited-other a owner workers q isnt = any_none _ 0 workers (λ p low high. and_right (not (p == q)) (owner == q) (ne_eqb _ q isnt))

-- the word of whom p waits for, from a word with the right bits below the number of workers
pub awaited_by : (kind : Kind) (owner workers p others : ℕ) → workers ≤ 64 → p < workers → ((q : ℕ) → q < workers → bit_at others q ≡ digit (waits_at kind owner p q)) →
    members (bit_and (bit_and others (18446744073709551615 / 2 ^ (64 - workers))) (18446744073709551615 - 1 * 2 ^ p % 18446744073709551616)) ≡ awaited_at kind owner workers p
awaited_by kind owner workers p others le within bits = members_masked others workers p (waits_at kind owner p) le within bits

-- the bits of each kind's word
pub bits-nothing : (q : ℕ) → bit_at 0 q ≡ digit false
unfolding digit
bits-nothing q = bit_at-zero q

pub bits-all : (q : ℕ) → q < 64 → bit_at 18446744073709551615 q ≡ digit true
unfolding digit
bits-all q lt = bit_at_ones 64 q lt

pub bits-both : (p q : ℕ) → p < 64 → q < 64 → bit_at (bit_or (1 * 2 ^ p % 18446744073709551616 / 2) (1 * 2 ^ p % 18446744073709551616 * 2 % 18446744073709551616)) q ≡ digit (q + 1 == p || p + 1 == q)
bits-both p q pl ql =
    bit_at_or (1 * 2 ^ p % 18446744073709551616 / 2) (1 * 2 ^ p % 18446744073709551616 * 2 % 18446744073709551616) q
    ∙ ap (λ b. max b (bit_at (1 * 2 ^ p % 18446744073709551616 * 2 % 18446744073709551616) q)) (bit_of_lower p q pl)
    ∙ ap (λ b. max (digit (q + 1 == p)) b) (bit_of_higher p q ql pl)
    ∙ max_digits (q + 1 == p) (p + 1 == q)

-- an owner past the workers may stand for any other one past them
capped : (owner workers q : ℕ) → q < workers → (min owner workers == q) ≡ (owner == q)
capped owner workers q lt = elim (cases_lt owner workers) [
  | inl low ↦ let e : min owner workers ≡ owner = omega arith in ap (λ o. o == q) e
  | inr high ↦ ne_eqb (min owner workers) q (λ e. omega arith) ∙ sym (ne_eqb owner q (λ e. omega arith))
]

same_waits : (kind : Kind) (owner workers p q : ℕ) → q < workers → waits_at kind (min owner workers) p q ≡ waits_at kind owner p q
same_waits Nothing owner workers p q lt = refl
same_waits (Producer a) owner workers p q lt = capped owner workers q lt
same_waits Left owner workers p q lt = refl
same_waits Right owner workers p q lt = refl
same_waits Both owner workers p q lt = refl
same_waits Barrier owner workers p q lt = refl
same_waits Join owner workers p q lt = refl

pub awaited-capped : (kind : Kind) (owner workers p : ℕ) → awaited_at kind (min owner workers) workers p ≡ awaited_at kind owner workers p
awaited-capped kind owner workers p =
    filter_range (does_wait_at kind (min owner workers) p) (does_wait_at kind owner p) 0 workers (λ q low high. ap (λ b. not (p == q) && b) (same_waits kind owner workers p q (omega arith)))

pub is_awaited-capped : (kind : Kind) (owner workers q : ℕ) → q < workers → is_awaited_at kind (min owner workers) workers q ≡ is_awaited_at kind owner workers q
is_awaited-capped kind owner workers q lt = any_same (range_with_len 0 workers)
  where
    any_same : (ps : List ℕ) → list_any (λ p. does_wait_at kind (min owner workers) p q) ps ≡ list_any (λ p. does_wait_at kind owner p q) ps
    any_same [] = refl
    any_same (p ∷ ps) =
        ap (λ b. not (p == q) && b || list_any (λ r. does_wait_at kind (min owner workers) r q) ps) (same_waits kind owner workers p q lt)
        ∙ ap (λ b. does_wait_at kind owner p q || b) (any_same ps)
