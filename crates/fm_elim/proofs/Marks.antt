-- Rows that are marked as needed, in a walk back over derivations.
use Rattle.std.proofs.Common.{◌≡◌, ℕ, zero, suc, ◌+◌, ◌-◌, ◌≤◌, ◌<◌, ℤ, Bool, true, false, ◌⊎◌, inl, inr, ⊎_elim, Some, None, List, [], ◌∷◌, length, get_or, set, replicate, refl, ap, sym, ◌∙◌, subst, arith}
use Rattle.std.specs.List.{All, Any}
use Rattle.std.proofs.lemmas.List.{get_or-set_same, get_or_default, length-set, length-replicate, get_or-replicate}
use Rattle.std.proofs.lemmas.Bool.{both_ways}
use Rattle.std.proofs.lemmas.List.Elements.{All-head, All-tail, All-cons, All-nil, All-weaker}
use Rattle.std.specs.Prelude.{option_to_list}
use Rattle.elim_rows.specs.declared.derivation.Derivation.{Derivation}
use Rattle.elim_level.specs.Logs.{step_of}
use Rattle.fm_elim.specs.Lean.{Names, IsMarked, AreMarkedToo, AreNeeded}
use Rattle.elim_rows.proofs.Combined.{by_lt}

-- what holds of all terms holds of the first and of the second
pub at_first : (P : ℕ × ℤ → Type 0) (d : Derivation) → All P (step_of d).terms → P d.first
at_first P d all = All-head P d.first (option_to_list d.second) all

pub at_second : (P : ℕ × ℤ → Type 0) (d : Derivation) (t : ℕ × ℤ) → All P (step_of d).terms → d.second ≡ Some t → P t
at_second P d t all is =
    let rest : All P (option_to_list d.second) = All-tail P d.first (option_to_list d.second) all in
    let rest' : All P (option_to_list (Some t)) = subst (λ o. All P (option_to_list o)) is rest in
    All-head P t [] rest'

-- and the other way round
pub from_one : (P : ℕ × ℤ → Type 0) (d : Derivation) → P d.first → d.second ≡ None → All P (step_of d).terms
from_one P d p is = All-cons P d.first (option_to_list d.second) p (subst (λ o. All P (option_to_list o)) (sym is) (All-nil P))

pub from_two : (P : ℕ × ℤ → Type 0) (d : Derivation) (t : ℕ × ℤ) → P d.first → P t → d.second ≡ Some t → All P (step_of d).terms
from_two P d t p q is = All-cons P d.first (option_to_list d.second) p (subst (λ o. All P (option_to_list o)) (sym is) (All-cons P t [] q (All-nil P)))

-- one mark more
mark-keeps : (marks : List Bool) (j k : ℕ) → get_or marks k false ≡ true → get_or (set marks j true) k false ≡ true
mark-keeps [] j k h = h
mark-keeps (m ∷ marks) zero zero h = refl
mark-keeps (m ∷ marks) (suc j) zero h = h
mark-keeps (m ∷ marks) zero (suc k) h = h
mark-keeps (m ∷ marks) (suc j) (suc k) h = mark-keeps marks j k h

mark-only : (marks : List Bool) (j k : ℕ) → get_or (set marks j true) k false ≡ true → (get_or marks k false ≡ true) ⊎ (j ≡ k)
mark-only [] j k h = inl h
mark-only (m ∷ marks) zero zero h = inr refl
mark-only (m ∷ marks) (suc j) zero h = inl h
mark-only (m ∷ marks) zero (suc k) h = inl h
mark-only (m ∷ marks) (suc j) (suc k) h = ⊎_elim (λ a. inl a) (λ e. inr (ap suc e)) (mark-only marks j k h)

names_first : (d : Derivation) (n : ℕ) → d.first.0 ≡ n → Names (step_of d) n
names_first d n e = (0, d.first, omega arith, refl, e)

names_second : (d : Derivation) (t : ℕ × ℤ) (n : ℕ) → d.second ≡ Some t → t.0 ≡ n → Names (step_of d) n
names_second d t n is e =
    let two : Any (λ u. u.0 ≡ n) (d.first ∷ option_to_list (Some t)) = (1, t, omega arith, refl, e) in
    subst (λ o. Any (λ u. u.0 ≡ n) (d.first ∷ option_to_list o)) (sym is) two

-- the row of one term was marked
pub AreMarkedToo-one : (old : List Bool) (d : Derivation) → 1 ≤ d.first.0 → d.first.0 ≤ length old → d.second ≡ None → AreMarkedToo old (step_of d) (set old (d.first.0 - 1) true)
AreMarkedToo-one old d low high is = record {
  kept = λ n m. mark-keeps old (d.first.0 - 1) (n - 1) m;
  named = from_one (λ t. IsMarked (set old (d.first.0 - 1) true) t.0) d (get_or-set_same old (d.first.0 - 1) true false (omega arith)) is;
  only = λ n h m. ⊎_elim (λ a. inl a) (λ e. inr (names_first d n (omega arith))) (mark-only old (d.first.0 - 1) (n - 1) m);
}

-- and those of two
pub AreMarkedToo-two : (old : List Bool) (d : Derivation) (t : ℕ × ℤ) → 1 ≤ d.first.0 → d.first.0 ≤ length old → 1 ≤ t.0 → t.0 ≤ length old → d.second ≡ Some t → AreMarkedToo old (step_of d) (set (set old (d.first.0 - 1) true) (t.0 - 1) true)
AreMarkedToo-two old d t low high low2 high2 is =
    let mid = set old (d.first.0 - 1) true in
    let new = set mid (t.0 - 1) true in
    let same : length mid ≡ length old = length-set old (d.first.0 - 1) true in
    record {
      kept = λ n m. mark-keeps mid (t.0 - 1) (n - 1) (mark-keeps old (d.first.0 - 1) (n - 1) m);
      named = from_two (λ u. IsMarked new u.0) d t
          (mark-keeps mid (t.0 - 1) (d.first.0 - 1) (get_or-set_same old (d.first.0 - 1) true false (omega arith)))
          (get_or-set_same mid (t.0 - 1) true false (omega arith)) is;
      only = λ n h m. ⊎_elim
          (λ a. ⊎_elim (λ b. inl b) (λ e. inr (names_first d n (omega arith))) (mark-only old (d.first.0 - 1) (n - 1) a))
          (λ e. inr (names_second d t n is (omega arith))) (mark-only mid (t.0 - 1) (n - 1) m);
    }

-- the last row alone is marked
pub AreNeeded-start : (given : ℕ) (log : List Derivation) → 0 < length log → AreNeeded given log (length log) (set (replicate (given + length log) false) (given + length log - 1) true)
AreNeeded-start given log some =
    let none = replicate (given + length log) false in
    let size : length none ≡ given + length log = length-replicate (given + length log) false in
    record {
      whole = length-set none (given + length log - 1) true ∙ size;
      last = get_or-set_same none (given + length log - 1) true false (omega arith);
      named = λ k d low high m. absurd (omega arith);
      only = λ k d h m. absurd (⊎_elim {C = ⊥}
          (λ a. both_ways (get_or none (given + k + 1 - 1) false) (get_or-replicate (given + length log) (given + k + 1 - 1) false false (omega arith)) a)
          (λ e. omega arith) (mark-only none (given + length log - 1) (given + k + 1 - 1) m));
    }

-- a row that is named among rows up to a number
pub within_named : (m n : ℕ) (terms : List (ℕ × ℤ)) → All (λ t. (1 ≤ t.0) × (t.0 ≤ m)) terms → Any (λ t. t.0 ≡ n) terms → n ≤ m
within_named m n terms all any =
    let P : ℕ × ℤ → Type 0 = λ t. (1 ≤ t.0) × (t.0 ≤ m) in
    let at : P any.1 = subst P any.3 (all any.0 any.1 any.2) in
    omega (arith, at.1, any.4)

module _ (given : ℕ) (log : List Derivation) (place : ℕ) (old : List Bool) (needed : AreNeeded given log (place + 1) old) (within : place < length log) where
  -- a place that isn't marked
  pub AreNeeded-skip : (IsMarked old (given + place + 1) → ⊥) → AreNeeded given log place old
  AreNeeded-skip not = record {
    whole = needed.whole;
    last = needed.last;
    named = λ k d low high m. by_lt place k
        (λ above. needed.named k d (omega arith) high m)
        (λ here. let e : k ≡ place = omega arith in absurd (not (subst (λ i. IsMarked old (given + i + 1)) e m)));
    only = λ k d h m. let found = needed.only k d h m in (found.0, found.1, omega (arith, found.2), found.3, found.4, found.5);
  }

  -- a marked place, and what its derivation names
  pub AreNeeded-mark : (d : Derivation) (new : List Bool) → IsMarked old (given + place + 1) → All (λ t. (1 ≤ t.0) × (t.0 ≤ given + place)) (step_of (get_or log place d)).terms → length new ≡ length old → AreMarkedToo old (step_of (get_or log place d)) new → AreNeeded given log place new
  AreNeeded-mark d new marked earlier size too =
      let was : (number : ℕ) → given + place < number → IsMarked new number → IsMarked old number = λ number far m. ⊎_elim (λ a. a) (λ named. absurd (let le = within_named (given + place) number (step_of (get_or log place d)).terms earlier named in omega (arith, le, far))) (too.only number (omega arith) m) in
      record {
        whole = size ∙ needed.whole;
        last = too.kept (given + length log) needed.last;
        named = λ k e low high m. by_lt place k
            (λ above. All-weaker (λ t. IsMarked old t.0) (λ t. IsMarked new t.0) (λ t h. too.kept t.0 h) (step_of (get_or log k e)).terms (needed.named k e (omega arith) high (was (given + k + 1) (omega arith) m)))
            (λ here. let same : place ≡ k = omega arith in subst (λ x. All (λ t. IsMarked new t.0) (step_of x).terms) (get_or_default log place d e within ∙ ap (λ i. get_or log i e) same) too.named);
        only = λ k e h m. ⊎_elim
            (λ a. let found = needed.only k e h a in (found.0, found.1, omega (arith, found.2), found.3, too.kept (given + found.0 + 1) found.4, found.5))
            (λ named. let le = within_named (given + place) (given + k + 1) (step_of (get_or log place d)).terms earlier named in
            (place, omega (arith, le), omega arith, within, too.kept (given + place + 1) marked, subst (λ x. Names (step_of x) (given + k + 1)) (get_or_default log place d e within) named))
            (too.only (given + k + 1) (omega arith) m);
      }
