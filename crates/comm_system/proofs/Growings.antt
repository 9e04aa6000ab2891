-- Constraints behind a system that grows, and the columns that it keeps.
use Rattle.std.proofs.Common.{◌≡◌, ℕ, zero, suc, ◌+◌, ◌-◌, ◌<◌, ◌≤◌, ℤ, true, false, List, [], ◌∷◌, ◌++◌, append_assoc, length, get_or, drop, inl, inr, refl, ap, sym, ◌∙◌, subst, arith}
use Rattle.std.specs.Prelude.{◌==◌, ◌||◌}
use Rattle.std.specs.List.{range_with_len}
use Rattle.std.proofs.lemmas.Bool.{cases_lt, eqb-true, false≢true, false_from_ne_true, ne_eqb, or_cases, or_left, or_right}
use Rattle.std.proofs.lemmas.List.{append-nil}
use Rattle.farkas_cert.specs.Inequalities.{Inequalities}
use Rattle.presolve.specs.Columns.{AreRising, is_kept}
use Rattle.presolve.specs.Presolution.{IsPresolved, Presolution}
use Rattle.presolve.proofs.Columns.{not_before}
use Rattle.owner_partition.specs.declared.anchor.Dist.{Dist}
use Rattle.owner_partition.specs.declared.anchor.Dist.TheVariants.{Block, Cyclic}
use Rattle.nest_rows.specs.declared.constraint.Constraint.{Constraint}
use Rattle.nest_rows.specs.declared.constraint.Sign.{Sign}
use Rattle.nest_systems.specs.Growing.{Growing}
use Rattle.nest_systems.specs.Kept.{NamesKept}
use Rattle.nest_systems.proofs.GrowingParts.{columns-left}
use Rattle.nest_systems.proofs.KeptConstants.{kept-range, rising-few}
use Rattle.comm_system.specs.OwnerRows.{Placed, owner_numbers, owner_unknowns, owners_unknowns}
use Rattle.comm_system.specs.PairRows.{apart}
use Rattle.comm_system.specs.Owned.{HasOwners}
use Rattle.comm_system.specs.SystemViews.{grown}

-- ---- constraints behind

pub grown-none : (g : Growing) → g ≡ grown [] g
grown-none g = let of : List Constraint → Growing = λ cs. record { shared = g.shared; last = cs; columns = g.columns } in ap of (sym (append-nil g.last))

pub grown-both : (xs ys : List Constraint) (g : Growing) → grown ys (grown xs g) ≡ grown (xs ++ ys) g
grown-both xs ys g = let of : List Constraint → Growing = λ cs. record { shared = g.shared; last = cs; columns = g.columns } in ap of (append_assoc g.last xs ys)

pub grown-more : (xs ys : List Constraint) (old middle new : Growing) → middle ≡ grown xs old → new ≡ grown ys middle → new ≡ grown (xs ++ ys) old
grown-more xs ys old middle new first second = second ∙ ap (grown ys) first ∙ grown-both xs ys old

-- what is left of all constraints behind those that stand already
pub record AreBehind (all : List Constraint) (old new : Growing) (left : List Constraint) : Type 0 where
  pub done : List Constraint
  pub has : new ≡ grown done old
  pub whole : done ++ left ≡ all

pub behind-none : (all : List Constraint) (g : Growing) → AreBehind all g g all
behind-none all g = record { done = []; has = grown-none g; whole = refl }

pub behind-more : (all : List Constraint) (old middle new : Growing) (left xs rest : List Constraint) → AreBehind all old middle left → left ≡ xs ++ rest → new ≡ grown xs middle → AreBehind all old new rest
behind-more all old middle new left xs rest h is more = record {
  done = h.done ++ xs;
  has = grown-more h.done xs old middle new h.has more;
  whole = append_assoc h.done xs rest ∙ ap (λ cs. h.done ++ cs) (sym is) ∙ h.whole;
}

pub behind-all : (all : List Constraint) (old new : Growing) (left : List Constraint) → AreBehind all old new left → left ≡ [] → new ≡ grown all old
behind-all all old new left h none = h.has ∙ ap (λ cs. grown cs old) (sym (append-nil h.done) ∙ ap (λ cs. h.done ++ cs) (sym none) ∙ h.whole)

-- ---- columns

-- those of some of the owners
pub has-some : (owners some : List ℕ) (g : Growing) → ((n : ℕ) → is_kept some n ≡ true → is_kept owners n ≡ true) → HasOwners owners g → HasOwners some g
has-some owners some g within h k lt kept = h k lt (within (k + 1) kept)

at-kept : (xs : List ℕ) (i n : ℕ) → i < length xs → is_kept (get_or xs i 0 ∷ []) n ≡ true → is_kept xs n ≡ true
at-kept [] i n lt h = absurd (omega arith)
at-kept (x ∷ xs) zero n lt h = elim (or_cases (x == n) false h) [
  | inl same ↦ or_left (x == n) (is_kept xs n) same
  | inr fails ↦ absurd (cc)
]
at-kept (x ∷ xs) (suc i) n lt h = or_right (x == n) (is_kept xs n) (at-kept xs i n (omega (arith, lt)) h)

pub has-at : (owners : List ℕ) (i : ℕ) (g : Growing) → i < length owners → HasOwners owners g → HasOwners (get_or owners i 0 ∷ []) g
has-at owners i g lt h = has-some owners (get_or owners i 0 ∷ []) g (λ n kept. at-kept owners i n lt kept) h

drop-kept : (i : ℕ) (xs : List ℕ) (n : ℕ) → is_kept (drop i xs) n ≡ true → is_kept xs n ≡ true
drop-kept zero xs n h = h
drop-kept (suc i) [] n h = absurd (cc)
drop-kept (suc i) (x ∷ xs) n h = or_right (x == n) (is_kept xs n) (drop-kept i xs n h)

pub has-behind : (i : ℕ) (owners : List ℕ) (g : Growing) → HasOwners owners g → HasOwners (drop i owners) g
has-behind i owners g h = has-some owners (drop i owners) g (λ n kept. drop-kept i owners n kept) h

-- what stands behind changes no column
pub has-grown : (owners : List ℕ) (more : List Constraint) (old new : Growing) → new ≡ grown more old → HasOwners owners old → HasOwners owners new
has-grown owners more old new is h = subst (HasOwners owners) (sym is) h

-- a difference of two unknowns names them alone
pub apart-named : (g : Growing) (c : Constraint) (sign : Sign) (m n : ℕ) (most : ℤ) → c ≡ apart sign m n most → HasOwners (m ∷ []) g → HasOwners (n ∷ []) g → NamesKept g.shared.vars g.columns c
apart-named g c sign m n most is first second =
    let named : NamesKept g.shared.vars g.columns (apart sign m n most) = λ k lt out. false_from_ne_true (is_kept (m ∷ n ∷ []) (k + 1)) (λ holds. elim (or_cases (m == k + 1) (is_kept (n ∷ []) (k + 1)) holds) [
      | inl same ↦ false≢true (sym out ∙ first k lt (or_left (m == k + 1) false same))
      | inr later ↦ false≢true (sym out ∙ second k lt later)
    ]) in
    subst (NamesKept g.shared.vars g.columns) (sym is) named

-- ---- the owners' unknowns

unknowns-some : (d : Dist) → 1 ≤ owner_unknowns d
unknowns-some (Block b) = omega arith
unknowns-some Cyclic = omega arith

pub numbers-within : (q : ℕ) (ps : List Placed) (n : ℕ) → is_kept (owner_numbers q ps) n ≡ true → (q ≤ n) × (n < q + owners_unknowns ps)
numbers-within q [] n h = absurd (cc)
numbers-within q (p ∷ ps) n h = elim (or_cases (q == n) (is_kept (owner_numbers (q + owner_unknowns p.anchor.dist) ps) n) h) [
  | inl same ↦
      let e = eqb-true q n same in
      let some = unknowns-some p.anchor.dist in
      (omega (arith, e), omega (arith, e, some))
  | inr later ↦
      let more = numbers-within (q + owner_unknowns p.anchor.dist) ps n later in
      let low = more.0 in
      let high = more.1 in
      (omega (arith, low), omega (arith, high))
]

pub numbers-owned : (q : ℕ) (ps : List Placed) (n : ℕ) → is_kept (owner_numbers q ps) n ≡ true → is_kept (range_with_len q (owners_unknowns ps)) n ≡ true
numbers-owned q ps n h = let within = numbers-within q ps n h in kept-range q (owners_unknowns ps) n within.0 within.1

-- ---- how many columns there are at least

behind-first : (j : ℕ) (columns : List ℕ) (k : ℕ) → j < k → is_kept (j ∷ columns) k ≡ true → is_kept columns k ≡ true
behind-first j columns k lt h = sym (ap (λ b. b || is_kept columns k) (ne_eqb j k (λ e. omega (arith, e, lt)))) ∙ h

pub kept-count : (from low n vars : ℕ) (columns : List ℕ) → AreRising from vars columns → ((k : ℕ) → low ≤ k → k < low + n → is_kept columns k ≡ true) → n ≤ length columns
kept-count from low zero vars columns rising all = omega arith
kept-count from low (suc n) vars [] rising all = absurd (let no : false ≡ true = all low (omega arith) (omega arith) in false≢true no)
kept-count from low (suc n) vars (j ∷ columns) rising all = elim (cases_lt low j) [
  | inl before ↦ absurd (false≢true (sym (ap (λ b. b || is_kept columns low) (ne_eqb j low (λ e. omega (arith, e, before))) ∙ not_before (j + 1) vars columns low rising.2 (omega (arith, before))) ∙ all low (omega arith) (omega arith)))
  | inr le ↦
      let more = kept-count (j + 1) (low + 1) n vars columns rising.2 (λ k above under. behind-first j columns k (omega (arith, le, above)) (all k (omega (arith, above)) (omega (arith, under)))) in
      omega (arith, more)
]

-- there is one for each of the last unknowns, from this number on
pub owned-count : (whole : Inequalities) (p : Presolution) (wanted : List ℕ) (q n : ℕ) → IsPresolved whole p → 1 ≤ q → whole.vars ≡ q + n - 1 → wanted ≡ range_with_len q n → ((k : ℕ) → k < whole.vars → is_kept wanted (k + 1) ≡ true → is_kept p.columns k ≡ true) → n ≤ length p.columns
owned-count whole p wanted q n is some vars all kept =
    kept-count 0 (q - 1) n whole.vars p.columns is.all.rising
    (λ k low high. kept k (omega (arith, vars, some, low, high)) (ap (λ xs. is_kept xs (k + 1)) all ∙ kept-range q n (k + 1) (omega (arith, some, low)) (omega (arith, some, low, high))))

-- and no more than unknowns
pub left-few : (whole : Inequalities) (p : Presolution) (most : ℕ) → IsPresolved whole p → whole.vars < most → p.system.vars < most
left-few whole p most is few =
    let long = columns-left whole p is in
    let within = rising-few 0 whole.vars p.columns (omega arith) is.all.rising in
    omega (arith, long, within, few)
