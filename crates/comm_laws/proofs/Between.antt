-- The certain boundaries of a slot stand between its instances, in order.
use Rattle.std.proofs.Common.{◌≡◌, ℕ, suc, ◌+◌, ◌-◌, ◌<◌, ◌≤◌, Bool, true, false, true≢false, Option, Some, None, List, [], ◌∷◌, ◌++◌, if◌then◌else◌, refl, ap, sym, ◌∙◌, arith}
use Rattle.std.specs.Prelude.{sum_by}
use Rattle.std.specs.List.{AllByRecursion, slice_get}
use Rattle.std.proofs.lemmas.List.Sums.{sum_by-cons}
use Rattle.nest_tree.specs.Tree.{Head}
use Rattle.nest_rows.proofs.Nesting.{all-append, all-weaker}
use Rattle.conflict_rules.specs.Boundaries.{Boundary, Side, boundaries_where, of_first, of_second}
use Rattle.conflict_rules.specs.References.{StaticPhase}

-- ---- the boundaries that pass a test

-- in front of a static phase, from the one with this number on, that passes the test
pub record IsWhere (test : ℕ → List Head → Bool) (side : Side) (u : ℕ) (phases : List StaticPhase) (b : Boundary) : Type 0 where
  pub phase : StaticPhase
  pub low : u ≤ b.phase
  pub at : slice_get phases (b.phase - u) ≡ Some phase
  pub passes : test b.phase phase.outer ≡ true
  pub side_is : b.side ≡ side

-- their numbers rise
abbrev pub AreRising : ℕ → List Boundary → Type 0
AreRising u [] = Unit {0}
AreRising u (b ∷ bs) = (u ≤ b.phase) × AreRising (suc b.phase) bs

rising_lower : (u w : ℕ) (bs : List Boundary) → w ≤ u → AreRising u bs → AreRising w bs
rising_lower u w [] le r = tt
rising_lower u w (b ∷ bs) le r = (omega (arith, le, r.0), r.1)

where_later : (test : ℕ → List Head → Bool) (side : Side) (u : ℕ) (p : StaticPhase) (phases : List StaticPhase) (b : Boundary) → IsWhere test side (suc u) phases b → IsWhere test side u (p ∷ phases) b
where_later test side u p phases b h =
    let far : b.phase - u ≡ suc (b.phase - suc u) = omega (arith, h.low) in
    record { phase = h.phase; low = omega (arith, h.low); at = ap (slice_get (p ∷ phases)) far ∙ h.at; passes = h.passes; side_is = h.side_is }

pub where_known : (test : ℕ → List Head → Bool) (side : Side) (u : ℕ) (phases : List StaticPhase) → AllByRecursion (IsWhere test side u phases) (boundaries_where test side u phases) × AreRising u (boundaries_where test side u phases)
where_known test side u [] = (tt, tt)
where_known test side u (p ∷ phases) =
    let rest = where_known test side (suc u) phases in
    by (test u p.outer) refl (all-weaker (IsWhere test side (suc u) phases) (IsWhere test side u (p ∷ phases)) (boundaries_where test side (suc u) phases) (λ b h. where_later test side u p phases b h) rest.0) rest.1
  where
    by : (t : Bool) → test u p.outer ≡ t → AllByRecursion (IsWhere test side u (p ∷ phases)) (boundaries_where test side (suc u) phases) → AreRising (suc u) (boundaries_where test side (suc u) phases) →
        AllByRecursion (IsWhere test side u (p ∷ phases)) (if t then record { phase = u; side = side } ∷ boundaries_where test side (suc u) phases else boundaries_where test side (suc u) phases)
        × AreRising u (if t then record { phase = u; side = side } ∷ boundaries_where test side (suc u) phases else boundaries_where test side (suc u) phases)
    by true e all rising =
        let none : u - u ≡ 0 = omega arith in
        ((record { phase = p; low = omega arith; at = ap (slice_get (p ∷ phases)) none; passes = e; side_is = refl }, all), (omega arith, rising))
    by false e all rising = (all, rising_lower (suc u) u (boundaries_where test side (suc u) phases) (omega arith) rising)

-- ---- of two tests that shut each other out, in text order

abbrev pub merged_where : (ℕ → List Head → Bool) → (ℕ → List Head → Bool) → ℕ → List StaticPhase → List Boundary
merged_where f g u [] = []
merged_where f g u (p ∷ phases) =
    if f u p.outer then record { phase = u; side = of_first } ∷ merged_where f g (suc u) phases
    else if g u p.outer then record { phase = u; side = of_second } ∷ merged_where f g (suc u) phases else merged_where f g (suc u) phases

-- in front of a static phase that passes the test of its side
abbrev pub side_test : (ℕ → List Head → Bool) → (ℕ → List Head → Bool) → Side → ℕ → List Head → Bool
side_test f g of_first u outer = f u outer
side_test f g of_second u outer = g u outer

pub record IsMerged (f g : ℕ → List Head → Bool) (u : ℕ) (phases : List StaticPhase) (b : Boundary) : Type 0 where
  pub phase : StaticPhase
  pub low : u ≤ b.phase
  pub at : slice_get phases (b.phase - u) ≡ Some phase
  pub passes : side_test f g b.side b.phase phase.outer ≡ true

merged_later : (f g : ℕ → List Head → Bool) (u : ℕ) (p : StaticPhase) (phases : List StaticPhase) (b : Boundary) → IsMerged f g (suc u) phases b → IsMerged f g u (p ∷ phases) b
merged_later f g u p phases b h =
    let far : b.phase - u ≡ suc (b.phase - suc u) = omega (arith, h.low) in
    record { phase = h.phase; low = omega (arith, h.low); at = ap (slice_get (p ∷ phases)) far ∙ h.at; passes = h.passes }

pub merged_known : (f g : ℕ → List Head → Bool) (u : ℕ) (phases : List StaticPhase) → AllByRecursion (IsMerged f g u phases) (merged_where f g u phases) × AreRising u (merged_where f g u phases)
merged_known f g u [] = (tt, tt)
merged_known f g u (p ∷ phases) =
    let rest = merged_known f g (suc u) phases in
    by (f u p.outer) (g u p.outer) refl refl (all-weaker (IsMerged f g (suc u) phases) (IsMerged f g u (p ∷ phases)) (merged_where f g (suc u) phases) (λ b h. merged_later f g u p phases b h) rest.0) rest.1
  where
    by : (t v : Bool) → f u p.outer ≡ t → g u p.outer ≡ v → AllByRecursion (IsMerged f g u (p ∷ phases)) (merged_where f g (suc u) phases) → AreRising (suc u) (merged_where f g (suc u) phases) →
        AllByRecursion (IsMerged f g u (p ∷ phases)) (if t then record { phase = u; side = of_first } ∷ merged_where f g (suc u) phases else if v then record { phase = u; side = of_second } ∷ merged_where f g (suc u) phases else merged_where f g (suc u) phases)
        × AreRising u (if t then record { phase = u; side = of_first } ∷ merged_where f g (suc u) phases else if v then record { phase = u; side = of_second } ∷ merged_where f g (suc u) phases else merged_where f g (suc u) phases)
    by true v e e' all rising =
        let none : u - u ≡ 0 = omega arith in
        ((record { phase = p; low = omega arith; at = ap (slice_get (p ∷ phases)) none; passes = e }, all), (omega arith, rising))
    by false true e e' all rising =
        let none : u - u ≡ 0 = omega arith in
        ((record { phase = p; low = omega arith; at = ap (slice_get (p ∷ phases)) none; passes = e' }, all), (omega arith, rising))
    by false false e e' all rising = (all, rising_lower (suc u) u (merged_where f g (suc u) phases) (omega arith) rising)

-- sums over them
sums : (w : ℕ → ℕ) (xs ys : List Boundary) → sum_by (λ (b : Boundary). w b.phase) (xs ++ ys) ≡ sum_by (λ (b : Boundary). w b.phase) xs + sum_by (λ (b : Boundary). w b.phase) ys
sums w [] ys = omega arith
sums w (x ∷ xs) ys = sum_by-cons (λ (b : Boundary). w b.phase) x (xs ++ ys) ∙ omega (arith, sums w xs ys, sum_by-cons (λ (b : Boundary). w b.phase) x xs)

merged_both : (w : ℕ → ℕ) (f g : ℕ → List Head → Bool) (u : ℕ) (phases : List StaticPhase) → ((n : ℕ) (outer : List Head) → f n outer ≡ true → g n outer ≡ false) →
    sum_by (λ (b : Boundary). w b.phase) (boundaries_where f of_first u phases) + sum_by (λ (b : Boundary). w b.phase) (boundaries_where g of_second u phases) ≡ sum_by (λ (b : Boundary). w b.phase) (merged_where f g u phases)
merged_both w f g u [] apart = refl
merged_both w f g u (p ∷ phases) apart = by (f u p.outer) (g u p.outer) refl refl (merged_both w f g (suc u) phases apart)
  where
    by : (t v : Bool) → f u p.outer ≡ t → g u p.outer ≡ v →
        sum_by (λ (b : Boundary). w b.phase) (boundaries_where f of_first (suc u) phases) + sum_by (λ (b : Boundary). w b.phase) (boundaries_where g of_second (suc u) phases) ≡ sum_by (λ (b : Boundary). w b.phase) (merged_where f g (suc u) phases) →
        sum_by (λ (b : Boundary). w b.phase) (if t then record { phase = u; side = of_first } ∷ boundaries_where f of_first (suc u) phases else boundaries_where f of_first (suc u) phases)
        + sum_by (λ (b : Boundary). w b.phase) (if v then record { phase = u; side = of_second } ∷ boundaries_where g of_second (suc u) phases else boundaries_where g of_second (suc u) phases)
        ≡ sum_by (λ (b : Boundary). w b.phase) (if t then record { phase = u; side = of_first } ∷ merged_where f g (suc u) phases else if v then record { phase = u; side = of_second } ∷ merged_where f g (suc u) phases else merged_where f g (suc u) phases)
    by true true e e' h = absurd (true≢false (sym e' ∙ apart u p.outer e))
    by true false e e' h =
        omega (arith, h, sum_by-cons (λ (b : Boundary). w b.phase) (record { phase = u; side = of_first }) (boundaries_where f of_first (suc u) phases), sum_by-cons (λ (b : Boundary). w b.phase) (record { phase = u; side = of_first }) (merged_where f g (suc u) phases))
    by false true e e' h =
        omega (arith, h, sum_by-cons (λ (b : Boundary). w b.phase) (record { phase = u; side = of_second }) (boundaries_where g of_second (suc u) phases), sum_by-cons (λ (b : Boundary). w b.phase) (record { phase = u; side = of_second }) (merged_where f g (suc u) phases))
    by false false e e' h = h

pub merged-sum : (w : ℕ → ℕ) (f g : ℕ → List Head → Bool) (u : ℕ) (phases : List StaticPhase) → ((n : ℕ) (outer : List Head) → f n outer ≡ true → g n outer ≡ false) →
    sum_by (λ (b : Boundary). w b.phase) (boundaries_where f of_first u phases ++ boundaries_where g of_second u phases) ≡ sum_by (λ (b : Boundary). w b.phase) (merged_where f g u phases)
merged-sum w f g u phases apart = sums w (boundaries_where f of_first u phases) (boundaries_where g of_second u phases) ∙ merged_both w f g u phases apart

-- ---- where the boundaries stand on the timeline

abbrev pub outer_in : Option StaticPhase → List Head
outer_in None = []
outer_in (Some p) = p.outer

abbrev pub side_heads : List Head → List Head → Side → List Head
side_heads hs gs of_first = hs
side_heads hs gs of_second = gs

abbrev pub side_trips : List ℕ → List ℕ → Side → List ℕ
side_trips ns ms of_first = ns
side_trips ns ms of_second = ms

-- the first of each two comes before the second
abbrev pub Pairs : (Boundary → Boundary → Type 0) → List Boundary → Type 0
Pairs R [] = Unit {0}
Pairs R (b ∷ bs) = AllByRecursion (R b) bs × Pairs R bs

rising_later : (R : Boundary → Boundary → Type 0) (P : Boundary → Type 0) (b : Boundary) (w : ℕ) (cs : List Boundary) → ((c : Boundary) → P c → b.phase < c.phase → R b c) → suc b.phase ≤ w → AllByRecursion P cs → AreRising w cs → AllByRecursion (R b) cs
rising_later R P b w [] f le all rising = tt
rising_later R P b w (c ∷ cs) f le all rising = (f c all.0 (omega (arith, le, rising.0)), rising_later R P b (suc c.phase) cs f (omega (arith, le, rising.0)) all.1 rising.1)

pub pairs_rising : (R : Boundary → Boundary → Type 0) (P : Boundary → Type 0) (u : ℕ) (bs : List Boundary) → ((b c : Boundary) → P b → P c → b.phase < c.phase → R b c) → AllByRecursion P bs → AreRising u bs → Pairs R bs
pairs_rising R P u [] f all rising = tt
pairs_rising R P u (b ∷ bs) f all rising = (rising_later R P b (suc b.phase) bs (λ c h lt. f b c all.0 h lt) (omega arith) all.1 rising.1, pairs_rising R P (suc b.phase) bs f all.1 rising.1)

pub pairs_append : (R : Boundary → Boundary → Type 0) (P Q : Boundary → Type 0) (xs ys : List Boundary) → ((b c : Boundary) → P b → Q c → R b c) → AllByRecursion P xs → AllByRecursion Q ys → Pairs R xs → Pairs R ys → Pairs R (xs ++ ys)
pairs_append R P Q [] ys f p q h k = k
pairs_append R P Q (x ∷ xs) ys f p q h k = (all-append (R x) xs ys h.0 (all-weaker Q (R x) ys (λ c qc. f x c p.0 qc) q), pairs_append R P Q xs ys f p.1 q h.1 k)
