-- How two stops of a walk stand to each other, and to stops in loops that are the first of those round them.
use Rattle.std.proofs.Common.{◌≡◌, ℕ, zero, suc, ◌+◌, ◌<◌, ◌≤◌, ◌⊎◌, ◌==◌, ℤ, true, false, List, [], ◌∷◌, length, if◌then◌else◌, refl, ap, sym, ◌∙◌, subst, inl, inr, arith}
use Rattle.std.specs.List.{AllByRecursion}
use Rattle.std.proofs.lemmas.Bool.{and_parts, cases_eq, eqb-true, lt-ltb, ltb-true}
use Rattle.nest_tree.specs.Form.{numbered}
use Rattle.nest_tree.specs.Tree.{Head}
use Rattle.conflict_rules.specs.Boundaries.{is_prefix}
use Rattle.comm_system.specs.Levels.{common}
use Rattle.comm_system.specs.Meetings.{AreSame, IsEarlier}
use Rattle.comm_system.proofs.KnownHeads.{IsKnown, same_head}
use Rattle.comm_system.proofs.Places.{kept_after}
use Rattle.comm_system.proofs.StationFacts.{AreValid, Deepens, loops_after}
use Rattle.comm_system.proofs.StationOrder.{comes, comes_apart, comes_earlier, comes_none, comes_same, differ_test, equal_test}
use Rattle.comm_system.proofs.Stations.{at_trip}

-- so many loops from the outermost are the same, at the same trips
abbrev pub Agree : ℕ → List Head → List ℕ → List Head → List ℕ → Type 0
Agree zero hs ns gs ms = Unit {0}
Agree (suc k) [] ns gs ms = ⊥
Agree (suc k) (h ∷ hs) [] gs ms = ⊥
Agree (suc k) (h ∷ hs) (n ∷ ns) [] ms = ⊥
Agree (suc k) (h ∷ hs) (n ∷ ns) (g ∷ gs) [] = ⊥
Agree (suc k) (h ∷ hs) (n ∷ ns) (g ∷ gs) (m ∷ ms) = (h ≡ g) × (n ≡ m) × Agree k hs ns gs ms

-- of the loops that are the same, one is at an earlier trip, and those outside it are at the same trips
pub record IsCarried (hs : List Head) (ns : List ℕ) (gs : List Head) (ms : List ℕ) : Type 0 where
  pub outside : ℕ
  pub agree : Agree outside hs ns gs ms
  pub earlier : IsEarlier outside ns ms
  pub less : outside < common hs gs

-- all are at the same trips, and the first stands before the second in the text
pub record IsPlain (hs : List Head) (ns : List ℕ) (u : ℕ) (gs : List Head) (ms : List ℕ) (w : ℕ) : Type 0 where
  pub agree : Agree (common hs gs) hs ns gs ms
  pub text : u < w

pub common_same : (h g : Head) (hs gs : List Head) → h.number ≡ g.number → common (h ∷ hs) (g ∷ gs) ≡ suc (common hs gs)
common_same h g hs gs same = ap (λ b. if b then suc (common hs gs) else 0) (equal_test h.number g.number same)

common_apart : (h g : Head) (hs gs : List Head) → (h.number ≡ g.number → ⊥) → common (h ∷ hs) (g ∷ gs) ≡ 0
common_apart h g hs gs ne = ap (λ b. if b then suc (common hs gs) else 0) (differ_test h.number g.number ne)

pub split : (all : List Head) (number : ℕ) (hs : List Head) (ns : List ℕ) (u : ℕ) (gs : List Head) (ms : List ℕ) (w : ℕ) → AllByRecursion (IsKnown all number) hs → AllByRecursion (IsKnown all number) gs → length ns ≡ length hs → length ms ≡ length gs →
    comes hs ns u gs ms w ≡ true → IsCarried hs ns gs ms ⊎ IsPlain hs ns u gs ms w
split all number [] ns u gs ms w k k' long long' c = inr (record { agree = tt; text = ltb-true u w c })
split all number (h ∷ hs) [] u gs ms w k k' long long' c = absurd (omega (arith, long))
split all number (h ∷ hs) (n ∷ ns) u [] ms w k k' long long' c = inr (record { agree = tt; text = ltb-true u w c })
split all number (h ∷ hs) (n ∷ ns) u (g ∷ gs) [] w k k' long long' c = absurd (omega (arith, long'))
split all number (h ∷ hs) (n ∷ ns) u (g ∷ gs) (m ∷ ms) w k k' long long' c = elim (cases_eq h.number g.number) [
  | inl same ↦ elim (cases_eq n m) [
    | inl e ↦ further same e (split all number hs ns u gs ms w k.1 k'.1 (omega (arith, long)) (omega (arith, long')) (sym (comes_same h g hs gs n ns ms u w same) ∙ ap (λ i. comes (h ∷ hs) (n ∷ ns) u (g ∷ gs) (i ∷ ms) w) e ∙ c))
    | inr ne ↦ inl (record { outside = 0; agree = tt; earlier = ltb-true n m (sym (comes_earlier h g hs gs n m ns ms u w same ne) ∙ c); less = omega (arith, common_same h g hs gs same) })
  ]
  | inr ne ↦ inr (record { agree = subst (λ i. Agree i (h ∷ hs) (n ∷ ns) (g ∷ gs) (m ∷ ms)) (sym (common_apart h g hs gs ne)) tt; text = ltb-true u w (sym (comes_apart h g hs gs n m ns ms u w ne) ∙ c) })
]
  where
    further : h.number ≡ g.number → n ≡ m → IsCarried hs ns gs ms ⊎ IsPlain hs ns u gs ms w → IsCarried (h ∷ hs) (n ∷ ns) (g ∷ gs) (m ∷ ms) ⊎ IsPlain (h ∷ hs) (n ∷ ns) u (g ∷ gs) (m ∷ ms) w
    further same e (inl c) = inl (record { outside = suc c.outside; agree = (same_head all number h g k.0 k'.0 same, e, c.agree); earlier = c.earlier; less = omega (arith, c.less, common_same h g hs gs same) })
    further same e (inr p) = inr (record { agree = subst (λ i. Agree i (h ∷ hs) (n ∷ ns) (g ∷ gs) (m ∷ ms)) (sym (common_same h g hs gs same)) (same_head all number h g k.0 k'.0 same, e, p.agree); text = p.text })

-- the loops that agree have equal values
pub agree_values : (params loops : List ℤ) (k low high : ℕ) (hs : List Head) (ns : List ℕ) (gs : List Head) (ms : List ℕ) → Agree k hs ns gs ms → Deepens low high hs → Deepens low high gs → 1 ≤ low →
    AreSame k hs gs (loops_after params loops hs ns) (loops_after params loops gs ms)
agree_values params loops zero low high hs ns gs ms a d d' some = tt
agree_values params loops (suc k) low high [] ns gs ms a d d' some = absurd a
agree_values params loops (suc k) low high (h ∷ hs) [] gs ms a d d' some = absurd a
agree_values params loops (suc k) low high (h ∷ hs) (n ∷ ns) [] ms a d d' some = absurd a
agree_values params loops (suc k) low high (h ∷ hs) (n ∷ ns) (g ∷ gs) [] a d d' some = absurd a
agree_values params loops (suc k) low high (h ∷ hs) (n ∷ ns) (g ∷ gs) (m ∷ ms) a d d' some =
    let here = kept_after params (at_trip params h loops n) hs ns h.number (h.number + 1) high (omega (arith, d.0, some)) (omega arith) d.2 in
    let there = kept_after params (at_trip params g loops m) gs ms g.number (g.number + 1) high (omega (arith, d'.0, some)) (omega arith) d'.2 in
    let state : at_trip params h loops n ≡ at_trip params g loops m = ap (λ x. at_trip params x loops n) a.0 ∙ ap (λ i. at_trip params g loops i) a.1 in
    let number = ap (λ (x : Head). x.number) a.0 in
    let value : numbered (at_trip params h loops n) h.number ≡ numbered (at_trip params g loops m) g.number = ap (λ l. numbered l h.number) state ∙ ap (numbered (at_trip params g loops m)) number in
    let deeper : Deepens (h.number + 1) high gs = subst (λ i. Deepens (i + 1) high gs) (sym number) d'.2 in (
      here ∙ value ∙ sym there,
      subst (λ l. AreSame k hs gs (loops_after params (at_trip params h loops n) hs ns) (loops_after params l gs ms)) state
          (agree_values params (at_trip params h loops n) k (h.number + 1) high hs ns gs ms a.2 d.2 deeper (omega arith)),
    )

-- ---- loops that are the first of others

abbrev pub IsFrontOf : List Head → List Head → Type 0
IsFrontOf [] gs = Unit {0}
IsFrontOf (h ∷ hs) [] = ⊥
IsFrontOf (h ∷ hs) (g ∷ gs) = (h ≡ g) × IsFrontOf hs gs

-- their trips
abbrev pub taken : List Head → List ℕ → List ℕ
taken [] ns = []
taken (h ∷ hs) [] = []
taken (h ∷ hs) (n ∷ ns) = n ∷ taken hs ns

pub front_itself : (hs : List Head) → IsFrontOf hs hs
front_itself [] = tt
front_itself (h ∷ hs) = (refl, front_itself hs)

pub taken_all : (hs : List Head) (ns : List ℕ) → length ns ≡ length hs → taken hs ns ≡ ns
taken_all [] [] long = refl
taken_all [] (n ∷ ns) long = absurd (omega (arith, long))
taken_all (h ∷ hs) [] long = refl
taken_all (h ∷ hs) (n ∷ ns) long = ap (λ ms. n ∷ ms) (taken_all hs ns (omega (arith, long)))

pub prefix_front_of : (all : List Head) (number : ℕ) (hs gs : List Head) → AllByRecursion (IsKnown all number) hs → AllByRecursion (IsKnown all number) gs → is_prefix hs gs ≡ true → IsFrontOf hs gs
prefix_front_of all number [] gs k k' p = tt
prefix_front_of all number (h ∷ hs) [] k k' p = absurd (let no : false ≡ true = p in cc)
prefix_front_of all number (h ∷ hs) (g ∷ gs) k k' p =
    let parts = and_parts (h.number == g.number) (is_prefix hs gs) p in
    (same_head all number h g k.0 k'.0 (eqb-true h.number g.number parts.0), prefix_front_of all number hs gs k.1 k'.1 parts.1)

pub front_valid : (params loops : List ℤ) (hs gs : List Head) (ms : List ℕ) → IsFrontOf hs gs → AreValid params loops gs ms → AreValid params loops hs (taken hs ms)
front_valid params loops [] gs ms f v = tt
front_valid params loops (h ∷ hs) [] ms f v = absurd f
front_valid params loops (h ∷ hs) (g ∷ gs) [] f v = absurd v
front_valid params loops (h ∷ hs) (g ∷ gs) (m ∷ ms) f v =
    subst (λ x. AreValid params loops (x ∷ hs) (m ∷ taken hs ms)) (sym f.0) (v.0, front_valid params (at_trip params g loops m) hs gs ms f.1 v.1)

pub front_agrees : (hs gs : List Head) (ms : List ℕ) → IsFrontOf hs gs → length ms ≡ length gs → Agree (length hs) hs (taken hs ms) gs ms
front_agrees [] gs ms f long = tt
front_agrees (h ∷ hs) [] ms f long = absurd f
front_agrees (h ∷ hs) (g ∷ gs) [] f long = absurd (omega (arith, long))
front_agrees (h ∷ hs) (g ∷ gs) (m ∷ ms) f long = (f.0, refl, front_agrees hs gs ms f.1 (omega (arith, long)))

pub agree_itself : (hs : List Head) (ns : List ℕ) → length ns ≡ length hs → Agree (common hs hs) hs ns hs ns
agree_itself [] ns long = tt
agree_itself (h ∷ hs) [] long = absurd (omega (arith, long))
agree_itself (h ∷ hs) (n ∷ ns) long = subst (λ i. Agree i (h ∷ hs) (n ∷ ns) (h ∷ hs) (n ∷ ns)) (sym (common_same h h hs hs refl)) (refl, refl, agree_itself hs ns (omega (arith, long)))

pub agree_turned : (hs : List Head) (ns : List ℕ) (gs : List Head) (ms : List ℕ) → Agree (common hs gs) hs ns gs ms → Agree (common gs hs) gs ms hs ns
agree_turned [] ns [] ms a = tt
agree_turned [] ns (g ∷ gs) ms a = tt
agree_turned (h ∷ hs) ns [] ms a = tt
agree_turned (h ∷ hs) [] (g ∷ gs) ms a = elim (cases_eq h.number g.number) [
  | inl same ↦ absurd (subst (λ i. Agree i (h ∷ hs) [] (g ∷ gs) ms) (common_same h g hs gs same) a)
  | inr ne ↦ subst (λ i. Agree i (g ∷ gs) ms (h ∷ hs) []) (sym (common_apart g h gs hs (λ e. ne (sym e)))) tt
]
agree_turned (h ∷ hs) (n ∷ ns) (g ∷ gs) [] a = elim (cases_eq h.number g.number) [
  | inl same ↦ absurd (subst (λ i. Agree i (h ∷ hs) (n ∷ ns) (g ∷ gs) []) (common_same h g hs gs same) a)
  | inr ne ↦ subst (λ i. Agree i (g ∷ gs) [] (h ∷ hs) (n ∷ ns)) (sym (common_apart g h gs hs (λ e. ne (sym e)))) tt
]
agree_turned (h ∷ hs) (n ∷ ns) (g ∷ gs) (m ∷ ms) a = elim (cases_eq h.number g.number) [
  | inl same ↦ turned same (λ b. agree_turned hs ns gs ms b) (subst (λ i. Agree i (h ∷ hs) (n ∷ ns) (g ∷ gs) (m ∷ ms)) (common_same h g hs gs same) a)
  | inr ne ↦ subst (λ i. Agree i (g ∷ gs) (m ∷ ms) (h ∷ hs) (n ∷ ns)) (sym (common_apart g h gs hs (λ e. ne (sym e)))) tt
]
  where
    turned : h.number ≡ g.number → (Agree (common hs gs) hs ns gs ms → Agree (common gs hs) gs ms hs ns) → Agree (suc (common hs gs)) (h ∷ hs) (n ∷ ns) (g ∷ gs) (m ∷ ms) → Agree (common (g ∷ gs) (h ∷ hs)) (g ∷ gs) (m ∷ ms) (h ∷ hs) (n ∷ ns)
    turned same inner b = subst (λ i. Agree i (g ∷ gs) (m ∷ ms) (h ∷ hs) (n ∷ ns)) (sym (common_same g h gs hs (sym same))) (sym b.0, sym b.1, inner b.2)

-- ---- the order of two stops in first loops

-- where a loop round both is at an earlier trip
pub carried_comes : (k : ℕ) (us vs hs : List Head) (ns : List ℕ) (gs : List Head) (ms : List ℕ) (u v : ℕ) → IsFrontOf us hs → IsFrontOf vs gs → Agree k hs ns gs ms → IsEarlier k ns ms → k < common hs gs → k < length us → k < length vs →
    comes us (taken us ns) u vs (taken vs ms) v ≡ true
carried_comes k [] vs hs ns gs ms u v f f' a e less room room' = absurd (omega (arith, room))
carried_comes k (x ∷ us) [] hs ns gs ms u v f f' a e less room room' = absurd (omega (arith, room'))
carried_comes k (x ∷ us) (y ∷ vs) [] ns gs ms u v f f' a e less room room' = absurd f
carried_comes k (x ∷ us) (y ∷ vs) (h ∷ hs) ns [] ms u v f f' a e less room room' = absurd f'
carried_comes k (x ∷ us) (y ∷ vs) (h ∷ hs) [] (g ∷ gs) ms u v f f' a e less room room' = absurd e
carried_comes k (x ∷ us) (y ∷ vs) (h ∷ hs) (n ∷ ns) (g ∷ gs) [] u v f f' a e less room room' = absurd e
carried_comes zero (x ∷ us) (y ∷ vs) (h ∷ hs) (n ∷ ns) (g ∷ gs) (m ∷ ms) u v f f' a e less room room' = elim (cases_eq h.number g.number) [
  | inl same ↦ comes_earlier x y us vs n m (taken us ns) (taken vs ms) u v (ap (λ (z : Head). z.number) f.0 ∙ same ∙ ap (λ (z : Head). z.number) (sym f'.0)) (λ same. omega (arith, e, same)) ∙ lt-ltb n m e
  | inr ne ↦ absurd (omega (arith, less, common_apart h g hs gs ne))
]
carried_comes (suc k) (x ∷ us) (y ∷ vs) (h ∷ hs) (n ∷ ns) (g ∷ gs) (m ∷ ms) u v f f' a e less room room' =
    let same = ap (λ (z : Head). z.number) a.0 in
    ap (λ i. comes (x ∷ us) (n ∷ taken us ns) u (y ∷ vs) (i ∷ taken vs ms) v) (sym a.1)
    ∙ comes_same x y us vs n (taken us ns) (taken vs ms) u v (ap (λ (z : Head). z.number) f.0 ∙ same ∙ ap (λ (z : Head). z.number) (sym f'.0))
    ∙ carried_comes k us vs hs ns gs ms u v f.1 f'.1 a.2 e (omega (arith, less, common_same h g hs gs same)) (omega (arith, room)) (omega (arith, room'))

-- where all loops round both are at the same trips
pub plain_comes : (us vs hs : List Head) (ns : List ℕ) (gs : List Head) (ms : List ℕ) (u v : ℕ) → IsFrontOf us hs → IsFrontOf vs gs → Agree (common hs gs) hs ns gs ms → u < v → comes us (taken us ns) u vs (taken vs ms) v ≡ true
plain_comes [] vs hs ns gs ms u v f f' a lt = lt-ltb u v lt
plain_comes (x ∷ us) [] hs ns gs ms u v f f' a lt = comes_none (x ∷ us) (taken (x ∷ us) ns) u [] v ∙ lt-ltb u v lt
plain_comes (x ∷ us) (y ∷ vs) [] ns gs ms u v f f' a lt = absurd f
plain_comes (x ∷ us) (y ∷ vs) (h ∷ hs) ns [] ms u v f f' a lt = absurd f'
plain_comes (x ∷ us) (y ∷ vs) (h ∷ hs) [] (g ∷ gs) ms u v f f' a lt = lt-ltb u v lt
plain_comes (x ∷ us) (y ∷ vs) (h ∷ hs) (n ∷ ns) (g ∷ gs) [] u v f f' a lt = lt-ltb u v lt
plain_comes (x ∷ us) (y ∷ vs) (h ∷ hs) (n ∷ ns) (g ∷ gs) (m ∷ ms) u v f f' a lt = elim (cases_eq h.number g.number) [
  | inl same ↦ further same (λ b. plain_comes us vs hs ns gs ms u v f.1 f'.1 b lt) (subst (λ i. Agree i (h ∷ hs) (n ∷ ns) (g ∷ gs) (m ∷ ms)) (common_same h g hs gs same) a)
  | inr ne ↦ comes_apart x y us vs n m (taken us ns) (taken vs ms) u v (λ e. ne (ap (λ (z : Head). z.number) (sym f.0) ∙ e ∙ ap (λ (z : Head). z.number) f'.0)) ∙ lt-ltb u v lt
]
  where
    further : h.number ≡ g.number → (Agree (common hs gs) hs ns gs ms → comes us (taken us ns) u vs (taken vs ms) v ≡ true) → Agree (suc (common hs gs)) (h ∷ hs) (n ∷ ns) (g ∷ gs) (m ∷ ms) → comes (x ∷ us) (n ∷ taken us ns) u (y ∷ vs) (m ∷ taken vs ms) v ≡ true
    further same inner b =
        ap (λ i. comes (x ∷ us) (n ∷ taken us ns) u (y ∷ vs) (i ∷ taken vs ms) v) (sym b.1)
        ∙ comes_same x y us vs n (taken us ns) (taken vs ms) u v (ap (λ (z : Head). z.number) f.0 ∙ same ∙ ap (λ (z : Head). z.number) (sym f'.0)) ∙ inner b.2

-- of one instance, stops in the first of its loops stand as in the text
pub one_side_comes : (us vs hs : List Head) (ns : List ℕ) (u v : ℕ) → IsFrontOf us hs → IsFrontOf vs hs → length ns ≡ length hs → u < v → comes us (taken us ns) u vs (taken vs ns) v ≡ true
one_side_comes us vs hs ns u v f f' long lt = plain_comes us vs hs ns hs ns u v f f' (agree_itself hs ns long) lt

-- where all loops round the second are the first of those round the first, and they agree, its trips are theirs
pub taken_same : (hs : List Head) (ns : List ℕ) (gs : List Head) (ms : List ℕ) → IsFrontOf gs hs → Agree (common hs gs) hs ns gs ms → length ms ≡ length gs → taken gs ns ≡ ms
taken_same hs ns [] [] f a long = refl
taken_same hs ns [] (m ∷ ms) f a long = absurd (omega (arith, long))
taken_same [] ns (g ∷ gs) ms f a long = absurd f
taken_same (h ∷ hs) ns (g ∷ gs) [] f a long = absurd (omega (arith, long))
taken_same (h ∷ hs) [] (g ∷ gs) (m ∷ ms) f a long = absurd (subst (λ i. Agree i (h ∷ hs) [] (g ∷ gs) (m ∷ ms)) (common_same h g hs gs (ap (λ (z : Head). z.number) (sym f.0))) a)
taken_same (h ∷ hs) (n ∷ ns) (g ∷ gs) (m ∷ ms) f a long =
    let b : Agree (suc (common hs gs)) (h ∷ hs) (n ∷ ns) (g ∷ gs) (m ∷ ms) = subst (λ i. Agree i (h ∷ hs) (n ∷ ns) (g ∷ gs) (m ∷ ms)) (common_same h g hs gs (ap (λ (z : Head). z.number) (sym f.0))) a in
    ap (λ i. i ∷ taken gs ns) b.1 ∙ ap (λ is. m ∷ is) (taken_same hs ns gs ms f.1 b.2 (omega (arith, long)))
