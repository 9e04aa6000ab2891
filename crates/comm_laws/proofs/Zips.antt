-- The stops in a text, with numbers of loops, beside its static phases, with their heads.
use Rattle.std.proofs.Common.{◌≡◌, ℕ, zero, suc, ◌==◌, Bool, true, false, Some, None, List, [], ◌∷◌, ◌++◌, if◌then◌else◌, refl, ap, ◌∙◌, subst}
use Rattle.std.specs.List.{list_any, slice_get}
use Rattle.std.proofs.lemmas.Bool.{and_parts}
use Rattle.std.proofs.lemmas.List.{map-append}
use Rattle.nest_tree.specs.Tree.{Head, Statement, Statements, do_loop, work, continue, done, next}
use Rattle.nest_walk.specs.Texts.{Placed, placed_in, placed_of}
use Rattle.nest_rows.proofs.Dots.{numbers}
use Rattle.nest_rows.proofs.GoodNesting.{AreAmong, any-left, any-more}
use Rattle.sync_plan.specs.declared.plan.Kind.{Kind}
use Rattle.sync_plan.specs.Shape.{are_good_kinds, is_good_kind}
use Rattle.conflict_rules.specs.References.{StaticPhase, phases_among, phases_in}

pub among_more : (xs : List ℕ) (heads others : List Head) → AreAmong xs (numbers heads) → AreAmong xs (numbers (heads ++ others))
among_more xs heads others h n named = ap (list_any (λ l. l == n)) (map-append (λ (h : Head). h.number) heads others) ∙ any-left (numbers heads) (numbers others) n (h n named)

-- one static phase, and the loops round it
pub record IsSamePhase (p : Placed) (q : StaticPhase) : Type 0 where
  pub what : p.what ≡ q.what
  pub among : AreAmong p.around (numbers q.outer)

abbrev pub AreSamePhases : List Placed → List StaticPhase → Type 0
AreSamePhases [] [] = Unit {0}
AreSamePhases [] (q ∷ qs) = ⊥
AreSamePhases (p ∷ ps) [] = ⊥
AreSamePhases (p ∷ ps) (q ∷ qs) = IsSamePhase p q × AreSamePhases ps qs

same_append : (ps rs : List Placed) (qs ts : List StaticPhase) → AreSamePhases ps qs → AreSamePhases rs ts → AreSamePhases (ps ++ rs) (qs ++ ts)
same_append [] rs [] ts h k = k
same_append [] rs (q ∷ qs) ts h k = absurd h
same_append (p ∷ ps) rs [] ts h k = absurd h
same_append (p ∷ ps) rs (q ∷ qs) ts h k = (h.0, same_append ps rs qs ts h.1 k)

inner_among : (around : List ℕ) (outer : List Head) (head : Head) → AreAmong around (numbers outer) → AreAmong (head.number ∷ around) (numbers (outer ++ head ∷ []))
inner_among around outer head among n h = ap (list_any (λ l. l == n)) (map-append (λ (g : Head). g.number) outer (head ∷ [])) ∙ any-more around (numbers outer) head.number among n h

module _ (enters : ℕ → Bool) where
  mutual
    same_in : (around : List ℕ) (outer : List Head) (s : Statement) → AreAmong around (numbers outer) → AreSamePhases (placed_in enters around s) (phases_in enters outer s)
    same_in around outer (do_loop head body) among = by (enters head.number) (same_among (head.number ∷ around) (outer ++ head ∷ []) body (inner_among around outer head among))
      where
        by : (b : Bool) → AreSamePhases (placed_of enters (head.number ∷ around) body) (phases_among enters (outer ++ head ∷ []) body) →
            AreSamePhases (if b then placed_of enters (head.number ∷ around) body else record { what = do_loop head body; around = around } ∷ []) (if b then phases_among enters (outer ++ head ∷ []) body else record { what = do_loop head body; outer = outer } ∷ [])
        by true inner = inner
        by false inner = (record { what = refl; among = among }, tt)
    same_in around outer (work w) among = (record { what = refl; among = among }, tt)
    same_in around outer (continue line) among = tt

    pub same_among : (around : List ℕ) (outer : List Head) (ss : Statements) → AreAmong around (numbers outer) → AreSamePhases (placed_of enters around ss) (phases_among enters outer ss)
    same_among around outer done among = tt
    same_among around outer (next s rest) among = same_append (placed_in enters around s) (placed_of enters around rest) (phases_in enters outer s) (phases_among enters outer rest) (same_in around outer s among) (same_among around outer rest among)

-- at a place
pub same_at : (ps : List Placed) (qs : List StaticPhase) (k : ℕ) (p : Placed) (q : StaticPhase) → AreSamePhases ps qs → slice_get ps k ≡ Some p → slice_get qs k ≡ Some q → IsSamePhase p q
same_at [] qs k p q h at at' = absurd (let no : None ≡ Some p = at in cc)
same_at (x ∷ ps) [] k p q h at at' = absurd (let no : None ≡ Some q = at' in cc)
same_at (x ∷ ps) (y ∷ qs) zero p q h at at' =
    let one : x ≡ p = cc in
    let two : y ≡ q = cc in
    subst (λ a. IsSamePhase a q) one (subst (IsSamePhase x) two h.0)
same_at (x ∷ ps) (y ∷ qs) (suc k) p q h at at' = same_at ps qs k p q h.1 at at'

-- there is a stop at each static phase's place
pub stop_at : (ps : List Placed) (qs : List StaticPhase) (k : ℕ) (q : StaticPhase) → AreSamePhases ps qs → slice_get qs k ≡ Some q → (p : Placed) × (slice_get ps k ≡ Some p)
stop_at ps [] k q h at = absurd (let no : None ≡ Some q = at in cc)
stop_at [] (y ∷ qs) k q h at = absurd h
stop_at (x ∷ ps) (y ∷ qs) zero q h at = (x, refl)
stop_at (x ∷ ps) (y ∷ qs) (suc k) q h at = stop_at ps qs k q h.1 at

-- each of a text's static phases has a good kind
pub good_kind_each : (constants : ℕ) (text : List Placed) (kinds : List Kind) (k : ℕ) (s : Placed) (a : Kind) → are_good_kinds constants text kinds ≡ true → slice_get text k ≡ Some s → slice_get kinds k ≡ Some a → is_good_kind constants s.around a ≡ true
good_kind_each constants [] kinds k s a good at at' = absurd (let no : None ≡ Some s = at in cc)
good_kind_each constants (t ∷ text) [] k s a good at at' = absurd (let no : None ≡ Some a = at' in cc)
good_kind_each constants (t ∷ text) (b ∷ kinds) zero s a good at at' =
    let one : t ≡ s = cc in
    let two : b ≡ a = cc in
    let here = (and_parts (is_good_kind constants t.around b) (are_good_kinds constants text kinds) good).0 in
    subst (λ x. is_good_kind constants s.around x ≡ true) two (subst (λ (x : Placed). is_good_kind constants x.around b ≡ true) one here)
good_kind_each constants (t ∷ text) (b ∷ kinds) (suc k) s a good at at' = good_kind_each constants text kinds k s a (and_parts (is_good_kind constants t.around b) (are_good_kinds constants text kinds) good).1 at at'
