-- Forms of expressions that are affine within the limit.
use Rattle.std.proofs.Common.{◌≡◌, ℕ, suc, zero, ◌<◌, ℤ, Bool, true, false, List, [], ◌∷◌, ◌++◌, length, map, get_or, reverse, if◌then◌else◌, refl, sym, ap, ◌∙◌, arith}
use Rattle.std.proofs.lemmas.List.{reverse-append}
use Rattle.std.specs.List.{flat_map}
use Rattle.nest_tree.specs.Form.{Form}
use Rattle.f77_forms.specs.Form.{ExpressionForm}
use Rattle.f77_scene.specs.Affine.{is_affine, form_of, met}
use Rattle.f77_scene.specs.Scene.{Scene}
use Rattle.f77_program.specs.declared.linear.Linear.TheVariants as linear
use Rattle.f77_program.specs.declared.measure.Measure.{Measure}
use Rattle.f77_program.specs.declared.reach.Reach.{Reach}
use Rattle.f77_program.specs.declared.reach.Reach.TheVariants.{NotAffine, Past, Within}
use Rattle.f77_program.specs.Linear.{past, linear_with}
use Rattle.f77_program.specs.Measures.{measure_of, linear_reaches}
use Rattle.f77_program.specs.Reaches.{reach_of, reach_at, also}
use Rattle.f77_program.proofs.Reached.{also-assoc, within-also, reach_of-append, reach_of-one}
use Rattle.f77_source.specs.Forms.{linear_form, form_at}

pub also_both : (a b : Reach) → also a b ≡ Within → (a ≡ Within) × (b ≡ Within)
also_both NotAffine b h = absurd cc
also_both (Past z) NotAffine h = absurd cc
also_both (Past z) (Past w) h = absurd cc
also_both (Past z) Within h = absurd cc
also_both Within NotAffine h = absurd cc
also_both Within (Past w) h = absurd cc
also_both Within Within h = (refl, refl)

-- of expressions in a row the first ones and the others
pub reach_both : (s : Scene) (es fs : List ExpressionForm) → reach_of s (es ++ fs) ≡ Within → (reach_of s es ≡ Within) × (reach_of s fs ≡ Within)
reach_both s es fs h = also_both (reach_of s es) (reach_of s fs) (sym (reach_of-append s es fs) ∙ h)

-- each of them
pub reach_each : (s : Scene) (es : List ExpressionForm) (i : ℕ) (e : ExpressionForm) → i < length es → reach_of s es ≡ Within → reach_of s (get_or es i e ∷ []) ≡ Within
reach_each s [] i e lt h = absurd (omega arith)
reach_each s (x ∷ es) zero e lt h = (reach_both s (x ∷ []) es h).0
reach_each s (x ∷ es) (suc i) e lt h = reach_each s es i e (omega arith) (reach_both s (x ∷ []) es h).1

-- what stands in each of them
pub reach_parts : {X : Type 0} (s : Scene) (inner : X → List ExpressionForm) (xs : List X) (i : ℕ) (x : X) → i < length xs → reach_of s (flat_map inner xs) ≡ Within → reach_of s (inner (get_or xs i x)) ≡ Within
reach_parts s inner [] i x lt h = absurd (omega arith)
reach_parts s inner (y ∷ xs) zero x lt h = (reach_both s (inner y) (flat_map inner xs) h).0
reach_parts s inner (y ∷ xs) (suc i) x lt h = reach_parts s inner xs i x (omega arith) (reach_both s (inner y) (flat_map inner xs) h).1

formed : (b : Bool) (zs : List ℤ) (f : Form) → reach_at (if b then linear_with zs f else linear.NotAffine) ≡ Within → linear_form (if b then linear_with zs f else linear.NotAffine) ≡ f
formed true [] f h = refl
formed true (z ∷ zs) f h = absurd cc
formed false zs f h = absurd cc

pub form_within : (s : Scene) (e : ExpressionForm) → reach_of s (e ∷ []) ≡ Within → form_at (measure_of s e) ≡ form_of s e
form_within s e h = formed (is_affine s e) (past (met s e)) (form_of s e) (sym (reach_of-one s e) ∙ h)

pub forms_within : (s : Scene) (es : List ExpressionForm) → reach_of s es ≡ Within → map form_at (map (measure_of s) es) ≡ map (form_of s) es
forms_within s [] h = refl
forms_within s (e ∷ es) h =
    let b = reach_both s (e ∷ []) es h in
    ap (λ f. f ∷ map form_at (map (measure_of s) es)) (form_within s e b.0) ∙ ap (λ fs. form_of s e ∷ fs) (forms_within s es b.1)

-- ---- measures, one by one

pub linear_each : (ms : List Measure) (i : ℕ) (m : Measure) → i < length ms → linear_reaches ms ≡ Within → linear_reaches (get_or ms i m ∷ []) ≡ Within
linear_each [] i m lt h = absurd (omega arith)
linear_each (x ∷ ms) zero m lt h = (let b = also_both (reach_at x.linear) (linear_reaches ms) h in ap (λ r. also r Within) b.0)
linear_each (x ∷ ms) (suc i) m lt h = linear_each ms i m (omega arith) (also_both (reach_at x.linear) (linear_reaches ms) h).1

linear_reaches-append : (ms ns : List Measure) → linear_reaches (ms ++ ns) ≡ also (linear_reaches ms) (linear_reaches ns)
linear_reaches-append [] ns = sym (within-also (linear_reaches ns))
linear_reaches-append (m ∷ ms) ns = ap (also (reach_at m.linear)) (linear_reaches-append ms ns) ∙ sym (also-assoc (reach_at m.linear) (linear_reaches ms) (linear_reaches ns))

-- their order does not matter
pub within_reversed : (ms : List Measure) → linear_reaches (reverse ms) ≡ Within → linear_reaches ms ≡ Within
within_reversed [] h = refl
within_reversed (m ∷ ms) h =
    let b = also_both (linear_reaches (reverse ms)) (linear_reaches (m ∷ [])) (sym (ap linear_reaches (reverse-append (m ∷ []) ms) ∙ linear_reaches-append (reverse ms) (m ∷ [])) ∙ h) in
    ap (also (reach_at m.linear)) (within_reversed ms b.0) ∙ b.1
