use Rattle.std.proofs.Common.{◌≡◌, ℕ, zero, suc, ◌<◌, ◌≤◌, List, [], ◌∷◌, length, get_or, map, refl, ap, sym, ◌∙◌, arith}
use Rattle.nest_tree.specs.declared.tree.Variable.{Variable}
use Rattle.nest_tree.specs.Layout.{bounds_at}
use Rattle.nest_tree.specs.View.{declaration_of}
use Rattle.nest_agree.proofs.agree.bounds.Goals as goal

there : (vs : List Variable) (k : ℕ) (v : Variable) → k < length vs → v ≡ get_or vs k v → bounds_at (map declaration_of vs) k ≡ v.bounds.items
there [] k v lt is = absurd (omega (arith, lt))
there (x ∷ vs) zero v lt is = ap (λ (w : Variable). w.bounds.items) (sym is)
there (x ∷ vs) (suc k) v lt is = there vs k v (omega (arith, lt)) is

past : (vs : List Variable) (k : ℕ) → length vs ≤ k → bounds_at (map declaration_of vs) k ≡ []
past [] k le = refl
past (x ∷ vs) zero le = absurd (omega (arith, le))
past (x ∷ vs) (suc k) le = past vs k (omega (arith, le))

pub returns-then-place-variables : goal.returns-then-place-variables
returns-then-place-variables c =
    c.as_slice.ensures.value ∙ ap (λ (w : Variable). w.bounds.items) (sym c.index-variables-place.is) ∙ sym (there c.args.variables.now c.saturating_sub-place.result c.index-variables-place.result c.if-place-variables.true c.index-variables-place.is)
    ∙ ap (bounds_at (map declaration_of c.args.variables.now)) c.saturating_sub-place.ensures

pub returns-else-place-variables : goal.returns-else-place-variables
returns-else-place-variables c =
    sym (past c.args.variables.now c.saturating_sub-place.result c.if-place-variables.false) ∙ ap (bounds_at (map declaration_of c.args.variables.now)) c.saturating_sub-place.ensures
