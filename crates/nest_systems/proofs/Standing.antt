-- Values of constants in front of all constraints.
use Rattle.std.proofs.Common.{◌≡◌, ℕ, ℤ, List, [], ◌∷◌, ◌++◌, map, refl, ap, sym, ◌∙◌}
use Rattle.std.proofs.lemmas.List.{append-nil}
use Rattle.farkas_cert.specs.Inequalities.{Inequalities}
use Rattle.nest_rows.specs.declared.constraint.Constraint.{Constraint}
use Rattle.nest_rows.specs.Constraints.{row_of, system_of}
use Rattle.nest_rows.specs.Groups.{constants_have}
use Rattle.nest_rows.specs.More.{HasMore}

none-behind : (n : ℕ) (xs ys : List Constraint) → map (row_of n) (xs ++ ys) ≡ [] → ys ≡ []
none-behind n [] [] h = refl
none-behind n [] (y ∷ ys) h = absurd (cc)
none-behind n (x ∷ xs) ys h = absurd (cc)

-- where no row stands, the values of constants may stand in front
pub values-stand : (n : ℕ) (vs ws : List ℤ) (rest : List Constraint) (old : Inequalities) → system_of n (constants_have 1 vs ++ rest) ≡ old → old.rows ≡ [] → HasMore (constants_have 1 ws) old (system_of n (constants_have 1 ws ++ rest))
values-stand n vs ws rest old is none =
    let no : rest ≡ [] = none-behind n (constants_have 1 vs) rest (ap (λ (s : Inequalities). s.rows) is ∙ none) in
    let whole : system_of n (constants_have 1 ws ++ rest) ≡ record { vars = n; rows = map (row_of n) (constants_have 1 ws) } =
    ap (λ cs. system_of n (constants_have 1 ws ++ cs)) no ∙ ap (system_of n) (append-nil (constants_have 1 ws)) in
    whole ∙ ap (λ m. record { vars = m; rows = map (row_of m) (constants_have 1 ws) }) (ap (λ (s : Inequalities). s.vars) is)
    ∙ ap (λ rs. record { vars = old.vars; rows = rs ++ map (row_of old.vars) (constants_have 1 ws) }) (sym none)
