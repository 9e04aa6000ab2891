-- The numbers of a certificate, one term and one step after another.
use Rattle.std.proofs.Common.{◌≡◌, ℕ, ◌+◌, ◌<◌, ℤ, pos, List, [], ◌∷◌, ◌++◌, map, length, take, get_or, ap, sym, ◌∙◌, subst}
use Rattle.std.proofs.lemmas.List.{map-append, take_more}
use Rattle.farkas_cert.specs.declared.certificate.Step.{Step}
use Rattle.presolve.specs.Renamed.{renamed_step, renamed_terms}
use Rattle.presolve.specs.Rows.{NamesKept, StepsNameKept, kept_number}

named_more : (count : ℕ) (numbers : List ℕ) (terms : List (ℕ × ℤ)) (t : ℕ × ℤ) → NamesKept count numbers terms → NamesKept count numbers (t ∷ []) → NamesKept count numbers (terms ++ t ∷ [])
named_more count numbers [] t before here = here
named_more count numbers (u ∷ terms) t before here = (before.0, named_more count numbers terms t before.1 here)

steps_named_more : (count : ℕ) (numbers : List ℕ) (steps : List Step) (step : Step) → StepsNameKept count numbers steps → NamesKept count numbers step.terms → StepsNameKept count numbers (steps ++ step ∷ [])
steps_named_more count numbers [] step before here = (here, tt)
steps_named_more count numbers (s ∷ steps) step before here = (before.0, steps_named_more count numbers steps step before.1 here)

pub terms_more : (count : ℕ) (numbers : List ℕ) (terms : List (ℕ × ℤ)) (i k : ℕ) (z : ℤ) (d : ℕ × ℤ) (made : List (ℕ × ℤ)) → i < length terms → z ≡ (get_or terms i d).1 → (made ≡ renamed_terms (kept_number count numbers) (take i terms)) × NamesKept count numbers (take i terms) → (k ≡ kept_number count numbers (get_or terms i d).0) × NamesKept count numbers (((get_or terms i d).0, pos 0) ∷ []) → (made ++ (k, z) ∷ [] ≡ renamed_terms (kept_number count numbers) (take (i + 1) terms)) × NamesKept count numbers (take (i + 1) terms)
terms_more count numbers terms i k z d made lt same before here =
    let t = get_or terms i d in
    let to : ℕ × ℤ → ℕ × ℤ = λ u. (kept_number count numbers u.0, u.1) in
    let more : take (i + 1) terms ≡ take i terms ++ t ∷ [] = take_more terms i d lt in (
      ap (λ m. m ++ (k, z) ∷ []) before.0 ∙ ap (λ n. map to (take i terms) ++ (n, z) ∷ []) here.0 ∙ ap (λ n. map to (take i terms) ++ (kept_number count numbers t.0, n) ∷ []) same ∙ sym (map-append to (take i terms) (t ∷ [])) ∙ ap (map to) (sym more),
      subst (λ ts. NamesKept count numbers ts) (sym more) (named_more count numbers (take i terms) t before.1 here.1),
    )

pub steps_more : (count : ℕ) (numbers : List ℕ) (steps : List Step) (i : ℕ) (step : Step) (z : ℤ) (ts : List (ℕ × ℤ)) (made : List Step) → i < length steps → step ≡ get_or steps i step → z ≡ step.divisor → (ts ≡ renamed_terms (kept_number count numbers) step.terms) × NamesKept count numbers step.terms → (made ≡ map (renamed_step (kept_number count numbers)) (take i steps)) × StepsNameKept count numbers (take i steps) → (made ++ record { divisor = z; terms = ts } ∷ [] ≡ map (renamed_step (kept_number count numbers)) (take (i + 1) steps)) × StepsNameKept count numbers (take (i + 1) steps)
steps_more count numbers steps i step z ts made lt is same here before =
    let to : Step → Step = renamed_step (kept_number count numbers) in
    let more : take (i + 1) steps ≡ take i steps ++ step ∷ [] = take_more steps i step lt ∙ ap (λ s. take i steps ++ s ∷ []) (sym is) in (
      ap (λ m. m ++ of z ts ∷ []) before.0 ∙ ap (λ n. map to (take i steps) ++ of n ts ∷ []) same ∙ ap (λ n. map to (take i steps) ++ of step.divisor n ∷ []) here.0 ∙ sym (map-append to (take i steps) (step ∷ [])) ∙ ap (map to) (sym more),
      subst (λ ss. StepsNameKept count numbers ss) (sym more) (steps_named_more count numbers (take i steps) step before.1 here.1),
    ) where
      of : ℤ → List (ℕ × ℤ) → Step
      of divisor terms = record { divisor = divisor; terms = terms }
