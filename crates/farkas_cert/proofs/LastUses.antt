-- Rows that are forgotten behind the last step that names them.
use Rattle.std.proofs.Common.{◌≡◌, ℕ, ◌+◌, ◌<◌, false, List, ◌++◌, length, set, drop, ap, sym, ◌∙◌, subst, arith, length-drop}
use Rattle.std.specs.Prelude.{slice_index}
use Rattle.std.proofs.lemmas.List.{length-set}
use Rattle.farkas_cert.specs.declared.certificate.Step.{Step}
use Rattle.farkas_cert.specs.declared.system.Row.{Row}
use Rattle.farkas_cert.specs.Fault.{fault_from}
use Rattle.farkas_cert.specs.Named.{AreForgotten, AreLast, steps_name}
use Rattle.farkas_cert.proofs.Forgotten.{forget_one}

-- a row that no step left names
pub row_forgotten : (count : ℕ) (steps : List Step) (last : List ℕ) (made : List Row) (place : ℕ) (other : Row) → AreLast count steps last → place < length made → length made < length steps → slice_index last place ≡ length made → AreForgotten count steps made (set made place other)
row_forgotten count steps last made place other uses within left is = (
  length-set made place other,
  λ vars rows n long.
      let unnamed : steps_name (length rows + place + 1) (drop (length made) steps) ≡ false =
      ap (λ c. steps_name (c + place + 1) (drop (length made) steps)) long ∙ ap (λ i. steps_name (count + place + 1) (drop i steps)) (sym is) ∙ (uses.1 place (omega (arith, within, left))).1 in
      forget_one vars rows made place n other (drop (length made) steps) within unnamed (λ none. absurd (let empty : length (drop (length made) steps) ≡ 0 = ap (λ (ss : List Step). length ss) none in omega (arith, empty, length-drop (length made) steps, left))),
)

-- one behind the other
pub both_forgotten : (count : ℕ) (steps : List Step) (old mid new : List Row) → AreForgotten count steps old mid → AreForgotten count steps mid new → AreForgotten count steps old new
both_forgotten count steps old mid new first second = (
  second.0 ∙ first.0,
  λ vars rows n long.
      subst (λ i. fault_from vars (rows ++ new) n (drop i steps) ≡ fault_from vars (rows ++ mid) n (drop i steps)) first.0 (second.1 vars rows n long) ∙ first.1 vars rows n long,
)

-- what is left over them, by what the rows and the steps are
pub forgotten_on : (count : ℕ) (taken steps : List Step) (old old' new : List Row) (k : ℕ) → AreForgotten count taken old new → taken ≡ steps → old ≡ old' → length old ≡ k → (vars : ℕ) (rows : List Row) (n : ℕ) → length rows ≡ count →
    fault_from vars (rows ++ new) n (drop k steps) ≡ fault_from vars (rows ++ old') n (drop k steps)
forgotten_on count taken steps old old' new k forgotten same pushed long vars rows n few =
    subst (λ (j : ℕ). fault_from vars (rows ++ new) n (drop j steps) ≡ fault_from vars (rows ++ old') n (drop j steps)) long
    (subst (λ (os : List Row). fault_from vars (rows ++ new) n (drop (length old) steps) ≡ fault_from vars (rows ++ os) n (drop (length old) steps)) pushed
    (subst (λ (ts : List Step). fault_from vars (rows ++ new) n (drop (length old) ts) ≡ fault_from vars (rows ++ old) n (drop (length old) ts)) same (forgotten.1 vars rows n few)))
