-- Rows read word by word.
use Rattle.std.proofs.Common.{◌≡◌, ℕ, ℤ, true, false, List, [], ◌∷◌, ◌++◌, Some, Result, Ok, Err, codes, length, map, ◌<◌, ◌+◌, refl, sym, ◌∙◌, ap, append_assoc}
use Rattle.std.proofs.Math.ListN.{drop, get_or}
use Rattle.std.proofs.lemmas.List.{drop_more}
use denote.Ref.{Bor}
use Rattle.std.specs.Str.{bytes_eq}
use Rattle.std.specs.Prelude.{if◌then◌else◌}
use Rattle.farkas_cert.specs.declared.system.Row.{Row}
use Rattle.bench_parts.specs.declared.line.LineFault.{LineFault}
use Rattle.bench_parts.specs.Numbers.{entry_of}
use Rattle.bench_parts.specs.Lines.{fault_or, row_from, bound_from, with_coef}

-- coefficients more in front
abbrev pub with_coefs : List ℤ → Result Row LineFault → Result Row LineFault
with_coefs coefs (Err fault) = Err fault
with_coefs coefs (Ok row) = Ok (record { coefs = coefs ++ row.coefs; bound = row.bound })

pub with_coefs-none : (row : Result Row LineFault) → with_coefs [] row ≡ row
with_coefs-none (Err fault) = refl
with_coefs-none (Ok row) = refl

-- one coefficient more at their end
pub with_coefs-more : (coefs : List ℤ) (n : ℕ) (a : ℤ) (row : Result Row LineFault) → with_coefs (coefs ++ a ∷ []) row ≡ with_coefs coefs (with_coef n (Some a) row)
with_coefs-more coefs n a (Err fault) = refl
with_coefs-more coefs n a (Ok row) = ap (λ cs. Ok (record { coefs = cs; bound = row.bound })) (append_assoc coefs (a ∷ []) row.coefs)

-- a word that is no `<=`
pub row_from-coef : (n : ℕ) (word : List ℕ) (words : List (List ℕ)) → bytes_eq word (codes "<=") ≡ false → row_from n (word ∷ words) ≡ with_coef n (entry_of word) (row_from (n + 1) words)
row_from-coef n word words e = ap (λ b. if b then fault_or (λ z. record { coefs = []; bound = z }) (bound_from (n + 1) words) else with_coef n (entry_of word) (row_from (n + 1) words)) e

-- the word `<=`
pub row_from-bound : (n : ℕ) (word : List ℕ) (words : List (List ℕ)) → bytes_eq word (codes "<=") ≡ true → row_from n (word ∷ words) ≡ fault_or (λ z. record { coefs = []; bound = z }) (bound_from (n + 1) words)
row_from-bound n word words e = ap (λ b. if b then fault_or (λ z. record { coefs = []; bound = z }) (bound_from (n + 1) words) else with_coef n (entry_of word) (row_from (n + 1) words)) e

-- the row of the words left, where the next one is a coefficient
pub with_coefs-word : (coefs : List ℤ) (a : ℤ) (words : List (Bor (List ℕ))) (i : ℕ) (d : Bor (List ℕ)) → i < length words → bytes_eq (get_or words i d).now (codes "<=") ≡ false → entry_of (get_or words i d).now ≡ Some a → with_coefs coefs (row_from (i + 1) (map (λ w. w.now) (drop i words))) ≡ with_coefs (coefs ++ a ∷ []) (row_from (i + 1 + 1) (map (λ w. w.now) (drop (i + 1) words)))
with_coefs-word coefs a words i d below other number =
    let rest : List (List ℕ) = map (λ (w : Bor (List ℕ)). w.now) (drop (i + 1) words) in
    let next : row_from (i + 1) (map (λ (w : Bor (List ℕ)). w.now) (drop i words)) ≡ with_coef (i + 1) (Some a) (row_from (i + 1 + 1) rest) =
    ap (λ (ws : List (Bor (List ℕ))). row_from (i + 1) (map (λ w. w.now) ws)) (drop_more words i d below) ∙ row_from-coef (i + 1) (get_or words i d).now rest other ∙ ap (λ n. with_coef (i + 1) n (row_from (i + 1 + 1) rest)) number in
    ap (with_coefs coefs) next ∙ sym (with_coefs-more coefs (i + 1) a (row_from (i + 1 + 1) rest))
