-- Lists from a place on, and places by processor.
use Rattle.std.proofs.Common.{◌≡◌, ◌==◌, ℕ, zero, suc, ◌+◌, List, [], ◌∷◌, drop, refl, ap, sym, ◌∙◌, arith, if◌then◌else◌, zero-add}
use Rattle.std.specs.Prelude.{slice_get}
use Rattle.std.proofs.Math.Seq.{drop-nil}
use Rattle.std.proofs.lemmas.Bool.{eq-eqb, ne_eqb}
use Rattle.spmd_model.specs.Lawful.{Moves}

pub get_drop : {X : Type 0} (xs : List X) (n k : ℕ) → slice_get (drop n xs) k ≡ slice_get xs (n + k)
get_drop [] n k = ap (λ l. slice_get l k) (drop-nil n)
get_drop (x ∷ xs) zero k = ap (slice_get (x ∷ xs)) (sym (zero-add k))
get_drop (x ∷ xs) (suc n) k = let more : suc n + k ≡ suc (n + k) = omega arith in get_drop xs n k ∙ sym (ap (slice_get (x ∷ xs)) more)

-- one processor goes to a place, and the others stay
abbrev pub gone_to : (ℕ → ℕ) → ℕ → ℕ → ℕ → ℕ
gone_to at p n q = if q == p then n else at q

pub goes : (at : ℕ → ℕ) (p n : ℕ) → Moves at (gone_to at p n) p n
goes at p n = record {
  here = ap (λ b. if b then n else at p) (eq-eqb p p refl);
  others = λ q other. ap (λ b. if b then n else at q) (ne_eqb q p other);
}
