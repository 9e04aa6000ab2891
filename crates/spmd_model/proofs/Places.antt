-- Places that differ at one processor.
use Rattle.std.proofs.Common.{ℕ, cond, refl, ap}
use Rattle.std.proofs.lemmas.Bool.{eq-eqb, ne_eqb}
use Rattle.spmd_model.specs.Lawful.{Moves, put}

pub put_moves : (at : ℕ → ℕ) (p n : ℕ) → Moves at (put at p n) p n
put_moves at p n = record {
  here = ap (λ b. cond b n (at p)) (eq-eqb p p refl);
  others = λ q ne. ap (λ b. cond b n (at q)) (ne_eqb q p ne);
}
