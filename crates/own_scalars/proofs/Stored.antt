-- A scalar that isn't stored in a loop can't be private there.
use Rattle.std.proofs.Common.{◌≡◌, ℕ, Bool, true, false, ◌&&◌, ◌||◌, not, refl, ap}
use Rattle.std.specs.Prelude.{if◌then◌else◌, is_none}
use Rattle.nest_tree.specs.Tree.{assign, print, Statement, Statements, do_loop, work, continue, done, next}
use Rattle.own_scalars.specs.OwnScalars.{has_access, is_private, is_stored_first, loads, some_in, some_of, stores}

pub neither : (a b : Bool) → (a || b) ≡ false → (a ≡ false) × (b ≡ false)
neither true b e = absurd (cc)
neither false b e = (refl, e)

mutual
  unstored : (v : ℕ) (s : Statement) → some_in (stores v) s ≡ false → is_stored_first v s ≡ false
  unstored v (do_loop head body) e = unstored_private v body e
  unstored v (work (assign a)) e = ap (λ b. b && not (loads v a.value) && is_none a.guard) e
  unstored v (work (print p)) e = refl
  unstored v (continue line) e = refl

  pub unstored_private : (v : ℕ) (ss : Statements) → some_of (stores v) ss ≡ false → is_private v ss ≡ false
  unstored_private v done e = refl
  unstored_private v (next s rest) e =
      let parts = neither (some_in (stores v) s) (some_of (stores v) rest) e in
      elim (some_in (has_access v) s) as (λ b. (if b then is_stored_first v s else is_private v rest) ≡ false)
      [ true ↦ unstored v s parts.0 | false ↦ unstored_private v rest parts.1 ]
