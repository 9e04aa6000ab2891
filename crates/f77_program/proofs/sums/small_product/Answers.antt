use Rattle.std.proofs.Common.{◌*ℤ◌, ◌≤◌, w64, FitsSigned, unsigned_abs, arith, refl}
use Rattle.std.proofs.lemmas.Bool.Decides.{nat_tests}
use Rattle.std.proofs.lemmas.Int.{to_z-of_z, fits_signed_mul}
use Rattle.f77_program.proofs.sums.small_product.Goals as goal

pub returns : goal.returns
returns c =
    let a = c.args.a in
    let b = c.args.b in
    let f : FitsSigned w64 a = c.ranges.a in
    let g : FitsSigned w64 b = c.ranges.b in
    let m : unsigned_abs a ≤ 2147483647 = grind (arith, nat_tests, c.requires.a) in
    let n : unsigned_abs b ≤ 2147483647 = grind (arith, nat_tests, c.requires.b) in
    let h : FitsSigned w64 (a *ℤ b) = fits_signed_mul w64 a b 2147483647 2147483647 m n (omega arith) in
    rw (to_z-of_z w64 a f, to_z-of_z w64 b g, to_z-of_z w64 (a *ℤ b) h) refl
