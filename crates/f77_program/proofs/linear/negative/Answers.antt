use Rattle.std.proofs.Common.{◌≡◌, ◌*ℤ◌, negsuc, w64, FitsSigned, rules}
use Rattle.std.proofs.lemmas.Int.{to_z-of_z}
use Rattle.f77_scene.specs.Affine.{pairs_times}
use Rattle.f77_program.proofs.Limited.{is_form-negative}
use Rattle.f77_program.proofs.linear.negative.Goals as goal

pub new-requires : goal.new-requires
new-requires c =
    let a = c.args.a.now in
    let f : FitsSigned w64 c.small_product-constant.result = search rules in
    let value : c.small_product-constant.result ≡ negsuc 0 *ℤ a.constant = search rules in
    let loops : c.in_ok-loops.loops ≡ pairs_times (negsuc 0) a.loops = search rules in
    let params : c.in_ok-params.params ≡ pairs_times (negsuc 0) a.params = search rules in
    rw (to_z-of_z w64 c.small_product-constant.result f, value, loops, params) (is_form-negative a c.loops.ensures.form)
