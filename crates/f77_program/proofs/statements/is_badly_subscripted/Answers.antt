use Rattle.std.proofs.Common.{◌≡◌, ◌==◌, ◌&&◌, not, length, map, sym, ap, ◌∙◌, arith}
use Rattle.std.proofs.lemmas.List.{length-map}
use Rattle.f77_forms.specs.View.{expression_of}
use Rattle.f77_scene.specs.Scene.{is_array, bounds_named}
use Rattle.f77_program.specs.Marks.{has_other_rank}
use Rattle.f77_program.proofs.Parted.{listed_arguments}
use Rattle.f77_program.proofs.statements.is_badly_subscripted.Goals as goal

pub returns : goal.returns
returns c =
    let s = c.args.known.now in
    let t = c.args.target.now in
    let es = map expression_of t.arguments.items in
    let count : c.len.result ≡ length es = omega (arith, length-map t.arguments.items expression_of, c.len.ensures) in
    c.is_bad_rank.ensures ∙ ap (λ n. has_other_rank s n c.len.result) c.deref.ensures.value ∙ ap (has_other_rank s t.name.items) count
    ∙ ap (λ fs. is_array s t.name.items && not (length fs == length (bounds_named s.arrays t.name.items))) (sym (listed_arguments es))
