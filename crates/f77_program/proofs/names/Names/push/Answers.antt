use Rattle.std.proofs.Common.{◌≡◌, Some, None, [], ◌∷◌, ◌++◌, ◌+◌, length, arith, ap, ◌∙◌, if◌then◌else◌}
use Rattle.std.specs.Option.{option_or}
use Rattle.std.specs.Str.{bytes_eq}
use Rattle.std.proofs.lemmas.List.{length-map, map_push}
use Rattle.f77_scene.specs.Scene.{Name}
use Rattle.f77_program.specs.Numbered.{number_under, AreNumbered, texts_of}
use Rattle.f77_program.proofs.Mapped.{AreNumbered-more}
use Rattle.f77_program.proofs.names.Names.push.Goals as goal

pub invariant_of-self-in-Ok : goal.invariant_of-self-in-Ok
invariant_of-self-in-Ok c =
    let name = c.args.name.now in
    let names = c.self.inside.names.items in
    let next : c.len-number.result ≡ length (texts_of names) + 1 = grind (arith, length-map names (λ w. w.items)) in
    let there : (q : Name) → number_under c.put.new.self q ≡ option_or (number_under c.self.inside.numbers q) (if bytes_eq q name then Some (length (texts_of names) + 1) else None) =
    λ q. c.in-Ok.ensures.there q ∙ ap (λ k. option_or (number_under c.self.inside.numbers q) (if bytes_eq q name then Some k else None)) next in
    let more : AreNumbered c.put.new.self (texts_of names ++ name ∷ []) = AreNumbered-more c.self.inside.numbers c.put.new.self (texts_of names) name c.self.invariant there in
    rw c.in_ok-push.ensures.items (rw (map_push (λ w. w.items) names c.in_ok-from_slice.field-0) (rw c.in_ok-from_slice.ensures.items more))
