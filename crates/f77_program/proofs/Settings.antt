-- Settings of names.
use Rattle.std.proofs.Common.{◌≡◌, ℤ, Bool, true, false, ◌||◌, List, [], ◌∷◌, ◌++◌, map, if◌then◌else◌, refl, ap, ◌∙◌}
use Rattle.std.proofs.lemmas.List.{reverse-append}
use Rattle.std.specs.Str.{bytes_eq}
use Rattle.nest_tree.specs.Tree.{Constant}
use Rattle.f77_scene.specs.Scene.{Name, is_among, value_named}
use Rattle.f77_scene.specs.Statements.{value_set}
use Rattle.f77_program.specs.Known.{names_of_constants}
use Rattle.f77_program.specs.Wholes.{pair_of, settings_of}

value_set-last : (settings : List (Name × ℤ)) (m : Name) (z : ℤ) (n : Name) (written : ℤ) → value_set (settings ++ (m, z) ∷ []) n written ≡ (if bytes_eq m n then z else value_set settings n written)
value_set-last [] m z n written = refl
value_set-last ((k, v) ∷ settings) m z n written = value_set-last settings m z n (if bytes_eq k n then v else written)

pub value_set-found : (constants : List Constant) (n : Name) (written : ℤ) → value_set (settings_of constants) n written ≡ (if is_among (names_of_constants constants) n then value_named constants n else written)
value_set-found [] n written = refl
value_set-found (c ∷ constants) n written =
    ap (λ settings. value_set settings n written) (reverse-append (pair_of c ∷ []) (map pair_of constants)) ∙ value_set-last (settings_of constants) c.name c.value n written
    ∙ ap (λ z. if bytes_eq c.name n then c.value else z) (value_set-found constants n written) ∙ joined (bytes_eq c.name n) (is_among (names_of_constants constants) n)
  where
    joined : (b t : Bool) → (if b then c.value else (if t then value_named constants n else written)) ≡ (if b || t then (if b then c.value else value_named constants n) else written)
    joined true t = refl
    joined false t = refl
