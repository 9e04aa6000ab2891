-- Subscripts out of range, one access after another.
use Rattle.std.proofs.Common.{◌≡◌, ℕ, ◌+◌, ◌<◌, ◌&&◌, ℤ, true, false, int_lt, Bool, Option, Some, None, List, [], ◌∷◌, ◌++◌, length, drop, get_or, if◌then◌else◌, refl, ap, sym, ◌∙◌, arith}
use Rattle.std.specs.Prelude.{is_none}
use Rattle.std.specs.List.{list_all}
use Rattle.std.specs.Option.{option_or}
use Rattle.std.proofs.lemmas.Bool.{and_parts}
use Rattle.std.proofs.lemmas.Int.{ints}
use Rattle.std.proofs.lemmas.List.{drop_more}
use Rattle.std.proofs.lemmas.List.Folds.{list_all-append}
use Rattle.nest_tree.specs.Layout.{are_inside, bounds_of, is_inside}
use Rattle.nest_tree.specs.Tree.{Tree}
use Rattle.nest_tree.specs.declared.tree.Access.{Access}
use Rattle.nest_model.specs.Accesses.{subscript_values}
use Rattle.nest_model.specs.Instances.{Instance, instances}
use Rattle.nest_model.specs.Ranges.{IsInRange, accesses_of, is_access_inside, is_instance_inside}
use Rattle.nest_tree.specs.Limits.{line_of_work}
use Rattle.nest_tree.proofs.Wide.{option_or-assoc}
use Rattle.range_check.specs.Outside.{access_outside, accesses_outside, are_sound_accesses, first_outside, instance_outside, instances_outside, is_sound_access, outside_of, subscript_outside}
use Rattle.range_check.specs.declared.outside.OutOfRange.{OutOfRange}

pub outside-append : (tree : Tree) (loops : List ℤ) (line : ℕ) (xs ys : List Access) → accesses_outside tree loops line (xs ++ ys) ≡ option_or (accesses_outside tree loops line xs) (accesses_outside tree loops line ys)
outside-append tree loops line [] ys = refl
outside-append tree loops line (a ∷ xs) ys =
    ap (option_or (access_outside tree loops line a)) (outside-append tree loops line xs ys) ∙ sym (option_or-assoc (access_outside tree loops line a) (accesses_outside tree loops line xs) (accesses_outside tree loops line ys))

pub outside-one : (tree : Tree) (loops : List ℤ) (line : ℕ) (a : Access) → accesses_outside tree loops line (a ∷ []) ≡ access_outside tree loops line a
outside-one tree loops line a = or_none (access_outside tree loops line a)
  where
    or_none : {X : Type 0} (o : Option X) → option_or o None ≡ o
    or_none None = refl
    or_none (Some x) = refl

pub sound-append : (tree : Tree) (around : List ℕ) (loops : List ℤ) (xs ys : List Access) → are_sound_accesses tree around loops (xs ++ ys) ≡ true → (are_sound_accesses tree around loops xs ≡ true) × (are_sound_accesses tree around loops ys ≡ true)
sound-append tree around loops xs ys h =
    and_parts (are_sound_accesses tree around loops xs) (are_sound_accesses tree around loops ys) (sym (list_all-append (is_sound_access tree around loops) xs ys) ∙ h)

-- the subscripts from one on
pub outside-more : (line i : ℕ) (bounds : List (ℤ × ℤ)) (values : List ℤ) (b : ℤ × ℤ) (v : ℤ) → i < length bounds → i < length values → b ≡ get_or bounds i b → v ≡ get_or values i v →
    first_outside line (i + 1) (drop i bounds) (drop i values) ≡ option_or (subscript_outside line (i + 1) b v) (first_outside line (i + 1 + 1) (drop (i + 1) bounds) (drop (i + 1) values))
outside-more line i bounds values b v lt lt' b_is v_is =
    ap (λ bs. first_outside line (i + 1) bs (drop i values)) (drop_more bounds i b lt ∙ ap (λ x. x ∷ drop (i + 1) bounds) (sym b_is))
    ∙ ap (first_outside line (i + 1) (b ∷ drop (i + 1) bounds)) (drop_more values i v lt' ∙ ap (λ x. x ∷ drop (i + 1) values) (sym v_is))

-- none is out of range exactly where all are inside
none-or : {X : Type 0} (a b : Option X) → is_none (option_or a b) ≡ (is_none a && is_none b)
none-or None b = refl
none-or (Some x) b = refl

none-subscript : (line dimension : ℕ) (b : ℤ × ℤ) (v : ℤ) → is_none (subscript_outside line dimension b v) ≡ is_inside b v
none-subscript line dimension b v = choose (int_lt v b.0) (int_lt b.1 v) _ _ refl refl
  where
    choose : (p q : Bool) (x y : OutOfRange) → int_lt v b.0 ≡ p → int_lt b.1 v ≡ q → is_none (if p then Some x else if q then Some y else None) ≡ is_inside b v
    choose true q x y h k = grind (arith, ints)
    choose false true x y h k = grind (arith, ints)
    choose false false x y h k = grind (arith, ints)

none-first : (line dimension : ℕ) (bounds : List (ℤ × ℤ)) (values : List ℤ) → is_none (first_outside line dimension bounds values) ≡ are_inside bounds values
none-first line dimension [] values = refl
none-first line dimension (b ∷ bounds) [] = refl
none-first line dimension (b ∷ bounds) (v ∷ values) =
    none-or (subscript_outside line dimension b v) (first_outside line (dimension + 1) bounds values) ∙ ap (λ x. x && is_none (first_outside line (dimension + 1) bounds values)) (none-subscript line dimension b v)
    ∙ ap (λ x. is_inside b v && x) (none-first line (dimension + 1) bounds values)

pub none-accesses : (tree : Tree) (loops : List ℤ) (line : ℕ) (xs : List Access) → is_none (accesses_outside tree loops line xs) ≡ list_all (is_access_inside tree loops) xs
none-accesses tree loops line [] = refl
none-accesses tree loops line (a ∷ xs) =
    none-or (access_outside tree loops line a) (accesses_outside tree loops line xs) ∙ ap (λ x. x && is_none (accesses_outside tree loops line xs)) (none-first line 1 (bounds_of tree a.variable) (subscript_values tree loops a.subscripts))
    ∙ ap (λ x. is_access_inside tree loops a && x) (none-accesses tree loops line xs)

pub none-instances : (tree : Tree) (is : List Instance) → is_none (instances_outside tree is) ≡ list_all (is_instance_inside tree) is
none-instances tree [] = refl
none-instances tree (i ∷ rest) =
    none-or (instance_outside tree i) (instances_outside tree rest) ∙ ap (λ x. x && is_none (instances_outside tree rest)) (none-accesses tree i.loops (line_of_work i.what) (accesses_of i.what))
    ∙ ap (λ x. is_instance_inside tree i && x) (none-instances tree rest)

-- where one is found, not all are in range
pub some_in_range : (tree : Tree) (o : OutOfRange) → Some o ≡ outside_of tree → IsInRange tree → ⊥
some_in_range tree o is ranges =
    let found = ap is_none is ∙ none-instances tree (instances tree) ∙ ranges in
    let no : false ≡ true = found in
    cc
