-- Looking up what names have.
use Rattle.std.proofs.Common.{◌≡◌, ℕ, zero, suc, ◌+◌, ◌-◌, ◌<◌, ◌≤◌, ℤ, pos, Bool, true, false, List, [], ◌∷◌, ◌++◌, length, map, get_or, drop, if◌then◌else◌, Option, Some, None, refl, sym, ap, ◌∙◌, arith, add-one}
use Rattle.std.proofs.Math.Seq.{drop-cons}
use Rattle.std.proofs.lemmas.List.{length-map}
use Rattle.std.specs.Global.{Vec}
use Rattle.std.specs.Option.{option_map}
use Rattle.std.specs.Str.{bytes_eq}
use Rattle.f77_scene.specs.Scene.{Name, value_named, bounds_named}
use Rattle.f77_program.specs.Known.{constants_from, names_of_constants, arrays_from, names_of_arrays, open_of, opened_as}
use Rattle.f77_program.specs.declared.opened.Opened.{Opened}
use Rattle.f77_program.specs.Numbered.{numbered}
use Rattle.f77_program.proofs.Mapped.{numbered-cons}

-- ---- numbers

pred : (o : Option ℕ) (k : ℕ) → option_map suc o ≡ Some k → (j : ℕ) × (o ≡ Some j) × (k ≡ suc j)
pred None k h = absurd cc
pred (Some j) k h = (j, refl, cc)

pub numbered-within : (names : List Name) (n : Name) (k : ℕ) → numbered names n ≡ Some k → (1 ≤ k) × (k ≤ length names)
numbered-within [] n k h = absurd cc
numbered-within (m ∷ names) n k h = by_test (bytes_eq m n) refl (numbered-within names n)
  where
    by_test : (b : Bool) → bytes_eq m n ≡ b → ((j : ℕ) → numbered names n ≡ Some j → (1 ≤ j) × (j ≤ length names)) → (1 ≤ k) × (k ≤ length (m ∷ names))
    by_test true e rest =
        let one : Some 1 ≡ Some k = sym (numbered-cons m names n ∙ ap (λ b. if b then Some 1 else option_map suc (numbered names n)) e) ∙ h in
        let is : 1 ≡ k = cc in
        (omega arith, omega arith)
    by_test false e rest =
        let more : option_map suc (numbered names n) ≡ Some k = sym (numbered-cons m names n ∙ ap (λ b. if b then Some 1 else option_map suc (numbered names n)) e) ∙ h in
        let p = pred (numbered names n) k more in
        let r = rest p.0 p.1 in
        (omega (arith, p.2), omega (arith, p.2, r.1))

-- what a name has, by lists side by side
abbrev pub at : {X : Type 0} → List Name → List X → Name → X → X
at [] xs n d = d
at (m ∷ names) [] n d = d
at (m ∷ names) (x ∷ xs) n d = if bytes_eq m n then x else at names xs n d

pub at-number : {X : Type 0} (names : List Name) (xs : List X) (n : Name) (d : X) (k : ℕ) → length names ≡ length xs → numbered names n ≡ Some k → at names xs n d ≡ get_or xs (k - 1) d
at-number [] xs n d k l h = absurd cc
at-number (m ∷ names) [] n d k l h = absurd (omega arith)
at-number {X} (m ∷ names) (x ∷ xs) n d k l h = by_test (bytes_eq m n) refl (at-number names xs n d)
  where
    by_test : (b : Bool) → bytes_eq m n ≡ b → ((j : ℕ) → length names ≡ length xs → numbered names n ≡ Some j → at names xs n d ≡ get_or xs (j - 1) d) → at (m ∷ names) (x ∷ xs) n d ≡ get_or (x ∷ xs) (k - 1) d
    by_test true e rest =
        let one : Some 1 ≡ Some k = sym (numbered-cons m names n ∙ ap (λ b. if b then Some 1 else option_map suc (numbered names n)) e) ∙ h in
        let is : 1 ≡ k = cc in
        rw e (ap (λ j. get_or (x ∷ xs) (j - 1) d) is)
    by_test false e rest =
        let more : option_map suc (numbered names n) ≡ Some k = sym (numbered-cons m names n ∙ ap (λ b. if b then Some 1 else option_map suc (numbered names n)) e) ∙ h in
        let p = pred (numbered names n) k more in
        let within = numbered-within names n p.0 p.1 in
        let place : suc (p.0 - 1) ≡ k - 1 = omega (arith, p.2, within.0) in
        rw e (rest p.0 (omega arith) p.1 ∙ ap (λ j. get_or (x ∷ xs) j d) place)

pub at-missing : {X : Type 0} (names : List Name) (xs : List X) (n : Name) (d : X) → numbered names n ≡ None → at names xs n d ≡ d
at-missing [] xs n d h = refl
at-missing (m ∷ names) [] n d h = refl
at-missing {X} (m ∷ names) (x ∷ xs) n d h = by_test (bytes_eq m n) refl (at-missing names xs n d)
  where
    none : (o : Option ℕ) → option_map suc o ≡ None → o ≡ None
    none None e = refl
    none (Some j) e = absurd cc

    by_test : (b : Bool) → bytes_eq m n ≡ b → (numbered names n ≡ None → at names xs n d ≡ d) → at (m ∷ names) (x ∷ xs) n d ≡ d
    by_test true e rest = absurd (let one : Some 1 ≡ None = sym (numbered-cons m names n ∙ ap (λ b. if b then Some 1 else option_map suc (numbered names n)) e) ∙ h in cc)
    by_test false e rest = rw e (rest (none (numbered names n) (sym (numbered-cons m names n ∙ ap (λ b. if b then Some 1 else option_map suc (numbered names n)) e) ∙ h)))

-- ---- constants

pub names-constants : (names : List Name) (values : List ℤ) → length names ≡ length values → names_of_constants (constants_from names values) ≡ names
names-constants [] values l = refl
names-constants (n ∷ names) [] l = absurd (omega arith)
names-constants (n ∷ names) (z ∷ values) l = ap (λ ns. n ∷ ns) (names-constants names values (omega arith))

at-constants : (names : List Name) (values : List ℤ) (n : Name) → value_named (constants_from names values) n ≡ at names values n (pos 0)
at-constants [] values n = refl
at-constants (m ∷ names) [] n = refl
at-constants (m ∷ names) (z ∷ values) n = ap (λ v. if bytes_eq m n then z else v) (at-constants names values n)

pub value-constants : (names : List Name) (values : List ℤ) (n : Name) (k : ℕ) → length names ≡ length values → numbered names n ≡ Some k → value_named (constants_from names values) n ≡ get_or values (k - 1) (pos 0)
value-constants names values n k l h = at-constants names values n ∙ at-number names values n (pos 0) k l h

pub value-missing : (names : List Name) (values : List ℤ) (n : Name) → numbered names n ≡ None → value_named (constants_from names values) n ≡ pos 0
value-missing names values n h = at-constants names values n ∙ at-missing names values n (pos 0) h

pub constants-push : (names : List Name) (values : List ℤ) (n : Name) (z : ℤ) → length names ≡ length values
    → constants_from (names ++ n ∷ []) (values ++ z ∷ []) ≡ constants_from names values ++ record { name = n; value = z } ∷ []
constants-push [] [] n z l = refl
constants-push [] (y ∷ values) n z l = absurd (omega arith)
constants-push (m ∷ names) [] n z l = absurd (omega arith)
constants-push (m ∷ names) (y ∷ values) n z l = ap (λ cs. record { name = m; value = y } ∷ cs) (constants-push names values n z (omega arith))

-- ---- arrays

pub names-arrays : (names : List Name) (bounds : List (Vec (ℤ × ℤ))) → length names ≡ length bounds → names_of_arrays (arrays_from names bounds) ≡ names
names-arrays [] bounds l = refl
names-arrays (n ∷ names) [] l = absurd (omega arith)
names-arrays (n ∷ names) (b ∷ bounds) l = ap (λ ns. n ∷ ns) (names-arrays names bounds (omega arith))

at-arrays : (names : List Name) (bounds : List (Vec (ℤ × ℤ))) (n : Name) → bounds_named (arrays_from names bounds) n ≡ at names (map (λ (b : Vec (ℤ × ℤ)). b.items) bounds) n []
at-arrays [] bounds n = refl
at-arrays (m ∷ names) [] n = refl
at-arrays (m ∷ names) (b ∷ bounds) n = ap (λ v. if bytes_eq m n then b.items else v) (at-arrays names bounds n)

pub bounds-arrays : (names : List Name) (bounds : List (Vec (ℤ × ℤ))) (n : Name) (k : ℕ) (b : Vec (ℤ × ℤ)) → length names ≡ length bounds → numbered names n ≡ Some k → b ≡ get_or bounds (k - 1) b → bounds_named (arrays_from names bounds) n ≡ b.items
bounds-arrays names bounds n k b l h is =
    let items : Vec (ℤ × ℤ) → List (ℤ × ℤ) = λ v. v.items in
    let within = numbered-within names n k h in
    at-arrays names bounds n ∙ at-number names (map items bounds) n [] k (l ∙ sym (length-map bounds items)) h ∙ get_or-map_at bounds (k - 1) b (omega arith) ∙ ap items (sym is)
  where
    get_or-map_at : (bounds : List (Vec (ℤ × ℤ))) (i : ℕ) (d : Vec (ℤ × ℤ)) → i < length bounds → get_or (map (λ (v : Vec (ℤ × ℤ)). v.items) bounds) i [] ≡ (get_or bounds i d).items
    get_or-map_at [] i d h = absurd (omega arith)
    get_or-map_at (b ∷ bounds) zero d h = refl
    get_or-map_at (b ∷ bounds) (suc i) d h = get_or-map_at bounds i d (omega arith)

pub bounds-missing : (names : List Name) (bounds : List (Vec (ℤ × ℤ))) (n : Name) → numbered names n ≡ None → bounds_named (arrays_from names bounds) n ≡ []
bounds-missing names bounds n h = at-arrays names bounds n ∙ at-missing names (map (λ (b : Vec (ℤ × ℤ)). b.items) bounds) n [] h

pub arrays-push : (names : List Name) (bounds : List (Vec (ℤ × ℤ))) (n : Name) (b : Vec (ℤ × ℤ)) → length names ≡ length bounds
    → arrays_from (names ++ n ∷ []) (bounds ++ b ∷ []) ≡ arrays_from names bounds ++ record { name = n; bounds = b.items } ∷ []
arrays-push [] [] n b l = refl
arrays-push [] (y ∷ bounds) n b l = absurd (omega arith)
arrays-push (m ∷ names) [] n b l = absurd (omega arith)
arrays-push (m ∷ names) (y ∷ bounds) n b l = ap (λ rest. record { name = m; bounds = y.items } ∷ rest) (arrays-push names bounds n b (omega arith))

-- ---- loops

pub opened_step : (opened : List Opened) (i : ℕ) (o : Opened) (n : Name) → i < length opened → o ≡ get_or opened i o
    → opened_as (drop i (map open_of opened)) n ≡ (if bytes_eq o.variable.items n then Some o.number else opened_as (drop (i + 1) (map open_of opened)) n)
opened_step opened i o n h is =
    rw (add-one) (ap (λ os. opened_as os n) (drop-cons (map open_of opened) i (open_of o) (omega (arith, length-map opened open_of)))
    ∙ ap (λ x. opened_as (x ∷ drop (suc i) (map open_of opened)) n) (get_or-map_at opened i h ∙ ap open_of (sym is)) ∙ by_test (bytes_eq o.variable.items n) refl)
  where
    get_or-map_at : (opened : List Opened) (i : ℕ) → i < length opened → get_or (map open_of opened) i (open_of o) ≡ open_of (get_or opened i o)
    get_or-map_at [] i h = absurd (omega arith)
    get_or-map_at (b ∷ opened) zero h = refl
    get_or-map_at (b ∷ opened) (suc i) h = get_or-map_at opened i (omega arith)

    by_test : (b : Bool) → bytes_eq o.variable.items n ≡ b
        → opened_as (open_of o ∷ drop (suc i) (map open_of opened)) n ≡ (if bytes_eq o.variable.items n then Some o.number else opened_as (drop (suc i) (map open_of opened)) n)
    by_test true e = rw e refl
    by_test false e = rw e refl
