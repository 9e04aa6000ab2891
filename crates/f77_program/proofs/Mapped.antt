-- The numbers of names in ordered maps.
use Rattle.std.proofs.Common.{◌≡◌, ◌≢◌, ℕ, suc, ◌+◌, Bool, true, false, List, [], ◌∷◌, ◌++◌, length, if◌then◌else◌, cond, Option, Some, None, refl, sym, ap, ◌∙◌, arith, rules}
use Rattle.std.proofs.lemmas.Map.Text.{is_eq-slice_cmp}
use Rattle.std.proofs.lemmas.Slice.Eq.{bytes_eq-Decides}
use Rattle.std.specs.BTreeMap.{is_at, insert_entry}
use Rattle.std.specs.Cmp.Lexicographic.{slice_cmp}
use Rattle.std.specs.Global.{Vec}
use Rattle.std.specs.Map.{lookup}
use Rattle.std.specs.Option.{is_some, option_map, option_or}
use Rattle.std.specs.Ordering.{nat_cmp, is_eq}
use Rattle.std.specs.Str.{bytes_eq}
use Rattle.std.specs.declared.cmp.Ordering.{Ordering}
use Rattle.std.specs.declared.cmp.Ordering.TheVariants.{Less, Equal, Greater}
use Rattle.f77_forms.proofs.Told.{same_bytes}
use Rattle.f77_scene.specs.Scene.{Name, is_among}
use Rattle.f77_program.specs.Numbered.{numbered, number_under, AreNumbered}
use Rattle.f77_program.specs.declared.numbers.Numbers.{Numbers}

-- ---- equal names

pub differ : (xs ys : List ℕ) → bytes_eq xs ys ≡ false → xs ≢ ys
differ xs ys h = search (rules, bytes_eq-Decides xs ys)

pub same_itself : (xs : List ℕ) → bytes_eq xs xs ≡ true
same_itself xs = search (rules, bytes_eq-Decides xs xs)

pub flipped : (xs ys : List ℕ) → bytes_eq xs ys ≡ bytes_eq ys xs
flipped xs ys = by_test (bytes_eq xs ys) refl
  where
    by_other : (b : Bool) → bytes_eq ys xs ≡ b → bytes_eq xs ys ≡ false → false ≡ bytes_eq ys xs
    by_other true o e = absurd (differ xs ys e (sym (same_bytes ys xs o)))
    by_other false o e = sym o

    by_test : (b : Bool) → bytes_eq xs ys ≡ b → bytes_eq xs ys ≡ bytes_eq ys xs
    by_test true e = e ∙ sym (ap (λ zs. bytes_eq zs xs) (sym (same_bytes xs ys e)) ∙ same_itself xs)
    by_test false e = e ∙ by_other (bytes_eq ys xs) refl e

-- ---- an insertion

abbrev key_cmp : Vec ℕ → Vec ℕ → Ordering
key_cmp x y = slice_cmp nat_cmp x.items y.items

abbrev pub looked_up : {X : Type 0} → List ℕ → List (Vec ℕ × X) → Option X
looked_up name entries = lookup (is_at (λ key. slice_cmp nat_cmp name key.items)) entries

picks : {X : Type 0} (t b : Bool) (x y : X) → t ≡ b → cond t x y ≡ (if b then x else y)
picks t true x y e = rw e refl
picks t false x y e = rw e refl

tested : (xs ys : List ℕ) (b : Bool) → bytes_eq xs ys ≡ b → is_eq (slice_cmp nat_cmp xs ys) ≡ b
tested xs ys b e = is_eq-slice_cmp xs ys ∙ e

-- behind an entry with a lesser key
inserted_behind : {X : Type 0} (name key other : List ℕ) (n v : X) (found rest : Option X) → slice_cmp nat_cmp key other ≡ Greater → found ≡ (if bytes_eq name key then Some n else rest)
    → cond (is_eq (slice_cmp nat_cmp name other)) (Some v) found ≡ (if bytes_eq name key then Some n else cond (is_eq (slice_cmp nat_cmp name other)) (Some v) rest)
inserted_behind name key other n v found rest g f = by_test (bytes_eq name other) refl
  where
    apart : bytes_eq key other ≡ false
    apart = sym (is_eq-slice_cmp key other) ∙ ap is_eq g

    by_key : (b : Bool) → bytes_eq name key ≡ b → bytes_eq name other ≡ true → bytes_eq name key ≡ false
    by_key true e o = absurd (differ key other apart (sym (same_bytes name key e) ∙ same_bytes name other o))
    by_key false e o = e

    by_test : (b : Bool) → bytes_eq name other ≡ b → cond (is_eq (slice_cmp nat_cmp name other)) (Some v) found ≡ (if bytes_eq name key then Some n else cond (is_eq (slice_cmp nat_cmp name other)) (Some v) rest)
    by_test true e = rw (tested name other true e) (rw (by_key (bytes_eq name key) refl e) refl)
    by_test false e = rw (tested name other false e) f

pub lookup-inserted : {X : Type 0} (entries : List (Vec ℕ × X)) (key : Vec ℕ) (n : X) (name : List ℕ) → looked_up key.items entries ≡ None
    → looked_up name (insert_entry key_cmp entries key n) ≡ (if bytes_eq name key.items then Some n else looked_up name entries)
lookup-inserted [] key n name h = picks (is_eq (slice_cmp nat_cmp name key.items)) (bytes_eq name key.items) (Some n) None (is_eq-slice_cmp name key.items)
lookup-inserted {X} (e ∷ es) key n name h = by_order (slice_cmp nat_cmp key.items e.0.items) refl (lookup-inserted es key n name)
  where
    by_order : (o : Ordering) → slice_cmp nat_cmp key.items e.0.items ≡ o → (looked_up key.items es ≡ None → looked_up name (insert_entry key_cmp es key n) ≡ (if bytes_eq name key.items then Some n else looked_up name es))
        → looked_up name (insert_entry key_cmp (e ∷ es) key n) ≡ (if bytes_eq name key.items then Some n else looked_up name (e ∷ es))
    by_order Less c rest = rw c (picks (is_eq (slice_cmp nat_cmp name key.items)) (bytes_eq name key.items) (Some n) (looked_up name (e ∷ es)) (is_eq-slice_cmp name key.items))
    by_order Equal c rest = absurd (let there : Some e.1 ≡ None = sym (ap (λ o. cond (is_eq o) (Some e.1) (looked_up key.items es)) c) ∙ h in cc)
    by_order Greater c rest =
        let absent : looked_up key.items es ≡ None = sym (ap (λ o. cond (is_eq o) (Some e.1) (looked_up key.items es)) c) ∙ h in
        rw c (inserted_behind name key.items e.0.items n e.1 (looked_up name (insert_entry key_cmp es key n)) (looked_up name es) c (rest absent))

-- ---- a number for what has none

pub without : {X : Type 0} (o : Option X) → o ≡ option_or o None
without None = refl
without (Some x) = refl

pub missing : (o : Option ℕ) → is_some o ≡ false → o ≡ None
missing None h = refl
missing (Some k) h = absurd cc

-- what has one keeps it
pub kept : (found : Name → Option ℕ) (n : Name) (k : ℕ) (q : Name) → is_some (found n) ≡ true → found q ≡ option_or (found q) (if bytes_eq q n then Some k else None)
kept found n k q there = by_test (bytes_eq q n) refl
  where
    same : (o : Option ℕ) → is_some o ≡ true → o ≡ option_or o (Some k)
    same None h = absurd cc
    same (Some x) h = refl

    by_test : (b : Bool) → bytes_eq q n ≡ b → found q ≡ option_or (found q) (if bytes_eq q n then Some k else None)
    by_test true e = rw e (same (found q) (ap (λ m. is_some (found m)) (same_bytes q n e) ∙ there))
    by_test false e = rw e (without (found q))

pub gained : (found : Name → Option ℕ) (n : Name) (k : ℕ) (q : Name) → found n ≡ None → (if bytes_eq q n then Some k else found q) ≡ option_or (found q) (if bytes_eq q n then Some k else None)
gained found n k q none = by_test (bytes_eq q n) refl
  where
    by_test : (b : Bool) → bytes_eq q n ≡ b → (if bytes_eq q n then Some k else found q) ≡ option_or (found q) (if bytes_eq q n then Some k else None)
    by_test true e =
        let missing : found q ≡ None = ap found (same_bytes q n e) ∙ none in
        rw e (rw missing refl)
    by_test false e = rw e (without (found q))

-- ---- one more name

pub numbered-cons : (m : Name) (names : List Name) (q : Name) → numbered (m ∷ names) q ≡ (if bytes_eq m q then Some 1 else option_map suc (numbered names q))
numbered-cons m names q = by_test (bytes_eq m q) (is_among names q) refl refl
  where
    by_test : (b t : Bool) → bytes_eq m q ≡ b → is_among names q ≡ t → numbered (m ∷ names) q ≡ (if bytes_eq m q then Some 1 else option_map suc (numbered names q))
    by_test true t e h = rw e refl
    by_test false true e h = rw e (rw h refl)
    by_test false false e h = rw e (rw h refl)

-- it has the next number, unless it stands in front already
pub numbered-more : (names : List Name) (n q : Name) → numbered (names ++ n ∷ []) q ≡ option_or (numbered names q) (if bytes_eq n q then Some (length names + 1) else None)
numbered-more [] n q = by_test (bytes_eq n q) refl
  where
    by_test : (b : Bool) → bytes_eq n q ≡ b → numbered (n ∷ []) q ≡ (if bytes_eq n q then Some 1 else None)
    by_test true e = rw e refl
    by_test false e = rw e refl
numbered-more (m ∷ names) n q =
    numbered-cons m (names ++ n ∷ []) q ∙ ap (λ o. if bytes_eq m q then Some 1 else option_map suc o) (numbered-more names n q)
    ∙ joined (numbered names q) (bytes_eq m q) (bytes_eq n q) ∙ ap (λ o. option_or o (if bytes_eq n q then Some (length names + 1 + 1) else None)) (sym (numbered-cons m names q))
    ∙ ap (λ k. option_or (numbered (m ∷ names) q) (if bytes_eq n q then Some k else None)) (omega arith)
  where
    joined : (o : Option ℕ) (b t : Bool) → (if b then Some 1 else option_map suc (option_or o (if t then Some (length names + 1) else None))) ≡ option_or (if b then Some 1 else option_map suc o) (if t then Some (length names + 1 + 1) else None)
    joined o true t = refl
    joined (Some k) false t = refl
    joined None false true = ap (λ k. Some k) (omega arith)
    joined None false false = refl

pub AreNumbered-more : (old new : Numbers) (names : List Name) (n : Name) → AreNumbered old names
    → ((q : Name) → number_under new q ≡ option_or (number_under old q) (if bytes_eq q n then Some (length names + 1) else None)) → AreNumbered new (names ++ n ∷ [])
AreNumbered-more old new names n good made q =
    made q ∙ ap (λ o. option_or o (if bytes_eq q n then Some (length names + 1) else None)) (good q)
    ∙ ap (λ b. option_or (numbered names q) (if b then Some (length names + 1) else None)) (flipped q n) ∙ sym (numbered-more names n q)
