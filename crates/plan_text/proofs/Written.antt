-- Items written one by one.
use Rattle.std.proofs.Common.{◌≡◌, ℕ, zero, suc, ◌+◌, ◌<◌, true, List, [], ◌∷◌, ◌++◌, length, get_or, take, refl, sym, ap, ◌∙◌, append-nil, append_assoc, arith}
use Rattle.std.proofs.lemmas.List.{length-take, take_more}
use Rattle.std.proofs.lemmas.List.Concat.{flat_map-append}
use Rattle.plan_text.specs.PlanText.{numbered, text_of, zipped}
use Rattle.plan_text.proofs.Counting.{numbered-append}

module _ {X : Type 0} (lines : ℕ → X → List (List ℕ)) where
  -- the lines of one item more
  more_items : (xs : List X) (i : ℕ) (x : X) → i < length xs → x ≡ get_or xs i x → text_of (numbered lines 1 (take (i + 1) xs)) ≡ text_of (numbered lines 1 (take i xs)) ++ text_of (lines (i + 1) x)
  more_items xs i x lt is =
      let place : 1 + length (take i xs) ≡ i + 1 = omega (arith, length-take i xs, lt) in
      ap (λ ys. text_of (numbered lines 1 ys)) (take_more xs i x lt ∙ ap (λ y. take i xs ++ y ∷ []) (sym is))
      ∙ ap text_of (numbered-append lines (λ y. true) 1 (take i xs) (x ∷ []) ∙ ap (λ ls. numbered lines 1 (take i xs) ++ ls) (append-nil (lines (1 + length (take i xs)) x)) ∙ ap (λ k. numbered lines 1 (take i xs) ++ lines k x) place)
      ∙ flat_map-append (λ l. l ++ 10 ∷ []) (numbered lines 1 (take i xs)) (lines (i + 1) x)

  pub item_written : (xs : List X) (i : ℕ) (x : X) (start out after : List ℕ) → i < length xs → x ≡ get_or xs i x → out ≡ start ++ text_of (numbered lines 1 (take i xs)) → after ≡ out ++ text_of (lines (i + 1) x) → after ≡ start ++ text_of (numbered lines 1 (take (i + 1) xs))
  item_written xs i x start out after lt is before more =
      more ∙ ap (λ o. o ++ text_of (lines (i + 1) x)) before ∙ append_assoc start (text_of (numbered lines 1 (take i xs))) (text_of (lines (i + 1) x)) ∙ ap (λ t. start ++ t) (sym (more_items xs i x lt is))

-- a line and its end
pub line_written : (line out middle after : List ℕ) → middle ≡ out ++ line → after ≡ middle ++ 10 ∷ [] → after ≡ out ++ text_of (line ∷ [])
line_written line out middle after first last = last ∙ ap (λ m. m ++ 10 ∷ []) first ∙ append_assoc out line (10 ∷ []) ∙ ap (λ t. out ++ t) (sym (append-nil (line ++ 10 ∷ [])))

-- pairs of two lists of one length
pub zipped-length : {X Y : Type 0} (xs : List X) (ys : List Y) → length xs ≡ length ys → length (zipped xs ys) ≡ length xs
zipped-length [] ys h = refl
zipped-length (x ∷ xs) [] h = absurd (omega arith)
zipped-length (x ∷ xs) (y ∷ ys) h = (let rest = zipped-length xs ys (omega arith) in omega (arith, rest))

abbrev pub pair : {X Y : Type 0} → X → Y → X × Y
pair a b = (a, b)

pub zipped-at : {X Y : Type 0} (xs : List X) (ys : List Y) (i : ℕ) (x : X) (y : Y) → i < length xs → length xs ≡ length ys → x ≡ get_or xs i x → y ≡ get_or ys i y → pair x y ≡ get_or (zipped xs ys) i (pair x y)
zipped-at [] ys i x y lt long is there = absurd (omega arith)
zipped-at (a ∷ xs) [] i x y lt long is there = absurd (omega arith)
zipped-at (a ∷ xs) (b ∷ ys) zero x y lt long is there = ap (λ z. pair z y) is ∙ ap (pair a) there
zipped-at (a ∷ xs) (b ∷ ys) (suc i) x y lt long is there = zipped-at xs ys i x y (omega arith) (omega arith) is there

-- the line in front of items, and these
pub headed_written : (line rest old middle after : List ℕ) → middle ≡ old ++ line → after ≡ middle ++ 10 ∷ [] → after ++ rest ≡ old ++ ((line ++ 10 ∷ []) ++ rest)
headed_written line rest old middle after first last =
    ap (λ a. a ++ rest) (last ∙ ap (λ m. m ++ 10 ∷ []) first ∙ append_assoc old line (10 ∷ [])) ∙ append_assoc old (line ++ 10 ∷ []) rest

-- five parts, one behind another
pub five_written : (a b c d e : List (List ℕ)) (start o1 o2 o3 o4 o5 : List ℕ) → start ≡ [] → o1 ≡ start ++ text_of a → o2 ≡ o1 ++ text_of b → o3 ≡ o2 ++ text_of c → o4 ≡ o3 ++ text_of d → o5 ≡ o4 ++ text_of e → o5 ≡ text_of (a ++ (b ++ (c ++ (d ++ e))))
five_written a b c d e start o1 o2 o3 o4 o5 empty p1 p2 p3 p4 p5 =
    let ended = λ (x y : List (List ℕ)). flat_map-append (λ l. l ++ 10 ∷ []) x y in
    let front = p1 ∙ ap (λ o. o ++ text_of a) empty in
    let all = p5 ∙ ap (λ o. o ++ text_of e) (p4 ∙ ap (λ o. o ++ text_of d) (p3 ∙ ap (λ o. o ++ text_of c) (p2 ∙ ap (λ o. o ++ text_of b) front))) in
    all
    ∙ append_assoc (text_of a ++ text_of b ++ text_of c) (text_of d) (text_of e)
    ∙ append_assoc (text_of a ++ text_of b) (text_of c) (text_of d ++ text_of e)
    ∙ append_assoc (text_of a) (text_of b) (text_of c ++ (text_of d ++ text_of e))
    ∙ ap (λ t. text_of a ++ (text_of b ++ (text_of c ++ t))) (sym (ended d e))
    ∙ ap (λ t. text_of a ++ (text_of b ++ t)) (sym (ended c (d ++ e)))
    ∙ ap (λ t. text_of a ++ t) (sym (ended b (c ++ (d ++ e))))
    ∙ sym (ended a (b ++ (c ++ (d ++ e))))
