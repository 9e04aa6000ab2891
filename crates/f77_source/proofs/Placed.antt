-- How an array is distributed, by the directives from the last to the first.
use Rattle.std.proofs.Common.{◌≡◌, ℕ, zero, suc, ◌+◌, ◌-◌, ◌≤◌, ◌<◌, nat_le, Bool, true, false, ◌&&◌, List, [], ◌∷◌, ◌++◌, length, drop, get_or, reverse, if◌then◌else◌, Option, Some, None, refl, sym, ap, subst, ◌∙◌, arith, append_assoc}
use Rattle.std.proofs.lemmas.Bool.Decides.{nat_tests}
use Rattle.std.proofs.lemmas.List.{drop_more, reverse-append}
use Rattle.std.specs.Option.{option_map}
use Rattle.std.specs.Str.{bytes_eq}
use Rattle.nest_tree.specs.declared.tree.Spread.TheVariants.{Block}
use Rattle.f77_scene.specs.Directives.{Placing, items_text, directive_text, placings, placed_by, placed_after, placed}
use Rattle.f77_scene.specs.Scene.{Name}
use Rattle.f77_program.specs.Numbered.{numbered}
use Rattle.f77_program.proofs.Mapped.{numbered-cons}
use Rattle.f77_source.specs.Placings.{is_before, directive_number, chosen, item_text}

-- ---- the least number is that of the last directive

-- a number, if any, is 1 at least
abbrev IsCounted : Option ℕ → Type 0
IsCounted None = Unit {0}
IsCounted (Some k) = 1 ≤ k

numbered-counted : (texts : List Name) (n : Name) → IsCounted (numbered texts n)
numbered-counted [] n = tt
numbered-counted (m ∷ texts) n = by_test (bytes_eq m n) (numbered texts n) (numbered-cons m texts n)
  where
    by_test : (b : Bool) (o : Option ℕ) → numbered (m ∷ texts) n ≡ (if b then Some 1 else option_map suc o) → IsCounted (numbered (m ∷ texts) n)
    by_test true o e = subst IsCounted (sym e) (omega arith)
    by_test false None e = subst IsCounted (sym e) tt
    by_test false (Some k) e = subst IsCounted (sym e) (omega arith)

none_before_one : (o : Option ℕ) → IsCounted o → is_before o (Some 1) ≡ false
none_before_one None h = refl
none_before_one (Some k) h = grind (arith, nat_tests)

one_before : (o : Option ℕ) → IsCounted o → is_before (Some 1) (option_map suc o) ≡ true
one_before None h = refl
one_before (Some k) h = grind (arith, nat_tests)

both_later : (o p : Option ℕ) → is_before (option_map suc o) (option_map suc p) ≡ is_before o p
both_later None p = refl
both_later (Some k) None = refl
both_later (Some k) (Some j) = grind (arith, nat_tests)

number-counted : (texts : List Name) (n : Name) (dimensions : ℕ) (q : Placing) → IsCounted (directive_number texts n dimensions q)
number-counted texts n dimensions q = by_rank (nat_le q.0 dimensions) (numbered-counted texts (directive_text n dimensions q))
  where
    by_rank : (r : Bool) → IsCounted (numbered texts (directive_text n dimensions q)) → IsCounted (if r then numbered texts (directive_text n dimensions q) else None)
    by_rank true h = h
    by_rank false h = tt

number-cons : (t : Name) (texts : List Name) (n : Name) (dimensions : ℕ) (q : Placing)
    → directive_number (t ∷ texts) n dimensions q ≡ (if nat_le q.0 dimensions && bytes_eq t (directive_text n dimensions q) then Some 1 else option_map suc (directive_number texts n dimensions q))
number-cons t texts n dimensions q = by_rank (nat_le q.0 dimensions)
  where
    text : Name
    text = directive_text n dimensions q

    by_rank : (r : Bool) → (if r then numbered (t ∷ texts) text else None) ≡ (if r && bytes_eq t text then Some 1 else option_map suc (if r then numbered texts text else None))
    by_rank true = numbered-cons t texts text
    by_rank false = refl

-- nothing comes in front of the first text
settled : (texts : List Name) (n : Name) (dimensions : ℕ) (ps : List Placing) (p : Placing) → chosen texts n dimensions ps (Some 1) p ≡ p
settled texts n dimensions [] p = refl
settled texts n dimensions (q ∷ ps) p =
    let number = directive_number texts n dimensions q in
    ap (λ b. if b then chosen texts n dimensions ps number q else chosen texts n dimensions ps (Some 1) p) (none_before_one number (number-counted texts n dimensions q)) ∙ settled texts n dimensions ps p

-- one directive more, which comes later than the others
later : (t : Name) (texts : List Name) (n : Name) (dimensions : ℕ) (ps : List Placing) (first : Option ℕ) (p : Placing) → IsCounted first
    → chosen (t ∷ texts) n dimensions ps (option_map suc first) p ≡ placed_by ps t n dimensions (chosen texts n dimensions ps first p)
later t texts n dimensions [] first p h = refl
later t texts n dimensions (q ∷ ps) first p h =
    ap left (number-cons t texts n dimensions q)
    ∙ by_cases (nat_le q.0 dimensions && bytes_eq t (directive_text n dimensions q)) (is_before number first) refl (later t texts n dimensions ps first p h)
    (later t texts n dimensions ps number q (number-counted texts n dimensions q))
  where
    number : Option ℕ
    number = directive_number texts n dimensions q

    left : Option ℕ → Placing
    left o = if is_before o (option_map suc first) then chosen (t ∷ texts) n dimensions ps o q else chosen (t ∷ texts) n dimensions ps (option_map suc first) p

    right : Bool → Bool → Placing
    right b v = if b then q else placed_by ps t n dimensions (if v then chosen texts n dimensions ps number q else chosen texts n dimensions ps first p)

    by_cases : (b v : Bool) → is_before number first ≡ v → chosen (t ∷ texts) n dimensions ps (option_map suc first) p ≡ placed_by ps t n dimensions (chosen texts n dimensions ps first p)
        → chosen (t ∷ texts) n dimensions ps (option_map suc number) q ≡ placed_by ps t n dimensions (chosen texts n dimensions ps number q) → left (if b then Some 1 else option_map suc number) ≡ right b v
    by_cases true v g skip take =
        ap (λ b. if b then chosen (t ∷ texts) n dimensions ps (Some 1) q else chosen (t ∷ texts) n dimensions ps (option_map suc first) p) (one_before first h) ∙ settled (t ∷ texts) n dimensions ps q
    by_cases false true g skip take =
        ap (λ b. if b then chosen (t ∷ texts) n dimensions ps (option_map suc number) q else chosen (t ∷ texts) n dimensions ps (option_map suc first) p) (both_later number first ∙ g) ∙ take
    by_cases false false g skip take =
        ap (λ b. if b then chosen (t ∷ texts) n dimensions ps (option_map suc number) q else chosen (t ∷ texts) n dimensions ps (option_map suc first) p) (both_later number first ∙ g) ∙ skip

none_chosen : (n : Name) (dimensions : ℕ) (ps : List Placing) (p : Placing) → chosen [] n dimensions ps None p ≡ p
none_chosen n dimensions [] p = refl
none_chosen n dimensions (q ∷ ps) p =
    ap (λ o. if is_before o None then chosen [] n dimensions ps o q else chosen [] n dimensions ps None p) (no_number (nat_le q.0 dimensions)) ∙ none_chosen n dimensions ps p
  where
    nothing : Option ℕ
    nothing = None

    no_number : (r : Bool) → (if r then nothing else nothing) ≡ nothing
    no_number true = refl
    no_number false = refl

placed_after-push : (texts : List Name) (t n : Name) (dimensions : ℕ) (p : Placing) → placed_after (texts ++ t ∷ []) n dimensions p ≡ placed_by placings t n dimensions (placed_after texts n dimensions p)
placed_after-push [] t n dimensions p = refl
placed_after-push (x ∷ texts) t n dimensions p = placed_after-push texts t n dimensions (placed_by placings x n dimensions p)

pub chosen-placed : (texts : List Name) (n : Name) (dimensions : ℕ) → chosen texts n dimensions placings None (dimensions, Block) ≡ placed (reverse texts) n dimensions
chosen-placed [] n dimensions = none_chosen n dimensions placings (dimensions, Block)
chosen-placed (t ∷ texts) n dimensions =
    later t texts n dimensions placings None (dimensions, Block) tt ∙ ap (placed_by placings t n dimensions) (chosen-placed texts n dimensions)
    ∙ sym (placed_after-push (reverse texts) t n dimensions (dimensions, Block)) ∙ ap (λ ts. placed_after ts n dimensions (dimensions, Block)) (sym (reverse-append (t ∷ []) texts))

-- ---- the text of a directive

items_text-first : (count first : ℕ) (p : Placing) → 0 < count → items_text count first p ≡ 44 ∷ item_text first p ++ items_text (count - 1) (suc first) p
items_text-first count first p h = by_number count h
  where
    by_number : (k : ℕ) → 0 < k → items_text k first p ≡ 44 ∷ item_text first p ++ items_text (k - 1) (suc first) p
    by_number zero g = absurd (omega arith)
    by_number (suc k) g = ap (λ j. 44 ∷ item_text first p ++ items_text j (suc first) p) (omega arith)

-- one item more
pub items_text-more : (text : List ℕ) (dimensions i : ℕ) (p : Placing) → i < dimensions
    → ((text ++ 44 ∷ []) ++ item_text (i + 1) p) ++ items_text (dimensions - (i + 1)) (i + 1 + 1) p ≡ text ++ items_text (dimensions - i) (i + 1) p
items_text-more text dimensions i p h =
    let first = items_text-first (dimensions - i) (i + 1) p (omega arith) in
    let count : dimensions - i - 1 ≡ dimensions - (i + 1) = omega arith in
    let next : suc (i + 1) ≡ i + 1 + 1 = omega arith in
    let rest : items_text (dimensions - i - 1) (suc (i + 1)) p ≡ items_text (dimensions - (i + 1)) (i + 1 + 1) p = ap (λ k. items_text k (suc (i + 1)) p) count ∙ ap (λ k. items_text (dimensions - (i + 1)) k p) next in
    ap (λ xs. xs ++ items_text (dimensions - (i + 1)) (i + 1 + 1) p) (append_assoc text (44 ∷ []) (item_text (i + 1) p)) ∙ append_assoc text (44 ∷ item_text (i + 1) p) (items_text (dimensions - (i + 1)) (i + 1 + 1) p)
    ∙ ap (λ xs. text ++ xs) (sym (first ∙ ap (λ xs. 44 ∷ item_text (i + 1) p ++ xs) rest))

-- ---- candidates, one after another

pub chosen-more : (texts : List Name) (n : Name) (dimensions : ℕ) (ps : List Placing) (i : ℕ) (d : Placing) (first : Option ℕ) (p : Placing) → i < length ps
    → chosen texts n dimensions (drop i ps) first p
    ≡ (if is_before (directive_number texts n dimensions (get_or ps i d)) first then chosen texts n dimensions (drop (i + 1) ps) (directive_number texts n dimensions (get_or ps i d)) (get_or ps i d) else chosen texts n dimensions (drop (i + 1) ps) first p)
chosen-more texts n dimensions ps i d first p lt = ap (λ qs. chosen texts n dimensions qs first p) (drop_more ps i d lt)
