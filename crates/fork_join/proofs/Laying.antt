-- Stores laid over memory, and the cells that have one.
use Rattle.std.proofs.Common.{◌≡◌, ◌≢◌, ◌==◌, ◌||◌, ℕ, zero, suc, ◌+◌, ◌<◌, ◌≤◌, ℤ, pos, Bool, true, false, List, [], ◌∷◌, ◌++◌, append-nil, append_assoc, if◌then◌else◌, length, length-append, length-set, set, get_or, refl, replicate, sym, ◌∙◌, ap, inl, inr, arith, sum_by}
use Rattle.std.specs.List.{range_with_len}
use Rattle.std.proofs.lemmas.Bool.{cases_Bool, cases_eq, eq-eqb, ne_eqb}
use Rattle.std.proofs.lemmas.Grind.{flat_map-append}
use Rattle.std.proofs.lemmas.List.{ext_get_or, get_or-set_other, get_or-set_same, map-append}
use Rattle.std.proofs.lemmas.List.Folds.{list_any-append}
use Rattle.std.proofs.lemmas.List.FromFn.{length-range_with_len}
use Rattle.std.proofs.lemmas.List.Sums.{fold-append, sum_by-cons, sum_by-set}
use Rattle.nest_model.specs.Memory.{cell_value}
use Rattle.instance_runs.proofs.LoadLists.{range_more}
use Rattle.fork_join.specs.Overlays.{AreMarked, is_among, is_marked, laid_in, stores_to, stretched, unmarked}

pub laid-append : (xs ys : List (ℕ × ℤ)) (memory : List ℤ) → laid_in (xs ++ ys) memory ≡ laid_in ys (laid_in xs memory)
laid-append xs ys memory = fold-append (λ cells s. set cells s.0 s.1) memory xs ys

pub length-laid : (stores : List (ℕ × ℤ)) (memory : List ℤ) → length (laid_in stores memory) ≡ length memory
length-laid [] memory = refl
length-laid (s ∷ rest) memory = length-laid rest (set memory s.0 s.1) ∙ length-set memory s.0 s.1

-- ---- among cells

or_true : (b : Bool) → (b || true) ≡ true
or_true true = refl
or_true false = refl

or_false : (b : Bool) → (b || false) ≡ b
or_false true = refl
or_false false = refl

among-append : (c : ℕ) (xs ys : List ℕ) → is_among c (xs ++ ys) ≡ (is_among c xs || is_among c ys)
among-append c xs ys = list_any-append (λ x. x == c) xs ys

pub among_last : (c : ℕ) (cells : List ℕ) → is_among c (cells ++ c ∷ []) ≡ true
among_last c cells = among-append c cells (c ∷ []) ∙ ap (λ b. is_among c cells || (b || false)) (eq-eqb c c refl) ∙ or_true (is_among c cells)

pub among_others : (c : ℕ) (cells : List ℕ) (d : ℕ) → d ≢ c → is_among d (cells ++ c ∷ []) ≡ is_among d cells
among_others c cells d other = among-append d cells (c ∷ []) ∙ ap (λ b. is_among d cells || (b || false)) (ne_eqb c d (λ e. other (sym e))) ∙ or_false (is_among d cells)

pub among_front : (c : ℕ) (xs ys : List ℕ) → is_among c xs ≡ true → is_among c (xs ++ ys) ≡ true
among_front c xs ys here = among-append c xs ys ∙ ap (λ b. b || is_among c ys) here

pub among_behind : (c : ℕ) (xs ys : List ℕ) → is_among c ys ≡ true → is_among c (xs ++ ys) ≡ true
among_behind c xs ys here = among-append c xs ys ∙ ap (λ b. is_among c xs || b) here ∙ or_true (is_among c xs)

pub among_left : (c : ℕ) (xs ys : List ℕ) → is_among c (xs ++ ys) ≡ true → is_among c ys ≡ false → is_among c xs ≡ true
among_left c xs ys all none = sym (or_false (is_among c xs)) ∙ ap (λ b. is_among c xs || b) (sym none) ∙ sym (among-append c xs ys) ∙ all

pub among_range : (a k n : ℕ) → k < n → is_among (a + k) (range_with_len a n) ≡ true
among_range a k zero lt = absurd (omega arith)
among_range a zero (suc n) lt = let same : a ≡ a + zero = omega arith in ap (λ b. b || is_among (a + zero) (range_with_len (a + 1) n)) (eq-eqb a (a + zero) same)
among_range a (suc k) (suc n) lt =
    let next : a + suc k ≡ a + 1 + k = omega arith in
    ap (λ c. (a == a + suc k) || is_among c (range_with_len (a + 1) n)) next ∙ ap (λ b. (a == a + suc k) || b) (among_range (a + 1) k n (omega arith)) ∙ or_true (a == a + suc k)

-- ---- what memory holds

pub laid_value : (cells : List ℕ) (values memory : List ℤ) (c : ℕ) → c < length memory → cell_value (laid_in (stores_to cells values) memory) c ≡ (if is_among c cells then cell_value values c else cell_value memory c)
laid_value [] values memory c inside = refl
laid_value (d ∷ rest) values memory c inside =
    let after = set memory d (cell_value values d) in
    let more = laid_value rest values after c (omega (arith, inside, length-set memory d (cell_value values d))) in
    elim (cases_eq d c) [
      | inl same ↦
          let among : is_among c (d ∷ rest) ≡ true = ap (λ b. b || is_among c rest) (eq-eqb d c same) in
          let held : cell_value after c ≡ cell_value values c = ap (λ n. cell_value (set memory n (cell_value values n)) c) same ∙ get_or-set_same memory c (cell_value values c) (pos 0) inside in
          let one : (if is_among c rest then cell_value values c else cell_value after c) ≡ cell_value values c = elim (cases_Bool (is_among c rest)) [
            | inl marked_is ↦ ap (λ b. if b then cell_value values c else cell_value after c) marked_is
            | inr unmarked_is ↦ ap (λ b. if b then cell_value values c else cell_value after c) unmarked_is ∙ held
          ] in
          more ∙ one ∙ sym (ap (λ b. if b then cell_value values c else cell_value memory c) among)
      | inr other ↦
          let among : is_among c (d ∷ rest) ≡ is_among c rest = ap (λ b. b || is_among c rest) (ne_eqb d c other) in
          let held : cell_value after c ≡ cell_value memory c = get_or-set_other memory d c (cell_value values d) (pos 0) (λ e. other (sym e)) in
          more ∙ ap (λ z. if is_among c rest then cell_value values c else z) held ∙ sym (ap (λ b. if b then cell_value values c else cell_value memory c) among)
    ]

pub laid_there : (cells : List ℕ) (values memory : List ℤ) (c : ℕ) → c < length memory → is_among c cells ≡ true → cell_value (laid_in (stores_to cells values) memory) c ≡ cell_value values c
laid_there cells values memory c inside here = laid_value cells values memory c inside ∙ ap (λ b. if b then cell_value values c else cell_value memory c) here

pub laid_away : (cells : List ℕ) (values memory : List ℤ) (c : ℕ) → c < length memory → is_among c cells ≡ false → cell_value (laid_in (stores_to cells values) memory) c ≡ cell_value memory c
laid_away cells values memory c inside away = laid_value cells values memory c inside ∙ ap (λ b. if b then cell_value values c else cell_value memory c) away

-- a store to one more cell, or once more to one of them
pub laid_set : (cells new : List ℕ) (values memory : List ℤ) (c : ℕ) (v : ℤ) → c < length values → is_among c new ≡ true → ((d : ℕ) → d ≢ c → is_among d new ≡ is_among d cells) →
    laid_in (stores_to new (set values c v)) memory ≡ set (laid_in (stores_to cells values) memory) c v
laid_set cells new values memory c v inside here others =
    let old = laid_in (stores_to cells values) memory in
    let now = laid_in (stores_to new (set values c v)) memory in
    let long = length-laid (stores_to new (set values c v)) memory in
    let was = length-laid (stores_to cells values) memory in
    ext_get_or (pos 0) now (set old c v) (long ∙ sym was ∙ sym (length-set old c v)) (λ d lt.
    let small : d < length memory = omega (arith, lt, long) in
    let is = laid_value new (set values c v) memory d small in
    elim (cases_eq d c) [
      | inl same ↦
          let below : c < length old = omega (arith, small, same, was) in
          laid_there new (set values c v) memory d small (ap (λ n. is_among n new) same ∙ here) ∙ ap (cell_value (set values c v)) same ∙ get_or-set_same values c v (pos 0) inside
          ∙ sym (ap (cell_value (set old c v)) same ∙ get_or-set_same old c v (pos 0) below)
      | inr other ↦
          is ∙ ap (λ b. if b then cell_value (set values c v) d else cell_value memory d) (others d other)
          ∙ ap (λ z. if is_among d cells then z else cell_value memory d) (get_or-set_other values c d v (pos 0) other)
          ∙ sym (get_or-set_other old c d v (pos 0) other ∙ laid_value cells values memory d small)
    ])

-- some cells first, and then the others
pub laid_both : (xs ys : List ℕ) (values memory : List ℤ) → laid_in (stores_to xs values) (laid_in (stores_to ys values) memory) ≡ laid_in (stores_to (xs ++ ys) values) memory
laid_both xs ys values memory =
    let mid = laid_in (stores_to ys values) memory in
    let now = laid_in (stores_to xs values) mid in
    let all = laid_in (stores_to (xs ++ ys) values) memory in
    let was = length-laid (stores_to ys values) memory in
    let long = length-laid (stores_to xs values) mid ∙ was in
    ext_get_or (pos 0) now all (long ∙ sym (length-laid (stores_to (xs ++ ys) values) memory)) (λ c lt.
    let small : c < length memory = omega (arith, lt, long) in
    let there : c < length mid = omega (arith, small, was) in
    elim (cases_Bool (is_among c xs)) [
      | inl marked_is ↦ laid_there xs values mid c there marked_is ∙ sym (laid_there (xs ++ ys) values memory c small (among_front c xs ys marked_is))
      | inr unmarked_is ↦
          let same : is_among c (xs ++ ys) ≡ is_among c ys = among-append c xs ys ∙ ap (λ b. b || is_among c ys) unmarked_is in
          laid_away xs values mid c there unmarked_is ∙ laid_value ys values memory c small
          ∙ sym (laid_value (xs ++ ys) values memory c small ∙ ap (λ b. if b then cell_value values c else cell_value memory c) same)
    ])

-- one cell more
pub laid_next : (a k : ℕ) (values memory : List ℤ) → laid_in (stores_to (range_with_len a (k + 1)) values) memory ≡ set (laid_in (stores_to (range_with_len a k) values) memory) (a + k) (cell_value values (a + k))
laid_next a k values memory =
    ap (λ cs. laid_in (stores_to cs values) memory) (range_more a k)
    ∙ ap (λ ss. laid_in ss memory) (map-append (λ c. (c, cell_value values c)) (range_with_len a k) ((a + k) ∷ []))
    ∙ laid-append (stores_to (range_with_len a k) values) ((a + k, cell_value values (a + k)) ∷ []) memory

-- ---- marks

marked_most : (b : Bool) → is_marked b ≤ 1
marked_most true = omega arith
marked_most false = omega arith

count_most : (marks : List Bool) → sum_by is_marked marks ≤ length marks
count_most [] = omega arith
count_most (m ∷ ms) = omega (arith, sum_by-cons is_marked m ms, marked_most m, count_most ms)

module _ (cells : List ℕ) (marks : List Bool) (are : AreMarked cells marks) (c : ℕ) (inside : c < length marks) (none : get_or marks c false ≡ false) where
  pub room_of : length cells < length marks
  room_of =
      let one = sum_by-set is_marked marks c true false inside in
      let zero_is : is_marked (get_or marks c false) ≡ 0 = ap is_marked none in
      omega (arith, one, zero_is, count_most (set marks c true), length-set marks c true, are.counted)

  pub marked_more : AreMarked (cells ++ c ∷ []) (set marks c true)
  marked_more = record {
    marked = λ d. elim (cases_eq d c) [
      | inl same ↦ ap (λ n. is_among n (cells ++ c ∷ [])) same ∙ among_last c cells ∙ sym (ap (λ n. get_or (set marks c true) n false) same ∙ get_or-set_same marks c true false inside)
      | inr other ↦ among_others c cells d other ∙ are.marked d ∙ sym (get_or-set_other marks c d true false other)
    ];
    counted =
        let one = sum_by-set is_marked marks c true false inside in
        let zero_is : is_marked (get_or marks c false) ≡ 0 = ap is_marked none in
        omega (arith, one, zero_is, are.counted, length-append cells (c ∷ []));
  }

unset : (marks : List Bool) (c : ℕ) → get_or (set marks c false) c false ≡ false
unset [] zero = refl
unset [] (suc c) = refl
unset (m ∷ ms) zero = refl
unset (m ∷ ms) (suc c) = unset ms c

pub length-unmarked : (cells : List ℕ) (marks : List Bool) → length (unmarked cells marks) ≡ length marks
length-unmarked [] marks = refl
length-unmarked (d ∷ rest) marks = length-unmarked rest (set marks d false) ∙ length-set marks d false

pub unmarked_next : (a k : ℕ) (marks : List Bool) → unmarked (range_with_len a (k + 1)) marks ≡ set (unmarked (range_with_len a k) marks) (a + k) false
unmarked_next a k marks = ap (λ cs. unmarked cs marks) (range_more a k) ∙ fold-append (λ ms c. set ms c false) marks (range_with_len a k) ((a + k) ∷ [])

-- what is still marked was, and is none of these cells
pub unmarked_kept : (cells : List ℕ) (marks : List Bool) (c : ℕ) → get_or (unmarked cells marks) c false ≡ true → (get_or marks c false ≡ true) × (is_among c cells ≡ false)
unmarked_kept [] marks c is = (is, refl)
unmarked_kept (d ∷ rest) marks c is =
    let more = unmarked_kept rest (set marks d false) c is in
    elim (cases_eq d c) [
      | inl same ↦ absurd (let clash : true ≡ false = sym more.0 ∙ ap (λ n. get_or (set marks n false) c false) same ∙ unset marks c in cc)
      | inr other ↦ (sym (get_or-set_other marks d c false false (λ e. other (sym e))) ∙ more.0, ap (λ b. b || is_among c rest) (ne_eqb d c other) ∙ more.1)
    ]

pub marked_inside : (marks : List Bool) (c : ℕ) → get_or marks c false ≡ true → c < length marks
marked_inside [] zero is = absurd (let clash : false ≡ true = is in cc)
marked_inside [] (suc c) is = absurd (let clash : false ≡ true = is in cc)
marked_inside (m ∷ ms) zero is = omega arith
marked_inside (m ∷ ms) (suc c) is = omega (arith, marked_inside ms c is)

none_marked : (marks : List Bool) → ((c : ℕ) → get_or marks c false ≡ false) → sum_by is_marked marks ≡ 0
none_marked [] none = refl
none_marked (m ∷ ms) none = omega (arith, sum_by-cons is_marked m ms, ap is_marked (none 0), none_marked ms (λ c. none (suc c)))

pub marked_none : (marks : List Bool) → ((c : ℕ) → get_or marks c false ≡ true → is_among c [] ≡ true) → AreMarked [] marks
marked_none marks only =
    let none : (c : ℕ) → get_or marks c false ≡ false = λ c. elim (cases_Bool (get_or marks c false)) [
      | inl marked_is ↦ absurd (let clash : false ≡ true = only c marked_is in cc)
      | inr unmarked_is ↦ unmarked_is
    ] in
    record { marked = λ c. sym (none c); counted = sym (none_marked marks none) }

pub unmarked_all : (n c : ℕ) → get_or (replicate n false) c false ≡ false
unmarked_all zero zero = refl
unmarked_all zero (suc c) = refl
unmarked_all (suc n) zero = refl
unmarked_all (suc n) (suc c) = unmarked_all n c

pub marked_new : (n : ℕ) → AreMarked [] (replicate n false)
marked_new n = record { marked = λ c. sym (unmarked_all n c); counted = sym (none_marked (replicate n false) (unmarked_all n)) }

-- ---- stretches

pub stretched-append : (xs : List (ℕ × ℕ)) (a n : ℕ) → stretched (xs ++ (a, n) ∷ []) ≡ stretched xs ++ range_with_len a n
stretched-append xs a n = flat_map-append (λ (s : ℕ × ℕ). range_with_len s.0 s.1) xs ((a, n) ∷ []) ∙ ap (λ cs. stretched xs ++ cs) (append-nil (range_with_len a n))

pub stretched_grown : (xs : List (ℕ × ℕ)) (k : ℕ) (d : ℕ × ℕ) → length xs ≡ suc k → stretched (set xs k ((get_or xs k d).0, (get_or xs k d).1 + 1)) ≡ stretched xs ++ ((get_or xs k d).0 + (get_or xs k d).1) ∷ []
stretched_grown [] k d long = absurd (omega arith)
stretched_grown (x ∷ []) zero d long = append-nil (range_with_len x.0 (x.1 + 1)) ∙ range_more x.0 x.1 ∙ ap (λ cs. cs ++ (x.0 + x.1) ∷ []) (sym (append-nil (range_with_len x.0 x.1)))
stretched_grown (x ∷ []) (suc k) d long = absurd (omega arith)
stretched_grown (x ∷ y ∷ ys) zero d long = absurd (omega arith)
stretched_grown (x ∷ y ∷ ys) (suc k) d long =
    let e = get_or (y ∷ ys) k d in
    ap (λ cs. range_with_len x.0 x.1 ++ cs) (stretched_grown (y ∷ ys) k d (omega arith)) ∙ sym (append_assoc (range_with_len x.0 x.1) (stretched (y ∷ ys)) ((e.0 + e.1) ∷ []))

pub stretch_least : (xs : List (ℕ × ℕ)) (k : ℕ) (d : ℕ × ℕ) → k < length xs → (get_or xs k d).1 ≤ length (stretched xs)
stretch_least [] k d lt = absurd (omega arith)
stretch_least (x ∷ xs) zero d lt = omega (arith, length-append (range_with_len x.0 x.1) (stretched xs), length-range_with_len x.0 x.1)
stretch_least (x ∷ xs) (suc k) d lt = omega (arith, length-append (range_with_len x.0 x.1) (stretched xs), stretch_least xs k d (omega arith))
