-- Where the cells of a form lie along the innermost loop.
use Rattle.std.proofs.Common.{◌≡◌, ℕ, zero, suc, ◌+◌, ◌-◌, ◌<◌, ◌≤◌, ℤ, pos, ◌+ℤ◌, ◌*ℤ◌, List, [], ◌∷◌, ◌++◌, length, map, reverse, replicate, get_or, set, take, ap, sym, ◌∙◌, subst, arith, w64, FitsSigned, length-append, append_assoc}
use Rattle.std.specs.List.{AllZip}
use Rattle.std.proofs.lemmas.Int.{ints, int_wrap_fits, int_wrap-add_left}
use Rattle.std.proofs.lemmas.List.{reverse-append, length-reverse, length-map, set_at, get_or_at, take_more, take_more_set}
use Rattle.std.proofs.Math.IntN.{zero-*ℤ}
use Rattle.list_lemmas.proofs.Integers.{mul-add}
use Rattle.nest_tree.specs.Layout.{count_of}
use Rattle.nest_tree.specs.Values.{wrapped}
use Rattle.nest_walk.specs.CellForms.{dot_by_depth, start_at, step_at}
use Rattle.nest_walk.specs.Paths.{Round, by_depth}
use Rattle.nest_walk.specs.Strips.{at_value}
use Rattle.nest_walk.specs.declared.cells.CellForm.{CellForm}
use Rattle.nest_walk.specs.declared.table.LoadCells.{LoadCells}
use Rattle.nest_walk.specs.declared.table.LoadCells.TheVariants.{Element, Array}
use Rattle.nest_walk.proofs.Grown.{AllZip-append}
use Rattle.flat_code.specs.Lines.{IsLineOf, IsLoadLine, first_of_load}
use Rattle.flat_code.specs.declared.lines.Line.{Line}

-- one value more
dot_moved : (steps values : List ℤ) (d : ℕ) (v by : ℤ) → d < length steps → d < length values → get_or values d (pos 0) ≡ v →
    dot_by_depth steps (set values d (v +ℤ by)) ≡ dot_by_depth steps values +ℤ get_or steps d (pos 0) *ℤ by
dot_moved [] values d v by lt lt' is = absurd (omega arith)
dot_moved (s ∷ steps) [] d v by lt lt' is = absurd (omega arith)
dot_moved (s ∷ steps) (w ∷ values) zero v by lt lt' is =
    let rest = dot_by_depth steps values in
    let e : s *ℤ (v +ℤ by) ≡ s *ℤ v +ℤ s *ℤ by = mul-add s v by in
    let f : s *ℤ v ≡ s *ℤ w = ap (λ z. s *ℤ z) (sym is) in
    let swap : s *ℤ w +ℤ s *ℤ by +ℤ rest ≡ s *ℤ w +ℤ rest +ℤ s *ℤ by = omega (arith, ints) in
    ap (λ z. z +ℤ rest) (e ∙ ap (λ z. z +ℤ s *ℤ by) f) ∙ swap
dot_moved (s ∷ steps) (w ∷ values) (suc d) v by lt lt' is =
    let short : d < length steps = omega arith in
    let short' : d < length values = omega arith in
    let h = dot_moved steps values d v by short short' is in
    let group : s *ℤ w +ℤ (dot_by_depth steps values +ℤ get_or steps d (pos 0) *ℤ by) ≡ s *ℤ w +ℤ dot_by_depth steps values +ℤ get_or steps d (pos 0) *ℤ by = omega (arith, ints) in
    ap (λ z. s *ℤ w +ℤ z) h ∙ group

-- the values by depth, where the innermost loop has this value
front : (rounds : List Round) → List ℤ
front rounds = reverse (map (λ (r : Round). r.value) rounds)

length-front : (rounds : List Round) → length (front rounds) ≡ length rounds
unfolding front
length-front rounds = length-reverse (map (λ (r : Round). r.value) rounds) ∙ length-map rounds (λ (r : Round). r.value)

by_depth-inner : (r : Round) (rounds : List Round) (v : ℤ) → by_depth (at_value (r ∷ rounds) v) ≡ front rounds ++ v ∷ replicate (6 - suc (length rounds)) (pos 0)
unfolding front
by_depth-inner r rounds v =
    ap (λ xs. xs ++ replicate (6 - suc (length rounds)) (pos 0)) (reverse-append (v ∷ []) (map (λ (r : Round). r.value) rounds)) ∙ append_assoc (front rounds) (v ∷ []) (replicate (6 - suc (length rounds)) (pos 0))

by_depth-moved : (r : Round) (rounds : List Round) (v w : ℤ) → by_depth (at_value (r ∷ rounds) w) ≡ set (by_depth (at_value (r ∷ rounds) v)) (length rounds) w
by_depth-moved r rounds v w =
    by_depth-inner r rounds w ∙ sym (ap (λ xs. set xs (length rounds) w) (by_depth-inner r rounds v) ∙ set_at (front rounds) v (replicate (6 - suc (length rounds)) (pos 0)) w (length rounds) (length-front rounds))

by_depth-at : (r : Round) (rounds : List Round) (v : ℤ) → get_or (by_depth (at_value (r ∷ rounds) v)) (length rounds) (pos 0) ≡ v
by_depth-at r rounds v = ap (λ xs. get_or xs (length rounds) (pos 0)) (by_depth-inner r rounds v) ∙ get_or_at (front rounds) v (replicate (6 - suc (length rounds)) (pos 0)) (pos 0) (length rounds) (length-front rounds)

by_depth-long : (r : Round) (rounds : List Round) (v : ℤ) → length rounds < length (by_depth (at_value (r ∷ rounds) v))
by_depth-long r rounds v =
    let n = ap length (by_depth-inner r rounds v) ∙ length-append (front rounds) (v ∷ replicate (6 - suc (length rounds)) (pos 0)) in
    let m = length-front rounds in
    omega (arith, n, m)

-- the innermost loop's value is its step's share of the sum
start_along : (form : CellForm) (r : Round) (rounds : List Round) (v : ℤ) → length rounds < length form.steps →
    start_at form (by_depth (at_value (r ∷ rounds) v)) ≡ wrapped (start_at form (by_depth (at_value (r ∷ rounds) (pos 0))) +ℤ step_at form (length rounds) *ℤ v)
start_along form r rounds v lt =
    let d = length rounds in
    let s = get_or form.steps d (pos 0) in
    let values = by_depth (at_value (r ∷ rounds) (pos 0)) in
    let dot = dot_by_depth form.steps values in
    let moved = dot_moved form.steps values d (pos 0) v lt (by_depth-long r rounds (pos 0)) (by_depth-at r rounds (pos 0)) in
    let whole : pos 0 +ℤ v ≡ v = omega (arith, ints) in
    let group : form.base +ℤ (dot +ℤ s *ℤ v) ≡ form.base +ℤ dot +ℤ s *ℤ v = omega (arith, ints) in
    ap (start_at form) (by_depth-moved r rounds (pos 0) v ∙ ap (set values d) (sym whole)) ∙ ap (λ z. wrapped (form.base +ℤ z)) moved ∙ ap wrapped group
    ∙ sym (int_wrap-add_left w64 (form.base +ℤ dot) (s *ℤ v))

-- the line of a form
pub form_line : (form : CellForm) (rounds : List Round) (line : Line) (depth : ℕ) → length form.steps ≡ 6 → 0 < length rounds → length rounds ≤ 6 → depth ≡ length rounds →
    line.origin ≡ start_at form (by_depth (at_value rounds (pos 0))) → line.stride ≡ step_at form (depth - 1) → IsLineOf form rounds line
form_line form [] line depth six some within is origin stride = absurd (omega arith)
form_line form (r ∷ rounds) line depth six some within is origin stride = λ v.
    let lt : length rounds < length form.steps = omega arith in
    let d : depth - 1 ≡ length rounds = omega arith in
    ap count_of (start_along form r rounds v lt)
    ∙ sym (ap (λ c. count_of (wrapped (c +ℤ line.stride *ℤ v))) origin ∙ ap (λ w. count_of (wrapped (start_at form (by_depth (at_value (r ∷ rounds) (pos 0))) +ℤ w *ℤ v))) (stride ∙ ap (step_at form) d))

-- where a load is an element, its line is that of the form; where it is an array, its first cell stays
pub element_line : (load : LoadCells) (form : CellForm) (rounds : List Round) (line : Line) → load ≡ Element form → IsLineOf form rounds line → IsLoadLine load rounds line
element_line load form rounds line is at = λ v. ap (first_of_load (by_depth (at_value rounds v))) is ∙ at v

pub array_line : (load : LoadCells) (first count : ℕ) (rounds : List Round) (line : Line) → load ≡ Array first count → FitsSigned w64 (pos first) → line.origin ≡ pos first → line.stride ≡ pos 0 → IsLoadLine load rounds line
array_line load first count rounds line is fits origin stride = λ v.
    let end : pos first +ℤ pos 0 ≡ pos first = omega (arith, ints) in
    let sum : line.origin +ℤ line.stride *ℤ v ≡ pos first = ap (λ z. line.origin +ℤ z *ℤ v) stride ∙ ap (λ z. line.origin +ℤ z) (zero-*ℤ v) ∙ ap (λ z. z +ℤ pos 0) origin ∙ end in
    ap (first_of_load (by_depth (at_value rounds v))) is ∙ sym (ap (λ z. count_of (wrapped z)) sum ∙ ap count_of (int_wrap_fits w64 (pos first) fits))

-- one line more
pub laid_more : (rounds : List Round) (loads : List LoadCells) (lines : List Line) (k : ℕ) (d : LoadCells) (line : Line) → k < length loads → k < length lines → IsLoadLine (get_or loads k d) rounds line →
    AllZip (λ l m. IsLoadLine l rounds m) (take k loads) (take k lines) → AllZip (λ l m. IsLoadLine l rounds m) (take (k + 1) loads) (take (k + 1) (set lines k line))
laid_more rounds loads lines k d line lt room at before =
    let R : LoadCells → Line → Type 0 = λ l m. IsLoadLine l rounds m in
    subst (λ ls. AllZip R ls (take (k + 1) (set lines k line))) (sym (take_more loads k d lt))
    (subst (AllZip R (take k loads ++ get_or loads k d ∷ [])) (sym (take_more_set lines k line room)) (AllZip-append R (take k loads) (get_or loads k d ∷ []) (take k lines) (line ∷ []) before (at, tt)))
