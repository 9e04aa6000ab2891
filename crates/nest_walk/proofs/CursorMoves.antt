-- The moves of a cursor.
use Rattle.std.proofs.Common.{◌≡◌, ℕ, suc, ◌+◌, ◌-◌, ◌<◌, ℤ, true, List, [], ◌∷◌, length, map, Some, pos, get_or, set, refl, ap, sym, subst, ◌∙◌, arith}
use Rattle.std.specs.List.{list_all, slice_get}
use Rattle.std.proofs.lemmas.Bool.{and_from}
use Rattle.nest_tree.specs.Form.{Form, form_value, is_form}
use Rattle.nest_tree.specs.Tree.{Constant, do_loop, next}
use Rattle.nest_tree.specs.Values.{wrapped}
use Rattle.nest_tree.specs.View.{constant_of, tree_of, statement_of, statements_from}
use Rattle.nest_tree.specs.declared.tree.Item.{Item, Loop}
use Rattle.nest_tree.specs.declared.tree.Nest.{Nest}
use Rattle.nest_tree.specs.declared.tree.Parameter.{Parameter}
use Rattle.nest_tree.specs.WellFormed.{is_number_of}
use Rattle.nest_model.specs.Instances.{head_trips, works_in}
use Rattle.nest_model.specs.Visits.{stops_in}
use Rattle.nest_walk.specs.Frames.{head_of, level_of, levels_to, stretch_of}
use Rattle.nest_walk.specs.InText.{AreInText}
use Rattle.nest_walk.specs.Paths.{Round, by_number, form_among, rounds_to}
use Rattle.nest_walk.specs.RoundsOf.{rounds_of}
use Rattle.nest_walk.specs.Walkable.{is_small_at, is_small_head, is_walkable}
use Rattle.nest_walk.specs.Walks.{Walk, Level, Stretch, enters_but, is_sound, walk_in}
use Rattle.nest_walk.specs.declared.cursor.Cursor.{Cursor}
use Rattle.nest_walk.specs.declared.frame.Frame.{Frame}
use Rattle.nest_walk.specs.declared.path.Path.{Path}
use Rattle.nest_walk.proofs.FormValues.{exact}
use Rattle.nest_walk.proofs.Levels.{levels_to-at, levels_to-put}
use Rattle.nest_walk.proofs.PathLists.{rounds_to-length}
use Rattle.nest_walk.proofs.Trees.{statement_of-Loop}
use Rattle.nest_walk.proofs.WalkMoves.{BodyAt, Kept, LoopAt, Passed, Shortened, again, along, are_numbered, body_at, entered, later_visits, leaves, loop_facts, passed, shortened}

-- the values of named constants
pub values_are : (params : List Parameter) → map (λ (p : Constant). p.value) (map constant_of params) ≡ map (λ (p : Parameter). p.value) params
values_are [] = refl
values_are (p ∷ params) = ap (λ values. p.value ∷ values) (values_are params)

abbrev pub walk_of : Cursor → Walk
walk_of c = walk_in (tree_of c.program.now) c.marks.now

abbrev pub levels_of : Cursor → List Level
levels_of c = levels_to c.frames.all c.path.depth

-- the stretch behind a statement
abbrev pub after : Cursor → Item → List Item → Stretch
after c item behind = record { statements = statements_from behind; place = c.rest.place + stops_in (enters_but c.marks.now) (statement_of item); first = c.rest.first + works_in (statement_of item) }

-- the same by counted stops and pieces of work
pub after_is : (c : Cursor) (item : Item) (behind : List Item) (stops works : ℕ) → stops ≡ stops_in (enters_but c.marks.now) (statement_of item) → works ≡ works_in (statement_of item) →
    after c item behind ≡ record { statements = statements_from behind; place = c.rest.place + stops; first = c.rest.first + works }
after_is c item behind stops works s w =
    let stretch : ℕ → ℕ → Stretch = λ m n. record { statements = statements_from behind; place = c.rest.place + m; first = c.rest.first + n } in
    ap (λ m. stretch m (works_in (statement_of item))) (sym s) ∙ ap (stretch stops) (sym w)

pub passes : (c : Cursor) (item : Item) (behind : List Item) → c.rest.items.now ≡ item ∷ behind →
    Passed (walk_of c) (rounds_of c.path) (levels_of c) (stretch_of c.rest) (statement_of item) (after c item behind)
passes c item behind at =
    passed (walk_of c) (rounds_of c.path) (levels_of c) (stretch_of c.rest) (statement_of item) (statements_from behind) (ap statements_from at) c.sound

-- the same with the loop's head and body
pub loop_at : (c : Cursor) (nest : Nest) (behind : List Item) → c.rest.items.now ≡ Loop nest ∷ behind →
    statements_from c.rest.items.now ≡ next (do_loop (head_of nest) (statements_from nest.items.items)) (statements_from behind)
loop_at c nest behind at = ap statements_from at ∙ ap (λ s. next s (statements_from behind)) (statement_of-Loop nest)

-- what is known of a loop that it comes to
pub loop_known : (c : Cursor) (nest : Nest) (behind : List Item) → c.rest.items.now ≡ Loop nest ∷ behind → LoopAt (walk_of c) (rounds_of c.path) (head_of nest) (statements_from nest.items.items)
loop_known c nest behind at =
    let p = passes c (Loop nest) behind at in
    loop_facts (walk_of c) (rounds_of c.path) (head_of nest) (statements_from nest.items.items)
    (ap (λ s. is_walkable (walk_of c).params (length (rounds_of c.path)) s (by_number (walk_of c).loops (rounds_of c.path))) (sym (statement_of-Loop nest)) ∙ p.walkable)

-- the value of a small form
pub bound_is : (c : Cursor) (f : Form) (params : List Parameter) (value : ℤ) → params ≡ c.program.now.params.items → is_form f ≡ true →
    is_small_at (walk_of c).params (by_number (walk_of c).loops (rounds_of c.path)) f ≡ true → value ≡ wrapped (form_among f (rounds_of c.path) (map (λ (p : Parameter). p.value) params)) →
    value ≡ form_value f (by_number (walk_of c).loops (rounds_of c.path)) (walk_of c).params
bound_is c f params value same form small is =
    let shown : map (λ (p : Parameter). p.value) params ≡ (walk_of c).params = ap (map (λ (p : Parameter). p.value)) same ∙ sym (values_are c.program.now.params.items) in
    exact (walk_of c).loops (rounds_of c.path) f (walk_of c).params value (are_numbered (walk_of c) (rounds_of c.path) (levels_of c) (stretch_of c.rest) c.sound) form small
    (is ∙ ap (λ values. wrapped (form_among f (rounds_of c.path) values)) shown)

-- what a loop's trips are computed from
pub numbers_there : (c : Cursor) → list_all (λ (r : Round). is_number_of (walk_of c).loops r.number) (rounds_of c.path) ≡ true
numbers_there c = are_numbered (walk_of c) (rounds_of c.path) (levels_of c) (stretch_of c.rest) c.sound

pub head_there : (c : Cursor) (nest : Nest) (behind : List Item) → c.rest.items.now ≡ Loop nest ∷ behind → is_small_head (walk_of c).params (by_number (walk_of c).loops (rounds_of c.path)) (head_of nest) ≡ true
head_there c nest behind at = let known = loop_known c nest behind at in and_from _ _ (and_from _ _ (and_from _ _ known.first known.last) known.moves) known.step

-- what a cursor is after a move
abbrev pub KeptBy : Cursor → List Round → List Level → Stretch → Type 0
KeptBy c rounds levels rest = Kept (walk_of c) (rounds_of c.path) (levels_of c) (stretch_of c.rest) rounds levels rest

pub enters : (c : Cursor) (nest : Nest) (behind : List Item) (v : ℤ) (vs : List ℤ) → c.rest.items.now ≡ Loop nest ∷ behind → enters_but c.marks.now nest.number ≡ true →
    head_trips (walk_of c).params (head_of nest) (by_number (walk_of c).loops (rounds_of c.path)) ≡ v ∷ vs →
    (rounds : List Round) (levels : List Level) (rest : Stretch) →
    let body : Stretch = record { statements = statements_from nest.items.items; place = c.rest.place; first = c.rest.first } in
    rounds ≡ record { number = nest.number; value = v } ∷ rounds_of c.path → levels ≡ record { body = body; later = vs; behind = statements_from behind } ∷ levels_of c → rest ≡ body →
    KeptBy c rounds levels rest
enters c nest behind v vs at unmarked trips rounds levels rest r l s =
    along (walk_of c) (rounds_of c.path) (levels_of c) (stretch_of c.rest) _ _ _ rounds levels rest r l s
    (entered (walk_of c) (rounds_of c.path) (levels_of c) (stretch_of c.rest) (head_of nest) (statements_from nest.items.items) (statements_from behind) v vs (loop_at c nest behind at) unmarked trips c.sound)

-- the innermost loop of a cursor that is in one
pub depth_is : (p : Path) (depth : ℕ) → depth ≡ length (rounds_of p) → (depth ≡ 0 → ⊥) → p.depth ≡ suc (depth - 1)
depth_is p depth count some = omega (arith, count, rounds_to-length p.numbers p.values p.depth, some)

abbrev pub outer_rounds : Path → ℕ → List Round
outer_rounds p depth = rounds_to p.numbers p.values (depth - 1)

abbrev pub innermost : Path → ℕ → Round
innermost p depth = record { number = get_or p.numbers (depth - 1) 0; value = get_or p.values (depth - 1) (pos 0) }

pub rounds_are : (p : Path) (depth : ℕ) → p.depth ≡ suc (depth - 1) → rounds_of p ≡ innermost p depth ∷ outer_rounds p depth
rounds_are p depth e = ap (rounds_to p.numbers p.values) e

pub levels_are : (frames : List Frame) (n depth : ℕ) (f : Frame) → n ≡ suc (depth - 1) → slice_get frames (depth - 1) ≡ Some f → levels_to frames n ≡ level_of f ∷ levels_to frames (depth - 1)
levels_are frames n depth f e at = ap (levels_to frames) e ∙ levels_to-at frames (depth - 1) f at

-- the same at equal loops before the move
from : (walk : Walk) (rest : Stretch) (rounds' : List Round) (levels' : List Level) (rest' : Stretch) (rounds rounds0 : List Round) (levels levels0 : List Level) → rounds ≡ rounds0 → levels ≡ levels0 →
    Kept walk rounds0 levels0 rest rounds' levels' rest' → Kept walk rounds levels rest rounds' levels' rest'
from walk rest rounds' levels' rest' rounds rounds0 levels levels0 r l k =
    subst (λ x. Kept walk x levels rest rounds' levels' rest') (sym r) (subst (λ x. Kept walk rounds0 x rest rounds' levels' rest') (sym l) k)

still_sound : (walk : Walk) (rest : Stretch) (rounds rounds0 : List Round) (levels levels0 : List Level) → rounds ≡ rounds0 → levels ≡ levels0 → is_sound walk rounds levels rest ≡ true → is_sound walk rounds0 levels0 rest ≡ true
still_sound walk rest rounds rounds0 levels levels0 r l h = ap (λ x. is_sound walk x levels0 rest) (sym r) ∙ ap (λ x. is_sound walk rounds x rest) (sym l) ∙ h

module _ (c : Cursor) (depth : ℕ) (f : Frame) (e : c.path.depth ≡ suc (depth - 1)) (at : slice_get c.frames.all (depth - 1) ≡ Some f) (ends : c.rest.items.now ≡ []) where
  pub inner_sound : is_sound (walk_of c) (innermost c.path depth ∷ outer_rounds c.path depth) (level_of f ∷ levels_to c.frames.all (depth - 1)) (stretch_of c.rest) ≡ true
  inner_sound = still_sound (walk_of c) (stretch_of c.rest) _ _ _ _ (rounds_are c.path depth e) (levels_are c.frames.all c.path.depth depth f e at) c.sound

  pub comes_again : (v : ℤ) (vs : List ℤ) → (level_of f).later ≡ v ∷ vs → (rounds : List Round) (levels : List Level) (rest : Stretch) →
      rounds ≡ record { number = (innermost c.path depth).number; value = v } ∷ outer_rounds c.path depth →
      levels ≡ record { body = (level_of f).body; later = vs; behind = (level_of f).behind } ∷ levels_to c.frames.all (depth - 1) → rest ≡ (level_of f).body → KeptBy c rounds levels rest
  comes_again v vs values rounds levels rest r l s =
      from (walk_of c) (stretch_of c.rest) rounds levels rest _ _ _ _ (rounds_are c.path depth e) (levels_are c.frames.all c.path.depth depth f e at)
      (along (walk_of c) (innermost c.path depth ∷ outer_rounds c.path depth) (level_of f ∷ levels_to c.frames.all (depth - 1)) (stretch_of c.rest) _ _ _ rounds levels rest r l s
      (again (walk_of c) (innermost c.path depth) (outer_rounds c.path depth) (level_of f) (levels_to c.frames.all (depth - 1)) (stretch_of c.rest) v vs (ap statements_from ends) values inner_sound))

  pub comes_out : (level_of f).later ≡ [] → (rounds : List Round) (levels : List Level) →
      rounds ≡ outer_rounds c.path depth → levels ≡ levels_to c.frames.all (depth - 1) →
      KeptBy c rounds levels (record { statements = (level_of f).behind; place = c.rest.place; first = c.rest.first })
  comes_out values rounds levels r l =
      from (walk_of c) (stretch_of c.rest) rounds levels _ _ _ _ _ (rounds_are c.path depth e) (levels_are c.frames.all c.path.depth depth f e at)
      (along (walk_of c) (innermost c.path depth ∷ outer_rounds c.path depth) (level_of f ∷ levels_to c.frames.all (depth - 1)) (stretch_of c.rest) _ _ _ rounds levels _ r l refl
      (leaves (walk_of c) (innermost c.path depth) (outer_rounds c.path depth) (level_of f) (levels_to c.frames.all (depth - 1)) (stretch_of c.rest) (ap statements_from ends) values inner_sound))

  -- without the later trips
  pub shortens : (levels : List Level) → levels ≡ record { body = (level_of f).body; later = []; behind = (level_of f).behind } ∷ levels_to c.frames.all (depth - 1) →
      Shortened (walk_of c) (rounds_of c.path) (levels_of c) (stretch_of c.rest) (later_visits (walk_of c) (innermost c.path depth) (outer_rounds c.path depth) (level_of f)) levels
  shortens levels l =
      let walk = walk_of c in
      let rest = stretch_of c.rest in
      let inner = innermost c.path depth in
      let outer = outer_rounds c.path depth in
      let all = levels_to c.frames.all (depth - 1) in
      let trips = later_visits walk inner outer (level_of f) in
      let known = shortened walk inner outer (level_of f) all rest (ap statements_from ends) inner_sound in
      subst (λ x. Shortened walk x (levels_of c) rest trips levels) (sym (rounds_are c.path depth e))
      (subst (λ x. Shortened walk (inner ∷ outer) x rest trips levels) (sym (levels_are c.frames.all c.path.depth depth f e at))
      (subst (λ x. Shortened walk (inner ∷ outer) (level_of f ∷ all) rest trips x) (sym l) known))

  pub body_there : BodyAt (tree_of c.program.now) (walk_of c) (innermost c.path depth) (outer_rounds c.path depth) (level_of f).body (level_of f).later
  body_there =
      let tree = tree_of c.program.now in
      let walk = walk_of c in
      let rest = stretch_of c.rest in
      body_at tree walk (innermost c.path depth) (outer_rounds c.path depth) (level_of f) (levels_to c.frames.all (depth - 1)) rest inner_sound
      (subst (λ x. AreInText tree walk x (level_of f ∷ levels_to c.frames.all (depth - 1)) rest) (rounds_are c.path depth e)
      (subst (λ x. AreInText tree walk (rounds_of c.path) x rest) (levels_are c.frames.all c.path.depth depth f e at) c.texts))

-- a path with one loop more or less
pub deeper : (p q : Path) (r : Round) → rounds_of q ≡ r ∷ rounds_of p → q.depth ≡ suc p.depth
deeper p q r e = omega (arith, rounds_to-length p.numbers p.values p.depth, rounds_to-length q.numbers q.values q.depth, ap (λ (rs : List Round). length rs) e)

pub depth_of : (q : Path) (rounds : List Round) (n : ℕ) → rounds_of q ≡ rounds → length rounds ≡ n → q.depth ≡ n
depth_of q rounds n e h = sym (rounds_to-length q.numbers q.values q.depth) ∙ ap (λ (rs : List Round). length rs) e ∙ h

-- one frame more at that depth
pub put_level : (p q : Path) (r : Round) (frames all : List Frame) (depth : ℕ) (f : Frame) (l : Level) (outer : List Level) → depth ≡ length (rounds_of p) → rounds_of q ≡ r ∷ rounds_of p →
    all ≡ set frames depth f → depth < length frames → level_of f ≡ l → levels_to frames p.depth ≡ outer → levels_to all q.depth ≡ l ∷ outer
put_level p q r frames all depth f l outer count pushed put room is round =
    let at : depth ≡ p.depth = count ∙ rounds_to-length p.numbers p.values p.depth in
    let deep : q.depth ≡ suc depth = deeper p q r pushed ∙ ap suc (sym at) in
    ap (levels_to all) deep ∙ ap (λ xs. levels_to xs (suc depth)) put ∙ levels_to-put frames depth f room ∙ ap (λ x. x ∷ levels_to frames depth) is ∙ ap (λ n. l ∷ levels_to frames n) at ∙ ap (λ ls. l ∷ ls) round
