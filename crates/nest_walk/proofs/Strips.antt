-- The trips of a loop round one assignment.
use Rattle.std.proofs.Common.{◌≡◌, ℕ, ◌+◌, ◌<◌, ◌^◌, nat_lt, ℤ, Bool, Option, None, Some, is_none, true, if◌then◌else◌, List, [], ◌∷◌, ◌++◌, map, length, refl, ap, sym, subst, ◌∙◌, arith}
use Rattle.std.specs.List.{flat_map, list_all}
use Rattle.std.proofs.lemmas.Bool.{and_from, and_parts, lt-ltb}
use Rattle.nest_tree.specs.Loads.{guard_forms}
use Rattle.nest_tree.specs.Tree.{Assignment, Statement, Statements, assign, print, continue, do_loop, done, next, work, Tree, param_values}
use Rattle.nest_tree.specs.View.{expression_of, statement_of, statements_from}
use Rattle.nest_tree.specs.WellFormed.{is_number_of, loops_of}
use Rattle.nest_tree.specs.declared.tree.Access.{Access}
use Rattle.nest_tree.specs.declared.tree.Expr.{Expr}
use Rattle.nest_tree.specs.declared.tree.Guard.{Guard}
use Rattle.nest_tree.specs.declared.tree.Item.{Item, Assign, Continue}
use Rattle.nest_model.specs.Instances.{Instance, holds, with_loop, works_in, works_of}
use Rattle.nest_model.specs.Visits.{Visit, every, instances_at, stops_of, visits_in}
use Rattle.nest_walk.specs.Cursors.{is_reached, loops_in, visit_at}
use Rattle.nest_walk.specs.OnlyAssignments.{ending, is_plain}
use Rattle.nest_walk.specs.Paths.{Round}
use Rattle.nest_walk.specs.Places.{numbers_of}
use Rattle.nest_walk.specs.Strips.{at_value}
use Rattle.nest_walk.specs.Texts.{StandFrom, placed_in, placed_of, works}
use Rattle.nest_walk.specs.Walkable.{is_small_at, is_walkable}
use Rattle.nest_walk.specs.declared.cursor.Stop.{Stop}

-- the assignment
abbrev pub sole : Access → Expr → ℕ → Assignment
sole target e line = record { target = target; value = expression_of e; guard = None; line = line }

-- what stands behind it
abbrev pub ends : Option ℕ → Statements
ends None = done
ends (Some line) = next (continue line) done

-- the loop's body
abbrev pub body_of : Access → Expr → ℕ → Option ℕ → Statements
body_of target e line end = next (work (assign (sole target e line))) (ends end)

pub body_is : (items : List Item) (item : Item) (target : Access) (e : Expr) (line : ℕ) (end : Option ℕ) → item ≡ Assign target e None line → items ≡ item ∷ ending end → statements_from items ≡ body_of target e line end
body_is items item target e line None what only = ap statements_from (only ∙ ap (λ x. x ∷ []) what)
body_is items item target e line (Some last) what only = ap statements_from (only ∙ ap (λ x. x ∷ Continue last ∷ []) what)

-- it has one stop and one piece of work
pub one_stop : (enters : ℕ → Bool) (target : Access) (e : Expr) (line : ℕ) (end : Option ℕ) → stops_of enters (body_of target e line end) ≡ 1
one_stop enters target e line None = refl
one_stop enters target e line (Some last) = refl

pub one_work : (target : Access) (e : Expr) (line : ℕ) (end : Option ℕ) → works_of (body_of target e line end) ≡ 1
one_work target e line None = refl
one_work target e line (Some last) = refl

pub one_visit : (params : List ℤ) (enters : ℕ → Bool) (target : Access) (e : Expr) (line : ℕ) (end : Option ℕ) (place first : ℕ) (loops : List ℤ) →
    visits_in params enters (body_of target e line end) place first loops ≡ record { place = place; first = first; what = work (assign (sole target e line)); loops = loops } ∷ []
one_visit params enters target e line None place first loops = refl
one_visit params enters target e line (Some last) place first loops = refl

pub one_placed : (around : List ℕ) (target : Access) (e : Expr) (line : ℕ) (end : Option ℕ) → placed_of every around (body_of target e line end) ≡ placed_in every around (work (assign (sole target e line)))
one_placed around target e line None = refl
one_placed around target e line (Some last) = refl

-- one stop in each trip
each_trip : (f : ℤ → List Visit) (g : ℤ → Visit) → ((v : ℤ) → f v ≡ g v ∷ []) → (vs : List ℤ) → flat_map f vs ≡ map g vs
each_trip f g same [] = refl
each_trip f g same (v ∷ vs) = ap (λ xs. xs ++ flat_map f vs) (same v) ∙ ap (λ xs. g v ∷ xs) (each_trip f g same vs)

-- what is known of a strip
pub record StripAt (tree : Tree) (rounds : List Round) (s : Stop) : Type 0 where
  pub plain : is_plain (statement_of s.item.now) ≡ true
  pub inside : 0 < length rounds
  pub reached : is_reached tree rounds s ≡ true
  pub text : StandFrom (works tree) s.first (placed_in every (numbers_of rounds) (statement_of s.item.now))

module _ (tree : Tree) (rounds : List Round) (n : ℕ) (s : Stop) (target : Access) (e : Expr) (line : ℕ) (end : Option ℕ) (what : s.item.now ≡ Assign target e None line) where
  -- its stops are those of the loop's body
  pub strip_visited : (enters : ℕ → Bool) (w : ℤ) (inner : List Round) (body : Statements) (vs : List ℤ) → inner ≡ record { number = n; value = w } ∷ rounds → body ≡ body_of target e line end →
      flat_map (λ v. visits_in (param_values tree) enters body s.place s.first (with_loop (loops_in tree rounds) n v)) vs ≡ map (λ v. visit_at tree (at_value inner v) s) vs
  strip_visited enters w inner body vs r b =
      ap (λ x. flat_map (λ v. visits_in (param_values tree) enters x s.place s.first (with_loop (loops_in tree rounds) n v)) vs) b
      ∙ each_trip (λ v. visits_in (param_values tree) enters (body_of target e line end) s.place s.first (with_loop (loops_in tree rounds) n v)) (λ v. visit_at tree (at_value (record { number = n; value = w } ∷ rounds) v) s)
      (λ v. one_visit (param_values tree) enters target e line end s.place s.first (with_loop (loops_in tree rounds) n v)
      ∙ ap (λ x. record { place = s.place; first = s.first; what = x; loops = with_loop (loops_in tree rounds) n v } ∷ []) (sym (ap statement_of what))) vs
      ∙ ap (λ rs. map (λ v. visit_at tree (at_value rs v) s) vs) (sym r)

  pub strip_there : (w : ℤ) (inner : List Round) (body : Statements) → inner ≡ record { number = n; value = w } ∷ rounds → body ≡ body_of target e line end → is_number_of (loops_of tree.items) n ≡ true →
      list_all (λ (r : Round). is_number_of (loops_of tree.items) r.number) rounds ≡ true → s.first + 1 < 2 ^ 32 → StandFrom (works tree) s.first (placed_of every (n ∷ numbers_of rounds) body) → StripAt tree inner s
  strip_there w inner body r b number numbers few text =
      let is = ap statement_of what in
      let assigned = work (assign (sole target e line)) in
      let here = record { number = n; value = w } ∷ rounds in
      let numbered = and_from (is_number_of (loops_of tree.items) n) (list_all (λ (r : Round). is_number_of (loops_of tree.items) r.number) rounds) number numbers in
      let walkable : is_walkable (param_values tree) (length here) (statement_of s.item.now) (loops_in tree here) ≡ true = ap (λ x. is_walkable (param_values tree) (length here) x (loops_in tree here)) is in
      let room : nat_lt (s.first + works_in (statement_of s.item.now)) (2 ^ 32) ≡ true = ap (λ x. nat_lt (s.first + works_in x) (2 ^ 32)) is ∙ lt-ltb (s.first + 1) (2 ^ 32) few in
      let known : StripAt tree here s = record {
        plain = ap is_plain is;
        inside = omega arith;
        reached = and_from _ _ (and_from _ _ numbered walkable) room;
        text = subst (λ x. StandFrom (works tree) s.first (placed_in every (numbers_of here) x)) (sym is)
            (subst (StandFrom (works tree) s.first) (one_placed (n ∷ numbers_of rounds) target e line end) (subst (λ x. StandFrom (works tree) s.first (placed_of every (n ∷ numbers_of rounds) x)) b text));
      } in
      subst (λ rs. StripAt tree rs s) (sym r) known

-- an assignment without a comparison is executed
unguarded_holds : (g : Option Guard) (loops params : List ℤ) → is_none g ≡ true → holds g loops params ≡ true
unguarded_holds None loops params h = refl
unguarded_holds (Some g) loops params h = cc

pub plain_executed : (params : List ℤ) (s : Statement) (place first : ℕ) (loops : List ℤ) → is_plain s ≡ true → (i : Instance) × (instances_at params (record { place = place; first = first; what = s; loops = loops }) ≡ i ∷ [])
plain_executed params (do_loop head body) place first loops h = cc
plain_executed params (work (assign a)) place first loops h =
    let i : Instance = record { statement = first; what = assign a; loops = loops } in
    (i, ap (λ b. if b then i ∷ [] else []) (unguarded_holds a.guard loops params h))
plain_executed params (work (print p)) place first loops h = cc
plain_executed params (continue line) place first loops h = cc

-- the loops in another trip have the same numbers
pub numbers_at : (rounds : List Round) (v : ℤ) → numbers_of (at_value rounds v) ≡ numbers_of rounds
numbers_at [] v = refl
numbers_at (r ∷ rounds) v = refl

pub again_at : (rounds : List Round) (v w : ℤ) → at_value (at_value rounds v) w ≡ at_value rounds w
again_at [] v w = refl
again_at (r ∷ rounds) v w = refl

inside_at : (rounds : List Round) (v : ℤ) → 0 < length rounds → 0 < length (at_value rounds v)
inside_at [] v h = h
inside_at (r ∷ rounds) v h = omega arith

plain_sides : (params : List ℤ) (g : Option Guard) (loops : List ℤ) → is_none g ≡ true → list_all (is_small_at params loops) (guard_forms g) ≡ true
plain_sides params None loops h = refl
plain_sides params (Some g) loops h = cc

plain_walkable : (params : List ℤ) (depth : ℕ) (s : Statement) (loops : List ℤ) → is_plain s ≡ true → is_walkable params depth s loops ≡ true
plain_walkable params depth (do_loop head body) loops h = cc
plain_walkable params depth (work (assign a)) loops h = plain_sides params a.guard loops h
plain_walkable params depth (work (print p)) loops h = refl
plain_walkable params depth (continue line) loops h = refl

numbered_at : (count : ℕ) (rounds : List Round) (v : ℤ) → list_all (λ (r : Round). is_number_of count r.number) rounds ≡ true → list_all (λ (r : Round). is_number_of count r.number) (at_value rounds v) ≡ true
numbered_at count [] v h = h
numbered_at count (r ∷ rounds) v h = h

-- a strip in another trip
pub strip_again : (tree : Tree) (rounds inner : List Round) (s : Stop) (v : ℤ) → inner ≡ at_value rounds v → StripAt tree rounds s → StripAt tree inner s
strip_again tree rounds inner s v is at =
    let parts = and_parts _ (nat_lt (s.first + works_in (statement_of s.item.now)) (2 ^ 32)) at.reached in
    let numbers = and_parts (list_all (λ (r : Round). is_number_of (loops_of tree.items) r.number) rounds) (is_walkable (param_values tree) (length rounds) (statement_of s.item.now) (loops_in tree rounds)) parts.0 in
    let known : StripAt tree (at_value rounds v) s = record {
      plain = at.plain;
      inside = inside_at rounds v at.inside;
      reached = and_from _ _ (and_from _ _ (numbered_at (loops_of tree.items) rounds v numbers.0) (plain_walkable (param_values tree) (length (at_value rounds v)) (statement_of s.item.now) (loops_in tree (at_value rounds v)) at.plain)) parts.1;
      text = subst (λ ns. StandFrom (works tree) s.first (placed_in every ns (statement_of s.item.now))) (sym (numbers_at rounds v)) at.text;
    } in
    subst (λ rs. StripAt tree rs s) (sym is) known

-- the stops in later trips
pub later_at : (tree : Tree) (rounds inner : List Round) (s : Stop) (v : ℤ) (vs : List ℤ) → inner ≡ at_value rounds v → map (λ w. visit_at tree (at_value rounds w) s) vs ≡ map (λ w. visit_at tree (at_value inner w) s) vs
later_at tree rounds inner s v [] is = refl
later_at tree rounds inner s v (w ∷ vs) is =
    ap (λ rs. visit_at tree rs s ∷ map (λ w. visit_at tree (at_value rounds w) s) vs) (sym (again_at rounds v w) ∙ ap (λ rs. at_value rs w) (sym is))
    ∙ ap (λ xs. visit_at tree (at_value inner w) s ∷ xs) (later_at tree rounds inner s v vs is)

-- the loops in a trip
pub value_set : (old new : List Round) (v : ℤ) → 0 < length old → ((r : Round) (rounds : List Round) → old ≡ r ∷ rounds → new ≡ record { number = r.number; value = v } ∷ rounds) → new ≡ at_value old v
value_set [] new v some h = absurd (omega arith)
value_set (r ∷ rounds) new v some h = h r rounds refl
