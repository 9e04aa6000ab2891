-- A phase that the cursor of phases gives stands in the text where its place and its values lead, and can be walked from there on.
use Rattle.std.proofs.Common.{◌≡◌, ℕ, zero, suc, ◌+◌, ◌-◌, ◌<◌, ◌≤◌, ◌^◌, ℤ, pos, Bool, true, false, ◌&&◌, nat_lt, IsTrue, List, [], ◌∷◌, ◌++◌, drop, get_or, length, map, reverse, replicate, Option, Some, None, if◌then◌else◌, refl, ap, sym, subst, ◌∙◌, arith, length-append}
use Rattle.std.specs.Prelude.{slice_get, slice_index_or}
use Rattle.std.specs.List.{All, flat_map, list_all}
use Rattle.std.proofs.lemmas.Bool.{and_from, and_parts, le-ltb, lt-ltb}
use Rattle.std.proofs.lemmas.List.{append_assoc, length-map, length-reverse, reverse-append, length-replicate, length-set}
use Rattle.std.proofs.lemmas.List.Elements.{All-append, All-cons, All-get_or, All-head, All-nil, All-tail, All-weaker}
use Rattle.std.proofs.lemmas.Option.{get_or_from_slice_get, slice_get_within}
use Rattle.std.proofs.Math.Logic.{∥∥₁_elim}
use Rattle.std.proofs.Props.{props}
use Rattle.nest_tree.specs.Form.{is_small}
use Rattle.nest_tree.specs.Limits.{IsWithinLimits}
use Rattle.nest_tree.specs.Tree.{Statement, Statements, do_loop, work, continue, done, next, Tree, param_values}
use Rattle.nest_tree.specs.WellFormed.{IsWellFormed, is_number_of, loops_of}
use Rattle.nest_tree.specs.declared.tree.Item.{Item}
use Rattle.nest_tree.specs.declared.tree.Item.TheVariants.{Loop}
use Rattle.nest_tree.specs.declared.tree.Nest.{Nest}
use Rattle.nest_tree.specs.declared.program.Program.{Program}
use Rattle.nest_tree.specs.View.{loop_of, statement_of, statements_from, tree_of}
use Rattle.nest_tree.proofs.Rows.{statement_of-Loop, statements_more}
use Rattle.nest_model.specs.Instances.{Instance as Executed, head_trips, no_values, with_loop, works_in}
use Rattle.nest_model.specs.Visits.{Visit, every, instances_at, stops_in, stops_of, visits, visits_in, visits_of}
use Rattle.nest_walk.specs.Cursors.{is_reached, loops_in, visit_at}
use Rattle.nest_walk.specs.Paths.{Round, by_depth}
use Rattle.nest_walk.specs.Places.{numbers_of}
use Rattle.nest_walk.specs.RoundsOf.{rounds_of}
use Rattle.nest_walk.specs.declared.cursor.Stop.{Stop}
use Rattle.nest_walk.specs.declared.path.Path.{Path}
use Rattle.nest_walk.specs.Texts.{Placed, StandFrom, Standing, loops_round, placed, placed_in, placed_of, works}
use Rattle.nest_walk.proofs.PlacedWorks.{instance_at}
use Rattle.nest_walk.specs.Walkable.{are_walkable, is_walkable}
use Rattle.nest_walk.specs.Walks.{enters_but}
use Rattle.nest_walk.proofs.TextMoves.{stands_at, works-all}
use Rattle.nest_walk.proofs.Walks.{walkable}
use Rattle.owner_partition.specs.declared.cut.Mark.{Mark}
use Rattle.owner_partition.specs.declared.phases.Phase.{Phase}
use Rattle.owner_partition.specs.declared.anchor.Anchor.{Anchor}
use Rattle.owner_partition.specs.Marks.{enters_outer, is_closed}
use Rattle.owner_partition.specs.Owners.{own_instances}
use Rattle.owner_partition.proofs.Places.{few_phases}
use Rattle.owner_partition.specs.PhasesLeft.{IsPhaseOf}
use Rattle.owner_partition.specs.OwnLeft.{IsGivenAs}
use Rattle.owner_partition.specs.Sites.{Site, entered, site_among, site_in}

-- loops with these numbers, the innermost first, with values by depth
abbrev pub valued : List ℕ → List ℤ → List Round
valued [] outer = []
valued (n ∷ around) outer = record { number = n; value = slice_index_or outer (length around) (pos 0) } ∷ valued around outer

valued-length : (around : List ℕ) (outer : List ℤ) → length (valued around outer) ≡ length around
valued-length [] outer = refl
valued-length (n ∷ around) outer = ap suc (valued-length around outer)

entered-valued : (around : List ℕ) (outer : List ℤ) (n : ℕ) → entered outer (valued around outer) n ≡ valued (n ∷ around) outer
entered-valued around outer n = ap (λ k. record { number = n; value = slice_index_or outer k (pos 0) } ∷ valued around outer) (valued-length around outer)

index_behind : (front : List ℤ) (v : ℤ) (rest : List ℤ) (k : ℕ) → k ≡ length front → slice_index_or (front ++ v ∷ rest) k (pos 0) ≡ v
index_behind [] v rest zero e = refl
index_behind [] v rest (suc k) e = absurd (omega (arith, e))
index_behind (x ∷ front) v rest zero e = absurd (omega (arith, e))
index_behind (x ∷ front) v rest (suc k) e = index_behind front v rest k (omega (arith, e))

-- by the values of loops by depth they have their values
valued_again : (rounds : List Round) (rest : List ℤ) → valued (numbers_of rounds) (reverse (map (λ (r : Round). r.value) rounds) ++ rest) ≡ rounds
valued_again [] rest = refl
valued_again (r ∷ rounds) rest =
    let values = reverse (map (λ (q : Round). q.value) rounds) in
    let turned : reverse (r.value ∷ map (λ (q : Round). q.value) rounds) ++ rest ≡ values ++ r.value ∷ rest =
    ap (λ l. l ++ rest) (reverse-append (r.value ∷ []) (map (λ (q : Round). q.value) rounds)) ∙ append_assoc values (r.value ∷ []) rest in
    let long : length (numbers_of rounds) ≡ length values = length-map rounds (λ (q : Round). q.number) ∙ sym (length-reverse (map (λ (q : Round). q.value) rounds) ∙ length-map rounds (λ (q : Round). q.value)) in
    ap (valued (r.number ∷ numbers_of rounds)) turned
    ∙ ap (λ v. record { number = r.number; value = v } ∷ valued (numbers_of rounds) (values ++ r.value ∷ rest)) (index_behind values r.value rest (length (numbers_of rounds)) long)
    ∙ ap (λ rs. r ∷ rs) (valued_again rounds (r.value ∷ rest))

-- a visit is of the static phase that is so many places behind the first one of a text; it can be walked from there on
pub record IsAt (params : List ℤ) (enters : ℕ → Bool) (count : ℕ) (v : Visit) (text : List Placed) (sites : List ℤ → Option Site) (k : ℕ) : Type 0 where
  pub around : List ℕ
  pub at : slice_get text k ≡ Some (record { what = v.what; around = around })
  pub alone : (other : List ℕ) → placed_in enters other v.what ≡ record { what = v.what; around = other } ∷ []
  pub site : (outer : List ℤ) → sites outer ≡ Some (record { what = v.what; first = v.first; rounds = valued around outer })
  pub numbered : list_all (is_number_of count) around ≡ true
  pub can_walk : is_walkable params (length around) v.what v.loops ≡ true

pub record IsAtFrom (params : List ℤ) (enters : ℕ → Bool) (count place stops : ℕ) (text : List Placed) (sites : ℕ → List ℤ → Option Site) (v : Visit) : Type 0 where
  pub k : ℕ
  pub place_is : v.place ≡ place + k
  pub within : k < stops
  pub there : IsAt params enters count v text (sites k) k

pub All-flat_map : {X Y : Type 0} (P : Y → Type 0) (f : X → List Y) (xs : List X) → All (λ x. All P (f x)) xs → All P (flat_map f xs)
All-flat_map P f [] all = All-nil P
All-flat_map P f (x ∷ xs) all = All-append P (f x) (flat_map f xs) (All-head (λ x. All P (f x)) x xs all) (All-flat_map P f xs (All-tail (λ x. All P (f x)) x xs all))

pub all_of : {X : Type 0} (P : X → Type 0) (p : X → Bool) (xs : List X) → list_all p xs ≡ true → ((x : X) → p x ≡ true → P x) → All P xs
all_of P p [] h f = All-nil P
all_of P p (x ∷ xs) h f =
    let parts = and_parts (p x) (list_all p xs) h in
    All-cons P x xs (f x parts.0) (all_of P p xs parts.1 f)

-- a statement at which the walk stops
one_at : (params : List ℤ) (enters : ℕ → Bool) (count place : ℕ) (v : Visit) (around : List ℕ) (sites : ℕ → List ℤ → Option Site) → v.place ≡ place → ((other : List ℕ) → placed_in enters other v.what ≡ record { what = v.what; around = other } ∷ []) →
    ((outer : List ℤ) → sites 0 outer ≡ Some (record { what = v.what; first = v.first; rounds = valued around outer })) → list_all (is_number_of count) around ≡ true → is_walkable params (length around) v.what v.loops ≡ true →
    All (IsAtFrom params enters count place 1 (record { what = v.what; around = around } ∷ []) sites) (v ∷ [])
one_at params enters count place v around sites at alone site numbered can_walk =
    All-cons (IsAtFrom params enters count place 1 (record { what = v.what; around = around } ∷ []) sites) v [] (record {
      k = 0;
      place_is = omega (arith, at);
      within = omega arith;
      there = record { around = around; at = refl; alone = alone; site = site; numbered = numbered; can_walk = can_walk };
    }) (All-nil (IsAtFrom params enters count place 1 (record { what = v.what; around = around } ∷ []) sites))

pub get-front : (front rest : List Placed) (k : ℕ) → k < length front → slice_get (front ++ rest) k ≡ slice_get front k
get-front [] rest k h = absurd (omega (arith, h))
get-front (x ∷ front) rest zero h = refl
get-front (x ∷ front) rest (suc k) h = get-front front rest k (omega (arith, h))

pub get-behind : (front rest : List Placed) (k : ℕ) → slice_get (front ++ rest) (length front + k) ≡ slice_get rest k
get-behind [] rest k = ap (slice_get rest) (omega arith)
get-behind (x ∷ front) rest k =
    let more : length (x ∷ front) + k ≡ suc (length front + k) = omega arith in
    ap (slice_get (x ∷ (front ++ rest))) more ∙ get-behind front rest k

mutual
  pub placed_count : (enters : ℕ → Bool) (around : List ℕ) (s : Statement) → length (placed_in enters around s) ≡ stops_in enters s
  placed_count enters around (do_loop head body) =
      let all = placed_counts enters (head.number ∷ around) body in
      elim (enters head.number) as (λ b. length (if b then placed_of enters (head.number ∷ around) body else record { what = do_loop head body; around = around } ∷ []) ≡ (if b then stops_of enters body else 1)) [
        | true ↦ all
        | false ↦ refl
      ]
  placed_count enters around (work w) = refl
  placed_count enters around (continue line) = refl

  pub placed_counts : (enters : ℕ → Bool) (around : List ℕ) (ss : Statements) → length (placed_of enters around ss) ≡ stops_of enters ss
  placed_counts enters around done = refl
  placed_counts enters around (next s rest) =
      omega (arith, length-append (placed_in enters around s) (placed_of enters around rest), placed_count enters around s, placed_counts enters around rest)

module _ (params : List ℤ) (enters : ℕ → Bool) (count : ℕ) where
  mutual
    at_in : (loops : List ℤ) (around : List ℕ) (s : Statement) (place first : ℕ) → length loops ≡ count → list_all (is_number_of count) around ≡ true → is_walkable params (length around) s loops ≡ true →
        All (IsAtFrom params enters count place (stops_in enters s) (placed_in enters around s) (λ k outer. site_in enters outer (valued around outer) s k first)) (visits_of params enters s place first loops)
    at_in loops around (do_loop head body) place first long numbered h =
        let parts = and_parts _ (list_all (λ v. is_small v && are_walkable params (suc (length around)) body (with_loop loops head.number v)) (head_trips params head loops)) h in
        let a = and_parts _ _ parts.0 in
        let b = and_parts _ _ a.0 in
        let c = and_parts _ _ b.0 in
        let number : is_number_of count head.number ≡ true = ap (λ n. is_number_of n head.number) (sym long) ∙ c.0 in
        let here : Visit = record { place = place; first = first; what = do_loop head body; loops = loops } in
        let inside = λ (v : ℤ). visits_in params enters body place first (with_loop loops head.number v) in
        let P = IsAtFrom params enters count place (stops_of enters body) (placed_of enters (head.number ∷ around) body) (λ k outer. site_among enters outer (entered outer (valued around outer) head.number) body k first) in
        let trip = λ (v : ℤ) (t : (is_small v && are_walkable params (suc (length around)) body (with_loop loops head.number v)) ≡ true).
        let walk = (and_parts (is_small v) (are_walkable params (suc (length around)) body (with_loop loops head.number v)) t).1 in
        All-weaker (IsAtFrom params enters count place (stops_of enters body) (placed_of enters (head.number ∷ around) body) (λ k outer. site_among enters outer (valued (head.number ∷ around) outer) body k first)) P
        (λ w f. record {
          k = f.k;
          place_is = f.place_is;
          within = f.within;
          there = record {
            around = f.there.around;
            at = f.there.at;
            alone = f.there.alone;
            site = λ outer. ap (λ rounds. site_among enters outer rounds body f.k first) (entered-valued around outer head.number) ∙ f.there.site outer;
            numbered = f.there.numbered;
            can_walk = f.there.can_walk;
          };
        }) (inside v)
        (at_among (with_loop loops head.number v) (head.number ∷ around) body place first (length-set loops (head.number - 1) v ∙ long) (and_from _ _ number numbered) walk) in
        let all : All P (flat_map inside (head_trips params head loops)) =
        All-flat_map P inside (head_trips params head loops) (all_of (λ v. All P (inside v)) (λ v. is_small v && are_walkable params (suc (length around)) body (with_loop loops head.number v)) (head_trips params head loops) parts.1 trip) in
        by (enters head.number) refl all
      where
        by : (b : Bool) → enters head.number ≡ b →
            All (IsAtFrom params enters count place (stops_of enters body) (placed_of enters (head.number ∷ around) body) (λ k outer. site_among enters outer (entered outer (valued around outer) head.number) body k first))
            (flat_map (λ v. visits_in params enters body place first (with_loop loops head.number v)) (head_trips params head loops)) →
            All (IsAtFrom params enters count place (if b then stops_of enters body else 1) (if b then placed_of enters (head.number ∷ around) body else record { what = do_loop head body; around = around } ∷ [])
            (λ k outer. if b then site_among enters outer (entered outer (valued around outer) head.number) body k first else Some (record { what = do_loop head body; first = first; rounds = valued around outer })))
            (if b then flat_map (λ v. visits_in params enters body place first (with_loop loops head.number v)) (head_trips params head loops) else record { place = place; first = first; what = do_loop head body; loops = loops } ∷ [])
        by true e all = all
        by false e all =
            one_at params enters count place (record { place = place; first = first; what = do_loop head body; loops = loops }) around (λ k outer. Some (record { what = do_loop head body; first = first; rounds = valued around outer })) refl
            (λ other. ap (λ b. if b then placed_of enters (head.number ∷ other) body else record { what = do_loop head body; around = other } ∷ []) e) (λ outer. refl) numbered h
    at_in loops around (work w) place first long numbered h =
        one_at params enters count place (record { place = place; first = first; what = work w; loops = loops }) around (λ k outer. Some (record { what = work w; first = first; rounds = valued around outer })) refl (λ other. refl) (λ outer. refl) numbered h
    at_in loops around (continue line) place first long numbered h = All-nil (IsAtFrom params enters count place 0 [] (λ k outer. None))

    at_among : (loops : List ℤ) (around : List ℕ) (ss : Statements) (place first : ℕ) → length loops ≡ count → list_all (is_number_of count) around ≡ true → are_walkable params (length around) ss loops ≡ true →
        All (IsAtFrom params enters count place (stops_of enters ss) (placed_of enters around ss) (λ k outer. site_among enters outer (valued around outer) ss k first)) (visits_in params enters ss place first loops)
    at_among loops around done place first long numbered h = All-nil (IsAtFrom params enters count place 0 [] (λ k outer. None))
    at_among loops around (next s rest) place first long numbered h =
        let both = and_parts (is_walkable params (length around) s loops) (are_walkable params (length around) rest loops) h in
        let stops = stops_in enters s in
        let text = placed_in enters around s in
        let later = placed_of enters around rest in
        let as_many = placed_count enters around s in
        let sites = λ (k : ℕ) (outer : List ℤ). site_among enters outer (valued around outer) (next s rest) k first in
        let P = IsAtFrom params enters count place (stops + stops_of enters rest) (text ++ later) sites in
        All-append P (visits_of params enters s place first loops) (visits_in params enters rest (place + stops) (first + works_in s) loops)
        (All-weaker (IsAtFrom params enters count place stops text (λ k outer. site_in enters outer (valued around outer) s k first)) P
        (λ v f. record {
          k = f.k;
          place_is = f.place_is;
          within = omega (arith, f.within);
          there = record {
            around = f.there.around;
            at = get-front text later f.k (omega (arith, as_many, f.within)) ∙ f.there.at;
            alone = f.there.alone;
            site = λ outer. ap (λ b. if b then site_in enters outer (valued around outer) s f.k first else site_among enters outer (valued around outer) rest (f.k - stops) (first + works_in s)) (lt-ltb f.k stops f.within) ∙ f.there.site outer;
            numbered = f.there.numbered;
            can_walk = f.there.can_walk;
          };
        }) (visits_of params enters s place first loops) (at_in loops around s place first long numbered both.0))
        (All-weaker (IsAtFrom params enters count (place + stops) (stops_of enters rest) later (λ k outer. site_among enters outer (valued around outer) rest k (first + works_in s))) P
        (λ v f.
        let back : stops + f.k - stops ≡ f.k = omega arith in record {
          k = stops + f.k;
          place_is = omega (arith, f.place_is);
          within = omega (arith, f.within);
          there = record {
            around = f.there.around;
            at = ap (λ n. slice_get (text ++ later) (n + f.k)) (sym as_many) ∙ get-behind text later f.k ∙ f.there.at;
            alone = f.there.alone;
            site = λ outer. ap (λ b. if b then site_in enters outer (valued around outer) s (stops + f.k) first else site_among enters outer (valued around outer) rest (stops + f.k - stops) (first + works_in s)) (le-ltb (stops + f.k) stops (omega arith))
                ∙ ap (λ n. site_among enters outer (valued around outer) rest n (first + works_in s)) back ∙ f.there.site outer;
            numbered = f.there.numbered;
            can_walk = f.there.can_walk;
          };
        }) (visits_in params enters rest (place + stops) (first + works_in s) loops) (at_among loops around rest (place + stops) (first + works_in s) long numbered both.1))

pub all_at : {X : Type 0} (P : X → Type 0) (xs : List X) (k : ℕ) (x : X) → All P xs → slice_get xs k ≡ Some x → P x
all_at P xs k x all e = subst P (get_or_from_slice_get xs k x x e) (All-get_or P xs k x (slice_get_within xs k x e) all)

same_around : (s : Statement) (a b : List ℕ) → ◌≡◌ {A = Option Placed} (Some (record { what = s; around = a })) (Some (record { what = s; around = b })) → a ≡ b
same_around s a b e =
    let one : Placed = record { what = s; around = a } in
    let other : Placed = record { what = s; around = b } in
    let whole : Some one ≡ Some other = e in
    let same : one ≡ other = cc in
    ap (λ (p : Placed). p.around) same

pub at_middle : {X : Type 0} (before : List X) (x : X) (behind : List X) → slice_get (before ++ x ∷ behind) (length before) ≡ Some x
at_middle [] x behind = refl
at_middle (y ∷ before) x behind = at_middle before x behind

-- what is known of a phase that the cursor gives
pub record Stands (tree : Tree) (marks : List Mark) (v : Visit) (p : Phase) (rounds : List Round) : Type 0 where
  pub site : site_among (enters_outer marks) p.outer [] tree.items (p.place - 1) 1 ≡ Some (record { what = v.what; first = v.first; rounds = rounds })
  pub numbered : list_all (λ (r : Round). is_number_of (loops_of tree.items) r.number) rounds ≡ true
  pub can_walk : is_walkable (param_values tree) (length rounds) v.what (loops_in tree rounds) ≡ true

numbered_rounds : (count : ℕ) (rounds : List Round) → list_all (is_number_of count) (numbers_of rounds) ≡ true → list_all (λ (r : Round). is_number_of count r.number) rounds ≡ true
numbered_rounds count [] h = refl
numbered_rounds count (r ∷ rounds) h =
    let parts = and_parts (is_number_of count r.number) (list_all (is_number_of count) (numbers_of rounds)) h in
    and_from _ _ parts.0 (numbered_rounds count rounds parts.1)

pub phase_stands : (tree : Tree) (marks : List Mark) (v : Visit) (p : Phase) (is : IsPhaseOf tree (enters_outer marks) v p) → IsWellFormed tree → IsWithinLimits tree → Stands tree marks v p is.rounds
phase_stands tree marks v p is formed limits =
    let enters = enters_outer marks in
    let params = param_values tree in
    let count = loops_of tree.items in
    let all = at_among params enters count (no_values tree) [] tree.items 1 1 (length-replicate count (pos 0)) refl (walkable tree formed limits) in
    let f = all_at (IsAtFrom params enters count 1 (stops_of enters tree.items) (placed tree enters) (λ k outer. site_among enters outer [] tree.items k 1)) (visits tree enters) (length is.before) v all (ap (λ vs. slice_get vs (length is.before)) is.all ∙ at_middle is.before v is.behind) in
    let place : p.place - 1 ≡ f.k = omega (arith, f.place_is, is.is.place_is) in
    let visit : v.place - 1 ≡ f.k = omega (arith, f.place_is) in
    let around : f.there.around ≡ numbers_of is.rounds = ∥∥₁_elim is.is.text.stops (hlevel props) (λ h.
    let alone : Standing (placed tree enters) v.place (record { what = v.what; around = numbers_of is.rounds } ∷ []) = subst (Standing (placed tree enters) v.place) (f.there.alone (numbers_of is.rounds)) h in
    let found = sym (ap (slice_get (placed tree enters)) visit) ∙ stands_at (placed tree enters) v.place (record { what = v.what; around = numbers_of is.rounds }) [] alone in
    same_around v.what f.there.around (numbers_of is.rounds) (sym f.there.at ∙ found)) in
    let rounds : valued f.there.around p.outer ≡ is.rounds = ap (λ a. valued a p.outer) around ∙ ap (valued (numbers_of is.rounds)) is.is.outer_is ∙ valued_again is.rounds (replicate (6 - length is.rounds) (pos 0)) in
    let deep : length f.there.around ≡ length is.rounds = ap (λ (l : List ℕ). length l) around ∙ length-map is.rounds (λ (r : Round). r.number) in
    record {
      site = ap (λ k. site_among enters p.outer [] tree.items k 1) place ∙ f.there.site p.outer ∙ ap (λ rs. Some (record { what = v.what; first = v.first; rounds = rs })) rounds;
      numbered = numbered_rounds count is.rounds (sym (ap (list_all (is_number_of count)) around) ∙ f.there.numbered);
      can_walk = ap (λ n. is_walkable params n v.what (loops_in tree is.rounds)) (sym deep) ∙ ap (is_walkable params (length f.there.around) v.what) (sym is.is.loops_are) ∙ f.there.can_walk;
    }

-- an instance at a stop, with the loops round it
pub given_as : (tree : Tree) (rounds : List Round) (s : Stop) (x : Executed) (path : Path) (values : List ℤ) → rounds_of path ≡ rounds → values ≡ by_depth (rounds_of path) → StandFrom (works tree) s.first (placed_in every (numbers_of rounds) (statement_of s.item.now)) →
    instances_at (param_values tree) (visit_at tree rounds s) ≡ x ∷ [] → IsGivenAs tree x (record { statement = s.first; loops = values })
given_as tree rounds s x path values path_is values_are text shown =
    let i = instance_at tree rounds s.first (statement_of s.item.now) x shown in
    let first : x.statement ≡ s.first = ap (λ (y : Executed). y.statement) i.instance_is in
    let stands : StandFrom (works tree) s.first (record { what = work i.what; around = numbers_of rounds } ∷ []) = subst (λ w. StandFrom (works tree) s.first (placed_in every (numbers_of rounds) w)) i.is text in
    let round : loops_round tree s.first ≡ numbers_of rounds = ∥∥₁_elim stands (hlevel props) (λ h. round_is (works tree) (s.first - 1) (record { what = work i.what; around = numbers_of rounds }) (stands_at (works tree) s.first (record { what = work i.what; around = numbers_of rounds }) [] h)) in
    record {
      rounds = rounds;
      statement_is = sym first;
      round = ap (loops_round tree) first ∙ round;
      loops_are = ap (λ (y : Executed). y.loops) i.instance_is;
      by_depth_is = values_are ∙ ap by_depth path_is;
    }
  where
    round_is : (all : List Placed) (k : ℕ) (p : Placed) → slice_get all k ≡ Some p → slice_index_or (map (λ (q : Placed). q.around) all) k [] ≡ p.around
    round_is [] k p at = let clash : None ≡ Some p = at in absurd (cc)
    round_is (q ∷ all) zero p at = let same : Some q ≡ Some p = at in let is : q ≡ p = cc in ap (λ (r : Placed). r.around) is
    round_is (q ∷ all) (suc k) p at = round_is all k p at

-- the static phase of a text stands in its first statement, or behind it
pub site_here : (enters : ℕ → Bool) (outer : List ℤ) (rounds : List Round) (items : List Item) (i : ℕ) (item : Item) (left first : ℕ) → i < length items → item ≡ get_or items i item → left < stops_in enters (statement_of item) →
    site_among enters outer rounds (statements_from (drop i items)) left first ≡ site_in enters outer rounds (statement_of item) left first
site_here enters outer rounds items i item left first lt is inside =
    let s = statement_of item in
    let rest = statements_from (drop (i + 1) items) in
    ap (λ ss. site_among enters outer rounds ss left first) (statements_more items i item lt is)
    ∙ ap (λ b. if b then site_in enters outer rounds s left first else site_among enters outer rounds rest (left - stops_in enters s) (first + works_in s)) (lt-ltb left (stops_in enters s) inside)

pub site_later : (enters : ℕ → Bool) (outer : List ℤ) (rounds : List Round) (items : List Item) (i : ℕ) (item : Item) (left first : ℕ) → i < length items → item ≡ get_or items i item → stops_in enters (statement_of item) ≤ left →
    site_among enters outer rounds (statements_from (drop i items)) left first
    ≡ site_among enters outer rounds (statements_from (drop (i + 1) items)) (left - stops_in enters (statement_of item)) (first + works_in (statement_of item))
site_later enters outer rounds items i item left first lt is past =
    let s = statement_of item in
    let rest = statements_from (drop (i + 1) items) in
    ap (λ ss. site_among enters outer rounds ss left first) (statements_more items i item lt is)
    ∙ ap (λ b. if b then site_in enters outer rounds s left first else site_among enters outer rounds rest (left - stops_in enters s) (first + works_in s)) (le-ltb left (stops_in enters s) past)

-- in a loop that is entered, it stands in the body
pub site_entered : (enters : ℕ → Bool) (outer : List ℤ) (rounds inside : List Round) (item : Item) (nest : Nest) (items : List Item) (place first : ℕ) → item ≡ Loop nest → items ≡ nest.items.items → enters nest.number ≡ true → inside ≡ entered outer rounds nest.number →
    site_in enters outer rounds (statement_of item) place first ≡ site_among enters outer inside (statements_from items) place first
site_entered enters outer rounds inside item nest items place first is items_are enter inside_is =
    ap (λ s. site_in enters outer rounds s place first) (ap statement_of is ∙ statement_of-Loop nest)
    ∙ ap (λ b. if b then site_among enters outer (entered outer rounds nest.number) (statements_from nest.items.items) place first else Some (record { what = loop_of nest; first = first; rounds = rounds })) enter
    ∙ ap (λ rs. site_among enters outer rs (statements_from nest.items.items) place first) (sym inside_is)
    ∙ ap (λ xs. site_among enters outer inside (statements_from xs) place first) (sym items_are)

-- the search of a program's text by what its code has
pub site_same : (p : Program) (marks : List Mark) (closed : List Bool) (items : List Item) (rounds : List Round) (before number : ℕ) (outer : List ℤ) → closed ≡ map is_closed marks → items ≡ p.items.items → rounds ≡ [] → before ≡ number - 1 →
    site_among (enters_but closed) outer rounds (statements_from items) before 1 ≡ site_among (enters_outer marks) outer [] (tree_of p).items (number - 1) 1
site_same p marks closed items rounds before number outer cut items_are none place =
    ap (λ bs. site_among (enters_but bs) outer rounds (statements_from items) before 1) cut
    ∙ ap (λ xs. site_among (enters_outer marks) outer rounds (statements_from xs) before 1) items_are
    ∙ ap (λ rs. site_among (enters_outer marks) outer rs (statements_from p.items.items) before 1) none
    ∙ ap (λ k. site_among (enters_outer marks) outer [] (statements_from p.items.items) k 1) place

-- what was found is that phase
pub record IsFound (tree : Tree) (v : Visit) (rounds : List Round) (s : Stop) (found : List Round) : Type 0 where
  pub what : statement_of s.item.now ≡ v.what
  pub first : s.first ≡ v.first
  pub rounds_are : found ≡ rounds

pub is_found : (tree : Tree) (v : Visit) (rounds : List Round) (s : Stop) (found : List Round) → ◌≡◌ {A = Option Site} (Some (record { what = statement_of s.item.now; first = s.first; rounds = found })) (Some (record { what = v.what; first = v.first; rounds = rounds })) → IsFound tree v rounds s found
is_found tree v rounds s found e =
    let one : Site = record { what = statement_of s.item.now; first = s.first; rounds = found } in
    let other : Site = record { what = v.what; first = v.first; rounds = rounds } in
    let whole : Some one ≡ Some other = e in
    let same : one ≡ other = cc in
    record { what = ap (λ (x : Site). x.what) same; first = ap (λ (x : Site). x.first) same; rounds_are = ap (λ (x : Site). x.rounds) same }

-- so it can be walked
pub found_reached : (tree : Tree) (marks : List Mark) (v : Visit) (ph : Phase) (is : IsPhaseOf tree (enters_outer marks) v ph) (s : Stop) (found : List Round) → IsWellFormed tree → IsWithinLimits tree → IsFound tree v is.rounds s found → IsTrue (is_reached tree found s)
found_reached tree marks v ph is s found formed limits f =
    let h = phase_stands tree marks v ph is formed limits in
    let few : nat_lt (v.first + works_in v.what) (2 ^ 32) ≡ true = ∥∥₁_elim is.is.text.works (hlevel props) (λ w.
    let all = ap (λ (ps : List Placed). length ps) w.all_is in
    lt-ltb (v.first + works_in v.what) (2 ^ 32) (omega (
      arith,
      w.number_is,
      all,
      length-append w.before (placed_in every (numbers_of is.rounds) v.what ++ w.behind),
      length-append (placed_in every (numbers_of is.rounds) v.what) w.behind,
      placed_count every (numbers_of is.rounds) v.what,
      works-all v.what,
      placed_counts every [] tree.items,
      few_phases tree every formed,
    ))) in
    let numbered = ap (list_all (λ (r : Round). is_number_of (loops_of tree.items) r.number)) f.rounds_are ∙ h.numbered in
    let walk = ap (λ rs. is_walkable (param_values tree) (length rs) (statement_of s.item.now) (loops_in tree rs)) f.rounds_are ∙ ap (λ w. is_walkable (param_values tree) (length is.rounds) w (loops_in tree is.rounds)) f.what ∙ h.can_walk in
    and_from _ _ (and_from _ _ numbered walk) (ap (λ n. nat_lt (n + works_in (statement_of s.item.now)) (2 ^ 32)) f.first ∙ ap (λ w. nat_lt (v.first + works_in w) (2 ^ 32)) f.what ∙ few)

-- and it stands in the text
pub found_text : (tree : Tree) (marks : List Mark) (v : Visit) (ph : Phase) (is : IsPhaseOf tree (enters_outer marks) v ph) (s : Stop) (found : List Round) → IsFound tree v is.rounds s found →
    StandFrom (works tree) s.first (placed_in every (numbers_of found) (statement_of s.item.now))
found_text tree marks v ph is s found f =
    subst (λ n. StandFrom (works tree) n (placed_in every (numbers_of found) (statement_of s.item.now))) (sym f.first)
    (subst (λ w. StandFrom (works tree) v.first (placed_in every (numbers_of found) w)) (sym f.what) (subst (λ rs. StandFrom (works tree) v.first (placed_in every (numbers_of rs) v.what)) (sym f.rounds_are) is.is.text.works))

-- its own instances are those of the phase
pub found_own : (tree : Tree) (marks : List Mark) (v : Visit) (ph : Phase) (is : IsPhaseOf tree (enters_outer marks) v ph) (s : Stop) (found : List Round) (a : Anchor) (workers p : ℕ) → IsFound tree v is.rounds s found →
    own_instances (param_values tree) a workers p (visit_at tree found s) ≡ own_instances (param_values tree) a workers p v
found_own tree marks v ph is s found a workers p f =
    let own = λ (what : Statement) (first : ℕ) (loops : List ℤ). own_instances (param_values tree) a workers p (record { place = s.place; first = first; what = what; loops = loops }) in
    ap (λ w. own w s.first (loops_in tree found)) f.what ∙ ap (λ n. own v.what n (loops_in tree found)) f.first ∙ ap (λ rs. own v.what v.first (loops_in tree rs)) f.rounds_are ∙ ap (own v.what v.first) (sym is.is.loops_are)
