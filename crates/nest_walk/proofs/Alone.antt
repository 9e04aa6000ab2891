-- A walk over one statement: nothing is left of the loops round it.
use Rattle.std.proofs.Common.{◌≡◌, ℕ, zero, suc, ◌+◌, ◌<◌, ◌≤◌, ◌^◌, ℤ, pos, Bool, true, nat_lt, List, [], ◌∷◌, ◌++◌, map, length, replicate, get_or, Some, refl, ap, sym, subst, ◌∙◌, arith}
use Rattle.std.specs.List.{Contains, All, flat_map, list_all, slice_get}
use Rattle.std.specs.Option.{option_to_list}
use Rattle.std.proofs.lemmas.Bool.{and_from, and_parts, eq-eqb, lt-ltb, ltb-true}
use Rattle.std.proofs.lemmas.List.{append-nil}
use Rattle.std.proofs.lemmas.List.Elements.{All-contains}
use Rattle.std.proofs.lemmas.List.Sums.{AllPass-from_list_all, list_all-from_AllPass}
use Rattle.nest_tree.specs.Tree.{Head, Statement, Statements, do_loop, done, next, Tree, param_values}
use Rattle.nest_tree.specs.View.{statement_of}
use Rattle.nest_tree.specs.WellFormed.{is_number_of, loops_of}
use Rattle.nest_model.specs.Instances.{head_trips, with_loop, works_in, works_of}
use Rattle.nest_model.specs.Visits.{every, visits_in, visits_of}
use Rattle.nest_walk.specs.Cursors.{is_reached, loops_in}
use Rattle.nest_walk.specs.Frames.{ended, level_of, levels_to}
use Rattle.nest_walk.specs.InText.{AreInText, StretchInText}
use Rattle.nest_walk.specs.Paths.{Round, by_number}
use Rattle.nest_walk.specs.Places.{numbers_of}
use Rattle.nest_walk.specs.RoundsOf.{rounds_of}
use Rattle.nest_walk.specs.Texts.{StandFrom, placed, placed_in, placed_of, works}
use Rattle.nest_walk.specs.Walkable.{are_walkable, is_walkable}
use Rattle.nest_walk.specs.Walks.{Level, Stretch, Walk, is_numbered, is_sound, is_sound_trip, last_place, last_work, left, stretch_behind, stretch_visits, walk_in}
use Rattle.nest_walk.specs.declared.cursor.Stop.{Stop}
use Rattle.nest_walk.specs.declared.frame.Frame.{Frame}
use Rattle.nest_walk.specs.declared.path.Path.{Path}
use Rattle.nest_walk.proofs.PathLists.{rounds_to-length}
use Rattle.nest_walk.proofs.TextMoves.{behind_text, works-all, works_of-all}
use Rattle.nest_walk.proofs.WalkMoves.{LoopAt, from_inside, loop_facts}

-- frames that are all the same
same_frames : (f : Frame) (n k : ℕ) → k < n → slice_get (replicate n f) k ≡ Some f
same_frames f zero k h = absurd (omega arith)
same_frames f (suc n) zero h = refl
same_frames f (suc n) (suc k) h = same_frames f n k (omega arith)

pub levels_same : (f : Frame) (n k : ℕ) → k ≤ n → levels_to (replicate n f) k ≡ replicate k (level_of f)
levels_same f n zero h = refl
levels_same f n (suc k) h =
    let lt : k < n = omega arith in
    let le : k ≤ n = omega arith in
    ap (λ o. map level_of (option_to_list o) ++ levels_to (replicate n f) k) (same_frames f n k lt) ∙ ap (λ ls. level_of f ∷ ls) (levels_same f n k le)

few_numbers : (walk : Walk) (end : ℕ) (rest : Stretch) → last_place walk rest ≡ end → last_work rest ≡ end → end < 2 ^ 32 → is_numbered walk rest ≡ true
few_numbers walk end rest place work few = and_from _ _ (lt-ltb (last_place walk rest) (2 ^ 32) (omega (arith, place, few))) (lt-ltb (last_work rest) (2 ^ 32) (omega (arith, work, few)))

-- the loops round a statement, all left
abbrev pub ended_round : List Round → ℕ → List Level
ended_round rounds end = replicate (length rounds) (ended end)

-- the statement can be walked
pub alone_sound : (walk : Walk) (end : ℕ) (rounds : List Round) (rest : Stretch) → list_all (λ (r : Round). is_number_of walk.loops r.number) rounds ≡ true → last_place walk rest ≡ end → last_work rest ≡ end → end < 2 ^ 32 →
    are_walkable walk.params (length rounds) rest.statements (by_number walk.loops rounds) ≡ true → is_sound walk rounds (ended_round rounds end) rest ≡ true
alone_sound walk end [] rest numbers place work few walkable = and_from _ _ (few_numbers walk end rest place work few) walkable
alone_sound walk end (r ∷ rounds) rest numbers place work few walkable =
    let both = and_parts (is_number_of walk.loops r.number) (list_all (λ (r : Round). is_number_of walk.loops r.number) rounds) numbers in
    from_inside walk r rounds (ended end) (ended_round rounds end) rest (record {
      number = both.0;
      numbered = few_numbers walk end rest place work few;
      walkable = walkable;
      ends = and_from _ _ (eq-eqb (last_place walk rest) (last_place walk (ended end).body) (omega (arith, place))) (eq-eqb (last_work rest) (last_work (ended end).body) (omega (arith, work)));
      later = refl;
      outer = alone_sound walk end rounds (stretch_behind walk (ended end)) both.1 (omega arith) (omega arith) few refl;
    })

nothing_left : (walk : Walk) (end : ℕ) (rounds : List Round) (rest : Stretch) → rest.statements ≡ done → left walk rounds (ended_round rounds end) rest ≡ []
nothing_left walk end [] rest at = ap (λ all. visits_in walk.params walk.enters all rest.place rest.first (by_number walk.loops [])) at
nothing_left walk end (r ∷ rounds) rest at =
    ap (λ all. visits_in walk.params walk.enters all rest.place rest.first (by_number walk.loops (r ∷ rounds)) ++ left walk rounds (ended_round rounds end) (stretch_behind walk (ended end))) at
    ∙ nothing_left walk end rounds (stretch_behind walk (ended end)) refl

pub alone_left : (walk : Walk) (end : ℕ) (rounds : List Round) (rest : Stretch) → left walk rounds (ended_round rounds end) rest ≡ stretch_visits walk rest (by_number walk.loops rounds)
alone_left walk end [] rest = refl
alone_left walk end (r ∷ rounds) rest =
    let here = stretch_visits walk rest (by_number walk.loops (r ∷ rounds)) in
    ap (λ xs. here ++ xs) (nothing_left walk end rounds (stretch_behind walk (ended end)) refl) ∙ append-nil here

pub trips_left_are : (walk : Walk) (end : ℕ) (r : Round) (rounds : List Round) (body : Stretch) (later : List ℤ) (rest : Stretch) → rest.statements ≡ done →
    left walk (r ∷ rounds) (record { body = body; later = later; behind = done } ∷ ended_round rounds end) rest ≡ flat_map (λ v. stretch_visits walk body (with_loop (by_number walk.loops rounds) r.number v)) later
trips_left_are walk end r rounds body later rest at =
    let all = flat_map (λ v. stretch_visits walk body (with_loop (by_number walk.loops rounds) r.number v)) later in
    let outer = left walk rounds (ended_round rounds end) (stretch_behind walk (record { body = body; later = later; behind = done })) in
    ap (λ ss. visits_in walk.params walk.enters ss rest.place rest.first (by_number walk.loops (r ∷ rounds)) ++ (all ++ outer)) at
    ∙ ap (λ xs. all ++ xs) (nothing_left walk end rounds (stretch_behind walk (record { body = body; later = later; behind = done })) refl) ∙ append-nil all

-- nothing of it in the text
stands_nowhere : (tree : Tree) (walk : Walk) (around : List ℕ) (end n m : ℕ) → end ≡ n → end ≡ m → StandFrom (placed tree walk.enters) end [] → StandFrom (works tree) end [] → StretchInText tree walk.enters around (record { statements = done; place = n; first = m })
stands_nowhere tree walk around end n m p f stops pieces = record { stops = subst (λ k. StandFrom (placed tree walk.enters) k []) p stops; works = subst (λ k. StandFrom (works tree) k []) f pieces }

pub alone_text : (tree : Tree) (walk : Walk) (end : ℕ) (rounds : List Round) (rest : Stretch) → StandFrom (placed tree walk.enters) end [] → StandFrom (works tree) end [] →
    StretchInText tree walk.enters (numbers_of rounds) rest → AreInText tree walk rounds (ended_round rounds end) rest
alone_text tree walk end [] rest stops pieces h = h
alone_text tree walk end (r ∷ rounds) rest stops pieces h =
    let around = r.number ∷ numbers_of rounds in (
      h,
      stands_nowhere tree walk around end end end refl refl stops pieces,
      alone_text tree walk end rounds (stretch_behind walk (ended end)) stops pieces
          (stands_nowhere tree walk (numbers_of rounds) end (last_place walk (ended end).body) (last_work (ended end).body) (omega arith) (omega arith) stops pieces),
    )

-- what holds of each of some values holds of those among them
pub each_among : (p : ℤ → Bool) (all some : List ℤ) → list_all p all ≡ true → All (Contains all) some → list_all p some ≡ true
each_among p all some h among = list_all-from_AllPass p some (λ k d lt. All-contains (λ x. p x ≡ true) all (get_or some k d) (AllPass-from_list_all p all h) (among k d lt))

-- the frames of a cursor over one statement
pub levels_round : (p : Path) (frames : List Frame) (depth end : ℕ) → depth ≡ length (rounds_of p) → levels_to frames depth ≡ replicate depth (ended end) → levels_to frames p.depth ≡ ended_round (rounds_of p) end
levels_round p frames depth end count h =
    let at : depth ≡ p.depth = count ∙ rounds_to-length p.numbers p.values p.depth in
    ap (levels_to frames) (sym at) ∙ h ∙ ap (λ k. replicate k (ended end)) count

-- a stop that is reached, in parts
pub record Reached (tree : Tree) (rounds : List Round) (s : Statement) (first : ℕ) : Type 0 where
  pub numbers : list_all (λ (r : Round). is_number_of (loops_of tree.items) r.number) rounds ≡ true
  pub walkable : is_walkable (param_values tree) (length rounds) s (loops_in tree rounds) ≡ true
  pub few : first + works_in s < 2 ^ 32

pub reached : (tree : Tree) (rounds : List Round) (s : Stop) → is_reached tree rounds s ≡ true → Reached tree rounds (statement_of s.item.now) s.first
reached tree rounds s h =
    let what = statement_of s.item.now in
    let a = and_parts _ (nat_lt (s.first + works_in what) (2 ^ 32)) h in
    let b = and_parts (list_all (λ (r : Round). is_number_of (loops_of tree.items) r.number) rounds) (is_walkable (param_values tree) (length rounds) what (loops_in tree rounds)) a.0 in
    record { numbers = b.0; walkable = b.1; few = ltb-true (s.first + works_in what) (2 ^ 32) a.1 }

-- the walk that enters every loop
abbrev pub whole_walk : Tree → Walk
whole_walk tree = walk_in tree []

module _ (tree : Tree) (rounds : List Round) (s : Statement) (first : ℕ) (r : Reached tree rounds s first) (text : StandFrom (works tree) first (placed_in every (numbers_of rounds) s)) where
  abbrev pub one : Stretch
  one = record { statements = next s done; place = first; first = first }

  pub one_sound : (end : ℕ) → end ≡ first + works_in s → is_sound (whole_walk tree) rounds (ended_round rounds end) one ≡ true
  one_sound end at =
      alone_sound (whole_walk tree) end rounds one r.numbers (omega (arith, at, works-all s)) (omega (arith, at)) (omega (arith, at, r.few)) (and_from _ _ r.walkable refl)

  pub one_left : (end : ℕ) → left (whole_walk tree) rounds (ended_round rounds end) one ≡ visits_of (param_values tree) every s first first (loops_in tree rounds)
  one_left end = alone_left (whole_walk tree) end rounds one ∙ append-nil (visits_of (param_values tree) every s first first (loops_in tree rounds))

  end_text : (end : ℕ) → end ≡ first + works_in s → StandFrom (works tree) end []
  end_text end at = subst (λ n. StandFrom (works tree) n []) (sym at) (behind_text tree every (numbers_of rounds) s first first (record { stops = text; works = text })).works

  pub one_text : (end : ℕ) → end ≡ first + works_in s → AreInText tree (whole_walk tree) rounds (ended_round rounds end) one
  one_text end at =
      let here : StandFrom (works tree) first (placed_of every (numbers_of rounds) (next s done)) = subst (StandFrom (works tree) first) (sym (append-nil (placed_in every (numbers_of rounds) s))) text in
      alone_text tree (whole_walk tree) end rounds one (end_text end at) (end_text end at) (record { stops = here; works = here })

module _ (tree : Tree) (rounds : List Round) (head : Head) (body : Statements) (first : ℕ) (reached : Reached tree rounds (do_loop head body) first) (text : StandFrom (works tree) first (placed_in every (numbers_of rounds) (do_loop head body)))
    (later : List ℤ) (among : All (Contains (head_trips (param_values tree) head (loops_in tree rounds))) later) where
  -- in the loop, behind its body
  abbrev pub round : Round
  round = record { number = head.number; value = pos 0 }

  abbrev pub level : Level
  level = record { body = record { statements = body; place = first; first = first }; later = later; behind = done }

  abbrev pub nothing : ℕ → Stretch
  nothing end = record { statements = done; place = end; first = end }

  facts : LoopAt (whole_walk tree) rounds head body
  facts = loop_facts (whole_walk tree) rounds head body reached.walkable

  pub trips_room : length rounds < 6
  trips_room = facts.room

  pub trips_sound : (end : ℕ) → end ≡ first + works_of body → is_sound (whole_walk tree) (round ∷ rounds) (level ∷ ended_round rounds end) (nothing end) ≡ true
  trips_sound end at =
      let walk = whole_walk tree in
      let few : end < 2 ^ 32 = omega (arith, at, reached.few) in
      let stops = works_of-all body in
      from_inside walk round rounds level (ended_round rounds end) (nothing end) (record {
        number = facts.number;
        numbered = few_numbers walk end (nothing end) (omega arith) (omega arith) few;
        walkable = refl;
        ends = and_from _ _ (eq-eqb (last_place walk (nothing end)) (last_place walk level.body) (omega (arith, at, stops))) (eq-eqb (last_work (nothing end)) (last_work level.body) (omega (arith, at)));
        later = each_among (is_sound_trip walk rounds head.number body) (head_trips (param_values tree) head (loops_in tree rounds)) later facts.sound among;
        outer = alone_sound walk end rounds (stretch_behind walk level) reached.numbers (omega (arith, at, stops)) (omega (arith, at)) few refl;
      })

  pub trips_left_is : (end : ℕ) → left (whole_walk tree) (round ∷ rounds) (level ∷ ended_round rounds end) (nothing end) ≡
      flat_map (λ v. visits_in (param_values tree) every body first first (with_loop (loops_in tree rounds) head.number v)) later
  trips_left_is end = trips_left_are (whole_walk tree) end round rounds level.body later (nothing end) refl

  pub trips_text : (end : ℕ) → end ≡ first + works_of body → AreInText tree (whole_walk tree) (round ∷ rounds) (level ∷ ended_round rounds end) (nothing end)
  trips_text end at =
      let walk = whole_walk tree in
      let around = head.number ∷ numbers_of rounds in
      let stands : StandFrom (works tree) end [] = subst (λ n. StandFrom (works tree) n []) (sym at) (behind_text tree every (numbers_of rounds) (do_loop head body) first first (record { stops = text; works = text })).works in (
        stands_nowhere tree walk around end end end refl refl stands stands,
        record { stops = text; works = text },
        alone_text tree walk end rounds (stretch_behind walk level) stands stands
            (stands_nowhere tree walk (numbers_of rounds) end (last_place walk level.body) (last_work level.body) (omega (arith, at, works_of-all body)) at stands stands),
      )
