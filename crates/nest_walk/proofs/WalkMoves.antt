-- The moves of a walk: what is left stays what it is, with fewer moves, and can still be walked.
use Rattle.std.proofs.Common.{◌≡◌, ℕ, suc, ◌+◌, ◌<◌, ◌^◌, ◌==◌, ◌-◌, ℤ, pos, Bool, true, false, ◌&&◌, nat_lt, List, [], ◌∷◌, ◌++◌, length, if◌then◌else◌, refl, subst, unsigned_abs, ap, sym, ◌∙◌, append_assoc, arith}
use Rattle.std.specs.List.{flat_map, list_all, sum_by}
use Rattle.std.proofs.lemmas.Bool.{and_parts, and_from, eq-eqb, eqb-true, lt-ltb, ltb-true}
use Rattle.std.proofs.lemmas.List.{append-nil, length-replicate, length-set}
use Rattle.std.proofs.lemmas.List.Sums.{sum_by-cons}
use Rattle.nest_tree.specs.Form.{is_small}
use Rattle.nest_tree.specs.Tree.{Head, Statement, Statements, do_loop, work, continue, done, next, Tree}
use Rattle.nest_tree.specs.WellFormed.{is_number_of}
use Rattle.nest_model.specs.Instances.{head_trips, with_loop, works_in, works_of}
use Rattle.nest_model.specs.Visits.{Visit, every, stops_in, stops_of, visits_of, visits_in}
use Rattle.nest_walk.specs.InText.{AreInText}
use Rattle.nest_walk.specs.Moves.{moves_of, moves_in, stretch_moves, moves_left}
use Rattle.nest_walk.specs.Paths.{Round, by_number}
use Rattle.nest_walk.specs.Places.{numbers_of}
use Rattle.nest_walk.specs.Texts.{IsInText, StandFrom, placed_of, works}
use Rattle.nest_walk.specs.Walkable.{are_above, is_walkable, are_walkable, is_small_at, is_small_head}
use Rattle.nest_walk.specs.Walks.{Walk, Stretch, Level, last_place, last_work, stretch_behind, stretch_visits, left, is_numbered, is_sound_stretch, ends_with, is_sound_trip, is_sound}
use Rattle.nest_walk.proofs.TextMoves.{after_text, body_text, replace_text, rest_text, statement_text}

pub by_number-length : (loops : ℕ) (rounds : List Round) → length (by_number loops rounds) ≡ loops
by_number-length loops [] = length-replicate loops (pos 0)
by_number-length loops (r ∷ rounds) = length-set (by_number loops rounds) (r.number - 1) r.value ∙ by_number-length loops rounds

-- the stops outside the innermost body, and the moves
abbrev outside : Walk → List Round → List Level → List Visit
outside walk [] levels = []
outside walk (r ∷ rounds) [] = []
outside walk (r ∷ rounds) (l ∷ levels) =
    flat_map (λ v. stretch_visits walk l.body (with_loop (by_number walk.loops rounds) r.number v)) l.later ++ left walk rounds levels (stretch_behind walk l)

abbrev moves_outside : Walk → List Round → List Level → ℕ
moves_outside walk [] levels = 0
moves_outside walk (r ∷ rounds) [] = 0
moves_outside walk (r ∷ rounds) (l ∷ levels) =
    suc (sum_by (λ v. suc (stretch_moves walk l.body (with_loop (by_number walk.loops rounds) r.number v))) l.later) + moves_left walk rounds levels (stretch_behind walk l)

-- what soundness says of the rest, and that another rest with the same end may stand in its place
pub record Rest (walk : Walk) (rounds : List Round) (levels : List Level) (rest : Stretch) : Type 0 where
  pub numbered : is_numbered walk rest ≡ true
  pub walkable : are_walkable walk.params (length rounds) rest.statements (by_number walk.loops rounds) ≡ true
  pub left_is : (s : Stretch) → left walk rounds levels s ≡ stretch_visits walk s (by_number walk.loops rounds) ++ outside walk rounds levels
  pub moves_is : (s : Stretch) → moves_left walk rounds levels s ≡ stretch_moves walk s (by_number walk.loops rounds) + moves_outside walk rounds levels
  pub replace : (s : Stretch) → last_place walk s ≡ last_place walk rest → last_work s ≡ last_work rest →
      are_walkable walk.params (length rounds) s.statements (by_number walk.loops rounds) ≡ true → is_sound walk rounds levels s ≡ true

same_numbered : (walk : Walk) (rest s : Stretch) → is_numbered walk rest ≡ true → last_place walk s ≡ last_place walk rest → last_work s ≡ last_work rest → is_numbered walk s ≡ true
same_numbered walk rest s h p w = ap (λ n. nat_lt n (2 ^ 32) && nat_lt (last_work s) (2 ^ 32)) p ∙ ap (λ n. nat_lt (last_place walk rest) (2 ^ 32) && nat_lt n (2 ^ 32)) w ∙ h

same_ends : (walk : Walk) (rest s body : Stretch) → ends_with walk rest body ≡ true → last_place walk s ≡ last_place walk rest → last_work s ≡ last_work rest → ends_with walk s body ≡ true
same_ends walk rest s body h p w =
    ap (λ n. n == last_place walk body && last_work s == last_work body) p ∙ ap (λ n. last_place walk rest == last_place walk body && n == last_work body) w ∙ h

-- the parts of soundness inside a loop
pub record Inside (walk : Walk) (r : Round) (rounds : List Round) (l : Level) (levels : List Level) (rest : Stretch) : Type 0 where
  pub number : is_number_of walk.loops r.number ≡ true
  pub numbered : is_numbered walk rest ≡ true
  pub walkable : are_walkable walk.params (suc (length rounds)) rest.statements (by_number walk.loops (r ∷ rounds)) ≡ true
  pub ends : ends_with walk rest l.body ≡ true
  pub later : list_all (is_sound_trip walk rounds r.number l.body.statements) l.later ≡ true
  pub outer : is_sound walk rounds levels (stretch_behind walk l) ≡ true

pub inside : (walk : Walk) (r : Round) (rounds : List Round) (l : Level) (levels : List Level) (rest : Stretch) →
    is_sound walk (r ∷ rounds) (l ∷ levels) rest ≡ true → Inside walk r rounds l levels rest
inside walk r rounds l levels rest h =
    let a = and_parts _ (is_sound walk rounds levels (stretch_behind walk l)) h in
    let b = and_parts _ (list_all (is_sound_trip walk rounds r.number l.body.statements) l.later) a.0 in
    let c = and_parts _ (ends_with walk rest l.body) b.0 in
    let d = and_parts (is_number_of walk.loops r.number) (is_sound_stretch walk (suc (length rounds)) rest (by_number walk.loops (r ∷ rounds))) c.0 in
    let e = and_parts (is_numbered walk rest) (are_walkable walk.params (suc (length rounds)) rest.statements (by_number walk.loops (r ∷ rounds))) d.1 in
    record { number = d.0; numbered = e.0; walkable = e.1; ends = c.1; later = b.1; outer = a.1 }

pub from_inside : (walk : Walk) (r : Round) (rounds : List Round) (l : Level) (levels : List Level) (rest : Stretch) →
    Inside walk r rounds l levels rest → is_sound walk (r ∷ rounds) (l ∷ levels) rest ≡ true
from_inside walk r rounds l levels rest i =
    and_from _ _ (and_from _ _ (and_from _ _ (and_from _ _ i.number (and_from _ _ i.numbered i.walkable)) i.ends) i.later) i.outer

rest_of : (walk : Walk) (rounds : List Round) (levels : List Level) (rest : Stretch) → is_sound walk rounds levels rest ≡ true → Rest walk rounds levels rest
rest_of walk [] levels rest h =
    let parts = and_parts (is_numbered walk rest) (are_walkable walk.params 0 rest.statements (by_number walk.loops [])) h in record {
      numbered = parts.0;
      walkable = parts.1;
      left_is = λ s. sym (append-nil (stretch_visits walk s (by_number walk.loops [])));
      moves_is = λ s. omega arith;
      replace = λ s p w walkable. and_from _ _ (same_numbered walk rest s parts.0 p w) walkable;
    }
rest_of walk (r ∷ rounds) [] rest h = cc
rest_of walk (r ∷ rounds) (l ∷ levels) rest h =
    let i = inside walk r rounds l levels rest h in record {
      numbered = i.numbered;
      walkable = i.walkable;
      left_is = λ s. refl;
      moves_is = λ s. omega arith;
      replace = λ s p w walkable. from_inside walk r rounds l levels s (record {
        number = i.number;
        numbered = same_numbered walk rest s i.numbered p w;
        walkable = walkable;
        ends = same_ends walk rest s l.body i.ends p w;
        later = i.later;
        outer = i.outer;
      });
    }

-- past a statement
pub record Passed (walk : Walk) (rounds : List Round) (levels : List Level) (rest : Stretch) (s : Statement) (after : Stretch) : Type 0 where
  pub sound : is_sound walk rounds levels after ≡ true
  pub place : rest.place + stops_in walk.enters s < 2 ^ 32
  pub work : rest.first + works_in s < 2 ^ 32
  pub left_is : left walk rounds levels rest ≡ visits_of walk.params walk.enters s rest.place rest.first (by_number walk.loops rounds) ++ left walk rounds levels after
  pub moves_are : moves_left walk rounds levels rest ≡ moves_of walk.params walk.enters s (by_number walk.loops rounds) + moves_left walk rounds levels after
  pub walkable : is_walkable walk.params (length rounds) s (by_number walk.loops rounds) ≡ true
  pub placed : (tree : Tree) → AreInText tree walk rounds levels rest → IsInText tree walk.enters (numbers_of rounds) s rest.place rest.first
  pub texts : (tree : Tree) → AreInText tree walk rounds levels rest → AreInText tree walk rounds levels after

pub passed : (walk : Walk) (rounds : List Round) (levels : List Level) (rest : Stretch) (s : Statement) (ss : Statements) → rest.statements ≡ next s ss → is_sound walk rounds levels rest ≡ true →
    Passed walk rounds levels rest s (record { statements = ss; place = rest.place + stops_in walk.enters s; first = rest.first + works_in s })
passed walk rounds levels rest s ss at h =
    let known = rest_of walk rounds levels rest h in
    let loops = by_number walk.loops rounds in
    let after : Stretch = record { statements = ss; place = rest.place + stops_in walk.enters s; first = rest.first + works_in s } in
    let stops = ap (stops_of walk.enters) at in
    let works = ap works_of at in
    let place : last_place walk after ≡ last_place walk rest = omega (arith, stops) in
    let work : last_work after ≡ last_work rest = omega (arith, works) in
    let numbers = and_parts (nat_lt (last_place walk rest) (2 ^ 32)) (nat_lt (last_work rest) (2 ^ 32)) known.numbered in
    let places = ltb-true (last_place walk rest) (2 ^ 32) numbers.0 in
    let counts = ltb-true (last_work rest) (2 ^ 32) numbers.1 in
    let both = and_parts (is_walkable walk.params (length rounds) s loops) (are_walkable walk.params (length rounds) ss loops)
    (ap (λ all. are_walkable walk.params (length rounds) all loops) (sym at) ∙ known.walkable) in
    let stopped : stretch_visits walk rest loops ≡ visits_of walk.params walk.enters s rest.place rest.first loops ++ stretch_visits walk after loops =
    ap (λ all. visits_in walk.params walk.enters all rest.place rest.first loops) at in
    let moved : stretch_moves walk rest loops ≡ moves_of walk.params walk.enters s loops + stretch_moves walk after loops = ap (λ all. moves_in walk.params walk.enters all loops) at in record {
      sound = known.replace after place work both.1;
      place = omega (arith, places, stops);
      work = omega (arith, counts, works);
      left_is = known.left_is rest ∙ ap (λ xs. xs ++ outside walk rounds levels) stopped
          ∙ append_assoc (visits_of walk.params walk.enters s rest.place rest.first loops) (stretch_visits walk after loops) (outside walk rounds levels)
          ∙ ap (λ xs. visits_of walk.params walk.enters s rest.place rest.first loops ++ xs) (sym (known.left_is after));
      moves_are = omega (arith, known.moves_is rest, known.moves_is after, moved);
      walkable = both.0;
      placed = λ tree text. statement_text tree walk (numbers_of rounds) rest s ss at (rest_text tree walk rounds levels rest text);
      texts = λ tree text. replace_text tree walk rounds levels rest after text (after_text tree walk (numbers_of rounds) rest s ss at (rest_text tree walk rounds levels rest text));
    }

-- a move: what is left is the same, with fewer moves, and can be walked
pub record Kept (walk : Walk) (rounds : List Round) (levels : List Level) (rest : Stretch) (rounds' : List Round) (levels' : List Level) (rest' : Stretch) : Type 0 where
  pub sound : is_sound walk rounds' levels' rest' ≡ true
  pub left_is : left walk rounds' levels' rest' ≡ left walk rounds levels rest
  pub moves_are : moves_left walk rounds' levels' rest' < moves_left walk rounds levels rest
  pub texts : (tree : Tree) → AreInText tree walk rounds levels rest → AreInText tree walk rounds' levels' rest'

-- the same at equal loops and statements
pub along : (walk : Walk) (rounds : List Round) (levels : List Level) (rest : Stretch) (rounds' : List Round) (levels' : List Level) (rest' : Stretch)
    (rounds'' : List Round) (levels'' : List Level) (rest'' : Stretch) → rounds'' ≡ rounds' → levels'' ≡ levels' → rest'' ≡ rest' →
    Kept walk rounds levels rest rounds' levels' rest' → Kept walk rounds levels rest rounds'' levels'' rest''
along walk rounds levels rest rounds' levels' rest' rounds'' levels'' rest'' r l s k =
    subst (λ x. Kept walk rounds levels rest x levels'' rest'') (sym r) (subst (λ x. Kept walk rounds levels rest rounds' x rest'') (sym l) (subst (Kept walk rounds levels rest rounds' levels') (sym s) k))

-- what is known of a loop that is come to
pub record LoopAt (walk : Walk) (rounds : List Round) (head : Head) (body : Statements) : Type 0 where
  pub number : is_number_of walk.loops head.number ≡ true
  pub room : length rounds < 6
  pub above : are_above head.number body ≡ true
  pub first : is_small_at walk.params (by_number walk.loops rounds) head.m1 ≡ true
  pub last : is_small_at walk.params (by_number walk.loops rounds) head.m2 ≡ true
  pub moves : nat_lt 0 (unsigned_abs head.step) ≡ true
  pub step : is_small head.step ≡ true
  pub sound : list_all (is_sound_trip walk rounds head.number body) (head_trips walk.params head (by_number walk.loops rounds)) ≡ true
  pub small : list_all is_small (head_trips walk.params head (by_number walk.loops rounds)) ≡ true

pub all_small : (walk : Walk) (rounds : List Round) (n : ℕ) (body : Statements) (vs : List ℤ) → list_all (is_sound_trip walk rounds n body) vs ≡ true → list_all is_small vs ≡ true
all_small walk rounds n body [] h = refl
all_small walk rounds n body (v ∷ vs) h =
    let parts = and_parts (is_sound_trip walk rounds n body v) (list_all (is_sound_trip walk rounds n body) vs) h in
    let small = and_parts (is_small v) (are_walkable walk.params (suc (length rounds)) body (with_loop (by_number walk.loops rounds) n v)) parts.0 in
    and_from _ _ small.0 (all_small walk rounds n body vs parts.1)

pub loop_facts : (walk : Walk) (rounds : List Round) (head : Head) (body : Statements) → is_walkable walk.params (length rounds) (do_loop head body) (by_number walk.loops rounds) ≡ true → LoopAt walk rounds head body
loop_facts walk rounds head body h =
    let loops = by_number walk.loops rounds in
    let test = is_sound_trip walk rounds head.number body in
    let parts = and_parts _ (list_all test (head_trips walk.params head loops)) h in
    let a = and_parts _ (is_small_head walk.params loops head) parts.0 in
    let above = and_parts _ (are_above head.number body) a.0 in
    let b = and_parts (is_number_of (length loops) head.number) (nat_lt (length rounds) 6) above.0 in
    let c = and_parts _ (is_small head.step) a.1 in
    let d = and_parts _ (nat_lt 0 (unsigned_abs head.step)) c.0 in
    let e = and_parts (is_small_at walk.params loops head.m1) (is_small_at walk.params loops head.m2) d.0 in record {
      number = ap (λ n. is_number_of n head.number) (sym (by_number-length walk.loops rounds)) ∙ b.0;
      room = ltb-true (length rounds) 6 b.1;
      above = above.1;
      first = e.0;
      last = e.1;
      moves = d.1;
      step = c.1;
      sound = parts.1;
      small = all_small walk rounds head.number body (head_trips walk.params head loops) parts.1;
    }

-- into a loop, to its first trip
pub entered : (walk : Walk) (rounds : List Round) (levels : List Level) (rest : Stretch) (head : Head) (body ss : Statements) (v : ℤ) (vs : List ℤ) →
    rest.statements ≡ next (do_loop head body) ss → walk.enters head.number ≡ true → head_trips walk.params head (by_number walk.loops rounds) ≡ v ∷ vs → is_sound walk rounds levels rest ≡ true →
    Kept walk rounds levels rest (record { number = head.number; value = v } ∷ rounds)
    (record { body = record { statements = body; place = rest.place; first = rest.first }; later = vs; behind = ss } ∷ levels) (record { statements = body; place = rest.place; first = rest.first })
entered walk rounds levels rest head body ss v vs at enters_it trips h =
    let loops = by_number walk.loops rounds in
    let s = do_loop head body in
    let p = passed walk rounds levels rest s ss at h in
    let r : Round = record { number = head.number; value = v } in
    let inner : Stretch = record { statements = body; place = rest.place; first = rest.first } in
    let l : Level = record { body = inner; later = vs; behind = ss } in
    let stops : stops_in walk.enters s ≡ stops_of walk.enters body = ap (λ b. if b then stops_of walk.enters body else 1) enters_it in
    let after : ℕ → Stretch = λ n. record { statements = ss; place = rest.place + n; first = rest.first + works_of body } in
    let test = is_sound_trip walk rounds head.number body in
    let facts = loop_facts walk rounds head body p.walkable in
    let all = and_parts (test v) (list_all test vs) (ap (list_all test) (sym trips) ∙ facts.sound) in
    let first = and_parts (is_small v) (are_walkable walk.params (suc (length rounds)) body (with_loop loops head.number v)) all.0 in
    let place : last_place walk inner < 2 ^ 32 = omega (arith, p.place, stops) in
    let trip : ℤ → List Visit = λ u. stretch_visits walk inner (with_loop loops head.number u) in
    let steps : ℤ → ℕ = λ u. suc (stretch_moves walk inner (with_loop loops head.number u)) in
    let stop : List Visit = record { place = rest.place; first = rest.first; what = s; loops = loops } ∷ [] in
    let visited : visits_of walk.params walk.enters s rest.place rest.first loops ≡ trip v ++ flat_map trip vs =
    ap (λ b. if b then flat_map trip (head_trips walk.params head loops) else stop) enters_it ∙ ap (flat_map trip) trips in
    let moved : moves_of walk.params walk.enters s loops ≡ 2 + (steps v + sum_by steps vs) =
    ap (λ b. if b then 2 + sum_by steps (head_trips walk.params head loops) else 1) enters_it ∙ ap (λ us. 2 + sum_by steps us) trips ∙ ap (λ n. 2 + n) (sum_by-cons steps v vs) in
    let behind = ap (λ n. left walk rounds levels (after n)) stops in
    let moves_behind = ap (λ n. moves_left walk rounds levels (after n)) stops in record {
      sound = from_inside walk r rounds l levels inner (record {
        number = facts.number;
        numbered = and_from _ _ (lt-ltb (last_place walk inner) (2 ^ 32) place) (lt-ltb (last_work inner) (2 ^ 32) p.work);
        walkable = first.1;
        ends = and_from _ _ (eq-eqb (last_place walk inner) (last_place walk inner) refl) (eq-eqb (last_work inner) (last_work inner) refl);
        later = all.1;
        outer = ap (λ n. is_sound walk rounds levels (after n)) (sym stops) ∙ p.sound;
      });
      left_is = sym (p.left_is ∙ ap (λ xs. xs ++ left walk rounds levels (after (stops_in walk.enters s))) visited
          ∙ append_assoc (trip v) (flat_map trip vs) (left walk rounds levels (after (stops_in walk.enters s))) ∙ ap (λ xs. trip v ++ (flat_map trip vs ++ xs)) behind);
      moves_are = omega (arith, p.moves_are, moved, moves_behind);
      texts = λ tree text.
          let inner_text = body_text tree walk.enters (numbers_of rounds) head body rest.place rest.first enters_it (p.placed tree text) in
          (inner_text, inner_text, subst (λ n. AreInText tree walk rounds levels (after n)) stops (p.texts tree text));
    }

-- the next trip of the innermost loop
pub again : (walk : Walk) (r : Round) (rounds : List Round) (l : Level) (levels : List Level) (rest : Stretch) (v : ℤ) (vs : List ℤ) →
    rest.statements ≡ done → l.later ≡ v ∷ vs → is_sound walk (r ∷ rounds) (l ∷ levels) rest ≡ true →
    Kept walk (r ∷ rounds) (l ∷ levels) rest (record { number = r.number; value = v } ∷ rounds) (record { body = l.body; later = vs; behind = l.behind } ∷ levels) l.body
again walk r rounds l levels rest v vs at values h =
    let i = inside walk r rounds l levels rest h in
    let test = is_sound_trip walk rounds r.number l.body.statements in
    let all = and_parts (test v) (list_all test vs) (ap (list_all test) (sym values) ∙ i.later) in
    let first = and_parts (is_small v) (are_walkable walk.params (suc (length rounds)) l.body.statements (with_loop (by_number walk.loops rounds) r.number v)) all.0 in
    let ends = and_parts (last_place walk rest == last_place walk l.body) (last_work rest == last_work l.body) i.ends in
    let place = eqb-true (last_place walk rest) (last_place walk l.body) ends.0 in
    let work = eqb-true (last_work rest) (last_work l.body) ends.1 in
    let trip : ℤ → List Visit = λ u. stretch_visits walk l.body (with_loop (by_number walk.loops rounds) r.number u) in
    let steps : ℤ → ℕ = λ u. suc (stretch_moves walk l.body (with_loop (by_number walk.loops rounds) r.number u)) in
    let outer = left walk rounds levels (stretch_behind walk l) in
    let loops = by_number walk.loops (r ∷ rounds) in
    let moved = ap (λ all. moves_in walk.params walk.enters all loops) at in
    let summed = ap (sum_by steps) values ∙ sum_by-cons steps v vs in record {
      sound = from_inside walk (record { number = r.number; value = v }) rounds (record { body = l.body; later = vs; behind = l.behind }) levels l.body (record {
        number = i.number;
        numbered = same_numbered walk rest l.body i.numbered (sym place) (sym work);
        walkable = first.1;
        ends = and_from _ _ (eq-eqb (last_place walk l.body) (last_place walk l.body) refl) (eq-eqb (last_work l.body) (last_work l.body) refl);
        later = all.1;
        outer = i.outer;
      });
      left_is = sym (ap (λ all. visits_in walk.params walk.enters all rest.place rest.first loops ++ (flat_map trip l.later ++ outer)) at
          ∙ ap (λ us. flat_map trip us ++ outer) values ∙ append_assoc (trip v) (flat_map trip vs) outer);
      moves_are = omega (arith, moved, summed);
      texts = λ tree text. (text.1, text.1, text.2);
    }

-- out of the innermost loop
pub leaves : (walk : Walk) (r : Round) (rounds : List Round) (l : Level) (levels : List Level) (rest : Stretch) →
    rest.statements ≡ done → l.later ≡ [] → is_sound walk (r ∷ rounds) (l ∷ levels) rest ≡ true →
    Kept walk (r ∷ rounds) (l ∷ levels) rest rounds levels (record { statements = l.behind; place = rest.place; first = rest.first })
leaves walk r rounds l levels rest at values h =
    let i = inside walk r rounds l levels rest h in
    let ends = and_parts (last_place walk rest == last_place walk l.body) (last_work rest == last_work l.body) i.ends in
    let place : rest.place ≡ last_place walk l.body = omega (arith, eqb-true (last_place walk rest) (last_place walk l.body) ends.0, ap (stops_of walk.enters) at) in
    let work : rest.first ≡ last_work l.body = omega (arith, eqb-true (last_work rest) (last_work l.body) ends.1, ap works_of at) in
    let trip : ℤ → List Visit = λ u. stretch_visits walk l.body (with_loop (by_number walk.loops rounds) r.number u) in
    let steps : ℤ → ℕ = λ u. suc (stretch_moves walk l.body (with_loop (by_number walk.loops rounds) r.number u)) in
    let outer = left walk rounds levels (stretch_behind walk l) in
    let loops = by_number walk.loops (r ∷ rounds) in
    let moved = ap (λ all. moves_in walk.params walk.enters all loops) at in
    let summed = ap (sum_by steps) values in
    let behind : record { statements = l.behind; place = rest.place; first = rest.first } ≡ stretch_behind walk l =
    ap (λ n. record { statements = l.behind; place = n; first = rest.first }) place ∙ ap (λ n. record { statements = l.behind; place = last_place walk l.body; first = n }) work in
    along walk (r ∷ rounds) (l ∷ levels) rest rounds levels (stretch_behind walk l) rounds levels (record { statements = l.behind; place = rest.place; first = rest.first }) refl refl behind (record {
      sound = i.outer;
      left_is = sym (ap (λ all. visits_in walk.params walk.enters all rest.place rest.first loops ++ (flat_map trip l.later ++ outer)) at ∙ ap (λ us. flat_map trip us ++ outer) values);
      moves_are = omega (arith, moved, summed);
      texts = λ tree text. text.2;
    })

-- the innermost loop without its later trips
pub record Shortened (walk : Walk) (rounds : List Round) (levels : List Level) (rest : Stretch) (trips : List Visit) (levels' : List Level) : Type 0 where
  pub sound : is_sound walk rounds levels' rest ≡ true
  pub left_is : left walk rounds levels rest ≡ trips ++ left walk rounds levels' rest
  pub texts : (tree : Tree) → AreInText tree walk rounds levels rest → AreInText tree walk rounds levels' rest

abbrev pub later_visits : Walk → Round → List Round → Level → List Visit
later_visits walk r rounds l = flat_map (λ v. stretch_visits walk l.body (with_loop (by_number walk.loops rounds) r.number v)) l.later

pub shortened : (walk : Walk) (r : Round) (rounds : List Round) (l : Level) (levels : List Level) (rest : Stretch) → rest.statements ≡ done → is_sound walk (r ∷ rounds) (l ∷ levels) rest ≡ true →
    Shortened walk (r ∷ rounds) (l ∷ levels) rest (later_visits walk r rounds l) (record { body = l.body; later = []; behind = l.behind } ∷ levels)
shortened walk r rounds l levels rest at h =
    let i = inside walk r rounds l levels rest h in
    let trips = later_visits walk r rounds l in
    let outer = left walk rounds levels (stretch_behind walk l) in
    let loops = by_number walk.loops (r ∷ rounds) in record {
      sound = from_inside walk r rounds (record { body = l.body; later = []; behind = l.behind }) levels rest (record { number = i.number; numbered = i.numbered; walkable = i.walkable; ends = i.ends; later = refl; outer = i.outer });
      left_is = ap (λ all. visits_in walk.params walk.enters all rest.place rest.first loops ++ (trips ++ outer)) at
          ∙ sym (ap (λ all. trips ++ (visits_in walk.params walk.enters all rest.place rest.first loops ++ outer)) at);
      texts = λ tree text. text;
    }

-- the body of the innermost loop
pub record BodyAt (tree : Tree) (walk : Walk) (r : Round) (rounds : List Round) (body : Stretch) (later : List ℤ) : Type 0 where
  pub number : is_number_of walk.loops r.number ≡ true
  pub numbers : list_all (λ (r : Round). is_number_of walk.loops r.number) rounds ≡ true
  pub few : body.first + works_of body.statements < 2 ^ 32
  pub small : list_all is_small later ≡ true
  pub text : StandFrom (works tree) body.first (placed_of every (r.number ∷ numbers_of rounds) body.statements)

pub are_numbered : (walk : Walk) (rounds : List Round) (levels : List Level) (rest : Stretch) → is_sound walk rounds levels rest ≡ true →
    list_all (λ (r : Round). is_number_of walk.loops r.number) rounds ≡ true
are_numbered walk [] levels rest h = refl
are_numbered walk (r ∷ rounds) [] rest h = cc
are_numbered walk (r ∷ rounds) (l ∷ levels) rest h =
    let i = inside walk r rounds l levels rest h in and_from _ _ i.number (are_numbered walk rounds levels (stretch_behind walk l) i.outer)

pub body_at : (tree : Tree) (walk : Walk) (r : Round) (rounds : List Round) (l : Level) (levels : List Level) (rest : Stretch) → is_sound walk (r ∷ rounds) (l ∷ levels) rest ≡ true →
    AreInText tree walk (r ∷ rounds) (l ∷ levels) rest → BodyAt tree walk r rounds l.body l.later
body_at tree walk r rounds l levels rest h text =
    let i = inside walk r rounds l levels rest h in
    let ends = and_parts (last_place walk rest == last_place walk l.body) (last_work rest == last_work l.body) i.ends in
    let numbers = and_parts (nat_lt (last_place walk rest) (2 ^ 32)) (nat_lt (last_work rest) (2 ^ 32)) i.numbered in record {
      number = i.number;
      numbers = are_numbered walk rounds levels (stretch_behind walk l) i.outer;
      few = omega (arith, eqb-true (last_work rest) (last_work l.body) ends.1, ltb-true (last_work rest) (2 ^ 32) numbers.1);
      small = all_small walk rounds r.number l.body.statements l.later i.later;
      text = text.1.works;
    }

-- each statement is a move at least
pub moves_some : (params : List ℤ) (enters : ℕ → Bool) (s : Statement) (loops : List ℤ) → 0 < moves_of params enters s loops
moves_some params enters (do_loop head body) loops =
    elim (enters head.number) as (λ b. 0 < (if b then 2 + sum_by (λ v. suc (moves_in params enters body (with_loop loops head.number v))) (head_trips params head loops) else 1)) [
      | true ↦ omega arith
      | false ↦ omega arith
    ]
moves_some params enters (work w) loops = omega arith
moves_some params enters (continue line) loops = omega arith
