-- What the turns in front of a phase's instances do, and those of the instances.
use Rattle.std.proofs.Common.{◌≡◌, ◌==◌, ◌&&◌, ℕ, zero, suc, ◌+◌, ◌-◌, ◌*◌, ◌/◌, ◌%◌, ◌<◌, ◌≤◌, nat_lt, ℤ, Bool, true, false, List, [], ◌∷◌, ◌++◌, map, Option, Some, None, if◌then◌else◌, refl, ap, sym, ◌∙◌, arith, append_assoc}
use Rattle.std.specs.Prelude.{slice_get}
use Rattle.std.specs.List.{flat_map, range_with_len}
use Rattle.std.proofs.lemmas.Bool.{ltb-false}
use Rattle.std.proofs.lemmas.Grind.{flat_map-append}
use Rattle.std.proofs.lemmas.List.{append-nil}
use Rattle.nest_tree.specs.Tree.{Tree, param_values}
use Rattle.nest_model.specs.Instances.{Instance}
use Rattle.nest_model.specs.Visits.{Visit}
use Rattle.owner_partition.specs.Phases.{phases}
use Rattle.sync_plan.specs.Boundaries.{is_barrier, kind_before}
use Rattle.sync_plan.specs.Own.{own_of}
use Rattle.sync_plan.specs.Waits.{awaited_behind, is_awaited_behind, posts_at, waits_for}
use Rattle.sync_plan.specs.declared.plan.Kind.{Kind}
use Rattle.sync_plan.specs.declared.plan.Plan.{Plan}
use Rattle.spmd_model.specs.Deeds.{Deed, posting, awaiting, boundary_deeds}
use Rattle.spmd_model.specs.Rounds.{awaited_in_round, rounds_of}
use Rattle.spmd_model.specs.MachineDeeds.{front_deeds, own_deeds, round_deeds}
use Rattle.spmd_model.specs.Timelines.{counter, signal}
use Rattle.spmd_model.specs.declared.style.Style.{Style}
use Rattle.spmd_model.specs.declared.style.Style.TheVariants.{Arrive, Dissemination}
use Rattle.turns.specs.CounterTurns.{CounterTurn, awaits, begins, works, boundary_turns}
use Rattle.turns.specs.Turns.{Turn, sets, waits, closes, Standing, all_rounds, begun, behind, first_round, has_signals, is_signalled, none_pending, places_pending, round_turn, rounds_before, turns_by, turn_deeds}
use Rattle.turns.proofs.TurnLists.{no_signals}

-- ---- a boundary of one processor alone

alone_posts : (o : Option Kind) (loops params : List ℤ) → is_awaited_behind o 1 loops params 0 ≡ false
alone_posts None loops params = refl
alone_posts (Some kind) loops params = refl

alone_awaits : (o : Option Kind) (loops params : List ℤ) → awaited_behind o 1 loops params 0 ≡ []
alone_awaits None loops params = refl
alone_awaits (Some kind) loops params = refl

alone : (tree : Tree) (plan : Plan) (p number : ℕ) (v : Visit) → p < plan.workers → nat_lt 1 plan.workers ≡ false → boundary_deeds counter number (posts_at tree plan p v.place v.loops) (waits_for tree plan p v.place v.loops) ≡ []
alone tree plan p number v worker few =
    let kind = slice_get plan.kinds (v.place - 1) in
    let params = param_values tree in
    let le : plan.workers ≤ 1 = ltb-false 1 plan.workers few in
    let one : plan.workers ≡ 1 = omega (arith, worker, le) in
    let first : p ≡ 0 = omega (arith, worker, le) in
    let posts_none : posts_at tree plan p v.place v.loops ≡ false = ap (λ w. is_awaited_behind kind w v.loops params p) one ∙ ap (is_awaited_behind kind 1 v.loops params) first ∙ alone_posts kind v.loops params in
    let awaits_none : waits_for tree plan p v.place v.loops ≡ [] = ap (λ w. awaited_behind kind w v.loops params p) one ∙ ap (awaited_behind kind 1 v.loops params) first ∙ alone_awaits kind v.loops params in
    ap (λ b. boundary_deeds counter number b (waits_for tree plan p v.place v.loops)) posts_none ∙ ap (boundary_deeds counter number false) awaits_none

module _ (tree : Tree) (plan : Plan) (p : ℕ) where
  abbrev pub doing : List Turn → List Deed
  doing ts = flat_map (turn_deeds tree plan p) ts

  pub doing-append : (xs ys : List Turn) → doing (xs ++ ys) ≡ doing xs ++ doing ys
  doing-append xs ys = flat_map-append (turn_deeds tree plan p) xs ys

  -- ---- counters

  glue : (b : Bool) (w : Turn) (d : Deed) (ds : List Deed) (ys : List Turn) (z : List Deed) → turn_deeds tree plan p w ≡ d ∷ [] → doing ys ≡ (if b then [] else ds) ++ z →
      doing ((if b then [] else w ∷ []) ++ ys) ≡ (if b then [] else d ∷ ds) ++ z
  glue true w d ds ys z one h = h
  glue false w d ds ys z one h = ap (λ l. l ++ doing ys) one ∙ ap (λ l. d ∷ l) h

  nothing : (b : Bool) (z : List Deed) → z ≡ (if b then [] else []) ++ z
  nothing true z = refl
  nothing false z = refl

  abbrev at_none : ℕ → ℕ → Standing
  at_none place barriers = record { place = place; pending = none_pending; barriers = barriers }

  -- what stands behind a boundary
  abbrev pub beginning : Style → ℕ → ℕ → ℕ → List CounterTurn → List Deed
  beginning style place barriers e later = doing (rounds_before style tree plan p (at_none place barriers) e) ++ doing (turns_by style tree plan p (begun style tree plan (at_none place barriers) e) later)

  awaits_do : (style : Style) (place barriers e number : ℕ) (later : List CounterTurn) (qs : List ℕ) (pending : List Bool) →
      doing (turns_by style tree plan p (record { place = place; pending = pending; barriers = barriers }) (map (λ q. awaits q number) qs ++ begins e ∷ later))
      ≡ doing (map (closes place) (places_pending pending)) ++ ((if is_signalled style tree plan number then [] else map (λ q. awaiting counter q number) qs) ++ beginning style place barriers e later)
  awaits_do style place barriers e number later [] pending =
      let rounds = rounds_before style tree plan p (at_none place barriers) e in
      let rest = turns_by style tree plan p (begun style tree plan (at_none place barriers) e) later in
      doing-append (map (closes place) (places_pending pending)) (rounds ++ rest)
      ∙ ap (λ l. doing (map (closes place) (places_pending pending)) ++ l) (doing-append rounds rest ∙ nothing (is_signalled style tree plan number) (beginning style place barriers e later))
  awaits_do style place barriers e number later (q ∷ qs) pending =
      let rest = turns_by style tree plan p (at_none place barriers) (map (λ r. awaits r number) qs ++ begins e ∷ later) in
      doing-append (map (closes place) (places_pending pending)) ((if is_signalled style tree plan number then [] else waits counter q number ∷ []) ++ rest)
      ∙ ap (λ l. doing (map (closes place) (places_pending pending)) ++ l)
      (glue (is_signalled style tree plan number) (waits counter q number) (awaiting counter q number) (map (λ r. awaiting counter r number) qs) rest (beginning style place barriers e later) refl (awaits_do style place barriers e number later qs none_pending))

  pub boundary_do : (style : Style) (place barriers e number : ℕ) (later : List CounterTurn) (does : Bool) (qs : List ℕ) (pending : List Bool) →
      doing (turns_by style tree plan p (record { place = place; pending = pending; barriers = barriers }) (boundary_turns number does qs ++ begins e ∷ later))
      ≡ doing (map (closes place) (places_pending pending)) ++ ((if is_signalled style tree plan number then [] else boundary_deeds counter number does qs) ++ beginning style place barriers e later)
  boundary_do style place barriers e number later true qs pending =
      let rest = turns_by style tree plan p (at_none place barriers) (map (λ r. awaits r number) qs ++ begins e ∷ later) in
      doing-append (map (closes place) (places_pending pending)) ((if is_signalled style tree plan number then [] else sets counter number ∷ []) ++ rest)
      ∙ ap (λ l. doing (map (closes place) (places_pending pending)) ++ l)
      (glue (is_signalled style tree plan number) (sets counter number) (posting counter number) (map (λ r. awaiting counter r number) qs) rest (beginning style place barriers e later) refl (awaits_do style place barriers e number later qs none_pending))
  boundary_do style place barriers e number later false qs pending = awaits_do style place barriers e number later qs pending

  -- ---- rounds

  even_turn : (workers first r : ℕ) → round_turn workers p first (r * 2) ≡ sets signal (first + r)
  even_turn workers first r =
      let half : r * 2 / 2 ≡ r = omega arith in
      let none : r * 2 % 2 ≡ 0 = omega arith in
      ap (λ k. if k == 0 then sets signal (first + r * 2 / 2) else waits signal (awaited_in_round workers (r * 2 / 2) p) (first + r * 2 / 2)) none ∙ ap (λ k. sets signal (first + k)) half

  odd_turn : (workers first r : ℕ) → round_turn workers p first (r * 2 + 1) ≡ waits signal (awaited_in_round workers r p) (first + r)
  odd_turn workers first r =
      let half : (r * 2 + 1) / 2 ≡ r = omega arith in
      let one : (r * 2 + 1) % 2 ≡ 1 = omega arith in
      ap (λ k. if k == 0 then sets signal (first + (r * 2 + 1) / 2) else waits signal (awaited_in_round workers ((r * 2 + 1) / 2) p) (first + (r * 2 + 1) / 2)) one
      ∙ ap (λ k. waits signal (awaited_in_round workers k p) (first + k)) half

  rounds_do : (workers first r n : ℕ) → doing (map (round_turn workers p first) (range_with_len (r * 2) (n * 2))) ≡ flat_map (round_deeds workers p first) (range_with_len r n)
  rounds_do workers first r zero = refl
  rounds_do workers first r (suc n) =
      let two : suc n * 2 ≡ suc (suc (n * 2)) = omega arith in
      let turn = round_turn workers p first in
      let later = doing (map turn (range_with_len (r * 2 + 1 + 1) (n * 2))) in
      let next : r * 2 + 1 + 1 ≡ (r + 1) * 2 = omega arith in
      ap (λ k. doing (map turn (range_with_len (r * 2) k))) two
      ∙ ap (λ t. turn_deeds tree plan p t ++ (turn_deeds tree plan p (turn (r * 2 + 1)) ++ later)) (even_turn workers first r)
      ∙ ap (λ t. posting signal (first + r) ∷ (turn_deeds tree plan p t ++ later)) (odd_turn workers first r)
      ∙ ap (λ a. posting signal (first + r) ∷ awaiting signal (awaited_in_round workers r p) (first + r) ∷ doing (map turn (range_with_len a (n * 2)))) next
      ∙ ap (λ l. posting signal (first + r) ∷ awaiting signal (awaited_in_round workers r p) (first + r) ∷ l) (rounds_do workers first (r + 1) n)

  -- ---- the front

  choose : (k l : Bool) (bs rs : List Deed) → (k ≡ true → l ≡ false → bs ≡ []) → (if k && l then [] else bs) ++ (if k then rs else []) ≡ (if k then rs else bs)
  choose false l bs rs h = append-nil bs
  choose true true bs rs h = refl
  choose true false bs rs h = ap (λ b. b ++ rs) (h refl refl)

  inside : (b : Bool) (ts : List Turn) (ds : List Deed) → doing ts ≡ ds → doing (if b then ts else []) ≡ (if b then ds else [])
  inside true ts ds h = h
  inside false ts ds h = refl

  pub front_is : (style : Style) (place barriers e : ℕ) (v : Visit) → p < plan.workers → slice_get (phases tree plan.cut.marks) (e - 1) ≡ Some v →
      (if is_signalled style tree plan (e - 1) then [] else boundary_deeds counter (e - 1) (posts_at tree plan p v.place v.loops) (waits_for tree plan p v.place v.loops)) ++ doing (rounds_before style tree plan p (at_none place barriers) e)
      ≡ front_deeds style tree plan p e barriers v
  front_is Arrive place barriers e v worker at =
      let bs = boundary_deeds counter (e - 1) (posts_at tree plan p v.place v.loops) (waits_for tree plan p v.place v.loops) in
      ap (λ b. bs ++ doing (if b then all_rounds plan.workers p barriers else [])) (no_signals plan (slice_get (phases tree plan.cut.marks) (e - 1))) ∙ append-nil bs
  front_is Dissemination place barriers e v worker at =
      let bs = boundary_deeds counter (e - 1) (posts_at tree plan p v.place v.loops) (waits_for tree plan p v.place v.loops) in
      let first = first_round plan.workers barriers in
      let rs = flat_map (round_deeds plan.workers p first) (range_with_len 0 (rounds_of plan.workers)) in
      let kind = is_barrier (kind_before plan (Some v)) in
      let rounds = rounds_do plan.workers first 0 (rounds_of plan.workers) in
      ap (λ o. (if is_barrier (kind_before plan o) && nat_lt 1 plan.workers then [] else bs) ++ doing (if has_signals Dissemination plan o then all_rounds plan.workers p barriers else [])) at
      ∙ ap (λ l. (if kind && nat_lt 1 plan.workers then [] else bs) ++ l) (inside kind (all_rounds plan.workers p barriers) rs rounds)
      ∙ choose kind (nat_lt 1 plan.workers) bs rs (λ is few. alone tree plan p (e - 1) v worker few)

  -- ---- instances

  -- where a processor has come to behind these
  abbrev pub behind_all : Standing → List Instance → Standing
  behind_all s [] = s
  behind_all s (i ∷ is) = behind_all (behind tree plan s i) is

  pub works_do : (style : Style) (later : List CounterTurn) (is : List Instance) (s : Standing) →
      doing (turns_by style tree plan p s (map works is ++ later)) ≡ flat_map (own_deeds tree (own_of tree plan s.place) p) is ++ doing (turns_by style tree plan p (behind_all s is) later)
  works_do style later [] s = refl
  works_do style later (i ∷ is) s =
      ap (λ l. own_deeds tree (own_of tree plan s.place) p i ++ l) (works_do style later is (behind tree plan s i))
      ∙ sym (append_assoc (own_deeds tree (own_of tree plan s.place) p i) (flat_map (own_deeds tree (own_of tree plan s.place) p) is) (doing (turns_by style tree plan p (behind_all (behind tree plan s i) is) later)))
