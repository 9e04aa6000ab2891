-- What a processor keeps behind a turn.
use Rattle.std.proofs.Common.{◌≡◌, ℕ, zero, suc, ◌+◌, ◌-◌, ◌<◌, List, [], ◌∷◌, ◌++◌, length, drop, take, get_or, set, Option, Some, None, refl, sym, ◌∙◌, ap, subst, inl, inr, arith, sum_by, vec_capacity}
use Rattle.std.specs.Prelude.{slice_get}
use Rattle.std.specs.List.{flat_map, list_all}
use Rattle.std.proofs.lemmas.Bool.{and_parts, cases_eq}
use Rattle.std.proofs.lemmas.List.{get_or-set_other, get_or-set_same, length-set}
use Rattle.std.proofs.lemmas.List.Sums.{sum_by-cons}
use Rattle.nest_tree.specs.Tree.{Tree}
use Rattle.nest_walk.specs.declared.cursor.Stop.{Stop}
use Rattle.nest_walk.specs.declared.table.LoadCells.{LoadCells}
use Rattle.nest_walk.specs.declared.table.WorkCells.{WorkCells}
use Rattle.sync_plan.specs.declared.plan.Plan.{Plan}
use Rattle.spmd_model.specs.Deeds.{Deed}
use Rattle.spmd_model.specs.Timelines.{Word}
use Rattle.spmd_model.specs.declared.style.Style.{Style}
use Rattle.instance_runs.specs.Loads.{AreWide, widths}
use Rattle.turns.specs.Turns.{Turn, sets, waits, runs, closes, turn_deeds, turn_room}
use Rattle.turns.specs.TurnsLeft.{AreSound, IsSameRun, turns_left, turns_plan, turns_processor, turns_style, turns_tree}
use Rattle.turns.specs.declared.turns.Turns.{Turns}
use Rattle.spmd_machine.specs.Processors.{IsFoundNext, IsBegun, IsIdle, IsKept, LooksFrom, PassesTurn, all_of, deeds_left, is_turn_inside, left_of, room_of}
use Rattle.spmd_machine.specs.declared.processor.Processor.{Processor}
use Rattle.spmd_machine.proofs.Suffixes.{suffix_at, suffix_rest}

no_loads : (loads : List LoadCells) → slice_get loads 0 ≡ None → widths loads ≡ 0
no_loads [] h = refl
no_loads (l ∷ loads) h = absurd (let clash : Some l ≡ None = h in cc)

-- where nothing is done, whatever comes next
pub idle_begun : (entries : List WorkCells) → AreWide entries → (turns : List Turn) (x : Processor) → IsIdle x → IsBegun entries turns x
idle_begun entries wide [] x idle = idle
idle_begun entries wide (sets word n ∷ rest) x idle = idle
idle_begun entries wide (waits word on n ∷ rest) x idle = idle
idle_begun entries wide (runs place i ∷ rest) x idle = λ cells at. record {
  loading = record {
    counted = let none : widths (take x.place.load cells.loads.items) ≡ 0 = ap (λ k. widths (take k cells.loads.items)) idle.first_load in omega (arith, none, idle.first_element, idle.none_done);
    within = λ l there.
        let first : slice_get cells.loads.items 0 ≡ Some l = ap (slice_get cells.loads.items) (sym idle.first_load) ∙ there in
        omega (arith, wide (i.statement - 1) 0 cells l at first, idle.first_element);
    over = λ none. no_loads cells.loads.items (ap (slice_get cells.loads.items) (sym idle.first_load) ∙ none) ∙ sym idle.none_done;
  };
  count = ap length idle.empty ∙ sym idle.none_done;
}
idle_begun entries wide (closes place k ∷ rest) x idle = record { first_load = idle.first_load; first_element = idle.first_element; stage = inl (idle.none_done, idle.empty) }

-- the deeds that are left where nothing is done of the first turn
pub left_idle : (x : Processor) → x.done ≡ 0 → left_of x ≡ deeds_left x.turns
unfolding left_of
left_idle x none = ap (λ n. drop n (deeds_left x.turns)) none

-- cursors of one run do the same in a turn
pub same_deeds : (c t : Turns) (ts : List Turn) → turns_tree t ≡ turns_tree c → turns_plan t ≡ turns_plan c → turns_processor t ≡ turns_processor c →
    flat_map (turn_deeds (turns_tree t) (turns_plan t) (turns_processor t)) ts ≡ flat_map (turn_deeds (turns_tree c) (turns_plan c) (turns_processor c)) ts
same_deeds c t ts program plan_is processor =
    ap (λ (w : Tree). flat_map (turn_deeds w (turns_plan t) (turns_processor t)) ts) program ∙ ap (λ (q : Plan). flat_map (turn_deeds (turns_tree c) q (turns_processor t)) ts) plan_is
    ∙ ap (λ n. flat_map (turn_deeds (turns_tree c) (turns_plan c) n) ts) processor

-- the room of turns that stay
pub same_room : (tree : Tree) (x y : Processor) → turns_left y.turns ≡ turns_left x.turns → room_of tree y ≡ room_of tree x
unfolding room_of
same_room tree x y turns = ap (sum_by (turn_room tree)) turns

module _ (style : Style) (tree : Tree) (plan : Plan) (entries : List WorkCells) (p : ℕ) (x : Processor) (kept : IsKept style tree plan entries p x) where
  pub passed_kept : AreWide entries → (y : Processor) (t : Turn) (d : Deed) → PassesTurn x y t → length y.own ≡ 32 → left_of x ≡ d ∷ left_of y → IsKept style tree plan entries p y
  passed_kept wide y t d passes own left = record {
    sound = passes.sound;
    program = passes.program ∙ kept.program;
    plan_is = passes.plan_is ∙ kept.plan_is;
    processor = passes.processor ∙ kept.processor;
    style_is = passes.style_is ∙ kept.style_is;
    behind = suffix_rest (all_of style tree plan p) (left_of x) (left_of y) d kept.behind left;
    instance = subst (IsFoundNext y.turns) (sym passes.none_found) tt;
    begun = idle_begun entries wide (turns_left y.turns) y passes.idle;
    inside = (and_parts (is_turn_inside tree t) (list_all (is_turn_inside tree) (turns_left y.turns)) (sym (ap (list_all (is_turn_inside tree)) passes.turns) ∙ kept.inside)).1;
    own_cells = own;
    room = λ n cells at. omega (arith, kept.room n cells at, passes.room);
    room_to_close = omega (arith, kept.room_to_close, passes.room);
  }

  -- the cursor has looked for what comes next
  looked_left : (t : Turns) (found : Option Stop) → IsSameRun x.turns t → turns_left t ≡ turns_left x.turns → left_of (record x { turns = t; found = found }) ≡ left_of x
  unfolding left_of
  looked_left t found same turns =
      ap (λ ts. drop x.done (flat_map (turn_deeds (turns_tree t) (turns_plan t) (turns_processor t)) ts)) turns ∙ ap (drop x.done) (same_deeds x.turns t (turns_left x.turns) same.program same.plan same.processor)

  looked_kept : (t : Turns) (found : Option Stop) → AreSound t → IsFoundNext t found → IsSameRun x.turns t → turns_left t ≡ turns_left x.turns → IsKept style tree plan entries p (record x { turns = t; found = found })
  looked_kept t found sound instance same turns = record {
    sound = sound;
    program = same.program ∙ kept.program;
    plan_is = same.plan ∙ kept.plan_is;
    processor = same.processor ∙ kept.processor;
    style_is = same.style ∙ kept.style_is;
    behind = suffix_at (all_of style tree plan p) (left_of x) (left_of (record x { turns = t; found = found })) (looked_left t found same turns) kept.behind;
    instance = instance;
    begun = begun_on (turns_left x.turns) (turns_left t) turns kept.begun;
    inside = ap (list_all (is_turn_inside tree)) turns ∙ kept.inside;
    own_cells = kept.own_cells;
    room = kept.room;
    room_to_close = kept.room_to_close;
  }
    where
      begun_on : (old new : List Turn) → new ≡ old → IsBegun entries old x → IsBegun entries new (record x { turns = t; found = found })
      begun_on [] new is h = subst (λ ts. IsBegun entries ts (record x { turns = t; found = found })) (sym is) (record { none_done = h.none_done; empty = h.empty; first_load = h.first_load; first_element = h.first_element })
      begun_on (sets word n ∷ rest) new is h = subst (λ ts. IsBegun entries ts (record x { turns = t; found = found })) (sym is) (record { none_done = h.none_done; empty = h.empty; first_load = h.first_load; first_element = h.first_element })
      begun_on (waits word on n ∷ rest) new is h = subst (λ ts. IsBegun entries ts (record x { turns = t; found = found })) (sym is) (record { none_done = h.none_done; empty = h.empty; first_load = h.first_load; first_element = h.first_element })
      begun_on (runs place i ∷ rest) new is h = subst (λ ts. IsBegun entries ts (record x { turns = t; found = found })) (sym is) (λ cells at. record { loading = (h cells at).loading; count = (h cells at).count })
      begun_on (closes place k ∷ rest) new is h = subst (λ ts. IsBegun entries ts (record x { turns = t; found = found })) (sym is) (record { first_load = h.first_load; first_element = h.first_element; stage = h.stage })

  pub look_left : (y : Processor) → LooksFrom x y → left_of y ≡ left_of x
  look_left y l = ap left_of l.others ∙ looked_left y.turns y.found l.same l.left

  pub look_kept : (y : Processor) → LooksFrom x y → IsKept style tree plan entries p y
  look_kept y l = subst (IsKept style tree plan entries p) (sym l.others) (looked_kept y.turns y.found l.sound l.instance l.same l.left)

  -- a turn of one deed, of which nothing was done
  pub left_turn : (y : Processor) (t : Turn) (d : Deed) → PassesTurn x y t → turn_deeds (turns_tree x.turns) (turns_plan x.turns) (turns_processor x.turns) t ≡ d ∷ [] → x.done ≡ 0 → left_of x ≡ d ∷ left_of y
  left_turn y t d passes is none =
      let f = turn_deeds (turns_tree x.turns) (turns_plan x.turns) (turns_processor x.turns) in
      left_idle x none ∙ ap (flat_map f) passes.turns ∙ ap (λ l. l ++ flat_map f (turns_left y.turns)) is
      ∙ ap (λ l. d ∷ l) (sym (left_idle y passes.idle.none_done ∙ same_deeds x.turns y.turns (turns_left y.turns) passes.program passes.plan_is passes.processor))

  pub room_passed : (y : Processor) (t : Turn) → turns_left x.turns ≡ t ∷ turns_left y.turns → room_of tree x ≡ turn_room tree t + room_of tree y
  unfolding room_of
  room_passed y t turns = ap (sum_by (turn_room tree)) turns ∙ sum_by-cons (turn_room tree) t (turns_left y.turns)

  -- in front of a word that is set or awaited nothing is done
  pub set_idle : (word : Word) (number : ℕ) (rest : List Turn) → turns_left x.turns ≡ sets word number ∷ rest → IsIdle x
  set_idle word number rest is = subst (λ ts. IsBegun entries ts x) is kept.begun

  pub wait_idle : (word : Word) (on wanted : ℕ) (rest : List Turn) → turns_left x.turns ≡ waits word on wanted ∷ rest → IsIdle x
  wait_idle word on wanted rest is = subst (λ ts. IsBegun entries ts x) is kept.begun

  pub end_left : turns_left x.turns ≡ [] → left_of x ≡ []
  end_left is =
      let idle : IsIdle x = subst (λ ts. IsBegun entries ts x) is kept.begun in
      left_idle x idle.none_done ∙ ap (flat_map (turn_deeds (turns_tree x.turns) (turns_plan x.turns) (turns_processor x.turns))) is

-- past a turn from a processor that stood there too
pub passed_from : (x z y : Processor) (t : Turn) → z.turns ≡ x.turns → vec_capacity z.registers ≡ vec_capacity x.registers → PassesTurn z y t → PassesTurn x y t
passed_from x z y t turns capacity q = record {
  sound = q.sound;
  program = q.program ∙ ap turns_tree turns;
  plan_is = q.plan_is ∙ ap turns_plan turns;
  processor = q.processor ∙ ap turns_processor turns;
  style_is = q.style_is ∙ ap turns_style turns;
  turns = sym (ap turns_left turns) ∙ q.turns;
  none_found = q.none_found;
  idle = q.idle;
  room = omega (arith, q.room, capacity);
}

-- the first of a list is one element
pub first_is : {X : Type 0} (xs : List X) (x y : X) (rest rest' : List X) → xs ≡ x ∷ rest → xs ≡ y ∷ rest' → (x ≡ y) × (rest ≡ rest')
first_is xs x y rest rest' e f = let same : x ∷ rest ≡ y ∷ rest' = sym e ∙ f in (cc, cc)

-- facts of each place of a list, behind a write
pub written_all : {X : Type 0} (P : ℕ → X → Type 0) (xs : List X) (i : ℕ) (y : X) → ((p : ℕ) (d : X) → p < length xs → P p (get_or xs p d)) → P i y →
    (p : ℕ) (d : X) → p < length (set xs i y) → P p (get_or (set xs i y) p d)
written_all P xs i y all mine p d lt =
    let inside : p < length xs = omega (arith, length-set xs i y) in
    elim (cases_eq p i) [
      | inl e ↦ let at : i < length xs = omega arith in
          subst (λ (k : ℕ). P k (get_or (set xs i y) k d)) (sym e) (subst (P i) (sym (get_or-set_same xs i y d at)) mine)
      | inr ne ↦ subst (P p) (sym (get_or-set_other xs i p y d ne)) (all p d inside)
    ]

-- an element that is there
pub picked : {X : Type 0} (xs : List X) (p : ℕ) → p < length xs → (x : X) × (x ≡ get_or xs p x)
picked [] p lt = absurd (omega arith)
picked (x ∷ xs) zero lt = (x, refl)
picked (x ∷ xs) (suc p) lt = picked xs p (omega arith)
