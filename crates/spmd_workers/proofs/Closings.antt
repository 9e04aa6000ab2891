-- A closing that comes next of a walk.
use Rattle.std.proofs.Common.{◌≡◌, ℕ, ◌+◌, ◌<◌, nat_le, nat_lt, ℤ, pos, Bool, true, false, true≢false, List, [], ◌∷◌, ◌++◌, get_or, length, set, Some, if◌then◌else◌, refl, sym, ◌∙◌, ap, subst, inl, inr, arith}
use Rattle.std.proofs.lemmas.Bool.{cases_Bool, le-leb, leb-true, ltb-false}
use Rattle.nest_tree.specs.Layout.{cell_count, first_cell}
use Rattle.nest_tree.specs.Tree.{Tree}
use Rattle.sync_plan.specs.Own.{own_loop}
use Rattle.sync_plan.specs.declared.plan.Plan.{Plan}
use Rattle.own_cells.specs.OwnCells.{shared_cell}
use Rattle.spmd_model.specs.Closings.{given_first}
use Rattle.spmd_model.specs.Deeds.{Deed, adding, storing}
use Rattle.spmd_model.specs.MachineDeeds.{keeping_deeds, totalling_deeds}
use Rattle.instance_runs.specs.Executors.{CanExecute, executor_output, executor_room, executor_tree}
use Rattle.turns.specs.Turns.{closes, scalar_at}
use Rattle.turns.specs.TurnsLeft.{AreSound, IsSameRun, IsNext, beginnings_left, turns_left, turns_own, turns_place, turns_plan}
use Rattle.turns.specs.declared.turns.Next.TheVariants.{Close}
use Rattle.shared_words.specs.Calls.{AddsNext, StoresNext}
use Rattle.shared_words.specs.Homes.{CellView, Home, gone, protocol_at, stored_next}
use Rattle.spmd_workers.specs.Held.{AreHeld}
use Rattle.spmd_workers.specs.Places.{deeds_in, left_behind, own_place, place_of, plan_at, printed_behind, registers_behind, tree_at}
use Rattle.spmd_workers.specs.Walks.{GoesTo, IsWalk, LeadsOn, walk_place}
use Rattle.spmd_workers.specs.declared.walk.Walk.{Walk}
use Rattle.turns.proofs.OwnPlaces.{not_small, scalar_below, shared_there}
use Rattle.spmd_workers.proofs.SharedSteps.{add_left, add_printed, add_value, adds_next, own_load_left, own_load_printed, own_load_registers, own_store_left, own_store_printed, own_store_registers, store_left, store_printed, store_registers, store_value, stores_next}
use Rattle.spmd_workers.proofs.Steps.{come_on, seat_gone}
use Rattle.spmd_workers.proofs.Turned.{AreNoPosts, turns_go, turns_lead}
use Rattle.spmd_workers.proofs.Walks.{its_worker, walk_left}

small_place : (k : ℕ) → nat_le 16 k ≡ false → nat_lt k 16 ≡ true
small_place k low = elim (cases_Bool (nat_lt k 16)) [
  | inl small ↦ small
  | inr big ↦ absurd (true≢false (sym (le-leb 16 k (ltb-false k 16 big)) ∙ low))
]

module _ (x : Walk) (ready : IsWalk x) (held : AreHeld x.seat.home) (k : ℕ) (next : IsNext x.turns (Close k)) where
  abbrev h : Home
  h = x.seat.home

  abbrev p : ℕ
  p = x.seat.processor

  abbrev n : ℕ
  n = walk_place x

  abbrev from : ℕ
  from = own_place h p k

  abbrev to : ℕ
  to = first_cell (tree_at h) (scalar_at (own_loop (tree_at h) (plan_at h) (turns_place x.turns)) k)

  -- the own cell's value
  abbrev total : ℤ
  total = get_or x.own k (pos 0)

  abbrev behind_it : List Deed
  behind_it = deeds_in h p next.0.0

  below : p < (protocol_at h).workers
  below = its_worker x ready

  pub few : k < 32
  few = next.1.small

  -- the cell that all share is the program's
  pub shared_is : shared_cell (turns_own x.turns) k ≡ Some to
  shared_is =
      subst (λ (q : Plan). shared_cell (turns_own x.turns) k ≡ Some (first_cell (tree_at h) (scalar_at (own_loop (tree_at h) q (turns_place x.turns)) k))) ready.plan
      (subst (λ (t : Tree). shared_cell (turns_own x.turns) k ≡ Some (first_cell t (scalar_at (own_loop t (turns_plan x.turns) (turns_place x.turns)) k))) ready.tree (shared_there x.turns ready.sound k next.1))

  to_below : to < cell_count (tree_at h)
  to_below =
      subst (λ (q : Plan). first_cell (tree_at h) (scalar_at (own_loop (tree_at h) q (turns_place x.turns)) k) < cell_count (tree_at h)) ready.plan
      (subst (λ (t : Tree). first_cell t (scalar_at (own_loop t (turns_plan x.turns) (turns_place x.turns)) k) < cell_count t) ready.tree (scalar_below x.turns ready.sound k next.1))

  deeds_by : (b : Bool) → nat_lt k 16 ≡ b → left_behind x.seat x.seat x.own n ≡ (if b then keeping_deeds from to else totalling_deeds from to) ++ behind_it
  deeds_by b is = walk_left x ready ∙ ap (deeds_in h p) next.0.1 ∙ ap (λ c. (if c then keeping_deeds from to else totalling_deeds from to) ++ behind_it) is

  no_post : (b : Bool) → nat_lt k 16 ≡ b → AreNoPosts ((if b then keeping_deeds from to else totalling_deeds from to) ++ [])
  no_post true is = (tt, (tt, tt))
  no_post false is = (tt, (tt, (tt, tt)))

  none : (b : Bool) → nat_lt k 16 ≡ b → AreNoPosts (deeds_in h p (closes (turns_place x.turns) k ∷ []))
  none b is = subst (λ c. AreNoPosts ((if c then keeping_deeds from to else totalling_deeds from to) ++ [])) (sym is) (no_post b is)

  -- ---- a private scalar's

  module _ (kind : nat_le 16 k ≡ false) where
    small : nat_lt k 16 ≡ true
    small = small_place k kind

    abbrev store_is : List Deed
    store_is = storing to given_first ∷ behind_it

    loaded : left_behind x.seat x.seat x.own (n + 1) ≡ storing to given_first ∷ behind_it
    loaded = own_load_left x.seat x.seat held below x.own n store_is k few (deeds_by true small)

    given : registers_behind x.seat (n + 1) ≡ total ∷ []
    given = own_load_registers x.seat x.seat held below x.own n store_is k few (deeds_by true small) ∙ ap (λ l. l ++ total ∷ []) ready.idle

    pub keeps_next : StoresNext x.seat to
    keeps_next = stores_next x.seat x.seat held below x.own (n + 1) behind_it to given_first loaded to_below

    pub keeps_value : total ≡ stored_next x.seat
    keeps_value = store_value x.seat x.seat held below x.own (n + 1) behind_it to given_first loaded to_below total (sym (ap given_first given))

    module _ (y : Walk) (seat : y.seat ≡ gone x.seat) (own : y.own ≡ x.own) (executor : y.executor ≡ x.executor) (answered : y.answered ≡ x.answered) (over : y.ended ≡ x.ended) (sound : AreSound y.turns) (run : IsSameRun x.turns y.turns) (begins : beginnings_left y.turns ≡ beginnings_left x.turns)
        (turns : turns_left x.turns ≡ closes (turns_place x.turns) k ∷ turns_left y.turns) (rest : next.0.0 ≡ turns_left y.turns) where
      moved : {Y : Type 0} (f : CellView → ℕ → Y) → f y.seat (place_of y.seat x.turns + 2) ≡ f (gone x.seat) (n + 1 + 1)
      moved f = (λ i. f (seat i) (place_of (seat i) x.turns + 2)) ∙ ap (f (gone x.seat)) (omega arith)

      kept_left : length (left_behind x.seat y.seat y.own (place_of y.seat x.turns + 2)) ≡ length (deeds_in h p (turns_left y.turns))
      kept_left =
          ap (λ (l : List Deed). length l) (ap (λ o. left_behind x.seat y.seat o (place_of y.seat x.turns + 2)) own ∙ moved (λ v j. left_behind x.seat v x.own j) ∙ store_left x.seat x.seat held below x.own (n + 1) behind_it to given_first loaded to_below)
          ∙ ap (λ ts. length (deeds_in h p ts)) rest

      pub kept_goes : y.patience.legs ≡ x.patience.legs → GoesTo x y
      kept_goes legs =
          let same = (seat_gone x.seat y.seat seat).0 in
          let idle = moved registers_behind ∙ store_registers x.seat x.seat held below x.own (n + 1) behind_it to given_first loaded to_below in
          let printed = moved printed_behind ∙ store_printed x.seat x.seat held below x.own (n + 1) behind_it to given_first loaded to_below ∙ own_load_printed x.seat x.seat held below x.own n store_is k few (deeds_by true small) in
          let size : length (executor_output y.executor) ≡ length (executor_output x.executor) = ap (λ z. length (executor_output z)) executor in
          let wide : executor_room y.executor ≡ executor_room x.executor = ap executor_room executor in
          turns_go x ready held y (closes (turns_place x.turns) k ∷ []) 2 same turns (none true small) kept_left (come_on x.turns y.turns sound run begins) idle (subst CanExecute (sym executor) ready.can) (ap executor_tree executor)
          (ap executor_output executor ∙ ready.output ∙ sym printed) (omega (arith, size)) (omega (arith, wide)) answered over legs

      pub kept_leads : LeadsOn x y
      kept_leads = turns_lead x ready held y (closes (turns_place x.turns) k ∷ []) 2 (seat_gone x.seat y.seat seat).0 turns (none true small) kept_left (omega arith) begins answered

  -- ---- a sum scalar's

  module _ (kind : nat_le 16 k ≡ true) where
    big : nat_lt k 16 ≡ false
    big = not_small k (leb-true 16 k kind)

    abbrev zero_of : List ℤ → ℤ
    zero_of loads = pos 0

    abbrev clear_is : List Deed
    clear_is = storing from (λ given. pos 0) ∷ behind_it

    abbrev add_is : List Deed
    add_is = adding to given_first ∷ clear_is

    total_loaded : left_behind x.seat x.seat x.own (n + 1) ≡ adding to given_first ∷ clear_is
    total_loaded = own_load_left x.seat x.seat held below x.own n add_is k few (deeds_by false big)

    total_given : registers_behind x.seat (n + 1) ≡ total ∷ []
    total_given = own_load_registers x.seat x.seat held below x.own n add_is k few (deeds_by false big) ∙ ap (λ l. l ++ total ∷ []) ready.idle

    pub totals_next : AddsNext x.seat to
    totals_next = adds_next x.seat x.seat held below x.own (n + 1) clear_is to given_first total_loaded

    pub totals_value : total ≡ stored_next x.seat
    totals_value = add_value x.seat x.seat held below x.own (n + 1) clear_is to given_first total_loaded total (sym (ap given_first total_given))

    added : left_behind x.seat (gone x.seat) x.own (n + 1 + 1) ≡ storing from (λ given. pos 0) ∷ behind_it
    added = add_left x.seat x.seat held below x.own (n + 1) clear_is to given_first total_loaded

    module _ (y : Walk) (seat : y.seat ≡ gone x.seat) (own : y.own ≡ set x.own k (pos 0)) (executor : y.executor ≡ x.executor) (answered : y.answered ≡ x.answered) (over : y.ended ≡ x.ended) (sound : AreSound y.turns) (run : IsSameRun x.turns y.turns)
        (begins : beginnings_left y.turns ≡ beginnings_left x.turns) (turns : turns_left x.turns ≡ closes (turns_place x.turns) k ∷ turns_left y.turns) (rest : next.0.0 ≡ turns_left y.turns) where
      went : {Y : Type 0} (f : CellView → ℕ → Y) → f y.seat (place_of y.seat x.turns + 3) ≡ f (gone x.seat) (n + 1 + 1 + 1)
      went f = (λ i. f (seat i) (place_of (seat i) x.turns + 3)) ∙ ap (f (gone x.seat)) (omega arith)

      total_left : length (left_behind x.seat y.seat y.own (place_of y.seat x.turns + 3)) ≡ length (deeds_in h p (turns_left y.turns))
      total_left =
          ap (λ (l : List Deed). length l) (ap (λ o. left_behind x.seat y.seat o (place_of y.seat x.turns + 3)) own ∙ went (λ v j. left_behind x.seat v (set x.own k (pos 0)) j)
          ∙ own_store_left x.seat (gone x.seat) held below x.own (n + 1 + 1) behind_it k few zero_of added (pos 0) refl)
          ∙ ap (λ ts. length (deeds_in h p ts)) rest

      pub total_goes : y.patience.legs ≡ x.patience.legs → GoesTo x y
      total_goes legs =
          let same = (seat_gone x.seat y.seat seat).0 in
          let idle = went registers_behind ∙ own_store_registers x.seat (gone x.seat) held below x.own (n + 1 + 1) behind_it k few zero_of added in
          let printed = went printed_behind ∙ own_store_printed x.seat (gone x.seat) held below x.own (n + 1 + 1) behind_it k few zero_of added ∙ add_printed x.seat x.seat held below x.own (n + 1) clear_is to given_first total_loaded
          ∙ own_load_printed x.seat x.seat held below x.own n add_is k few (deeds_by false big) in
          let size : length (executor_output y.executor) ≡ length (executor_output x.executor) = ap (λ z. length (executor_output z)) executor in
          let wide : executor_room y.executor ≡ executor_room x.executor = ap executor_room executor in
          turns_go x ready held y (closes (turns_place x.turns) k ∷ []) 3 same turns (none false big) total_left (come_on x.turns y.turns sound run begins) idle (subst CanExecute (sym executor) ready.can) (ap executor_tree executor)
          (ap executor_output executor ∙ ready.output ∙ sym printed) (omega (arith, size)) (omega (arith, wide)) answered over legs

      pub total_leads : LeadsOn x y
      total_leads = turns_lead x ready held y (closes (turns_place x.turns) k ∷ []) 3 (seat_gone x.seat y.seat seat).0 turns (none false big) total_left (omega arith) begins answered
