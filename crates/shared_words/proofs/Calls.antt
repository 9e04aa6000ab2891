-- What a call owes and tells, by what contracts see of its seat.
use Rattle.std.proofs.Common.{◌≡◌, ℕ, ◌+◌, ◌*◌, ◌^◌, ◌%◌, ◌<◌, ◌≤◌, nat_le, Bool, true, false, cond, List, Some, refl, sym, ◌∙◌, ap, subst, arith}
use Rattle.std.specs.Prelude.{ℤ, FitsSigned}
use Rattle.std.specs.Int.{w64, cast_signed, cast_unsigned}
use Rattle.std.proofs.lemmas.Bool.{le-leb, lt-leb}
use Rattle.std.proofs.lemmas.Int.{of_z-to_z, to_z-of_z, wrapping_add_onto}
use Rattle.atomic_table.specs.Seated.{TableId}
use Rattle.nest_tree.specs.declared.program.Program.{Program}
use Rattle.sync_plan.specs.declared.plan.Plan.{Plan}
use Rattle.spmd_model.specs.Cells.{plus}
use Rattle.spmd_model.specs.declared.style.Style.{Style}
use Rattle.spmd_model.specs.Timelines.{Word}
use Rattle.spmd_model.specs.Acts.{Act, await, load, store, add}
use Rattle.spmd_model.specs.Protocols.{Protocol, act_at, arrived, arrivals_at}
use Rattle.spmd_model.specs.Laws.{Laws}
use Rattle.shared_words.specs.declared.roles.Role.{Role}
use Rattle.shared_words.specs.declared.roles.Role.TheVariants.{Main, Cell, Spent, Over}
use Rattle.shared_words.specs.declared.roles.Stage.{Stage}
use Rattle.shared_words.specs.declared.view.View.{View}
use Rattle.shared_words.specs.declared.view.View.TheVariants.{Seated, Away}
use Rattle.shared_words.specs.Places.{behind, behind_row, settled_at}
use Rattle.shared_words.specs.Words.{word_value}
use Rattle.shared_words.specs.Homes.{Home, CellView, protocol_at, protocol_in, home_of, role_in, processor_of, position_of, misses_of, cell_view, IsSeatOf, next_act, gone, through, missed}
use Rattle.shared_words.specs.Calls.{StandsInVain, all_arrivals}
use Rattle.shared_words.specs.Rule.{IsVainAt, VainWhere, first_of, with_role, goes_to, wanted_by, polls_to, rows_to, learnt}
use Rattle.shared_words.proofs.Places.{arrivals_behind, arrivals_row, arrivals_settled, settled_settled}

-- a seat of processor p, what contracts see of it, and the home of its table
pub record Stands (id : TableId) (v : View) (p a : ℕ) (now : CellView) (home : Home) : Type 0 where
  pub seat : IsSeatOf v p a
  pub is : cell_view id v ≡ now
  pub own : now.home ≡ home

pub stands : (id : TableId) (v : View) (p a : ℕ) (now : CellView) (home : Home) → IsSeatOf v p a → cell_view id v ≡ now → now.home ≡ home → Stands id v p a now home
stands id v p a now home seat is own = record { seat = seat; is = is; own = own }

module _ {id : TableId} {v : View} {p a : ℕ} {now : CellView} {home : Home} (k : Stands id v p a now home) where
  pub same : protocol_in v ≡ protocol_at home
  same = ap (λ (x : CellView). protocol_at x.home) k.is ∙ ap protocol_at k.own

  pub same_table : id ≡ home.table
  same_table = ap (λ (x : CellView). x.home.table) k.is ∙ ap (λ (h : Home). h.table) k.own

  pub its_laws : Laws (protocol_at home) → Laws (protocol_in v)
  its_laws laws = subst Laws (sym same) laws

  its_processor : processor_of (role_in v) ≡ p
  its_processor = ap processor_of k.seat.role

  pub its_worker : now.processor < (protocol_at now.home).workers
  its_worker = subst (λ (x : CellView). x.processor < (protocol_at x.home).workers) k.is (subst (λ q. q < (protocol_in v).workers) (sym its_processor) k.seat.worker)

  pub its_next : (act : Act) → next_act now ≡ Some act → act_at (protocol_in v) p (position_of (role_in v)) ≡ Some act
  its_next act next = subst (λ x. act_at (protocol_in v) x (position_of (role_in v)) ≡ Some act) its_processor (subst (λ (x : CellView). next_act x ≡ Some act) (sym k.is) next)

  pub its_gathers : (number : ℕ) → (protocol_in v).gathers number ≡ (protocol_at now.home).gathers number
  its_gathers number = ap (λ (x : CellView). (protocol_at x.home).gathers number) k.is

  -- what it loads next, or stores to, is a cell that all share
  pub load_inside : Laws (protocol_in v) → (place cell : ℕ) → act_at (protocol_in v) p (position_of (role_in v)) ≡ Some (load place cell) → cell < (protocol_in v).cells
  load_inside laws place cell next = laws.load_inside p (position_of (role_in v)) place cell k.seat.worker (ap (act_at (protocol_in v) p) k.seat.settled ∙ next)

  pub store_inside : Laws (protocol_in v) → (place cell : ℕ) → act_at (protocol_in v) p (position_of (role_in v)) ≡ Some (store place cell) → cell < (protocol_in v).cells
  store_inside laws place cell next = laws.store_inside p (position_of (role_in v)) place cell k.seat.worker (ap (act_at (protocol_in v) p) k.seat.settled ∙ next)

  pub add_inside : Laws (protocol_in v) → (place cell : ℕ) → act_at (protocol_in v) p (position_of (role_in v)) ≡ Some (add place cell) → cell < (protocol_in v).cells
  add_inside laws place cell next = laws.add_inside p (position_of (role_in v)) place cell k.seat.worker next

  -- whom it awaits next is a processor
  pub awaited_inside : Laws (protocol_in v) → (w : Word) (on wanted : ℕ) → act_at (protocol_in v) p (position_of (role_in v)) ≡ Some (await w on wanted) → on < (protocol_in v).workers
  awaited_inside laws w on wanted next = (laws.posted w p (position_of (role_in v)) on wanted 0 k.seat.worker next).0

  -- the word of a value that is stored
  pub stored_here : (z : ℤ) (word : ℕ) → FitsSigned w64 z → z ≡ (protocol_at now.home).stored_at now.processor now.position → word ≡ cast_unsigned w64 z → word_value word ≡ (protocol_in v).stored_at p (position_of (role_in v))
  stored_here z word fits value there =
      ap (cast_signed w64) there ∙ to_z-of_z w64 z fits ∙ value ∙ sym (ap (λ (x : CellView). (protocol_at x.home).stored_at x.processor x.position) k.is) ∙ ap (λ x. (protocol_in v).stored_at x (position_of (role_in v))) its_processor

  -- the word that an amount is added to
  pub added_here : (z : ℤ) (word : ℕ) → FitsSigned w64 z → z ≡ (protocol_at now.home).stored_at now.processor now.position → word ≡ cast_unsigned w64 z
      → (x : ℕ) → x < 2 ^ 64 → word_value ((x + word) % 2 ^ 64) ≡ plus (word_value x) ((protocol_in v).stored_at p (position_of (role_in v)))
  added_here z word fits value there x small =
      let amount : z ≡ (protocol_in v).stored_at p (position_of (role_in v)) =
      value ∙ sym (ap (λ (y : CellView). (protocol_at y.home).stored_at y.processor y.position) k.is) ∙ ap (λ y. (protocol_in v).stored_at y (position_of (role_in v))) its_processor in
      ap (λ y. cast_signed w64 ((x + y) % 2 ^ 64)) there ∙ wrapping_add_onto w64 x z small fits ∙ ap (plus (word_value x)) amount

  -- what a load found is the value, behind a cast there and back
  pub loaded_here : (found : ℕ) (z : ℤ) → found < 2 ^ 64 → z ≡ cast_signed w64 found → word_value found ≡ (protocol_in v).loaded_at (processor_of (role_in v)) (position_of (role_in v))
      → cast_signed w64 (cast_unsigned w64 z) ≡ (protocol_at now.home).loaded_at now.processor now.position
  loaded_here found z lt is told =
      ap (λ x. cast_signed w64 (cast_unsigned w64 x)) is ∙ ap (cast_signed w64) (of_z-to_z w64 found lt) ∙ told ∙ ap (λ (x : CellView). (protocol_at x.home).loaded_at x.processor x.position) k.is

-- ---- a seat's view behind a step: of a seat that isn't a processor's nothing is asked

-- only a processor's seat is one
by_cell : (A : View → Type 0) (v : View) (p a : ℕ) → IsSeatOf v p a → ((program : Program) (plan : Plan) (style : Style) (known : List ℕ) (q n misses seen : ℕ) → IsSeatOf (Seated program plan style known (Cell q n misses seen)) p a → A (Seated program plan style known (Cell q n misses seen))) → A v
by_cell A (Seated program plan style known (Main stages)) p a seat then = let clash = seat.role in absurd (cc)
by_cell A (Seated program plan style known (Cell q n misses seen)) p a seat then = then program plan style known q n misses seen seat
by_cell A (Seated program plan style known Spent) p a seat then = let clash = seat.role in absurd (cc)
by_cell A (Seated program plan style known Over) p a seat then = let clash = seat.role in absurd (cc)
by_cell A Away p a seat then = let clash = seat.role in absurd (cc)

-- behind an act
gone_is : (id : TableId) (v : View) (p a : ℕ) → IsSeatOf v p a → cell_view id (with_role v (goes_to (protocol_in v) (role_in v))) ≡ gone (cell_view id v)
gone_is id v p a seat = by_cell (λ v. cell_view id (with_role v (goes_to (protocol_in v) (role_in v))) ≡ gone (cell_view id v)) v p a seat (λ program plan style known q n misses seen seat. refl)

pub gone_seat : (v : View) (p a b : ℕ) (act : Act) → IsSeatOf v p a → act_at (protocol_in v) p (position_of (role_in v)) ≡ Some act
    → ((n : ℕ) → a ≡ (protocol_in v).workers * n → b ≡ (protocol_in v).workers * arrived (protocol_in v).gathers n act) → IsSeatOf (with_role v (goes_to (protocol_in v) (role_in v))) p b
gone_seat v p a b act seat = by_cell
    (λ v. act_at (protocol_in v) p (position_of (role_in v)) ≡ Some act → ((n : ℕ) → a ≡ (protocol_in v).workers * n → b ≡ (protocol_in v).workers * arrived (protocol_in v).gathers n act)
    → IsSeatOf (with_role v (goes_to (protocol_in v) (role_in v))) p b) v p a seat
    (λ program plan style known q n misses seen seat next count. let m : Protocol = protocol_in (Seated program plan style known (Cell q n misses seen)) in let same : q ≡ p = ap processor_of seat.role in record {
      role = ap (λ x. Cell x (behind m q n) 0 0) same;
      worker = seat.worker;
      arrived = count (arrivals_at m p n) seat.arrived ∙ ap (λ x. m.workers * x) (sym (arrivals_behind m p n act next)) ∙ ap (λ x. m.workers * arrivals_at m p (behind m x n)) (sym same);
      settled = ap (λ x. settled_at m p (behind m x n)) same ∙ settled_settled m p (n + 1) ∙ ap (λ x. behind m x n) (sym same);
    })

pub gone_here : {id table : TableId} {v w : View} {p a : ℕ} {now : CellView} {home : Home} → Stands id v p a now home → table ≡ id → w ≡ with_role v (goes_to (protocol_in v) (role_in v)) → cell_view table w ≡ gone now
gone_here {id} {table} {v} {w} {p} {a} k at new = (λ i. cell_view (at i) (new i)) ∙ gone_is id v p a k.seat ∙ ap gone k.is

-- behind a poll that found this, which is too little
pub missed_seat : (v : View) (p a found : ℕ) → IsSeatOf v p a → IsSeatOf (with_role v (Cell p (position_of (role_in v)) (misses_of (role_in v) + 1) found)) p a
missed_seat v p a found seat = by_cell (λ v. IsSeatOf (with_role v (Cell p (position_of (role_in v)) (misses_of (role_in v) + 1) found)) p a) v p a seat
    (λ program plan style known q n misses seen seat. record { role = refl; worker = seat.worker; arrived = seat.arrived; settled = seat.settled })

missed_is : (id : TableId) (v : View) (p a found : ℕ) → IsSeatOf v p a → cell_view id (with_role v (Cell p (position_of (role_in v)) (misses_of (role_in v) + 1) found)) ≡ missed found (cell_view id v)
missed_is id v p a found seat = by_cell (λ v. cell_view id (with_role v (Cell p (position_of (role_in v)) (misses_of (role_in v) + 1) found)) ≡ missed found (cell_view id v)) v p a seat
    (λ program plan style known q n misses seen seat. let same : q ≡ p = ap processor_of seat.role in λ i. record { home = home_of id (Seated program plan style known (Cell q n misses seen)); processor = sym same i; position = n; misses = misses + 1; seen = found })

-- behind all awaits at a barrier
pub through_seat : (v : View) (p a : ℕ) → IsSeatOf v p a → IsSeatOf (with_role v (Cell p (behind_row (protocol_in v) p (position_of (role_in v))) 0 0)) p a
through_seat v p a seat = by_cell (λ v. IsSeatOf (with_role v (Cell p (behind_row (protocol_in v) p (position_of (role_in v))) 0 0)) p a) v p a seat
    (λ program plan style known q n misses seen seat. record { role = refl; worker = seat.worker; arrived = seat.arrived ∙ ap (λ x. (protocol_in (Seated program plan style known (Cell q n misses seen))).workers * x) (sym (arrivals_row (protocol_in (Seated program plan style known (Cell q n misses seen))) p n)); settled = settled_settled (protocol_in (Seated program plan style known (Cell q n misses seen))) p _ })

through_is : (id : TableId) (v : View) (p a : ℕ) → IsSeatOf v p a → cell_view id (with_role v (Cell p (behind_row (protocol_in v) p (position_of (role_in v))) 0 0)) ≡ through (cell_view id v)
through_is id v p a seat = by_cell (λ v. cell_view id (with_role v (Cell p (behind_row (protocol_in v) p (position_of (role_in v))) 0 0)) ≡ through (cell_view id v)) v p a seat
    (λ program plan style known q n misses seen seat. let same : q ≡ p = ap processor_of seat.role in let m : Protocol = protocol_in (Seated program plan style known (Cell q n misses seen)) in
    λ i. record { home = home_of id (Seated program plan style known (Cell q n misses seen)); processor = sym same i; position = behind_row m (sym same i) n; misses = 0; seen = 0 })

-- nobody arrives without a worker's arrival
none : (workers n : ℕ) → n ≡ 0 → 0 ≡ workers * n
none workers n is = let zero : workers * n ≡ workers * 0 = ap (λ x. workers * x) is in omega (arith, zero)

-- a processor's seat at its first act
pub first_seat_of : (v : View) (stages : List Stage) (p : ℕ) → role_in v ≡ Main stages → p < (protocol_in v).workers → IsSeatOf (first_of p v) p 0
first_seat_of (Seated program plan style known role) stages p main worker = record { role = refl; worker = worker; arrived = none (protocol_in (Seated program plan style known role)).workers _ (arrivals_settled (protocol_in (Seated program plan style known role)) p 0); settled = settled_settled (protocol_in (Seated program plan style known role)) p 0 }
first_seat_of Away stages p main worker = let clash = main in absurd (cc)

-- a poll in vain is so at what contracts see of its seat
vain_here : {id : TableId} {v : View} {p a : ℕ} {now : CellView} {home : Home} → Stands id v p a now home → IsVainAt v → StandsInVain now
vain_here k vain = subst StandsInVain k.is vain

-- where a poll's seat stands: behind its act, or at it with a miss more
module _ (v : View) (p a : ℕ) (mine : IsSeatOf v p a) (w : Word) (on wanted found : ℕ) (next : act_at (protocol_in v) p (position_of (role_in v)) ≡ Some (await w on wanted)) where
  abbrev passed : Role
  passed = Cell p (behind (protocol_in v) p (position_of (role_in v))) 0 0

  abbrev stayed : Role
  stayed = Cell p (position_of (role_in v)) (misses_of (role_in v) + 1) found

  polled : (b : Bool) → nat_le wanted found ≡ b → polls_to (protocol_in v) (role_in v) found ≡ cond b passed stayed
  polled b come = ap (λ r. polls_to (protocol_in v) r found) mine.role ∙ ap (λ x. cond (nat_le (wanted_by x) found) passed stayed) next ∙ ap (λ b. cond b passed stayed) come

  poll_ready : nat_le wanted found ≡ true → polls_to (protocol_in v) (role_in v) found ≡ goes_to (protocol_in v) (role_in v)
  poll_ready come = polled true come ∙ sym (ap (goes_to (protocol_in v)) mine.role)

  poll_missed : nat_le wanted found ≡ false → polls_to (protocol_in v) (role_in v) found ≡ stayed
  poll_missed come = polled false come

  pub poll_seat : IsSeatOf (with_role v (polls_to (protocol_in v) (role_in v) found)) p a
  poll_seat = go (nat_le wanted found) refl
    where
      go : (b : Bool) → nat_le wanted found ≡ b → IsSeatOf (with_role v (polls_to (protocol_in v) (role_in v) found)) p a
      go true come = subst (λ r. IsSeatOf (with_role v r) p a) (sym (poll_ready come)) (gone_seat v p a a (await w on wanted) mine next (λ n is. is))
      go false come = subst (λ r. IsSeatOf (with_role v r) p a) (sym (poll_missed come)) (missed_seat v p a found mine)

  -- the number that the seat's next act awaits
  its_wanted : wanted_by (act_at (protocol_in v) (processor_of (role_in v)) (position_of (role_in v))) ≡ wanted
  its_wanted = ap (λ q. wanted_by (act_at (protocol_in v) q (position_of (role_in v)))) (ap processor_of mine.role) ∙ ap wanted_by next

-- what contracts see of the seat behind a poll that found enough
pub passed_here : {id table : TableId} {v u : View} {p a : ℕ} {now : CellView} {home : Home} (k : Stands id v p a now home) (w : Word) (on wanted found : ℕ) → act_at (protocol_in v) p (position_of (role_in v)) ≡ Some (await w on wanted) → table ≡ id → u ≡ with_role v (polls_to (protocol_in v) (role_in v) found)
    → wanted ≤ found → cell_view table u ≡ gone now
passed_here {id} {table} {v} {u} {p} {a} k w on wanted found next at new enough = gone_here k at (new ∙ ap (with_role v) (poll_ready v p a k.seat w on wanted found next (le-leb wanted found enough)))

-- and behind one that found too little
pub stayed_here : {id table : TableId} {v u : View} {p a : ℕ} {now : CellView} {home : Home} (k : Stands id v p a now home) (w : Word) (on wanted found : ℕ) → act_at (protocol_in v) p (position_of (role_in v)) ≡ Some (await w on wanted) → table ≡ id → u ≡ with_role v (polls_to (protocol_in v) (role_in v) found)
    → VainWhere v (wanted_by (act_at (protocol_in v) (processor_of (role_in v)) (position_of (role_in v)))) found → found < wanted → (cell_view table u ≡ missed found now) × StandsInVain now
stayed_here {id} {table} {v} {u} {p} {a} k w on wanted found next at new vain less = let low = lt-leb wanted found less in (
  (λ i. cell_view (at i) ((new ∙ ap (with_role v) (poll_missed v p a k.seat w on wanted found next low)) i)) ∙ missed_is id v p a found k.seat ∙ ap (missed found) k.is,
  vain_here k (subst (λ n. VainWhere v n found) (its_wanted v p a k.seat w on wanted found next) vain low),
)

-- where a look at all arrivals leaves its seat
module _ (v : View) (p a : ℕ) (mine : IsSeatOf v p a) (found : ℕ) where
  abbrev whole : ℕ
  whole = (protocol_in v).workers * arrivals_at (protocol_in v) p (position_of (role_in v))

  abbrev in_front : Role
  in_front = Cell p (position_of (role_in v)) (misses_of (role_in v) + 1) found

  abbrev over_it : Role
  over_it = Cell p (behind_row (protocol_in v) p (position_of (role_in v))) 0 0

  rowed : (b : Bool) → nat_le whole found ≡ b → rows_to (protocol_in v) (role_in v) found ≡ cond b over_it in_front
  rowed b come = ap (λ r. rows_to (protocol_in v) r found) mine.role ∙ ap (λ b. cond b over_it in_front) come

  row_ready : nat_le whole found ≡ true → rows_to (protocol_in v) (role_in v) found ≡ over_it
  row_ready come = rowed true come

  row_missed : nat_le whole found ≡ false → rows_to (protocol_in v) (role_in v) found ≡ in_front
  row_missed come = rowed false come

  pub row_seat : IsSeatOf (with_role v (rows_to (protocol_in v) (role_in v) found)) p a
  row_seat = go (nat_le whole found) refl
    where
      go : (b : Bool) → nat_le whole found ≡ b → IsSeatOf (with_role v (rows_to (protocol_in v) (role_in v) found)) p a
      go true come = subst (λ r. IsSeatOf (with_role v r) p a) (sym (row_ready come)) (through_seat v p a mine)
      go false come = subst (λ r. IsSeatOf (with_role v r) p a) (sym (row_missed come)) (missed_seat v p a found mine)

  its_whole : (protocol_in v).workers * arrivals_at (protocol_in v) (processor_of (role_in v)) (position_of (role_in v)) ≡ whole
  its_whole = ap (λ q. (protocol_in v).workers * arrivals_at (protocol_in v) q (position_of (role_in v))) (ap processor_of mine.role)

pub through_here : {id table : TableId} {v u : View} {p a : ℕ} {now : CellView} {home : Home} (k : Stands id v p a now home) (found : ℕ) → table ≡ id → u ≡ with_role v (rows_to (protocol_in v) (role_in v) found) → a ≤ found → cell_view table u ≡ through now
through_here {id} {table} {v} {u} {p} {a} k found at new enough = let all = k.seat.arrived in
    (λ i. cell_view (at i) ((new ∙ ap (with_role v) (row_ready v p a k.seat found (le-leb (whole v p a k.seat found) found (omega (arith, all, enough))))) i)) ∙ through_is id v p a k.seat ∙ ap through k.is

pub before_here : {id table : TableId} {v u : View} {p a : ℕ} {now : CellView} {home : Home} (k : Stands id v p a now home) (found : ℕ) → table ≡ id → u ≡ with_role v (rows_to (protocol_in v) (role_in v) found)
    → VainWhere v ((protocol_in v).workers * arrivals_at (protocol_in v) (processor_of (role_in v)) (position_of (role_in v))) found → found < a → (found < all_arrivals now) × (cell_view table u ≡ missed found now) × StandsInVain now
before_here {id} {table} {v} {u} {p} {a} {now} k found at new vain less = let all = k.seat.arrived in
    let low = lt-leb (whole v p a k.seat found) found (omega (arith, all, less)) in
    let same : whole v p a k.seat found ≡ all_arrivals now = sym (its_whole v p a k.seat found) ∙ ap all_arrivals k.is in (
      omega (arith, all, less, same),
      (λ i. cell_view (at i) ((new ∙ ap (with_role v) (row_missed v p a k.seat found low)) i)) ∙ missed_is id v p a found k.seat ∙ ap (missed found) k.is,
      vain_here k (subst (λ n. VainWhere v n found) (its_whole v p a k.seat found) vain low),
    )

-- ---- seats tell each other what they know

-- a processor's seat that learns what another knows is a seat of the same, in another home
pub learnt_seat : (v w : View) (p a : ℕ) → IsSeatOf v p a → IsSeatOf (learnt v w) p a
learnt_seat v w p a seat = by_cell (λ v. IsSeatOf (learnt v w) p a) v p a seat (λ program plan style known q n misses seen seat. record { role = seat.role; worker = seat.worker; arrived = seat.arrived; settled = seat.settled })
