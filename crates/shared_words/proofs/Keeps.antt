-- Each step on the table keeps the rule.
use Rattle.std.proofs.Common.{◌≡◌, ◌≢◌, ℕ, zero, suc, ◌+◌, ◌*◌, ◌^◌, ◌%◌, ◌<◌, nat_le, Bool, true, false, cond, ◌≤◌, List, [], ◌∷◌, set, Some, refl, sym, ◌∙◌, ap, subst, inl, inr, ⊎_elim, arith}
use Rattle.std.specs.Prelude.{slice_index}
use mathlib.Core.Option.{some, none, some-injective, some-ne-none}
use lib.ListN.{get_elem?}
use lib.Seq.{set-get_or}
use Rattle.std.proofs.lemmas.Bool.{cases_eq, leb-false, leb-true}
use Rattle.std.proofs.Math.Nat.{mod-eq_of_lt}
use Rattle.atomic_table.specs.Table.{Me, step, keeps, Allows}
use Rattle.atomic_table.proofs.Lists.{at_set}
use Rattle.spmd_model.specs.Cells.{plus}
use Rattle.spmd_model.specs.Free.{IsInVain}
use Rattle.spmd_model.specs.Timelines.{Word, counter}
use Rattle.spmd_model.specs.Acts.{post, await, load, store, add}
use Rattle.spmd_model.specs.Protocols.{Protocol, act_at, arrivals_at, is_arrival}
use Rattle.spmd_model.specs.Laws.{Laws}
use Rattle.shared_words.specs.declared.view.Given.{Given}
use Rattle.shared_words.specs.declared.roles.Role.{Role}
use Rattle.shared_words.specs.declared.roles.Role.TheVariants.{Cell, Spent}
use Rattle.shared_words.specs.declared.view.View.{View}
use Rattle.shared_words.specs.declared.view.View.TheVariants.{Seated, Away}
use Rattle.shared_words.specs.Places.{behind, behind_row}
use Rattle.shared_words.specs.Words.{word_value, word_of, arrival_word}
use Rattle.shared_words.specs.Shown.{AreOne}
use Rattle.shared_words.specs.Steps.{ComesTo, GoesOn}
use Rattle.shared_words.specs.Vain.{AreReached}
use Rattle.shared_words.specs.Homes.{Subject, known_in, protocol_given, protocol_in, processor_of, position_of, role_in}
use Rattle.shared_words.specs.Rule.{Shown, IsAtHome, VainWhere, AreAtHome, subject_of, table_protocol, roles_in, with_role, goes_to, wanted_by, polls_to, rows_to, loads, goes, polls, rows}
use Rattle.shared_words.proofs.WordSteps.{map-set}
use Rattle.shared_words.proofs.Steps.{load_step, store_step, add_step, post_step, poll_step, miss_step, arrive_step, row_step}
use Rattle.shared_words.proofs.Vain.{in_vain, row_in_vain}

pub role_at : (views : List View) (j : ℕ) (v : View) → get_elem? views j ≡ some v → get_elem? (roles_in views) j ≡ some (role_in v)
role_at [] j v is = absurd (some-ne-none v (sym is))
role_at (x ∷ xs) zero v is = ap some (ap role_in (some-injective x v is))
role_at (x ∷ xs) (suc j) v is = role_at xs j v is

-- a seat of this program, plan and style stays one
pub home_set : (subject : Subject) (views : List View) (id : ℕ) (w : View) → IsAtHome subject w → AreAtHome subject views → AreAtHome subject (set views id w)
home_set subject views id w mine home j v is = ⊎_elim
    (λ (t : (j ≡ id) × (w ≡ v)). subst (IsAtHome subject) t.1 mine)
    (λ (t : (j ≢ id) × (get_elem? views j ≡ some v)). home j v t.1) (at_set views id j w v is)

pub home_kept : (subject : Subject) (v : View) (r : Role) → IsAtHome subject v → IsAtHome subject (with_role v r)
home_kept subject (Seated program plan style known role) r home = home
home_kept subject Away r home = tt

-- the machine of a seat is the table's
pub same_protocol : (k : Given) (v : View) → role_in v ≢ Spent → IsAtHome (subject_of k) v → protocol_in v ≡ table_protocol k
same_protocol k (Seated program plan style known role) alive home = ap (λ (s : Subject). protocol_given (Some s)) home
same_protocol k Away alive home = absurd (alive refl)

pub new_role : (v : View) (r : Role) → role_in v ≢ Spent → role_in (with_role v r) ≡ r
new_role (Seated program plan style known role) r alive = refl
new_role Away r alive = absurd (alive refl)

pub alive_cell : (r : Role) (p n misses seen : ℕ) → r ≡ Cell p n misses seen → r ≢ Spent
alive_cell r p n misses seen is e = let clash : Cell p n misses seen ≡ Spent = sym is ∙ e in absurd (cc)

-- what a seat knows stays when its role changes
pub known_kept : (v : View) (r : Role) → known_in (with_role v r) ≡ known_in v
known_kept (Seated program plan style known role) r = refl
known_kept Away r = refl

-- where each processor's place is reached, those in front of it are
pub reached_on : (m : Protocol) (known at after : ℕ → ℕ) → ((q : ℕ) → q < m.workers → at q ≤ after q) → AreReached m known at → AreReached m known after
reached_on m known at after rises reached q lt = let a = rises q lt in let b = reached q lt in omega (arith, a, b)

-- all seats' places are reached, where one seat's view is another of which that holds
pub reached_set : (m : Protocol) (at : ℕ → ℕ) (views : List View) (id : ℕ) (w : View) → AreReached m (slice_index (known_in w)) at → ((j : ℕ) (v : View) → get_elem? views j ≡ some v → AreReached m (slice_index (known_in v)) at)
    → (j : ℕ) (v : View) → get_elem? (set views id w) j ≡ some v → AreReached m (slice_index (known_in v)) at
reached_set m at views id w mine others j v is = ⊎_elim
    (λ (t : (j ≡ id) × (w ≡ v)). subst (λ (x : View). AreReached m (slice_index (known_in x)) at) t.1 mine)
    (λ (t : (j ≢ id) × (get_elem? views j ≡ some v)). others j v t.1) (at_set views id j w v is)

-- words and seats behind a step show the machine, where no processor has gone back
abbrev pub Follows : (m : Protocol) (words : List ℕ) (roles : List Role) → AreOne m words roles → List ℕ → List Role → Type 0
Follows m words roles one after seats = (next : AreOne m after seats) × ((q : ℕ) → q < m.workers → one.at q ≤ next.at q)

-- what a step of a seat on the word i owes: what it does to words and seats, and what it tells where the places that the seat knows are reached
abbrev Owes : (id i : ℕ) (f : ℕ → ℕ) (role : Role) (known : List ℕ) (to : ℕ → Role) (told : ℕ → Type 0) → Protocol → Type 0
Owes id i f role known to told m =
    (words : List ℕ) (roles : List Role) (one : AreOne m words roles) → get_elem? roles id ≡ some role → AreReached m (slice_index known) one.at → slice_index words i < 2 ^ 64
    → Follows m words roles one (set words i (f (slice_index words i))) (set roles id (to (slice_index words i))) × told (slice_index words i)

module _ {S : Type 0} (k : Given) (slots id : ℕ) (me : Me S View) (i : ℕ) (f : ℕ → ℕ) where
  -- such a step is allowed
  pub allowed : role_in me.0 ≢ Spent → (to : ℕ → Role) (told : ℕ → Type 0) → Owes id i f (role_in me.0) (known_in me.0) to told (protocol_in me.0) → Allows (Shown k) slots id me i f (λ found w. (w ≡ (with_role me.0 (to found), me.1)) × told found)
  allowed alive to told owed s r _ at small =
      let home = r.home id me.0 at in let same = same_protocol k me.0 alive home in
      let found : ℕ = slice_index s.words i in let w : View = with_role me.0 (to found) in
      let steps : Owes id i f (role_in me.0) (known_in me.0) to told (table_protocol k) = subst (Owes id i f (role_in me.0) (known_in me.0) to told) same owed in
      let done = steps s.words (roles_in s.views) r.one (role_at s.views id me.0 at) (r.reached id me.0 at) small in
      let roles : roles_in (set s.views id w) ≡ set (roles_in s.views) id (to found) = map-set role_in s.views id w ∙ ap (set (roles_in s.views) id) (new_role me.0 (to found) alive) in
      let now : Follows (table_protocol k) s.words (roles_in s.views) r.one (set s.words i (f found)) (roles_in (set s.views id w)) = subst (Follows (table_protocol k) s.words (roles_in s.views) r.one (set s.words i (f found))) (sym roles) done.0 in (
        w,
        keeps,
        tt,
        record {
          one = now.0;
          home = home_set (subject_of k) s.views id w (home_kept (subject_of k) me.0 (to found) home) r.home;
          reached = reached_set (table_protocol k) now.0.at s.views id w
              (subst (λ l. AreReached (table_protocol k) (slice_index l) now.0.at) (sym (known_kept me.0 (to found))) (reached_on (table_protocol k) (slice_index (known_in me.0)) r.one.at now.0.at now.1 (r.reached id me.0 at)))
              (λ j v is. reached_on (table_protocol k) (slice_index (known_in v)) r.one.at now.0.at now.1 (r.reached j v is));
        },
        (refl, done.1),
      )

module _ {S : Type 0} (k : Given) (slots id : ℕ) (me : Me S View) (laws : Laws (protocol_in me.0)) (p n misses seen : ℕ) (mine : role_in me.0 ≡ Cell p n misses seen) where
  alive : role_in me.0 ≢ Spent
  alive = alive_cell (role_in me.0) p n misses seen mine

  seat_there : (roles : List Role) → get_elem? roles id ≡ some (role_in me.0) → get_elem? roles id ≡ some (Cell p n misses seen)
  seat_there roles at = at ∙ ap some mine

  abbrev m : Protocol
  m = protocol_in me.0

  -- a step to a place that is no earlier one
  comes : (words after : List ℕ) (roles : List Role) (one : AreOne m words roles) → get_elem? roles id ≡ some (role_in me.0) → (to misses' seen' : ℕ) → n ≤ to → ComesTo one after id p to misses' seen' → Follows m words roles one after (set roles id (Cell p to misses' seen'))
  comes words after roles one at to misses' seen' le step = (
    step.one,
    λ q lt. elim (cases_eq q p) [
      | inl e ↦ (let here : one.at q ≡ n = ap one.at e ∙ (one.seated.says id (Cell p n misses seen) (seat_there roles at)).3 in let there : step.one.at q ≡ to = ap step.one.at e ∙ step.moves.here in omega (arith, here, there, le))
      | inr ne ↦ (let stays = step.moves.others q ne in omega (arith, stays))
    ],
  )

  -- a step behind the next act
  gone_on : (words after : List ℕ) (roles : List Role) (one : AreOne m words roles) → get_elem? roles id ≡ some (role_in me.0) → GoesOn one after id p n → Follows m words roles one after (set roles id (goes_to m (role_in me.0)))
  gone_on words after roles one at step = subst (λ r. Follows m words roles one after (set roles id r)) (ap (goes_to m) (sym mine)) (comes words after roles one at (behind m p n) 0 0 (omega arith) step)

  pub load_allowed : (place c : ℕ) → act_at m p n ≡ Some (load place c) → c < m.cells → Allows (Shown k) slots id me c (λ x. x) (loads (step slots c 0 0 none) me)
  load_allowed place c next inside =
      allowed k slots id me c (λ x. x) alive (λ _. goes_to m (role_in me.0)) (λ found. word_value found ≡ m.loaded_at (processor_of (role_in me.0)) (position_of (role_in me.0)))
      (λ words roles one at reached small.
      let done = load_step m laws words roles one id p n misses seen (seat_there roles at) place c next inside in (
        subst (λ (x : List ℕ). Follows m words roles one x (set roles id (goes_to m (role_in me.0)))) (sym (set-get_or words c 0)) (gone_on words words roles one at done.0),
        done.1 ∙ ap (λ (r : Role). m.loaded_at (processor_of r) (position_of r)) (sym mine),
      ))

  pub store_allowed : (place c word : ℕ) → act_at m p n ≡ Some (store place c) → c < m.cells → word_value word ≡ m.stored_at p n → Allows (Shown k) slots id me c (λ _. word) (λ _. goes (step slots c word 0 none) me word)
  store_allowed place c word next inside is =
      allowed k slots id me c (λ _. word) alive (λ _. goes_to m (role_in me.0)) (λ _. Unit {0})
      (λ words roles one at reached small. (gone_on words (set words c word) roles one at (store_step m laws words roles one id p n misses seen (seat_there roles at) place c word next inside is), tt))

  pub add_allowed : (place c word : ℕ) → act_at m p n ≡ Some (add place c) → c < m.cells → ((x : ℕ) → x < 2 ^ 64 → word_value ((x + word) % 2 ^ 64) ≡ plus (word_value x) (m.stored_at p n)) → Allows (Shown k) slots id me c (λ x. (x + word) % 2 ^ 64) (goes (step slots c word 0 none) me)
  add_allowed place c word next inside sum =
      allowed k slots id me c (λ x. (x + word) % 2 ^ 64) alive (λ _. goes_to m (role_in me.0)) (λ _. Unit {0})
      (λ words roles one at reached small.
      let more = (slice_index words c + word) % 2 ^ 64 in
      (gone_on words (set words c more) roles one at (add_step m laws words roles one id p n misses seen (seat_there roles at) place c more next inside (sum (slice_index words c) small)), tt))

  pub post_allowed : (w : Word) (number i : ℕ) → act_at m p n ≡ Some (post w number) → is_arrival m.gathers w number ≡ false → i ≡ word_of m w p → Allows (Shown k) slots id me i (λ _. number) (λ _. goes (step slots i number 0 none) me number)
  post_allowed w number i next plain on =
      allowed k slots id me i (λ _. number) alive (λ _. goes_to m (role_in me.0)) (λ _. Unit {0})
      (λ words roles one at reached small. (
        subst (λ x. Follows m words roles one (set words x number) (set roles id (goes_to m (role_in me.0)))) (sym on)
            (gone_on words (set words (word_of m w p) number) roles one at (post_step m laws words roles one id p n misses seen (seat_there roles at) w number next plain)),
        tt,
      ))

  pub arrive_allowed : (number i : ℕ) → act_at m p n ≡ Some (post counter number) → m.gathers number ≡ true → i ≡ arrival_word m → Allows (Shown k) slots id me i (λ x. (x + 1) % 2 ^ 64) (goes (step slots i 1 0 none) me)
  arrive_allowed number i next joint on =
      allowed k slots id me i (λ x. (x + 1) % 2 ^ 64) alive (λ _. goes_to m (role_in me.0)) (λ _. Unit {0})
      (λ words roles one at reached small.
      let done = arrive_step m laws words roles one id p n misses seen (seat_there roles at) number next joint in
      let exact : (slice_index words i + 1) % 2 ^ 64 ≡ slice_index words (arrival_word m) + 1 = ap (λ x. (slice_index words x + 1) % 2 ^ 64) on ∙ mod-eq_of_lt done.1 in (
        subst (λ (x : ℕ × ℕ). Follows m words roles one (set words x.0 x.1) (set roles id (goes_to m (role_in me.0)))) (λ j. (sym on j, sym exact j))
            (gone_on words (set words (arrival_word m) (slice_index words (arrival_word m) + 1)) roles one at done.0),
        tt,
      ))

  -- ---- polls

  poll_to : (words : List ℕ) (roles : List Role) (one : AreOne m words roles) → get_elem? roles id ≡ some (role_in me.0) → (w : Word) (q wanted : ℕ) → act_at m p n ≡ Some (await w q wanted) → is_arrival m.gathers w wanted ≡ false
      → (b : Bool) → nat_le wanted (slice_index words (word_of m w q)) ≡ b → Follows m words roles one words (set roles id (cond b (Cell p (behind m p n) 0 0) (Cell p n (misses + 1) (slice_index words (word_of m w q)))))
  poll_to words roles one at w q wanted next plain true come =
      comes words words roles one at (behind m p n) 0 0 (omega arith) (poll_step m laws words roles one id p n misses seen (seat_there roles at) w q wanted next plain (leb-true wanted (slice_index words (word_of m w q)) come))
  poll_to words roles one at w q wanted next plain false come =
      comes words words roles one at n (misses + 1) (slice_index words (word_of m w q)) (omega arith) (miss_step m laws words roles one id p n misses seen (seat_there roles at) (slice_index words (word_of m w q)))

  -- a word that shows too little was awaited in vain at the places that the seat knows
  poll_vain : (words : List ℕ) (roles : List Role) (one : AreOne m words roles) → get_elem? roles id ≡ some (role_in me.0) → AreReached m (slice_index (known_in me.0)) one.at → (w : Word) (q wanted : ℕ) → act_at m p n ≡ Some (await w q wanted) → is_arrival m.gathers w wanted ≡ false
      → VainWhere me.0 wanted (slice_index words (word_of m w q))
  poll_vain words roles one at reached w q wanted next plain low =
      let worker : p < m.workers = (one.seated.says id (Cell p n misses seen) (seat_there roles at)).0 in
      let shown = one.shown.counters w q (laws.posted w p n q wanted 0 worker next).0 in
      let less = leb-false wanted (slice_index words (word_of m w q)) low in
      subst (λ (r : Role). IsInVain m.acts (slice_index (known_in me.0)) (processor_of r) (position_of r)) (sym mine)
      (in_vain m laws w one.at (slice_index (known_in me.0)) p n q wanted worker reached next plain (omega (arith, shown, less)))

  pub poll_allowed : (w : Word) (q wanted i : ℕ) → act_at m p n ≡ Some (await w q wanted) → is_arrival m.gathers w wanted ≡ false → i ≡ word_of m w q → Allows (Shown k) slots id me i (λ x. x) (polls (step slots i 0 0 none) me)
  poll_allowed w q wanted i next plain on =
      let its : wanted ≡ wanted_by (act_at m (processor_of (role_in me.0)) (position_of (role_in me.0))) = ap wanted_by (sym next) ∙ ap (λ (r : Role). wanted_by (act_at m (processor_of r) (position_of r))) (sym mine) in
      allowed k slots id me i (λ x. x) alive (polls_to m (role_in me.0)) (VainWhere me.0 (wanted_by (act_at m (processor_of (role_in me.0)) (position_of (role_in me.0)))))
      (λ words roles one at reached small.
      let found : ℕ = slice_index words (word_of m w q) in
      let done : Follows m words roles one words (set roles id (polls_to m (Cell p n misses seen) found)) =
      subst (λ a. Follows m words roles one words (set roles id (cond (nat_le (wanted_by a) found) (Cell p (behind m p n) 0 0) (Cell p n (misses + 1) found)))) (sym next) (poll_to words roles one at w q wanted next plain (nat_le wanted found) refl) in (
        subst (λ (x : ℕ × Role). Follows m words roles one (set words x.0 (slice_index words x.0)) (set roles id (polls_to m x.1 (slice_index words x.0)))) (λ i. (sym on i, sym mine i))
            (subst (λ ws. Follows m words roles one ws (set roles id (polls_to m (Cell p n misses seen) found))) (sym (set-get_or words (word_of m w q) 0)) done),
        subst (λ (x : ℕ × ℕ). VainWhere me.0 x.0 (slice_index words x.1)) (λ i. (its i, sym on i)) (poll_vain words roles one at reached w q wanted next plain),
      ))

  row_to : (words : List ℕ) (roles : List Role) (one : AreOne m words roles) → get_elem? roles id ≡ some (role_in me.0)
      → (b : Bool) → nat_le (m.workers * arrivals_at m p n) (slice_index words (arrival_word m)) ≡ b → Follows m words roles one words (set roles id (cond b (Cell p (behind_row m p n) 0 0) (Cell p n (misses + 1) (slice_index words (arrival_word m)))))
  row_to words roles one at true come =
      comes words words roles one at (behind_row m p n) 0 0 (omega arith) (row_step m laws words roles one id p n misses seen (seat_there roles at) (leb-true (m.workers * arrivals_at m p n) (slice_index words (arrival_word m)) come))
  row_to words roles one at false come =
      comes words words roles one at n (misses + 1) (slice_index words (arrival_word m)) (omega arith) (miss_step m laws words roles one id p n misses seen (seat_there roles at) (slice_index words (arrival_word m)))

  -- so were all at a barrier
  row_vain : (words : List ℕ) (roles : List Role) (one : AreOne m words roles) → get_elem? roles id ≡ some (role_in me.0) → AreReached m (slice_index (known_in me.0)) one.at → (q wanted : ℕ) → act_at m p n ≡ Some (await counter q wanted) → m.gathers wanted ≡ true
      → VainWhere me.0 (m.workers * arrivals_at m p n) (slice_index words (arrival_word m))
  row_vain words roles one at reached q wanted next joint low =
      let said = one.seated.says id (Cell p n misses seen) (seat_there roles at) in
      let sum = one.shown.gathered.sum in
      let less = leb-false (m.workers * arrivals_at m p n) (slice_index words (arrival_word m)) low in
      subst (λ (r : Role). IsInVain m.acts (slice_index (known_in me.0)) (processor_of r) (position_of r)) (sym mine)
      (row_in_vain m laws one.at (slice_index (known_in me.0)) p n q wanted said.0 said.3 reached next joint (omega (arith, sum, less)))

  pub row_allowed : (q wanted i : ℕ) → act_at m p n ≡ Some (await counter q wanted) → m.gathers wanted ≡ true → i ≡ arrival_word m → Allows (Shown k) slots id me i (λ x. x) (rows (step slots i 0 0 none) me)
  row_allowed q wanted i next joint on =
      allowed k slots id me i (λ x. x) alive (rows_to m (role_in me.0)) (VainWhere me.0 (m.workers * arrivals_at m (processor_of (role_in me.0)) (position_of (role_in me.0))))
      (λ words roles one at reached small.
      let found : ℕ = slice_index words (arrival_word m) in
      let done : Follows m words roles one words (set roles id (rows_to m (Cell p n misses seen) found)) = row_to words roles one at (nat_le (m.workers * arrivals_at m p n) found) refl in (
        subst (λ (x : ℕ × Role). Follows m words roles one (set words x.0 (slice_index words x.0)) (set roles id (rows_to m x.1 (slice_index words x.0)))) (λ i. (sym on i, sym mine i))
            (subst (λ ws. Follows m words roles one ws (set roles id (rows_to m (Cell p n misses seen) found))) (sym (set-get_or words (arrival_word m) 0)) done),
        subst (λ (x : ℕ × Role). VainWhere me.0 (m.workers * arrivals_at m (processor_of x.1) (position_of x.1)) (slice_index words x.0)) (λ i. (sym on i, sym mine i)) (row_vain words roles one at reached q wanted next joint),
      ))
