-- Steps of the definition's machine by the deed that comes next, over a machine's parts.
use Rattle.std.proofs.Common.{◌≡◌, ℕ, ◌+◌, ◌-◌, ◌<◌, ℤ, true, false, nat_le, cond, List, [], ◌∷◌, length, map, set, get_or, Some, None, refl, sym, ◌∙◌, ap}
use Rattle.std.specs.Prelude.{slice_get, slice_index}
use Rattle.std.proofs.lemmas.List.{get_or-map, map-set, set-get_or}
use Rattle.nest_tree.specs.Tree.{Tree}
use Rattle.nest_tree.specs.WellFormed.{IsWellFormed}
use Rattle.nest_walk.specs.declared.table.WorkCells.{WorkCells}
use Rattle.sync_plan.specs.Fit.{IsFit}
use Rattle.sync_plan.specs.declared.plan.Plan.{Plan}
use Rattle.spmd_model.specs.Deeds.{Deed, posting, awaiting, loading, storing, adding, printing, can_do, deed_of, did}
use Rattle.spmd_model.specs.Machines.{machine_by}
use Rattle.spmd_model.specs.declared.style.Style.{Style}
use Rattle.spmd_model.specs.States.{State, acted, is_possible, moved, next_act, registers_of, words_of}
use Rattle.spmd_model.specs.Runs.{stepped, stepped_by}
use Rattle.spmd_model.specs.Timelines.{Word, counter, signal}
use Rattle.spmd_model.specs.Acts.{Act, post, await, load, store, add, print, acts_of}
use Rattle.spmd_model.proofs.Deeds.{acted_is, possible_is}
use Rattle.spmd_model.proofs.MachineDeeds.{acts_do}
use Rattle.spmd_model.proofs.StateAt.{same_state}
use Rattle.spmd_machine.specs.Machines.{answer_at, step_answer}
use Rattle.spmd_machine.specs.Processors.{IsKept, all_of, left_of, memory_of, position_of, state_of}
use Rattle.spmd_machine.proofs.OwnMemory.{same_memory}
use Rattle.turns.specs.TurnsLeft.{turns_processor}
use Rattle.spmd_machine.specs.declared.answer.StepAnswer.TheVariants.{Stepped, Blocked, Ended}
use Rattle.spmd_machine.specs.declared.processor.Processor.{Processor}
use Rattle.spmd_machine.proofs.Suffixes.{MappedFrom, head, head-cons, head-nil, mapped_from, mapped_none, place_more, slice_get-left}

-- ---- the act that comes next

position_is : (style : Style) (tree : Tree) (plan : Plan) (entries : List WorkCells) (p : ℕ) (x : Processor) → IsKept style tree plan entries p x → position_of style tree plan x ≡ length (all_of style tree plan p) - length (left_of x)
unfolding position_of
position_is style tree plan entries p x kept = ap (λ n. length (all_of style tree plan n) - length (left_of x)) kept.processor

module _ (style : Style) (tree : Tree) (plan : Plan) (formed : IsWellFormed tree) (fits : IsFit tree plan) (entries : List WorkCells) (ps : List Processor) (memory : List ℤ) (output : List ℕ) (p : ℕ) (worker : p < plan.workers) (x : Processor) (lt : p < length ps) (read : x ≡ get_or ps p x) (kept : IsKept style tree plan entries p x) where
  abbrev here : State
  here = state_of style tree plan ps memory output

  position_read : slice_index here.positions p ≡ length (all_of style tree plan p) - length (left_of x)
  position_read = get_or-map (position_of style tree plan) ps p x 0 lt ∙ ap (position_of style tree plan) (sym read) ∙ position_is style tree plan entries p x kept

  deeds_are : map (deed_of (machine_by style tree plan)) (acts_of (machine_by style tree plan) p) ≡ all_of style tree plan p
  unfolding all_of
  deeds_are = acts_do style tree plan p formed fits worker

  deed_there : slice_get (map (deed_of (machine_by style tree plan)) (acts_of (machine_by style tree plan) p)) (slice_index here.positions p) ≡ head (left_of x)
  deed_there = ap (slice_get (map (deed_of (machine_by style tree plan)) (acts_of (machine_by style tree plan) p))) position_read ∙ ap (λ l. slice_get l (length (all_of style tree plan p) - length (left_of x))) deeds_are ∙ slice_get-left (all_of style tree plan p) (left_of x) kept.behind

  pub next_from : (d : Deed) (rest : List Deed) → left_of x ≡ d ∷ rest → MappedFrom (deed_of (machine_by style tree plan)) (next_act (machine_by style tree plan) here p) d
  next_from d rest left = mapped_from (deed_of (machine_by style tree plan)) (acts_of (machine_by style tree plan) p) (slice_index here.positions p) d (deed_there ∙ head-cons (left_of x) rest d left)

  pub next_none : left_of x ≡ [] → next_act (machine_by style tree plan) here p ≡ None
  next_none left = mapped_none (deed_of (machine_by style tree plan)) (acts_of (machine_by style tree plan) p) (slice_index here.positions p) (deed_there ∙ head-nil (left_of x) left)

  -- ---- a deed that isn't possible, and the end

  pub ended_state : left_of x ≡ [] → here ≡ stepped (machine_by style tree plan) here p
  ended_state left = sym (ap (stepped_by (machine_by style tree plan) here p) (next_none left))

  pub ended_answer : left_of x ≡ [] → Ended ≡ step_answer (machine_by style tree plan) here p
  ended_answer left = sym (ap (answer_at here) (next_none left))

  pub blocked_state : (d : Deed) (rest : List Deed) → left_of x ≡ d ∷ rest → can_do here d ≡ false → here ≡ stepped (machine_by style tree plan) here p
  blocked_state d rest left cannot =
      let n = next_from d rest left in
      let not_possible = possible_is (machine_by style tree plan) here n.element ∙ ap (can_do here) n.is ∙ cannot in
      sym (ap (stepped_by (machine_by style tree plan) here p) n.there ∙ ap (λ b. cond b (moved (acted (machine_by style tree plan) here p n.element) p) here) not_possible)

  pub blocked_answer : (word : Word) (on wanted seen : ℕ) (rest : List Deed) → left_of x ≡ awaiting word on wanted ∷ rest → slice_index (words_of here word) on ≡ seen → nat_le wanted seen ≡ false → Blocked on wanted seen ≡ step_answer (machine_by style tree plan) here p
  blocked_answer word on wanted seen rest left shows less =
      let n = next_from (awaiting word on wanted) rest left in
      sym (ap (answer_at here) n.there ∙ by n.element n.is)
    where
      by : (a : Act) → deed_of (machine_by style tree plan) a ≡ awaiting word on wanted → answer_at here (Some a) ≡ Blocked on wanted seen
      by (post w k) h = absurd (cc)
      by (await w q k) h =
          let sort : w ≡ word = cc in let same : q ≡ on = cc in let wants : k ≡ wanted = cc in
          ap (λ v. answer_at here (Some (await v q k))) sort ∙ ap (λ i. answer_at here (Some (await word i k))) same ∙ ap (λ i. answer_at here (Some (await word on i))) wants
          ∙ ap (λ c. cond (nat_le wanted c) Stepped (Blocked on wanted c)) shows ∙ ap (λ b. cond b Stepped (Blocked on wanted seen)) less
      by (load t c) h = absurd (cc)
      by (store t c) h = absurd (cc)
      by (add t c) h = absurd (cc)
      by (print t) h = absurd (cc)

  -- ---- a deed that is done

  stepped_is : (d : Deed) (rest : List Deed) → left_of x ≡ d ∷ rest → can_do here d ≡ true → stepped (machine_by style tree plan) here p ≡ moved (did here p d) p
  stepped_is d rest left can =
      let n = next_from d rest left in
      let possible = possible_is (machine_by style tree plan) here n.element ∙ ap (can_do here) n.is ∙ can in
      ap (stepped_by (machine_by style tree plan) here p) n.there ∙ ap (λ b. cond b (moved (acted (machine_by style tree plan) here p n.element) p) here) possible
      ∙ ap (λ s. moved s p) (acted_is (machine_by style tree plan) here p n.element ∙ ap (did here p) n.is)

  pub stepped_answer : (d : Deed) (rest : List Deed) → left_of x ≡ d ∷ rest → can_do here d ≡ true → Stepped ≡ step_answer (machine_by style tree plan) here p
  stepped_answer d rest left can =
      let n = next_from d rest left in
      sym (ap (answer_at here) n.there ∙ by n.element (possible_is (machine_by style tree plan) here n.element ∙ ap (can_do here) n.is ∙ can))
    where
      by : (a : Act) → is_possible here a ≡ true → answer_at here (Some a) ≡ Stepped
      by (post w k) h = refl
      by (await w q k) h = ap (λ b. cond b Stepped (Blocked q k (slice_index (words_of here w) q))) h
      by (load t c) h = refl
      by (store t c) h = refl
      by (add t c) h = refl
      by (print t) h = refl

  did_positions : (d : Deed) → (did here p d).positions ≡ here.positions
  did_positions (posting counter k) = refl
  did_positions (posting signal k) = refl
  did_positions (awaiting w q k) = refl
  did_positions (loading c) = refl
  did_positions (storing c v) = refl
  did_positions (adding c v) = refl
  did_positions (printing l) = refl

  -- a processor behind a deed, with memory and output behind it
  pub record Does (d : Deed) (y : Processor) (after : List ℤ) (said : List ℕ) : Type 0 where
    pub left : left_of x ≡ d ∷ left_of y
    pub processor : turns_processor y.turns ≡ p
    pub can : can_do here d ≡ true
    pub registers : set here.registers p y.registers.items ≡ (did here p d).registers
    pub counters : set here.counters p y.counter ≡ (did here p d).counters
    pub signals : set here.signals p y.signal ≡ (did here p d).signals
    pub memory_is : memory_of (set ps p y) after ≡ (did here p d).memory
    pub output_is : said ≡ (did here p d).output

  pub done_state : (d : Deed) (y : Processor) (after : List ℤ) (said : List ℕ) → Does d y after said → state_of style tree plan (set ps p y) after said ≡ stepped (machine_by style tree plan) here p
  unfolding position_of
  done_state d y after said does =
      let more = place_more (all_of style tree plan p) (left_of x) (left_of y) d kept.behind does.left in
      let mine : position_of style tree plan y ≡ slice_index (did here p d).positions p + 1 =
      ap (λ n. length (all_of style tree plan n) - length (left_of y)) does.processor ∙ more ∙ ap (λ n. n + 1) (sym position_read) ∙ ap (λ l. slice_index l p + 1) (sym (did_positions d)) in
      same_state
      (map-set (position_of style tree plan) ps p y ∙ ap (set (map (position_of style tree plan) ps) p) mine ∙ ap (λ l. set l p (slice_index (did here p d).positions p + 1)) (sym (did_positions d)))
      (map-set (λ (z : Processor). z.registers.items) ps p y ∙ does.registers) (map-set (λ (z : Processor). z.counter) ps p y ∙ does.counters) (map-set (λ (z : Processor). z.signal) ps p y ∙ does.signals) does.memory_is does.output_is
      ∙ sym (stepped_is d (left_of y) does.left does.can)

  -- what stays where the processor's does
  pub same_registers : (y : Processor) → y.registers.items ≡ x.registers.items → set here.registers p y.registers.items ≡ here.registers
  same_registers y e =
      ap (set here.registers p) (e ∙ ap (λ (z : Processor). z.registers.items) read ∙ sym (get_or-map (λ (z : Processor). z.registers.items) ps p x [] lt)) ∙ set-get_or here.registers p []

  pub same_counters : (y : Processor) → y.counter ≡ x.counter → set here.counters p y.counter ≡ here.counters
  same_counters y e =
      ap (set here.counters p) (e ∙ ap (λ (z : Processor). z.counter) read ∙ sym (get_or-map (λ (z : Processor). z.counter) ps p x 0 lt)) ∙ set-get_or here.counters p 0

  pub same_signals : (y : Processor) → y.signal ≡ x.signal → set here.signals p y.signal ≡ here.signals
  same_signals y e =
      ap (set here.signals p) (e ∙ ap (λ (z : Processor). z.signal) read ∙ sym (get_or-map (λ (z : Processor). z.signal) ps p x 0 lt)) ∙ set-get_or here.signals p 0

  pub registers_read : registers_of here p ≡ x.registers.items
  registers_read = get_or-map (λ (z : Processor). z.registers.items) ps p x [] lt ∙ ap (λ (z : Processor). z.registers.items) (sym read)

  -- a processor that shows the same
  pub record ShowsSame (y : Processor) : Type 0 where
    pub left : left_of y ≡ left_of x
    pub processor : turns_processor y.turns ≡ p
    pub registers : y.registers.items ≡ x.registers.items
    pub counter : y.counter ≡ x.counter
    pub signal : y.signal ≡ x.signal
    pub own_cells : y.own ≡ x.own

  pub still_state : (y : Processor) → ShowsSame y → state_of style tree plan (set ps p y) memory output ≡ here
  unfolding position_of
  still_state y same =
      let mine : position_of style tree plan y ≡ slice_index here.positions p =
      ap (λ n. length (all_of style tree plan n) - length (left_of y)) same.processor ∙ ap (λ l. length (all_of style tree plan p) - length l) same.left ∙ sym position_read in
      same_state
      (map-set (position_of style tree plan) ps p y ∙ ap (set here.positions p) mine ∙ set-get_or here.positions p 0)
      (map-set (λ (z : Processor). z.registers.items) ps p y ∙ same_registers y same.registers) (map-set (λ (z : Processor). z.counter) ps p y ∙ same_counters y same.counter)
      (map-set (λ (z : Processor). z.signal) ps p y ∙ same_signals y same.signal) (same_memory ps memory p x lt read y same.own_cells) refl
