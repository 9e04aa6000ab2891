-- Steps of the words are steps of the machine's run.
use Rattle.std.proofs.Common.{◌≡◌, ℕ, suc, ◌+◌, ◌*◌, ◌<◌, ◌≤◌, ℤ, true, false, true≢false, List, length, drop, map, set, Some, refl, sym, ◌∙◌, ap, subst, inl, inr, length-set, arith}
use Rattle.std.specs.Prelude.{slice_index}
use Rattle.std.proofs.lemmas.Bool.{cases_eq}
use Rattle.std.proofs.lemmas.List.{take-set-le}
use Rattle.nest_tree.specs.Tree.{Tree}
use Rattle.sync_plan.specs.declared.plan.Plan.{Plan}
use Rattle.spmd_model.specs.Cells.{plus}
use Rattle.spmd_model.specs.Lawful.{Moves, put}
use Rattle.spmd_model.specs.Machines.{machine_by}
use Rattle.spmd_model.specs.declared.style.Style.{Style}
use Rattle.spmd_model.specs.Reached.{IsPossibleAt, memory_by}
use Rattle.spmd_model.specs.States.{State}
use Rattle.spmd_model.specs.Runs.{stepped}
use Rattle.spmd_model.specs.Timelines.{Word, counter}
use Rattle.spmd_model.specs.Acts.{Act, post, await, load, store, add, print}
use Rattle.spmd_model.specs.Laws.{Laws}
use Rattle.spmd_model.specs.Protocols.{Protocol, act_at, arrivals_at, is_arrival, is_passed}
use Rattle.spmd_model.specs.PlanProtocols.{AreOfStateBy, protocol_by}
use Rattle.spmd_model.proofs.Places.{put_moves}
use Rattle.shared_words.specs.Places.{behind, behind_row, row_first, settled_at}
use Rattle.shared_words.specs.Runs.{AreStepsOf, AreWordsOf, behind_steps}
use Rattle.shared_words.specs.Words.{AreShown, arrival_word, cells_in, word_of, word_value}
use Rattle.shared_words.proofs.Places.{put_on, over_passed, over_row, arrivals_next}
use Rattle.shared_words.proofs.WordSteps.{all_come, cell_set, gathered_await, value_in}

-- places that move alike are alike
same_moves : (at to : ℕ → ℕ) (p n : ℕ) → Moves at to p n → (q : ℕ) → put at p n q ≡ to q
same_moves at to p n moves q = elim (cases_eq q p) [
  | inl e ↦ ap (put at p n) e ∙ (put_moves at p n).here ∙ sym moves.here ∙ ap to (sym e)
  | inr ne ↦ (put_moves at p n).others q ne ∙ sym (moves.others q ne)
]

-- an act that no other processor sees is possible
passed_possible : (cells : ℕ) (acts : ℕ → List Act) (at : ℕ → ℕ) (a : Act) → is_passed cells a ≡ true → IsPossibleAt acts at a
passed_possible cells acts at (post w number) quiet = absurd (true≢false (sym quiet))
passed_possible cells acts at (await w on wanted) quiet = absurd (true≢false (sym quiet))
passed_possible cells acts at (load place cell) quiet = tt
passed_possible cells acts at (store place cell) quiet = tt
passed_possible cells acts at (add place cell) quiet = absurd (true≢false (sym quiet))
passed_possible cells acts at (print place) quiet = tt

-- the laws of single acts, as they are given
abbrev pub Steps : Style → Tree → Plan → Type 0
Steps style tree plan =
    (cells : List ℤ) (at after : ℕ → ℕ) (p : ℕ) (a : Act) (s : State) → p < plan.workers → AreOfStateBy style tree plan cells at s → act_at (protocol_by style tree plan) p (at p) ≡ Some a → IsPossibleAt (protocol_by style tree plan).acts at a → Moves at after p (at p + 1)
    → AreOfStateBy style tree plan (memory_by cells ((protocol_by style tree plan).stored_at p (at p)) a) after (stepped (machine_by style tree plan) s p)

abbrev pub Passes : Type 0
Passes = (cells : List ℤ) (v : ℤ) (a : Act) → is_passed (length cells) a ≡ true → memory_by cells v a ≡ cells

module _ (style : Style) (tree : Tree) (plan : Plan) (laws : Laws (protocol_by style tree plan)) (steps : Steps style tree plan) (passes : Passes) where
  abbrev m : Protocol
  m = protocol_by style tree plan

  -- p has come to its place k, by as many steps
  Comes : (cells : List ℤ) (at : ℕ → ℕ) (s : State) (p k : ℕ) → Type 0
  Comes cells at s p k = (j : ℕ) × (at p + j ≡ k) × AreOfStateBy style tree plan cells (put at p k) (behind_steps (machine_by style tree plan) s p j)

  one_more : (cells : List ℤ) (at : ℕ → ℕ) (s : State) (p k : ℕ) (a : Act) → p < m.workers → act_at m p k ≡ Some a → IsPossibleAt m.acts (put at p k) a → Comes cells at s p k → Comes (memory_by cells (m.stored_at p k) a) at s p (k + 1)
  unfolding Comes
  one_more cells at s p k a lt next possible come =
      let here : put at p k p ≡ k = (put_moves at p k).here in
      let count = come.1 in (
        suc come.0,
        omega (arith, count),
        subst (λ x. AreOfStateBy style tree plan (memory_by cells (m.stored_at p x) a) (put at p (k + 1)) (stepped (machine_by style tree plan) (behind_steps (machine_by style tree plan) s p come.0) p)) here
            (steps cells (put at p k) (put at p (k + 1)) p a (behind_steps (machine_by style tree plan) s p come.0) lt come.2 (ap (act_at m p) here ∙ next) possible (subst (λ x. Moves (put at p k) (put at p (k + 1)) p (x + 1)) (sym here) (put_on at p k (k + 1)))),
      )

  -- over the acts that no other processor sees
  passed_on : (cells : List ℤ) (at : ℕ → ℕ) (s : State) (p n : ℕ) → p < m.workers → length cells ≡ m.cells → Comes cells at s p n → Comes cells at s p (settled_at m p n)
  passed_on cells at s p n lt size come = over_passed m p n (Comes cells at s p)
      (λ k a is quiet before.
      subst (λ cs. Comes cs at s p (k + 1)) (passes cells (m.stored_at p k) a (ap (λ c. is_passed c a) size ∙ quiet)) (one_more cells at s p k a lt is (passed_possible m.cells m.acts (put at p k) a quiet) before)) come

  starts : (cells : List ℤ) (at : ℕ → ℕ) (s : State) (p : ℕ) → AreOfStateBy style tree plan cells at s → Comes cells at s p (at p)
  unfolding Comes
  starts cells at s p is = (0, omega arith, subst (λ (f : ℕ → ℕ). AreOfStateBy style tree plan cells f s) (λ i q. sym (same_moves at at p (at p) (record { here = refl; others = λ q ne. refl }) q) i) is)

  ends : (words after : List ℕ) (at : ℕ → ℕ) (s : State) (p n : ℕ) → Comes (cells_in m after) at s p n → (k : ℕ) × (at p + k ≡ n) × ((to : ℕ → ℕ) → Moves at to p n → AreWordsOf style tree plan after to (behind_steps (machine_by style tree plan) s p k))
  unfolding Comes
  ends words after at s p n come = (come.0, come.1, λ to moves. subst (λ (f : ℕ → ℕ). AreWordsOf style tree plan after f (behind_steps (machine_by style tree plan) s p come.0)) (λ i q. same_moves at to p n moves q i) come.2)

  size_of : (words : List ℕ) (at : ℕ → ℕ) → AreShown m words at → length (cells_in m words) ≡ m.cells
  size_of words at one = laws.size (cells_in m words) at one.cells

  -- an act behind which the cells' words are these, and those behind it that no other processor sees
  act_steps : (words after : List ℕ) (at : ℕ → ℕ) (p : ℕ) (a : Act) → p < m.workers → AreShown m words at → act_at m p (at p) ≡ Some a → IsPossibleAt m.acts at a → cells_in m after ≡ memory_by (cells_in m words) (m.stored_at p (at p)) a → length (cells_in m after) ≡ m.cells
      → AreStepsOf style tree plan words after at p (behind m p (at p))
  act_steps words after at p a lt one next possible cells size s is =
      let here : Comes (cells_in m words) at s p (at p) = starts (cells_in m words) at s p is in
      let stay : (q : ℕ) → put at p (at p) q ≡ at q = same_moves at at p (at p) (record { here = refl; others = λ q ne. refl }) in
      let acted = one_more (cells_in m words) at s p (at p) a lt next (subst (λ (f : ℕ → ℕ). IsPossibleAt m.acts f a) (λ i q. sym (stay q) i) possible) here in
      ends words after at s p (behind m p (at p)) (passed_on (cells_in m after) at s p (at p + 1) lt size (subst (λ cs. Comes cs at s p (at p + 1)) (sym cells) acted))

  pub load_steps : (words : List ℕ) (at : ℕ → ℕ) (p place cell : ℕ) → p < m.workers → AreShown m words at → act_at m p (at p) ≡ Some (load place cell) → AreStepsOf style tree plan words words at p (behind m p (at p))
  load_steps words at p place cell lt one next = act_steps words words at p (load place cell) lt one next tt refl (size_of words at one)

  pub store_steps : (words : List ℕ) (at : ℕ → ℕ) (p place cell word : ℕ) → p < m.workers → AreShown m words at → act_at m p (at p) ≡ Some (store place cell) → cell < m.cells → word_value word ≡ m.stored_at p (at p)
      → AreStepsOf style tree plan words (set words cell word) at p (behind m p (at p))
  store_steps words at p place cell word lt one next inside is =
      let cells = cell_set m laws words cell word inside ∙ ap (set (cells_in m words) cell) is in
      act_steps words (set words cell word) at p (store place cell) lt one next tt cells (ap length (cell_set m laws words cell word inside) ∙ length-set (cells_in m words) cell (word_value word) ∙ size_of words at one)

  pub add_steps : (words : List ℕ) (at : ℕ → ℕ) (p place cell word : ℕ) → p < m.workers → AreShown m words at → act_at m p (at p) ≡ Some (add place cell) → cell < m.cells → word_value word ≡ plus (word_value (slice_index words cell)) (m.stored_at p (at p))
      → AreStepsOf style tree plan words (set words cell word) at p (behind m p (at p))
  add_steps words at p place cell word lt one next inside is =
      let cells = cell_set m laws words cell word inside ∙ ap (set (cells_in m words) cell) (is ∙ ap (λ x. plus x (m.stored_at p (at p))) (sym (value_in words m.cells cell inside))) in
      act_steps words (set words cell word) at p (add place cell) lt one next tt cells (ap length (cell_set m laws words cell word inside) ∙ length-set (cells_in m words) cell (word_value word) ∙ size_of words at one)

  -- a word behind the cells
  cells_kept : (words : List ℕ) (i word : ℕ) → m.cells ≤ i → cells_in m (set words i word) ≡ cells_in m words
  cells_kept words i word past = ap (map word_value) (take-set-le m.cells words i word past)

  pub post_steps : (words : List ℕ) (at : ℕ → ℕ) (w : Word) (p number : ℕ) → p < m.workers → AreShown m words at → act_at m p (at p) ≡ Some (post w number) → is_arrival m.gathers w number ≡ false
      → AreStepsOf style tree plan words (set words (word_of m w p) number) at p (behind m p (at p))
  post_steps words at w p number lt one next plain =
      let kept = cells_kept words (word_of m w p) number (omega arith) in
      act_steps words (set words (word_of m w p) number) at p (post w number) lt one next tt kept (ap length kept ∙ size_of words at one)

  pub arrival_steps : (words : List ℕ) (at : ℕ → ℕ) (p number : ℕ) → p < m.workers → AreShown m words at → act_at m p (at p) ≡ Some (post counter number) → m.gathers number ≡ true
      → AreStepsOf style tree plan words (set words (arrival_word m) (slice_index words (arrival_word m) + 1)) at p (behind m p (at p))
  arrival_steps words at p number lt one next joint =
      let kept = cells_kept words (arrival_word m) (slice_index words (arrival_word m) + 1) (omega arith) in
      act_steps words (set words (arrival_word m) (slice_index words (arrival_word m) + 1)) at p (post counter number) lt one next tt kept (ap length kept ∙ size_of words at one)

  pub poll_steps : (words : List ℕ) (at : ℕ → ℕ) (w : Word) (p on wanted : ℕ) → p < m.workers → AreShown m words at → act_at m p (at p) ≡ Some (await w on wanted) → is_arrival m.gathers w wanted ≡ false → wanted ≤ slice_index words (word_of m w on)
      → AreStepsOf style tree plan words words at p (behind m p (at p))
  poll_steps words at w p on wanted lt one next plain come =
      let done = laws.posted w p (at p) on wanted (at on) lt next in
      act_steps words words at p (await w on wanted) lt one next (done.1 (subst (λ k. wanted ≤ k) (one.counters w on done.0) come)) refl (size_of words at one)

  pub row_steps : (words : List ℕ) (at : ℕ → ℕ) (p : ℕ) → p < m.workers → AreShown m words at → m.workers * arrivals_at m p (at p) ≤ slice_index words (arrival_word m) → AreStepsOf style tree plan words words at p (behind_row m p (at p))
  row_steps words at p lt one come s is =
      let b : ℕ = arrivals_at m p (at p) in let cs : List ℤ = cells_in m words in
      let row = over_row m p (at p) (λ k. Comes cs at s p k × (arrivals_at m p k ≡ b))
      (λ k a at_k joint held.
      let awaits = gathered_await m laws a joint in let r : ℕ = awaits.0 in let n : ℕ = awaits.1 in
      let next : act_at m p k ≡ Some (await counter r n) = at_k ∙ ap Some awaits.2 in
      let posted = laws.gathered p k r n (put at p k r) lt next awaits.3 in
      let enough : arrivals_at m p k ≤ arrivals_at m r (put at p k r) = elim (cases_eq r p) [
        | inl e ↦ let t : arrivals_at m r (put at p k r) ≡ arrivals_at m p k = ap (λ x. arrivals_at m x (put at p k x)) e ∙ ap (arrivals_at m p) ((put_moves at p k).here) in omega arith
        | inr ne ↦ let t : arrivals_at m r (put at p k r) ≡ arrivals_at m r (at r) = ap (arrivals_at m r) ((put_moves at p k).others r ne) in
            let all : b ≤ arrivals_at m r (at r) = all_come m laws words at p r lt posted.0 one.gathered come in let level : arrivals_at m p k ≡ b = held.1 in omega (arith, t, all, level)
      ] in (
        one_more cs at s p k (await counter r n) lt next (inr (posted.1 enough)) held.0,
        arrivals_next m p k (await counter r n) next ∙ held.1,
      ))
      (starts cs at s p is, refl) in
      ends words words at s p (behind_row m p (at p)) (passed_on cs at s p (at p + row_first m (drop (at p) (m.acts p))) lt (size_of words at one) row.0)
