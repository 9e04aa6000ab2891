-- What each act does to the words.
use Rattle.std.proofs.Common.{◌≡◌, ◌≢◌, ℕ, zero, suc, ◌+◌, ◌-◌, ◌*◌, ◌<◌, ◌≤◌, Bool, true, false, true≢false, cond, List, [], ◌∷◌, length, take, drop, map, set, Some, refl, sym, ◌∙◌, ap, subst, inl, inr, length-set, get_or-set_same, get_or-set_other, lit<, arith}
use Rattle.std.specs.Prelude.{ℤ, slice_index}
use Rattle.std.proofs.Math.Seq.{take-set-lt}
use Rattle.std.proofs.lemmas.Bool.{cases_eq, cases_lt}
use Rattle.std.proofs.lemmas.List.{get_or-take, take-set-le}
use Rattle.spmd_model.specs.Timelines.{Word, counter, signal}
use Rattle.spmd_model.specs.Acts.{Act, post, await, load, store, add, print}
use Rattle.nest_model.specs.Memory.{cell_value}
use Rattle.spmd_model.specs.Cells.{plus}
use Rattle.spmd_model.specs.Lawful.{IsPosted, Moves, put}
use Rattle.spmd_model.specs.Protocols.{Protocol, act_at, arrived, arrivals_at, is_arrival, is_gathered, is_passed, shown, shown_at}
use Rattle.spmd_model.specs.Laws.{Laws}
use Rattle.spmd_model.proofs.Places.{put_moves}
use Rattle.shared_words.specs.Places.{behind, row_first, behind_row, passed_at, settled_at, total}
use Rattle.shared_words.specs.Words.{place_in_line, word_of, arrival_word, word_value, cells_in, AreShown, AreGathered, AreAwaited}
use Rattle.shared_words.proofs.Totals.{total_same, total_put, total_all}
use Rattle.shared_words.proofs.Places.{put_on, over_passed, over_row, shown_behind, shown_row, arrivals_next, arrivals_behind, arrivals_row}

pub passed_between : (m : Protocol) (p k : ℕ) → (passed_at m p k ≤ arrivals_at m p k) × (arrivals_at m p k ≤ passed_at m p k + 1)
passed_between m p k = go (is_gathered m (act_at m p k))
  where
    go : (b : Bool) → (arrivals_at m p k - cond b 1 0 ≤ arrivals_at m p k) × (arrivals_at m p k ≤ arrivals_at m p k - cond b 1 0 + 1)
    go true = (omega arith, omega arith)
    go false = (omega arith, omega arith)

-- a cell's value is that of its word
pub value_in : (words : List ℕ) (n c : ℕ) → c < n → cell_value (map word_value (take n words)) c ≡ word_value (slice_index words c)
value_in words n c lt = value_map (take n words) c ∙ ap word_value (get_or-take n words c 0 lt)
  where
    value_map : (ws : List ℕ) (i : ℕ) → cell_value (map word_value ws) i ≡ word_value (slice_index ws i)
    value_map [] i = refl
    value_map (w ∷ ws) zero = refl
    value_map (w ∷ ws) (suc i) = value_map ws i

pub map-set : {A B : Type 0} (f : A → B) (l : List A) (i : ℕ) (a : A) → map f (set l i a) ≡ set (map f l) i (f a)
map-set f [] i a = refl
map-set f (x ∷ xs) zero a = refl
map-set f (x ∷ xs) (suc i) a = ap (λ l. f x ∷ l) (map-set f xs i a)

-- a processor's words stand in its line
pub in_line : (w : Word) → place_in_line w < 8
in_line counter = lit< tt
in_line signal = lit< tt

-- what stands between a place and the one behind the acts there that no other processor sees is one of those
passed_acts : (m : Protocol) (p n i : ℕ) → n ≤ i → i < settled_at m p n → (a : Act) × (act_at m p i ≡ Some a) × (is_passed m.cells a ≡ true)
passed_acts m p n i le lt =
    over_passed m p n (λ k. i < k → (a : Act) × (act_at m p i ≡ Some a) × (is_passed m.cells a ≡ true))
    (λ k a at quiet before below. elim (cases_eq i k) [
      | inl e ↦ (a, ap (act_at m p) e ∙ at, quiet)
      | inr ne ↦ before (omega (arith, below, ne))
    ])
    (λ below. absurd (omega (arith, le, below))) lt

-- no await stands there
pub none_between : (m : Protocol) (p n i : ℕ) (w : Word) (on wanted : ℕ) → n ≤ i → i < settled_at m p n → act_at m p i ≡ Some (await w on wanted) → ⊥
none_between m p n i w on wanted le lt is =
    let passed = passed_acts m p n i le lt in
    let same : Some passed.0 ≡ Some (await w on wanted) = sym passed.1 ∙ is in
    go passed.0 same passed.2
  where
    go : (a : Act) → Some a ≡ Some (await w on wanted) → is_passed m.cells a ≡ true → ⊥
    go (post v number) same quiet = true≢false (sym quiet)
    go (await v q k) same quiet = true≢false (sym quiet)
    go (load place c) same quiet = cc
    go (store place c) same quiet = cc
    go (add place c) same quiet = true≢false (sym quiet)
    go (print place) same quiet = cc

-- an arrival is shown on no processor's word
joint_shown : (gathers : ℕ → Bool) (v : Word) (k n : ℕ) → gathers n ≡ true → shown gathers v k (post counter n) ≡ k
joint_shown gathers counter k n joint = ap (λ b. cond b k n) joint
joint_shown gathers signal k n joint = refl

module _ (m : Protocol) (laws : Laws m) where
  passed_most : (p k : ℕ) → passed_at m p k ≤ arrivals_at m p k
  passed_most p k = (passed_between m p k).0

  -- the processor goes on over the acts that stand next and that no other processor sees
  lawful_settled : (cs : List ℤ) (at : ℕ → ℕ) (p n : ℕ) → p < m.workers → m.lawful cs (put at p n) → m.lawful cs (put at p (settled_at m p n))
  lawful_settled cs at p n lt law =
      laws.by_passed cs (put at p n) (put at p (settled_at m p n)) p lt law (subst (λ k. Moves (put at p n) (put at p (settled_at m p n)) p (settled_at m p k)) (sym (put_moves at p n).here) (put_on at p n (settled_at m p n)))

  -- a post that is done stays so
  posted_on : (q n k l : ℕ) → k ≤ l → IsPosted (m.acts q) counter n k → IsPosted (m.acts q) counter n l
  posted_on q n k l le done = (done.0, omega (arith, done.1, le), done.2)

  grows : (at : ℕ → ℕ) (p k q : ℕ) → at p ≤ k → at q ≤ put at p k q
  grows at p k q le = elim (cases_eq q p) [
    | inl e ↦ let a : at q ≡ at p = ap at e in let b : put at p k q ≡ k = ap (put at p k) e ∙ (put_moves at p k).here in omega (arith, le)
    | inr ne ↦ let b : put at p k q ≡ at q = (put_moves at p k).others q ne in omega arith
  ]

  -- who is awaited behind the new place of p has posted, where those awaited since the old one have
  awaited_on : (at : ℕ → ℕ) (p k : ℕ) → p < m.workers → at p ≤ k → AreAwaited m at
      → ((i q n : ℕ) → at p ≤ i → i < k → act_at m p i ≡ Some (await counter q n) → m.gathers n ≡ true → IsPosted (m.acts q) counter n (put at p k q)) → AreAwaited m (put at p k)
  awaited_on at p k lt le old since r i q n lr below is g = elim (cases_eq r p) [
    | inl e ↦
        let here : put at p k r ≡ k = ap (put at p k) e ∙ (put_moves at p k).here in
        let is' : act_at m p i ≡ Some (await counter q n) = subst (λ (x : ℕ). act_at m x i ≡ Some (await counter q n)) e is in elim (cases_lt i (at p)) [
          | inl less ↦ posted_on q n (at q) (put at p k q) (grows at p k q le) (old p i q n lt less is' g)
          | inr more ↦ since i q n (omega (arith, more)) (omega (arith, here, below)) is' g
        ]
    | inr ne ↦ let here : put at p k r ≡ at r = (put_moves at p k).others r ne in posted_on q n (at q) (put at p k q) (grows at p k q le) (old r i q n lr (omega (arith, here, below)) is g)
  ]

  -- an act that is no await at a barrier, and those behind it that no other processor sees
  awaited_behind : (at : ℕ → ℕ) (p : ℕ) (a : Act) → p < m.workers → act_at m p (at p) ≡ Some a → is_gathered m (Some a) ≡ false → AreAwaited m at → AreAwaited m (put at p (behind m p (at p)))
  awaited_behind at p a lt next free old = awaited_on at p (behind m p (at p)) lt (omega arith) old
      (λ i q n ge below is g. elim (cases_eq i (at p)) [
        | inl e ↦ let same : is_gathered m (Some a) ≡ m.gathers n = ap (is_gathered m) (sym next ∙ ap (act_at m p) (sym e) ∙ is) in let clash : true ≡ false = sym g ∙ sym same ∙ free in absurd (cc)
        | inr ne ↦ absurd (none_between m p (at p + 1) i counter q n (omega (arith, ge, ne)) below is)
      ])

  -- the counters behind an act of p that sets none of them, or one of its own
  counters_behind : (words after : List ℕ) (at : ℕ → ℕ) (p : ℕ) (a : Act) → AreShown m words at → act_at m p (at p) ≡ Some a
      → ((w : Word) → slice_index after (word_of m w p) ≡ shown m.gathers w (slice_index words (word_of m w p)) a)
      → ((w : Word) (q : ℕ) → q < m.workers → q ≢ p → slice_index after (word_of m w q) ≡ slice_index words (word_of m w q))
      → (w : Word) (q : ℕ) → q < m.workers → slice_index after (word_of m w q) ≡ shown_at m w q (put at p (behind m p (at p)) q)
  counters_behind words after at p a one next mine theirs w q lt = elim (cases_eq q p) [
    | inl e ↦ subst (λ (k : ℕ). k < m.workers → slice_index after (word_of m w k) ≡ shown_at m w k (put at p (behind m p (at p)) k)) (sym e)
        (λ below. mine w ∙ ap (λ k. shown m.gathers w k a) (one.counters w p below) ∙ sym (shown_behind m w p (at p) a next) ∙ sym (ap (shown_at m w p) ((put_moves at p (behind m p (at p))).here))) lt
    | inr ne ↦ theirs w q lt ne ∙ one.counters w q lt ∙ sym (ap (shown_at m w q) ((put_moves at p (behind m p (at p))).others q ne))
  ]

  abbrev next_places : (ℕ → ℕ) → ℕ → ℕ → ℕ
  next_places at p = put at p (behind m p (at p))

  -- p goes on without an arrival, from a place where it doesn't await at a barrier
  gathered_on : (words after : List ℕ) (at : ℕ → ℕ) (p k : ℕ) → p < m.workers → AreGathered m words at → arrivals_at m p k ≡ arrivals_at m p (at p) → is_gathered m (act_at m p (at p)) ≡ false
      → slice_index after (arrival_word m) ≡ slice_index words (arrival_word m) → AreGathered m after (put at p k)
  gathered_on words after at p k lt old same free word = record {
    sum = word ∙ old.sum ∙ sym (total_same (λ q. arrivals_at m q (at q)) (λ q. arrivals_at m q (put at p k q)) m.workers (λ q _. as_before q));
    passed = λ r q lr lq. let other : arrivals_at m q (put at p k q) ≡ arrivals_at m q (at q) = as_before q in elim (cases_eq r p) [
      | inl e ↦
          let mine : passed_at m p (at p) ≤ arrivals_at m q (at q) = old.passed p q lt lq in
          let whole : passed_at m p (at p) ≡ arrivals_at m p (at p) - 0 = ap (λ b. arrivals_at m p (at p) - cond b 1 0) free in
          let now : passed_at m r (put at p k r) ≡ passed_at m p k = ap (λ x. passed_at m x (put at p k x)) e ∙ ap (passed_at m p) ((put_moves at p k).here) in
          let less : passed_at m p k ≤ arrivals_at m p k = passed_most p k in
          omega (arith, same)
      | inr ne ↦ let theirs : passed_at m r (at r) ≤ arrivals_at m q (at q) = old.passed r q lr lq in let now : passed_at m r (put at p k r) ≡ passed_at m r (at r) = ap (passed_at m r) ((put_moves at p k).others r ne) in omega arith
    ];
  }
    where
      as_before : (q : ℕ) → arrivals_at m q (put at p k q) ≡ arrivals_at m q (at q)
      as_before q = elim (cases_eq q p) [
        | inl e ↦ ap (λ x. arrivals_at m x (put at p k x)) e ∙ ap (arrivals_at m p) ((put_moves at p k).here) ∙ same ∙ sym (ap (λ x. arrivals_at m x (at x)) e)
        | inr ne ↦ ap (arrivals_at m q) ((put_moves at p k).others q ne)
      ]

  -- an act that is no post and no await at a barrier, and changes no word behind the cells
  plain_act : (words after : List ℕ) (at : ℕ → ℕ) (p : ℕ) (a : Act) → p < m.workers → AreShown m words at → act_at m p (at p) ≡ Some a
      → ((w : Word) (k : ℕ) → shown m.gathers w k a ≡ k) → ((k : ℕ) → arrived m.gathers k a ≡ k) → is_gathered m (Some a) ≡ false
      → length after ≡ length words → ((i : ℕ) → m.cells ≤ i → slice_index after i ≡ slice_index words i) → m.lawful (cells_in m after) (put at p (at p + 1)) → AreShown m after (next_places at p)
  plain_act words after at p a lt one next uncounted unarrived free wide same law = record {
    wide = wide ∙ one.wide;
    cells = lawful_settled (cells_in m after) at p (at p + 1) lt law;
    counters = counters_behind words after at p a one next (λ w. same (word_of m w p) (omega arith) ∙ sym (uncounted w (slice_index words (word_of m w p)))) (λ w q _ _. same (word_of m w q) (omega arith));
    gathered = gathered_on words after at p (behind m p (at p)) lt one.gathered (arrivals_behind m p (at p) a next ∙ unarrived (arrivals_at m p (at p))) (ap (is_gathered m) next ∙ free) (same (arrival_word m) (omega arith));
    awaited = awaited_behind at p a lt next free one.awaited;
  }

  -- another value in a cell
  pub cell_set : (words : List ℕ) (c word : ℕ) → c < m.cells → cells_in m (set words c word) ≡ set (cells_in m words) c (word_value word)
  cell_set words c word inside = ap (map word_value) (take-set-lt m.cells words c word inside) ∙ map-set word_value (take m.cells words) c word

  pub load_gives : (words : List ℕ) (at : ℕ → ℕ) (p place c : ℕ) → p < m.workers → c < m.cells → AreShown m words at → act_at m p (at p) ≡ Some (load place c) → word_value (slice_index words c) ≡ m.loaded_at p (at p)
  load_gives words at p place c lt inside one next = sym (value_in words m.cells c inside) ∙ laws.gives (cells_in m words) at p place c lt one.cells next inside

  pub by_load : (words : List ℕ) (at : ℕ → ℕ) (p place c : ℕ) → p < m.workers → AreShown m words at → act_at m p (at p) ≡ Some (load place c) → AreShown m words (next_places at p)
  by_load words at p place c lt one next = plain_act words words at p (load place c) lt one next (λ w k. refl) (λ k. refl) refl refl (λ i _. refl)
      (laws.by_load (cells_in m words) at (put at p (at p + 1)) p place c lt one.cells next (put_moves at p (at p + 1)))

  pub by_store : (words : List ℕ) (at : ℕ → ℕ) (p place c word : ℕ) → p < m.workers → c < m.cells → AreShown m words at → act_at m p (at p) ≡ Some (store place c) → word_value word ≡ m.stored_at p (at p)
      → AreShown m (set words c word) (next_places at p)
  by_store words at p place c word lt inside one next is =
      plain_act words (set words c word) at p (store place c) lt one next (λ w k. refl) (λ k. refl) refl (length-set words c word) (λ i past. get_or-set_other words c i word 0 (λ e. omega arith))
      (subst (λ cs. m.lawful cs (put at p (at p + 1))) (sym (cell_set words c word inside ∙ ap (set (cells_in m words) c) is))
      (laws.by_store (cells_in m words) at (put at p (at p + 1)) p place c lt one.cells next inside (put_moves at p (at p + 1))))

  pub by_add : (words : List ℕ) (at : ℕ → ℕ) (p place c word : ℕ) → p < m.workers → c < m.cells → AreShown m words at → act_at m p (at p) ≡ Some (add place c) → word_value word ≡ plus (word_value (slice_index words c)) (m.stored_at p (at p))
      → AreShown m (set words c word) (next_places at p)
  by_add words at p place c word lt inside one next is =
      plain_act words (set words c word) at p (add place c) lt one next (λ w k. refl) (λ k. refl) refl (length-set words c word) (λ i past. get_or-set_other words c i word 0 (λ e. omega arith))
      (subst (λ cs. m.lawful cs (put at p (at p + 1))) (sym (cell_set words c word inside ∙ ap (set (cells_in m words) c) (is ∙ ap (λ x. plus x (m.stored_at p (at p))) (sym (value_in words m.cells c inside)))))
      (laws.by_add (cells_in m words) at (put at p (at p + 1)) p place c lt one.cells next inside (put_moves at p (at p + 1))))

  pub by_poll : (words : List ℕ) (at : ℕ → ℕ) (w : Word) (p q n : ℕ) → p < m.workers → AreShown m words at → act_at m p (at p) ≡ Some (await w q n) → is_arrival m.gathers w n ≡ false → n ≤ slice_index words (word_of m w q)
      → AreShown m words (next_places at p)
  by_poll words at w p q n lt one next plain come =
      let done = laws.posted w p (at p) q n (at q) lt next in
      plain_act words words at p (await w q n) lt one next (λ w k. refl) (λ k. refl) plain refl (λ i _. refl)
      (laws.by_await (cells_in m words) at (put at p (at p + 1)) w p q n lt one.cells next (done.1 (subst (λ k. n ≤ k) (one.counters w q done.0) come)) (put_moves at p (at p + 1)))

  -- a post sets one word of p's line
  set_in_line : (words : List ℕ) (v w : Word) (p n : ℕ) → word_of m w p < length words → is_arrival m.gathers w n ≡ false
      → slice_index (set words (word_of m w p) n) (word_of m v p) ≡ shown m.gathers v (slice_index words (word_of m v p)) (post w n)
  set_in_line words counter counter p n inside plain = get_or-set_same words (word_of m counter p) n 0 inside ∙ sym (ap (λ b. cond b (slice_index words (word_of m counter p)) n) plain)
  set_in_line words counter signal p n inside plain = get_or-set_other words (word_of m signal p) (word_of m counter p) n 0 (λ e. omega arith)
  set_in_line words signal counter p n inside plain = get_or-set_other words (word_of m counter p) (word_of m signal p) n 0 (λ e. omega arith)
  set_in_line words signal signal p n inside plain = get_or-set_same words (word_of m signal p) n 0 inside

  pub by_post : (words : List ℕ) (at : ℕ → ℕ) (w : Word) (p n : ℕ) → p < m.workers → AreShown m words at → act_at m p (at p) ≡ Some (post w n) → is_arrival m.gathers w n ≡ false → AreShown m (set words (word_of m w p) n) (next_places at p)
  by_post words at w p n lt one next plain =
      let i : ℕ = word_of m w p in let wide = one.wide in let near = in_line w in let inside : i < length words = omega (arith, wide, near) in record {
        wide = length-set words i n ∙ one.wide;
        cells = subst (λ cs. m.lawful cs (next_places at p)) (sym (ap (map word_value) (take-set-le m.cells words i n (omega arith))))
            (lawful_settled (cells_in m words) at p (at p + 1) lt (laws.by_post (cells_in m words) at (put at p (at p + 1)) w p n lt one.cells next (put_moves at p (at p + 1))));
        counters = counters_behind words (set words i n) at p (post w n) one next (λ v. set_in_line words v w p n inside plain)
            (λ v q _ ne. get_or-set_other words i (word_of m v q) n 0 (λ e. let close = in_line v in ne (omega (arith, near, close, e))));
        gathered = gathered_on words (set words i n) at p (behind m p (at p)) lt one.gathered (arrivals_behind m p (at p) (post w n) next ∙ ap (λ b. cond b (arrivals_at m p (at p) + 1) (arrivals_at m p (at p))) plain) (ap (is_gathered m) next)
            (get_or-set_other words i (arrival_word m) n 0 (λ e. omega (arith, near, e)));
        awaited = awaited_behind at p (post w n) lt next refl one.awaited;
      }

  pub by_arrive : (words : List ℕ) (at : ℕ → ℕ) (p n : ℕ) → p < m.workers → AreShown m words at → act_at m p (at p) ≡ Some (post counter n) → m.gathers n ≡ true
      → AreShown m (set words (arrival_word m) (slice_index words (arrival_word m) + 1)) (next_places at p)
  by_arrive words at p n lt one next joint =
      let i : ℕ = arrival_word m in let old : ℕ = slice_index words i in let wide = one.wide in let inside : i < length words = omega arith in
      let k : ℕ = behind m p (at p) in let f : ℕ → ℕ = λ q. arrivals_at m q (at q) in let g : ℕ → ℕ = λ q. arrivals_at m q (put at p k q) in
      let more : arrivals_at m p k ≡ arrivals_at m p (at p) + 1 = arrivals_behind m p (at p) (post counter n) next ∙ ap (λ b. cond b (arrivals_at m p (at p) + 1) (arrivals_at m p (at p))) joint in
      let here : g p ≡ f p + 1 = ap (arrivals_at m p) ((put_moves at p k).here) ∙ more in
      let others : (q : ℕ) → q ≢ p → g q ≡ f q = λ q ne. ap (arrivals_at m q) ((put_moves at p k).others q ne) in
      let grows : (q : ℕ) → f q ≤ g q = λ q. elim (cases_eq q p) [
        | inl e ↦ let ge : g q ≡ g p = ap g e in let fe : f q ≡ f p = ap f e in omega arith
        | inr ne ↦ omega (arith, others q ne)
      ] in
      let away : (v : Word) (q : ℕ) → q < m.workers → slice_index (set words i (old + 1)) (word_of m v q) ≡ slice_index words (word_of m v q) = λ v q lq. get_or-set_other words i (word_of m v q) (old + 1) 0 (λ e. let near = in_line v in omega (arith, near, lq, e)) in record {
        wide = length-set words i (old + 1) ∙ one.wide;
        cells = subst (λ cs. m.lawful cs (next_places at p)) (sym (ap (map word_value) (take-set-le m.cells words i (old + 1) (omega arith))))
            (lawful_settled (cells_in m words) at p (at p + 1) lt (laws.by_post (cells_in m words) at (put at p (at p + 1)) counter p n lt one.cells next (put_moves at p (at p + 1))));
        counters = counters_behind words (set words i (old + 1)) at p (post counter n) one next (λ v. away v p lt ∙ sym (joint_shown m.gathers v (slice_index words (word_of m v p)) n joint)) (λ v q lq _. away v q lq);
        gathered = record {
          sum = get_or-set_same words i (old + 1) 0 inside ∙ (let t : total g m.workers + f p ≡ total f m.workers + g p = total_put f g m.workers p lt others in let s : old ≡ total f m.workers = one.gathered.sum in omega arith);
          passed = λ r q lr lq. let up = grows q in elim (cases_eq r p) [
            | inl e ↦
                let mine : passed_at m p (at p) ≤ f q = one.gathered.passed p q lt lq in
                let whole : passed_at m p (at p) ≡ f p - 0 = ap (λ a. f p - cond (is_gathered m a) 1 0) next in
                let now : passed_at m r (put at p k r) ≡ passed_at m p k = ap (λ x. passed_at m x (put at p k x)) e ∙ ap (passed_at m p) ((put_moves at p k).here) in
                let held : passed_at m p k ≡ arrivals_at m p k - 1 = ap (λ b. arrivals_at m p k - cond b 1 0) (laws.arrival p (at p) n lt next joint) in
                omega (arith, more)
            | inr ne ↦ let theirs : passed_at m r (at r) ≤ f q = one.gathered.passed r q lr lq in let now : passed_at m r (put at p k r) ≡ passed_at m r (at r) = ap (passed_at m r) ((put_moves at p k).others r ne) in omega arith
          ];
        };
        awaited = awaited_behind at p (post counter n) lt next refl one.awaited;
      }

  -- where the word is the workers times one's own arrivals, all have come
  pub all_come : (words : List ℕ) (at : ℕ → ℕ) (p q : ℕ) → p < m.workers → q < m.workers → AreGathered m words at → m.workers * arrivals_at m p (at p) ≤ slice_index words (arrival_word m) → arrivals_at m p (at p) ≤ arrivals_at m q (at q)
  all_come words at p q lp lq old come = let b : ℕ = arrivals_at m p (at p) in let f : ℕ → ℕ = λ r. arrivals_at m r (at r) in elim (cases_lt (f q) b) [
    | inl less ↦
        let few : total f m.workers < m.workers * b = total_all f m.workers b q
        (λ r lr. let s : passed_at m r (at r) ≤ f q = old.passed r q lr lq in let t : f r ≤ passed_at m r (at r) + 1 = (passed_between m r (at r)).1 in omega (arith, less)) lq less in
        let sum : slice_index words (arrival_word m) ≡ total f m.workers = old.sum in absurd (omega (arith, come))
    | inr more ↦ omega (arith, more)
  ]

  -- an act that is gathered awaits
  pub gathered_await : (a : Act) → is_gathered m (Some a) ≡ true → (on : ℕ) × (wanted : ℕ) × (a ≡ await counter on wanted) × (m.gathers wanted ≡ true)
  gathered_await (post w number) joint = absurd (true≢false (sym joint))
  gathered_await (await counter on wanted) joint = (on, wanted, refl, joint)
  gathered_await (await signal on wanted) joint = absurd (true≢false (sym joint))
  gathered_await (load place c) joint = absurd (true≢false (sym joint))
  gathered_await (store place c) joint = absurd (true≢false (sym joint))
  gathered_await (add place c) joint = absurd (true≢false (sym joint))
  gathered_await (print place) joint = absurd (true≢false (sym joint))

  pub by_row : (words : List ℕ) (at : ℕ → ℕ) (p : ℕ) → p < m.workers → AreShown m words at → m.workers * arrivals_at m p (at p) ≤ slice_index words (arrival_word m) → AreShown m words (put at p (behind_row m p (at p)))
  by_row words at p lt one come =
      let b : ℕ = arrivals_at m p (at p) in let k : ℕ = behind_row m p (at p) in let cs : List ℤ = cells_in m words in let f : ℕ → ℕ = λ r. arrivals_at m r (at r) in
      let same : arrivals_at m p k ≡ b = arrivals_row m p (at p) in
      let all : (r : ℕ) → r < m.workers → b ≤ f r = λ r lr. all_come words at p r lt lr one.gathered come in
      let as_before : (r : ℕ) → arrivals_at m r (put at p k r) ≡ f r = λ r. elim (cases_eq r p) [
        | inl e ↦ ap (λ x. arrivals_at m x (put at p k x)) e ∙ ap (arrivals_at m p) ((put_moves at p k).here) ∙ same ∙ sym (ap f e)
        | inr ne ↦ ap (arrivals_at m r) ((put_moves at p k).others r ne)
      ] in record {
        wide = one.wide;
        cells = lawful_settled cs at p (at p + row_first m (drop (at p) (m.acts p))) lt
            (over_row m p (at p) (λ j. m.lawful cs (put at p j) × (arrivals_at m p j ≡ b)) (λ j a is joint held. row_lawful j a is joint b all held)
            (subst (λ (h : ℕ → ℕ). m.lawful cs h) (λ i r. stays r i) one.cells, refl)).0;
        counters = λ w r lr. elim (cases_eq r p) [
          | inl e ↦ one.counters w r lr ∙ ap (λ x. shown_at m w x (at x)) e ∙ sym (shown_row m w p (at p)) ∙ sym (ap (λ x. shown_at m w x (put at p k x)) e ∙ ap (shown_at m w p) ((put_moves at p k).here))
          | inr ne ↦ one.counters w r lr ∙ sym (ap (shown_at m w r) ((put_moves at p k).others r ne))
        ];
        gathered = record {
          sum = one.gathered.sum ∙ sym (total_same f (λ r. arrivals_at m r (put at p k r)) m.workers (λ r _. as_before r));
          passed = λ r s lr ls. let now : arrivals_at m s (put at p k s) ≡ f s = as_before s in elim (cases_eq r p) [
            | inl e ↦ let t : passed_at m r (put at p k r) ≡ passed_at m p k = ap (λ x. passed_at m x (put at p k x)) e ∙ ap (passed_at m p) ((put_moves at p k).here) in let u : passed_at m p k ≤ arrivals_at m p k = passed_most p k in
                let v : b ≤ f s = all s ls in omega (arith, same)
            | inr ne ↦ let t : passed_at m r (put at p k r) ≡ passed_at m r (at r) = ap (passed_at m r) ((put_moves at p k).others r ne) in let u : passed_at m r (at r) ≤ f s = one.gathered.passed r s lr ls in omega arith
          ];
        };
        awaited = awaited_on at p k lt (omega arith) one.awaited (λ i r n ge below is g. elim (cases_lt i (at p + row_first m (drop (at p) (m.acts p)))) [
          | inl inside ↦
              let level : arrivals_at m p i ≡ b = row_level (at p) i ge (omega (arith, inside)) in
              let posted = laws.gathered p i r n (put at p k r) lt is g in
              let v : b ≤ f r = all r posted.0 in let u : arrivals_at m r (put at p k r) ≡ f r = as_before r in posted.1 (omega (arith, level))
          | inr past ↦ absurd (none_between m p (at p + row_first m (drop (at p) (m.acts p))) i counter r n (omega (arith, past)) below is)
        ]);
      }
    where
      row_lawful : (j : ℕ) (a : Act) → act_at m p j ≡ Some a → is_gathered m (Some a) ≡ true → (b : ℕ) → ((r : ℕ) → r < m.workers → b ≤ arrivals_at m r (at r)) → m.lawful (cells_in m words) (put at p j) × (arrivals_at m p j ≡ b)
          → m.lawful (cells_in m words) (put at p (j + 1)) × (arrivals_at m p (j + 1) ≡ b)
      row_lawful j a is joint b all held =
          let awaits = gathered_await a joint in let r : ℕ = awaits.0 in let n : ℕ = awaits.1 in
          let is' : act_at m p j ≡ Some (await counter r n) = is ∙ ap Some awaits.2 in
          let here : put at p j p ≡ j = (put_moves at p j).here in
          let posted = laws.gathered p j r n (put at p j r) lt is' awaits.3 in
          let enough : arrivals_at m p j ≤ arrivals_at m r (put at p j r) = elim (cases_eq r p) [
            | inl e ↦ let t : arrivals_at m r (put at p j r) ≡ arrivals_at m p j = ap (λ x. arrivals_at m x (put at p j x)) e ∙ ap (arrivals_at m p) here in omega arith
            | inr ne ↦ let t : arrivals_at m r (put at p j r) ≡ arrivals_at m r (at r) = ap (arrivals_at m r) ((put_moves at p j).others r ne) in omega (arith, held.1, all r posted.0)
          ] in (
            laws.by_await (cells_in m words) (put at p j) (put at p (j + 1)) counter p r n lt held.0 (ap (act_at m p) here ∙ is') (inr (posted.1 enough))
                (subst (λ x. Moves (put at p j) (put at p (j + 1)) p (x + 1)) (sym here) (put_on at p j (j + 1))),
            arrivals_next m p j (await counter r n) is' ∙ held.1,
          )

      row_level : (n i : ℕ) → n ≤ i → i ≤ n + row_first m (drop n (m.acts p)) → arrivals_at m p i ≡ arrivals_at m p n
      row_level n = over_row m p n (λ j. (i : ℕ) → n ≤ i → i ≤ j → arrivals_at m p i ≡ arrivals_at m p n)
          (λ j a is joint held i ge le. elim (cases_eq i (j + 1)) [
            | inl e ↦ elim (cases_eq i n) [
              | inl same ↦ ap (arrivals_at m p) same
              | inr other ↦
                  let awaits = gathered_await a joint in
                  ap (arrivals_at m p) e ∙ arrivals_next m p j (await counter awaits.0 awaits.1) (is ∙ ap Some awaits.2) ∙ held j (omega (arith, ge, e, other)) (omega arith)
            ]
            | inr ne ↦ held i ge (omega (arith, le, ne))
          ])
          (λ i ge le. ap (arrivals_at m p) (let e : i ≡ n = omega (arith, ge, le) in e))

      stays : (r : ℕ) → at r ≡ put at p (at p) r
      stays r = elim (cases_eq r p) [
        | inl e ↦ ap at e ∙ sym (ap (put at p (at p)) e ∙ (put_moves at p (at p)).here)
        | inr ne ↦ sym ((put_moves at p (at p)).others r ne)
      ]

-- the arrivals of two processors differ by at most one
pub apart : (m : Protocol) (words : List ℕ) (at : ℕ → ℕ) (p q : ℕ) → p < m.workers → q < m.workers → AreGathered m words at → arrivals_at m p (at p) ≤ arrivals_at m q (at q) + 1
apart m words at p q lp lq old = let a : arrivals_at m p (at p) ≤ passed_at m p (at p) + 1 = (passed_between m p (at p)).1 in let b : passed_at m p (at p) ≤ arrivals_at m q (at q) = old.passed p q lp lq in omega arith
