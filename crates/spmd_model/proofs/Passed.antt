-- Acts that nobody else sees and that stand next, and places behind them.
use Rattle.std.proofs.Common.{◌≡◌, ◌≢◌, ℕ, zero, suc, ◌+◌, ◌<◌, ◌≤◌, nat_lt, ℤ, pos, true, false, true≢false, List, [], ◌∷◌, drop, replicate, Some, refl, ap, sym, subst, ◌∙◌, inl, inr, ⊎_elim, arith, if◌then◌else◌}
use Rattle.std.specs.Prelude.{slice_get}
use Rattle.std.proofs.Math.Path.{fun_ext}
use Rattle.std.proofs.lemmas.Bool.{cases_Bool, cases_eq, cases_lt, le-ltb, lt-ltb}
use Rattle.spmd_model.specs.Timelines.{Machine}
use Rattle.spmd_model.specs.Acts.{Act, post, await, load, store, add, print, act_at, acts_of}
use Rattle.spmd_model.specs.Ordered.{IsOrderedMachine, IsSound}
use Rattle.spmd_model.specs.Lawful.{Moves}
use Rattle.spmd_model.specs.Shared.{AreLawful}
use Rattle.spmd_model.proofs.Shared as kept
use Rattle.spmd_model.specs.Protocols.{is_passed, passed_first, settled}
use Rattle.spmd_model.proofs.ProtocolLists.{get_drop, goes, gone_to}
use Rattle.spmd_model.proofs.Lists.{drop_more}

module _ (m : Machine) (shared : ℕ) (sound : IsSound m) (ordered : IsOrderedMachine m) where
  -- places that are the same are lawful together
  same_places : (cells : List ℤ) (at after : ℕ → ℕ) → AreLawful m shared cells at → ((q : ℕ) → after q ≡ at q) → AreLawful m shared cells after
  same_places cells at after law same = subst (AreLawful m shared cells) (sym (fun_ext same)) law

  stays : (cells : List ℤ) (at after : ℕ → ℕ) (p : ℕ) → AreLawful m shared cells at → Moves at after p (at p + 0) → AreLawful m shared cells after
  stays cells at after p law moves = same_places cells at after law (λ q. ⊎_elim (λ same. subst (λ k. after k ≡ at k) (sym same) (omega (arith, moves.here))) (moves.others q) (cases_eq q p))

  by_one : (cells : List ℤ) (at after : ℕ → ℕ) (p : ℕ) (a : Act) → p < m.workers → AreLawful m shared cells at → act_at m p (at p) ≡ Some a → is_passed shared a ≡ true → Moves at after p (at p + 1) → AreLawful m shared cells after
  by_one cells at after p (post w n) inside law e passed moves = absurd (true≢false (sym passed))
  by_one cells at after p (await w q n) inside law e passed moves = absurd (true≢false (sym passed))
  by_one cells at after p (load t c) inside law e passed moves = kept.by_quiet m shared cells at after p inside sound ordered law moves (load t c) e passed
  by_one cells at after p (store t c) inside law e passed moves = kept.by_quiet m shared cells at after p inside sound ordered law moves (store t c) e passed
  by_one cells at after p (add t c) inside law e passed moves = absurd (true≢false (sym passed))
  by_one cells at after p (print t) inside law e passed moves = kept.by_print m shared cells at after p inside sound ordered law moves t e

  -- these acts stand next, and the processor goes behind those in front that nobody else sees
  behind_passed : (cells : List ℤ) (p : ℕ) → p < m.workers → (acts : List Act) (at after : ℕ → ℕ) → drop (at p) (acts_of m p) ≡ acts → AreLawful m shared cells at → Moves at after p (at p + passed_first shared acts) → AreLawful m shared cells after
  behind_passed cells p inside [] at after next law moves = stays cells at after p law moves
  behind_passed cells p inside (a ∷ rest) at after next law moves = elim (cases_Bool (is_passed shared a)) [
    | inl passed ↦
        let first = drop_more (acts_of m p) (at p) a rest next in
        let mid = gone_to at p (at p + 1) in
        let step = goes at p (at p + 1) in
        let count : passed_first shared (a ∷ rest) ≡ passed_first shared rest + 1 = ap (λ b. if b then passed_first shared rest + 1 else 0) passed in
        behind_passed cells p inside rest mid after (ap (λ k. drop k (acts_of m p)) step.here ∙ first.1) (by_one cells at mid p a inside law first.0 passed step)
        (record { here = omega (arith, moves.here, step.here, count); others = λ q other. moves.others q other ∙ sym (step.others q other) })
    | inr seen ↦
        let count : passed_first shared (a ∷ rest) ≡ 0 = ap (λ b. if b then passed_first shared rest + 1 else 0) seen in
        stays cells at after p law (record { here = omega (arith, moves.here, count); others = moves.others })
  ]

  pub by_passed : (cells : List ℤ) (at after : ℕ → ℕ) (p : ℕ) → p < m.workers → AreLawful m shared cells at → Moves at after p (settled shared (acts_of m p) (at p)) → AreLawful m shared cells after
  by_passed cells at after p inside law moves = behind_passed cells p inside (drop (at p) (acts_of m p)) at after refl law moves

-- no act that is passed stands behind them
pub none_passed : (cells : ℕ) (acts : List Act) (n : ℕ) (a : Act) → slice_get acts (settled cells acts n) ≡ Some a → is_passed cells a ≡ false
none_passed cells acts n a e = first_seen (drop n acts) (get_drop acts n (passed_first cells (drop n acts)) ∙ e)
  where
    first_seen : (xs : List Act) → slice_get xs (passed_first cells xs) ≡ Some a → is_passed cells a ≡ false
    first_seen [] h = absurd (cc)
    first_seen (x ∷ xs) h = elim (cases_Bool (is_passed cells x)) [
      | inl passed ↦
          let more : passed_first cells (x ∷ xs) ≡ suc (passed_first cells xs) = ap (λ b. if b then passed_first cells xs + 1 else 0) passed ∙ omega arith in
          first_seen xs (sym (ap (slice_get (x ∷ xs)) more) ∙ h)
      | inr seen ↦
          let count : passed_first cells (x ∷ xs) ≡ 0 = ap (λ b. if b then passed_first cells xs + 1 else 0) seen in
          let same : Some x ≡ Some a = sym (ap (slice_get (x ∷ xs)) count) ∙ h in
          let is : x ≡ a = cc in
          ap (is_passed cells) (sym is) ∙ seen
    ]

-- ---- where each processor stands behind the first of them

-- the first k processors have come to their places, the other processors have done nothing
abbrev first_come : (ℕ → ℕ) → ℕ → ℕ → ℕ → ℕ
first_come at workers k q = if nat_lt q k then at q else if nat_lt q workers then 0 else at q

come : (at : ℕ → ℕ) (workers k q : ℕ) → q < k → first_come at workers k q ≡ at q
come at workers k q lt = ap (λ b. if b then at q else if nat_lt q workers then 0 else at q) (lt-ltb q k lt)

not_come : (at : ℕ → ℕ) (workers k q : ℕ) → k ≤ q → q < workers → first_come at workers k q ≡ 0
not_come at workers k q le lt = ap (λ b. if b then at q else if nat_lt q workers then 0 else at q) (le-ltb q k le) ∙ ap (λ b. if b then 0 else at q) (lt-ltb q workers lt)

outside : (at : ℕ → ℕ) (workers k q : ℕ) → k ≤ q → workers ≤ q → first_come at workers k q ≡ at q
outside at workers k q le past = ap (λ b. if b then at q else if nat_lt q workers then 0 else at q) (le-ltb q k le) ∙ ap (λ b. if b then 0 else at q) (le-ltb q workers past)

-- one processor more
same_others : (at : ℕ → ℕ) (workers k q : ℕ) → q ≢ k → first_come at workers (suc k) q ≡ first_come at workers k q
same_others at workers k q other = ⊎_elim
    (λ lt. come at workers (suc k) q (omega (arith, lt)) ∙ sym (come at workers k q lt))
    (λ le. ⊎_elim (λ lt. not_come at workers (suc k) q (omega (arith, le, other)) lt ∙ sym (not_come at workers k q le lt)) (λ past. outside at workers (suc k) q (omega (arith, le, other)) past ∙ sym (outside at workers k q le past)) (cases_lt q workers))
    (cases_lt q k)

module _ (m : Machine) (shared : ℕ) (sound : IsSound m) (ordered : IsOrderedMachine m) (le : shared ≤ m.cells) (at : ℕ → ℕ) (settles : (p : ℕ) → p < m.workers → at p ≡ settled shared (acts_of m p) 0) where
  some_come : (k : ℕ) → k ≤ m.workers → AreLawful m shared (replicate shared (pos 0)) (first_come at m.workers k)
  some_come zero below = kept.first m shared (first_come at m.workers 0) sound le (λ p lt. not_come at m.workers 0 p (omega arith) lt)
  some_come (suc k) below =
      let before = first_come at m.workers k in
      let none : before k ≡ 0 = not_come at m.workers k k (omega arith) (omega (arith, below)) in
      by_passed m shared sound ordered (replicate shared (pos 0)) before (first_come at m.workers (suc k)) k (omega (arith, below)) (some_come k (omega (arith, below)))
      (record {
        here = come at m.workers (suc k) k (omega arith) ∙ settles k (omega (arith, below)) ∙ ap (settled shared (acts_of m k)) (sym none);
        others = λ q other. same_others at m.workers k q other;
      })

  pub first_settled : AreLawful m shared (replicate shared (pos 0)) at
  first_settled =
      same_places m shared sound ordered (replicate shared (pos 0)) (first_come at m.workers m.workers) at (some_come m.workers (omega arith))
      (λ q. ⊎_elim (λ lt. sym (come at m.workers m.workers q lt)) (λ past. sym (outside at m.workers m.workers q past past)) (cases_lt q m.workers))
