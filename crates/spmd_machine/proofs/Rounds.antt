-- A round of turns: it comes nearer to the end, or no turn in it was possible.
use Rattle.std.proofs.Common.{◌≡◌, ◌≢◌, ℕ, zero, suc, ◌+◌, ◌<◌, ◌≤◌, Bool, true, false, nat_le, cond, [], ◌∷◌, ◌++◌, List, length, get_or, replicate, take, fold, Option, Some, None, refl, sym, ◌∙◌, ap, subst, inl, inr, zero-add, append-nil, below_more, arith}
use Rattle.std.specs.Prelude.{slice_index}
use Rattle.std.specs.List.{range_with_len, flat_map}
use Rattle.std.proofs.lemmas.Bool.{cases_Bool}
use Rattle.std.proofs.lemmas.List.Sums.{fold_push, fold-append}
use Rattle.std.proofs.lemmas.List.Concat.{flat_map-append}
use Rattle.list_lemmas.proofs.Ranges.{range_split}
use Rattle.spmd_model.specs.Quiet.{past_quiet, quiet_next, turned}
use Rattle.spmd_model.specs.Reached.{HasCome}
use Rattle.spmd_model.specs.States.{State, next_act, words_of}
use Rattle.spmd_model.specs.Runs.{stepped}
use Rattle.spmd_model.specs.Timelines.{Machine}
use Rattle.spmd_model.specs.Acts.{Act, post, await, load, store, add, print}
use Rattle.spmd_model.proofs.Runs.{come_stepped}
use Rattle.spmd_machine.specs.Machines.{answer_at, step_answer}
use Rattle.spmd_model.specs.Fair.{acts_to_go, can_go, can_step}
use Rattle.spmd_model.proofs.Fair.{step_goes, step_stays}
use Rattle.spmd_machine.specs.Promises.{RoundTo, one_round, rounds}
use Rattle.spmd_machine.specs.declared.answer.StepAnswer.{StepAnswer}
use Rattle.spmd_machine.specs.declared.answer.StepAnswer.TheVariants.{Stepped, Blocked, Ended}
use Rattle.spmd_machine.proofs.Settles.{blocked_quiet, quiet_none}

-- no step comes less near
step_nearer : (m : Machine) (s : State) (p : ℕ) → p < m.workers → HasCome m s → acts_to_go m (stepped m s p) ≤ acts_to_go m s
step_nearer m s p lt law = elim (cases_Bool (can_step m s p)) [
  | inl can ↦ omega (arith, step_goes m s p lt law can)
  | inr cannot ↦ omega (arith, ap (acts_to_go m) (step_stays m s p cannot))
]

-- so many steps of one processor
many_come : (m : Machine) (n : ℕ) (s : State) (p : ℕ) → p < m.workers → HasCome m s → HasCome m (fold (stepped m) s (replicate n p))
many_come m zero s p lt law = law
many_come m (suc n) s p lt law = many_come m n (stepped m s p) p lt (come_stepped m s p lt law)

many_nearer : (m : Machine) (n : ℕ) (s : State) (p : ℕ) → p < m.workers → HasCome m s → acts_to_go m (fold (stepped m) s (replicate n p)) ≤ acts_to_go m s
many_nearer m zero s p lt law = omega arith
many_nearer m (suc n) s p lt law = omega (arith, many_nearer m n (stepped m s p) p lt (come_stepped m s p lt law), step_nearer m s p lt law)

-- turns
pub turn_come : (m : Machine) (shared : ℕ) (s : State) (p : ℕ) → p < m.workers → HasCome m s → HasCome m (turned m shared s p)
turn_come m shared s p lt law = many_come m (quiet_next m shared (stepped m s p) p) (stepped m s p) p lt (come_stepped m s p lt law)

turn_goes : (m : Machine) (shared : ℕ) (s : State) (p : ℕ) → p < m.workers → HasCome m s → can_step m s p ≡ true → acts_to_go m (turned m shared s p) < acts_to_go m s
turn_goes m shared s p lt law can =
    omega (arith, many_nearer m (quiet_next m shared (stepped m s p) p) (stepped m s p) p lt (come_stepped m s p lt law), step_goes m s p lt law can)

turn_stays : (m : Machine) (shared : ℕ) (s : State) (p : ℕ) → p < length s.positions → can_step m s p ≡ false → turned m shared s p ≡ s
turn_stays m shared s p lt cannot = ap (λ t. past_quiet m shared t p) (step_stays m s p cannot) ∙ quiet_none m shared s p lt (blocked_quiet m shared s p cannot)

-- what the answer says
stepped_answer : (b : Bool) (on wanted seen : ℕ) → cond b Stepped (Blocked on wanted seen) ≡ Stepped → b ≡ true
stepped_answer true on wanted seen h = refl
stepped_answer false on wanted seen h = absurd (cc)

blocked_answer : (b : Bool) (on wanted seen on' wanted' seen' : ℕ) → cond b Stepped (Blocked on wanted seen) ≡ Blocked on' wanted' seen' → b ≡ false
blocked_answer true on wanted seen on' wanted' seen' h = absurd (cc)
blocked_answer false on wanted seen on' wanted' seen' h = refl

can_by : (s : State) (o : Option Act) → answer_at s o ≡ Stepped → can_go s o ≡ true
can_by s None h = absurd (cc)
can_by s (Some (post w number)) h = refl
can_by s (Some (await w on wanted)) h = stepped_answer (nat_le wanted (slice_index (words_of s w) on)) on wanted (slice_index (words_of s w) on) h
can_by s (Some (load t cell)) h = refl
can_by s (Some (store t cell)) h = refl
can_by s (Some (add t cell)) h = refl
can_by s (Some (print t)) h = refl

cannot_ended : (s : State) (o : Option Act) → answer_at s o ≡ Ended → can_go s o ≡ false
cannot_ended s None h = refl
cannot_ended s (Some (post w number)) h = absurd (cc)
cannot_ended s (Some (await w on wanted)) h = go (nat_le wanted (slice_index (words_of s w) on)) h
  where
    go : (b : Bool) → cond b Stepped (Blocked on wanted (slice_index (words_of s w) on)) ≡ Ended → b ≡ false
    go true h = absurd (cc)
    go false h = refl
cannot_ended s (Some (load t cell)) h = absurd (cc)
cannot_ended s (Some (store t cell)) h = absurd (cc)
cannot_ended s (Some (add t cell)) h = absurd (cc)
cannot_ended s (Some (print t)) h = absurd (cc)

cannot_blocked : (s : State) (o : Option Act) (on' wanted' seen' : ℕ) → answer_at s o ≡ Blocked on' wanted' seen' → can_go s o ≡ false
cannot_blocked s None on' wanted' seen' h = refl
cannot_blocked s (Some (post w number)) on' wanted' seen' h = absurd (cc)
cannot_blocked s (Some (await w on wanted)) on' wanted' seen' h = blocked_answer (nat_le wanted (slice_index (words_of s w) on)) on wanted (slice_index (words_of s w) on) on' wanted' seen' h
cannot_blocked s (Some (load t cell)) on' wanted' seen' h = absurd (cc)
cannot_blocked s (Some (store t cell)) on' wanted' seen' h = absurd (cc)
cannot_blocked s (Some (add t cell)) on' wanted' seen' h = absurd (cc)
cannot_blocked s (Some (print t)) on' wanted' seen' h = absurd (cc)

pub answered_stepped : (m : Machine) (s : State) (p : ℕ) → Stepped ≡ step_answer m s p → can_step m s p ≡ true
answered_stepped m s p h = can_by s (next_act m s p) (sym h)

pub answered_other : (m : Machine) (s : State) (p : ℕ) (answer : StepAnswer) → answer ≡ step_answer m s p → answer ≢ Stepped → can_step m s p ≡ false
answered_other m s p Stepped h ne = absurd (ne refl)
answered_other m s p (Blocked on wanted seen) h ne = cannot_blocked s (next_act m s p) on wanted seen (sym h)
answered_other m s p Ended h ne = cannot_ended s (next_act m s p) (sym h)

-- one more of a range
pub fold_more : (f : State → ℕ → State) (from now : State) (p : ℕ) → now ≡ fold f from (range_with_len 0 p) → f now p ≡ fold f from (range_with_len 0 (p + 1))
fold_more f from now p h =
    ap (λ s. f s p) h ∙ sym (fold_push f from (range_with_len 0 p) p) ∙ ap (fold f from) (ap (λ k. range_with_len 0 p ++ k ∷ []) (sym (zero-add p)) ∙ sym (range_split 0 p 1))

-- one more of a schedule
pub schedule_more : (f : State → ℕ → State) (from now : State) (schedule : List ℕ) (n : ℕ) → n < length schedule → now ≡ fold f from (take n schedule) → f now (get_or schedule n 0) ≡ fold f from (take (n + 1) schedule)
schedule_more f from now schedule n lt h =
    ap (λ s. f s (get_or schedule n 0)) h ∙ sym (fold_push f from (take n schedule) (get_or schedule n 0)) ∙ ap (fold f from) (one_more schedule n lt)
  where
    one_more : (xs : List ℕ) (n : ℕ) → n < length xs → take n xs ++ get_or xs n 0 ∷ [] ≡ take (n + 1) xs
    one_more [] n lt = absurd (omega (arith, lt))
    one_more (x ∷ xs) zero lt = refl
    one_more (x ∷ xs) (suc n) lt =
        let index : suc n + 1 ≡ suc (n + 1) = omega arith in
        ap (λ l. x ∷ l) (one_more xs n (omega (arith, lt))) ∙ ap (λ k. take k (x ∷ xs)) (sym index)

pub round_none : (m : Machine) (shared : ℕ) (from : State) → RoundTo m shared from from 0 false
round_none m shared from = record {
  run = refl;
  nearer = omega arith;
  goes = λ (h : false ≡ true). absurd (cc);
  still = λ _. (refl, λ q lt. absurd (omega arith));
}

run_more : (m : Machine) (shared : ℕ) (from now : State) (p : ℕ) → now ≡ fold (turned m shared) from (range_with_len 0 p) → turned m shared now p ≡ fold (turned m shared) from (range_with_len 0 (p + 1))
run_more m shared from now p h =
    ap (λ s. turned m shared s p) h ∙ sym (fold_push (turned m shared) from (range_with_len 0 p) p)
    ∙ ap (fold (turned m shared) from) (ap (λ k. range_with_len 0 p ++ k ∷ []) (sym (zero-add p)) ∙ sym (range_split 0 p 1))

pub round_more : (m : Machine) (shared : ℕ) (from now : State) (p : ℕ) (any : Bool) → RoundTo m shared from now p any → p < m.workers → HasCome m now → can_step m now p ≡ true → RoundTo m shared from (turned m shared now p) (p + 1) true
round_more m shared from now p any r lt law can =
    let less = turn_goes m shared now p lt law can in
    record {
      run = run_more m shared from now p r.run;
      nearer = omega (arith, less, r.nearer);
      goes = λ _. omega (arith, less, r.nearer);
      still = λ (h : true ≡ false). absurd (cc);
    }

pub round_still : (m : Machine) (shared : ℕ) (from now : State) (p : ℕ) (any : Bool) → RoundTo m shared from now p any → p < m.workers → HasCome m now → can_step m now p ≡ false → RoundTo m shared from (turned m shared now p) (p + 1) any
round_still m shared from now p any r lt law can =
    let same = turn_stays m shared now p (omega (arith, law.count, lt)) can in
    let go = ap (acts_to_go m) same in
    record {
      run = run_more m shared from now p r.run;
      nearer = omega (arith, go, r.nearer);
      goes = λ h. omega (arith, go, r.goes h);
      still = λ h. let before = r.still h in (same ∙ before.0, below_more _ _ before.1 (ap (λ s. can_step m s p) (sym before.0) ∙ can));
    }

pub round_as : (m : Machine) (shared : ℕ) (from a b : State) (p : ℕ) (any other : Bool) → a ≡ b → any ≡ other → RoundTo m shared from a p any → RoundTo m shared from b p other
round_as m shared from a b p any other e f r = subst (λ (s : State). RoundTo m shared from s p other) e (subst (λ (x : Bool). RoundTo m shared from a p x) f r)

-- one round more
pub rounds_more : (m : Machine) (shared : ℕ) (from now after : State) (count : ℕ) → now ≡ fold (turned m shared) from (rounds m count) → after ≡ fold (turned m shared) now (one_round m) → after ≡ fold (turned m shared) from (rounds m (count + 1))
rounds_more m shared from now after count h e =
    e ∙ ap (λ s. fold (turned m shared) s (one_round m)) h ∙ sym (fold-append (turned m shared) from (rounds m count) (one_round m))
    ∙ ap (fold (turned m shared) from) (ap (λ l. rounds m count ++ l) (sym (append-nil (one_round m)))
    ∙ sym (ap (flat_map (λ n. one_round m)) (range_split 0 count 1) ∙ flat_map-append (λ n. one_round m) (range_with_len 0 count) (range_with_len (0 + count) 1)))
