-- Acts on its own cells that stand next of a processor, one by one.
use Rattle.std.proofs.Common.{◌≡◌, ℕ, zero, suc, ◌+◌, ◌<◌, nat_le, nat_lt, Bool, true, false, true≢false, List, [], ◌∷◌, drop, fold, get_or, length, replicate, set, Option, Some, None, if◌then◌else◌, refl, ap, sym, ◌∙◌, inl, inr, arith}
use Rattle.std.specs.Prelude.{slice_get, slice_index}
use Rattle.std.proofs.lemmas.Bool.{cases_Bool, lt-ltb}
use Rattle.std.proofs.lemmas.List.{get_or-set_same}
use Rattle.spmd_model.specs.Deeds.{Deed, posting, awaiting, loading, storing, adding, printing, deed_of}
use Rattle.spmd_model.specs.Quiet.{is_quiet, past_quiet, quiet_first, quiet_next}
use Rattle.spmd_model.specs.States.{State, acted, is_possible, moved, next_act}
use Rattle.spmd_model.specs.Runs.{stepped, stepped_by}
use Rattle.spmd_model.specs.Timelines.{Machine}
use Rattle.spmd_model.specs.Acts.{Act, post, await, load, store, add, print, acts_of}
use Rattle.spmd_model.proofs.Quiet.{can_do}
use Rattle.turns.proofs.CounterLists.{drop_at}
use Rattle.spmd_model.specs.Fair.{can_go, can_step}

quiet_stays : (m : Machine) (shared : ℕ) (s : State) (p : ℕ) (a : Act) → is_quiet shared a ≡ true → (acted m s p a).positions ≡ s.positions
quiet_stays m shared s p (post w k) h = absurd (true≢false (sym h))
quiet_stays m shared s p (await w q k) h = refl
quiet_stays m shared s p (load t c) h = refl
quiet_stays m shared s p (store t c) h = refl
quiet_stays m shared s p (add t c) h = refl
quiet_stays m shared s p (print t) h = refl

module _ (m : Machine) (shared : ℕ) (s : State) (p : ℕ) (lt : p < length s.positions) where
  abbrev place : ℕ
  place = slice_index s.positions p

  -- one of them is done
  pub quiet_done : (n : ℕ) → quiet_next m shared s p ≡ suc n → quiet_next m shared (stepped m s p) p ≡ n
  quiet_done n is = by (drop place (acts_of m p)) refl
    where
      by : (acts : List Act) → drop place (acts_of m p) ≡ acts → quiet_next m shared (stepped m s p) p ≡ n
      by [] none = absurd (let clash : zero ≡ suc n = sym (ap (quiet_first shared) none) ∙ is in cc)
      by (a ∷ rest) some = elim (cases_Bool (is_quiet shared a)) [
        | inl quiet ↦
            let next = drop_at (acts_of m p) place a rest some in
            let count : suc (quiet_first shared rest) ≡ suc n = sym (ap (quiet_first shared) some ∙ ap (λ b. if b then suc (quiet_first shared rest) else 0) quiet) ∙ is in
            let same : quiet_first shared rest ≡ n = cc in
            let step : stepped m s p ≡ moved (acted m s p a) p = ap (stepped_by m s p) next.0 ∙ ap (λ b. if b then moved (acted m s p a) p else s) (can_do shared s a quiet) in
            let stays = quiet_stays m shared s p a quiet in
            let moved_to : slice_index (moved (acted m s p a) p).positions p ≡ suc place =
            ap (λ ps. get_or (set ps p (get_or ps p 0 + 1)) p 0) stays ∙ get_or-set_same s.positions p (place + 1) 0 lt ∙ omega arith in
            ap (λ t. quiet_next m shared t p) step ∙ ap (λ k. quiet_first shared (drop k (acts_of m p))) moved_to ∙ ap (quiet_first shared) next.1 ∙ same
        | inr not_quiet ↦ absurd (let clash : zero ≡ suc n = sym (ap (quiet_first shared) some ∙ ap (λ b. if b then suc (quiet_first shared rest) else 0) not_quiet) ∙ is in cc)
      ]

  -- behind it the same are left
  pub quiet_goes : nat_lt 0 (quiet_next m shared s p) ≡ true → past_quiet m shared (stepped m s p) p ≡ past_quiet m shared s p
  quiet_goes some = by (quiet_next m shared s p) refl some
    where
      by : (k : ℕ) → quiet_next m shared s p ≡ k → nat_lt 0 k ≡ true → past_quiet m shared (stepped m s p) p ≡ past_quiet m shared s p
      by zero is h = absurd (true≢false (sym h))
      by (suc n) is h = ap (λ j. fold (stepped m) (stepped m s p) (replicate j p)) (quiet_done n is) ∙ sym (ap (λ j. fold (stepped m) s (replicate j p)) is)

  pub quiet_falls : nat_lt 0 (quiet_next m shared s p) ≡ true → quiet_next m shared (stepped m s p) p < quiet_next m shared s p
  quiet_falls some = by (quiet_next m shared s p) refl some
    where
      by : (k : ℕ) → quiet_next m shared s p ≡ k → nat_lt 0 k ≡ true → quiet_next m shared (stepped m s p) p < quiet_next m shared s p
      by zero is h = absurd (true≢false (sym h))
      by (suc n) is h = omega (arith, quiet_done n is, is)

  pub quiet_none : nat_lt 0 (quiet_next m shared s p) ≡ false → past_quiet m shared s p ≡ s
  quiet_none none = by (quiet_next m shared s p) refl none
    where
      by : (k : ℕ) → quiet_next m shared s p ≡ k → nat_lt 0 k ≡ false → past_quiet m shared s p ≡ s
      by zero is h = ap (λ j. fold (stepped m) s (replicate j p)) is
      by (suc n) is h = absurd (true≢false (sym (lt-ltb 0 (suc n) (omega arith)) ∙ h))

-- ---- by the deed that comes next

-- a deed touches an own cell alone
abbrev pub is_quiet_deed : ℕ → Deed → Bool
is_quiet_deed shared (posting w k) = false
is_quiet_deed shared (awaiting w q k) = false
is_quiet_deed shared (loading c) = nat_le shared c
is_quiet_deed shared (storing c v) = nat_le shared c
is_quiet_deed shared (adding c v) = false
is_quiet_deed shared (printing l) = false

quiet_deed : (m : Machine) (shared : ℕ) (a : Act) → is_quiet shared a ≡ is_quiet_deed shared (deed_of m a)
quiet_deed m shared (post w k) = refl
quiet_deed m shared (await w q k) = refl
quiet_deed m shared (load t c) = refl
quiet_deed m shared (store t c) = refl
quiet_deed m shared (add t c) = refl
quiet_deed m shared (print t) = refl

some_quiet : (shared : ℕ) (b : Bool) (n : ℕ) → nat_lt 0 (if b then suc n else 0) ≡ b
some_quiet shared true n = lt-ltb 0 (suc n) (omega arith)
some_quiet shared false n = refl

pub quiet_act : (m : Machine) (shared : ℕ) (s : State) (p : ℕ) (a : Act) → next_act m s p ≡ Some a → nat_lt 0 (quiet_next m shared s p) ≡ is_quiet shared a
quiet_act m shared s p a next = by (acts_of m p) (slice_index s.positions p) next
  where
    by : (acts : List Act) (k : ℕ) → slice_get acts k ≡ Some a → nat_lt 0 (quiet_first shared (drop k acts)) ≡ is_quiet shared a
    by [] k at = absurd (let clash : None ≡ Some a = at in cc)
    by (b ∷ acts) zero at = let both : Some b ≡ Some a = at in let same : b ≡ a = cc in some_quiet shared (is_quiet shared b) (quiet_first shared acts) ∙ ap (is_quiet shared) same
    by (b ∷ acts) (suc k) at = by acts k at

pub quiet_by : (m : Machine) (shared : ℕ) (s : State) (p : ℕ) (a : Act) (d : Deed) → next_act m s p ≡ Some a → deed_of m a ≡ d → nat_lt 0 (quiet_next m shared s p) ≡ is_quiet_deed shared d
quiet_by m shared s p a d next is = quiet_act m shared s p a next ∙ quiet_deed m shared a ∙ ap (is_quiet_deed shared) is

pub quiet_end : (m : Machine) (shared : ℕ) (s : State) (p : ℕ) → next_act m s p ≡ None → nat_lt 0 (quiet_next m shared s p) ≡ false
quiet_end m shared s p next = by (acts_of m p) (slice_index s.positions p) next
  where
    by : (acts : List Act) (k : ℕ) → slice_get acts k ≡ None → nat_lt 0 (quiet_first shared (drop k acts)) ≡ false
    by [] k at = by_nothing k
      where
        by_nothing : (j : ℕ) → nat_lt 0 (quiet_first shared (drop j [])) ≡ false
        by_nothing zero = refl
        by_nothing (suc j) = refl
    by (b ∷ acts) zero at = absurd (let clash : Some b ≡ None = at in cc)
    by (b ∷ acts) (suc k) at = by acts k at

-- ---- where the next act isn't possible

loud : (shared : ℕ) (s : State) (a : Act) → is_possible s a ≡ false → is_quiet shared a ≡ false
loud shared s (post w k) h = refl
loud shared s (await w q k) h = refl
loud shared s (load t c) h = absurd (true≢false h)
loud shared s (store t c) h = absurd (true≢false h)
loud shared s (add t c) h = refl
loud shared s (print t) h = refl

pub blocked_quiet : (m : Machine) (shared : ℕ) (s : State) (p : ℕ) → can_step m s p ≡ false → nat_lt 0 (quiet_next m shared s p) ≡ false
blocked_quiet m shared s p cannot = by (next_act m s p) refl cannot
  where
    by : (o : Option Act) → next_act m s p ≡ o → can_go s o ≡ false → nat_lt 0 (quiet_next m shared s p) ≡ false
    by None next h = quiet_end m shared s p next
    by (Some a) next h = quiet_act m shared s p a next ∙ loud shared s a h
