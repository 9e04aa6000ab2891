-- The laws of acts, of shared cells alone.
use Rattle.std.proofs.Common.{◌≡◌, ℕ, ◌+◌, ◌-◌, ◌<◌, ◌≤◌, ◌⊎◌, ℤ, pos, true, true≢false, List, ◌++◌, length, replicate, take, Some, ap, sym, subst, ◌∙◌, arith}
use Rattle.std.specs.Prelude.{slice_set}
use Rattle.std.proofs.lemmas.Bool.{leb-true}
use Rattle.std.proofs.lemmas.List.{get_or_append_left, length-replicate, length-set, replicate-append-replicate, set-append_left, set-append_right, take_at}
use Rattle.nest_model.specs.Memory.{cell_value}
use Rattle.spmd_model.specs.Cells.{plus}
use Rattle.spmd_model.specs.Timelines.{Machine, Word}
use Rattle.spmd_model.specs.Acts.{Act, post, await, load, store, add, print, act_at, acts_of}
use Rattle.spmd_model.specs.Sequential.{memory_at_end, memory_at, stored_at}
use Rattle.spmd_model.specs.Ordered.{IsOrderedMachine, IsSound}
use Rattle.spmd_model.specs.Lawful.{IsLawful, IsPosted, Moves}
use Rattle.spmd_model.specs.Quiet.{is_quiet}
use Rattle.spmd_model.specs.Shared.{AreLawful}
use Rattle.spmd_model.proofs.ActLaws as law
use Rattle.spmd_model.proofs.Ends.{whole_memory}

pub first : (m : Machine) (shared : ℕ) (at : ℕ → ℕ) → IsSound m → shared ≤ m.cells → ((p : ℕ) → p < m.workers → at p ≡ 0) → AreLawful m shared (replicate shared (pos 0)) at
first m shared at sound le none =
    let all : shared + (m.cells - shared) ≡ m.cells = omega (arith, le) in
    record {
      count = length-replicate shared (pos 0);
      own = replicate (m.cells - shared) (pos 0);
      lawful = subst (λ x. IsLawful m x at) (ap (λ n. replicate n (pos 0)) (sym all) ∙ sym (replicate-append-replicate shared (m.cells - shared) (pos 0))) (law.first m at sound none);
    }

-- where all have ended, they are those of the last memory
pub ended : (m : Machine) (shared : ℕ) (cells : List ℤ) (at : ℕ → ℕ) → IsSound m → AreLawful m shared cells at → ((p : ℕ) → p < m.workers → at p ≡ length (acts_of m p)) → cells ≡ take shared (memory_at_end m)
ended m shared cells at sound l end = sym (take_at cells l.own shared l.count) ∙ ap (take shared) (whole_memory m (cells ++ l.own) at sound l.lawful end)

-- a shared cell whose load stands next holds the sequential value
pub gives : (m : Machine) (shared : ℕ) (cells : List ℤ) (at : ℕ → ℕ) (p : ℕ) → IsSound m → IsOrderedMachine m → AreLawful m shared cells at → (t c : ℕ) → c < shared → act_at m p (at p) ≡ Some (load t c) → cell_value cells c ≡ cell_value (memory_at m t) c
gives m shared cells at p sound ordered l t c lt e = sym (get_or_append_left cells l.own (pos 0) c (omega (arith, lt, l.count))) ∙ law.gives m (cells ++ l.own) at p t c sound ordered l.lawful e

module _ (m : Machine) (shared : ℕ) (cells : List ℤ) (at after : ℕ → ℕ) (p : ℕ) (inside : p < m.workers) (sound : IsSound m) (ordered : IsOrderedMachine m) (l : AreLawful m shared cells at) (moves : Moves at after p (at p + 1)) where
  pub by_load : (t c : ℕ) → act_at m p (at p) ≡ Some (load t c) → AreLawful m shared cells after
  by_load t c e = record { count = l.count; own = l.own; lawful = law.by_load m (cells ++ l.own) at after p t c inside l.lawful e moves }

  pub by_print : (t : ℕ) → act_at m p (at p) ≡ Some (print t) → AreLawful m shared cells after
  by_print t e = record { count = l.count; own = l.own; lawful = law.by_print m (cells ++ l.own) at after p t inside l.lawful e moves }

  pub by_post : (w : Word) (n : ℕ) → act_at m p (at p) ≡ Some (post w n) → AreLawful m shared cells after
  by_post w n e = record { count = l.count; own = l.own; lawful = law.by_post m (cells ++ l.own) at after w p n inside l.lawful e moves }

  pub by_await : (w : Word) (q n : ℕ) → act_at m p (at p) ≡ Some (await w q n) → (n ≡ 0) ⊎ IsPosted (acts_of m q) w n (at q) → AreLawful m shared cells after
  by_await w q n e posted = record { count = l.count; own = l.own; lawful = law.by_await m (cells ++ l.own) at after w p q n inside l.lawful e posted moves }

  pub by_store : (t c : ℕ) → c < shared → act_at m p (at p) ≡ Some (store t c) → AreLawful m shared (slice_set cells c (stored_at m p (at p))) after
  by_store t c lt e = record {
    count = length-set cells c (stored_at m p (at p)) ∙ l.count;
    own = l.own;
    lawful = subst (λ x. IsLawful m x after) (set-append_left cells l.own c (stored_at m p (at p)) (omega (arith, lt, l.count))) (law.by_store m (cells ++ l.own) at after p t c inside sound ordered l.lawful e moves);
  }

  pub by_add : (t c : ℕ) → c < shared → act_at m p (at p) ≡ Some (add t c) → AreLawful m shared (slice_set cells c (plus (cell_value cells c) (stored_at m p (at p)))) after
  by_add t c lt e =
      let here : cell_value (cells ++ l.own) c ≡ cell_value cells c = get_or_append_left cells l.own (pos 0) c (omega (arith, lt, l.count)) in
      let v = plus (cell_value cells c) (stored_at m p (at p)) in
      record {
        count = length-set cells c v ∙ l.count;
        own = l.own;
        lawful = subst (λ x. IsLawful m x after) (ap (λ y. slice_set (cells ++ l.own) c (plus y (stored_at m p (at p)))) here ∙ set-append_left cells l.own c v (omega (arith, lt, l.count))) (law.by_add m (cells ++ l.own) at after p t c inside sound ordered l.lawful e moves);
      }

  -- a quiet act leaves the shared cells as they are
  pub by_quiet : (a : Act) → act_at m p (at p) ≡ Some a → is_quiet shared a ≡ true → AreLawful m shared cells after
  by_quiet (post w n) e quiet = absurd (true≢false (sym quiet))
  by_quiet (await w q n) e quiet = absurd (true≢false (sym quiet))
  by_quiet (load t c) e quiet = by_load t c e
  by_quiet (store t c) e quiet =
      let past : shared ≤ c = leb-true shared c quiet in
      record {
        count = l.count;
        own = slice_set l.own (c - shared) (stored_at m p (at p));
        lawful = subst (λ x. IsLawful m x after) (set-append_right cells l.own shared c (stored_at m p (at p)) l.count past) (law.by_store m (cells ++ l.own) at after p t c inside sound ordered l.lawful e moves);
      }
  by_quiet (add t c) e quiet = absurd (true≢false (sym quiet))
  by_quiet (print t) e quiet = absurd (true≢false (sym quiet))
