-- Places in the acts, and what the counters are there.
use Rattle.std.proofs.Common.{◌≡◌, ℕ, zero, suc, ◌+◌, Bool, true, false, true≢false, cond, List, [], ◌∷◌, ◌++◌, take, drop, fold, Some, refl, sym, ◌∙◌, ap, subst, arith}
use Rattle.std.specs.Prelude.{slice_get}
use Rattle.std.proofs.Math.Seq.{drop-nil}
use Rattle.std.proofs.lemmas.List.{take_more}
use Rattle.std.proofs.lemmas.List.Sums.{fold-append}
use Rattle.std.proofs.lemmas.Option.{slice_get_within, get_or_from_slice_get}
use Rattle.spmd_model.specs.Timelines.{Word}
use Rattle.spmd_model.specs.Acts.{Act, post, await, load, store, add, print}
use Rattle.spmd_model.specs.Lawful.{Moves, put}
use Rattle.spmd_model.specs.Protocols.{Protocol, act_at, shown, shown_at, arrived, arrivals_at, is_gathered, is_passed, passed_first}
use Rattle.spmd_model.proofs.Places.{put_moves}
use Rattle.shared_words.specs.Places.{behind, row_first, behind_row, settled_at}

pub put_on : (at : ℕ → ℕ) (p n k : ℕ) → Moves (put at p n) (put at p k) p k
put_on at p n k = record {
  here = (put_moves at p k).here;
  others = λ q ne. (put_moves at p k).others q ne ∙ sym ((put_moves at p n).others q ne);
}

-- how many acts of a kind stand first
abbrev first_while : (Act → Bool) → List Act → ℕ
first_while f [] = 0
first_while f (a ∷ rest) = cond (f a) (first_while f rest + 1) 0

-- what holds at a place holds behind the acts of a kind that stand there, where each of them keeps it
over' : (f : Act → Bool) (acts : List Act) (n : ℕ) (Q : ℕ → Type 0) → ((k : ℕ) (a : Act) → slice_get acts k ≡ Some a → f a ≡ true → Q k → Q (suc k)) → Q n → Q (n + first_while f (drop n acts))
over' f [] zero Q step held = held
over' f [] (suc n) Q step held = subst Q (omega arith) held
over' f (x ∷ rest) zero Q step held = go (λ is. over' f rest zero (λ k. Q (suc k)) (λ k a at. step (suc k) a at) (step 0 x refl is held)) (f x) refl
  where
    go : (f x ≡ true → Q (suc (0 + first_while f rest))) → (b : Bool) → f x ≡ b → Q (0 + cond b (first_while f rest + 1) 0)
    go more true is = subst Q (let e : suc (0 + first_while f rest) ≡ 0 + (first_while f rest + 1) = omega arith in e) (more is)
    go more false is = held
over' f (x ∷ rest) (suc n) Q step held =
    subst Q (let e : suc (n + first_while f (drop n rest)) ≡ suc n + first_while f (drop (suc n) (x ∷ rest)) = omega arith in e) (over' f rest n (λ k. Q (suc k)) (λ k a at. step (suc k) a at) held)

over : (f : Act → Bool) (acts : List Act) (n : ℕ) (Q : ℕ → Type 0) → ((k : ℕ) (a : Act) → slice_get acts k ≡ Some a → f a ≡ true → Q k → Q (k + 1)) → Q n → Q (n + first_while f (drop n acts))
over f acts n Q step held = over' f acts n Q (λ k a at is before. subst Q (let e : k + 1 ≡ suc k = omega arith in e) (step k a at is before)) held

passed_while : (shared : ℕ) (acts : List Act) → first_while (is_passed shared) acts ≡ passed_first shared acts
passed_while shared [] = refl
passed_while shared (a ∷ rest) = ap (λ n. cond (is_passed shared a) (n + 1) 0) (passed_while shared rest)

row_while : (m : Protocol) (acts : List Act) → first_while (λ a. is_gathered m (Some a)) acts ≡ row_first m acts
row_while m [] = refl
row_while m (a ∷ rest) = ap (λ n. cond (is_gathered m (Some a)) (n + 1) 0) (row_while m rest)

-- an act that no other processor sees changes no word of the processor's
passed_shown : (shared : ℕ) (gathers : ℕ → Bool) (w : Word) (n : ℕ) (a : Act) → is_passed shared a ≡ true → shown gathers w n a ≡ n
passed_shown shared gathers w n (post word number) quiet = absurd (true≢false (sym quiet))
passed_shown shared gathers w n (await word on wanted) quiet = refl
passed_shown shared gathers w n (load place cell) quiet = refl
passed_shown shared gathers w n (store place cell) quiet = refl
passed_shown shared gathers w n (add place cell) quiet = refl
passed_shown shared gathers w n (print place) quiet = refl

passed_arrived : (shared : ℕ) (gathers : ℕ → Bool) (n : ℕ) (a : Act) → is_passed shared a ≡ true → arrived gathers n a ≡ n
passed_arrived shared gathers n (post word number) quiet = absurd (true≢false (sym quiet))
passed_arrived shared gathers n (await word on wanted) quiet = refl
passed_arrived shared gathers n (load place cell) quiet = refl
passed_arrived shared gathers n (store place cell) quiet = refl
passed_arrived shared gathers n (add place cell) quiet = refl
passed_arrived shared gathers n (print place) quiet = refl

-- nor does an await at a barrier
row_shown : (m : Protocol) (w : Word) (n : ℕ) (a : Act) → is_gathered m (Some a) ≡ true → shown m.gathers w n a ≡ n
row_shown m w n (post word number) joint = absurd (true≢false (sym joint))
row_shown m w n (await word on wanted) joint = refl
row_shown m w n (load place cell) joint = refl
row_shown m w n (store place cell) joint = refl
row_shown m w n (add place cell) joint = refl
row_shown m w n (print place) joint = refl

row_arrived : (m : Protocol) (n : ℕ) (a : Act) → is_gathered m (Some a) ≡ true → arrived m.gathers n a ≡ n
row_arrived m n (post word number) joint = absurd (true≢false (sym joint))
row_arrived m n (await word on wanted) joint = refl
row_arrived m n (load place cell) joint = refl
row_arrived m n (store place cell) joint = refl
row_arrived m n (add place cell) joint = refl
row_arrived m n (print place) joint = refl

-- behind the first acts of a kind none of them stands
none_left : (f : Act → Bool) (acts : List Act) (n : ℕ) → first_while f (drop (n + first_while f (drop n acts)) acts) ≡ 0
none_left f [] zero = refl
none_left f [] (suc n) = ap (first_while f) (drop-nil (suc n + 0))
none_left f (x ∷ rest) zero = go (none_left f rest zero) (f x) refl
  where
    go : first_while f (drop (0 + first_while f rest) rest) ≡ 0 → (b : Bool) → f x ≡ b → first_while f (drop (0 + cond b (first_while f rest + 1) 0) (x ∷ rest)) ≡ 0
    go none true is = ap (λ k. first_while f (drop k (x ∷ rest))) (let e : 0 + (first_while f rest + 1) ≡ suc (0 + first_while f rest) = omega arith in e) ∙ none
    go none false is = ap (λ b. cond b (first_while f rest + 1) 0) is
none_left f (x ∷ rest) (suc n) = ap (λ k. first_while f (drop k (x ∷ rest))) (let e : suc n + first_while f (drop n rest) ≡ suc (n + first_while f (drop n rest)) = omega arith in e) ∙ none_left f rest n

module _ (m : Protocol) where
  -- a place that is settled stays so
  pub settled_settled : (p n : ℕ) → settled_at m p (settled_at m p n) ≡ settled_at m p n
  settled_settled p n =
      let f = is_passed m.cells in let acts = m.acts p in
      let none : passed_first m.cells (drop (settled_at m p n) acts) ≡ 0 =
      sym (passed_while m.cells (drop (settled_at m p n) acts)) ∙ ap (λ k. first_while f (drop (n + k) acts)) (sym (passed_while m.cells (drop n acts))) ∙ none_left f acts n in
      omega (arith, none)

  -- what holds at a place holds behind the acts there that no other processor sees, where each of them keeps it
  pub over_passed : (p n : ℕ) (Q : ℕ → Type 0) → ((k : ℕ) (a : Act) → act_at m p k ≡ Some a → is_passed m.cells a ≡ true → Q k → Q (k + 1)) → Q n → Q (settled_at m p n)
  over_passed p n Q step held = subst (λ k. Q (n + k)) (passed_while m.cells (drop n (m.acts p))) (over (is_passed m.cells) (m.acts p) n Q step held)

  -- and behind the awaits at a barrier that stand there
  pub over_row : (p n : ℕ) (Q : ℕ → Type 0) → ((k : ℕ) (a : Act) → act_at m p k ≡ Some a → is_gathered m (Some a) ≡ true → Q k → Q (k + 1)) → Q n → Q (n + row_first m (drop n (m.acts p)))
  over_row p n Q step held = subst (λ k. Q (n + k)) (row_while m (drop n (m.acts p))) (over (λ a. is_gathered m (Some a)) (m.acts p) n Q step held)

  -- one act more
  pub folded_next : {B : Type 0} (f : B → Act → B) (b : B) (p n : ℕ) (a : Act) → act_at m p n ≡ Some a → fold f b (take (n + 1) (m.acts p)) ≡ f (fold f b (take n (m.acts p))) a
  folded_next f b p n a next =
      ap (fold f b) (take_more (m.acts p) n a (slice_get_within (m.acts p) n a next) ∙ ap (λ x. take n (m.acts p) ++ x ∷ []) (get_or_from_slice_get (m.acts p) n a a next)) ∙ fold-append f b (take n (m.acts p)) (a ∷ [])

  pub shown_next : (w : Word) (p n : ℕ) (a : Act) → act_at m p n ≡ Some a → shown_at m w p (n + 1) ≡ shown m.gathers w (shown_at m w p n) a
  shown_next w p n a next = folded_next (shown m.gathers w) 0 p n a next

  pub shown_settled : (w : Word) (p n : ℕ) → shown_at m w p (settled_at m p n) ≡ shown_at m w p n
  shown_settled w p n = over_passed p n (λ k. shown_at m w p k ≡ shown_at m w p n) (λ k a is quiet same. shown_next w p k a is ∙ passed_shown m.cells m.gathers w (shown_at m w p k) a quiet ∙ same) refl

  pub shown_behind : (w : Word) (p n : ℕ) (a : Act) → act_at m p n ≡ Some a → shown_at m w p (behind m p n) ≡ shown m.gathers w (shown_at m w p n) a
  shown_behind w p n a next = shown_settled w p (n + 1) ∙ shown_next w p n a next

  pub arrivals_next : (p n : ℕ) (a : Act) → act_at m p n ≡ Some a → arrivals_at m p (n + 1) ≡ arrived m.gathers (arrivals_at m p n) a
  arrivals_next p n a next = folded_next (arrived m.gathers) 0 p n a next

  pub arrivals_settled : (p n : ℕ) → arrivals_at m p (settled_at m p n) ≡ arrivals_at m p n
  arrivals_settled p n = over_passed p n (λ k. arrivals_at m p k ≡ arrivals_at m p n) (λ k a is quiet same. arrivals_next p k a is ∙ passed_arrived m.cells m.gathers (arrivals_at m p k) a quiet ∙ same) refl

  pub arrivals_behind : (p n : ℕ) (a : Act) → act_at m p n ≡ Some a → arrivals_at m p (behind m p n) ≡ arrived m.gathers (arrivals_at m p n) a
  arrivals_behind p n a next = arrivals_settled p (n + 1) ∙ arrivals_next p n a next

  pub arrivals_row : (p n : ℕ) → arrivals_at m p (behind_row m p n) ≡ arrivals_at m p n
  arrivals_row p n = arrivals_settled p (n + row_first m (drop n (m.acts p)))
      ∙ over_row p n (λ k. arrivals_at m p k ≡ arrivals_at m p n) (λ k a at joint same. arrivals_next p k a at ∙ row_arrived m (arrivals_at m p k) a joint ∙ same) refl

  pub shown_row : (w : Word) (p n : ℕ) → shown_at m w p (behind_row m p n) ≡ shown_at m w p n
  shown_row w p n = shown_settled w p (n + row_first m (drop n (m.acts p)))
      ∙ over_row p n (λ k. shown_at m w p k ≡ shown_at m w p n) (λ k a at joint same. shown_next w p k a at ∙ row_shown m w (shown_at m w p k) a joint ∙ same) refl
