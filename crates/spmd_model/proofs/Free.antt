-- Of the awaits that stand next, whoever stands at the foremost boundary awaits nothing in vain.
use Rattle.std.proofs.Common.{◌≡◌, ℕ, zero, suc, ◌+◌, ◌<◌, ◌≤◌, ◌⊎◌, Bool, List, length, get_or, Option, Some, None, refl, ap, sym, subst, ◌∙◌, inl, inr, ⊎_elim, arith}
use Rattle.std.specs.Prelude.{slice_get}
use Rattle.std.specs.List.{Contains}
use Rattle.std.proofs.lemmas.Bool.{cases_eq, cases_lt}
use Rattle.std.proofs.lemmas.Option.{slice_get-get_or, slice_get_within}
use Rattle.list_lemmas.proofs.Elements.{contains_at}
use Rattle.spmd_model.specs.Timelines.{Machine, Word, counter, boundary}
use Rattle.spmd_model.specs.Acts.{Act, post, await, load, store, add, print, act_at, acts_of}
use Rattle.spmd_model.specs.Ordered.{IsSound}
use Rattle.spmd_model.specs.Lawful.{IsPosted, acts_in_front}
use Rattle.spmd_model.specs.Free.{AreAllPosted, IsFree}
use Rattle.spmd_model.proofs.Lists.{place_of}
use Rattle.spmd_model.proofs.ActLists.{act_of_moment, found}
use Rattle.spmd_model.proofs.MomentActs.{IsAwaitIn, post_first, tells}
use Rattle.spmd_model.proofs.Chains.{one_boundary}
use Rattle.spmd_model.proofs.Unstuck.{passed_post}

module _ (m : Machine) (at : ℕ → ℕ) (sound : IsSound m) where
  -- whose next act is no await
  goes : (p : ℕ) (act : Act) → p < m.workers → act_at m p (at p) ≡ Some act → ((w : Word) (on n : ℕ) → act ≡ await w on n → ⊥) → IsFree m at
  goes p act lt next apart = record {
    processor = p;
    below = lt;
    inside = slice_get_within (acts_of m p) (at p) act next;
    free = λ v. apart v.0 v.1 v.2 (let same : Some act ≡ Some (await v.0 v.1 v.2) = sym next ∙ v.3 in cc);
  }

  -- whose awaits at the boundary where the next one stands are all posted
  passes : (w : Word) (p on n t : ℕ) (posts : ℕ → Bool) (awaits : ℕ → List ℕ) → p < m.workers → act_at m p (at p) ≡ Some (await w on n) → slice_get m.timeline t ≡ Some (boundary w n posts awaits) → ((q : ℕ) → Contains (awaits p) q → IsPosted (acts_of m q) w n (at q)) → IsFree m at
  passes w p on n t posts awaits lt next there all = record {
    processor = p;
    below = lt;
    inside = slice_get_within (acts_of m p) (at p) (await w on n) next;
    free = λ v.
        let same : Some (await w on n) ≡ Some (await v.0 v.1 v.2) = sym next ∙ v.3 in
        let word : w ≡ v.0 = cc in let number : n ≡ v.2 = cc in
        v.4 (subst (λ x. AreAllPosted (acts_of m) at p x v.2) word (subst (λ x. AreAllPosted (acts_of m) at p w x) number (λ i q e. all q (awaited i q e))));
  }
    where
      awaited : (i q : ℕ) → act_at m p i ≡ Some (await w q n) → Contains (awaits p) q
      awaited i q e =
          let f = found m p i (await w q n) e in
          let a : IsAwaitIn w p q n f.moment = tells p f.place f.index f.moment (await w q n) f.is in
          let here : slice_get m.timeline f.place ≡ Some (boundary w n a.posts a.awaits) = f.at ∙ ap Some a.moment in
          let place : f.place ≡ t = one_boundary m w f.place t n a.posts posts a.awaits awaits sound here there in
          let both : Some (boundary w n a.posts a.awaits) ≡ Some (boundary w n posts awaits) = sym here ∙ ap (slice_get m.timeline) place ∙ there in
          let same : a.awaits ≡ awaits = cc in
          subst (λ (f : ℕ → List ℕ). Contains (f p) q) same a.awaited

  -- somebody who is awaited there has posted, or somebody is free, where whoever awaits in front of that boundary leads to one
  one : (w : Word) (p q n t : ℕ) (posts : ℕ → Bool) (awaits : ℕ → List ℕ) → p < m.workers → slice_get m.timeline t ≡ Some (boundary w n posts awaits) → Contains (awaits p) q →
      ((v : Word) (r o i : ℕ) (e : act_at m r (at r) ≡ Some (await v o i)) → r < m.workers → (found m r (at r) (await v o i) e).place < t → IsFree m at) → IsPosted (acts_of m q) w n (at q) ⊎ IsFree m at
  one w p q n t posts awaits lt there among further = by (act_at m q (at q)) refl
    where
      does : (q < m.workers) × (posts q ≡ Bool.true)
      does = sound.awaited w t n p q posts awaits there lt among

      post_is : act_at m q (acts_in_front m q t + 0) ≡ Some (post w n)
      post_is = act_of_moment m q t 0 (boundary w n posts awaits) (post w n) there (post_first w q t n posts awaits does.1)

      here : acts_in_front m q t + 0 ≡ acts_in_front m q t
      here = omega arith

      by : (act : Option Act) → act_at m q (at q) ≡ act → IsPosted (acts_of m q) w n (at q) ⊎ IsFree m at
      by None e = inl (acts_in_front m q t + 0, passed_post m w q (at q) (acts_in_front m q t + 0) t n posts awaits sound there here post_is (inl e), post_is)
      by (Some (post v k)) e = inr (goes q (post v k) does.0 e (λ x o i c. absurd (cc)))
      by (Some (await v o i)) e = ⊎_elim
          (λ less. inr (further v q o i e does.0 less))
          (λ more. inl (acts_in_front m q t + 0, passed_post m w q (at q) (acts_in_front m q t + 0) t n posts awaits sound there here post_is (inr (v, o, i, e, more)), post_is))
          (cases_lt (found m q (at q) (await v o i) e).place t)
      by (Some (load x c)) e = inr (goes q (load x c) does.0 e (λ y o i z. absurd (cc)))
      by (Some (store x c)) e = inr (goes q (store x c) does.0 e (λ y o i z. absurd (cc)))
      by (Some (add x c)) e = inr (goes q (add x c) does.0 e (λ y o i z. absurd (cc)))
      by (Some (print x)) e = inr (goes q (print x) does.0 e (λ y o i z. absurd (cc)))

  -- so have the first k of them
  each : (w : Word) (p n t : ℕ) (posts : ℕ → Bool) (awaits : ℕ → List ℕ) → p < m.workers → slice_get m.timeline t ≡ Some (boundary w n posts awaits) →
      ((v : Word) (r o i : ℕ) (e : act_at m r (at r) ≡ Some (await v o i)) → r < m.workers → (found m r (at r) (await v o i) e).place < t → IsFree m at) →
      (k : ℕ) → k ≤ length (awaits p) → ((i q : ℕ) → i < k → slice_get (awaits p) i ≡ Some q → IsPosted (acts_of m q) w n (at q)) ⊎ IsFree m at
  each w p n t posts awaits lt there further zero le = inl (λ i q none. absurd (omega (arith, none)))
  each w p n t posts awaits lt there further (suc k) le = elim (each w p n t posts awaits lt there further k (omega (arith, le))) [
    | inr free ↦ inr free
    | inl before ↦
        let q : ℕ = get_or (awaits p) k 0 in
        let is : slice_get (awaits p) k ≡ Some q = slice_get-get_or (awaits p) k 0 (omega (arith, le)) in
        elim (one w p q n t posts awaits lt there (contains_at (awaits p) k q is) further) [
          | inr free ↦ inr free
          | inl posted ↦ inl (λ i r less e. elim (cases_eq i k) [
            | inl same ↦ (let twice : Some q ≡ Some r = sym is ∙ ap (slice_get (awaits p)) (sym same) ∙ e in let one : q ≡ r = cc in subst (λ (x : ℕ). IsPosted (acts_of m x) w n (at x)) one posted)
            | inr other ↦ before i r (omega (arith, less, other)) e
          ])
        ]
  ]

  waits : (fuel : ℕ) (w : Word) (p on n : ℕ) → p < m.workers → (next : act_at m p (at p) ≡ Some (await w on n)) → (found m p (at p) (await w on n) next).place < fuel → IsFree m at
  waits zero w p on n lt next less = absurd (omega (arith, less))
  waits (suc fuel) w p on n lt next less =
      let f = found m p (at p) (await w on n) next in
      let a : IsAwaitIn w p on n f.moment = tells p f.place f.index f.moment (await w on n) f.is in
      let there : slice_get m.timeline f.place ≡ Some (boundary w n a.posts a.awaits) = f.at ∙ ap Some a.moment in
      elim (each w p n f.place a.posts a.awaits lt there (λ v r o i e below front. waits fuel v r o i below e (omega (arith, less, front))) (length (a.awaits p)) (omega arith)) [
        | inr free ↦ free
        | inl all ↦ passes w p on n f.place a.posts a.awaits lt next there (λ q among. let h = place_of (a.awaits p) q among in all h.0 q (slice_get_within (a.awaits p) h.0 q h.1) h.1)
      ]

  any : (p : ℕ) (act : Act) → p < m.workers → act_at m p (at p) ≡ Some act → IsFree m at
  any p (post w n) lt next = goes p (post w n) lt next (λ x o i c. absurd (cc))
  any p (await w on n) lt next = waits (suc (found m p (at p) (await w on n) next).place) w p on n lt next (omega arith)
  any p (load t c) lt next = goes p (load t c) lt next (λ x o i z. absurd (cc))
  any p (store t c) lt next = goes p (store t c) lt next (λ x o i z. absurd (cc))
  any p (add t c) lt next = goes p (add t c) lt next (λ x o i z. absurd (cc))
  any p (print t) lt next = goes p (print t) lt next (λ x o i z. absurd (cc))

  ended_below : (n : ℕ) → n ≤ m.workers → ((p : ℕ) → p < n → length (acts_of m p) ≤ at p) ⊎ IsFree m at
  ended_below zero le = inl (λ p lt. absurd (omega (arith, lt)))
  ended_below (suc n) le = elim (ended_below n (omega (arith, le))) [
    | inr free ↦ inr free
    | inl ended ↦ elim (cases_lt (at n) (length (acts_of m n))) [
      | inl inside ↦ inr (any n (get_or (acts_of m n) (at n) (post counter 0)) (omega (arith, le)) (slice_get-get_or (acts_of m n) (at n) (post counter 0) inside))
      | inr past ↦ inl (λ p lt. elim (cases_eq p n) [
        | inl e ↦ subst (λ (k : ℕ). length (acts_of m k) ≤ at k) (sym e) past
        | inr ne ↦ ended p (omega (arith, lt, ne))
      ])
    ]
  ]

  pub ended_or_free : ((p : ℕ) → p < m.workers → length (acts_of m p) ≤ at p) ⊎ IsFree m at
  ended_or_free = ended_below m.workers (omega arith)
