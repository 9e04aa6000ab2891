use Rattle.std.proofs.Common.{◌≡◌, false, Some, None, Option, [], suc, ℕ, true, List, ◌∷◌, ◌++◌, map, refl, inl, inr, sym, subst, ap, ◌∙◌, arith}
use Rattle.std.proofs.lemmas.Bool.{cases_Bool, cases_lt}
use Rattle.nest_walk.specs.InstancesLeft.{instances_left}
use Rattle.owner_partition.specs.PhasesLeft.{phases_left, phases_passed}
use Rattle.sync_plan.specs.ProcessorSets.{members}
use Rattle.turns.specs.CounterTurns.{CounterTurn, awaits, begins, boundary_turns, posts, counter_turns, works}
use Rattle.turns.specs.CountersLeft.{AreSoundCounters, IsBegun, at_turn, begun_by, come_of, counters_left, counters_plan, counters_rounds, counters_tree}
use Rattle.turns.specs.declared.counters.CounterTurns.{CounterTurns}
use Rattle.turns.proofs.CounterLists.{begin_first, come_is, some_word, work_first}
use Rattle.turns.proofs.counters.CounterTurns.place.Goals as goal

no_post : {n e : ℕ} {xs ys : List CounterTurn} → posts n ∷ xs ≡ begins e ∷ ys → ⊥
no_post is = absurd (cc)

no_await : {on wanted e : ℕ} {xs ys : List CounterTurn} → awaits on wanted ∷ xs ≡ begins e ∷ ys → ⊥
no_await is = absurd (cc)

same_phase : {d e : ℕ} {xs ys : List CounterTurn} → begins d ∷ xs ≡ begins e ∷ ys → d ≡ e
same_phase is = cc

module _ (c : CounterTurns) (sound : AreSoundCounters c) (some : at_turn c ≡ true) (e : ℕ) (rest : List CounterTurn) (is : counters_left c ≡ begins e ∷ rest) where
  abbrev own : List CounterTurn
  own = map works (instances_left c.own) ++ counter_turns (counters_tree c) (counters_plan c) c.processor (suc (phases_passed c.phases)) (phases_left c.phases)

  abbrev come : List CounterTurn
  come = map works (come_of (counters_tree c) (counters_rounds c) c.come) ++ own

  -- nothing of the boundary is left, so the phase begins
  bare : c.posts ≡ false → c.awaits ≡ 0 → (o : Option ℕ) → c.begins ≡ o → c.begins ≡ Some e
  bare silent no_word (Some d) begin = begin ∙ ap (λ k. Some k) (same_phase (sym (begin_first c.number c.awaits d c.posts c.begins come silent no_word begin) ∙ is))
  bare silent no_word None begin =
      let first = work_first c.number c.awaits c.posts c.begins (counters_tree c) (counters_rounds c) c.come own silent no_word begin (come_is c.posts c.awaits c.begins c.come silent no_word begin some) sound.one in
      let clash : works first.0 ∷ (boundary_turns c.number c.posts (members c.awaits) ++ (begun_by c.begins ++ own)) ≡ begins e ∷ rest = sym first.1 ∙ is in
      absurd (cc)

  -- the phase behind the boundary, or an await in front of it
  front : c.posts ≡ false → (qs : List ℕ) → members c.awaits ≡ qs → c.begins ≡ Some (suc c.number) → c.begins ≡ Some e
  front silent [] none begin = begin ∙ ap (λ k. Some k) (same_phase (sym (ap (λ b. boundary_turns c.number b (members c.awaits) ++ (begun_by c.begins ++ come)) silent ∙ ap (λ ms. map (λ q. awaits q c.number) ms ++ (begun_by c.begins ++ come)) none ∙ ap (λ o. begun_by o ++ come) begin) ∙ is))
  front silent (q ∷ qs) some_one begin = absurd (no_await (sym (ap (λ b. boundary_turns c.number b (members c.awaits) ++ (begun_by c.begins ++ come)) silent ∙ ap (λ ms. map (λ q. awaits q c.number) ms ++ (begun_by c.begins ++ come)) some_one) ∙ is))

  pub begins_now : c.begins ≡ Some e
  begins_now = elim (cases_Bool c.posts) [
    | inl posting ↦ absurd (no_post (sym (ap (λ b. boundary_turns c.number b (members c.awaits) ++ (begun_by c.begins ++ come)) posting) ∙ is))
    | inr silent ↦ elim (cases_lt 0 c.awaits) [
      | inl word ↦ front silent (members c.awaits) refl (sound.boundary (some_word c.posts c.awaits word)).phase
      | inr none ↦ bare silent (omega (arith, none)) c.begins refl
    ]
  ]

pub returns : goal.returns
returns c = λ e rest is.
    let t = c.args.self.now in
    subst (IsBegun (counters_tree t) (counters_plan t) t.place) (begins_now t c.requires.sound c.requires.some e rest is) c.requires.sound.begun
