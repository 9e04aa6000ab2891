use Rattle.std.proofs.Common.{◌≡◌, false, ◌||◌, ◌==◌, not, Some, None, Option, [], suc, ℕ, true, List, ◌∷◌, ◌++◌, map, refl, inl, inr, sym, ap, ◌∙◌, arith}
use Rattle.std.proofs.lemmas.Bool.{cases_Bool, cases_lt}
use Rattle.nest_walk.specs.InstancesLeft.{instances_left}
use Rattle.owner_partition.specs.PhasesLeft.{phases_left, phases_passed}
use Rattle.sync_plan.specs.ProcessorSets.{members}
use Rattle.turns.specs.CounterTurns.{CounterTurn, awaits, begins, boundary_turns, posts, counter_turns, works}
use Rattle.turns.specs.CountersLeft.{AreSoundCounters, StandsAt, at_turn, begun_by, come_of, counters_left, counters_plan, counters_rounds, counters_tree}
use Rattle.turns.specs.declared.counters.CounterTurns.{CounterTurns}
use Rattle.turns.proofs.CounterLists.{await_stands, begin_first, come_is, same_number, some_word, work_first}
use Rattle.turns.proofs.counters.CounterTurns.phase.Goals as goal

no_await : {n on wanted : ℕ} {xs ys : List CounterTurn} → awaits on wanted ∷ xs ≡ posts n ∷ ys → ⊥
no_await is = absurd (cc)

no_beginning : {n e : ℕ} {xs ys : List CounterTurn} → begins e ∷ xs ≡ posts n ∷ ys → ⊥
no_beginning is = absurd (cc)

same_post : {n k : ℕ} {xs ys : List CounterTurn} → posts k ∷ xs ≡ posts n ∷ ys → k ≡ n
same_post is = cc

module _ (c : CounterTurns) (sound : AreSoundCounters c) (some : at_turn c ≡ true) where
  abbrev own : List CounterTurn
  own = map works (instances_left c.own) ++ counter_turns (counters_tree c) (counters_plan c) c.processor (suc (phases_passed c.phases)) (phases_left c.phases)

  abbrev come : List CounterTurn
  come = map works (come_of (counters_tree c) (counters_rounds c) c.come) ++ own

  -- a post comes next
  posted : (number : ℕ) (rest : List CounterTurn) → counters_left c ≡ posts number ∷ rest → (c.begins ≡ Some (suc c.number)) × (c.number ≡ number)
  posted number rest is = elim (cases_Bool c.posts) [
    | inl posting ↦ ((sound.boundary (ap (λ b. b || not (c.awaits == 0)) posting)).phase, same_post (sym (ap (λ b. boundary_turns c.number b (members c.awaits) ++ (begun_by c.begins ++ come)) posting) ∙ is))
    | inr silent ↦ elim (cases_lt 0 c.awaits) [
      | inl word ↦ absurd (front silent (sound.boundary (some_word c.posts c.awaits word)).phase (members c.awaits) refl)
      | inr none ↦ absurd (bare silent (omega (arith, none)) c.begins refl)
    ]
  ]
    where
      front : c.posts ≡ false → c.begins ≡ Some (suc c.number) → (qs : List ℕ) → members c.awaits ≡ qs → ⊥
      front silent begin [] none = no_beginning (sym (ap (λ b. boundary_turns c.number b (members c.awaits) ++ (begun_by c.begins ++ come)) silent ∙ ap (λ ms. map (λ q. awaits q c.number) ms ++ (begun_by c.begins ++ come)) none ∙ ap (λ o. begun_by o ++ come) begin) ∙ is)
      front silent begin (q ∷ qs) some_one = no_await (sym (ap (λ b. boundary_turns c.number b (members c.awaits) ++ (begun_by c.begins ++ come)) silent ∙ ap (λ ms. map (λ q. awaits q c.number) ms ++ (begun_by c.begins ++ come)) some_one) ∙ is)

      bare : c.posts ≡ false → c.awaits ≡ 0 → (o : Option ℕ) → c.begins ≡ o → ⊥
      bare silent no_word (Some e) begin = no_beginning (sym (begin_first c.number c.awaits e c.posts c.begins come silent no_word begin) ∙ is)
      bare silent no_word None begin =
          let first = work_first c.number c.awaits c.posts c.begins (counters_tree c) (counters_rounds c) c.come own silent no_word begin (come_is c.posts c.awaits c.begins c.come silent no_word begin some) sound.one in
          let clash : works first.0 ∷ (boundary_turns c.number c.posts (members c.awaits) ++ (begun_by c.begins ++ own)) ≡ posts number ∷ rest = sym first.1 ∙ is in
          absurd (cc)

  -- an await comes next
  awaited : (on wanted : ℕ) (rest : List CounterTurn) → counters_left c ≡ awaits on wanted ∷ rest → (c.begins ≡ Some (suc c.number)) × (c.number ≡ wanted)
  awaited on wanted rest is =
      let stands = await_stands c on wanted rest sound some is in
      let phase = (sound.boundary (some_word c.posts c.awaits stands.1)).phase in
      let here = ap (λ b. boundary_turns c.number b (members c.awaits) ++ (begun_by c.begins ++ come)) stands.0 ∙ ap (λ o. map (λ q. awaits q c.number) (members c.awaits) ++ (begun_by o ++ come)) phase in
      (phase, sym (same_number c.number on wanted (suc c.number) (members c.awaits) come rest (sym here ∙ is)))

  pub stands : (number : ℕ) → StandsAt c number → c.begins ≡ Some (suc number)
  stands number at = elim at [
    | inl post ↦ (let p = posted number post.0 post.1 in p.0 ∙ ap (λ n. Some (suc n)) p.1)
    | inr await ↦ (let p = awaited await.0 number await.1.0 await.1.1 in p.0 ∙ ap (λ n. Some (suc n)) p.1)
  ]

pub unreachable-requires : goal.unreachable-requires
unreachable-requires c =
    let t = c.args.self.now in
    c.in_default.not-Some (suc c.requires.next.0) (stands t c.requires.sound c.requires.some c.requires.next.0 c.requires.next.1)

pub returns : goal.returns
returns c = λ number at.
    let t = c.args.self.now in
    let both : Some c.in-Some.phase ≡ Some (suc number) = sym c.in-Some.is ∙ stands t c.requires.sound c.requires.some number at in
    cc
