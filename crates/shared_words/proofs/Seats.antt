-- What steps do to the seats.
use Rattle.std.proofs.Common.{◌≡◌, ◌≢◌, ℕ, ◌<◌, List, length, set, Some, refl, sym, ◌∙◌, ap, subst, inl, inr, ⊎_elim}
use Rattle.std.specs.Prelude.{slice_get}
use mathlib.Core.Option.{some}
use lib.ListN.{get_elem?}
use Rattle.std.proofs.lemmas.Bool.{cases_eq}
use Rattle.atomic_table.proofs.Lists.{at_set}
use Rattle.shared_words.specs.declared.roles.Role.{Role}
use Rattle.shared_words.specs.declared.roles.Role.TheVariants.{Main, Cell, Spent, Over}
use Rattle.shared_words.specs.declared.roles.Stage.{Stage}
use Rattle.shared_words.specs.declared.roles.Stage.TheVariants.{NotOut, Out, Ended}
use Rattle.spmd_model.specs.Lawful.{Moves, put}
use Rattle.spmd_model.specs.Protocols.{Protocol}
use Rattle.spmd_model.proofs.Places.{put_moves}
use Rattle.shared_words.specs.Seats.{Says, Rests, AreSeated}
use Rattle.shared_words.proofs.Stages.{stage_set}

module _ (m : Protocol) where
  -- another seat says the same where the places of other processors stay
  says_on : (stages : List Stage) (seats at after : ℕ → ℕ) (p k id j : ℕ) → Moves at after p k → seats p ≡ id → j ≢ id → (v : Role) → Says m stages seats at j v → Says m stages seats after j v
  says_on stages seats at after p k id j moves mine other (Main st) said = said
  says_on stages seats at after p k id j moves mine other (Cell q n misses seen) said = elim (cases_eq q p) [
    | inl e ↦ absurd (other (sym said.2 ∙ ap seats e ∙ mine))
    | inr ne ↦ (said.0, said.1, said.2, moves.others q ne ∙ said.3)
  ]
  says_on stages seats at after p k id j moves mine other Spent said = tt
  says_on stages seats at after p k id j moves mine other Over said = said

  rests_on : (stages : List Stage) (at after : ℕ → ℕ) (p k : ℕ) → Moves at after p k → slice_get stages p ≡ Some Out → (q : ℕ) (stage : Stage) → slice_get stages q ≡ Some stage → Rests m q (at q) stage → Rests m q (after q) stage
  rests_on stages at after p k moves out q NotOut is rest = elim (cases_eq q p) [
    | inl e ↦ let clash : Some NotOut ≡ Some Out = sym is ∙ ap (slice_get stages) e ∙ out in absurd (cc)
    | inr ne ↦ moves.others q ne ∙ rest
  ]
  rests_on stages at after p k moves out q Out is rest = tt
  rests_on stages at after p k moves out q Ended is rest = elim (cases_eq q p) [
    | inl e ↦ let clash : Some Ended ≡ Some Out = sym is ∙ ap (slice_get stages) e ∙ out in absurd (cc)
    | inr ne ↦ moves.others q ne ∙ rest
  ]

  -- a seat's processor comes to place k
  pub moves_on : (views : List Role) (at : ℕ → ℕ) (id p n misses seen k misses' seen' : ℕ) → AreSeated m views at → get_elem? views id ≡ some (Cell p n misses seen) → AreSeated m (set views id (Cell p k misses' seen')) (put at p k)
  moves_on views at id p n misses seen k misses' seen' seated here = let mine = seated.says id (Cell p n misses seen) here in record {
    stages = seated.stages;
    seats = seated.seats;
    all = seated.all;
    says = λ j v is. ⊎_elim
        (λ (t : (j ≡ id) × (Cell p k misses' seen' ≡ v)). subst (Says m seated.stages seated.seats (put at p k) j) t.1 (mine.0, mine.1, mine.2 ∙ sym t.0, (put_moves at p k).here))
        (λ (t : (j ≢ id) × (get_elem? views j ≡ some v)). says_on seated.stages seated.seats at (put at p k) p k id j (put_moves at p k) mine.2 t.0 v (seated.says j v t.1))
        (at_set views id j (Cell p k misses' seen') v is);
    rests = λ q stage is. rests_on seated.stages at (put at p k) p k (put_moves at p k) mine.1 q stage is (seated.rests q stage is);
  }

  -- another stage of p, where p has no seat out, or had one that is spent
  pub says_staged : (stages : List Stage) (seats after at : ℕ → ℕ) (p k j : ℕ) (stage : Stage) → p < length stages → Moves seats after p k → p < m.workers → slice_get stages p ≢ Some Ended → (v : Role) → ((mine : List Stage) → v ≢ Main mine) → ((n misses seen : ℕ) → v ≢ Cell p n misses seen)
      → Says m stages seats at j v → Says m (set stages p stage) after at j v
  says_staged stages seats after at p k j stage inside moves worker going (Main st) no_main none said = absurd (no_main st refl)
  says_staged stages seats after at p k j stage inside moves worker going (Cell q n misses seen) no_main none said = elim (cases_eq q p) [
    | inl e ↦ absurd (none n misses seen (ap (λ x. Cell x n misses seen) e))
    | inr ne ↦ (said.0, stage_set stages p q stage ne ∙ said.1, moves.others q ne ∙ said.2, said.3)
  ]
  says_staged stages seats after at p k j stage inside moves worker going Spent no_main none said = tt
  says_staged stages seats after at p k j stage inside moves worker going Over no_main none said = absurd (going (said p worker))
