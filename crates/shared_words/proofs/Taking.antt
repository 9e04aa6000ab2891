-- A table begins and ends, and seats are taken out and in.
use Rattle.std.proofs.Common.{◌≡◌, ◌≢◌, ℕ, zero, suc, ◌<◌, ◌≤◌, List, [], ◌∷◌, ◌++◌, length, map, replicate, set, Some, refl, sym, ◌∙◌, ap, subst, inl, inr, ⊎_elim, length-set, arith}
use Rattle.std.specs.Prelude.{pos, slice_get}
use mathlib.Core.Option.{some, some-injective, some-ne-none}
use lib.ListN.{get_elem?}
use Rattle.std.proofs.lemmas.Bool.{cases_eq}
use Rattle.std.proofs.lemmas.List.{get_or-replicate, length-replicate, take-replicate}
use Rattle.std.proofs.lemmas.Option.{slice_get_within, get_or_from_slice_get}
use Rattle.atomic_table.proofs.Lists.{at_set, set_else}
use Rattle.spmd_model.specs.Timelines.{counter}
use Rattle.spmd_model.specs.Protocols.{Protocol, arrivals_at}
use Rattle.spmd_model.specs.Laws.{Laws}
use Rattle.spmd_model.specs.Lawful.{put}
use Rattle.spmd_model.proofs.Places.{put_moves}
use Rattle.shared_words.specs.declared.roles.Role.{Role}
use Rattle.shared_words.specs.declared.roles.Role.TheVariants.{Main, Cell, Spent, Over}
use Rattle.shared_words.specs.declared.roles.Stage.{Stage}
use Rattle.shared_words.specs.declared.roles.Stage.TheVariants.{NotOut, Out, Ended}
use Rattle.shared_words.specs.Places.{passed_at, settled_at}
use Rattle.shared_words.specs.Words.{word_count, word_value, word_of, arrival_word, cells_in}
use Rattle.shared_words.specs.Seats.{Says, Rests}
use Rattle.shared_words.specs.Shown.{AreOne}
use Rattle.shared_words.proofs.Totals.{total_zero}
use Rattle.shared_words.proofs.WordSteps.{in_line, none_between, passed_between}
use Rattle.shared_words.proofs.Places.{shown_settled, arrivals_settled}
use Rattle.shared_words.proofs.Stages.{stage_set, stage_here, at_new}
use Rattle.shared_words.proofs.Seats.{says_staged}

-- the stage of another processor
rests_staged : (m : Protocol) (stages : List Stage) (at : ℕ → ℕ) (p : ℕ) (now : Stage) → p < length stages → Rests m p (at p) now → ((q : ℕ) (stage : Stage) → slice_get stages q ≡ Some stage → Rests m q (at q) stage)
    → (q : ℕ) (stage : Stage) → slice_get (set stages p now) q ≡ Some stage → Rests m q (at q) stage
rests_staged m stages at p now inside mine old q stage is = elim (cases_eq q p) [
  | inl e ↦ let same : Some now ≡ Some stage = sym (stage_here stages p now inside) ∙ ap (slice_get (set stages p now)) (sym e) ∙ is in
      let is' : now ≡ stage = cc in
      subst (λ (x : Stage). Rests m q (at q) x) is' (subst (λ (k : ℕ). Rests m k (at k) now) (sym e) mine)
  | inr ne ↦ old q stage (sym (stage_set stages p q now ne) ∙ is)
]

module _ (m : Protocol) (words : List ℕ) (roles : List Role) (r : AreOne m words roles) where
  pub splits : (id p : ℕ) (st : List Stage) → get_elem? roles id ≡ some (Main st) → slice_get st p ≡ Some NotOut → (after : AreOne m words (set roles id (Main (set st p Out)) ++ Cell p (settled_at m p 0) 0 0 ∷ [])) × (after.at ≡ r.at)
  splits id p st at idle =
      let seated = r.seated in let main = seated.says id (Main st) at in let stages : List Stage = seated.stages in
      let idle' : slice_get stages p ≡ Some NotOut = ap (λ l. slice_get l p) (sym main.1) ∙ idle in
      let inside : p < length stages = slice_get_within stages p NotOut idle' in let all = seated.all in let worker : p < m.workers = omega (arith, inside, all) in
      let left : Role = Main (set st p Out) in let right : Role = Cell p (settled_at m p 0) 0 0 in
      let vs : List Role = set roles id left in let end : ℕ = length vs in let seats' : ℕ → ℕ = put seated.seats p end in
      let stages' : List Stage = set stages p Out in (
        record {
          at = r.at;
          shown = r.shown;
          seated = record {
            stages = stages';
            seats = seats';
            all = length-set stages p Out ∙ all;
            says = λ j v is. ⊎_elim
                (λ (t : (j < length vs) × (get_elem? vs j ≡ some v)). ⊎_elim
                (λ (u : (j ≡ id) × (left ≡ v)). subst (Says m stages' seats' r.at j) u.1 (u.0 ∙ main.0, ap (λ l. set l p Out) main.1))
                (λ (u : (j ≢ id) × (get_elem? roles j ≡ some v)).
                let said = seated.says j v u.1 in
                says_staged m stages seated.seats seats' r.at p end j Out inside (put_moves seated.seats p end) worker (λ e. let clash : Some NotOut ≡ Some Ended = sym idle' ∙ e in absurd (cc)) v
                (λ mine e. u.0 ((subst (Says m stages seated.seats r.at j) e said).0 ∙ sym main.0))
                (λ n misses seen e. let clash : Some NotOut ≡ Some Out = sym idle' ∙ (subst (Says m stages seated.seats r.at j) e said).1 in absurd (cc)) said)
                (at_set roles id j left v t.1))
                (λ (t : (j ≡ length vs) × (right ≡ v)). subst (Says m stages' seats' r.at j) t.1
                (worker, stage_here stages p Out inside, (put_moves seated.seats p end).here ∙ sym t.0, seated.rests p NotOut idle'))
                (at_new vs right v j is);
            rests = rests_staged m stages r.at p Out inside tt seated.rests;
          };
        },
        refl,
      )

  pub joins : (id p n misses seen other : ℕ) (st : List Stage) → n ≡ length (m.acts p) → get_elem? roles id ≡ some (Main st) → other ≢ id → get_elem? (set roles id (Main (set st p Ended))) other ≡ some (Cell p n misses seen)
      → (after : AreOne m words (set (set roles id (Main (set st p Ended))) other Spent)) × (after.at ≡ r.at)
  joins id p n misses seen other st end at apart there =
      let seated = r.seated in let main = seated.says id (Main st) at in let stages : List Stage = seated.stages in
      let both : Role = Main (set st p Ended) in let vs : List Role = set roles id both in
      let theirs = seated.says other (Cell p n misses seen) (sym (set_else roles id other both apart) ∙ there) in
      let inside : p < length stages = slice_get_within stages p Out theirs.1 in
      let stages' : List Stage = set stages p Ended in (
        record {
          at = r.at;
          shown = r.shown;
          seated = record {
            stages = stages';
            seats = seated.seats;
            all = length-set stages p Ended ∙ seated.all;
            says = λ j v is. ⊎_elim
                (λ (t : (j ≡ other) × (Spent ≡ v)). subst (Says m stages' seated.seats r.at j) t.1 tt)
                (λ (t : (j ≢ other) × (get_elem? vs j ≡ some v)). ⊎_elim
                (λ (u : (j ≡ id) × (both ≡ v)). subst (Says m stages' seated.seats r.at j) u.1 (u.0 ∙ main.0, ap (λ l. set l p Ended) main.1))
                (λ (u : (j ≢ id) × (get_elem? roles j ≡ some v)).
                let said = seated.says j v u.1 in
                says_staged m stages seated.seats seated.seats r.at p (seated.seats p) j Ended inside record { here = refl; others = λ q ne. refl } theirs.0 (λ e. let clash : Some Out ≡ Some Ended = sym theirs.1 ∙ e in absurd (cc)) v
                (λ mine e. u.0 ((subst (Says m stages seated.seats r.at j) e said).0 ∙ sym main.0))
                (λ k mi se e. t.0 (sym (subst (Says m stages seated.seats r.at j) e said).2 ∙ theirs.2)) said)
                (at_set roles id j both v t.1))
                (at_set vs other j Spent v is);
            rests = rests_staged m stages r.at p Ended inside (theirs.3 ∙ end) seated.rests;
          };
        },
        refl,
      )

  -- a seat more, which says nothing of processors
  pub spares : (after : AreOne m words (roles ++ Spent ∷ [])) × (after.at ≡ r.at)
  spares =
      let seated = r.seated in (
        record {
          at = r.at;
          shown = r.shown;
          seated = record {
            stages = seated.stages;
            seats = seated.seats;
            all = seated.all;
            says = λ j v is. ⊎_elim
                (λ (t : (j < length roles) × (get_elem? roles j ≡ some v)). seated.says j v t.1)
                (λ (t : (j ≡ length roles) × (Spent ≡ v)). subst (Says m seated.stages seated.seats r.at j) t.1 tt)
                (at_new roles Spent v j is);
            rests = seated.rests;
          };
        },
        refl,
      )

  -- a seat more, which knows that all have ended
  pub ends : (id : ℕ) (st : List Stage) → get_elem? roles id ≡ some (Main st) → ((p : ℕ) → p < m.workers → slice_get st p ≡ Some Ended) → (after : AreOne m words (roles ++ Over ∷ [])) × (after.at ≡ r.at)
  ends id st at ended =
      let seated = r.seated in let main = seated.says id (Main st) at in (
        record {
          at = r.at;
          shown = r.shown;
          seated = record {
            stages = seated.stages;
            seats = seated.seats;
            all = seated.all;
            says = λ j v is. ⊎_elim
                (λ (t : (j < length roles) × (get_elem? roles j ≡ some v)). seated.says j v t.1)
                (λ (t : (j ≡ length roles) × (Over ≡ v)). subst (Says m seated.stages seated.seats r.at j) t.1 (λ q lt. ap (λ l. slice_get l q) (sym main.1) ∙ ended q lt))
                (at_new roles Over v j is);
            rests = seated.rests;
          };
        },
        refl,
      )

  pub closes : Laws m → (id : ℕ) → get_elem? roles id ≡ some Over → cells_in m words ≡ m.last
  closes laws id at = laws.ended (cells_in m words) r.at r.shown.cells (λ p lt. r.seated.rests p Ended (r.seated.says id Over at p lt))

module _ (m : Protocol) (laws : Laws m) where
  -- all words are 0, and no seat is out
  pub opens : AreOne m (replicate (word_count m) 0) (Main (replicate m.workers NotOut) ∷ [])
  opens =
      let at : ℕ → ℕ = λ p. settled_at m p 0 in let stages : List Stage = replicate m.workers NotOut in record {
        at = at;
        shown = record {
          wide = length-replicate (word_count m) 0;
          cells = subst (λ cs. m.lawful cs at) (sym (ap (map word_value) (take-replicate m.cells (word_count m) 0 (omega arith)) ∙ map_zeros m.cells)) (laws.first_settled at (λ p _. refl));
          counters = λ w q lt. get_or-replicate (word_count m) (word_of m w q) 0 0 (let near = in_line w in omega (arith, lt, near)) ∙ sym (shown_settled m w q 0);
          gathered = record {
            sum = get_or-replicate (word_count m) (arrival_word m) 0 0 (omega arith) ∙ sym (total_zero (λ q. arrivals_at m q (at q)) m.workers (λ q. arrivals_settled m q 0));
            passed = λ p q lp lq. let most : passed_at m p (at p) ≤ arrivals_at m p (at p) = (passed_between m p (at p)).0 in let none : arrivals_at m p (at p) ≡ 0 = arrivals_settled m p 0 in omega arith;
          };
          awaited = λ p i q number lp lt is g. absurd (none_between m p 0 i counter q number (omega arith) lt is);
        };
        seated = record {
          stages = stages;
          seats = λ p. 0;
          all = length-replicate m.workers NotOut;
          says = λ j v is. first_says at j v is;
          rests = λ p stage is. subst (Rests m p (at p)) (is_idle m.workers p stage is) refl;
        };
      }
    where
      map_zeros : (n : ℕ) → map word_value (replicate n 0) ≡ replicate n (pos 0)
      map_zeros zero = refl
      map_zeros (suc n) = ap (λ l. pos 0 ∷ l) (map_zeros n)

      first_says : (at : ℕ → ℕ) (j : ℕ) (v : Role) → get_elem? (Main (replicate m.workers NotOut) ∷ []) j ≡ some v → Says m (replicate m.workers NotOut) (λ p. 0) at j v
      first_says at zero v is = subst (Says m (replicate m.workers NotOut) (λ p. 0) at 0) (some-injective (Main (replicate m.workers NotOut)) v is) (refl, refl)
      first_says at (suc j) v is = absurd (some-ne-none v (sym is))

      is_idle : (n p : ℕ) (stage : Stage) → slice_get (replicate n NotOut) p ≡ Some stage → NotOut ≡ stage
      is_idle n p stage is = sym (get_or-replicate n p NotOut stage (subst (λ k. p < k) (length-replicate n NotOut) (slice_get_within (replicate n NotOut) p stage is))) ∙ get_or_from_slice_get (replicate n NotOut) p stage stage is
