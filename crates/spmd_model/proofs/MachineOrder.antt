-- A plan that fits has a sound timeline in either style, and an ordered plan of a program in range an ordered one.
use Rattle.std.proofs.Common.{◌≡◌, ◌≢◌, ℕ, suc, ◌+◌, ◌-◌, ◌*◌, ◌<◌, ◌≤◌, ◌⊎◌, true, false, true≢false, List, [], ◌∷◌, Some, refl, ap, sym, subst, ◌∙◌, inl, inr, arith, ℤ}
use Rattle.std.specs.Prelude.{slice_get}
use Rattle.std.proofs.lemmas.Bool.{cases_eq, cases_lt}
use Rattle.std.proofs.lemmas.Option.{slice_get_within}
use Rattle.list_lemmas.proofs.Gets.{one_element}
use Rattle.nest_tree.specs.Layout.{cell_count}
use Rattle.nest_tree.specs.Tree.{Tree, param_values}
use Rattle.nest_tree.specs.WellFormed.{IsWellFormed}
use Rattle.nest_model.specs.Instances.{Instance}
use Rattle.nest_model.specs.Ranges.{IsInRange}
use Rattle.nest_model.specs.Visits.{Visit}
use Rattle.owner_partition.specs.Phases.{executions, visit_instances, phases}
use Rattle.sync_plan.specs.declared.plan.Plan.{Plan}
use Rattle.sync_plan.specs.Conflicts.{ConflictUnder, owner_under}
use Rattle.sync_plan.specs.Fit.{IsFit}
use Rattle.sync_plan.specs.Ordered.{IsChain as IsPlanChain, IsOrdered, Hop as PlanHop}
use Rattle.sync_plan.specs.Own.{is_cell_of, own_loop}
use Rattle.sync_plan.specs.Stored.{AreStoredFirst}
use Rattle.sync_plan.proofs.Fits.{fit_parts}
use Rattle.spmd_model.specs.Lawful.{IsLawful, acts_in_front}
use Rattle.spmd_model.specs.Closings.{last_owner, phase_owner}
use Rattle.spmd_model.specs.Ordered.{Conflict, Hop, IsChain, IsOrderedMachine, IsSound, Needs}
use Rattle.spmd_model.specs.Rounds.{rounds_of}
use Rattle.spmd_model.specs.Machines.{machine_by, part_place, parts_by, timeline_by, is_by_signals}
use Rattle.spmd_model.specs.Timelines.{Job, job}
use Rattle.spmd_model.specs.declared.style.Style.{Style}
use Rattle.spmd_model.proofs.OwnTexts.{not_both, own_in_phase}
use Rattle.spmd_model.proofs.Parts.{part_rises, passed_before}
use Rattle.spmd_model.proofs.RoundChains.{rounds_enough, posted_by_all}
use Rattle.spmd_model.proofs.Stands.{Has, IsOwned, Shows, Sorts, an_instance, a_keeping, a_total, Stands, execution_place, execution_rises, execution_there, in_phase, job_owned, job_stands}
use Rattle.spmd_model.proofs.MachineChains.{chain_by, jobs_at, jobs_end, last_phase, barrier_rounds}
use Rattle.spmd_model.proofs.MachinePlaces.{IsJobIn, front_length, job_in, first_round}
use Rattle.spmd_model.proofs.MachineSound.{awaited_on, numbers_rise}

-- the execution for which a job on the timeline stands
pub record IsFor (style : Style) (tree : Tree) (plan : Plan) (t : ℕ) (j : Job) : Type 0 where
  pub at : IsJobIn style tree plan t j
  pub stands : Stands tree plan (1 + at.number) at.visit j
  pub number : ℕ
  pub execution : slice_get (executions tree plan.cut.marks) number ≡ Some (in_phase (1 + at.number) at.visit stands.instance)
  pub number_is : number ≡ execution_place (param_values tree) (phases tree plan.cut.marks) at.number + stands.index

pub stands_for : (style : Style) (tree : Tree) (plan : Plan) (t : ℕ) (j : Job) → IsWellFormed tree → IsFit tree plan → AreStoredFirst tree plan → slice_get (timeline_by style tree plan) t ≡ Some (job j) → IsFor style tree plan t j
stands_for style tree plan t j formed fits stored at =
    let i = job_in style tree plan t j at in
    let s = job_stands tree plan i.number i.visit formed fits i.at stored i.index j i.is in
    record {
      at = i;
      stands = s;
      number = execution_place (param_values tree) (phases tree plan.cut.marks) i.number + s.index;
      execution = execution_there (param_values tree) 1 (phases tree plan.cut.marks) i.number s.index i.visit s.instance i.at s.at;
      number_is = refl;
    }

-- a job's owner and cells, whether or not what is private is stored first
pub owned_on : (style : Style) (tree : Tree) (plan : Plan) (t : ℕ) (j : Job) → IsWellFormed tree → IsFit tree plan → slice_get (timeline_by style tree plan) t ≡ Some (job j) → IsOwned tree plan j
owned_on style tree plan t j formed fits at =
    let i = job_in style tree plan t j at in
    job_owned tree plan i.number i.visit formed fits i.at i.index j i.is

pub sound_by : (style : Style) (tree : Tree) (plan : Plan) → IsWellFormed tree → IsFit tree plan → IsSound (machine_by style tree plan)
sound_by style tree plan formed fits = record {
  rising = numbers_rise style tree plan;
  awaited = awaited_on style tree plan;
  owned = λ t j at. (owned_on style tree plan t j formed fits at).worker;
  printed = λ t j at none. (owned_on style tree plan t j formed fits at).printed none;
}

-- ---- conflicts

-- a cell of a conflict is had by both, and one of them changes it
cell_had : (i j : Job) (c : Conflict i j) → Has i c.cell × Has j c.cell × ((i.store ≡ Some c.cell) ⊎ (j.store ≡ Some c.cell))
cell_had i j c = by c.clash
  where
    has : (k : Job) → Needs k c.cell → Has k c.cell
    has k (inl among) = inl among
    has k (inr h) = inr h.0

    by : (Needs i c.cell × (j.store ≡ Some c.cell)) ⊎ ((i.store ≡ Some c.cell) × Needs j c.cell) → Has i c.cell × Has j c.cell × ((i.store ≡ Some c.cell) ⊎ (j.store ≡ Some c.cell))
    by (inl (needs, stores)) = (has i needs, inr stores, inr stores)
    by (inr (stores, needs)) = (inr stores, has j needs, inl stores)

-- an own cell is one processor's
one_owner : (cells a b k l c : ℕ) → k < 32 → l < 32 → c ≡ cells + (32 * a + k) → c ≡ cells + (32 * b + l) → a ≡ b
one_owner cells a b k l c lt lt' e e' = omega (arith, lt, lt', e, e')

-- a chain within one phase leads nowhere
no_chain : (tree : Tree) (plan : Plan) (q e : ℕ) (hops : List PlanHop) (p : ℕ) → IsPlanChain tree plan q e hops p e → q ≡ p
no_chain tree plan q e [] p (same, le) = same
no_chain tree plan q e (h ∷ hops) p (lt, among, rest) = absurd (let last = last_phase tree plan h.processor h.phase hops p e rest in omega (arith, lt, last))

module _ (style : Style) (tree : Tree) (plan : Plan) (formed : IsWellFormed tree) (fits : IsFit tree plan) (ranges : IsInRange tree) (ordered : IsOrdered tree plan) where
  -- two jobs of one phase that conflict have one owner
  module _ (k : ℕ) (v : Visit) (at : slice_get (phases tree plan.cut.marks) k ≡ Some v) (i j : Job) (x : Stands tree plan (1 + k) v i) (y : Stands tree plan (1 + k) v j) (c : ℕ) (below : c < cell_count tree) where
    -- two instances
    same_instances : Has i c → Has j c → (i.store ≡ Some c) ⊎ (j.store ≡ Some c) → is_cell_of tree (own_loop tree plan v.place).sums c ≡ false → i.owner ≡ j.owner
    same_instances has_i has_j stores plain = elim (cases_lt x.index y.index) [
      | inl before ↦ elim (cases_eq i.owner j.owner) [
        | inl same ↦ same
        | inr ne ↦ absurd (ne (leads x y i.owner j.owner x.owner y.owner before ne (conflict (x.shows ranges) (y.shows ranges) has_i has_j stores)))
      ]
      | inr le ↦ elim (cases_lt y.index x.index) [
        | inl behind ↦ elim (cases_eq i.owner j.owner) [
          | inl same ↦ same
          | inr ne ↦ absurd (ne (sym (leads' y x j.owner i.owner y.owner x.owner behind (λ e. ne (sym e)) (conflict' (y.shows ranges) (x.shows ranges) has_j has_i (swapped stores)))))
        ]
        | inr ge ↦
            let index : x.index ≡ y.index = omega (arith, le, ge) in
            let one = one_element (slice_get (visit_instances (param_values tree) v) y.index) x.instance y.instance (ap (slice_get (visit_instances (param_values tree) v)) (sym index) ∙ x.at) y.at in
            x.owner ∙ ap (λ (n : Instance). phase_owner tree plan v n.loops) one ∙ sym y.owner
      ]
    ]
      where
        swapped : (i.store ≡ Some c) ⊎ (j.store ≡ Some c) → (j.store ≡ Some c) ⊎ (i.store ≡ Some c)
        swapped (inl h) = inr h
        swapped (inr h) = inl h

        conflict : Shows tree plan (1 + k) v x.instance i → Shows tree plan (1 + k) v y.instance j → Has i c → Has j c → (i.store ≡ Some c) ⊎ (j.store ≡ Some c) → ConflictUnder tree plan (in_phase (1 + k) v x.instance) (in_phase (1 + k) v y.instance)
        conflict a b ha hb st = record {
          cell = c;
          first = a.seen c ha below;
          second = b.seen c hb below;
          stored = elim st [ inl h ↦ inl (a.stored c h below) | inr h ↦ inr (b.stored c h below) ];
          apart = λ sum. absurd (true≢false (sym sum ∙ plain));
        }

        conflict' : Shows tree plan (1 + k) v y.instance j → Shows tree plan (1 + k) v x.instance i → Has j c → Has i c → (j.store ≡ Some c) ⊎ (i.store ≡ Some c) → ConflictUnder tree plan (in_phase (1 + k) v y.instance) (in_phase (1 + k) v x.instance)
        conflict' a b ha hb st = record {
          cell = c;
          first = a.seen c ha below;
          second = b.seen c hb below;
          stored = elim st [ inl h ↦ inl (a.stored c h below) | inr h ↦ inr (b.stored c h below) ];
          apart = λ sum. absurd (true≢false (sym sum ∙ plain));
        }

        leads : (a : Stands tree plan (1 + k) v i) (b : Stands tree plan (1 + k) v j) (q p : ℕ) → q ≡ phase_owner tree plan v a.instance.loops → p ≡ phase_owner tree plan v b.instance.loops → a.index < b.index → q ≢ p →
            ConflictUnder tree plan (in_phase (1 + k) v a.instance) (in_phase (1 + k) v b.instance) → q ≡ p
        leads a b q p is is' lt ne cf =
            let place = execution_place (param_values tree) (phases tree plan.cut.marks) k in
            let chain = ordered.chained (place + a.index) (place + b.index) (in_phase (1 + k) v a.instance) (in_phase (1 + k) v b.instance) (omega (arith, lt)) (execution_there (param_values tree) 1 (phases tree plan.cut.marks) k a.index v a.instance at a.at)
            (execution_there (param_values tree) 1 (phases tree plan.cut.marks) k b.index v b.instance at b.at) cf (λ e. ne (is ∙ e ∙ sym is')) in
            is ∙ no_chain tree plan (phase_owner tree plan v a.instance.loops) (1 + k) chain.0 (phase_owner tree plan v b.instance.loops) chain.1 ∙ sym is'

        leads' : (a : Stands tree plan (1 + k) v j) (b : Stands tree plan (1 + k) v i) (q p : ℕ) → q ≡ phase_owner tree plan v a.instance.loops → p ≡ phase_owner tree plan v b.instance.loops → a.index < b.index → q ≢ p →
            ConflictUnder tree plan (in_phase (1 + k) v a.instance) (in_phase (1 + k) v b.instance) → q ≡ p
        leads' a b q p is is' lt ne cf =
            let place = execution_place (param_values tree) (phases tree plan.cut.marks) k in
            let chain = ordered.chained (place + a.index) (place + b.index) (in_phase (1 + k) v a.instance) (in_phase (1 + k) v b.instance) (omega (arith, lt)) (execution_there (param_values tree) 1 (phases tree plan.cut.marks) k a.index v a.instance at a.at)
            (execution_there (param_values tree) 1 (phases tree plan.cut.marks) k b.index v b.instance at b.at) cf (λ e. ne (is ∙ e ∙ sym is')) in
            is ∙ no_chain tree plan (phase_owner tree plan v a.instance.loops) (1 + k) chain.0 (phase_owner tree plan v b.instance.loops) chain.1 ∙ sym is'

    -- any two jobs
    same_phase : Has i c → Has j c → (i.store ≡ Some c) ⊎ (j.store ≡ Some c) → Needs i c ⊎ Needs j c → i.owner ≡ j.owner
    same_phase has_i has_j stores needs = by (x.shows ranges).sort (y.shows ranges).sort
      where
        both : is_cell_of tree (own_loop tree plan v.place).privates c ≡ true → is_cell_of tree (own_loop tree plan v.place).sums c ≡ true → ⊥
        both = not_both tree plan v (own_in_phase tree plan k v formed fits at) c

        past : (Needs i c → cell_count tree ≤ c) → (Needs j c → cell_count tree ≤ c) → ⊥
        past f g = elim needs [ inl n ↦ let le = f n in omega (arith, le, below) | inr n ↦ let le = g n in omega (arith, le, below) ]

        same_last : last_owner tree plan v ≡ Some i.owner → last_owner tree plan v ≡ Some j.owner → i.owner ≡ j.owner
        same_last e e' = let same : Some i.owner ≡ Some j.owner = sym e ∙ e' in cc

        by : Sorts tree plan v i → Sorts tree plan v j → i.owner ≡ j.owner
        by (an_instance f) (an_instance g) = same_instances has_i has_j stores (f c has_i below).1
        by (an_instance f) (a_keeping last g) = absurd (true≢false (sym (g c has_j below) ∙ (f c has_i below).0))
        by (an_instance f) (a_total none g) = absurd (true≢false (sym (g c has_j below) ∙ (f c has_i below).1))
        by (a_keeping last f) (an_instance g) = absurd (true≢false (sym (f c has_i below) ∙ (g c has_j below).0))
        by (a_keeping last f) (a_keeping last' g) = same_last last last'
        by (a_keeping last f) (a_total none g) = absurd (both (f c has_i below) (g c has_j below))
        by (a_total none f) (an_instance g) = absurd (true≢false (sym (f c has_i below) ∙ (g c has_j below).1))
        by (a_total none f) (a_keeping last g) = absurd (both (g c has_j below) (f c has_i below))
        by (a_total none f) (a_total none' g) = absurd (past (none c) (none' c))

  needed : (i j : Job) (c : Conflict i j) → Needs i c.cell ⊎ Needs j c.cell
  needed i j c = elim c.clash [ inl h ↦ inl h.0 | inr h ↦ inr h.1 ]

  pub ordered_by : IsOrderedMachine (machine_by style tree plan)
  ordered_by t u i j lt at at' conflict apart =
      let x = stands_for style tree plan t i formed fits ordered.stored at in
      let y = stands_for style tree plan u j formed fits ordered.stored at' in
      let had = cell_had i j conflict in
      elim (cases_lt conflict.cell (cell_count tree)) [
        | inl below ↦ elim (cases_lt x.at.number y.at.number) [
          | inl before ↦ along x y had.0 had.1 had.2 below before
          | inr le ↦ elim (cases_lt y.at.number x.at.number) [
            | inl behind ↦ let rise = part_rises (parts_by style tree plan) (suc y.at.number) x.at.number behind in absurd (omega (arith, x.at.place, y.at.before_end, lt, rise))
            | inr ge ↦
                let same : x.at.number ≡ y.at.number = omega (arith, le, ge) in
                absurd (apart (in_one x y same had.0 had.1 had.2 below))
          ]
        ]
        | inr past ↦
            let a = (x.stands.shows ranges).own conflict.cell had.0 past in
            let b = (y.stands.shows ranges).own conflict.cell had.1 past in
            absurd (apart (one_owner (cell_count tree) i.owner j.owner a.0 b.0 conflict.cell a.1 b.1 a.2 b.2))
      ]
    where
      in_one : (x : IsFor style tree plan t i) (y : IsFor style tree plan u j) → x.at.number ≡ y.at.number → Has i conflict.cell → Has j conflict.cell → (i.store ≡ Some conflict.cell) ⊎ (j.store ≡ Some conflict.cell) → conflict.cell < cell_count tree → i.owner ≡ j.owner
      in_one x y same has_i has_j stores below =
          let one = one_element (slice_get (phases tree plan.cut.marks) y.at.number) x.at.visit y.at.visit (ap (slice_get (phases tree plan.cut.marks)) (sym same) ∙ x.at.at) y.at.at in
          same_phase y.at.number y.at.visit y.at.at i j (subst (λ w. Stands tree plan (1 + y.at.number) w i) one (subst (λ n. Stands tree plan (1 + n) x.at.visit i) same x.stands)) y.stands conflict.cell below has_i has_j stores (needed i j conflict)

      along : (x : IsFor style tree plan t i) (y : IsFor style tree plan u j) → Has i conflict.cell → Has j conflict.cell → (i.store ≡ Some conflict.cell) ⊎ (j.store ≡ Some conflict.cell) → conflict.cell < cell_count tree → x.at.number < y.at.number →
          (hops : List Hop) × IsChain (machine_by style tree plan) i.owner t hops j.owner u
      along x y has_i has_j stores below before =
          let a = x.stands.shows ranges in
          let b = y.stands.shows ranges in
          let e = 1 + x.at.number in
          let f = 1 + y.at.number in
          let X = in_phase e x.at.visit x.stands.instance in
          let Y = in_phase f y.at.visit y.stands.instance in
          let under : ConflictUnder tree plan X Y = record {
            cell = conflict.cell;
            first = a.seen conflict.cell has_i below;
            second = b.seen conflict.cell has_j below;
            stored = elim stores [ inl h ↦ inl (a.stored conflict.cell h below) | inr h ↦ inr (b.stored conflict.cell h below) ];
            apart = λ sum same. omega (arith, same, before);
          } in
          let within = slice_get_within (visit_instances (param_values tree) x.at.visit) x.stands.index x.stands.instance x.stands.at in
          let rise = execution_rises (param_values tree) (phases tree plan.cut.marks) x.at.number y.at.number x.stands.index y.stands.index x.at.visit before x.at.at within in
          let chain = ordered.chained x.number y.number X Y (omega (arith, rise, x.number_is, y.number_is)) x.execution y.execution under (λ same. apart (x.stands.owner ∙ same ∙ sym y.stands.owner)) in
          let parts = fit_parts tree plan fits in
          let enough = rounds_enough plan.workers parts.some parts.few in
          let worker : owner_under tree plan Y < plan.workers = let below_y = (owned_on style tree plan u j formed fits at').worker in omega (arith, below_y, y.stands.owner) in
          let by = chain_by style tree plan enough (owner_under tree plan X) e t chain.0 (owner_under tree plan Y) f u (omega arith) worker chain.1
          (λ k next. let later = part_rises (parts_by style tree plan) (suc x.at.number) (k - 1) (omega (arith, next)) in omega (arith, later, x.at.before_end))
          (λ k v first le there. to y k v le there) lt in
          (by.0, subst (λ q. IsChain (machine_by style tree plan) q t by.0 j.owner u) (sym x.stands.owner) (subst (λ q. IsChain (machine_by style tree plan) (owner_under tree plan X) t by.0 q u) (sym y.stands.owner) by.1))
        where
          to : (y : IsFor style tree plan u j) (k : ℕ) (v : Visit) → k ≤ 1 + y.at.number → slice_get (phases tree plan.cut.marks) (k - 1) ≡ Some v → jobs_at style tree plan (rounds_enough plan.workers (fit_parts tree plan fits).some (fit_parts tree plan fits).few) k v ≤ u
          to y k v le there = elim (cases_eq (k - 1) y.at.number) [
            | inl same ↦
                let one = one_element (slice_get (phases tree plan.cut.marks) y.at.number) v y.at.visit (ap (slice_get (phases tree plan.cut.marks)) (sym same) ∙ there) y.at.at in
                let front_is = ap (λ n. front_length style tree plan (1 + n) (0 + passed_before style plan (phases tree plan.cut.marks) n) v) same ∙ ap (front_length style tree plan (1 + y.at.number) (0 + passed_before style plan (phases tree plan.cut.marks) y.at.number)) one in
                let begin_is = ap (part_place (parts_by style tree plan)) same in
                omega (arith, front_is, begin_is, y.at.place)
            | inr ne ↦
                let end = jobs_end style tree plan (rounds_enough plan.workers (fit_parts tree plan fits).some (fit_parts tree plan fits).few) k v there in
                let rise = part_rises (parts_by style tree plan) (suc (k - 1)) y.at.number (omega (arith, le, ne)) in
                omega (arith, end, rise, y.at.place)
          ]

-- ---- whoever is behind the last round of a barrier knows that all others have come to it

pub all_signalled : (style : Style) (tree : Tree) (plan : Plan) (k : ℕ) (v : Visit) (cells : List ℤ) (at : ℕ → ℕ) (q p : ℕ) → IsWellFormed tree → IsFit tree plan → slice_get (phases tree plan.cut.marks) k ≡ Some v → is_by_signals style plan v ≡ true →
    IsLawful (machine_by style tree plan) cells at → q < plan.workers → p < plan.workers → q ≢ p → acts_in_front (machine_by style tree plan) p (part_place (parts_by style tree plan) k + rounds_of plan.workers) ≤ at p →
    acts_in_front (machine_by style tree plan) q (part_place (parts_by style tree plan) k) < at q
all_signalled style tree plan k v cells at q p formed fits there held lawful lt lt' apart come =
    let parts = fit_parts tree plan fits in
    let enough = rounds_enough plan.workers parts.some parts.few in
    posted_by_all (machine_by style tree plan) cells at (part_place (parts_by style tree plan) k) (first_round plan (0 + passed_before style plan (phases tree plan.cut.marks) k)) (rounds_of plan.workers) q p (sound_by style tree plan formed fits) lawful
    (barrier_rounds style tree plan enough k v there held) enough (omega arith) lt lt' apart come
