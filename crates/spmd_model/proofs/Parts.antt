-- Where things stand on a timeline of parts, each some boundaries and then some jobs.
use Rattle.std.proofs.Common.{◌≡◌, ℕ, zero, suc, ◌+◌, ◌-◌, ◌<◌, ◌≤◌, List, [], ◌∷◌, ◌++◌, length, map, take, Option, Some, None, refl, ap, sym, ◌∙◌, inl, inr, arith, length-append}
use Rattle.std.specs.Prelude.{slice_get}
use Rattle.std.specs.List.{flat_map}
use Rattle.std.specs.Option.{option_map}
use Rattle.std.proofs.lemmas.Bool.{cases_lt}
use Rattle.std.proofs.lemmas.List.{length-map}
use Rattle.std.proofs.lemmas.Option.{slice_get_within}
use Rattle.list_lemmas.proofs.Gets.{get-front, get-behind}
use Rattle.nest_tree.specs.Tree.{Tree}
use Rattle.nest_model.specs.Visits.{Visit}
use Rattle.sync_plan.specs.declared.plan.Plan.{Plan}
use Rattle.spmd_model.specs.Timelines.{Job, Moment, job}
use Rattle.spmd_model.specs.Machines.{Part, moments_of, part_of, part_place, parts_from, signal_barriers}
use Rattle.spmd_model.specs.declared.style.Style.{Style}

pub part_step : (ps : List Part) (k : ℕ) (p : Part) → slice_get ps k ≡ Some p → part_place ps (suc k) ≡ part_place ps k + length (moments_of p)
part_step [] k p at = let clash : None ≡ Some p = at in absurd (cc)
part_step (q ∷ ps) zero p at =
    let same : Some q ≡ Some p = at in
    let is : q ≡ p = cc in
    omega (arith, length-append (moments_of q) [], ap (λ x. length (moments_of x)) is)
part_step (q ∷ ps) (suc k) p at =
    let rest = part_step ps k p at in
    omega (arith, rest, length-append (moments_of q) (flat_map moments_of (take (suc k) ps)), length-append (moments_of q) (flat_map moments_of (take k ps)))

pub part_rises : (ps : List Part) (k l : ℕ) → k ≤ l → part_place ps k ≤ part_place ps l
part_rises ps zero l le = omega arith
part_rises ps (suc k) zero le = absurd (omega (arith, le))
part_rises [] (suc k) (suc l) le = omega arith
part_rises (q ∷ ps) (suc k) (suc l) le =
    let rest = part_rises ps k l (omega (arith, le)) in
    omega (arith, rest, length-append (moments_of q) (flat_map moments_of (take k ps)), length-append (moments_of q) (flat_map moments_of (take l ps)))

-- what stands at a place stands in one of the parts
pub record IsInPart (ps : List Part) (t : ℕ) (x : Moment) : Type 0 where
  pub number : ℕ
  pub part : Part
  pub at : slice_get ps number ≡ Some part
  pub spot : ℕ
  pub place : t ≡ part_place ps number + spot
  pub is : slice_get (moments_of part) spot ≡ Some x

pub in_part : (ps : List Part) (t : ℕ) (x : Moment) → slice_get (flat_map moments_of ps) t ≡ Some x → IsInPart ps t x
in_part [] t x at = let clash : None ≡ Some x = at in absurd (cc)
in_part (p ∷ ps) t x at =
    let here = moments_of p in
    let later = flat_map moments_of ps in
    elim (cases_lt t (length here)) [
      | inl inside ↦ record { number = 0; part = p; at = refl; spot = t; place = omega arith; is = sym (get-front here later t inside) ∙ at }
      | inr past ↦
          let more : length here + (t - length here) ≡ t = omega (arith, past) in
          let rest = in_part ps (t - length here) x (sym (ap (slice_get (here ++ later)) (sym more) ∙ get-behind here later (t - length here)) ∙ at) in
          record {
            number = suc rest.number;
            part = rest.part;
            at = rest.at;
            spot = rest.spot;
            place = omega (arith, rest.place, more, length-append here (flat_map moments_of (take rest.number ps)));
            is = rest.is;
          }
    ]

pub part_there : (ps : List Part) (k s : ℕ) (p : Part) (x : Moment) → slice_get ps k ≡ Some p → slice_get (moments_of p) s ≡ Some x → slice_get (flat_map moments_of ps) (part_place ps k + s) ≡ Some x
part_there [] k s p x at is = let clash : None ≡ Some p = at in absurd (cc)
part_there (q ∷ ps) zero s p x at is =
    let same : Some q ≡ Some p = at in
    let equal : q ≡ p = cc in
    let here : slice_get (moments_of q) s ≡ Some x = ap (λ y. slice_get (moments_of y) s) equal ∙ is in
    let first : part_place (q ∷ ps) 0 + s ≡ s = omega arith in
    ap (slice_get (moments_of q ++ flat_map moments_of ps)) first ∙ get-front (moments_of q) (flat_map moments_of ps) s (slice_get_within (moments_of q) s x here) ∙ here
part_there (q ∷ ps) (suc k) s p x at is =
    let rest = part_there ps k s p x at is in
    let count : part_place (q ∷ ps) (suc k) + s ≡ length (moments_of q) + (part_place ps k + s) = omega (arith, length-append (moments_of q) (flat_map moments_of (take k ps))) in
    ap (slice_get (moments_of q ++ flat_map moments_of ps)) count ∙ get-behind (moments_of q) (flat_map moments_of ps) (part_place ps k + s) ∙ rest

-- ---- in a part: its front, and its jobs

pub part_length : (p : Part) → length (moments_of p) ≡ length p.front + length p.jobs
part_length p = length-append p.front (map job p.jobs) ∙ ap (λ n. length p.front + n) (length-map p.jobs job)

job_at : (js : List Job) (k : ℕ) (x : Moment) → slice_get (map job js) k ≡ Some x → (j : Job) × (slice_get js k ≡ Some j) × (x ≡ job j)
job_at [] k x e = let clash : None ≡ Some x = e in absurd (cc)
job_at (j ∷ js) zero x e = let same : Some (job j) ≡ Some x = e in let is : job j ≡ x = cc in (j, refl, sym is)
job_at (j ∷ js) (suc k) x e = job_at js k x e

-- a moment of a part is one of its front, or one of its jobs
pub in_front : (p : Part) (s : ℕ) (x : Moment) → slice_get (moments_of p) s ≡ Some x → s < length p.front → slice_get p.front s ≡ Some x
in_front p s x is lt = sym (get-front p.front (map job p.jobs) s lt) ∙ is

pub in_jobs : (p : Part) (s : ℕ) (x : Moment) → slice_get (moments_of p) s ≡ Some x → length p.front ≤ s → (j : Job) × (slice_get p.jobs (s - length p.front) ≡ Some j) × (x ≡ job j)
in_jobs p s x is le =
    let more : length p.front + (s - length p.front) ≡ s = omega (arith, le) in
    job_at p.jobs (s - length p.front) x (sym (ap (slice_get (p.front ++ map job p.jobs)) (sym more) ∙ get-behind p.front (map job p.jobs) (s - length p.front)) ∙ is)

-- ---- the parts of a plan's phases

-- how many barriers by signals stand in front of so many phases
abbrev pub passed_before : Style → Plan → List Visit → ℕ → ℕ
passed_before style plan vs zero = 0
passed_before style plan [] (suc k) = 0
passed_before style plan (v ∷ vs) (suc k) = signal_barriers style plan v + passed_before style plan vs k

pub parts_get : (style : Style) (tree : Tree) (plan : Plan) (e passed : ℕ) (vs : List Visit) (k : ℕ) →
    slice_get (parts_from style tree plan e passed vs) k ≡ option_map (part_of style tree plan (e + k) (passed + passed_before style plan vs k)) (slice_get vs k)
parts_get style tree plan e passed [] k = refl
parts_get style tree plan e passed (v ∷ vs) zero =
    let first : e ≡ e + 0 = omega arith in
    let none : passed ≡ passed + 0 = omega arith in
    ap (λ n. Some (part_of style tree plan n passed v)) first ∙ ap (λ n. Some (part_of style tree plan (e + 0) n v)) none
parts_get style tree plan e passed (v ∷ vs) (suc k) =
    let number : suc e + k ≡ e + suc k = omega arith in
    let before : passed + signal_barriers style plan v + passed_before style plan vs k ≡ passed + (signal_barriers style plan v + passed_before style plan vs k) = omega arith in
    parts_get style tree plan (suc e) (passed + signal_barriers style plan v) vs k
    ∙ ap (λ n. option_map (part_of style tree plan n (passed + signal_barriers style plan v + passed_before style plan vs k)) (slice_get vs k)) number
    ∙ ap (λ n. option_map (part_of style tree plan (e + suc k) n) (slice_get vs k)) before

-- a part is that of a phase
pub record IsPartOf (style : Style) (tree : Tree) (plan : Plan) (e passed : ℕ) (vs : List Visit) (k : ℕ) (p : Part) : Type 0 where
  pub visit : Visit
  pub at : slice_get vs k ≡ Some visit
  pub is : p ≡ part_of style tree plan (e + k) (passed + passed_before style plan vs k) visit

pub part_is : (style : Style) (tree : Tree) (plan : Plan) (e passed : ℕ) (vs : List Visit) (k : ℕ) (p : Part) → slice_get (parts_from style tree plan e passed vs) k ≡ Some p → IsPartOf style tree plan e passed vs k p
part_is style tree plan e passed vs k p at = by (slice_get vs k) refl (sym (parts_get style tree plan e passed vs k) ∙ at)
  where
    by : (o : Option Visit) → slice_get vs k ≡ o → option_map (part_of style tree plan (e + k) (passed + passed_before style plan vs k)) o ≡ Some p → IsPartOf style tree plan e passed vs k p
    by None h same = let clash : None ≡ Some p = same in absurd (cc)
    by (Some v) h same =
        let equal : Some (part_of style tree plan (e + k) (passed + passed_before style plan vs k) v) ≡ Some p = same in
        let is : part_of style tree plan (e + k) (passed + passed_before style plan vs k) v ≡ p = cc in
        record { visit = v; at = h; is = sym is }

pub part_at : (style : Style) (tree : Tree) (plan : Plan) (e passed : ℕ) (vs : List Visit) (k : ℕ) (v : Visit) → slice_get vs k ≡ Some v →
    slice_get (parts_from style tree plan e passed vs) k ≡ Some (part_of style tree plan (e + k) (passed + passed_before style plan vs k) v)
part_at style tree plan e passed vs k v at = parts_get style tree plan e passed vs k ∙ ap (option_map (part_of style tree plan (e + k) (passed + passed_before style plan vs k))) at

-- later phases stand behind more barriers by signals
pub passed_step : (style : Style) (plan : Plan) (vs : List Visit) (k : ℕ) (v : Visit) → slice_get vs k ≡ Some v → passed_before style plan vs (suc k) ≡ passed_before style plan vs k + signal_barriers style plan v
passed_step style plan [] k v at = let clash : None ≡ Some v = at in absurd (cc)
passed_step style plan (w ∷ vs) zero v at =
    let same : Some w ≡ Some v = at in
    let is : w ≡ v = cc in
    omega (arith, ap (signal_barriers style plan) is)
passed_step style plan (w ∷ vs) (suc k) v at = let rest = passed_step style plan vs k v at in omega (arith, rest)

pub passed_rises : (style : Style) (plan : Plan) (vs : List Visit) (k l : ℕ) → k ≤ l → passed_before style plan vs k ≤ passed_before style plan vs l
passed_rises style plan vs zero l le = omega arith
passed_rises style plan vs (suc k) zero le = absurd (omega (arith, le))
passed_rises style plan [] (suc k) (suc l) le = omega arith
passed_rises style plan (w ∷ vs) (suc k) (suc l) le = let rest = passed_rises style plan vs k l (omega (arith, le)) in omega (arith, rest)
