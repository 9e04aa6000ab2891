-- All processors past a boundary.
use Rattle.std.proofs.Common.{◌≡◌, ℕ, zero, suc, ◌+◌, ◌-◌, ◌<◌, ◌≤◌, Bool, true, false, cond, ltb, ℤ, List, [], ◌∷◌, ◌++◌, append_assoc, length, length-append, map, drop, Some, if◌then◌else◌, refl, sym, ◌∙◌, ap, subst, inl, inr, arith}
use Rattle.std.specs.Prelude.{slice_get}
use Rattle.std.specs.List.{Contains, flat_map}
use Rattle.std.proofs.Math.Seq.{drop-append_seam}
use Rattle.std.proofs.lemmas.List.{length-map}
use Rattle.std.proofs.lemmas.Bool.{cases_Bool, cases_eq, cases_lt, lt-ltb, ltb-true}
use Rattle.list_lemmas.proofs.Gets.{get-behind}
use Rattle.nest_tree.specs.Tree.{Tree}
use Rattle.nest_model.specs.Visits.{Visit}
use Rattle.owner_partition.specs.Phases.{phases}
use Rattle.sync_plan.specs.declared.plan.Plan.{Plan}
use Rattle.sync_plan.specs.Waits.{posts_at, waits_for}
use Rattle.sync_plan.specs.Own.{own_of}
use Rattle.spmd_model.specs.Deeds.{Deed, awaiting, boundary_deeds, owned_by, posting}
use Rattle.spmd_model.specs.MachineDeeds.{closing_deeds, deeds_by, own_deeds, part_deeds}
use Rattle.spmd_model.specs.declared.style.Style.TheVariants.{Arrive}
use Rattle.spmd_model.specs.Lawful.{IsPosted, Moves, put}
use Rattle.spmd_model.specs.Timelines.{counter}
use Rattle.spmd_model.specs.Acts.{await, post}
use Rattle.spmd_model.proofs.PlannedOrder.{awaited_posts}
use Rattle.spmd_model.proofs.Places.{put_moves}
use Rattle.spmd_model.specs.Protocols.{Protocol, act_at}
use Rattle.fork_join.specs.Joins.{IsSafe, all_deeds, begun, begun_from, deeds_begun, deeds_behind, in_front, mixed, protocol}
use Rattle.fork_join.proofs.Acts.{await_there, post_there}

-- ---- places that differ at one processor

pub same_at : (m : Protocol) (cells : List ℤ) (at after : ℕ → ℕ) → ((q : ℕ) → at q ≡ after q) → m.lawful cells at → m.lawful cells after
same_at m cells at after same = subst (m.lawful cells) (λ i q. same q i)

-- where p stays
pub stays : (m : Protocol) (cells : List ℤ) (at after : ℕ → ℕ) (p n : ℕ) → at p ≡ n → Moves at after p n → m.lawful cells at → m.lawful cells after
stays m cells at after p n is moves = same_at m cells at after (λ q. elim (cases_eq q p) [
  | inl e ↦ ap at e ∙ is ∙ sym moves.here ∙ sym (ap after e)
  | inr ne ↦ sym (moves.others q ne)
])

-- p goes on further from where it has come to
pub onwards : (at after : ℕ → ℕ) (p n k : ℕ) → Moves at after p k → Moves (put at p n) after p k
onwards at after p n k moves = record {
  here = moves.here;
  others = λ q ne. moves.others q ne ∙ sym ((put_moves at p n).others q ne);
}

-- ---- one processor after another

pub mixed_below : (from to : ℕ → ℕ) (j q : ℕ) → q < j → mixed from to j q ≡ to q
mixed_below from to j q lt = ap (λ b. cond b (to q) (from q)) (lt-ltb q j lt)

pub mixed_past : (from to : ℕ → ℕ) (j q : ℕ) → j ≤ q → mixed from to j q ≡ from q
mixed_past from to j q le = elim (cases_Bool (ltb q j)) [
  | inl is ↦ absurd (omega (arith, ltb-true q j is, le))
  | inr is ↦ ap (λ b. cond b (to q) (from q)) is
]

pub mixed_moves : (from to : ℕ → ℕ) (j : ℕ) → Moves (mixed from to j) (mixed from to (suc j)) j (to j)
mixed_moves from to j = record {
  here = mixed_below from to (suc j) j (omega arith);
  others = λ q ne. elim (cases_lt q j) [
    | inl lt ↦ mixed_below from to (suc j) q (omega arith) ∙ sym (mixed_below from to j q lt)
    | inr le ↦ mixed_past from to (suc j) q (omega (arith, le, ne)) ∙ sym (mixed_past from to j q le)
  ];
}

module _ (m : Protocol) (cells : List ℤ) (from to : ℕ → ℕ) where
  mixed_least : ((q : ℕ) → from q ≤ to q) → (j q : ℕ) → from q ≤ mixed from to j q
  mixed_least le j q = elim (cases_lt q j) [
    | inl lt ↦ omega (arith, le q, mixed_below from to j q lt)
    | inr past ↦ omega (arith, mixed_past from to j q past)
  ]

  pub sweep : ((q : ℕ) → from q ≤ to q) → ((at after : ℕ → ℕ) (q : ℕ) → q < m.workers → m.lawful cells at → at q ≡ from q → ((r : ℕ) → from r ≤ at r) → Moves at after q (to q) → m.lawful cells after) →
      m.lawful cells from → (j : ℕ) → j ≤ m.workers → m.lawful cells (mixed from to j)
  sweep le step first zero most = same_at m cells from (mixed from to 0) (λ q. sym (mixed_past from to 0 q (omega arith))) first
  sweep le step first (suc j) most =
      step (mixed from to j) (mixed from to (suc j)) j (omega arith) (sweep le step first j (omega arith)) (mixed_past from to j j (omega arith)) (mixed_least le j) (mixed_moves from to j)

-- ---- what is left, and places

-- where a list ends with what is left, that stands behind the rest
pub left_at : (all front left : List Deed) → all ≡ front ++ left → drop (length all - length left) all ≡ left
left_at all front left is =
    let n : length all - length left ≡ length front = omega (arith, ap length is, length-append front left) in
    ap (λ k. drop k all) n ∙ ap (drop (length front)) is ∙ drop-append_seam front left

pub left_get : (all front left : List Deed) (i : ℕ) (d : Deed) → all ≡ front ++ left → slice_get left i ≡ Some d → slice_get all (length all - length left + i) ≡ Some d
left_get all front left i d is at =
    let n : length all - length left + i ≡ length front + i = omega (arith, ap length is, length-append front left) in
    ap (slice_get all) n ∙ ap (λ l. slice_get l (length front + i)) is ∙ get-behind front left i ∙ at

module _ (tree : Tree) (plan : Plan) (p : ℕ) where
  pub split_at : (e n : ℕ) (vs : List Visit) → (front : List Deed) × (deeds_by Arrive tree plan p e 0 vs ≡ front ++ deeds_by Arrive tree plan p (e + n) 0 (drop n vs))
  split_at e zero vs = ([], let k : e ≡ e + 0 = omega arith in ap (λ x. deeds_by Arrive tree plan p x 0 vs) k)
  split_at e (suc n) [] = ([], refl)
  split_at e (suc n) (v ∷ vs) =
      let r = split_at (suc e) n vs in let k : suc e + n ≡ e + suc n = omega arith in (
        part_deeds Arrive tree plan p e 0 v ++ r.0,
        ap (λ l. part_deeds Arrive tree plan p e 0 v ++ l) r.1 ∙ sym (append_assoc (part_deeds Arrive tree plan p e 0 v) r.0 (deeds_by Arrive tree plan p (suc e + n) 0 (drop n vs)))
            ∙ ap (λ x. (part_deeds Arrive tree plan p e 0 v ++ r.0) ++ deeds_by Arrive tree plan p x 0 (drop n vs)) k,
      )

  pub behind_ends : (n : ℕ) → (front : List Deed) × (all_deeds tree plan p ≡ front ++ deeds_behind tree plan n p)
  unfolding all_deeds
  behind_ends n = let r = split_at 1 n (phases tree plan.cut.marks) in let k : 1 + n ≡ suc n = omega arith in
      (r.0, r.1 ∙ ap (λ x. r.0 ++ deeds_by Arrive tree plan p x 0 (drop n (phases tree plan.cut.marks))) k)

  pub in_front_is : (n : ℕ) → p < plan.workers → in_front tree plan n p ≡ length (all_deeds tree plan p) - length (deeds_behind tree plan n p)
  unfolding in_front
  in_front_is n lt = ap (λ b. cond b (length (all_deeds tree plan p) - length (deeds_behind tree plan n p)) 0) (lt-ltb p plan.workers lt)

  pub begun_is : (n : ℕ) → p < plan.workers → begun tree plan n p ≡ length (all_deeds tree plan p) - length (deeds_begun tree plan n p)
  unfolding begun
  begun_is n lt = ap (λ b. cond b (length (all_deeds tree plan p) - length (deeds_begun tree plan n p)) 0) (lt-ltb p plan.workers lt)

  no_processor : (n : ℕ) → plan.workers ≤ p → ltb p plan.workers ≡ false
  no_processor n le = elim (cases_Bool (ltb p plan.workers)) [
    | inl is ↦ absurd (omega (arith, ltb-true p plan.workers is, le))
    | inr is ↦ is
  ]

  pub in_front_none : (n : ℕ) → plan.workers ≤ p → in_front tree plan n p ≡ 0
  unfolding in_front
  in_front_none n le = ap (λ b. cond b (length (all_deeds tree plan p) - length (deeds_behind tree plan n p)) 0) (no_processor n le)

  pub begun_none : (n : ℕ) → plan.workers ≤ p → begun tree plan n p ≡ 0
  unfolding begun
  begun_none n le = ap (λ b. cond b (length (all_deeds tree plan p) - length (deeds_begun tree plan n p)) 0) (no_processor n le)

-- ---- past a boundary

nth : (ws : List ℕ) (i : ℕ) → i < length ws → (on : ℕ) × Contains ws on × ((f : ℕ → Deed) (rest : List Deed) → slice_get (map f ws ++ rest) i ≡ Some (f on))
nth [] i lt = absurd (omega arith)
nth (w ∷ ws) zero lt = (w, (0, omega arith, refl), λ f rest. refl)
nth (w ∷ ws) (suc i) lt = let r = nth ws i (omega arith) in (r.0, (suc r.1.0, (let below = r.1.1 in omega arith), r.1.2), λ f rest. r.2 f rest)

-- how many deeds a post is
abbrev post_count : Bool → ℕ
post_count b = cond b 1 0

module _ (tree : Tree) (plan : Plan) (safe : IsSafe tree plan) (n : ℕ) (v : Visit) (rest : List Visit) (stands : drop n (phases tree plan.cut.marks) ≡ v ∷ rest) where
  abbrev m : Protocol
  m = protocol tree plan

  abbrev number : ℕ
  number = suc n - 1

  abbrev does : ℕ → Bool
  does q = posts_at tree plan q v.place v.loops

  abbrev whom : ℕ → List ℕ
  whom q = waits_for tree plan q v.place v.loops

  pub behind_is : (q : ℕ) → deeds_behind tree plan n q ≡ boundary_deeds counter (suc n - 1) (posts_at tree plan q v.place v.loops) (waits_for tree plan q v.place v.loops) ++ deeds_begun tree plan n q
  behind_is q =
      let own = flat_map (own_deeds tree (own_of tree plan v.place) q) (owned_by tree (slice_get plan.anchors (v.place - 1)) plan.workers q v) ++ closing_deeds tree plan q v in
      ap (deeds_by Arrive tree plan q (suc n) 0) stands
      ∙ append_assoc (boundary_deeds counter (suc n - 1) (posts_at tree plan q v.place v.loops) (waits_for tree plan q v.place v.loops)) own (deeds_by Arrive tree plan q (suc (suc n)) 0 rest)
      ∙ ap (λ vs. boundary_deeds counter (suc n - 1) (posts_at tree plan q v.place v.loops) (waits_for tree plan q v.place v.loops) ++ begun_from tree plan q (suc n) vs) (sym stands)

  pub begun_ends : (q : ℕ) → (front : List Deed) × (all_deeds tree plan q ≡ front ++ deeds_begun tree plan n q)
  begun_ends q =
      let r = behind_ends tree plan q n in
      let b = boundary_deeds counter (suc n - 1) (posts_at tree plan q v.place v.loops) (waits_for tree plan q v.place v.loops) in
      (r.0 ++ b, r.1 ∙ ap (λ l. r.0 ++ l) (behind_is q) ∙ sym (append_assoc r.0 b (deeds_begun tree plan n q)))

  -- behind the post
  abbrev posted : ℕ → ℕ
  posted q = cond (ltb q plan.workers) (in_front tree plan n q + post_count (does q)) 0

  posted_is : (q : ℕ) → q < plan.workers → posted q ≡ in_front tree plan n q + post_count (does q)
  posted_is q lt = ap (λ b. cond b (in_front tree plan n q + post_count (does q)) 0) (lt-ltb q plan.workers lt)

  posted_least : (q : ℕ) → in_front tree plan n q ≤ posted q
  posted_least q = elim (cases_lt q plan.workers) [
    | inl lt ↦ omega (arith, posted_is q lt)
    | inr le ↦ omega (arith, in_front_none tree plan q n le)
  ]

  post_at : (q : ℕ) → q < plan.workers → does q ≡ true → act_at m q (in_front tree plan n q) ≡ Some (post counter number)
  post_at q lt posts =
      let r = behind_ends tree plan q n in
      let first : slice_get (deeds_behind tree plan n q) 0 ≡ Some (posting counter number) =
      ap (λ l. slice_get l 0) (behind_is q) ∙ ap (λ b. slice_get (((if b then posting counter number ∷ [] else []) ++ map (λ o. awaiting counter o number) (whom q)) ++ deeds_begun tree plan n q) 0) posts in
      let there = left_get (all_deeds tree plan q) r.0 (deeds_behind tree plan n q) 0 (posting counter number) r.1 first in
      let k : length (all_deeds tree plan q) - length (deeds_behind tree plan n q) + 0 ≡ in_front tree plan n q = omega (arith, in_front_is tree plan q n lt) in
      post_there tree plan safe q (in_front tree plan n q) lt counter number (subst (λ x. slice_get (all_deeds tree plan q) x ≡ Some (posting counter number)) k there)

  post_step : (cells : List ℤ) (at after : ℕ → ℕ) (q : ℕ) → q < plan.workers → m.lawful cells at → at q ≡ in_front tree plan n q → ((r : ℕ) → in_front tree plan n r ≤ at r) → Moves at after q (posted q) → m.lawful cells after
  post_step cells at after q lt lawful is least moves = elim (cases_Bool (does q)) [
    | inl posts ↦
        let one : post_count (does q) ≡ 1 = ap post_count posts in
        let next : posted q ≡ at q + 1 = omega (arith, posted_is q lt, one, is) in
        safe.laws.by_post cells at after counter q number lt lawful (ap (act_at m q) is ∙ post_at q lt posts) (subst (Moves at after q) next moves)
    | inr silent ↦
        let none : post_count (does q) ≡ 0 = ap post_count silent in
        let same : at q ≡ posted q = omega (arith, posted_is q lt, none, is) in
        stays m cells at after q (posted q) same moves lawful
  ]

  -- what comes behind the post
  awaits_left : (q : ℕ) → q < plan.workers → (front : List Deed) × (all_deeds tree plan q ≡ front ++ (map (λ o. awaiting counter o number) (whom q) ++ deeds_begun tree plan n q)) × (length front ≡ posted q)
  awaits_left q lt =
      let r = behind_ends tree plan q n in
      let first = if does q then posting counter number ∷ [] else [] in
      let mid = map (λ o. awaiting counter o number) (whom q) in
      let tail = deeds_begun tree plan n q in
      let is : all_deeds tree plan q ≡ (r.0 ++ first) ++ (mid ++ tail) = r.1 ∙ ap (λ l. r.0 ++ l) (behind_is q ∙ append_assoc first mid tail) ∙ sym (append_assoc r.0 first (mid ++ tail)) in
      let count : length first ≡ post_count (does q) = first_count (does q) in (
        r.0 ++ first,
        is,
        omega (arith, length-append r.0 first, count, posted_is q lt, in_front_is tree plan q n lt, ap length r.1, length-append r.0 (deeds_behind tree plan n q)),
      )
    where
      first_count : (b : Bool) → length (if b then posting counter number ∷ [] else []) ≡ post_count b
      first_count true = refl
      first_count false = refl

  begun_is_posted : (q : ℕ) → q < plan.workers → begun tree plan n q ≡ posted q + length (whom q)
  begun_is_posted q lt =
      let r = awaits_left q lt in
      let mid = map (λ o. awaiting counter o number) (whom q) in
      let tail = deeds_begun tree plan n q in
      omega (arith, begun_is tree plan q n lt, ap length r.1, length-append r.0 (mid ++ tail), length-append mid tail, length-map (whom q) (λ o. awaiting counter o number), r.2)

  begun_least : (q : ℕ) → posted q ≤ begun tree plan n q
  begun_least q = elim (cases_lt q plan.workers) [
    | inl lt ↦ omega (arith, begun_is_posted q lt)
    | inr le ↦ omega (arith, posted_none q le)
  ]
    where
      posted_none : (q : ℕ) → plan.workers ≤ q → posted q ≡ 0
      posted_none q le = elim (cases_Bool (ltb q plan.workers)) [
        | inl is ↦ absurd (omega (arith, ltb-true q plan.workers is, le))
        | inr is ↦ ap (λ b. cond b (in_front tree plan n q + post_count (does q)) 0) is
      ]

  await_at : (q : ℕ) → q < plan.workers → (i : ℕ) → i < length (whom q) → (on : ℕ) × Contains (whom q) on × (act_at m q (posted q + i) ≡ Some (await counter on number))
  await_at q lt i small =
      let r = awaits_left q lt in
      let w = nth (whom q) i small in
      let tail = deeds_begun tree plan n q in
      let there : slice_get (all_deeds tree plan q) (posted q + i) ≡ Some (awaiting counter w.0 number) =
      ap (λ k. slice_get (all_deeds tree plan q) (k + i)) (sym r.2) ∙ ap (λ l. slice_get l (length r.0 + i)) r.1 ∙ get-behind r.0 (map (λ o. awaiting counter o number) (whom q) ++ tail) i ∙ w.2 (λ o. awaiting counter o number) tail in
      (w.0, w.1, await_there tree plan safe q (posted q + i) lt counter w.0 number there)

  await_step : (cells : List ℤ) (at after : ℕ → ℕ) (q : ℕ) → q < plan.workers → m.lawful cells at → at q ≡ posted q → ((r : ℕ) → posted r ≤ at r) → Moves at after q (begun tree plan n q) → m.lawful cells after
  await_step cells at after q lt lawful is least moves = go (length (whom q)) (omega arith) after (subst (Moves at after q) (begun_is_posted q lt) moves)
    where
      go : (i : ℕ) → i ≤ length (whom q) → (after : ℕ → ℕ) → Moves at after q (posted q + i) → m.lawful cells after
      go zero le after moves = let same : at q ≡ posted q + 0 = omega (arith, is) in stays m cells at after q (posted q + 0) same moves lawful
      go (suc i) le after moves =
          let w = await_at q lt i (omega arith) in
          let mid = put at q (posted q + i) in
          let here : mid q ≡ posted q + i = (put_moves at q (posted q + i)).here in
          let before = go i (omega arith) mid (put_moves at q (posted q + i)) in
          let who = awaited_posts tree plan v q w.0 lt w.1 in
          let one : post_count (does w.0) ≡ 1 = ap post_count who.1 in
          let far : in_front tree plan n w.0 < mid w.0 = elim (cases_eq w.0 q) [
            | inl e ↦ let there : mid w.0 ≡ posted q + i = ap mid e ∙ here in omega (arith, there, ap posted e, posted_is w.0 who.0, one)
            | inr ne ↦ omega (arith, (put_moves at q (posted q + i)).others w.0 ne, least w.0, posted_is w.0 who.0, one)
          ] in
          let done : IsPosted (m.acts w.0) counter number (mid w.0) = (in_front tree plan n w.0, far, post_at w.0 who.0 who.1) in
          let next : posted q + suc i ≡ mid q + 1 = omega (arith, here) in
          safe.laws.by_await cells mid after counter q w.0 number lt before (ap (act_at m q) here ∙ w.2) (inr done) (subst (Moves mid after q) next (onwards at after q (posted q + i) (posted q + suc i) moves))

  pub cross : (cells : List ℤ) → m.lawful cells (in_front tree plan n) → m.lawful cells (begun tree plan n)
  cross cells lawful =
      let first = sweep m cells (in_front tree plan n) posted posted_least (post_step cells) lawful plan.workers (omega arith) in
      let all_posted : m.lawful cells posted = same_at m cells (mixed (in_front tree plan n) posted plan.workers) posted (λ q. elim (cases_lt q plan.workers) [
        | inl lt ↦ mixed_below (in_front tree plan n) posted plan.workers q lt
        | inr le ↦ mixed_past (in_front tree plan n) posted plan.workers q le ∙ in_front_none tree plan q n le ∙ sym (none_posted q le)
      ]) first in
      let second = sweep m cells posted (begun tree plan n) begun_least (await_step cells) all_posted plan.workers (omega arith) in
      same_at m cells (mixed posted (begun tree plan n) plan.workers) (begun tree plan n) (λ q. elim (cases_lt q plan.workers) [
        | inl lt ↦ mixed_below posted (begun tree plan n) plan.workers q lt
        | inr le ↦ mixed_past posted (begun tree plan n) plan.workers q le ∙ none_posted q le ∙ sym (begun_none tree plan q n le)
      ]) second
    where
      none_posted : (q : ℕ) → plan.workers ≤ q → posted q ≡ 0
      none_posted q le = elim (cases_Bool (ltb q plan.workers)) [
        | inl is ↦ absurd (omega (arith, ltb-true q plan.workers is, le))
        | inr is ↦ ap (λ b. cond b (in_front tree plan n q + post_count (does q)) 0) is
      ]
