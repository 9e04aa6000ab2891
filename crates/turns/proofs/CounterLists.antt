-- The counter turns that are left, in their parts.
use Rattle.std.proofs.Common.{◌≡◌, ◌==◌, ◌||◌, not, ℕ, zero, suc, ◌-◌, ◌*◌, ◌%◌, ◌^◌, ◌<◌, ◌≤◌, ℤ, ◌&&◌, nat_le, Bool, true, false, true≢false, is_some, List, [], ◌∷◌, ◌++◌, drop, length, map, Option, Some, None, if◌then◌else◌, refl, ap, sym, ◌∙◌, inl, inr, arith}
use Rattle.std.specs.Prelude.{slice_get}
use Rattle.std.specs.List.{list_all}
use Rattle.std.proofs.lemmas.Bool.{and_from, and_parts, cases_Bool, cases_lt, eqb-true, leb-true, or_parts}
use Rattle.std.proofs.lemmas.Option.{slice_get_within}
use Rattle.nest_tree.specs.Form.{Form, is_form, reach_within}
use Rattle.nest_tree.specs.Tree.{Statement, do_loop, work, continue, Tree, param_values}
use Rattle.nest_tree.specs.WellFormed.{IsWellFormed, is_number_of, names_only}
use Rattle.nest_model.specs.Instances.{Instance}
use Rattle.nest_model.specs.Visits.{Visit}
use Rattle.nest_walk.specs.Texts.{placed}
use Rattle.owner_partition.specs.declared.anchor.Anchor.{Anchor}
use Rattle.owner_partition.specs.declared.anchor.Dist.{Dist}
use Rattle.owner_partition.specs.declared.anchor.Dist.TheVariants.{Block}
use Rattle.owner_partition.specs.declared.cut.Mark.{Mark}
use Rattle.owner_partition.specs.Marks.{enters_outer}
use Rattle.owner_partition.specs.OwnInstances.{names_no_inner}
use Rattle.owner_partition.specs.Phases.{phases}
use Rattle.owner_partition.proofs.Outside.{no_inner_of_own, no_inner_of_round}
use Rattle.sync_plan.specs.declared.plan.Plan.{Plan}
use Rattle.sync_plan.specs.Fit.{IsFit}
use Rattle.sync_plan.specs.Shape.{has_places, is_doall, mark_of, own_loops, static_phases}
use Rattle.sync_plan.proofs.Fits.{fit_parts}
use Rattle.sync_plan.proofs.FitOwners.{good_each}
use Rattle.sync_plan.proofs.PhasePlaces.{visit_there}
use Rattle.spmd_model.proofs.Deeds.{anchored}
use Rattle.std.specs.Int.{trailing_zeros, w64}
use Rattle.std.specs.Prelude.{bit_and}
use Rattle.nest_model.specs.Visits.{instances_at}
use Rattle.nest_walk.specs.Cursors.{visit_at}
use Rattle.nest_walk.specs.Paths.{Round}
use Rattle.nest_walk.specs.declared.cursor.Stop.{Stop}
use Rattle.sync_plan.specs.ProcessorSets.{members}
use Rattle.sync_plan.proofs.ProcessorSets.{members-zero, members_first}
use Rattle.sync_plan.specs.Waits.{posts_at, waits_for}
use Rattle.spmd_model.specs.Deeds.{owned_by}
use Rattle.std.proofs.lemmas.List.{append_assoc, map-append}
use Rattle.nest_walk.specs.InstancesLeft.{instances_left}
use Rattle.owner_partition.specs.PhasesLeft.{phases_left, phases_passed}
use Rattle.turns.specs.CounterTurns.{CounterTurn, awaits, begins, posts, works, boundary_turns, counter_turns, without_beginnings}
use Rattle.turns.specs.CountersLeft.{AreSoundCounters, IsAct, IsBegun, IsCounterNext, IsOne, at_turn, begun_by, come_of, counters_left, counters_plan, counters_rounds, counters_tree}
use Rattle.turns.specs.declared.counters.CounterNext.{CounterNext}
use Rattle.turns.specs.declared.counters.CounterNext.TheVariants.{Post, Await, Phase, Work, End}
use Rattle.turns.specs.declared.counters.CounterTurns.{CounterTurns}

-- the element behind so many
pub drop_at : {X : Type 0} (xs : List X) (k : ℕ) (x : X) (rest : List X) → drop k xs ≡ x ∷ rest → (slice_get xs k ≡ Some x) × (drop (suc k) xs ≡ rest)
drop_at [] zero x rest e = let clash : [] ≡ x ∷ rest = e in absurd (cc)
drop_at [] (suc k) x rest e = let clash : [] ≡ x ∷ rest = e in absurd (cc)
drop_at (y ∷ ys) zero x rest e = let is : y ∷ ys ≡ x ∷ rest = e in (cc, cc)
drop_at (y ∷ ys) (suc k) x rest e = drop_at ys k x rest e

-- nothing stands in front
pub record IsBare (post : Bool) (word : ℕ) (begin come : Bool) : Type 0 where
  pub no_post : post ≡ false
  pub no_await : word ≡ 0
  pub none_begins : begin ≡ false
  pub none_come : come ≡ false

pub bare_parts : (post : Bool) (word : ℕ) (begin come : Bool) → (post || not (word == 0) || begin || come) ≡ false → IsBare post word begin come
bare_parts post word begin come h =
    let last = or_parts (post || not (word == 0) || begin) come h in
    let middle = or_parts (post || not (word == 0)) begin last.0 in
    let first = or_parts post (not (word == 0)) middle.0 in
    record { no_post = first.0; no_await = eqb-true word 0 (not_not (word == 0) first.1); none_begins = middle.1; none_come = last.1 }
  where
    not_not : (b : Bool) → not b ≡ false → b ≡ true
    not_not true h = refl
    not_not false h = absurd (true≢false h)

pub none_is : {X : Type 0} (o : Option X) → is_some o ≡ false → o ≡ None
none_is None h = refl
none_is (Some x) h = absurd (true≢false h)

-- the anchor of a phase of a plan that fits
pub record PhaseAnchor (tree : Tree) (plan : Plan) (v : Visit) : Type 0 where
  pub anchor : Anchor
  pub at : slice_get plan.anchors (v.place - 1) ≡ Some anchor
  pub low : 1 ≤ v.place
  pub within : v.place - 1 < length plan.anchors
  pub outside : names_no_inner v.what anchor.form ≡ true
  pub given : reach_within (length tree.params) anchor.form.params ≡ true
  pub block : (b : ℕ) → anchor.dist ≡ Block b → 1 ≤ b

constants_within : (constants : ℕ) (pairs : List (ℕ × ℤ)) → list_all (λ p. is_number_of constants p.0) pairs ≡ true → reach_within constants pairs ≡ true
constants_within constants [] h = refl
constants_within constants (p ∷ pairs) h =
    let parts = and_parts (is_number_of constants p.0) (list_all (λ q. is_number_of constants q.0) pairs) h in
    and_from (nat_le p.0 constants) (reach_within constants pairs) (and_parts (nat_le 1 p.0) (nat_le p.0 constants) parts.0).1 (constants_within constants pairs parts.1)

block_some : (d : Dist) → has_places d ≡ true → (b : ℕ) → d ≡ Block b → 1 ≤ b
block_some d h b is = leb-true 1 b (and_parts (nat_le 1 b) (nat_le b 2147483647) (sym (ap has_places is) ∙ h)).0

outside_of : (tree : Tree) (marks : List Mark) (k constants : ℕ) (s : Statement) (around : List ℕ) (f : Form) → IsWellFormed tree → slice_get (placed tree (enters_outer marks)) k ≡ Some (record { what = s; around = around }) → names_only constants (own_loops marks s around) f ≡ true → names_no_inner s f ≡ true
outside_of tree marks k constants (do_loop head body) around f formed at named = elim (cases_Bool (is_doall (mark_of marks head.number))) [
  | inl does ↦ no_inner_of_own tree (enters_outer marks) k head body around constants f formed at (sym (ap (λ b. names_only constants (if b then head.number ∷ around else around) f) does) ∙ named)
  | inr not_doall ↦ no_inner_of_round tree (enters_outer marks) k (record { what = do_loop head body; around = around }) constants f formed at (sym (ap (λ b. names_only constants (if b then head.number ∷ around else around) f) not_doall) ∙ named)
]
outside_of tree marks k constants (work w) around f formed at named = refl
outside_of tree marks k constants (continue line) around f formed at named = refl

pub phase_anchor : (tree : Tree) (plan : Plan) (k : ℕ) (v : Visit) → IsWellFormed tree → IsFit tree plan → slice_get (phases tree plan.cut.marks) k ≡ Some v → PhaseAnchor tree plan v
phase_anchor tree plan k v formed fits at =
    let parts = fit_parts tree plan fits in
    let f = visit_there tree plan.cut.marks k v formed at in
    let (a, anchor_at) = anchored tree plan formed fits k v at in
    let index : v.place - 1 ≡ f.k = omega (arith, f.place_is) in
    let there : slice_get plan.anchors f.k ≡ Some a = ap (slice_get plan.anchors) (sym index) ∙ anchor_at in
    let good = good_each (length tree.params) plan.cut.marks (static_phases tree plan.cut.marks) plan.anchors f.k (record { what = v.what; around = f.there.around }) a parts.good_anchors f.there.at there in
    let named = and_parts (names_only (length tree.params) (own_loops plan.cut.marks v.what f.there.around) a.form) (has_places a.dist) good in
    let numbers = (and_parts (is_form a.form && _) (list_all (λ p. is_number_of (length tree.params) p.0) a.form.params) named.0).1 in
    record {
      anchor = a;
      at = anchor_at;
      low = omega (arith, f.place_is);
      within = slice_get_within plan.anchors (v.place - 1) a anchor_at;
      outside = outside_of tree plan.cut.marks f.k (length tree.params) v.what f.there.around a.form formed f.there.at named.0;
      given = constants_within (length tree.params) a.form.params numbers;
      block = block_some a.dist named.1;
    }

-- ---- the first turn, by what stands first

pub await_first : (number word : ℕ) (post : Bool) (later : List CounterTurn) → post ≡ false → 0 < word → word < 2 ^ 64 →
    boundary_turns number post (members word) ++ later ≡ awaits (trailing_zeros w64 word) number ∷ (boundary_turns number post (members (bit_and word (18446744073709551615 - 1 * 2 ^ trailing_zeros w64 word % 18446744073709551616))) ++ later)
await_first number word post later none some small =
    let rest = members (bit_and word (18446744073709551615 - 1 * 2 ^ trailing_zeros w64 word % 18446744073709551616)) in
    ap (λ b. boundary_turns number b (members word) ++ later) none
    ∙ ap (λ ms. map (λ q. awaits q number) ms ++ later) (members_first word some small)
    ∙ ap (λ b. awaits (trailing_zeros w64 word) number ∷ (boundary_turns number b rest ++ later)) (sym none)

-- nothing of the boundary is left
pub no_boundary : (number word : ℕ) (post : Bool) → post ≡ false → word ≡ 0 → boundary_turns number post (members word) ≡ []
no_boundary number word post none no_word = ap (λ b. boundary_turns number b (members word)) none ∙ ap (λ w. map (λ q. awaits q number) (members w)) no_word ∙ ap (map (λ q. awaits q number)) members-zero

pub begin_first : (number word e : ℕ) (post : Bool) (o : Option ℕ) (later : List CounterTurn) → post ≡ false → word ≡ 0 → o ≡ Some e → boundary_turns number post (members word) ++ (begun_by o ++ later) ≡ begins e ∷ later
begin_first number word e post o later none no_word is = ap (λ l. l ++ (begun_by o ++ later)) (no_boundary number word post none no_word) ∙ ap (λ b. begun_by b ++ later) is

pub work_first : (number word : ℕ) (post : Bool) (begin : Option ℕ) (tree : Tree) (rounds : List Round) (o : Option Stop) (later : List CounterTurn) → post ≡ false → word ≡ 0 → begin ≡ None → is_some o ≡ true → IsOne tree rounds o →
    (i : Instance) × (boundary_turns number post (members word) ++ (begun_by begin ++ (map works (come_of tree rounds o) ++ later)) ≡ works i ∷ (boundary_turns number post (members word) ++ (begun_by begin ++ later)))
work_first number word post begin tree rounds None later none empty no_begin come one = absurd (true≢false (sym come))
work_first number word post begin tree rounds (Some stop) later none no_word no_begin come one =
    let empty = no_boundary number word post none no_word in (
      one.instance,
      ap (λ l. l ++ (begun_by begin ++ (map works (instances_at (param_values tree) (visit_at tree rounds stop)) ++ later))) empty
          ∙ ap (λ b. begun_by b ++ (map works (instances_at (param_values tree) (visit_at tree rounds stop)) ++ later)) no_begin ∙ ap (λ is. map works is ++ later) one.is
          ∙ ap (λ b. works one.instance ∷ (begun_by b ++ later)) (sym no_begin) ∙ ap (λ l. works one.instance ∷ (l ++ (begun_by begin ++ later))) (sym empty),
    )

pub come_is : {X : Type 0} (post : Bool) (word : ℕ) (begin : Option ℕ) (o : Option X) → post ≡ false → word ≡ 0 → begin ≡ None → (post || not (word == 0) || is_some begin || is_some o) ≡ true → is_some o ≡ true
come_is post word begin o none empty no_begin h =
    sym (ap (λ b. b || not (word == 0) || is_some begin || is_some o) none ∙ ap (λ w. not (w == 0) || is_some begin || is_some o) empty ∙ ap (λ b. is_some b || is_some o) no_begin) ∙ h

-- something of the boundary is left
pub some_word : (post : Bool) (word : ℕ) → 0 < word → (post || not (word == 0)) ≡ true
some_word true word some = refl
some_word false word some = elim (cases_Bool (word == 0)) [
  | inl none ↦ absurd (let e : word ≡ 0 = eqb-true word 0 none in omega arith)
  | inr not_none ↦ ap not not_none
]

-- ---- into a phase

-- the phase that comes next
pub next_phase : (tree : Tree) (plan : Plan) (passed : ℕ) (left rest : List Visit) (v : Visit) → left ≡ drop passed (phases tree plan.cut.marks) → left ≡ v ∷ rest →
    (slice_get (phases tree plan.cut.marks) passed ≡ Some v) × (drop (suc passed) (phases tree plan.cut.marks) ≡ rest)
next_phase tree plan passed left rest v behind is = drop_at (phases tree plan.cut.marks) passed v rest (sym behind ∙ is)

-- the phase's turns are those that stood behind
pub entered_turns : (tree : Tree) (plan : Plan) (p e number number' word word' : ℕ) (post post' : Bool) (begin begin' : Option ℕ) (v : Visit) (rest : List Visit) (rounds rounds' : List Round) (come : Option Stop) (own own' : List Instance) →
    IsBare post word (is_some begin) (is_some come) → own ≡ [] → number' ≡ e - 1 → begin' ≡ Some e → post' ≡ posts_at tree plan p v.place v.loops → members word' ≡ waits_for tree plan p v.place v.loops →
    own' ≡ owned_by tree (slice_get plan.anchors (v.place - 1)) plan.workers p v →
    boundary_turns number' post' (members word') ++ (begun_by begin' ++ (map works (come_of tree rounds' come) ++ (map works own' ++ counter_turns tree plan p (suc e) rest)))
    ≡ boundary_turns number post (members word) ++ (begun_by begin ++ (map works (come_of tree rounds come) ++ (map works own ++ counter_turns tree plan p e (v ∷ rest))))
entered_turns tree plan p e number number' word word' post post' begin begin' v rest rounds rounds' come own own' bare empty number_is begin_is post_is word_is own_is =
    let later = counter_turns tree plan p (suc e) rest in
    let all = counter_turns tree plan p e (v ∷ rest) in
    let posted = posts_at tree plan p v.place v.loops in
    let awaited = waits_for tree plan p v.place v.loops in
    let owned = owned_by tree (slice_get plan.anchors (v.place - 1)) plan.workers p v in
    let none = none_is come bare.none_come in
    let came : (rs : List Round) → map works (come_of tree rs come) ≡ [] = λ rs. ap (λ o. map works (come_of tree rs o)) none in
    let new : boundary_turns number' post' (members word') ++ (begun_by begin' ++ (map works (come_of tree rounds' come) ++ (map works own' ++ later))) ≡ all =
    ap (λ l. boundary_turns number' post' (members word') ++ (begun_by begin' ++ (l ++ (map works own' ++ later)))) (came rounds')
    ∙ ap (λ b. boundary_turns number' post' (members word') ++ (begun_by b ++ (map works own' ++ later))) begin_is
    ∙ ap (λ n. boundary_turns n post' (members word') ++ (begins e ∷ (map works own' ++ later))) number_is
    ∙ ap (λ b. boundary_turns (e - 1) b (members word') ++ (begins e ∷ (map works own' ++ later))) post_is
    ∙ ap (λ l. boundary_turns (e - 1) posted l ++ (begins e ∷ (map works own' ++ later))) word_is
    ∙ ap (λ l. boundary_turns (e - 1) posted awaited ++ (begins e ∷ (map works l ++ later))) own_is
    ∙ sym (append_assoc (boundary_turns (e - 1) posted awaited) (begins e ∷ map works owned) later) in
    let old : boundary_turns number post (members word) ++ (begun_by begin ++ (map works (come_of tree rounds come) ++ (map works own ++ all))) ≡ all =
    ap (λ l. l ++ (begun_by begin ++ (map works (come_of tree rounds come) ++ (map works own ++ all)))) (no_boundary number word post bare.no_post bare.no_await)
    ∙ ap (λ b. begun_by b ++ (map works (come_of tree rounds come) ++ (map works own ++ all))) (none_is begin bare.none_begins)
    ∙ ap (λ l. l ++ (map works own ++ all)) (came rounds)
    ∙ ap (λ l. map works l ++ all) empty in
    new ∙ sym old

-- nothing is left
pub none_left : (tree : Tree) (plan : Plan) (p e number word : ℕ) (post : Bool) (begin : Option ℕ) (left : List Visit) (rounds : List Round) (come : Option Stop) (own : List Instance) → IsBare post word (is_some begin) (is_some come) → own ≡ [] → left ≡ [] →
    boundary_turns number post (members word) ++ (begun_by begin ++ (map works (come_of tree rounds come) ++ (map works own ++ counter_turns tree plan p e left))) ≡ []
none_left tree plan p e number word post begin left rounds come own bare empty is =
    let later = map works (come_of tree rounds come) ++ (map works own ++ counter_turns tree plan p e left) in
    ap (λ l. l ++ (begun_by begin ++ later)) (no_boundary number word post bare.no_post bare.no_await)
    ∙ ap (λ b. begun_by b ++ later) (none_is begin bare.none_begins)
    ∙ ap (λ o. map works (come_of tree rounds o) ++ (map works own ++ counter_turns tree plan p e left)) (none_is come bare.none_come)
    ∙ ap (λ l. map works l ++ counter_turns tree plan p e left) empty
    ∙ ap (counter_turns tree plan p e) is

-- ---- phases that begin unseen

-- something comes next
pub some_turn : (c : CounterTurns) (t : CounterTurn) (rest : List CounterTurn) → counters_left c ≡ t ∷ rest → (at_turn c ≡ false → counters_left c ≡ []) → at_turn c ≡ true
some_turn c t rest is end = elim (cases_Bool (at_turn c)) [
  | inl yes_it_does ↦ yes_it_does
  | inr none ↦ absurd (let no : t ∷ rest ≡ [] = sym is ∙ end none in cc)
]

-- where an act comes next no phase begins
pub act_first : (c : CounterTurns) (n : CounterNext) → IsCounterNext c n → IsAct n → counters_left c ≡ without_beginnings (counters_left c)
act_first c (Post number) next act = next.1 ∙ sym (ap without_beginnings next.1)
act_first c (Await on wanted) next act = next.1 ∙ sym (ap without_beginnings next.1)
act_first c (Phase e) next act = absurd act
act_first c (Work stop) next act = next.2 ∙ sym (ap without_beginnings next.2)
act_first c End next act = next ∙ sym (ap without_beginnings next)

-- past the beginning of a phase
pub begin_passed : (left rest : List CounterTurn) (e : ℕ) (t : CounterTurn) (new : List CounterTurn) → left ≡ begins e ∷ rest → left ≡ t ∷ new → without_beginnings new ≡ without_beginnings left
begin_passed left rest e t new is passed =
    let both : begins e ∷ rest ≡ t ∷ new = sym is ∙ passed in
    let same : rest ≡ new = cc in
    sym (ap without_beginnings is ∙ ap without_beginnings same)

-- the first of turns is one turn
no_post : {n on wanted : ℕ} {xs ys : List CounterTurn} → posts n ∷ xs ≡ awaits on wanted ∷ ys → ⊥
no_post is = absurd (cc)

no_beginning : {e on wanted : ℕ} {xs ys : List CounterTurn} → begins e ∷ xs ≡ awaits on wanted ∷ ys → ⊥
no_beginning is = absurd (cc)

no_work : {i : Instance} {on wanted : ℕ} {xs ys : List CounterTurn} → works i ∷ xs ≡ awaits on wanted ∷ ys → ⊥
no_work is = absurd (cc)

same_wanted : {on wanted p number : ℕ} {xs ys : List CounterTurn} → awaits on wanted ∷ xs ≡ awaits p number ∷ ys → wanted ≡ number
same_wanted is = cc

-- the number that is awaited is the boundary's
pub same_number : (number on wanted e : ℕ) (qs : List ℕ) (come rest : List CounterTurn) → map (λ q. awaits q number) qs ++ (begins e ∷ come) ≡ awaits on wanted ∷ rest → wanted ≡ number
same_number number on wanted e [] come rest is = absurd (no_beginning is)
same_number number on wanted e (q ∷ qs) come rest is = same_wanted (sym is)

-- where an await comes next, nothing is posted and somebody is awaited
pub await_stands : (c : CounterTurns) (on wanted : ℕ) (rest : List CounterTurn) → AreSoundCounters c → at_turn c ≡ true → counters_left c ≡ awaits on wanted ∷ rest → (c.posts ≡ false) × (0 < c.awaits)
await_stands c on wanted rest sound some is = elim (cases_Bool c.posts) [
  | inl posting ↦ absurd (no_post (sym (ap (λ b. boundary_turns c.number b (members c.awaits) ++ behind) posting) ∙ is))
  | inr silent ↦ (
    silent,
    elim (cases_lt 0 c.awaits) [
      | inl some_word ↦ some_word
      | inr none ↦ absurd (no_word silent (omega arith) c.begins refl)
    ],
  )
]
  where
    come : List CounterTurn
    come = map works (come_of (counters_tree c) (counters_rounds c) c.come) ++ (map works (instances_left c.own) ++ counter_turns (counters_tree c) (counters_plan c) c.processor (suc (phases_passed c.phases)) (phases_left c.phases))

    behind : List CounterTurn
    behind = begun_by c.begins ++ come

    no_word : c.posts ≡ false → c.awaits ≡ 0 → (o : Option ℕ) → c.begins ≡ o → ⊥
    no_word silent zero_word (Some e) begin = no_beginning (sym (begin_first c.number c.awaits e c.posts c.begins come silent zero_word begin) ∙ is)
    no_word silent zero_word None begin =
        let first = work_first c.number c.awaits c.posts c.begins (counters_tree c) (counters_rounds c) c.come (map works (instances_left c.own) ++ counter_turns (counters_tree c) (counters_plan c) c.processor (suc (phases_passed c.phases)) (phases_left c.phases)) silent zero_word begin
        (come_is c.posts c.awaits c.begins c.come silent zero_word begin some) sound.one in
        no_work (sym first.1 ∙ is)

-- with less at hand
pub sound_less : (c : CounterTurns) → AreSoundCounters c → (post : Bool) (word : ℕ) (begin : Option ℕ) (come : Option Stop) → ((post || not (word == 0)) ≡ true → begin ≡ Some (suc c.number) × ((c.posts || not (c.awaits == 0)) ≡ true)) → IsBegun (counters_tree c) (counters_plan c) c.place begin → IsOne (counters_tree c) (counters_rounds c) come →
    AreSoundCounters (record c { posts = post; awaits = word; begins = begin; come = come })
sound_less c sound post word begin come front begun one = record {
  formed = sound.formed;
  fits = sound.fits;
  worker = sound.worker;
  walked = sound.walked;
  owned = sound.owned;
  entered = sound.entered;
  behind = sound.behind;
  boundary = λ h. record { passed = (sound.boundary (front h).1).passed; phase = (front h).0 };
  begun = begun;
  one = one;
}

pub no_front : (post : Bool) (word : ℕ) → post ≡ false → word ≡ 0 → (post || not (word == 0)) ≡ true → ⊥
no_front post word none no_word h = true≢false (sym h ∙ ap (λ b. b || not (word == 0)) none ∙ ap (λ w. not (w == 0)) no_word)

pub some_is : {X : Type 0} (o : Option X) → is_some o ≡ true → (x : X) × (o ≡ Some x)
some_is None h = absurd (true≢false (sym h))
some_is (Some x) h = (x, refl)

-- ---- some of the phase's instances at once

module _ (tree : Tree) (number word : ℕ) (post : Bool) (begin : Option ℕ) (come : Option Stop) (bare : IsBare post word (is_some begin) (is_some come)) (later : List CounterTurn) where
  bare_left : (rounds : List Round) (own : List Instance) → boundary_turns number post (members word) ++ (begun_by begin ++ (map works (come_of tree rounds come) ++ (map works own ++ later))) ≡ map works own ++ later
  bare_left rounds own =
      ap (λ l. l ++ (begun_by begin ++ (map works (come_of tree rounds come) ++ (map works own ++ later)))) (no_boundary number word post bare.no_post bare.no_await)
      ∙ ap (λ b. begun_by b ++ (map works (come_of tree rounds come) ++ (map works own ++ later))) (none_is begin bare.none_begins)
      ∙ ap (λ o. map works (come_of tree rounds o) ++ (map works own ++ later)) (none_is come bare.none_come)

  pub strip_turns : (rounds rounds' : List Round) (own front own' : List Instance) → own ≡ front ++ own' →
      boundary_turns number post (members word) ++ (begun_by begin ++ (map works (come_of tree rounds come) ++ (map works own ++ later)))
      ≡ map works front ++ (boundary_turns number post (members word) ++ (begun_by begin ++ (map works (come_of tree rounds' come) ++ (map works own' ++ later))))
  strip_turns rounds rounds' own front own' is =
      bare_left rounds own ∙ ap (λ l. map works l ++ later) is ∙ ap (λ l. l ++ later) (map-append works front own') ∙ append_assoc (map works front) (map works own') later
      ∙ ap (λ l. map works front ++ l) (sym (bare_left rounds' own'))
