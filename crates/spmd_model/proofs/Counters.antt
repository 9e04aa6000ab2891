-- Counters: a processor's posts rise, and an awaited counter that has come to a number shows that its post is done.
use Rattle.std.proofs.Common.{◌≡◌, ◌≢◌, ℕ, zero, suc, ◌+◌, ◌<◌, ◌≤◌, ◌⊎◌, true, false, true≢false, if◌then◌else◌, refl, [], ◌∷◌, take, fold, Some, ap, sym, subst, ◌∙◌, inl, inr, ⊎_elim, arith}
use Rattle.std.specs.Prelude.{slice_get}
use Rattle.std.proofs.lemmas.Bool.{cases_Bool, cases_eq, cases_lt}
use Rattle.std.proofs.lemmas.List.Sums.{fold-append}
use Rattle.std.proofs.lemmas.Option.{slice_get_cases, slice_get_within}
use Rattle.list_lemmas.proofs.Gets.{one_element}
use Rattle.spmd_model.specs.Timelines.{Machine, Word, counter, signal, boundary}
use Rattle.spmd_model.specs.Acts.{Act, post, await, load, store, add, print, act_at, acts_of}
use Rattle.spmd_model.specs.Ordered.{IsSound}
use Rattle.spmd_model.specs.Lawful.{IsPosted, acts_in_front, counted, counter_at, is_same}
use Rattle.spmd_model.proofs.Lists.{take-more, take_past}
use Rattle.spmd_model.proofs.ActLists.{act_of_moment, found, in_front-rises}
use Rattle.spmd_model.proofs.MomentActs.{IsAwaitIn, IsPostIn, post_first, tells}
use Rattle.spmd_model.proofs.Keeps.{stands}

-- words that are the same
pub same_word : (w v : Word) → is_same w v ≡ true → w ≡ v
same_word counter counter h = refl
same_word counter signal h = absurd (true≢false (sym h))
same_word signal counter h = absurd (true≢false (sym h))
same_word signal signal h = refl

pub same_itself : (w : Word) → is_same w w ≡ true
same_itself counter = refl
same_itself signal = refl

-- a counter above 0 is the number of a post that is done
pub counter_posted : (m : Machine) (w : Word) (q k : ℕ) → 0 < counter_at m w q k → IsPosted (acts_of m q) w (counter_at m w q k) k
counter_posted m w q zero some = absurd (omega (arith, some))
counter_posted m w q (suc k) some = elim ((slice_get_cases (acts_of m q) k).1) [
  | inl h ↦
      let more : counter_at m w q (suc k) ≡ counted w (counter_at m w q k) h.0 = ap (fold (counted w) 0) (take-more (acts_of m q) k h.0 h.2) ∙ fold-append (counted w) 0 (take k (acts_of m q)) (h.0 ∷ []) in
      by (counter_posted m w q k) h.0 h.2 more
  | inr h ↦ let same : counter_at m w q (suc k) ≡ counter_at m w q k = ap (fold (counted w) 0) (take_past (acts_of m q) k h.0) in
      kept (counter_posted m w q k) same
]
  where
    later : {n : ℕ} → IsPosted (acts_of m q) w n k → IsPosted (acts_of m q) w n (suc k)
    later (i, lt, e) = (i, omega (arith, lt), e)

    kept : (0 < counter_at m w q k → IsPosted (acts_of m q) w (counter_at m w q k) k) → counter_at m w q (suc k) ≡ counter_at m w q k → IsPosted (acts_of m q) w (counter_at m w q (suc k)) (suc k)
    kept before same = subst (λ n. IsPosted (acts_of m q) w n (suc k)) (sym same) (later (before (subst (λ n. 0 < n) same some)))

    by : (0 < counter_at m w q k → IsPosted (acts_of m q) w (counter_at m w q k) k) → (a : Act) → act_at m q k ≡ Some a → counter_at m w q (suc k) ≡ counted w (counter_at m w q k) a → IsPosted (acts_of m q) w (counter_at m w q (suc k)) (suc k)
    by before (post v n) e more = elim (cases_Bool (is_same w v)) [
      | inl same ↦ subst (λ x. IsPosted (acts_of m q) w x (suc k)) (sym (more ∙ ap (λ b. if b then n else counter_at m w q k) same)) (k, omega arith, subst (λ x. act_at m q k ≡ Some (post x n)) (sym (same_word w v same)) e)
      | inr other ↦ kept before (more ∙ ap (λ b. if b then n else counter_at m w q k) other)
    ]
    by before (await v on n) e more = kept before more
    by before (load t c) e more = kept before more
    by before (store t c) e more = kept before more
    by before (add t c) e more = kept before more
    by before (print t) e more = kept before more

-- of two posts, the one with the lower number stands in front
pub lower_in_front : (m : Machine) (w : Word) (q i j n l : ℕ) → IsSound m → act_at m q i ≡ Some (post w n) → act_at m q j ≡ Some (post w l) → n < l → i < j
lower_in_front m w q i j n l sound e g lt =
    let f = found m q i (post w n) e in
    let h = found m q j (post w l) g in
    let a : IsPostIn w q f.index n f.moment = tells q f.place f.index f.moment (post w n) f.is in
    let b : IsPostIn w q h.index l h.moment = tells q h.place h.index h.moment (post w l) h.is in
    ⊎_elim
    (λ less.
    let rise = in_front-rises m q (suc f.place) h.place (omega (arith, less)) in
    let here = stands m q i (post w n) f in
    omega (arith, rise, here.to, h.number))
    (λ le. ⊎_elim
    (λ same. let one : Some (boundary w n a.posts a.awaits) ≡ Some (boundary w l b.posts b.awaits) = sym (f.at ∙ ap Some a.moment) ∙ ap (slice_get m.timeline) (sym same) ∙ h.at ∙ ap Some b.moment in let equal : n ≡ l = cc in absurd (omega (arith, equal, lt)))
    (λ other. absurd (omega (arith, sound.rising w h.place f.place l n b.posts a.posts b.awaits a.awaits (omega (arith, le, other)) (h.at ∙ ap Some b.moment) (f.at ∙ ap Some a.moment), lt))) (cases_eq h.place f.place))
    (cases_lt f.place h.place)

-- the post that is awaited
pub awaited_post : (m : Machine) (w : Word) (p i q n : ℕ) → IsSound m → p < m.workers → act_at m p i ≡ Some (await w q n) → (q < m.workers) × ((k : ℕ) × (act_at m q k ≡ Some (post w n)))
awaited_post m w p i q n sound inside e =
    let f = found m p i (await w q n) e in
    let a : IsAwaitIn w p q n f.moment = tells p f.place f.index f.moment (await w q n) f.is in
    let there : slice_get m.timeline f.place ≡ Some (boundary w n a.posts a.awaits) = f.at ∙ ap Some a.moment in
    let s = sound.awaited w f.place n p q a.posts a.awaits there inside a.awaited in
    (s.0, (acts_in_front m q f.place + 0, act_of_moment m q f.place 0 (boundary w n a.posts a.awaits) (post w n) there (post_first w q f.place n a.posts a.awaits s.1)))

pub posted : (m : Machine) (w : Word) (p i q n k : ℕ) → IsSound m → p < m.workers → act_at m p i ≡ Some (await w q n) → n ≤ counter_at m w q k → (q < m.workers) × ((n ≡ 0) ⊎ IsPosted (acts_of m q) w n k)
posted m w p i q n k sound inside e come =
    let (below, (l, post_is)) = awaited_post m w p i q n sound inside e in
    (below, ⊎_elim (λ none. inl none) (λ other. inr (there l post_is other)) (cases_eq n 0))
  where
    there : (l : ℕ) → act_at m q l ≡ Some (post w n) → n ≢ 0 → IsPosted (acts_of m q) w n k
    there l post_is some =
        let (j, lt, g) = counter_posted m w q k (omega (arith, come, some)) in
        ⊎_elim (λ same. (j, lt, subst (λ x. act_at m q j ≡ Some (post w x)) (sym same) g))
        (λ other. let front = lower_in_front m w q l j n (counter_at m w q k) sound post_is g (omega (arith, come, other)) in (l, omega (arith, front, lt), post_is)) (cases_eq n (counter_at m w q k))

-- behind a post the counter is at least its number
pub counter_reaches : (m : Machine) (w : Word) (q k l n : ℕ) → IsSound m → act_at m q l ≡ Some (post w n) → l < k → n ≤ counter_at m w q k
counter_reaches m w q zero l n sound e lt = absurd (omega (arith, lt))
counter_reaches m w q (suc k) l n sound e lt = elim ((slice_get_cases (acts_of m q) k).1) [
  | inl h ↦
      let more : counter_at m w q (suc k) ≡ counted w (counter_at m w q k) h.0 = ap (fold (counted w) 0) (take-more (acts_of m q) k h.0 h.2) ∙ fold-append (counted w) 0 (take k (acts_of m q)) (h.0 ∷ []) in
      by (counter_reaches m w q k l n sound e) h.0 h.2 more
  | inr h ↦
      let same : counter_at m w q (suc k) ≡ counter_at m w q k = ap (fold (counted w) 0) (take_past (acts_of m q) k h.0) in
      let before = counter_reaches m w q k l n sound e (omega (arith, slice_get_within (acts_of m q) l (post w n) e, h.0)) in
      omega (arith, same, before)
]
  where
    in_front : (a : Act) → act_at m q k ≡ Some a → (a ≡ post w n → ⊥) → l < k
    in_front a g apart = ⊎_elim (λ less. less) (λ le. let here : l ≡ k = omega (arith, lt, le) in absurd (apart (one_element (act_at m q k) a (post w n) g (ap (act_at m q) (sym here) ∙ e)))) (cases_lt l k)

    kept : (l < k → n ≤ counter_at m w q k) → (a : Act) → act_at m q k ≡ Some a → (a ≡ post w n → ⊥) → counter_at m w q (suc k) ≡ counter_at m w q k → n ≤ counter_at m w q (suc k)
    kept before a g apart same = let le = before (in_front a g apart) in omega (arith, le, same)

    by : (l < k → n ≤ counter_at m w q k) → (a : Act) → act_at m q k ≡ Some a → counter_at m w q (suc k) ≡ counted w (counter_at m w q k) a → n ≤ counter_at m w q (suc k)
    by before (post v i) g more = elim (cases_Bool (is_same w v)) [
      | inl same ↦ mine (subst (λ x. act_at m q k ≡ Some (post x i)) (sym (same_word w v same)) g) (more ∙ ap (λ b. if b then i else counter_at m w q k) same)
      | inr other ↦ kept before (post v i) g (λ c. apart other (let is : v ≡ w = cc in is)) (more ∙ ap (λ b. if b then i else counter_at m w q k) other)
    ]
      where
        apart : is_same w v ≡ false → v ≡ w → ⊥
        apart other same = true≢false (sym (same_itself w) ∙ ap (is_same w) (sym same) ∙ other)

        mine : act_at m q k ≡ Some (post w i) → counter_at m w q (suc k) ≡ i → n ≤ counter_at m w q (suc k)
        mine g' now = ⊎_elim (λ same. omega (arith, now, same)) (λ le. ⊎_elim (λ lower. absurd (omega (arith, lower_in_front m w q k l i n sound g' e lower, lt))) (λ other. omega (arith, now, other)) (cases_lt i n)) (cases_eq i n)
    by before (await v on i) g more = kept before (await v on i) g (λ c. absurd (cc)) more
    by before (load t c) g more = kept before (load t c) g (λ x. absurd (cc)) more
    by before (store t c) g more = kept before (store t c) g (λ x. absurd (cc)) more
    by before (add t c) g more = kept before (add t c) g (λ x. absurd (cc)) more
    by before (print t) g more = kept before (print t) g (λ x. absurd (cc)) more
