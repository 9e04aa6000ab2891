-- A table begins and ends, and seats are cut and joined, by the rule.
use Rattle.std.proofs.Common.{◌≡◌, ◌≢◌, ℕ, zero, suc, ◌<◌, ◌≤◌, List, [], ◌∷◌, ◌++◌, length, map, replicate, set, take, Some, refl, sym, ◌∙◌, ap, subst, inl, inr, ⊎_elim, arith, get_or-set_same, get_or-set_other}
use Rattle.std.specs.Prelude.{ℤ, slice_get, slice_index}
use mathlib.Core.Option.{some, some-injective, some-ne-none}
use lib.ListN.{get_elem?}
use Rattle.std.proofs.lemmas.Bool.{cases_eq, cases_lt}
use Rattle.std.proofs.lemmas.List.{get_or-replicate, map-append}
use Rattle.atomic_table.specs.Table.{opening, Final, Seen, Splits, Joins}
use Rattle.atomic_table.proofs.Lists.{at_snoc, set_again, set_else}
use Rattle.spmd_model.specs.Laws.{Laws}
use Rattle.spmd_model.specs.Protocols.{Protocol}
use Rattle.shared_words.specs.declared.view.Given.{Given}
use Rattle.shared_words.specs.declared.roles.Role.{Role}
use Rattle.shared_words.specs.declared.roles.Role.TheVariants.{Main, Cell, Spent, Over}
use Rattle.shared_words.specs.declared.roles.Stage.{Stage}
use Rattle.shared_words.specs.declared.roles.Stage.TheVariants.{NotOut, Out, Ended}
use Rattle.shared_words.specs.declared.view.View.{View}
use Rattle.shared_words.specs.declared.view.View.TheVariants.{Seated, Away}
use Rattle.shared_words.specs.Places.{settled_at}
use Rattle.shared_words.specs.Words.{cells_in, word_count, word_value}
use Rattle.shared_words.specs.Ends.{IsLast}
use Rattle.shared_words.specs.Seats.{Says}
use Rattle.shared_words.specs.Shown.{AreOne}
use Rattle.shared_words.specs.Vain.{AreReached}
use Rattle.shared_words.specs.Homes.{Subject, given_in, known_in, protocol_in, processor_of, role_in}
use Rattle.shared_words.specs.Rule.{Shown, IsAtHome, AreAtHome, subject_of, table_protocol, roles_in, with_role, staged, taken_out, first_of, taken_in, first_view, noted, told, learnt}
use Rattle.shared_words.proofs.WordSteps.{map-set}
use Rattle.shared_words.proofs.Keeps.{role_at, home_set, home_kept, same_protocol, new_role, alive_cell, known_kept, reached_set}
use Rattle.shared_words.proofs.Taking.{splits, joins, spares, ends, closes, opens}

-- one seat more of this program, plan and style
home_more : (subject : Subject) (views : List View) (w : View) → IsAtHome subject w → AreAtHome subject views → AreAtHome subject (views ++ w ∷ [])
home_more subject views w mine home j v is = ⊎_elim (λ was. home j v was) (λ (same : w ≡ v). subst (IsAtHome subject) same mine) (at_snoc views w v j is)

roles_more : (views : List View) (w : View) → roles_in (views ++ w ∷ []) ≡ roles_in views ++ (role_in w) ∷ []
roles_more views w = map-append role_in views (w ∷ [])

roles_set : (views : List View) (id : ℕ) (w : View) → roles_in (set views id w) ≡ set (roles_in views) id (role_in w)
roles_set views id w = map-set role_in views id w

main_alive : (r : Role) (stages : List Stage) → r ≡ Main stages → r ≢ Spent
main_alive r stages is e = let clash : Main stages ≡ Spent = sym is ∙ e in absurd (cc)

-- ---- what seats know, where the processors have come to these places

abbrev pub IsReached : Protocol → (ℕ → ℕ) → View → Type 0
IsReached m at v = AreReached m (slice_index (known_in v)) at

abbrev pub AllReached : Protocol → (ℕ → ℕ) → List View → Type 0
AllReached m at views = (j : ℕ) (v : View) → get_elem? views j ≡ some v → IsReached m at v

reached_role : (m : Protocol) (at : ℕ → ℕ) (v : View) (r : Role) → IsReached m at v → IsReached m at (with_role v r)
reached_role m at v r reached = subst (λ l. AreReached m (slice_index l) at) (sym (known_kept v r)) reached

reached_more : (m : Protocol) (at : ℕ → ℕ) (views : List View) (w : View) → IsReached m at w → AllReached m at views → AllReached m at (views ++ w ∷ [])
reached_more m at views w mine others j v is = ⊎_elim (λ was. others j v was) (λ (same : w ≡ v). subst (λ (x : View). IsReached m at x) same mine) (at_snoc views w v j is)

-- words and seats show the machine at the same places
abbrev Stays : (m : Protocol) (words : List ℕ) (roles : List Role) → AreOne m words roles → List Role → Type 0
Stays m words roles one seats = (next : AreOne m words seats) × (next.at ≡ one.at)

all_stay : (m : Protocol) (words : List ℕ) (roles seats : List Role) (one : AreOne m words roles) (to : Stays m words roles one seats) (views : List View) → AllReached m one.at views → AllReached m to.0.at views
all_stay m words roles seats one to views all = subst (λ (at : ℕ → ℕ). AllReached m at views) (sym to.1) all

-- where one place is set to where its processor is, all are reached
set_reached : (m : Protocol) (known : List ℕ) (at : ℕ → ℕ) (p n : ℕ) → at p ≡ n → AreReached m (slice_index known) at → AreReached m (slice_index (set known p n)) at
set_reached m known at p n here reached q lt = elim (cases_eq q p) [
  | inr ne ↦ (let same = get_or-set_other known p q n 0 ne in let old = reached q lt in omega (arith, same, old))
  | inl e ↦ ⊎_elim
      (λ inside. let same = get_or-set_same known p n 0 inside in let is : slice_index (set known p n) q ≡ slice_index (set known p n) p = ap (slice_index (set known p n)) e in let place : at q ≡ at p = ap at e in omega (arith, same, is, here, place))
      (λ past. subst (λ (l : List ℕ). slice_index l q ≤ at q) (sym (unset known p n past)) (reached q lt)) (cases_lt p (length known))
]
  where
    unset : {A : Type 0} (l : List A) (i : ℕ) (a : A) → length l ≤ i → set l i a ≡ l
    unset [] i a le = refl
    unset (x ∷ xs) ℕ.zero a le = absurd (omega (arith, le))
    unset (x ∷ xs) (ℕ.suc i) a le = ap (λ l. x ∷ l) (unset xs i a (omega (arith, le)))

noted_reached : (m : Protocol) (stages : List Stage) (seats at : ℕ → ℕ) (j : ℕ) (r : Role) (known : List ℕ) → Says m stages seats at j r → AreReached m (slice_index known) at → AreReached m (slice_index (noted r known)) at
noted_reached m stages seats at j (Main st) known says reached = reached
noted_reached m stages seats at j (Cell p n misses seen) known says reached = set_reached m known at p n says.3 reached
noted_reached m stages seats at j Spent known says reached = reached
noted_reached m stages seats at j Over known says reached = reached

-- a seat that learns what another knows
pub learnt_role : (v w : View) → role_in (learnt v w) ≡ role_in v
learnt_role (Seated program plan style known role) w = refl
learnt_role Away w = refl

learnt_home : (subject : Subject) (v w : View) → IsAtHome subject v → IsAtHome subject (learnt v w)
learnt_home subject (Seated program plan style known role) w home = home
learnt_home subject Away w home = tt

learnt_reached : (m : Protocol) (stages : List Stage) (seats at : ℕ → ℕ) (j : ℕ) (v w : View) → Says m stages seats at j (role_in v) → IsReached m at w → IsReached m at (learnt v w)
learnt_reached m stages seats at j (Seated program plan style known role) w says reached = noted_reached m stages seats at j role (known_in w) says reached
learnt_reached m stages seats at j Away w says reached = λ q lt. omega arith

pub told_role : (v : View) → role_in (told v) ≡ Spent
told_role (Seated program plan style known role) = refl
told_role Away = refl

module _ {S : Type 0} (k : Given) where
  pub tell_allowed : (id : ℕ) (v : View) → Splits {S = S} (Shown k) id v v (told v)
  tell_allowed id v s r at =
      let again : set s.views id v ≡ s.views = set_again s.views id v at in
      let shape : roles_in (set s.views id v ++ told v ∷ []) ≡ roles_in s.views ++ Spent ∷ [] = roles_more (set s.views id v) (told v) ∙ (λ i. roles_in (again i) ++ told_role v i ∷ []) in
      let one = subst (Stays (table_protocol k) s.words (roles_in s.views) r.one) (sym shape) (spares (table_protocol k) s.words (roles_in s.views) r.one) in record {
        one = one.0;
        home = home_more (subject_of k) (set s.views id v) (told v) (home_kept (subject_of k) v Spent (r.home id v at)) (home_set (subject_of k) s.views id v (r.home id v at) r.home);
        reached = all_stay (table_protocol k) s.words (roles_in s.views) (roles_in (set s.views id v ++ told v ∷ [])) r.one one (set s.views id v ++ told v ∷ [])
            (reached_more (table_protocol k) r.one.at (set s.views id v) (told v) (reached_role (table_protocol k) r.one.at v Spent (r.reached id v at)) (reached_set (table_protocol k) r.one.at s.views id v (r.reached id v at) r.reached));
      }

  pub learn_allowed : (id other : ℕ) (v w : View) → role_in w ≡ Spent → Joins {S = S} (Shown k) id v other w (learnt v w) Away
  learn_allowed id other v w spent s r at apart there =
      let both : View = learnt v w in let rs : List Role = roles_in s.views in
      let theirs : get_elem? s.views other ≡ some w = sym (set_else s.views id other both apart) ∙ there in
      let shape : roles_in (set (set s.views id both) other Away) ≡ rs =
      roles_set (set s.views id both) other Away ∙ ap (λ x. set x other Spent) (roles_set s.views id both ∙ ap (set rs id) (learnt_role v w) ∙ set_again rs id (role_in v) (role_at s.views id v at))
      ∙ set_again rs other Spent (role_at s.views other w theirs ∙ ap some spent) in
      let one : Stays (table_protocol k) s.words rs r.one (roles_in (set (set s.views id both) other Away)) = subst (Stays (table_protocol k) s.words rs r.one) (sym shape) (r.one, refl) in record {
        one = one.0;
        home = home_set (subject_of k) (set s.views id both) other Away tt (home_set (subject_of k) s.views id both (learnt_home (subject_of k) v w (r.home id v at)) r.home);
        reached = all_stay (table_protocol k) s.words rs (roles_in (set (set s.views id both) other Away)) r.one one (set (set s.views id both) other Away)
            (reached_set (table_protocol k) r.one.at (set s.views id both) other Away (λ q lt. omega arith)
            (reached_set (table_protocol k) r.one.at s.views id both (learnt_reached (table_protocol k) r.one.seated.stages r.one.seated.seats r.one.at id v w (r.one.seated.says id (role_in v) (role_at s.views id v at)) (r.reached other w theirs)) r.reached));
      }

  pub split_allowed : (id p q : ℕ) (v : View) (stages : List Stage) → role_in v ≡ Main stages → p ≡ q → slice_get stages p ≡ Some NotOut → Splits {S = S} (Shown k) id v (taken_out q v) (first_of q v)
  split_allowed id p q v stages main is idle s r at =
      let alive : role_in v ≢ Spent = main_alive (role_in v) stages main in
      let home = r.home id v at in let same = same_protocol k v alive home in
      let left : View = taken_out q v in let right : View = first_of q v in let rs : List Role = roles_in s.views in
      let first : Role = Cell q (settled_at (table_protocol k) q 0) 0 0 in
      let idle' : slice_get stages q ≡ Some NotOut = ap (slice_get stages) (sym is) ∙ idle in
      let cut : Stays (table_protocol k) s.words rs r.one (set rs id (Main (set stages q Out)) ++ first ∷ []) = splits (table_protocol k) s.words rs r.one id q stages (role_at s.views id v at ∙ ap some main) idle' in
      let mine : role_in left ≡ Main (set stages q Out) = new_role v (staged q Out (role_in v)) alive ∙ ap (staged q Out) main in
      let theirs : role_in right ≡ first = new_role v (Cell q (settled_at (protocol_in v) q 0) 0 0) alive ∙ ap (λ m. Cell q (settled_at m q 0) 0 0) same in
      let shape : roles_in (set s.views id left ++ right ∷ []) ≡ set rs id (Main (set stages q Out)) ++ first ∷ [] =
      roles_more (set s.views id left) right ∙ (λ i. (roles_set s.views id left ∙ ap (set rs id) mine) i ++ theirs i ∷ []) in
      let one = subst (Stays (table_protocol k) s.words rs r.one) (sym shape) cut in record {
        one = one.0;
        home = home_more (subject_of k) (set s.views id left) right (home_kept (subject_of k) v (Cell q (settled_at (protocol_in v) q 0) 0 0) home)
            (home_set (subject_of k) s.views id left (home_kept (subject_of k) v (staged q Out (role_in v)) home) r.home);
        reached = all_stay (table_protocol k) s.words rs (roles_in (set s.views id left ++ right ∷ [])) r.one one (set s.views id left ++ right ∷ [])
            (reached_more (table_protocol k) r.one.at (set s.views id left) right (reached_role (table_protocol k) r.one.at v (Cell q (settled_at (protocol_in v) q 0) 0 0) (r.reached id v at))
            (reached_set (table_protocol k) r.one.at s.views id left (reached_role (table_protocol k) r.one.at v (staged q Out (role_in v)) (r.reached id v at)) r.reached));
      }

  pub join_allowed : (id other : ℕ) (v w : View) (stages : List Stage) (p n misses seen : ℕ) → role_in v ≡ Main stages → role_in w ≡ Cell p n misses seen → n ≡ length ((protocol_in w).acts p) → Joins {S = S} (Shown k) id v other w (taken_in v w) Away
  join_allowed id other v w stages p n misses seen main cell end s r at apart there =
      let alive : role_in v ≢ Spent = main_alive (role_in v) stages main in
      let home = r.home id v at in let both : View = taken_in v w in let rs : List Role = roles_in s.views in
      let homes = home_set (subject_of k) s.views id both (home_kept (subject_of k) v (staged (processor_of (role_in w)) Ended (role_in v)) home) r.home in
      let theirs = homes other w there in
      let end' : n ≡ length ((table_protocol k).acts p) = end ∙ ap (λ x. length (x.acts p)) (same_protocol k w (alive_cell (role_in w) p n misses seen cell) theirs) in
      let mine : role_in both ≡ Main (set stages p Ended) = new_role v (staged (processor_of (role_in w)) Ended (role_in v)) alive ∙ (λ i. staged (processor_of (cell i)) Ended (main i)) in
      let set' : roles_in (set s.views id both) ≡ set rs id (Main (set stages p Ended)) = roles_set s.views id both ∙ ap (set rs id) mine in
      let there' : get_elem? (set rs id (Main (set stages p Ended))) other ≡ some (Cell p n misses seen) = ap (λ x. get_elem? x other) (sym set') ∙ role_at (set s.views id both) other w there ∙ ap some cell in
      let one = subst (Stays (table_protocol k) s.words rs r.one) (sym (roles_set (set s.views id both) other Away ∙ ap (λ x. set x other Spent) set')) (joins (table_protocol k) s.words rs r.one id p n misses seen other stages end' (role_at s.views id v at ∙ ap some main) apart there') in record {
        one = one.0;
        home = home_set (subject_of k) (set s.views id both) other Away tt homes;
        reached = all_stay (table_protocol k) s.words rs (roles_in (set (set s.views id both) other Away)) r.one one (set (set s.views id both) other Away)
            (reached_set (table_protocol k) r.one.at (set s.views id both) other Away (λ q lt. omega arith)
            (reached_set (table_protocol k) r.one.at s.views id both (reached_role (table_protocol k) r.one.at v (staged (processor_of (role_in w)) Ended (role_in v)) (r.reached id v at)) r.reached));
      }

  pub over_allowed : (id : ℕ) (v : View) (stages : List Stage) → role_in v ≡ Main stages → ((p : ℕ) → p < (protocol_in v).workers → slice_get stages p ≡ Some Ended) → Splits {S = S} (Shown k) id v v (with_role v Over)
  over_allowed id v stages main ended s r at =
      let alive : role_in v ≢ Spent = main_alive (role_in v) stages main in
      let home = r.home id v at in let rs : List Role = roles_in s.views in let same = same_protocol k v alive home in
      let more : Stays (table_protocol k) s.words rs r.one (rs ++ Over ∷ []) = ends (table_protocol k) s.words rs r.one id stages (role_at s.views id v at ∙ ap some main) (λ p lt. ended p (subst (λ m. p < m.workers) (sym same) lt)) in
      let again : set s.views id v ≡ s.views = set_again s.views id v at in
      let one = subst (Stays (table_protocol k) s.words rs r.one) (sym (roles_more (set s.views id v) (with_role v Over) ∙ (λ i. roles_in (again i) ++ new_role v Over alive i ∷ []))) more in record {
        one = one.0;
        home = home_more (subject_of k) (set s.views id v) (with_role v Over) (home_kept (subject_of k) v Over home) (home_set (subject_of k) s.views id v home r.home);
        reached = all_stay (table_protocol k) s.words rs (roles_in (set s.views id v ++ with_role v Over ∷ [])) r.one one (set s.views id v ++ with_role v Over ∷ [])
            (reached_more (table_protocol k) r.one.at (set s.views id v) (with_role v Over) (reached_role (table_protocol k) r.one.at v Over (r.reached id v at)) (reached_set (table_protocol k) r.one.at s.views id v (r.reached id v at) r.reached));
      }

  pub opens_table : (words : List ℕ) (slots : List S) → Laws (table_protocol k) → words ≡ replicate (word_count (table_protocol k)) 0 → Shown k (opening words slots (first_view k))
  opens_table words slots laws zeros = record {
    one = subst (λ ws. AreOne (table_protocol k) ws (roles_in (first_view k ∷ []))) (sym zeros) (opens (table_protocol k) laws);
    home = λ j v is. first_home j v is;
    reached = first_reached (subst (λ ws. AreOne (table_protocol k) ws (roles_in (first_view k ∷ []))) (sym zeros) (opens (table_protocol k) laws)).at;
  }
    where
      first_home : (j : ℕ) (v : View) → get_elem? (first_view k ∷ []) j ≡ some v → IsAtHome (subject_of k) v
      first_home zero v is = subst (IsAtHome (subject_of k)) (some-injective (first_view k) v is) refl
      first_home (suc j) v is = absurd (some-ne-none v (sym is))

      first_reached : (at : ℕ → ℕ) → AllReached (table_protocol k) at (first_view k ∷ [])
      first_reached at zero v is = subst (λ (x : View). IsReached (table_protocol k) at x) (some-injective (first_view k) v is) (λ q lt. let zero : slice_index (replicate k.plan.now.workers 0) q ≡ 0 = get_or-replicate k.plan.now.workers q 0 0 lt in omega (arith, zero))
      first_reached at (suc j) v is = absurd (some-ne-none v (sym is))

  -- at the end the cells' words are the sequential program's last memory
  closed_words : (words : List ℕ) (slots : List S) (id : ℕ) (v : View) → Laws (protocol_in v) → role_in v ≡ Over → Final (Seen (Shown k) id v) words slots → cells_in (protocol_in v) words ≡ (protocol_in v).last
  closed_words words slots id v laws over final = let s = final.0 in let r = final.1.0 in let at = final.1.1 in
      let same = same_protocol k v (λ e. let clash : Over ≡ Spent = sym over ∙ e in absurd (cc)) (r.home id v at) in
      ap (cells_in (protocol_in v)) (sym final.2)
      ∙ closes (protocol_in v) s.words (roles_in s.views) (subst (λ x. AreOne x s.words (roles_in s.views)) (sym same) r.one) laws id (role_at s.views id v at ∙ ap some over)

  -- the same of a seat that was cut from the main one
  pub over_words : (words : List ℕ) (slots : List S) (id : ℕ) (v u : View) (stages : List Stage) → role_in v ≡ Main stages → u ≡ with_role v Over → Laws (protocol_in v) → Final (Seen (Shown k) id u) words slots → cells_in (protocol_in v) words ≡ (protocol_in v).last
  over_words words slots id (Seated program plan style known role) u stages main is laws final = closed_words words slots id (Seated program plan style known Over) laws refl (subst (λ (x : View). Final (Seen (Shown k) id x) words slots) is final)
  over_words words slots id Away u stages main is laws final = let clash = main in absurd (cc)

  -- so is the memory that is read from the first of them
  pub last_words : (words : List ℕ) (slots : List S) (id : ℕ) (v u : View) (stages : List Stage) (memory : List ℤ) (n : ℕ) → role_in v ≡ Main stages → u ≡ with_role v Over → Laws (protocol_in v) → Final (Seen (Shown k) id u) words slots
      → memory ≡ map word_value (take n words) → n ≡ (protocol_in v).cells → IsLast (record { given = given_in v; stages = stages; memory = memory })
  last_words words slots id v u stages memory n main is laws final read count = read ∙ ap (λ n. map word_value (take n words)) count ∙ over_words words slots id v u stages main is laws final
