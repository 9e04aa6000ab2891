-- What the accesses of a phase weigh that others see: of each private scalar one store, where its first access is a store.
use Rattle.std.proofs.Common.{◌≡◌, ℕ, ◌+◌, ◌≤◌, ◌==◌, ◌||◌, ◌⊎◌, nat_lt, Bool, true, false, true≢false, List, [], ◌∷◌, ◌++◌, if◌then◌else◌, refl, ap, sym, ◌∙◌, inl, inr, arith}
use Rattle.std.specs.Prelude.{sum_by}
use Rattle.std.specs.List.{AllByRecursion}
use Rattle.std.proofs.lemmas.Bool.{and_parts, cases_Bool, eq-eqb, eqb-false, eqb-true, ltb-true, ne_eqb}
use Rattle.std.proofs.lemmas.List.Folds.{list_any-append}
use Rattle.std.proofs.lemmas.List.Sums.{sum_by-cons}
use Rattle.sync_plan.specs.Shape.{do_rise}
use Rattle.comm_system.specs.References.{Reference, variable_of}
use Rattle.comm_system.specs.Shown.{is_among, shown_among}
use Rattle.obligation_numbers.specs.Sums.{without}

-- an access by its variable and whether it stores
abbrev pub by_key : (ℕ → Bool → ℕ) → Reference → ℕ
by_key f r = f (variable_of r.what) r.stores

-- the first access of a variable is a store
abbrev pub first_stores : ℕ → List Reference → Bool
first_stores v [] = false
first_stores v (r ∷ rest) = if variable_of r.what == v then r.stores else first_stores v rest

-- ---- scalars that rise stand once

apart : (v w : ℕ) → (v == w) ≡ false → (w == v) ≡ false
apart v w differs = ne_eqb w v (λ same. eqb-false v w differs (sym same))

none_again : (w least : ℕ) (vs : List ℕ) → w ≤ least → do_rise least vs ≡ true → is_among vs w ≡ false
none_again w least [] low rise = refl
none_again w least (v ∷ vs) low rise =
    let parts = and_parts (nat_lt least v) (do_rise v vs) rise in
    let over = ltb-true least v parts.0 in
    let other = ne_eqb v w (λ same. omega (arith, over, low, same)) in
    ap (λ b. b || is_among vs w) other ∙ none_again w v vs (omega (arith, over, low)) parts.1

or_nothing : (b : Bool) → (b || false) ≡ b
or_nothing true = refl
or_nothing false = refl

-- one scalar more is taken
module _ (taken : List ℕ) (w : ℕ) where
  taken_other : (v : ℕ) → (w == v) ≡ false → is_among (taken ++ w ∷ []) v ≡ is_among taken v
  taken_other v differs = list_any-append (λ u. u == v) taken (w ∷ []) ∙ ap (λ b. is_among taken v || (b || false)) differs ∙ or_nothing (is_among taken v)

  taken_here : (v : ℕ) → (w == v) ≡ true → is_among (taken ++ w ∷ []) v ≡ true
  taken_here v same = list_any-append (λ u. u == v) taken (w ∷ []) ∙ ap (λ b. is_among taken v || (b || false)) same ∙ by (is_among taken v)
    where
      by : (b : Bool) → (b || true) ≡ true
      by true = refl
      by false = refl

-- stores of the scalars that aren't taken
abbrev fresh : (ℕ → Bool → ℕ) → List ℕ → ℕ → ℕ
fresh f taken v = if is_among taken v then 0 else f v true

module _ (f : ℕ → Bool → ℕ) (taken : List ℕ) (w : ℕ) where
  fresh_other : (v : ℕ) → (v == w) ≡ false → fresh f (taken ++ w ∷ []) v ≡ fresh f taken v
  fresh_other v differs = ap (λ b. if b then 0 else f v true) (taken_other taken w v (apart v w differs))

  fresh_others : (vs : List ℕ) → is_among vs w ≡ false → sum_by (fresh f (taken ++ w ∷ [])) vs ≡ sum_by (fresh f taken) vs
  fresh_others [] away = refl
  fresh_others (v ∷ vs) away = elim (cases_Bool (v == w)) [
    | inl same ↦ absurd (true≢false (sym (ap (λ b. b || is_among vs w) same) ∙ away))
    | inr differs ↦
        let later = fresh_others vs (sym (ap (λ b. b || is_among vs w) differs) ∙ away) in
        omega (arith, sum_by-cons (fresh f (taken ++ w ∷ [])) v vs, sum_by-cons (fresh f taken) v vs, fresh_other v differs, later)
  ]

  fresh_once : (least : ℕ) (vs : List ℕ) → do_rise least vs ≡ true → is_among taken w ≡ false → is_among vs w ≡ true → f w true + sum_by (fresh f (taken ++ w ∷ [])) vs ≡ sum_by (fresh f taken) vs
  fresh_once least [] rise new among = absurd (true≢false (sym among))
  fresh_once least (v ∷ vs) rise new among =
      let parts = and_parts (nat_lt least v) (do_rise v vs) rise in
      let more = sum_by-cons (fresh f (taken ++ w ∷ [])) v vs in
      let less = sum_by-cons (fresh f taken) v vs in
      elim (cases_Bool (v == w)) [
        | inl same ↦
            let is = eqb-true v w same in
            let gone : fresh f (taken ++ w ∷ []) v ≡ 0 = ap (λ b. if b then 0 else f v true) (taken_here taken w v (eq-eqb w v (sym is))) in
            let here : fresh f taken v ≡ f w true = ap (fresh f taken) is ∙ ap (λ b. if b then 0 else f w true) new in
            let others = fresh_others vs (none_again w v vs (omega (arith, is)) parts.1) in
            omega (arith, more, less, gone, here, others)
        | inr differs ↦
            let later = fresh_once v vs parts.1 new (sym (ap (λ b. b || is_among vs w) differs) ∙ among) in
            omega (arith, more, less, fresh_other v differs, later)
      ]

-- ---- one access more

-- the first access of each is a store, but for those that are taken
abbrev AreStored : (taken : List ℕ) → List Reference → List ℕ → Type 0
AreStored taken rs vs = AllByRecursion (λ v. (is_among taken v || first_stores v rs) ≡ true) vs

none_left : (f : ℕ → Bool → ℕ) (taken vs : List ℕ) → AreStored taken [] vs → sum_by (fresh f taken) vs ≡ 0
none_left f taken [] stored = refl
none_left f taken (v ∷ vs) stored =
    let here : fresh f taken v ≡ 0 = ap (λ b. if b then 0 else f v true) (sym (or_nothing (is_among taken v)) ∙ stored.0) in
    omega (arith, sum_by-cons (fresh f taken) v vs, here, none_left f taken vs stored.1)

-- the first access of one that isn't taken
store_here : (taken : List ℕ) (r : Reference) (rest : List Reference) (vs : List ℕ) → AreStored taken (r ∷ rest) vs → is_among taken (variable_of r.what) ≡ false → is_among vs (variable_of r.what) ≡ true → r.stores ≡ true
store_here taken r rest [] stored new among = absurd (true≢false (sym among))
store_here taken r rest (v ∷ vs) stored new among = elim (cases_Bool (v == variable_of r.what)) [
  | inl same ↦
      let is = eqb-true v (variable_of r.what) same in
      let fresh_v = ap (is_among taken) is ∙ new in
      sym (ap (λ b. b || first_stores v (r ∷ rest)) fresh_v ∙ ap (λ b. if b then r.stores else first_stores v rest) (eq-eqb (variable_of r.what) v (sym is))) ∙ stored.0
  | inr differs ↦ store_here taken r rest vs stored.1 new (sym (ap (λ b. b || is_among vs (variable_of r.what)) differs) ∙ among)
]

-- behind an access of a variable, all that are taken go on being so, and it too if it is one of these
stored_behind : (taken more : List ℕ) (r : Reference) (rest : List Reference) (vs : List ℕ) → AreStored taken (r ∷ rest) vs →
    ((v : ℕ) → is_among taken v ≡ true → is_among more v ≡ true) → (is_among vs (variable_of r.what) ≡ true → is_among more (variable_of r.what) ≡ true) → AreStored more rest vs
stored_behind taken more r rest [] stored keeps here = tt
stored_behind taken more r rest (v ∷ vs) stored keeps here = (
  elim (cases_Bool (is_among more v)) [
    | inl is ↦ ap (λ b. b || first_stores v rest) is
    | inr isnt ↦ ap (λ b. b || first_stores v rest) isnt ∙ left (cases_Bool (is_among taken v)) (cases_Bool (variable_of r.what == v)) isnt
  ],
  stored_behind taken more r rest vs stored.1 keeps (λ among. here (or_later (v == variable_of r.what) among)),
)
  where
    or_later : (a : Bool) → is_among vs (variable_of r.what) ≡ true → (a || is_among vs (variable_of r.what)) ≡ true
    or_later true among = refl
    or_later false among = among

    left : (is_among taken v ≡ true) ⊎ (is_among taken v ≡ false) → ((variable_of r.what == v) ≡ true) ⊎ ((variable_of r.what == v) ≡ false) → is_among more v ≡ false → first_stores v rest ≡ true
    left (inl before) which isnt = absurd (true≢false (sym (keeps v before) ∙ isnt))
    left (inr new) (inl same) isnt =
        let is = eqb-true (variable_of r.what) v same in
        let among = ap (λ b. b || is_among vs (variable_of r.what)) (eq-eqb v (variable_of r.what) (sym is)) in
        absurd (true≢false (sym (ap (is_among more) (sym is) ∙ here among) ∙ isnt))
    left (inr new) (inr differs) isnt = sym (ap (λ b. b || first_stores v (r ∷ rest)) new ∙ ap (λ b. if b then r.stores else first_stores v rest) differs) ∙ stored.0

-- what they weigh, with a store of each that isn't taken yet
module _ (f : ℕ → Bool → ℕ) (privates : List ℕ) (least : ℕ) (rise : do_rise least privates ≡ true) where
  pub seen_sum : (taken : List ℕ) (rs : List Reference) → AreStored taken rs privates →
      sum_by (by_key f) (shown_among privates taken rs) ≡ sum_by (by_key (without privates f)) rs + sum_by (fresh f taken) privates
  seen_sum taken [] stored = let none = none_left f taken privates stored in omega (arith, none)
  seen_sum taken (r ∷ rest) stored =
      by (cases_Bool (is_among privates (variable_of r.what))) (cases_Bool (is_among taken (variable_of r.what))) (λ kept. seen_sum taken rest kept) (λ kept. seen_sum (taken ++ variable_of r.what ∷ []) rest kept)
    where
      all : sum_by (by_key (without privates f)) (r ∷ rest) ≡ by_key (without privates f) r + sum_by (by_key (without privates f)) rest
      all = sum_by-cons (by_key (without privates f)) r rest

      by : (is_among privates (variable_of r.what) ≡ true) ⊎ (is_among privates (variable_of r.what) ≡ false) → (is_among taken (variable_of r.what) ≡ true) ⊎ (is_among taken (variable_of r.what) ≡ false) →
          (AreStored taken rest privates → sum_by (by_key f) (shown_among privates taken rest) ≡ sum_by (by_key (without privates f)) rest + sum_by (fresh f taken) privates) →
          (AreStored (taken ++ variable_of r.what ∷ []) rest privates → sum_by (by_key f) (shown_among privates (taken ++ variable_of r.what ∷ []) rest) ≡ sum_by (by_key (without privates f)) rest + sum_by (fresh f (taken ++ variable_of r.what ∷ [])) privates) →
          sum_by (by_key f) (shown_among privates taken (r ∷ rest)) ≡ sum_by (by_key (without privates f)) (r ∷ rest) + sum_by (fresh f taken) privates
      by (inl private) (inl before) same_taken one_more =
          let later = shown_among privates taken rest in
          let more = shown_among privates (taken ++ variable_of r.what ∷ []) rest in
          let none : by_key (without privates f) r ≡ 0 = ap (λ b. if b then 0 else by_key f r) private in
          let shown : shown_among privates taken (r ∷ rest) ≡ later =
          ap (λ b. if b then (if is_among taken (variable_of r.what) then later else r ∷ more) else r ∷ later) private ∙ ap (λ b. if b then later else r ∷ more) before in
          let same = ap (sum_by (by_key f)) shown in
          let less = same_taken (stored_behind taken taken r rest privates stored (λ v is. is) (λ among. before)) in
          omega (arith, all, none, less, same)
      by (inl private) (inr new) same_taken one_more =
          let later = shown_among privates taken rest in
          let more = shown_among privates (taken ++ variable_of r.what ∷ []) rest in
          let none : by_key (without privates f) r ≡ 0 = ap (λ b. if b then 0 else by_key f r) private in
          let shown : shown_among privates taken (r ∷ rest) ≡ r ∷ more =
          ap (λ b. if b then (if is_among taken (variable_of r.what) then later else r ∷ more) else r ∷ later) private ∙ ap (λ b. if b then later else r ∷ more) new in
          let same : sum_by (by_key f) (shown_among privates taken (r ∷ rest)) ≡ by_key f r + sum_by (by_key f) more = ap (sum_by (by_key f)) shown ∙ sum_by-cons (by_key f) r more in
          let key : by_key f r ≡ f (variable_of r.what) true = ap (f (variable_of r.what)) (store_here taken r rest privates stored new private) in
          let once = fresh_once f taken (variable_of r.what) least privates rise new private in
          let kept = stored_behind taken (taken ++ variable_of r.what ∷ []) r rest privates stored (λ v is. list_any-append (λ u. u == v) taken (variable_of r.what ∷ []) ∙ ap (λ b. b || is_among (variable_of r.what ∷ []) v) is)
          (λ among. taken_here taken (variable_of r.what) (variable_of r.what) (eq-eqb (variable_of r.what) (variable_of r.what) refl)) in
          let less = one_more kept in
          omega (arith, all, none, same, key, once, less)
      by (inr other) which same_taken one_more =
          let later = shown_among privates taken rest in
          let more = shown_among privates (taken ++ variable_of r.what ∷ []) rest in
          let key : by_key (without privates f) r ≡ by_key f r = ap (λ b. if b then 0 else by_key f r) other in
          let shown : shown_among privates taken (r ∷ rest) ≡ r ∷ later = ap (λ b. if b then (if is_among taken (variable_of r.what) then later else r ∷ more) else r ∷ later) other in
          let same : sum_by (by_key f) (shown_among privates taken (r ∷ rest)) ≡ by_key f r + sum_by (by_key f) later = ap (sum_by (by_key f)) shown ∙ sum_by-cons (by_key f) r later in
          let less = same_taken (stored_behind taken taken r rest privates stored (λ v is. is) (λ among. absurd (true≢false (sym among ∙ other)))) in
          omega (arith, all, key, same, less)
