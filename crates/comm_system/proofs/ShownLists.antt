-- Which accesses of a list others see.
use Rattle.std.proofs.Common.{◌≡◌, ℕ, Bool, true, false, true≢false, ◌==◌, ◌||◌, List, [], ◌∷◌, ◌++◌, if◌then◌else◌, refl, ap, sym, ◌∙◌, subst, inl, inr}
use Rattle.std.specs.List.{AllByRecursion, Contains}
use Rattle.std.proofs.lemmas.List.Folds.{list_any-append}
use Rattle.conflict_rules.specs.References.{Reference, variable_of}
use Rattle.comm_system.specs.Shown.{is_among, shown_among}
use Rattle.comm_system.proofs.Lists.{contains_cases, contains_here, contains_later, contains_nothing}

-- one of no private scalar
pub shown_plain : (privates taken : List ℕ) (rs : List Reference) (r : Reference) → Contains rs r → is_among privates (variable_of r.what) ≡ false → Contains (shown_among privates taken rs) r
shown_plain privates taken [] r c plain = absurd (contains_nothing r c)
shown_plain privates taken (b ∷ rs) r c plain =
    by (is_among privates (variable_of b.what)) refl (is_among taken (variable_of b.what)) (λ d. shown_plain privates taken rs r d plain) (λ d. shown_plain privates (taken ++ variable_of b.what ∷ []) rs r d plain)
  where
    kept : (xs : List Reference) → (Contains rs r → Contains xs r) → Contains (b ∷ xs) r
    kept xs later = elim (contains_cases b r rs c) [ inl same ↦ subst (λ z. Contains (b ∷ xs) z) same (contains_here b xs) | inr behind ↦ contains_later b r xs (later behind) ]

    by : (private : Bool) → is_among privates (variable_of b.what) ≡ private → (before : Bool) → (Contains rs r → Contains (shown_among privates taken rs) r) → (Contains rs r → Contains (shown_among privates (taken ++ variable_of b.what ∷ []) rs) r) →
        Contains (if private then (if before then shown_among privates taken rs else b ∷ shown_among privates (taken ++ variable_of b.what ∷ []) rs) else b ∷ shown_among privates taken rs) r
    by false e before rest more = kept (shown_among privates taken rs) rest
    by true e true rest more = elim (contains_cases b r rs c) [ inl same ↦ absurd (true≢false (sym e ∙ ap (λ (z : Reference). is_among privates (variable_of z.what)) same ∙ plain)) | inr behind ↦ rest behind ]
    by true e false rest more = kept (shown_among privates (taken ++ variable_of b.what ∷ []) rs) more

-- the first of a private scalar
pub shown_first : (privates taken : List ℕ) (before after : List Reference) (r : Reference) → is_among privates (variable_of r.what) ≡ true → is_among taken (variable_of r.what) ≡ false → AllByRecursion (λ b. (variable_of b.what == variable_of r.what) ≡ false) before →
    Contains (shown_among privates taken (before ++ r ∷ after)) r
shown_first privates taken [] after r private fresh away =
    let rest = shown_among privates taken after in
    let more = shown_among privates (taken ++ variable_of r.what ∷ []) after in
    let here : shown_among privates taken (r ∷ after) ≡ r ∷ shown_among privates (taken ++ variable_of r.what ∷ []) after =
    ap (λ p. if p then (if is_among taken (variable_of r.what) then rest else r ∷ more) else r ∷ rest) private ∙ ap (λ t. if t then rest else r ∷ more) fresh in
    subst (λ xs. Contains xs r) (sym here) (contains_here r more)
shown_first privates taken (b ∷ before) after r private fresh away =
    let fresh' : is_among (taken ++ variable_of b.what ∷ []) (variable_of r.what) ≡ false =
    list_any-append (λ w. w == variable_of r.what) taken (variable_of b.what ∷ []) ∙ ap (λ x. x || is_among (variable_of b.what ∷ []) (variable_of r.what)) fresh ∙ ap (λ x. x || false) away.0 in
    by (is_among privates (variable_of b.what)) (is_among taken (variable_of b.what)) (shown_first privates taken before after r private fresh away.1) (shown_first privates (taken ++ variable_of b.what ∷ []) before after r private fresh' away.1)
  where
    by : (private before_it : Bool) → Contains (shown_among privates taken (before ++ r ∷ after)) r → Contains (shown_among privates (taken ++ variable_of b.what ∷ []) (before ++ r ∷ after)) r →
        Contains (if private then (if before_it then shown_among privates taken (before ++ r ∷ after) else b ∷ shown_among privates (taken ++ variable_of b.what ∷ []) (before ++ r ∷ after)) else b ∷ shown_among privates taken (before ++ r ∷ after)) r
    by true true rest more = rest
    by true false rest more = contains_later b r (shown_among privates (taken ++ variable_of b.what ∷ []) (before ++ r ∷ after)) more
    by false before_it rest more = contains_later b r (shown_among privates taken (before ++ r ∷ after)) rest

-- one access more
module _ (privates taken : List ℕ) (r : Reference) (rs : List Reference) where
  pub shown_left_out : is_among privates (variable_of r.what) ≡ true → is_among taken (variable_of r.what) ≡ true → shown_among privates taken (r ∷ rs) ≡ shown_among privates taken rs
  shown_left_out private before =
      let rest = shown_among privates taken rs in
      let more = shown_among privates (taken ++ variable_of r.what ∷ []) rs in
      ap (λ p. if p then (if is_among taken (variable_of r.what) then rest else r ∷ more) else r ∷ rest) private ∙ ap (λ t. if t then rest else r ∷ more) before

  pub shown_taken : is_among privates (variable_of r.what) ≡ true → is_among taken (variable_of r.what) ≡ false → shown_among privates taken (r ∷ rs) ≡ r ∷ shown_among privates (taken ++ variable_of r.what ∷ []) rs
  shown_taken private fresh =
      let rest = shown_among privates taken rs in
      let more = shown_among privates (taken ++ variable_of r.what ∷ []) rs in
      ap (λ p. if p then (if is_among taken (variable_of r.what) then rest else r ∷ more) else r ∷ rest) private ∙ ap (λ t. if t then rest else r ∷ more) fresh

  pub shown_other : is_among privates (variable_of r.what) ≡ false → shown_among privates taken (r ∷ rs) ≡ r ∷ shown_among privates taken rs
  shown_other plain =
      let rest = shown_among privates taken rs in
      let more = shown_among privates (taken ++ variable_of r.what ∷ []) rs in
      ap (λ p. if p then (if is_among taken (variable_of r.what) then rest else r ∷ more) else r ∷ rest) plain
