-- A list whose images are two lists in a row.
use Rattle.std.proofs.Common.{◌≡◌, List, [], ◌∷◌, ◌++◌, map, reverse, refl, sym, ap, ◌∙◌}
use Rattle.std.proofs.lemmas.List.{map_push, reverse-append, reverse-reverse}

pub record Splits {X Y : Type 0} (g : X → Y) (xs : List X) (front back : List Y) : Type 0 where
  pub first : List X
  pub second : List X
  pub whole : xs ≡ first ++ second
  pub fronts : map g first ≡ front
  pub backs : map g second ≡ back

pub splits : {X Y : Type 0} (g : X → Y) (xs : List X) (front back : List Y) → map g xs ≡ front ++ back → Splits g xs front back
splits g xs [] back h = record { first = []; second = xs; whole = refl; fronts = refl; backs = h }
splits g [] (y ∷ front) back h = absurd cc
splits g (x ∷ xs) (y ∷ front) back h =
    let same : g x ≡ y = cc in
    let rest : map g xs ≡ front ++ back = cc in
    let s = splits g xs front back rest in
    record { first = x ∷ s.first; second = s.second; whole = ap (λ zs. x ∷ zs) s.whole; fronts = ap (λ z. z ∷ map g s.first) same ∙ ap (λ zs. y ∷ zs) s.fronts; backs = s.backs }

-- the last one
pub record Last {X Y : Type 0} (g : X → Y) (xs : List X) (front : List Y) (y : Y) : Type 0 where
  pub first : List X
  pub x : X
  pub whole : xs ≡ first ++ x ∷ []
  pub fronts : map g first ≡ front
  pub same : g x ≡ y

last_by : {X Y : Type 0} (g : X → Y) (xs : List X) (front : List Y) (y : Y) (fs zs : List X) → xs ≡ fs ++ zs → map g fs ≡ front → map g zs ≡ y ∷ [] → Last g xs front y
last_by g xs front y fs [] w f b = absurd cc
last_by g xs front y fs (z ∷ []) w f b = (let same : g z ≡ y = cc in record { first = fs; x = z; whole = w; fronts = f; same = same })
last_by g xs front y fs (z ∷ u ∷ us) w f b = absurd cc

pub last_of : {X Y : Type 0} (g : X → Y) (xs : List X) (front : List Y) (y : Y) → map g xs ≡ front ++ y ∷ [] → Last g xs front y
last_of g xs front y h = (let s = splits g xs front (y ∷ []) h in last_by g xs front y s.first s.second s.whole s.fronts s.backs)

-- images in reverse
pub map-reverse : {X Y : Type 0} (g : X → Y) (xs : List X) → map g (reverse xs) ≡ reverse (map g xs)
map-reverse g [] = refl
map-reverse g (x ∷ xs) =
    ap (map g) (reverse-append (x ∷ []) xs) ∙ map_push g (reverse xs) x ∙ ap (λ ys. ys ++ g x ∷ []) (map-reverse g xs) ∙ sym (reverse-append (g x ∷ []) (map g xs))

-- what lies on top of a stack, the first on top
pub record Top {X Y : Type 0} (g : X → Y) (xs : List X) (front back : List Y) : Type 0 where
  pub first : List X
  pub top : List X
  pub whole : xs ≡ first ++ reverse top
  pub fronts : map g first ≡ front
  pub tops : map g top ≡ back

pub top_of : {X Y : Type 0} (g : X → Y) (xs : List X) (front back : List Y) → map g xs ≡ front ++ reverse back → Top g xs front back
top_of g xs front back h =
    let s = splits g xs front (reverse back) h in
    record {
      first = s.first;
      top = reverse s.second;
      whole = s.whole ∙ ap (λ zs. s.first ++ zs) (sym (reverse-reverse s.second));
      fronts = s.fronts;
      tops = map-reverse g s.second ∙ ap reverse s.backs ∙ reverse-reverse back;
    }
