-- The memory of a state: the cells that all share, and behind them 32 own cells of each processor.
use Rattle.std.proofs.Common.{◌≡◌, ℕ, zero, suc, ◌+◌, ◌-◌, ◌*◌, ◌<◌, ℤ, pos, List, [], ◌∷◌, ◌++◌, get_or, length, set, ap, sym, ◌∙◌, arith}
use Rattle.std.specs.List.{flat_map}
use Rattle.std.proofs.lemmas.List.{get_or-append_right, get_or_append_left, set-append_left, set-append_right}
use Rattle.nest_model.specs.Memory.{cell_value}
use Rattle.spmd_machine.specs.Processors.{memory_of}
use Rattle.spmd_machine.specs.declared.processor.Processor.{Processor}

abbrev owns : List Processor → List ℤ
owns ps = flat_map (λ (x : Processor). x.own) ps

-- each has as many
abbrev pub HaveOwn : List Processor → Type 0
HaveOwn ps = (p : ℕ) (d : Processor) → p < length ps → length (get_or ps p d).own ≡ 32

first_own : (z : Processor) (ps : List Processor) → HaveOwn (z ∷ ps) → length z.own ≡ 32
first_own z ps have = have 0 z (omega arith)

later_own : (z : Processor) (ps : List Processor) → HaveOwn (z ∷ ps) → HaveOwn ps
later_own z ps have p d lt = have (suc p) d (omega (arith, lt))

own_get : (ps : List Processor) (p k : ℕ) (x : Processor) (d : ℤ) → HaveOwn ps → p < length ps → x ≡ get_or ps p x → k < 32 → get_or (owns ps) (32 * p + k) d ≡ get_or x.own k d
own_get [] p k x d have lt read small = absurd (omega (arith, lt))
own_get (z ∷ ps) zero k x d have lt read small =
    let long = first_own z ps have in
    let index : 32 * 0 + k ≡ k = omega arith in
    ap (λ i. get_or (owns (z ∷ ps)) i d) index ∙ get_or_append_left z.own (owns ps) d k (omega (arith, long, small)) ∙ ap (λ (y : Processor). get_or y.own k d) (sym read)
own_get (z ∷ ps) (suc p) k x d have lt read small =
    let long = first_own z ps have in
    let index : 32 * suc p + k - 32 ≡ 32 * p + k = omega arith in
    get_or-append_right z.own (owns ps) 32 (32 * suc p + k) d long (omega arith) ∙ ap (λ i. get_or (owns ps) i d) index ∙ own_get ps p k x d (later_own z ps have) (omega (arith, lt)) read small

own_put : (ps : List Processor) (p k : ℕ) (x y : Processor) (v : ℤ) → HaveOwn ps → p < length ps → x ≡ get_or ps p x → k < 32 → y.own ≡ set x.own k v → set (owns ps) (32 * p + k) v ≡ owns (set ps p y)
own_put [] p k x y v have lt read small is = absurd (omega (arith, lt))
own_put (z ∷ ps) zero k x y v have lt read small is =
    let long = first_own z ps have in
    let index : 32 * 0 + k ≡ k = omega arith in
    ap (λ i. set (owns (z ∷ ps)) i v) index ∙ set-append_left z.own (owns ps) k v (omega (arith, long, small)) ∙ ap (λ (w : Processor). set w.own k v ++ owns ps) (sym read) ∙ ap (λ l. l ++ owns ps) (sym is)
own_put (z ∷ ps) (suc p) k x y v have lt read small is =
    let long = first_own z ps have in
    let index : 32 * suc p + k - 32 ≡ 32 * p + k = omega arith in
    set-append_right z.own (owns ps) 32 (32 * suc p + k) v long (omega arith) ∙ ap (λ i. z.own ++ set (owns ps) i v) index ∙ ap (λ l. z.own ++ l) (own_put ps p k x y v (later_own z ps have) (omega (arith, lt)) read small is)

same_owns : (ps : List Processor) (p : ℕ) (x y : Processor) → p < length ps → x ≡ get_or ps p x → y.own ≡ x.own → owns (set ps p y) ≡ owns ps
same_owns [] p x y lt read is = absurd (omega (arith, lt))
same_owns (z ∷ ps) zero x y lt read is = ap (λ l. l ++ owns ps) (is ∙ ap (λ (w : Processor). w.own) read)
same_owns (z ∷ ps) (suc p) x y lt read is = ap (λ l. z.own ++ l) (same_owns ps p x y (omega (arith, lt)) read is)

module _ (ps : List Processor) (shared : List ℤ) (p : ℕ) (x : Processor) (lt : p < length ps) (read : x ≡ get_or ps p x) where
  -- ---- cells that all share

  pub shared_value : (c : ℕ) → c < length shared → cell_value (memory_of ps shared) c ≡ cell_value shared c
  shared_value c below = get_or_append_left shared (owns ps) (pos 0) c below

  pub shared_put : (c : ℕ) (v : ℤ) → c < length shared → set (memory_of ps shared) c v ≡ memory_of ps (set shared c v)
  shared_put c v below = set-append_left shared (owns ps) c v below

  pub same_memory : (y : Processor) → y.own ≡ x.own → memory_of (set ps p y) shared ≡ memory_of ps shared
  same_memory y is = ap (λ l. shared ++ l) (same_owns ps p x y lt read is)

  -- ---- own cells

  pub own_value : (n k : ℕ) → HaveOwn ps → length shared ≡ n → k < 32 → cell_value (memory_of ps shared) (n + (32 * p + k)) ≡ get_or x.own k (pos 0)
  own_value n k have size small =
      let index : n + (32 * p + k) - n ≡ 32 * p + k = omega arith in
      get_or-append_right shared (owns ps) n (n + (32 * p + k)) (pos 0) size (omega arith) ∙ ap (λ i. get_or (owns ps) i (pos 0)) index ∙ own_get ps p k x (pos 0) have lt read small

  pub own_set : (n k : ℕ) (v : ℤ) (y : Processor) → HaveOwn ps → length shared ≡ n → k < 32 → y.own ≡ set x.own k v → set (memory_of ps shared) (n + (32 * p + k)) v ≡ memory_of (set ps p y) shared
  own_set n k v y have size small is =
      let index : n + (32 * p + k) - n ≡ 32 * p + k = omega arith in
      set-append_right shared (owns ps) n (n + (32 * p + k)) v size (omega arith) ∙ ap (λ i. shared ++ set (owns ps) i v) index ∙ ap (λ l. shared ++ l) (own_put ps p k x y v have lt read small is)
