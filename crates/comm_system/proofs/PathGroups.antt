-- The loops of paths, one after another.
use Rattle.std.proofs.Common.{◌≡◌, ℕ, suc, ◌+◌, ◌-◌, ◌<◌, ◌≤◌, ◌==◌, true, false, cond, Option, Some, List, [], ◌∷◌, ◌++◌, length, map, drop, get_or, refl, ap, ◌∙◌, arith}
use Rattle.std.specs.List.{find, flat_map, range_with_len}
use Rattle.std.proofs.lemmas.List.{drop_more, map-append}
use Rattle.conflict_rules.specs.References.{Reference, StaticPhase, variable_of}
use Rattle.conflict_rules.specs.Seen.{reference_seen}
use Rattle.conflict_rules.specs.declared.reference.Reference.{Reference as Held}
use Rattle.comm_system.specs.Paths.{path_of}
use Rattle.comm_system.specs.Subjects.{Subject, of_path, path_subjects}
use Rattle.comm_system.proofs.RowSteps.{left_more}

-- ---- the first access

-- the first access among those that are left
abbrev pub first_left : ℕ → List Held → ℕ → Option Reference
first_left v rs k = find (λ r. variable_of r.what == v) (map reference_seen (drop k rs))

first_more : (v : ℕ) (rs : List Held) (k : ℕ) (r : Held) → k < length rs → r ≡ get_or rs k r → first_left v rs k ≡ cond (variable_of (reference_seen r).what == v) (Some (reference_seen r)) (first_left v rs (k + 1))
first_more v rs k r lt is = ap (find (λ (x : Reference). variable_of x.what == v)) (left_more reference_seen rs k r lt is)

pub first_here : (v : ℕ) (rs : List Held) (k : ℕ) (r : Held) → k < length rs → r ≡ get_or rs k r → (variable_of (reference_seen r).what == v) ≡ true → first_left v rs k ≡ Some (reference_seen r)
first_here v rs k r lt is same = first_more v rs k r lt is ∙ ap (λ b. cond b (Some (reference_seen r)) (first_left v rs (k + 1))) same

pub first_later : (v : ℕ) (rs : List Held) (k : ℕ) (r : Held) → k < length rs → r ≡ get_or rs k r → (variable_of (reference_seen r).what == v) ≡ false → first_left v rs k ≡ first_left v rs (k + 1)
first_later v rs k r lt is other = first_more v rs k r lt is ∙ ap (λ b. cond b (Some (reference_seen r)) (first_left v rs (k + 1))) other

-- ---- the loops of one path

-- those round a store from one on
abbrev pub loops_left : Reference → ℕ → ℕ → List Subject
loops_left r k end = map of_path (map (λ j. record { store = r; outside = j }) (range_with_len k (end - k)))

pub loops_more : (r : Reference) (k end : ℕ) → k < end → loops_left r k end ≡ (of_path (record { store = r; outside = k }) ∷ []) ++ loops_left r (k + 1) end
loops_more r k end lt =
    let one : end - k ≡ suc (end - (k + 1)) = omega (arith, lt) in
    ap (λ n. map of_path (map (λ (j : ℕ). record { store = r; outside = j }) (range_with_len k n))) one

pub loops_none : (r : Reference) (k end : ℕ) → end ≤ k → loops_left r k end ≡ []
loops_none r k end le =
    let none : end - k ≡ 0 = omega (arith, le) in
    ap (λ n. map of_path (map (λ (j : ℕ). record { store = r; outside = j }) (range_with_len k n))) none

-- ---- those of several scalars

pub scalars_more : (s : StaticPhase) (vs : List ℕ) (k : ℕ) → k < length vs → flat_map (path_subjects s) (drop k vs) ≡ path_subjects s (get_or vs k 0) ++ flat_map (path_subjects s) (drop (k + 1) vs)
scalars_more s vs k lt = ap (flat_map (path_subjects s)) (drop_more vs k 0 lt)

pub each_path : (s : StaticPhase) (vs : List ℕ) → map of_path (flat_map (path_of s) vs) ≡ flat_map (path_subjects s) vs
each_path s [] = refl
each_path s (v ∷ vs) = map-append of_path (path_of s v) (flat_map (path_of s) vs) ∙ ap (λ ss. path_subjects s v ++ ss) (each_path s vs)
