-- A candidate that is added: the rows cover what they covered, and it.
use Rattle.std.proofs.Common.{◌≡◌, ℕ, zero, suc, ◌<◌, ◌⊎◌, ⊎_elim, inl, inr, List, [], ◌∷◌, map, length, get_or, refl, sym, subst, arith}
use Rattle.std.specs.List.{All, Contains}
use Rattle.std.proofs.lemmas.List.Elements.{All-push, Contains-push, Contains-append_left, Contains-append_right}
use lib.Signed.{≤ℤ_refl}
use Rattle.list_lemmas.proofs.Elements.{Contains-map}
use Rattle.farkas_cert.specs.declared.system.Row.{Row}
use Rattle.elim_rows.specs.declared.candidate.Candidate.{Candidate}
use Rattle.elim_rows.specs.Candidates.{Covers, IsAdded, rows_among, IsUseful}

pub Contains-unmap : {X Y : Type 0} (f : X → Y) (xs : List X) (y : Y) → Contains (map f xs) y → (x : X) × Contains xs x × (f x ≡ y)
Contains-unmap {X} {Y} f xs y h = at xs h.0 h.1 h.2
  where
    at : (xs : List X) (k : ℕ) → k < length (map f xs) → get_or (map f xs) k y ≡ y → (x : X) × Contains xs x × (f x ≡ y)
    at [] k lt e = absurd (omega arith)
    at (x ∷ xs) zero lt e = (x, (0, omega arith, refl), e)
    at (x ∷ xs) (suc k) lt e = let rest = at xs k (omega arith) e in (rest.0, Contains-append_right (x ∷ []) xs rest.0 rest.1, rest.2)

-- what some rows cover, more rows do
pub Covers-wider : (rows more : List Row) (row : Row) → ((r : Row) → Contains rows r → Contains more r) → Covers rows row → Covers more row
Covers-wider rows more row wider h = ⊎_elim (λ none. inl none) (λ some. inr (some.0, wider some.0 some.1, some.2, some.3)) h

pub rows_among-wider : (old new : List Candidate) → ((c : Candidate) → Contains old c → Contains new c) → (r : Row) → Contains (rows_among old) r → Contains (rows_among new) r
rows_among-wider old new wider r h =
    let found = Contains-unmap (λ (c : Candidate). c.row) old r h in
    subst (Contains (rows_among new)) found.2 (Contains-map (λ (c : Candidate). c.row) new found.0 (wider found.0 found.1))

-- what is added is covered
pub Covers-added : (old new : List Candidate) (c : Candidate) → IsAdded old c new → Covers (rows_among new) c.row
Covers-added old new c added =
    ⊎_elim (λ pushed. inr (c.row, Contains-map (λ (c : Candidate). c.row) new c (subst (λ cs. Contains cs c) (sym pushed.0) (Contains-push old c)), refl, ≤ℤ_refl c.row.bound))
    (λ left. inl (left.1, left.2)) added

pub Covers-kept : (old new : List Candidate) (c : Candidate) → IsAdded old c new → (row : Row) → Covers (rows_among old) row → Covers (rows_among new) row
Covers-kept old new c added row h =
    ⊎_elim (λ pushed. Covers-wider (rows_among old) (rows_among new) row (rows_among-wider old new (λ b has. subst (λ cs. Contains cs b) (sym pushed.0) (Contains-append_left old (c ∷ []) b has))) h)
    (λ left. subst (λ cs. Covers (rows_among cs) row) (sym left.0) h) added

pub All-added : (P : Candidate → Type 0) (old new : List Candidate) (c : Candidate) → IsAdded old c new → All P old → (IsUseful c.row → P c) → All P new
All-added P old new c added all here =
    ⊎_elim (λ pushed. subst (All P) (sym pushed.0) (All-push P old c all (here pushed.1)))
    (λ left. subst (All P) (sym left.0) all) added
