-- Candidates that are joined and tightened still cover the same rows, and still come from where they came.
use Rattle.std.proofs.Common.{◌≡◌, ℕ, ◌<◌, ◌⊎◌, ⊎_elim, inl, inr, List, [], ◌∷◌, ◌++◌, map, length, get_or, refl, ap, sym, ◌∙◌, subst, arith}
use Rattle.std.specs.List.{All, AllPairs, Contains}
use Rattle.std.proofs.lemmas.List.{length-map, get_or-map}
use Rattle.std.proofs.lemmas.List.Elements.{All-nil, All-map, Contains-get_or, All-cons, All-append, All-push, All-weaker, All-contains, All-contains_itself, Contains-push, Contains-append_left, Contains-append_right, Contains-push_cases}
use lib.Signed.{≤ℤ_refl}
use Rattle.list_lemmas.proofs.Elements.{Contains-map}
use Rattle.farkas_cert.specs.declared.system.Row.{Row}
use Rattle.elim_level.specs.declared.level.Held.{Held}
use Rattle.elim_rows.specs.declared.candidate.Candidate.{Candidate}
use Rattle.elim_rows.specs.Reduction.{IsReduced}
use Rattle.elim_rows.specs.Pairs.{combination}
use Rattle.elim_rows.specs.Candidates.{Covers, rows_among, IsUseful}
use Rattle.elim_rows.specs.Table.{IsPut}
use Rattle.elim_level.specs.Gathering.{IsPaired, IsMade, candidate_of, CoversPair, HasApart, IsJoint, IsJoined, IsSource, IsGathered}
use Rattle.elim_level.proofs.Unique.{IsPair-unique}

pub HasApart-weaker : (limit : ℕ) (P Q : Candidate → Type 0) → ((c : Candidate) → P c → Q c) → HasApart limit P → HasApart limit Q
HasApart-weaker limit P Q f h = record { kept = h.kept; many = h.many; all = All-weaker P Q f h.kept h.all; apart = h.apart }

-- candidates whose rows are apart are apart
pub apart_from_rows : (candidates : List Candidate) → AllPairs (λ r s. r.coefs ≡ s.coefs → ⊥) (rows_among candidates) → AllPairs (λ a b. a.row.coefs ≡ b.row.coefs → ⊥) candidates
apart_from_rows candidates apart i j d lt h e =
    let at : (k : ℕ) → k < length candidates → get_or (rows_among candidates) k d.row ≡ (get_or candidates k d).row = λ k within. get_or-map (λ (c : Candidate). c.row) candidates k d d.row within in
    apart i j d.row lt (omega (arith, h, length-map candidates (λ (c : Candidate). c.row))) (ap (λ (r : Row). r.coefs) (at i (omega arith)) ∙ e ∙ ap (λ (r : Row). r.coefs) (sym (at j h)))

-- a pair has one least combination
pub IsPaired-unique : (v : ℕ) (upper lower r s : Row) → IsPaired v upper lower r → IsPaired v upper lower s → r ≡ s
IsPaired-unique v upper lower r s a b =
    let same = IsPair-unique v upper lower a.m a.n b.m b.n a.pair b.pair in
    a.made ∙ ap (λ m. combination m upper a.n lower) same.0 ∙ ap (λ n. combination b.m upper n lower) same.1 ∙ sym b.made

-- one pair's candidate
pub IsJoined-put : (v : ℕ) (upper lower : Held) (old new : List Candidate) (c : Candidate) → IsMade v upper lower c → IsPut old c new → IsJoined v upper (lower ∷ []) old new
IsJoined-put v upper lower old new c made put = record {
  only = All-weaker (λ b. Contains old b ⊎ ((b ≡ c) × IsUseful c.row)) (IsJoint v upper (lower ∷ []) old)
      (λ b h. ⊎_elim (λ there. inl there) (λ is. inr (subst IsUseful (ap (λ (d : Candidate). d.row) (sym is.0)) is.1, (lower, (0, omega arith, refl), subst (IsMade v upper lower) (sym is.0) made))) h) new put.only;
  keeps = put.keeps;
  pairs = All-cons (λ l. CoversPair v (rows_among new) upper.row l.row) lower [] (λ raw paired.
      let same : made.raw ≡ raw = IsPaired-unique v upper.row lower.row made.raw raw made.paired paired in
      (c.row, subst (λ r. IsReduced r c.row) same made.reduced, put.has)) (All-nil (λ l. CoversPair v (rows_among new) upper.row l.row));
}

CoversPair-kept : (v : ℕ) (old new : List Candidate) → ((row : Row) → Covers (rows_among old) row → Covers (rows_among new) row) → (upper lower : Row) → CoversPair v (rows_among old) upper lower → CoversPair v (rows_among new) upper lower
CoversPair-kept v old new keeps upper lower h raw paired = let found = h raw paired in (found.0, found.1, keeps found.0 found.2)

-- one lower row more
IsJoint-step : (v : ℕ) (upper : Held) (before some all : List Held) (old between : List Candidate) → ((l : Held) → Contains before l → Contains all l) → ((l : Held) → Contains some l → Contains all l) → IsJoined v upper before old between → (c : Candidate) → IsJoint v upper some between c → IsJoint v upper all old c
IsJoint-step v upper before some all old between left right joined c h =
    ⊎_elim (λ earlier. widen (All-contains (IsJoint v upper before old) between c joined.only earlier))
    (λ made. inr (made.0, (made.1.0, right made.1.0 made.1.1, made.1.2))) h
  where
    widen : IsJoint v upper before old c → IsJoint v upper all old c
    widen j = ⊎_elim (λ a. inl a) (λ made. inr (made.0, (made.1.0, left made.1.0 made.1.1, made.1.2))) j

pub IsJoined-start : (v : ℕ) (upper : Held) (old : List Candidate) → IsJoined v upper [] old old
IsJoined-start v upper old = record {
  only = All-weaker (Contains old) (IsJoint v upper [] old) (λ c h. inl h) old (All-contains_itself old);
  keeps = λ row h. h;
  pairs = All-nil (λ l. CoversPair v (rows_among old) upper.row l.row);
}

pub IsJoined-more : (v : ℕ) (upper : Held) (before : List Held) (lower : Held) (old between new : List Candidate) → IsJoined v upper before old between → IsJoined v upper (lower ∷ []) between new → IsJoined v upper (before ++ lower ∷ []) old new
IsJoined-more v upper before lower old between new a b = record {
  only = All-weaker (IsJoint v upper (lower ∷ []) between) (IsJoint v upper (before ++ lower ∷ []) old) (λ c h. IsJoint-step v upper before (lower ∷ []) (before ++ lower ∷ []) old between (λ l has. Contains-append_left before (lower ∷ []) l has) (λ l has. Contains-append_right before (lower ∷ []) l has) a c h) new b.only;
  keeps = λ row h. b.keeps row (a.keeps row h);
  pairs = All-append (λ l. CoversPair v (rows_among new) upper.row l.row) before (lower ∷ []) (All-weaker (λ l. CoversPair v (rows_among between) upper.row l.row) (λ l. CoversPair v (rows_among new) upper.row l.row) (λ l h. CoversPair-kept v between new b.keeps upper.row l.row h) before a.pairs) b.pairs;
}

pub HasApart-more : (limit v : ℕ) (upper : Held) (before : List Held) (lower : Held) (all : List Held) (old between : List Candidate) → ((l : Held) → Contains before l → Contains all l) → Contains all lower → IsJoined v upper before old between → HasApart limit (IsJoint v upper (lower ∷ []) between) → HasApart limit (IsJoint v upper all old)
HasApart-more limit v upper before lower all old between left here a h =
    HasApart-weaker limit (IsJoint v upper (lower ∷ []) between) (IsJoint v upper all old) (IsJoint-step v upper before (lower ∷ []) all old between left (λ l has. ⊎_elim (λ none. absurd (omega (arith, none.1))) (λ e. subst (Contains all) e here) (Contains-push_cases [] lower l has)) a) h

-- the rows without the variable
pub IsGathered-start : (v : ℕ) (apart lowers : List Held) → All (λ h. IsUseful h.row) apart → IsGathered v apart [] lowers (map candidate_of apart)
IsGathered-start v apart lowers useful = record {
  only = All-map (IsSource v apart [] lowers) candidate_of apart (λ k d h. (useful k d h, inl (Contains-map candidate_of apart (get_or apart k d) (Contains-get_or apart k d h))));
  carried = λ k d h.
      let held = get_or apart k d in
      inr (held.row, Contains-map (λ (c : Candidate). c.row) (map candidate_of apart) (candidate_of held) (Contains-map candidate_of apart held (Contains-get_or apart k d h)), refl, ≤ℤ_refl held.row.bound);
  pairs = All-nil (λ u. All (λ l. CoversPair v (rows_among (map candidate_of apart)) u.row l.row) lowers);
}

-- one upper row more
IsSource-step : (v : ℕ) (apart before all lowers : List Held) (upper : Held) (old : List Candidate) → ((u : Held) → Contains before u → Contains all u) → Contains all upper → IsGathered v apart before lowers old → (c : Candidate) → IsJoint v upper lowers old c → IsSource v apart all lowers c
IsSource-step v apart before all lowers upper old left here a c h =
    ⊎_elim (λ earlier.
    let source = All-contains (IsSource v apart before lowers) old c a.only earlier in
    (source.0, ⊎_elim (λ there. inl there) (λ made. inr (made.0, made.1, left made.0 made.2, made.3, made.4)) source.1))
    (λ made. (made.0, inr (upper, made.1.0, here, made.1.1, made.1.2))) h

pub IsGathered-more : (v : ℕ) (apart before lowers : List Held) (upper : Held) (old new : List Candidate) → IsGathered v apart before lowers old → IsJoined v upper lowers old new → IsGathered v apart (before ++ upper ∷ []) lowers new
IsGathered-more v apart before lowers upper old new a joined = record {
  only = All-weaker (IsJoint v upper lowers old) (IsSource v apart (before ++ upper ∷ []) lowers) (IsSource-step v apart before (before ++ upper ∷ []) lowers upper old (λ u has. Contains-append_left before (upper ∷ []) u has) (Contains-push before upper) a) new joined.only;
  carried = All-weaker (λ h. Covers (rows_among old) h.row) (λ h. Covers (rows_among new) h.row) (λ h c. joined.keeps h.row c) apart a.carried;
  pairs = All-push (λ u. All (λ l. CoversPair v (rows_among new) u.row l.row) lowers) before upper
      (All-weaker (λ u. All (λ l. CoversPair v (rows_among old) u.row l.row) lowers) (λ u. All (λ l. CoversPair v (rows_among new) u.row l.row) lowers) (λ u h. All-weaker (λ l. CoversPair v (rows_among old) u.row l.row) (λ l. CoversPair v (rows_among new) u.row l.row) (λ l k. CoversPair-kept v old new joined.keeps u.row l.row k) lowers h) before a.pairs)
      joined.pairs;
}

pub HasApart-gathered : (limit v : ℕ) (apart before all lowers : List Held) (upper : Held) (old : List Candidate) → ((u : Held) → Contains before u → Contains all u) → Contains all upper → IsGathered v apart before lowers old → HasApart limit (IsJoint v upper lowers old) → HasApart limit (IsSource v apart all lowers)
HasApart-gathered limit v apart before all lowers upper old left here a h =
    HasApart-weaker limit (IsJoint v upper lowers old) (IsSource v apart all lowers) (IsSource-step v apart before all lowers upper old left here a) h
