-- Hashes of coefficients, and rows that are met by their places.
use Rattle.std.proofs.Common.{◌≡◌, ℕ, zero, suc, ◌+◌, ◌-◌, ◌≤◌, ◌<◌, ℤ, pos, List, [], ◌∷◌, ◌++◌, length, drop, get_or, refl, ap, sym, ◌∙◌, subst, arith}
use Rattle.std.specs.List.{All}
use Rattle.std.proofs.lemmas.List.{get_or_default, get_or_append_left, get_or_push, length_push}
use Rattle.farkas_cert.specs.declared.system.Row.{Row}
use Rattle.farkas_cert.specs.Combination.{no_row}
use Rattle.elim_rows.specs.declared.chains.Link.{Link}
use Rattle.elim_rows.specs.Chains.{mixed, hash_from, hash_of, place_of, link_of, link_at, IsNewest, AreChained}
use Rattle.elim_rows.specs.Table.{IsTable}
use Rattle.elim_rows.proofs.Combined.{by_lt}

-- one coefficient more
pub hash_from-next : (hash : ℕ) (coefs : List ℤ) (i : ℕ) → i < length coefs → hash_from hash (drop i coefs) ≡ hash_from (mixed hash (get_or coefs i (pos 0))) (drop (suc i) coefs)
hash_from-next hash [] i h = absurd (omega arith)
hash_from-next hash (a ∷ coefs) zero h = refl
hash_from-next hash (a ∷ coefs) (suc i) h = hash_from-next hash coefs i (omega arith)

pub hash_from-end : (hash : ℕ) (coefs : List ℤ) (i : ℕ) → length coefs ≤ i → hash_from hash (drop i coefs) ≡ hash
hash_from-end hash [] zero h = refl
hash_from-end hash [] (suc i) h = refl
hash_from-end hash (a ∷ coefs) zero h = absurd (omega arith)
hash_from-end hash (a ∷ coefs) (suc i) h = hash_from-end hash coefs i (omega arith)

-- while a row with a property, which fixes its hash, is looked for from the last one of the hash's place back: the rows from the end on don't have it
pub record IsLookedFor (P : Row → Type 0) (rows : List Row) (links : List Link) (places hash end : ℕ) : Type 0 where
  pub low : end ≤ length rows
  pub has : 0 < end → place_of places (link_at links (end - 1)).hash ≡ place_of places hash
  pub rest : (k : ℕ) → end ≤ k → k < length rows → P (get_or rows k no_row) → ⊥

module _ (P : Row → Type 0) (rows : List Row) (links : List Link) (latest : List ℕ) (hash : ℕ) (table : IsTable rows links latest) (fixes : (r : Row) → P r → hash_of r.coefs ≡ hash) where
  -- a row with the property has the hash's place
  placed : (k : ℕ) → k < length rows → P (get_or rows k no_row) → place_of (length latest) (link_at links k).hash ≡ place_of (length latest) hash
  placed k h p = ap (place_of (length latest)) (table.hashes k h ∙ fixes (get_or rows k no_row) p)

  pub looked_for-start : (end : ℕ) → IsNewest links (length latest) (place_of (length latest) hash) (length links) end → IsLookedFor P rows links (length latest) hash end
  looked_for-start end newest = record {
    low = omega (arith, newest.low, table.count);
    has = newest.has;
    rest = λ k above h p. let below = newest.last k (omega (arith, table.count, h)) (placed k h p) in omega (arith, above, below);
  }

  pub looked_for-next : (end next : ℕ) → IsLookedFor P rows links (length latest) hash end → 0 < end → (P (get_or rows (end - 1) no_row) → ⊥) → next ≡ (link_at links (end - 1)).earlier → IsLookedFor P rows links (length latest) hash next × (next < end)
  looked_for-next end next looked some not is =
      let newest : IsNewest links (length latest) (place_of (length latest) (link_at links (end - 1)).hash) (end - 1) next = subst (IsNewest links (length latest) (place_of (length latest) (link_at links (end - 1)).hash) (end - 1)) (sym is) (table.chained.befores (end - 1) (omega (arith, looked.low, some, table.count))) in (
        record {
          low = omega (arith, newest.low, looked.low);
          has = λ h. newest.has h ∙ looked.has some;
          rest = λ k above h p.
              by_lt {P = ⊥} k end
              (λ early. by_lt {P = ⊥} k (end - 1)
              (λ lt. let below = newest.last k lt (placed k h p ∙ sym (looked.has some)) in omega (arith, above, below))
              (λ ge. let here : k ≡ end - 1 = omega arith in not (subst (λ i. P (get_or rows i no_row)) here p)))
              (λ late. looked.rest k late h p);
        },
        omega (arith, newest.low, some),
      )

  -- at the end none has it
  pub looked_for-none : (end : ℕ) → IsLookedFor P rows links (length latest) hash end → end ≡ 0 → All (λ r. P r → ⊥) rows
  looked_for-none end looked none k d h p = looked.rest k (omega arith) h (subst P (get_or_default rows k d no_row h) p)

-- one row more
pub IsTable-push : (rows : List Row) (row : Row) (links more : List Link) (link : Link) (latest new : List ℕ) → IsTable rows links latest → AreChained more new → more ≡ links ++ link ∷ [] → link.hash ≡ hash_of row.coefs → All (λ r. r.coefs ≡ row.coefs → ⊥) rows → IsTable (rows ++ row ∷ []) more new
IsTable-push rows row links more link latest new table chained is hash apart = record {
  chained = chained;
  count = omega (arith, ap length is, length_push links link, length_push rows row, table.count);
  hashes = λ k h. at_each (λ l r. l.hash ≡ hash_of r.coefs) table.hashes hash k h;
  distinct = λ i j d lt h e.
      let count = length_push rows row in
      by_lt {P = ⊥} j (length rows)
      (λ early. table.distinct i j d lt early (ap (λ (r : Row). r.coefs) (sym (get_or_append_left rows (row ∷ []) d i (omega arith))) ∙ e ∙ ap (λ (r : Row). r.coefs) (get_or_append_left rows (row ∷ []) d j early)))
      (λ late. apart i d (omega (arith, h, count)) (ap (λ (r : Row). r.coefs) (sym (get_or_append_left rows (row ∷ []) d i (omega (arith, h, count)))) ∙ e ∙ ap (λ (r : Row). r.coefs) (get_or_push rows row d j (omega (arith, h, count)))));
}
  where
    at_each : (R : Link → Row → Type 0) → ((k : ℕ) → k < length rows → R (link_at links k) (get_or rows k no_row)) → R link row → (k : ℕ) → k < length (rows ++ row ∷ []) → R (link_at more k) (get_or (rows ++ row ∷ []) k no_row)
    at_each R all last k h =
        let count = length_push rows row in
        let none = link_of 0 0 in
        by_lt {P = R (link_at more k) (get_or (rows ++ row ∷ []) k no_row)} k (length rows)
        (λ early. subst (λ l. R l (get_or (rows ++ row ∷ []) k no_row)) (sym (get_or_append_left links (link ∷ []) none k (omega (arith, early, table.count))) ∙ ap (λ ls. link_at ls k) (sym is))
        (subst (R (link_at links k)) (sym (get_or_append_left rows (row ∷ []) no_row k early)) (all k early)))
        (λ late. subst (λ l. R l (get_or (rows ++ row ∷ []) k no_row)) (sym (get_or_push links link none k (omega (arith, late, h, count, table.count))) ∙ ap (λ ls. link_at ls k) (sym is))
        (subst (R link) (sym (get_or_push rows row no_row k (omega (arith, late, h, count)))) last))
