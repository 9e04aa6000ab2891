-- Rows by a hash of their coefficients: where equal ones are looked for.
use Rattle.std.specs.Prelude.{ℕ, ◌+◌, ◌-◌, ◌*◌, ◌/◌, ◌%◌, ◌^◌, ◌≤◌, ◌<◌, ℤ, List, [], ◌∷◌, length, slice_index_or, ◌≡◌}
use Rattle.std.specs.Int.{w128, cast_unsigned}
use Rattle.elim_rows.specs.declared.chains.Link.{Link}

-- a hash with one coefficient more
abbrev pub mixed : ℕ → ℤ → ℕ
mixed hash coef =
    (hash + cast_unsigned w128 coef) % 2 ^ 128 * 47026247687942121848144207491837523525 % 2 ^ 128

abbrev pub hash_from : ℕ → List ℤ → ℕ
hash_from hash [] = hash
hash_from hash (coef ∷ coefs) = hash_from (mixed hash coef) coefs

-- the hash of coefficients
abbrev pub hash_of : List ℤ → ℕ
hash_of coefs = hash_from 0 coefs

-- the place of a hash among so many: equal hashes have one place
abbrev pub place_of : ℕ → ℕ → ℕ
place_of places hash = hash / 2 ^ 64 * places / 2 ^ 64

abbrev pub link_of : ℕ → ℕ → Link
link_of hash earlier = record { hash = hash; earlier = earlier }

abbrev pub link_at : List Link → ℕ → Link
link_at links k = slice_index_or links k (link_of 0 0)

-- the number is one more than that of the last row before the end that has the place, or 0 where none has
pub record IsNewest (links : List Link) (places place end number : ℕ) : Type 0 where
  pub low : number ≤ end
  pub has : 0 < number → place_of places (link_at links (number - 1)).hash ≡ place
  pub last : (k : ℕ) → k < end → place_of places (link_at links k).hash ≡ place → k < number

-- each place leads to its last row, and each row to the one before it with the same place
pub record AreChained (links : List Link) (latest : List ℕ) : Type 0 where
  pub some : 0 < length latest
  pub lasts : (place : ℕ) → place < length latest
      → IsNewest links (length latest) place (length links) (slice_index_or latest place 0)
  pub befores : (k : ℕ) → k < length links
      → IsNewest links (length latest) (place_of (length latest) (link_at links k).hash) k
      (link_at links k).earlier
