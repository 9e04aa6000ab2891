-- Hashes of opposite coefficients: those of rows that clash.
use Rattle.std.proofs.Common.{◌≡◌, ℕ, zero, suc, ◌+◌, ◌*◌, ◌%◌, ◌^◌, ◌≤◌, ◌<◌, ℤ, pos, negsuc, neg_ℤ, unsigned_abs, IsTrue, List, [], ◌∷◌, map, length, get_or, refl, ap, sym, ◌∙◌, arith}
use Rattle.std.specs.Int.{w128, cast_unsigned}
use Rattle.std.specs.List.{All}
use Rattle.std.proofs.Math.Nat.{add-mod, zero-mod}
use Rattle.std.proofs.lemmas.Nat.{mul-mod_first}
use Rattle.std.proofs.lemmas.List.Elements.{All-head, All-tail}
use Rattle.std.proofs.lemmas.List.{get_or_default}
use Rattle.farkas_cert.specs.declared.system.Row.{Row}
use Rattle.farkas_cert.specs.Combination.{no_row, is_narrow}
use Rattle.elim_rows.specs.declared.chains.Link.{Link}
use Rattle.elim_rows.specs.Chains.{mixed, hash_from, hash_of, link_of, link_at}
use Rattle.elim_rows.specs.Table.{IsTable}
use Rattle.fm_elim.specs.Answers.{AreClashing}
use Rattle.elim_rows.proofs.Divisors.{le_from_narrow}

-- sums that are 0 in so many bits
zero_sum : (a b c d f m : ℕ) → (a + b) % m ≡ 0 → (c + d) % m ≡ 0 → ((a + c) % m * f % m + (b + d) % m * f % m) % m ≡ 0
zero_sum a b c d f m h k =
    let x = (a + c) % m in
    let y = (b + d) % m in
    let swap : a + c + (b + d) ≡ a + b + (c + d) = omega arith in
    let spread : x * f + y * f ≡ (x + y) * f = omega arith in
    let nothing : 0 * f ≡ 0 = omega arith in
    let none : (x + y) % m ≡ 0 = sym (add-mod (a + c) (b + d) m) ∙ ap (λ n. n % m) swap ∙ add-mod (a + b) (c + d) m ∙ ap (λ n. (n + (c + d) % m) % m) h ∙ ap (λ n. (0 + n) % m) k ∙ zero-mod m in
    sym (add-mod (x * f) (y * f) m) ∙ ap (λ n. n % m) spread ∙ sym (mul-mod_first (x + y) f m) ∙ ap (λ n. n * f % m) none ∙ ap (λ n. n % m) nothing ∙ zero-mod m

opposite_bits : (z : ℤ) → unsigned_abs z ≤ 2 ^ 126 → (cast_unsigned w128 (neg_ℤ z) + cast_unsigned w128 z) % 2 ^ 128 ≡ 0
opposite_bits (pos zero) h = refl
opposite_bits (pos (suc n)) h = omega arith
opposite_bits (negsuc n) h = omega arith

hash_small : (hash : ℕ) (coefs : List ℤ) → hash < 2 ^ 128 → hash_from hash coefs < 2 ^ 128
hash_small hash [] h = h
hash_small hash (a ∷ coefs) h = hash_small (mixed hash a) coefs (omega arith)

opposite_sum : (hash other : ℕ) (coefs : List ℤ) → All (λ a. IsTrue (is_narrow a)) coefs → (other + hash) % 2 ^ 128 ≡ 0 → (hash_from other (map neg_ℤ coefs) + hash_from hash coefs) % 2 ^ 128 ≡ 0
opposite_sum hash other [] all h = h
opposite_sum hash other (a ∷ coefs) all h =
    opposite_sum (mixed hash a) (mixed other (neg_ℤ a)) coefs (All-tail (λ b. IsTrue (is_narrow b)) a coefs all)
    (zero_sum other hash (cast_unsigned w128 (neg_ℤ a)) (cast_unsigned w128 a) 47026247687942121848144207491837523525 (2 ^ 128) h (opposite_bits a (le_from_narrow a (All-head (λ b. IsTrue (is_narrow b)) a coefs all))))

-- the hash of the opposites is the other one of a sum that is 0
pub opposite_hash : (coefs : List ℤ) (other : ℕ) → All (λ a. IsTrue (is_narrow a)) coefs → other < 2 ^ 128 → (other + hash_of coefs) % 2 ^ 128 ≡ 0 → hash_of (map neg_ℤ coefs) ≡ other
opposite_hash coefs other all small h =
    let sum = opposite_sum 0 0 coefs all refl in
    let low = hash_small 0 (map neg_ℤ coefs) (omega arith) in
    omega (arith, sum, low, small, h)

-- rows that clash with a row have the other hash of a sum that is 0
pub clash_hash : (rows : List Row) (links : List Link) (latest : List ℕ) (number other : ℕ) (link : Link) → IsTable rows links latest → number < length rows → link ≡ get_or links number link → All (λ a. IsTrue (is_narrow a)) (get_or rows number no_row).coefs → other < 2 ^ 128 → (other + link.hash) % 2 ^ 128 ≡ 0 → (r : Row) → AreClashing (get_or rows number no_row) r → hash_of r.coefs ≡ other
clash_hash rows links latest number other link table low is narrow small sum r clash =
    let row = get_or rows number no_row in
    let at : link ≡ link_at links number = is ∙ get_or_default links number link (link_of 0 0) (omega (arith, low, table.count)) in
    let hash : link.hash ≡ hash_of row.coefs = ap (λ (l : Link). l.hash) at ∙ table.hashes number low in
    ap hash_of clash.opposite ∙ opposite_hash row.coefs other narrow small (ap (λ n. (other + n) % 2 ^ 128) (sym hash) ∙ sum)
