use Rattle.std.proofs.Common.{◌≡◌, ℕ, ◌+◌, ◌-◌, ◌%◌, ◌^◌, ◌<◌, IsTrue, List, length, get_or, sym, ap, ◌∙◌, subst, arith}
use Rattle.std.specs.List.{All}
use Rattle.std.proofs.lemmas.Bool.{iff_false}
use Rattle.std.proofs.lemmas.List.{get_or_default, get_or-map, length-map}
use Rattle.farkas_cert.specs.declared.system.Row.{Row}
use Rattle.farkas_cert.specs.Combination.{no_row, is_narrow}
use Rattle.elim_level.specs.declared.level.Held.{Held}
use Rattle.elim_level.specs.declared.level.HeldRows.{HeldRows}
use Rattle.elim_rows.specs.declared.chains.Link.{Link}
use Rattle.elim_rows.specs.Chains.{hash_of, link_of, link_at}
use Rattle.elim_rows.specs.Table.{IsTable}
use Rattle.elim_level.specs.Logs.{rows_of}
use Rattle.fm_elim.specs.Answers.{AreClashing}
use Rattle.fm_elim.proofs.OppositeHashes.{clash_hash}
use Rattle.elim_rows.proofs.Hashing.{looked_for-start, looked_for-next, looked_for-none}
use Rattle.fm_elim.proofs.refutation.opponent.Goals as goal
use Rattle.fm_elim.proofs.refutation.opponent.Goals.{else-link-hash-via-then-link-hash+else-are_clashing, else-link-hash-via-else-link-hash}

row_is : (items : List Held) (k : ℕ) (h : Held) → k < length items → h ≡ get_or items k h → get_or (rows_of items) k no_row ≡ h.row
row_is items k h low is = get_or-map (λ (h : Held). h.row) items k h no_row low ∙ ap (λ (h : Held). h.row) (sym is)

fixes : (level : HeldRows) (number other : ℕ) (held : Held) (link : Link) → number < length level.rows.items → All (λ h. All (λ a. IsTrue (is_narrow a)) h.row.coefs) level.rows.items → IsTable (rows_of level.rows.items) level.chains.links.items level.chains.latest.items → link ≡ get_or level.chains.links.items number link → other < 2 ^ 128 → (other + link.hash) % 2 ^ 128 ≡ 0 → (r : Row) → AreClashing (get_or (rows_of level.rows.items) number no_row) r → hash_of r.coefs ≡ other
fixes level number other held link low narrow table is small sum =
    let rows = rows_of level.rows.items in
    let within : number < length rows = omega (arith, low, length-map level.rows.items (λ (h : Held). h.row)) in
    let at : get_or rows number no_row ≡ (get_or level.rows.items number held).row = get_or-map (λ (h : Held). h.row) level.rows.items number held no_row low in
    clash_hash rows level.chains.links.items level.chains.latest.items number other link table within is (subst (λ (r : Row). All (λ a. IsTrue (is_narrow a)) r.coefs) (sym at) (narrow number held low)) small sum

pub loop-end-init : goal.loop-end-init
loop-end-init c =
    let level = c.args.level.now in
    let rows = rows_of level.rows.items in
    let hash = c.wrapping_neg-hash.result in
    let same = fixes level c.args.number hash c.index-2.result.now c.index.result.now c.requires.number c.requires.narrow c.requires.table c.index.ensures c.wrapping_neg-hash.type_inv c.wrapping_neg-hash.ensures in
    looked_for-start (AreClashing (get_or rows c.args.number no_row)) rows level.chains.links.items level.chains.latest.items hash c.requires.table same c.last-end.result c.last-end.ensures

pub loop-end-preserved : goal.loop-end-preserved
loop-end-preserved c =
    let level = c.args.level.now in
    let items = level.rows.items in
    let rows = rows_of items in
    let links = level.chains.links.items in
    let row = get_or rows c.args.number no_row in
    let held = c.index-2.result.now in
    let hash = c.wrapping_neg-hash.result in
    let same = fixes level c.args.number hash held c.index.result.now c.requires.number c.requires.narrow c.requires.table c.index.ensures c.wrapping_neg-hash.type_inv c.wrapping_neg-hash.ensures in
    let last = c.loop-end.end - 1 in
    let link = c.index-link.result.now in
    let count = length-map items (λ (h : Held). h.row) in
    let low : last < length items = omega (arith, c.loop-end-test.true, c.loop-end.invariant.low, count) in
    let within : last < length rows = omega (arith, low, count) in
    let at : link ≡ link_at links last = c.index-link.ensures ∙ get_or_default links last link (link_of 0 0) (omega (arith, within, c.requires.table.count)) in
    let not : AreClashing row (get_or rows last no_row) → ⊥ = elim c.else-link-hash.branch [
      | else-link-hash-via-then-link-hash+else-are_clashing w ↦ (λ p.
          let other = w.index-then-link-hash.result.now in
          iff_false w.are_clashing.ensures w.if-are_clashing.false (subst (λ r. AreClashing held.row r) (row_is items last other low w.index-then-link-hash.ensures) (subst (λ r. AreClashing r (get_or rows last no_row)) (row_is items c.args.number held c.requires.number c.index-2.ensures) p)))
      | else-link-hash-via-else-link-hash w ↦ (λ p. w.if-link-hash.false (ap (λ (l : Link). l.hash) at ∙ c.requires.table.hashes last within ∙ same (get_or rows last no_row) p))
    ] in
    (looked_for-next (AreClashing row) rows links level.chains.latest.items hash c.requires.table same c.loop-end.end link.earlier c.loop-end.invariant c.loop-end-test.true not (ap (λ (l : Link). l.earlier) at)).0

pub returns : goal.returns
returns c =
    let level = c.args.level.now in
    let rows = rows_of level.rows.items in
    let hash = c.wrapping_neg-hash.result in
    let same = fixes level c.args.number hash c.index-2.result.now c.index.result.now c.requires.number c.requires.narrow c.requires.table c.index.ensures c.wrapping_neg-hash.type_inv c.wrapping_neg-hash.ensures in
    looked_for-none (AreClashing (get_or rows c.args.number no_row)) rows level.chains.links.items level.chains.latest.items hash c.requires.table same c.loop-end.end c.loop-end.invariant (omega (arith, c.loop-end-test.false))
