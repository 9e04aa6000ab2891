-- The texts of the statements of `bench`'s program have these forms.
use Rattle.std.proofs.Common.{◌≡◌, ℕ, List, [], ◌∷◌, ◌++◌, refl, ap, append_assoc}
use Rattle.std.specs.Prelude.{codes, map}
use Rattle.std.specs.List.{AllByRecursion}
use Rattle.std.proofs.lemmas.List.{append-nil}
use Rattle.f77_forms.specs.Text.{HasForm}
use Rattle.f77_forms.proofs.Answered.{form-read}
use Rattle.f77_scene.specs.Reading.{statements_in}
use Rattle.bench_program.proofs.Rows.{Row, entries, entry_of, rows, rows_behind, sizes, sizes_text, stated, statements}
use Rattle.bench_program.proofs.Listed.{AreDigits}

all-stated : (rs : List Row) → AllByRecursion (λ r. HasForm r.text r.form) rs → statements_in (map entry_of rs) ≡ map stated rs
unfolding statements_in
all-stated [] h = refl
all-stated (r ∷ rs) h = rw (form-read r.text r.form h.0, all-stated rs h.1) refl

behind-have : AllByRecursion (λ r. HasForm r.text r.form) rows_behind
behind-have = (
  record { good = refl; written = refl },
  (
    record { good = refl; written = refl },
    (
      record { good = refl; written = refl },
      (
        record { good = refl; written = refl },
        (
          record { good = refl; written = refl },
          (
            record { good = refl; written = refl },
            (
              record { good = refl; written = refl },
              (
                record { good = refl; written = refl },
                (record { good = refl; written = refl }, (record { good = refl; written = refl }, (record { good = refl; written = refl }, tt))),
              ),
            ),
          ),
        ),
      ),
    ),
  ),
)

regroup : (ds es z : List ℕ) → (ds ++ 44 ∷ 77 ∷ 61 ∷ (es ++ [])) ++ z ≡ ds ++ 44 ∷ 77 ∷ 61 ∷ (es ++ z)
regroup ds es z = simp (append_assoc, append-nil)

sizes-have : (ds es : List ℕ) → AreDigits ds → AreDigits es → HasForm (sizes_text ds es) (sizes ds es)
sizes-have ds es a b = record { good = rw (a.number, b.number) refl; written = ap (λ t. codes "PARAMETER(N=" ++ t) (regroup ds es (codes ")")) }

pub source-stated : (ds es : List ℕ) → AreDigits ds → AreDigits es → statements_in (entries ds es) ≡ statements ds es
source-stated ds es a b =
    all-stated (rows ds es) (record { good = refl; written = refl }, (record { good = refl; written = refl }, (sizes-have ds es a b, behind-have)))
