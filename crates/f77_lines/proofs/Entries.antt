-- Lists of statements and directives that grow.
use Rattle.std.proofs.Common.{◌≡◌, List, [], ◌∷◌, ◌++◌, map, Option, Some, None, refl, append_assoc}
use Rattle.std.proofs.lemmas.List.{map-append}
use Rattle.f77_lines.specs.declared.line.Line.{Line}
use Rattle.f77_lines.specs.Statements.{Entry}
use Rattle.f77_lines.specs.Listing.{entry_of}

-- what is no Some is None
pub none_from_not_some : {X : Type 0} (o : Option X) → ((x : X) → o ≡ Some x → ⊥) → o ≡ None
none_from_not_some None h = refl
none_from_not_some (Some x) h = absurd (h x refl)

module _ (front : List Line) (begun more before all : List Entry) (whole : map entry_of front ++ before ≡ all) (cut : before ≡ begun ++ more) where
  pub listed-pushed : (items : List Line) (e : Line) → entry_of e ∷ [] ≡ begun → items ≡ front ++ e ∷ [] → map entry_of items ++ more ≡ all
  listed-pushed items e made pushed =
      let mapped = map-append entry_of front (e ∷ []) in
      let grouped = append_assoc (map entry_of front) (entry_of e ∷ []) more in
      cc

  pub listed-kept : [] ≡ begun → map entry_of front ++ more ≡ all
  listed-kept none = cc

-- the last entry
pub listed-ended : (front items : List Line) (e : Line) (last : Entry) (before all : List Entry) → map entry_of front ++ before ≡ all → before ≡ last ∷ [] → entry_of e ≡ last → items ≡ front ++ e ∷ [] → map entry_of items ≡ all
listed-ended front items e last before all whole cut is pushed =
    let mapped = map-append entry_of front (e ∷ []) in
    cc
