-- Where names stand in a list, and the maps that look them up.
use Rattle.std.specs.Prelude.{ℕ, ◌+◌, ◌*◌, nat_le, nat_lt, Bool, ◌&&◌, List, [], ◌∷◌, length, map, Option, Some, None, if◌then◌else◌, ◌≡◌}
use Rattle.std.specs.BTreeMap.{BTreeMap, get, get_by}
use Rattle.std.specs.Cmp.Lexicographic.{slice_cmp}
use Rattle.std.specs.Ordering.{nat_cmp}
use Rattle.std.specs.Global.{Vec}
use Rattle.std.specs.List.{list_all}
use Rattle.f77_scene.specs.Scene.{Name, is_among, number_among}
use Rattle.f77_program.specs.declared.numbers.Numbers.{Numbers}

abbrev pub texts_of : List (Vec ℕ) → List Name
texts_of names = map (λ n. n.items) names

-- the number of a name that is among these
abbrev pub numbered : List Name → Name → Option ℕ
numbered names n = if is_among names n then Some (number_among names n) else None

-- at most 18 characters, each below 128
abbrev pub is_short : Name → Bool
is_short n = nat_le (length n) 18 && list_all (λ c. nat_lt c 128) n

-- a number that no other short name has
abbrev pub key_of : Name → ℕ
key_of [] = 1
key_of (c ∷ n) = key_of n * 128 + c

-- the number that the map of other names has under a name
abbrev pub number_apart : BTreeMap (Vec ℕ) ℕ → Name → Option ℕ
number_apart others n = get_by (λ key. slice_cmp nat_cmp n key.items) others

-- the number that the maps have under a name
abbrev pub number_under : Numbers → Name → Option ℕ
number_under numbers n =
    if is_short n then get nat_cmp numbers.short (key_of n) else number_apart numbers.others n

-- the maps have each name under its number, and nothing else
abbrev pub AreNumbered : Numbers → List Name → Type 0
AreNumbered numbers names = (n : Name) → number_under numbers n ≡ numbered names n
