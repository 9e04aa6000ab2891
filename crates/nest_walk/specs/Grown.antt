-- A list that has grown by one item for each of some others.
use Rattle.std.specs.Prelude.{List, ◌++◌, ◌≡◌}
use Rattle.std.specs.List.{AllZip}

-- behind the old items stands one for each of these, in order, as the relation says
pub record GrewBy {A B : Type 0} (R : A → B → Type 0) (xs : List A) (old new : List B) :
    Type 0 where
  pub added : List B
  pub behind : new ≡ old ++ added
  pub each : AllZip R xs added
