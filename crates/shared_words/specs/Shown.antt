-- The words and the seats of a table show a state of the machine.
use Rattle.std.specs.Prelude.{ℕ, List}
use Rattle.spmd_model.specs.Protocols.{Protocol}
use Rattle.shared_words.specs.Words.{AreShown}
use Rattle.shared_words.specs.declared.roles.Role.{Role}
use Rattle.shared_words.specs.Seats.{AreSeated}

-- the words and the seats show a state of the machine
pub record AreOne (m : Protocol) (words : List ℕ) (roles : List Role) : Type 0 where
  pub at : ℕ → ℕ
  pub shown : AreShown m words at
  pub seated : AreSeated m roles at
