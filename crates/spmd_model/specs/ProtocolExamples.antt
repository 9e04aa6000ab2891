-- Worked rows of what words show, of arrivals, and of the acts that nobody else sees, where two cells are shared and the number 1 is gathered.
use Rattle.std.specs.Prelude.{◌≡◌, ◌==◌, List, [], ◌∷◌, fold, refl}
use Rattle.spmd_model.specs.Timelines.{counter, signal}
use Rattle.spmd_model.specs.Acts.{Act, post, await, load, store, add, print}
use Rattle.spmd_model.specs.Protocols.{arrived, settled, shown}

abbrev acts : List Act
acts = post counter 1 ∷ await counter 1 1 ∷ print 4 ∷ store 5 2 ∷ load 6 0 ∷ add 6 1 ∷ post signal 3
    ∷ post counter 2 ∷ []

-- the PRINT and the store of cell 2 are passed, the load of cell 0 isn't
pub settled-example : settled 2 acts 2 ≡ 4
settled-example = refl

pub settled-addition : settled 2 acts 5 ≡ 5
settled-addition = refl

-- the counter shows 2, which is no arrival, and the signal 3
pub shown-counter : fold (shown (λ n. n == 1) counter) 0 acts ≡ 2
shown-counter = refl

pub shown-signal : fold (shown (λ n. n == 1) signal) 0 acts ≡ 3
shown-signal = refl

pub arrived-example : fold (arrived (λ n. n == 1)) 0 acts ≡ 1
arrived-example = refl
