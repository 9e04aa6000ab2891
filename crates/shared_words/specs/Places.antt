-- Places of a machine's processors among their acts, as the shared words' steps come to them.
use Rattle.std.specs.Prelude.{ℕ, zero, suc, ◌+◌, ◌-◌, List, [], ◌∷◌, Some, drop, if◌then◌else◌}
use Rattle.spmd_model.specs.Acts.{Act}
use Rattle.spmd_model.specs.Protocols.{Protocol, act_at, arrivals_at, is_gathered, settled}

-- behind the acts that stand at place n and that no other processor sees
abbrev pub settled_at : Protocol → ℕ → ℕ → ℕ
settled_at m p n = settled m.cells (m.acts p) n

-- behind the act at place n, and those behind it that no other processor sees
abbrev pub behind : Protocol → ℕ → ℕ → ℕ
behind m p n = settled_at m p (n + 1)

-- how many awaits at a barrier stand first among acts
abbrev pub row_first : Protocol → List Act → ℕ
row_first m [] = 0
row_first m (act ∷ rest) = if is_gathered m (Some act) then row_first m rest + 1 else 0

-- behind the awaits at a barrier that stand at place n, and the acts behind them that no other processor sees
abbrev pub behind_row : Protocol → ℕ → ℕ → ℕ
behind_row m p n = settled_at m p (n + row_first m (drop n (m.acts p)))

-- how many barriers p has passed by its first n acts: it arrived there and awaits there no more
abbrev pub passed_at : Protocol → ℕ → ℕ → ℕ
passed_at m p n = arrivals_at m p n - (if is_gathered m (act_at m p n) then 1 else 0)

-- f of each number below n, added up
abbrev pub total : (ℕ → ℕ) → ℕ → ℕ
total f zero = 0
total f (suc n) = total f n + f n
