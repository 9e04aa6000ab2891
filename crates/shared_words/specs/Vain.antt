-- What a poll that found too little says of places that the processors had come to before.
use Rattle.std.specs.Prelude.{ℕ, ◌*◌, ◌≡◌, ◌≤◌, ◌<◌, true, false, Some, length}
use Rattle.spmd_model.specs.Timelines.{Word, counter}
use Rattle.spmd_model.specs.Acts.{await}
use Rattle.spmd_model.specs.Free.{IsInVain}
use Rattle.spmd_model.specs.Protocols.{Protocol, act_at, arrivals_at, is_arrival, shown_at}
use Rattle.shared_words.specs.Places.{settled_at, total}

-- all processors had come to these places
abbrev pub AreReached : Protocol → (known at : ℕ → ℕ) → Type 0
AreReached m known at = (q : ℕ) → q < m.workers → known q ≤ at q

-- ---- of p in front of its act n, an await, where the known places are reached

-- the awaited word shows less than the number: not all that p awaits there was posted at the known places
abbrev pub PollsInVain : Protocol → Type 0
PollsInVain m =
    (w : Word) (at known : ℕ → ℕ) (p n on wanted : ℕ) → p < m.workers → AreReached m known at
    → act_at m p n ≡ Some (await w on wanted) → is_arrival m.gathers w wanted ≡ false
    → shown_at m w on (at on) < wanted → IsInVain m.acts known p n

-- at a barrier there are fewer arrivals than as many as p's of each processor: the same
abbrev pub RowsInVain : Protocol → Type 0
RowsInVain m =
    (at known : ℕ → ℕ) (p n on wanted : ℕ) → p < m.workers → at p ≡ n → AreReached m known at
    → act_at m p n ≡ Some (await counter on wanted) → m.gathers wanted ≡ true
    → total (λ q. arrivals_at m q (at q)) m.workers < m.workers * arrivals_at m p n
    → IsInVain m.acts known p n

-- a place behind acts that no other processor sees is one among the acts, or behind the last
abbrev pub IsWithin : Protocol → Type 0
IsWithin m = (p n : ℕ) → n ≤ length (m.acts p) → settled_at m p n ≤ length (m.acts p)
