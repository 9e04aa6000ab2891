-- What holds of a protocol whose every interleaving is sequential, as the words that processors share cite it.
use Rattle.std.specs.Prelude.{◌^◌, true, false, ℕ, ◌+◌, ◌≡◌, ◌≢◌, ◌≤◌, ◌<◌, ◌⊎◌, ℤ, pos, List, [], ◌∷◌, ◌++◌, Some, length, replicate, slice_set}
use Rattle.nest_model.specs.Memory.{cell_value}
use Rattle.spmd_model.specs.Cells.{plus}
use Rattle.spmd_model.specs.Timelines.{Word, counter}
use Rattle.spmd_model.specs.Acts.{Act, post, await, load, store, add, print}
use Rattle.spmd_model.specs.Lawful.{IsPosted, Moves}
use Rattle.spmd_model.specs.Quiet.{is_quiet}
use Rattle.spmd_model.specs.Protocols.{Protocol, act_at, arrivals_at, is_arrival, is_gathered, is_print, settled, shown_at}

-- in each law p is a processor, and `at` says how many acts each one has done
pub record Laws (m : Protocol) : Type 0 where
  -- cells of 0 are lawful where nothing is done, and where each processor is behind the acts that nobody else sees
  pub first : (at : ℕ → ℕ) → ((p : ℕ) → p < m.workers → at p ≡ 0)
      → m.lawful (replicate m.cells (pos 0)) at
  pub first_settled : (at : ℕ → ℕ) → ((p : ℕ) → p < m.workers → at p ≡ settled m.cells (m.acts p) 0)
      → m.lawful (replicate m.cells (pos 0)) at
  -- ---- cells
  -- behind the acts that are passed, loads and stores are of cells that all share; additions always are
  pub load_inside : (p n place cell : ℕ) → p < m.workers
      → act_at m p (settled m.cells (m.acts p) n) ≡ Some (load place cell) → cell < m.cells
  pub store_inside : (p n place cell : ℕ) → p < m.workers
      → act_at m p (settled m.cells (m.acts p) n) ≡ Some (store place cell) → cell < m.cells
  pub add_inside : (p n place cell : ℕ) → p < m.workers → act_at m p n ≡ Some (add place cell)
      → cell < m.cells
  -- a cell whose load stands next holds what the load gives in the sequential program
  pub gives : (cells : List ℤ) (at : ℕ → ℕ) (p place cell : ℕ) → p < m.workers → m.lawful cells at
      → act_at m p (at p) ≡ Some (load place cell) → cell < m.cells
      → cell_value cells cell ≡ m.loaded_at p (at p)
  -- ---- acts
  -- a load keeps lawful cells lawful
  pub by_load : (cells : List ℤ) (at after : ℕ → ℕ) (p place cell : ℕ) → p < m.workers
      → m.lawful cells at → act_at m p (at p) ≡ Some (load place cell) → Moves at after p (at p + 1)
      → m.lawful cells after
  -- so does a store of the sequential value
  pub by_store : (cells : List ℤ) (at after : ℕ → ℕ) (p place cell : ℕ) → p < m.workers
      → m.lawful cells at → act_at m p (at p) ≡ Some (store place cell) → cell < m.cells
      → Moves at after p (at p + 1) →
      m.lawful (slice_set cells cell (m.stored_at p (at p))) after
  -- so does an addition of the sequential amount
  pub by_add : (cells : List ℤ) (at after : ℕ → ℕ) (p place cell : ℕ) → p < m.workers
      → m.lawful cells at → act_at m p (at p) ≡ Some (add place cell) → cell < m.cells
      → Moves at after p (at p + 1) →
      m.lawful (slice_set cells cell (plus (cell_value cells cell) (m.stored_at p (at p)))) after
  -- so does a PRINT
  pub by_print : (cells : List ℤ) (at after : ℕ → ℕ) (p place : ℕ) → p < m.workers
      → m.lawful cells at → act_at m p (at p) ≡ Some (print place) → Moves at after p (at p + 1)
      → m.lawful cells after
  -- so does a load or a store of an own cell
  pub by_quiet : (cells : List ℤ) (at after : ℕ → ℕ) (p : ℕ) (a : Act) → p < m.workers
      → m.lawful cells at → act_at m p (at p) ≡ Some a → is_quiet m.cells a ≡ true
      → Moves at after p (at p + 1) → m.lawful cells after
  -- so do the acts that nobody else sees and that stand next, all at once
  pub by_passed : (cells : List ℤ) (at after : ℕ → ℕ) (p : ℕ) → p < m.workers → m.lawful cells at
      → Moves at after p (settled m.cells (m.acts p) (at p)) → m.lawful cells after
  -- so does a post
  pub by_post : (cells : List ℤ) (at after : ℕ → ℕ) (w : Word) (p number : ℕ) → p < m.workers
      → m.lawful cells at → act_at m p (at p) ≡ Some (post w number) → Moves at after p (at p + 1)
      → m.lawful cells after
  -- so does an await of 0, or of a number whose post is done by the processor that is awaited
  pub by_await : (cells : List ℤ) (at after : ℕ → ℕ) (w : Word) (p on wanted : ℕ) → p < m.workers
      → m.lawful cells at → act_at m p (at p) ≡ Some (await w on wanted)
      → (wanted ≡ 0) ⊎ IsPosted (m.acts on) w wanted (at on) → Moves at after p (at p + 1) →
      m.lawful cells after
  -- ---- words
  -- who is awaited is a processor, and a word of it that has come to the number shows that its post is done
  pub posted : (w : Word) (p n on wanted k : ℕ) → p < m.workers
      → act_at m p n ≡ Some (await w on wanted)
      → (on < m.workers) × (wanted ≤ shown_at m w on k
      → (wanted ≡ 0) ⊎ IsPosted (m.acts on) w wanted k)
  -- a word shows a post that is done, where it is no arrival
  pub shows : (w : Word) (q number k : ℕ) → is_arrival m.gathers w number ≡ false
      → IsPosted (m.acts q) w number k → number ≤ shown_at m w q k
  -- behind an arrival, an await at the barrier stands next
  pub arrival : (p n number : ℕ) → p < m.workers → act_at m p n ≡ Some (post counter number)
      → m.gathers number ≡ true → is_gathered m (act_at m p (settled m.cells (m.acts p) (n + 1)))
      ≡ true
  -- who is awaited at a barrier is a processor, and it has done the post that is awaited once it has arrived as often as the one who awaits
  pub gathered : (p n on wanted k : ℕ) → p < m.workers
      → act_at m p n ≡ Some (await counter on wanted) → m.gathers wanted ≡ true
      → (on < m.workers) × (arrivals_at m p n ≤ arrivals_at m on k
      → IsPosted (m.acts on) counter wanted k)
  -- who awaits somebody at a barrier awaits all others there
  pub awaits_all : (p q n on wanted : ℕ) → p < m.workers → q < m.workers → q ≢ p
      → act_at m p n ≡ Some (await counter on wanted) → m.gathers wanted ≡ true
      → (i : ℕ) × (act_at m p i ≡ Some (await counter q wanted))
  -- who has posted there has arrived as often as whoever awaits there
  pub arrived : (p q n on wanted k : ℕ) → p < m.workers → q < m.workers
      → act_at m p n ≡ Some (await counter on wanted) → m.gathers wanted ≡ true
      → IsPosted (m.acts q) counter wanted k → arrivals_at m p n ≤ arrivals_at m q k
  -- 64 processors arrive at most 2 ^ 40 times each, so that all arrivals are counted on one word
  pub few_workers : m.workers ≤ 64
  pub few_arrivals : (p n : ℕ) → arrivals_at m p n ≤ 2 ^ 40
  -- ---- where all end
  -- lawful cells are as many as all share, and no processor is past its end
  pub size : (cells : List ℤ) (at : ℕ → ℕ) → m.lawful cells at → length cells ≡ m.cells
  pub within : (cells : List ℤ) (at : ℕ → ℕ) (p : ℕ) → p < m.workers → m.lawful cells at
      → at p ≤ length (m.acts p)
  -- where all have ended, lawful cells are the sequential program's last memory
  pub ended : (cells : List ℤ) (at : ℕ → ℕ) → m.lawful cells at
      → ((p : ℕ) → p < m.workers → at p ≡ length (m.acts p)) → cells ≡ m.last
  -- ---- registers and lines
  -- registers are empty at first, a load appends what it gives, a store, an addition and a PRINT empty them, and posts and awaits leave them
  pub empty_first : (p : ℕ) → m.registers_at p 0 ≡ []
  pub load_appends : (p n place cell : ℕ) → act_at m p n ≡ Some (load place cell)
      → m.registers_at p (n + 1) ≡ m.registers_at p n ++ m.loaded_at p n ∷ []
  pub store_empties : (p n place cell : ℕ) → act_at m p n ≡ Some (store place cell)
      → m.registers_at p (n + 1) ≡ []
  pub add_empties : (p n place cell : ℕ) → act_at m p n ≡ Some (add place cell)
      → m.registers_at p (n + 1) ≡ []
  pub print_empties : (p n place : ℕ) → act_at m p n ≡ Some (print place)
      → m.registers_at p (n + 1) ≡ []
  pub post_leaves : (w : Word) (p n number : ℕ) → act_at m p n ≡ Some (post w number)
      → m.registers_at p (n + 1) ≡ m.registers_at p n
  pub await_leaves : (w : Word) (p n on wanted : ℕ) → act_at m p n ≡ Some (await w on wanted)
      → m.registers_at p (n + 1) ≡ m.registers_at p n
  -- nothing is printed at first, only PRINTs print, only processor 0 has any, and behind its last act it has printed the whole output
  pub printed_first : (p : ℕ) → m.printed_at p 0 ≡ []
  pub printed_leaves : (p n : ℕ) (a : Act) → act_at m p n ≡ Some a → is_print a ≡ false
      → m.printed_at p (n + 1) ≡ m.printed_at p n
  pub prints_of_first : (p n place : ℕ) → p < m.workers → act_at m p n ≡ Some (print place) → p ≡ 0
  pub printed_whole : m.printed_at 0 (length (m.acts 0)) ≡ m.output
