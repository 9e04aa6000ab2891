-- A processor that goes on alone, over its own stores.
use Rattle.std.proofs.Common.{◌≡◌, ℕ, ◌+◌, ◌<◌, ℤ, true, List, [], set, Some, sym, ◌∙◌, ap, subst, arith}
use Rattle.nest_model.specs.Memory.{cell_value}
use Rattle.spmd_model.specs.Lawful.{Moves, put}
use Rattle.spmd_model.specs.Quiet.{is_quiet}
use Rattle.spmd_model.specs.Acts.{Act, load, print, store}
use Rattle.spmd_model.specs.Laws.{Laws}
use Rattle.spmd_model.specs.Protocols.{Protocol, act_at}
use Rattle.spmd_model.proofs.Places.{put_moves}
use Rattle.fork_join.specs.Joins.{Goes}
use Rattle.fork_join.specs.Overlays.{laid_in}
use Rattle.fork_join.proofs.Crossing.{onwards, stays}

module _ (m : Protocol) (laws : Laws m) (p from : ℕ) (inside : p < m.workers) where
  pub goes_none : Goes m p from [] from
  goes_none memory at after lawful is moves = stays m memory at after p from is moves lawful

  -- in front of its act n
  module _ (stores : List (ℕ × ℤ)) (n : ℕ) (goes : Goes m p from stores n) where
    there : (at : ℕ → ℕ) → put at p n p ≡ n
    there at = (put_moves at p n).here

    further : (at after : ℕ → ℕ) → Moves at after p (n + 1) → Moves (put at p n) after p (put at p n p + 1)
    further at after moves = let next : n + 1 ≡ put at p n p + 1 = omega (arith, there at) in subst (Moves (put at p n) after p) next (onwards at after p n (n + 1) moves)

    pub goes_load : (place cell : ℕ) → act_at m p n ≡ Some (load place cell) → Goes m p from stores (n + 1)
    goes_load place cell act memory at after lawful is moves =
        laws.by_load (laid_in stores memory) (put at p n) after p place cell inside (goes memory at (put at p n) lawful is (put_moves at p n)) (ap (act_at m p) (there at) ∙ act) (further at after moves)

    pub goes_print : (place : ℕ) → act_at m p n ≡ Some (print place) → Goes m p from stores (n + 1)
    goes_print place act memory at after lawful is moves =
        laws.by_print (laid_in stores memory) (put at p n) after p place inside (goes memory at (put at p n) lawful is (put_moves at p n)) (ap (act_at m p) (there at) ∙ act) (further at after moves)

    pub goes_quiet : (a : Act) → act_at m p n ≡ Some a → is_quiet m.cells a ≡ true → Goes m p from stores (n + 1)
    goes_quiet a act quiet memory at after lawful is moves =
        laws.by_quiet (laid_in stores memory) (put at p n) after p a inside (goes memory at (put at p n) lawful is (put_moves at p n)) (ap (act_at m p) (there at) ∙ act) quiet (further at after moves)

    pub goes_store : (new : List (ℕ × ℤ)) (place cell : ℕ) (v : ℤ) → act_at m p n ≡ Some (store place cell) → cell < m.cells → v ≡ m.stored_at p n → ((memory : List ℤ) → laid_in new memory ≡ set (laid_in stores memory) cell v) → Goes m p from new (n + 1)
    goes_store new place cell v act small value laid memory at after lawful is moves =
        let stored = laws.by_store (laid_in stores memory) (put at p n) after p place cell inside (goes memory at (put at p n) lawful is (put_moves at p n)) (ap (act_at m p) (there at) ∙ act) small (further at after moves) in
        subst (λ (cells : List ℤ). m.lawful cells after) (sym (laid memory ∙ ap (set (laid_in stores memory) cell) (value ∙ ap (m.stored_at p) (sym (there at))))) stored

    pub gives_load : (memory : List ℤ) (at : ℕ → ℕ) (place cell : ℕ) → m.lawful memory at → at p ≡ from → act_at m p n ≡ Some (load place cell) → cell < m.cells → cell_value (laid_in stores memory) cell ≡ m.loaded_at p n
    gives_load memory at place cell lawful is act small =
        laws.gives (laid_in stores memory) (put at p n) p place cell inside (goes memory at (put at p n) lawful is (put_moves at p n)) (ap (act_at m p) (there at) ∙ act) small ∙ ap (m.loaded_at p) (there at)
