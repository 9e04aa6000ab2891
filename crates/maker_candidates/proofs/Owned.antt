-- What all producers in front of a phase have.
use Rattle.std.proofs.Common.{◌≡◌, ℕ, true, List, [], ◌∷◌, Option, Some, None, refl}
use Rattle.std.specs.Prelude.{slice_get}
use Rattle.std.specs.List.{AllByRecursion, cons_option}
use Rattle.nest_tree.specs.declared.tree.Access.{Access}
use Rattle.nest_tree.specs.Tree.{Tree, param_values}
use Rattle.nest_walk.specs.Tables.{Loaded, element, array}
use Rattle.owner_partition.specs.declared.anchor.Anchor.{Anchor}
use Rattle.owner_partition.specs.declared.cut.Mark.{Mark}
use Rattle.conflict_rules.specs.References.{Reference, StaticPhase, references_of}
use Rattle.maker_anchors.specs.Anchors.{element_owner}
use Rattle.maker_candidates.specs.Candidates.{accessed_owner, accessed_owners, can_produce, producers_at, phase_owners, round}
use Rattle.maker_candidates.proofs.Once.{once_all, owners_all}

module _ (tree : Tree) (marks : List Mark) (workers u : ℕ) (t : StaticPhase) (P : Anchor → Type 0) where
  accessed-one : (o : Option Anchor) (rest : List Anchor) → ((a : Anchor) → o ≡ Some a → P a) → AllByRecursion P rest → AllByRecursion P (cons_option o rest)
  accessed-one None rest here later = later
  accessed-one (Some a) rest here later = (here a refl, later)

  accessed-what : ((x : Access) (a : Anchor) → element_owner tree marks workers u (round t) x ≡ Some a → P a) → (what : Loaded) (a : Anchor) → accessed_owner tree marks workers u t what ≡ Some a → P a
  accessed-what each (element x) a e = each x a e
  accessed-what each (array variable) a e = absurd (cc)

  accessed-all : ((x : Access) (a : Anchor) → element_owner tree marks workers u (round t) x ≡ Some a → P a) → (references : List Reference) → AllByRecursion P (accessed_owners tree marks workers u t references)
  accessed-all each [] = tt
  accessed-all each (r ∷ references) = accessed-one (accessed_owner tree marks workers u t r.what) (accessed_owners tree marks workers u t references) (accessed-what each r.what) (accessed-all each references)

  -- each is the anchor of a phase that can produce, or the owner of an element
  pub producers_all : (anchors : List Anchor) (phases : List StaticPhase) → ((j : ℕ) (s : StaticPhase) (a : Anchor) → slice_get phases j ≡ Some s → slice_get anchors j ≡ Some a → can_produce s a t ≡ true → P a) →
      ((x : Access) (a : Anchor) → element_owner tree marks workers u (round t) x ≡ Some a → P a) → AllByRecursion P (producers_at tree marks workers anchors phases u t)
  producers_all anchors phases owned accessed =
      let values = param_values tree in
      once_all values workers P _ (accessed_owners tree marks workers u t (references_of t)) (once_all values workers P [] (phase_owners t phases anchors) tt (owners_all values workers t P phases anchors owned)) (accessed-all accessed (references_of t))
