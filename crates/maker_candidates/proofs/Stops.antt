-- The static phases in either form.
use Rattle.std.proofs.Common.{◌≡◌, ℕ, Bool, true, false, List, [], ◌∷◌, ◌++◌, append_assoc, map, reverse, Some, if◌then◌else◌, refl, ap, sym, ◌∙◌}
use Rattle.std.specs.Prelude.{slice_get}
use Rattle.std.proofs.lemmas.List.{append-nil, map-append, reverse-append}
use Rattle.nest_tree.specs.Tree.{Head, Statement, Statements, do_loop, work, continue, done, next, Tree}
use Rattle.nest_walk.specs.Texts.{Placed, placed, placed_in, placed_of}
use Rattle.owner_partition.specs.declared.cut.Mark.{Mark}
use Rattle.owner_partition.specs.Marks.{enters_outer}
use Rattle.conflict_rules.specs.References.{StaticPhase, phases_of}
use Rattle.comm_system.proofs.Lists.{mapped_get}
use Rattle.comm_system.proofs.Stations.{inside, phases-text, text_among, text_of}
use Rattle.maker_candidates.specs.Candidates.{round}

-- the numbers of loops, the innermost first, in front of those round them
abbrev pub inward : List Head → List ℕ → List ℕ
inward [] around = around
inward (h ∷ hs) around = inward hs (h.number ∷ around)

-- a static phase with the numbers of the loops round it, inside others
abbrev pub stop : List ℕ → StaticPhase → Placed
stop around p = record { what = p.what; around = inward p.outer around }

stop-inside : (around : List ℕ) (h : Head) (ps : List StaticPhase) → map (stop around) (map (inside h) ps) ≡ map (stop (h.number ∷ around)) ps
stop-inside around h [] = refl
stop-inside around h (p ∷ ps) = ap (λ rest. stop (h.number ∷ around) p ∷ rest) (stop-inside around h ps)

module _ (enters : ℕ → Bool) where
  mutual
    stops-are_in : (around : List ℕ) (s : Statement) → placed_in enters around s ≡ map (stop around) (text_of enters s)
    stops-are_in around (do_loop head body) =
        elim (enters head.number) as (λ b. (if b then placed_of enters (head.number ∷ around) body else record { what = do_loop head body; around = around } ∷ []) ≡ map (stop around) (if b then map (inside head) (text_among enters body) else record { what = do_loop head body; outer = [] } ∷ [])) [
          | true ↦ stops-are (head.number ∷ around) body ∙ sym (stop-inside around head (text_among enters body))
          | false ↦ refl
        ]
    stops-are_in around (work w) = refl
    stops-are_in around (continue line) = refl

    pub stops-are : (around : List ℕ) (ss : Statements) → placed_of enters around ss ≡ map (stop around) (text_among enters ss)
    stops-are around done = refl
    stops-are around (next s rest) =
        ap (λ ps. ps ++ placed_of enters around rest) (stops-are_in around s) ∙ ap (λ ps. map (stop around) (text_of enters s) ++ ps) (stops-are around rest)
        ∙ sym (map-append (stop around) (text_of enters s) (text_among enters rest))

-- those round a phase, outside all others
inward-is : (hs : List Head) (around : List ℕ) → inward hs around ≡ reverse (map (λ (h : Head). h.number) hs) ++ around
inward-is [] around = refl
inward-is (h ∷ hs) around =
    let numbers = map (λ (g : Head). g.number) hs in
    inward-is hs (h.number ∷ around) ∙ sym (ap (λ xs. xs ++ around) (reverse-append (h.number ∷ []) numbers) ∙ append_assoc (reverse numbers) (h.number ∷ []) around)

pub round_is : (s : StaticPhase) → inward s.outer [] ≡ round s
round_is s = inward-is s.outer [] ∙ append-nil (round s)

-- the phase at a place
pub placed_at : (tree : Tree) (marks : List Mark) (k : ℕ) (s : StaticPhase) → slice_get (phases_of tree marks) k ≡ Some s → slice_get (placed tree (enters_outer marks)) k ≡ Some (record { what = s.what; around = round s })
placed_at tree marks k s at =
    let text = text_among (enters_outer marks) tree.items in
    let there = ap (λ ps. slice_get ps k) (sym (phases-text (enters_outer marks) tree.items)) ∙ at in
    ap (λ ps. slice_get ps k) (stops-are (enters_outer marks) [] tree.items) ∙ mapped_get (stop []) text k s there ∙ ap (λ (ls : List ℕ). Some (record { what = s.what; around = ls })) (round_is s)
