-- Placed anchors as plain data.
use Rattle.std.specs.Prelude.{ℕ, ◌+◌, ◌*◌, ◌^◌, Bool, ◌&&◌, nat_lt, pos, [], ◌∷◌, ◌++◌, length}
use Rattle.nest_rows.specs.Views.{heads_of}
use Rattle.nest_rows.specs.declared.constraint.Constraint.{Constraint}
use Rattle.nest_rows.specs.declared.constraint.Sign.{Sign}
use Rattle.nest_rows.specs.Places.{terms_of}
use Rattle.nest_rows.specs.Signs.{flipped, signed, with_sign}
use Rattle.sync_plan.specs.Shape.{has_places}
use Rattle.comm_system.specs.OwnerRows.{Placed}
use Rattle.comm_system.specs.declared.owner_rows.Placed.{Placed as Held}

abbrev pub placed_seen : Held → Placed
placed_seen p = record { anchor = p.anchor.now; first = p.first; around = heads_of p.around.now }

-- there are numbers for the loops' unknowns, and its block has 1 to 2147483647 places
abbrev pub fits_owner : Held → Bool
fits_owner p = nat_lt (p.first + 2 * length p.around.now) (2 ^ 32) && has_places p.anchor.now.dist

-- the value of an anchor's form less that of a round and an owner, with this sign, is at most 0
abbrev pub dealt_of : Sign → ℕ → ℕ → Placed → Constraint
dealt_of sign q workers p = record {
  terms = with_sign sign (terms_of p.first p.around p.anchor.form)
      ++ (q + 1, signed (flipped sign) (pos workers)) ∷ (q, signed (flipped sign) (pos 1)) ∷ [];
  bound = signed (flipped sign) p.anchor.form.constant;
}
