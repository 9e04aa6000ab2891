-- The numbers that a loop's trip count is computed from, where a walk stops.
use Rattle.std.specs.Prelude.{ℤ, ◌+ℤ◌, ◌-ℤ◌, Bool, true, ◌&&◌, nat_lt, List}
use Rattle.nest_tree.specs.Form.{form_value}
use Rattle.nest_tree.specs.Tree.{Statement, do_loop, work, continue}
use Rattle.nest_tree.specs.WellFormed.{is_value}
use Rattle.nest_model.specs.Instances.{trip_count}

-- m2 - m1 + m3 has 64 bits, and there are fewer than 2 ^ 32 trips
abbrev pub fit_trips : ℤ → ℤ → ℤ → Bool
fit_trips m1 m2 m3 = is_value (m2 -ℤ m1 +ℤ m3) && nat_lt (trip_count m1 m2 m3) 4294967296

-- at a stop that is a loop
abbrev pub fits_at : List ℤ → Statement → List ℤ → Bool
fits_at params (do_loop head body) loops =
    fit_trips (form_value head.m1 loops params) (form_value head.m2 loops params) head.step
fits_at params (work w) loops = true
fits_at params (continue line) loops = true
