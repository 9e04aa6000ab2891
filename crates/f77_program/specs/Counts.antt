-- How many of a statement's first expressions have to be affine.
use Rattle.std.specs.Prelude.{ℕ, ◌+◌, length}
use Rattle.f77_forms.specs.Form.{StatementForm, do_loop, assign, logical_if}
use Rattle.f77_scene.specs.Expressions.{list_of}

abbrev pub affine_count : StatementForm → ℕ
affine_count (do_loop d) = 2
affine_count (assign a) = length (list_of a.target.arguments)
affine_count (logical_if c a) = 2 + length (list_of a.target.arguments)
affine_count f = 0
