use Rattle.std.proofs.Common.{◌≡◌, map, drop, reverse}
use Rattle.f77_source.specs.Forms.{form_at}
use Rattle.f77_source.proofs.form.forms_in.Given as goal

abbrev pub invariant-loop-place : goal.invariant-loop-place
invariant-loop-place l = l.forms ≡ map form_at (reverse (drop l.place l.measures))
