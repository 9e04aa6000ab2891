use Rattle.std.proofs.Common.{Result, subst}
use Rattle.f77_forms.specs.declared.fault.TextFault.{TextFault}
use Rattle.f77_forms.specs.declared.form.Statement.{Statement}
use Rattle.f77_source.specs.Sources.{reading_view}
use Rattle.f77_source.specs.Stages.{AreWithin}
use Rattle.f77_source.proofs.walk.add_source.Goals as goal

pub add-requires-clause-affine : goal.add-requires-clause-affine
add-requires-clause-affine c = subst (λ (r : Result Statement TextFault). AreWithin c.args.known.now (reading_view r)) c.in-Ok.is c.requires.affine
