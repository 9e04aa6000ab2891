use Rattle.std.proofs.Common.{refl, sym}
use Rattle.f77_forms.specs.View.{statement_of}
use Rattle.f77_source.proofs.Texts.{reading_found, reading_refused}
use Rattle.f77_source.proofs.source.reading_of.Goals as goal

pub returns-in-Ok : goal.returns-in-Ok
returns-in-Ok c = sym (reading_found c.args.text.now (statement_of c.in-Ok.statement) c.in-Ok.ensures.found)

pub returns-in_default : goal.returns-in_default
returns-in_default c = sym (reading_refused c.args.text.now c.in-Err.fault (c.in-Err.ensures.refused c.in-Err.fault refl c.in_default.not-NoMemory))
