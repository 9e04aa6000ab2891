use Rattle.std.proofs.Common.{map}
use Rattle.f77_source.specs.Sources.{setting_of}
use Rattle.plan_tool.proofs.Untold.{memory_error}
use Rattle.plan_tool.proofs.systems.systems_in.Goals as goal

pub returns-clause-refused : goal.returns-clause-refused
returns-clause-refused g c = memory_error c.args.subject c.args.bytes.now (map setting_of c.args.settings.now)
