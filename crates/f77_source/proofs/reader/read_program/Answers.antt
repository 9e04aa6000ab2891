use Rattle.std.proofs.Common.{map}
use Rattle.f77_lines.specs.Listing.{entry_of}
use Rattle.f77_source.specs.Sources.{setting_of}
use Rattle.f77_source.proofs.Listed.{formed_listed, reads_listed, refuses_listed}
use Rattle.f77_source.proofs.reader.read_program.Goals as goal

pub returns-clause-reads : goal.returns-clause-reads
returns-clause-reads c = λ bytes rest l. reads_listed bytes (map entry_of c.args.lines.now) rest (map setting_of c.args.settings.now) c.read.result l c.read.ensures.program

pub returns-clause-first_fault : goal.returns-clause-first_fault
returns-clause-first_fault c = λ bytes rest l. refuses_listed bytes (map entry_of c.args.lines.now) rest (map setting_of c.args.settings.now) c.read.result l c.read.ensures.refused

pub returns-clause-formed : goal.returns-clause-formed
returns-clause-formed c = λ bytes rest l. formed_listed bytes (map entry_of c.args.lines.now) rest (map setting_of c.args.settings.now) c.read.result l c.read.ensures.program c.read.ensures.values
