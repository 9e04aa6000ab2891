-- The state as plain data.
use Rattle.f77_forms.specs.Reading.{StateForm}
use Rattle.f77_forms.specs.State.{levels_of, level_of, operand_of}
use Rattle.f77_forms.specs.declared.reader.Place.{Place}
use Rattle.f77_forms.specs.declared.state.Operand.{Operand}

abbrev pub state_of : Place → Operand → StateForm
state_of p x =
    record { outer = levels_of p.outer.items; level = level_of p.level; operand = operand_of x }
