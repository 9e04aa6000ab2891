use Rattle.spmd_model.specs.PlanProtocols.{protocol_by}
use Rattle.shared_words.proofs.Vain.{in_vain, row_in_vain, within}
use Rattle.shared_words.proofs.laws.misses_are_in_vain.Goals as goal

pub returns : goal.returns
returns c = record {
  poll = λ style tree plan laws. in_vain (protocol_by style tree plan) laws;
  row = λ style tree plan laws. row_in_vain (protocol_by style tree plan) laws;
  within = λ style tree plan laws. within (protocol_by style tree plan);
}
