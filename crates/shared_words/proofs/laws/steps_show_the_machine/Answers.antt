use Rattle.spmd_model.specs.PlanProtocols.{protocol_by}
use Rattle.shared_words.proofs.Steps.{load_step, store_step, add_step, post_step, poll_step, miss_step, arrive_step, row_step}
use Rattle.shared_words.proofs.Taking.{opens, splits, joins, spares}
use Rattle.shared_words.proofs.WordSteps.{apart}
use Rattle.shared_words.proofs.laws.steps_show_the_machine.Goals as goal

pub returns : goal.returns
returns c = record {
  first = λ style tree plan laws. opens (protocol_by style tree plan) laws;
  load = λ style tree plan laws words roles one seat p n misses seen place cell there next inside. load_step (protocol_by style tree plan) laws words roles one seat p n misses seen there place cell next inside;
  store = λ style tree plan laws words roles one seat p n misses seen place cell word there next inside is. store_step (protocol_by style tree plan) laws words roles one seat p n misses seen there place cell word next inside is;
  add = λ style tree plan laws words roles one seat p n misses seen place cell word there next inside is. add_step (protocol_by style tree plan) laws words roles one seat p n misses seen there place cell word next inside is;
  post = λ style tree plan laws words roles one w seat p n misses seen number there next plain. post_step (protocol_by style tree plan) laws words roles one seat p n misses seen there w number next plain;
  poll = λ style tree plan laws words roles one w seat p n misses seen on wanted there next plain come. poll_step (protocol_by style tree plan) laws words roles one seat p n misses seen there w on wanted next plain come;
  miss = λ style tree plan laws words roles one seat p n misses seen found there. miss_step (protocol_by style tree plan) laws words roles one seat p n misses seen there found;
  arrive = λ style tree plan laws words roles one seat p n misses seen number there next joint. arrive_step (protocol_by style tree plan) laws words roles one seat p n misses seen there number next joint;
  gather = λ style tree plan laws words roles one seat p n misses seen there come. row_step (protocol_by style tree plan) laws words roles one seat p n misses seen there come;
  split = λ style tree plan laws words roles one seat p stages there idle. splits (protocol_by style tree plan) words roles one seat p stages there idle;
  take_in = λ style tree plan laws words roles one seat other p n misses seen stages there away end theirs. joins (protocol_by style tree plan) words roles one seat p n misses seen other stages end there away theirs;
  spare = λ style tree plan laws words roles one. spares (protocol_by style tree plan) words roles one;
  apart = λ style tree plan laws words roles one p q lp lq. apart (protocol_by style tree plan) words one.at p q lp lq one.shown.gathered;
}
