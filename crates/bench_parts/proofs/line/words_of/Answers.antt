use Rattle.std.proofs.Common.{rules, tests, length, nat_lt}
use Rattle.std.proofs.lemmas.Iterator.Consumers.{map_from_collect, YieldsList-from_filter, YieldsList-at}
use Rattle.std.proofs.lemmas.Iterator.Splits.{YieldsList-from_slice_split}
use Rattle.bench_parts.specs.Lines as spec
use Rattle.bench_parts.proofs.line.words_of.Goals as goal

pub returns : goal.returns
returns c =
    map_from_collect _ c.collect.ensures.ran (YieldsList-from_filter _ (λ word. nat_lt 0 (length word)) (YieldsList-at c.filter.ensures.source (YieldsList-from_slice_split _ spec.is_blank c.args.bytes.now c.split.ensures.rest c.split.ensures.done c.split.ensures.closure (λ x r q k. search (rules, tests)))) c.filter.ensures.closure (λ x r q k. search (rules, tests)))
