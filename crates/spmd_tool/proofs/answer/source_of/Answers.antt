use Rattle.std.proofs.Common.{sym, ◌∙◌, true≢false}
use Rattle.spmd_tool.proofs.Answering.{own-short, own-source, read-source, reads-other}
use Rattle.spmd_tool.proofs.answer.source_of.Goals as goal

pub returns-in_ok-bench_source-in-Bench-clause-bytes : goal.returns-in_ok-bench_source-in-Bench-clause-bytes
returns-in_ok-bench_source-in-Bench-clause-bytes g c = own-source c.args.request.now _ _ _ c.in-Bench.is c.in_ok-bench_source-in-Bench.ensures

pub returns-in_ok-bench_source-in-Bench-clause-short : goal.returns-in_ok-bench_source-in-Bench-clause-short
returns-in_ok-bench_source-in-Bench-clause-short g c = own-short c.args.request.now _ _ c.requires c.in-Bench.is c.in_ok-bench_source-in-Bench.ensures

pub returns-in_default-clause-bytes : goal.returns-in_default-clause-bytes
returns-in_default-clause-bytes g c = read-source c.args.request.now _ _ (λ bytes. bytes.items) c.read_all.result c.in_default.not-Bench c.read_all.ensures.read c.read_all.ensures.end

pub returns-in_default-clause-unread : goal.returns-in_default-clause-unread
returns-in_default-clause-unread g c = λ none. absurd (true≢false (sym (reads-other c.args.request.now c.in_default.not-Bench) ∙ none))

pub returns-in_default-clause-reads : goal.returns-in_default-clause-reads
returns-in_default-clause-reads g c = λ fault. reads-other c.args.request.now c.in_default.not-Bench

pub returns-in_default-clause-long : goal.returns-in_default-clause-long
returns-in_default-clause-long g c = λ long. (reads-other c.args.request.now c.in_default.not-Bench, c.read_all.ensures.long long)
