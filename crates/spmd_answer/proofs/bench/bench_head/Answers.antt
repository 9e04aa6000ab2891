use Rattle.std.proofs.Common.{rules, append_assoc, append-nil}
use Rattle.spmd_answer.proofs.bench.bench_head.Goals as goal

pub returns : goal.returns
returns c =
    let counts = rw (c.words.ensures, c.as_slice.ensures) at c.in_ok-put_counts.ensures in
    search (rules, counts, append_assoc, append-nil)
