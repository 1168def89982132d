-- No replacement, or what the comparison tells.
use Rattle.std.proofs.Common.{arith}
use Rattle.engine.proofs.Keeping.{down_in}
use Rattle.overlaps.proofs.Judging.{never_joined, roots_two, says}
use Rattle.overlaps.proofs.ends.results_meet.Goals as goal

pub returns-in_default-critical_pair-clause-result : goal.returns-in_default-critical_pair-clause-result
returns-in_default-critical_pair-clause-result c n a = never_joined c.in-Some.ensures c.in_default-critical_pair.ensures

pub compare-requires : goal.compare-requires
compare-requires c = roots_two c.in-Some.ensures (down_in c.args.reducer.now) c.in-Some-critical_pair.ensures c.stack.ensures
    c.stack-2.ensures (omega (arith, c.requires.room.1.cells)) _

pub returns-clause-result : goal.returns-clause-result
returns-clause-result c n = says c.in-Some.ensures (down_in c.args.reducer.now) c.in-Some-critical_pair.ensures c.stack.ensures
    c.stack-2.ensures (omega (arith, c.requires.room.1.cells)) _ n c.compare.result (c.compare.ensures.result n)
