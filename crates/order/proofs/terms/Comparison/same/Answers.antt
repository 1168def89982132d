-- By the terms' words.
use Rattle.std.proofs.lemmas.Bool.Decides.{Decides-eqb}
use Rattle.std.proofs.lemmas.Slice.Eq.{slice_eq-Decides}
use Rattle.order.proofs.Comparing.{same_words}
use Rattle.order.proofs.terms.Comparison.same.Goals as goal

pub returns : goal.returns
returns c = same_words c.args.self.now c.args.k c.args.j (slice_eq-Decides Decides-eqb) c.term.result c.term-2.result
    c.term.ensures c.term-2.ensures c.eq.result c.eq.ensures
