-- A marked slot moves down, and another is passed over.
use Rattle.std.proofs.Common.{◌∙◌, arith}
use Rattle.store.proofs.Sliding.{slide_skip, slide_step}
use Rattle.store.proofs.collect.slide.Goals as goal
use Rattle.store.proofs.collect.slide.Goals.{then-get-ne0, else-get-ne0}

pub loop-i-preserved : goal.loop-i-preserved
loop-i-preserved c =
    let vs = c.args.ws.now in let i = c.loop-i.i in let ws = c.loop-i.ws in let n = c.loop-i.n in
    elim c.if-get-ne0.branch [
      | then-get-ne0 w ↦ simp (w.ws-is, w.n-is) (
          slide_step vs c.args.count c.requires.shared.0 c.requires.shared.1.0 i ws n c.loop-i.invariant.0 (omega arith)
          (λ z. w.if-get-ne0.true (c.get.ensures ∙ z)) w.translated-key.result w.translated-key.ensures c.args.mask
          w.push.new.ws w.put.new.ws w.push.ensures w.put.ensures (omega arith) (omega arith) (omega arith)
          c.loop-i.invariant.1)
      | else-get-ne0 w ↦ simp (w.ws-is, w.n-is) (slide_skip vs i ws n c.loop-i.invariant.0 (omega arith), c.loop-i.invariant.1)
    ]
