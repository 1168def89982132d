-- The four words are the frame.
use Rattle.std.proofs.Common.{refl, arith}
use Rattle.engine.specs.Frames.{asked_in}
use Rattle.engine.proofs.Framing.{words_put}
use Rattle.engine.proofs.types.Frames.put.Goals as goal

pub returns : goal.returns
returns c =
    let f = c.args.frame in let w = c.asked_word-asked.result in
    record {
      kept = asked_in w;
      asked = c.asked_word-asked.ensures;
      words = words_put c.args.self.now.words.now c.copy_from_slice.new.self c.args.d _ f.sign f.others f.done w (omega arith)
          c.copy_from_slice.ensures.after (omega arith);
      depth = refl;
      fresh = refl;
    }
