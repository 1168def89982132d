-- The work words are ample for terms of as many parts as their number allows.
use Rattle.std.proofs.Common.{length, subst}
use Rattle.books.specs.Books.{told}
use Rattle.engine.specs.Meeting.{most_parts}
use Rattle.engine.specs.Working.{SharedOut}
use Rattle.calls.proofs.Through.{words_answer}
use Rattle.calls.proofs.rows.in_words.Goals as goal

pub returns : goal.returns
returns c =
    let shared = subst (SharedOut (length c.args.work.now)) c.in_ok-work.ensures.ok_part c.share_out.ensures in
    words_answer (told c.args.rules.now.book) c.args.term.now (length c.args.work.now) (length c.args.out.now)
    c.through.new.out c.through.result (c.through.ensures (most_parts (length c.args.work.now)) shared.1.ample)
